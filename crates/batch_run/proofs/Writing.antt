-- Blocks written one after another.
use Rattle.std.proofs.Common.{◌≡◌, ◌≢◌, ℕ, ◌+◌, ◌<◌, ◌≤◌, List, [], ◌∷◌, ◌++◌, length, refl, sym, ap, subst, ◌∙◌, arith, ⊎_elim, append-nil, append_assoc, length-append}
use Rattle.std.specs.Prelude.{Option, Result, Ok, Err, OnOk, ◌%◌, slice_index_or}
use Rattle.std.specs.Io.KnownBytes.{Appends}
use Rattle.std.proofs.KnownBytes.{Appends-nil}
use Rattle.std.proofs.lemmas.Nat.{mod_below}
use Rattle.std.specs.List.{flat_map}
use Rattle.std.proofs.lemmas.Bool.{eq-eqb, ne_eqb, cases_eq}
use Rattle.std.proofs.lemmas.Grind.{flat_map-append}
use Rattle.scene_ports.specs.Output.{GivesFront, GivesAllBut}
use Rattle.scene_ports.proofs.Giving.{all_but_line, all_but_then, all_but_then_front, all_but_end, front_within}
use Rattle.implicit_tiling.specs.Files.{Files}
use Rattle.implicit_tiling.specs.Scene.{Layout}
use Rattle.batch_blocks.specs.declared.reply.Reply.{Reply}
use Rattle.batch_blocks.specs.Workers.{worker_of, kept_where, of_worker}
use Rattle.batch_blocks.specs.Replies.{reply_text, IsOfLayout, AreRepliesTo}
use Rattle.batch_blocks.proofs.Replies.{as_many}
use Rattle.batch_run.specs.Desks.{DeskSeen, Viewed}
use Rattle.batch_run.specs.Batches.{HasReplies, SameButReplies}

-- Of the replies to all lines of a round, so many were written, but for what is held back, and the others lie at the
-- desks of their workers
pub record IsWriting {S P W : Type 0} (scene : Viewed P) (lines : List (List ℕ)) (old now : List (DeskSeen S P W)) (place : ℕ) (before given : Option (List ℕ)) (held : List ℕ) : Type 0 where
  pub written : List Reply
  pub left : List Reply
  pub has : HasReplies scene lines old (written ++ left)
  pub count : length written ≡ place
  pub at_desks : (w : ℕ) (d : DeskSeen S P W) → w < length old → (slice_index_or now w d).replies ≡ of_worker (length old) w place left
  pub text : GivesAllBut before given held (flat_map (reply_text scene.layout) written)

some_left : (xs : List Reply) → 0 < length xs → (r : Reply) × (rest : List Reply) × (xs ≡ r ∷ rest)
some_left [] some = absurd (omega (arith, some))
some_left (r ∷ rest) some = (r, rest, refl)

-- a reply among the replies to some lines is of the layout
among_replies : (told : Option Files) (layout : Layout) (lines : List (List ℕ)) (front : List Reply) (r : Reply) (rest : List Reply) → AreRepliesTo told layout lines (front ++ r ∷ rest)
    → IsOfLayout layout r
among_replies told layout [] [] r rest each = absurd each
among_replies told layout (l ∷ ls) [] r rest each = each.0.of_layout
among_replies told layout [] (x ∷ xs) r rest each = absurd each
among_replies told layout (l ∷ ls) (x ∷ xs) r rest each = among_replies told layout ls xs r rest each.1

no_items : (xs : List Reply) → length xs ≡ 0 → xs ≡ []
no_items [] none = refl
no_items (x ∷ xs) none = absurd (omega (arith, none))

-- some desk, where there is one
pub some_desk : {S P W : Type 0} (desks : List (DeskSeen S P W)) → 1 ≤ length desks → DeskSeen S P W
some_desk [] some = absurd (omega (arith, some))
some_desk (d ∷ ds) some = d

front_of : (x y : Reply) (xs ys : List Reply) → x ∷ xs ≡ y ∷ ys → (x ≡ y) × (xs ≡ ys)
front_of x y xs ys same = (cc, cc)

-- the next of the replies that are left
next_left : (told : Option Files) (layout : Layout) (lines : List (List ℕ)) (written left : List Reply) (place : ℕ) → AreRepliesTo told layout lines (written ++ left) → length written ≡ place
    → place < length lines → (r : Reply) × (rest : List Reply) × (left ≡ r ∷ rest)
next_left told layout lines written left place each count low =
    some_left left (omega (arith, as_many told layout lines (written ++ left) each, length-append written left, count, low))

-- the queue of the worker of the line at hand, and of another
own_queue : (workers place own : ℕ) (r : Reply) (rest : List Reply) → worker_of workers place ≡ own
    → of_worker workers own place (r ∷ rest) ≡ r ∷ of_worker workers own (place + 1) rest
own_queue workers place own r rest is = ap (λ b. kept_where b r (of_worker workers own (place + 1) rest)) (eq-eqb (worker_of workers place) own is)

other_queue : (workers place w : ℕ) (r : Reply) (rest : List Reply) → worker_of workers place ≢ w
    → of_worker workers w place (r ∷ rest) ≡ of_worker workers w (place + 1) rest
other_queue workers place w r rest not = ap (λ b. kept_where b r (of_worker workers w (place + 1) rest)) (ne_eqb (worker_of workers place) w not)

module _ {S P W : Type 0} (scene : Viewed P) (lines : List (List ℕ)) (old : List (DeskSeen S P W)) (before : Option (List ℕ)) where
  abbrev pub Writing : List (DeskSeen S P W) → ℕ → Option (List ℕ) → List ℕ → Type 0
  Writing now place given held = IsWriting scene lines old now place before given held

  pub begin_writing : (replies : List Reply) (held : List ℕ) → HasReplies scene lines old replies → held ≡ [] → Writing old 0 before held
  begin_writing replies held has none = record {
    written = [];
    left = replies;
    has = has;
    count = refl;
    at_desks = has.at_desks;
    text = subst (λ h. GivesAllBut before before h []) (sym none) ([], refl, Appends-nil before);
  }

  -- the worker of the line at hand has a reply
  pub has_next : (now : List (DeskSeen S P W)) (place own : ℕ) (given : Option (List ℕ)) (held : List ℕ) → Writing now place given held → place < length lines → 0 < length old
      → own ≡ worker_of (length old) place → (d : DeskSeen S P W) → 0 < length (slice_index_or now own d).replies
  has_next now place own given held w low some is d =
      let next = next_left scene.told scene.layout lines w.written w.left place w.has.each w.count low in
      let within : own < length old = subst (λ v. v < length old) (sym is) (mod_below (place % 64) (length old) some) in
      let queue : (slice_index_or now own d).replies ≡ next.0 ∷ of_worker (length old) own (place + 1) next.1 =
      w.at_desks own d within ∙ ap (of_worker (length old) own place) next.2 ∙ own_queue (length old) place own next.0 next.1 (sym is) in
      omega (arith, ap (λ q. length q) queue)

  -- that reply is the next one, and of the layout
  pub next_is : (now mid : List (DeskSeen S P W)) (place own : ℕ) (given : Option (List ℕ)) (held : List ℕ) (reply : Reply) (w : Writing now place given held) → place < length lines → 0 < length old
      → own ≡ worker_of (length old) place → ((d : DeskSeen S P W) → (slice_index_or now own d).replies ≡ reply ∷ (slice_index_or mid own d).replies)
      → (rest : List Reply) × (w.left ≡ reply ∷ rest) × IsOfLayout scene.layout reply × ((d : DeskSeen S P W) → (slice_index_or mid own d).replies ≡ of_worker (length old) own (place + 1) rest)
  next_is now mid place own given held reply w low some is taken =
      let next = next_left scene.told scene.layout lines w.written w.left place w.has.each w.count low in
      let within : own < length old = subst (λ v. v < length old) (sym is) (mod_below (place % 64) (length old) some) in
      let both : (d : DeskSeen S P W) → (reply ≡ next.0) × ((slice_index_or mid own d).replies ≡ of_worker (length old) own (place + 1) next.1) =
      λ d. front_of reply next.0 (slice_index_or mid own d).replies (of_worker (length old) own (place + 1) next.1)
      (sym (taken d) ∙ w.at_desks own d within ∙ ap (of_worker (length old) own place) next.2 ∙ own_queue (length old) place own next.0 next.1 (sym is)) in
      let left : w.left ≡ reply ∷ next.1 = next.2 ∙ ap (λ r. r ∷ next.1) (sym (both (some_desk old some)).0) in (
        next.1,
        left,
        among_replies scene.told scene.layout lines w.written reply next.1 (subst (λ ls. AreRepliesTo scene.told scene.layout lines (w.written ++ ls)) left w.has.each),
        λ d. (both d).1,
      )

  texts_more : (written : List Reply) (reply : Reply) → flat_map (reply_text scene.layout) (written ++ reply ∷ []) ≡ flat_map (reply_text scene.layout) written ++ reply_text scene.layout reply
  texts_more written reply =
      flat_map-append (reply_text scene.layout) written (reply ∷ []) ∙ ap (λ t. flat_map (reply_text scene.layout) written ++ t) (append-nil (reply_text scene.layout reply))

  -- it is written
  pub write_next : (now mid : List (DeskSeen S P W)) (place own : ℕ) (given more : Option (List ℕ)) (held rest : List ℕ) (reply : Reply) (w : Writing now place given held) → place < length lines
      → 0 < length old → own ≡ worker_of (length old) place → ((d : DeskSeen S P W) → (slice_index_or now own d).replies ≡ reply ∷ (slice_index_or mid own d).replies)
      → ((v : ℕ) (d : DeskSeen S P W) → v ≢ own → slice_index_or mid v d ≡ slice_index_or now v d) → GivesAllBut given more rest (held ++ reply_text scene.layout reply)
      → Writing mid (place + 1) more rest
  write_next now mid place own given more held rest reply w low some is taken others gives =
      let next = next_is now mid place own given held reply w low some is taken in
      let text = flat_map (reply_text scene.layout) w.written in
      record {
        written = w.written ++ reply ∷ [];
        left = next.0;
        has = subst (HasReplies scene lines old) (ap (λ ls. w.written ++ ls) next.1 ∙ sym (append_assoc w.written (reply ∷ []) next.0)) w.has;
        count = omega (arith, length-append w.written (reply ∷ []), w.count);
        at_desks = λ v d within. ⊎_elim
            (λ same. subst (λ u. (slice_index_or mid u d).replies ≡ of_worker (length old) u (place + 1) next.0) (sym same) (next.3 d))
            (λ not. ap (λ (x : DeskSeen S P W). x.replies) (others v d not) ∙ w.at_desks v d within ∙ ap (of_worker (length old) v place) next.1
            ∙ other_queue (length old) place v reply next.0 (λ e. not (sym e ∙ sym is)))
            (cases_eq v own);
        text = subst (GivesAllBut before more rest) (sym (texts_more w.written reply))
            (all_but_then before given more (held ++ reply_text scene.layout reply) rest (text ++ reply_text scene.layout reply)
            (all_but_line before given held text (reply_text scene.layout reply) w.text) gives);
      }

  -- some front of it was written
  pub next_begun : (now mid : List (DeskSeen S P W)) (place own : ℕ) (given more : Option (List ℕ)) (held : List ℕ) (reply : Reply) (w : Writing now place given held) → place < length lines
      → 0 < length old → own ≡ worker_of (length old) place → ((d : DeskSeen S P W) → (slice_index_or now own d).replies ≡ reply ∷ (slice_index_or mid own d).replies)
      → GivesFront given more (held ++ reply_text scene.layout reply)
      → (replies : List Reply) × HasReplies scene lines old replies × GivesFront before more (flat_map (reply_text scene.layout) replies)
  next_begun now mid place own given more held reply w low some is taken gives =
      let next = next_is now mid place own given held reply w low some is taken in
      let text = flat_map (reply_text scene.layout) w.written in
      let one = reply_text scene.layout reply in
      let after = flat_map (reply_text scene.layout) next.0 in
      let whole : flat_map (reply_text scene.layout) (w.written ++ w.left) ≡ (text ++ one) ++ after =
      ap (λ ls. flat_map (reply_text scene.layout) (w.written ++ ls)) next.1 ∙ flat_map-append (reply_text scene.layout) w.written (reply ∷ next.0)
      ∙ sym (append_assoc text one after) in (
        w.written ++ w.left,
        w.has,
        front_within before more (text ++ one) after (flat_map (reply_text scene.layout) (w.written ++ w.left))
            (all_but_then_front before given more (held ++ one) (text ++ one) (all_but_line before given held text one w.text) gives) whole,
      )

  -- nothing is left
  nothing_left : (now : List (DeskSeen S P W)) (place : ℕ) (given : Option (List ℕ)) (held : List ℕ) (w : Writing now place given held) → place ≡ length lines
      → flat_map (reply_text scene.layout) (w.written ++ w.left) ≡ flat_map (reply_text scene.layout) w.written
  nothing_left now place given held w all =
      ap (λ ls. flat_map (reply_text scene.layout) (w.written ++ ls))
      (no_items w.left (omega (arith, as_many scene.told scene.layout lines (w.written ++ w.left) w.has.each, length-append w.written w.left, w.count, all)))
      ∙ ap (flat_map (reply_text scene.layout)) (append-nil w.written)

  pub all_written : {T E : Type 0} (now : List (DeskSeen S P W)) (place : ℕ) (given more : Option (List ℕ)) (held : List ℕ) (r : Result T E) → Writing now place given held → place ≡ length lines
      → OnOk r (Appends given more held) → OnOk r ((replies : List Reply) × HasReplies scene lines old replies × Appends before more (flat_map (reply_text scene.layout) replies))
  all_written now place given more held (Ok v) w all gives = (
    w.written ++ w.left,
    w.has,
    subst (Appends before more) (sym (nothing_left now place given held w all)) (all_but_end before given more held (flat_map (reply_text scene.layout) w.written) w.text gives),
  )
  all_written now place given more held (Err e) w all gives = tt

  pub all_begun : (now : List (DeskSeen S P W)) (place : ℕ) (given more : Option (List ℕ)) (held : List ℕ) → Writing now place given held → place ≡ length lines
      → GivesFront given more held → (replies : List Reply) × HasReplies scene lines old replies × GivesFront before more (flat_map (reply_text scene.layout) replies)
  all_begun now place given more held w all gives = (
    w.written ++ w.left,
    w.has,
    subst (GivesFront before more) (sym (nothing_left now place given held w all)) (all_but_then_front before given more held (flat_map (reply_text scene.layout) w.written) w.text gives),
  )

-- ---- desks of which the replies are taken

abbrev with_replies : {S P W : Type 0} → DeskSeen S P W → List Reply → DeskSeen S P W
with_replies desk replies = record desk { replies = replies }

pub same_more : {S P W : Type 0} (old mid new : List (DeskSeen S P W)) → SameButReplies old mid → SameButReplies mid new → SameButReplies old new
same_more {S} {P} {W} old mid new one two = (
  two.0 ∙ one.0,
  λ w d low. two.1 w d (omega (arith, low, one.0)) ∙ ap (λ (x : DeskSeen S P W). with_replies x (slice_index_or new w d).replies) (one.1 w d low),
)

pub same_now : {S P W : Type 0} (desks : List (DeskSeen S P W)) → SameButReplies desks desks
same_now desks = (refl, λ w d low. refl)

-- a reply's text by the layout that was lent
pub text_by : (layout same : Layout) (reply : Reply) (given more : Option (List ℕ)) (held rest : List ℕ) → layout ≡ same → GivesAllBut given more rest (held ++ reply_text layout reply)
    → GivesAllBut given more rest (held ++ reply_text same reply)
text_by layout same reply given more held rest e h = subst (λ l. GivesAllBut given more rest (held ++ reply_text l reply)) e h

pub front_by : (layout same : Layout) (reply : Reply) (given more : Option (List ℕ)) (held : List ℕ) → layout ≡ same → GivesFront given more (held ++ reply_text layout reply)
    → GivesFront given more (held ++ reply_text same reply)
front_by layout same reply given more held e h = subst (λ l. GivesFront given more (held ++ reply_text l reply)) e h
