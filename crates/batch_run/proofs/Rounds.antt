-- Rounds, put together.
use Rattle.std.proofs.Common.{◌≡◌, ℕ, ◌+◌, ◌<◌, ◌≤◌, ◌⊎◌, ⊎_elim, inl, inr, false, List, [], ◌∷◌, ◌++◌, length, map, refl, sym, ap, subst, ◌∙◌, arith, append-nil, append_assoc, length-append}
use Rattle.std.specs.Prelude.{Option, Result, Ok, Err, OnOk, ◌%◌, slice_index_or}
use denote.Ref.{Bor}
use Rattle.std.specs.List.{All, flat_map}
use Rattle.std.specs.Io.KnownBytes.{Appends}
use Rattle.std.proofs.KnownBytes.{Appends-nil}
use Rattle.std.proofs.lemmas.List.{get_or_default, length-map}
use Rattle.std.proofs.lemmas.List.Elements.{All-nil}
use Rattle.std.proofs.lemmas.Bool.{cases_lt}
use Rattle.implicit_tiling.specs.Files.{Files}
use Rattle.implicit_tiling.specs.Region.{Plan}
use Rattle.implicit_tiling.specs.Scene.{Layout}
use Rattle.scene_ports.specs.Output.{GivesFront}
use Rattle.scene_ports.proofs.Giving.{front_after, front_before, front_within, given_more}
use Rattle.batch_blocks.specs.declared.reply.Reply.{Reply}
use Rattle.batch_blocks.specs.Workers.{of_worker, RoseBy}
use Rattle.batch_blocks.specs.Blocks.{Block, AreBlocks, text_of_blocks, failures}
use Rattle.batch_blocks.specs.Replies.{blocks_of, reply_text, AreRepliesTo}
use Rattle.batch_blocks.proofs.Workers.{of_worker-append, of_worker-round}
use Rattle.batch_blocks.proofs.Replies.{merged, blocks_of_worker, replies_are_blocks, blocks-append, text-append, failures-append, texts_are, good_blocks}
use Rattle.batch_run.specs.Desks.{DeskSeen, Viewed, IsReady, walked_of}
use Rattle.batch_run.specs.Batches.{HasAnswered, IsBatch, IsBatchBegun, HasWorked, HasReplies, SameButReplies, IsLeftReady, AreLeftReady}
use Rattle.batch_run.proofs.Writing.{some_desk}
use Rattle.batch_run.proofs.Answering.{more_answered, nothing_answered}

-- ---- one round

-- where each worker has its replies, there are replies to all lines
pub all_replies : {S P W : Type 0} (scene : Viewed P) (lines : List (List ℕ)) (desks : List (DeskSeen S P W)) → 1 ≤ length desks
    → ((w : ℕ) (d : DeskSeen S P W) → w < length desks → AreRepliesTo scene.told scene.layout (of_worker (length desks) w 0 lines) (slice_index_or desks w d).replies)
    → (replies : List Reply) × HasReplies scene lines desks replies
all_replies {S} {P} {W} scene lines desks some each =
    let one : DeskSeen S P W = some_desk desks some in
    let all = merged scene.told scene.layout (length desks) 0 lines (λ w. (slice_index_or desks w one).replies) some (λ w low. each w one low) in (
      all.0,
      record {
        each = all.1;
        at_desks = λ w d low. ap (λ (x : DeskSeen S P W). x.replies) (get_or_default desks w d one low) ∙ all.2 w low;
      },
    )

-- what the workers of a round have answered, by the blocks of all replies
pub round_answered : {P W : Type 0} (whole : Plan → W) (scene : Viewed P) (lines : List (List ℕ)) (count w : ℕ) (replies mine : List Reply) (f g : ℕ) (a b : List W) → AreRepliesTo scene.told scene.layout lines replies
    → mine ≡ of_worker count w 0 replies → HasAnswered whole scene.layout (blocks_of scene.layout (of_worker count w 0 lines) mine) f g a b
    → HasAnswered whole scene.layout (of_worker count w 0 (blocks_of scene.layout lines replies)) f g a b
round_answered whole scene lines count w replies mine f g a b each own answered =
    let layout = scene.layout in
    let same : of_worker count w 0 (blocks_of layout lines replies) ≡ blocks_of layout (of_worker count w 0 lines) mine =
    blocks_of_worker scene.told layout count w 0 lines replies each ∙ ap (blocks_of layout (of_worker count w 0 lines)) (sym own) in
    subst (λ bs. HasAnswered whole layout bs f g a b) (sym same) answered

-- ---- rounds one after another

-- there are as many blocks as lines
as_many : (told : Option Files) (layout : Layout) (lines : List (List ℕ)) (blocks : List Block) → AreBlocks told layout lines blocks → length blocks ≡ length lines
as_many told layout lines blocks are = sym (length-map blocks (λ (b : Block). b.line)) ∙ ap (λ ls. length ls) are.in_order

-- the blocks of a worker, of whole rounds and of the next round
worker_more : (count w : ℕ) (these those : List Block) → length these % 64 ≡ 0 → length those ≤ 64
    → of_worker count w 0 (these ++ those) ≡ of_worker count w 0 these ++ of_worker count w 0 those
worker_more count w these those whole few =
    of_worker-append count w 0 (length these) these those (omega arith)
    ∙ ap (λ bs. of_worker count w 0 these ++ bs) (of_worker-round count w (length these) 0 (length these) those (omega arith) whole (omega (arith, few)))

rose_split : (count w : ℕ) (these those : List Block) (a b c : ℕ) → of_worker count w 0 (these ++ those) ≡ of_worker count w 0 these ++ of_worker count w 0 those
    → RoseBy (failures (of_worker count w 0 these)) a b → RoseBy (failures (of_worker count w 0 those)) b c → RoseBy (failures (of_worker count w 0 (these ++ those))) a c
rose_split count w these those a b c split one two =
    let sum : failures (of_worker count w 0 (these ++ those)) ≡ failures (of_worker count w 0 these) + failures (of_worker count w 0 those) =
    ap failures split ∙ failures-append (of_worker count w 0 these) (of_worker count w 0 those) in
    omega (arith, sum, one, two)

module _ {S P W : Type 0} (faults : S → ℕ) (walked : P → List W) (whole : Plan → W) (scene : Viewed P) where
  pub batch_begun : (lines : List (List ℕ)) (old new : List (DeskSeen S P W)) (before now : Option (List ℕ)) → IsBatch faults walked whole scene lines old new before now
      → IsBatchBegun faults scene lines old new before now
  batch_begun lines old new before now b = record {
    blocks = b.blocks;
    of_lines = b.of_lines;
    given = front_before before now (text_of_blocks b.blocks) [] (text_of_blocks b.blocks) b.given (sym (append-nil (text_of_blocks b.blocks)));
    workers = λ w d low. (b.workers w d low).failed;
  }

  pub batch_more : (lines more : List (List ℕ)) (old mid new : List (DeskSeen S P W)) (before between now : Option (List ℕ)) → length mid ≡ length old → length lines % 64 ≡ 0 → length more ≤ 64
      → IsBatch faults walked whole scene lines old mid before between → IsBatch faults walked whole scene more mid new between now → IsBatch faults walked whole scene (lines ++ more) old new before now
  batch_more lines more old mid new before between now same full few one two =
      let told = scene.told in
      let layout = scene.layout in
      let first : length one.blocks ≡ length lines = as_many told layout lines one.blocks one.of_lines in
      let second : length two.blocks ≡ length more = as_many told layout more two.blocks two.of_lines in
      record {
        blocks = one.blocks ++ two.blocks;
        of_lines = blocks-append told layout lines more one.blocks two.blocks one.of_lines two.of_lines;
        given = given_more before between now (text_of_blocks one.blocks) (text_of_blocks two.blocks) (text_of_blocks (one.blocks ++ two.blocks)) one.given two.given
            (text-append one.blocks two.blocks);
        workers = λ w d low.
            let split = worker_more (length old) w one.blocks two.blocks (ap (λ n. n % 64) first ∙ full) (omega (arith, second, few)) in
            let next = two.workers w d (omega (arith, low, same)) in
            let mine = subst (λ n. HasAnswered whole layout (of_worker n w 0 two.blocks) (faults (slice_index_or mid w d).source) (faults (slice_index_or new w d).source)
            (walked_of walked (slice_index_or mid w d).pass) (walked_of walked (slice_index_or new w d).pass)) same next in
            subst (λ bs. HasAnswered whole layout bs (faults (slice_index_or old w d).source) (faults (slice_index_or new w d).source) (walked_of walked (slice_index_or old w d).pass)
            (walked_of walked (slice_index_or new w d).pass)) (sym split)
            (more_answered whole layout (of_worker (length old) w 0 one.blocks) (of_worker (length old) w 0 two.blocks) _ _ _ _ _ _ (one.workers w d low) mine);
      }

  pub begun_more : (lines more : List (List ℕ)) (old mid new : List (DeskSeen S P W)) (before between now : Option (List ℕ)) → length mid ≡ length old → length lines % 64 ≡ 0 → length more ≤ 64
      → IsBatch faults walked whole scene lines old mid before between → IsBatchBegun faults scene more mid new between now → IsBatchBegun faults scene (lines ++ more) old new before now
  begun_more lines more old mid new before between now same full few one two =
      let told = scene.told in
      let layout = scene.layout in
      let first : length one.blocks ≡ length lines = as_many told layout lines one.blocks one.of_lines in
      let second : length two.blocks ≡ length more = as_many told layout more two.blocks two.of_lines in
      record {
        blocks = one.blocks ++ two.blocks;
        of_lines = blocks-append told layout lines more one.blocks two.blocks one.of_lines two.of_lines;
        given = front_after before between now (text_of_blocks one.blocks) (text_of_blocks two.blocks) [] (text_of_blocks (one.blocks ++ two.blocks)) one.given two.given
            (text-append one.blocks two.blocks ∙ ap (λ t. text_of_blocks one.blocks ++ t) (sym (append-nil (text_of_blocks two.blocks))));
        workers = λ w d low.
            let split = worker_more (length old) w one.blocks two.blocks (ap (λ n. n % 64) first ∙ full) (omega (arith, second, few)) in
            let mine = subst (λ n. RoseBy (failures (of_worker n w 0 two.blocks)) (faults (slice_index_or mid w d).source) (faults (slice_index_or new w d).source)) same
            (two.workers w d (omega (arith, low, same))) in
            rose_split (length old) w one.blocks two.blocks _ _ _ split (one.workers w d low).failed mine;
      }

  -- some front of the blocks of some lines is one of those of more lines
  pub begun_then : (lines more : List (List ℕ)) (old new : List (DeskSeen S P W)) (before now : Option (List ℕ)) → IsBatchBegun faults scene lines old new before now
      → IsBatchBegun faults scene (lines ++ more) old new before now
  begun_then lines more old new before now one =
      let told = scene.told in
      let layout = scene.layout in
      let two = good_blocks told layout more in
      record {
        blocks = one.blocks ++ two.0;
        of_lines = blocks-append told layout lines more one.blocks two.0 one.of_lines two.1.of_lines;
        given = front_within before now (text_of_blocks one.blocks) (text_of_blocks two.0) (text_of_blocks (one.blocks ++ two.0)) one.given (text-append one.blocks two.0);
        workers = λ w d low.
            let sum : failures (of_worker (length old) w 0 (one.blocks ++ two.0)) ≡ failures (of_worker (length old) w 0 one.blocks) + 0 =
            ap failures (of_worker-append (length old) w 0 (length one.blocks) one.blocks two.0 (omega arith))
            ∙ failures-append (of_worker (length old) w 0 one.blocks) (of_worker (length old) w (length one.blocks) two.0)
            ∙ ap (λ n. failures (of_worker (length old) w 0 one.blocks) + n) (two.1.none (length old) w (length one.blocks)) in
            omega (arith, sum, one.workers w d low);
      }

-- ---- desks

module _ {S P W : Type 0} (told : S → Option Files) (faults : S → ℕ) (scene : Viewed P) where
  pub left_more : (old mid new : List (DeskSeen S P W)) → AreLeftReady told faults scene old mid → AreLeftReady told faults scene mid new → AreLeftReady told faults scene old new
  left_more old mid new one two = (
    two.0 ∙ one.0,
    λ w d low.
        let first = one.1 w d low in
        let second = two.1 w d (omega (arith, low, one.0)) in
        record { ready = second.ready; later = omega (arith, first.later, second.later); shown = second.shown ∙ first.shown },
  )

-- ---- what the functions of a round leave

nothing_given : (before : Option (List ℕ)) (text : List ℕ) → GivesFront before before text
nothing_given before text = ([], text, refl, Appends-nil before)

module _ {S P W : Type 0} (told : S → Option Files) (faults : S → ℕ) (walked : P → List W) (whole : Plan → W) (scene : Viewed P) (lines : List (List ℕ)) (old mid : List (DeskSeen S P W)) where
  abbrev pub HaveWorked : Type 0
  HaveWorked = (w : ℕ) (d : DeskSeen S P W) → w < length old → HasWorked told faults walked whole scene lines (length old) w (slice_index_or old w d) (slice_index_or mid w d)

  pub worked_replies : 0 < length old → length mid ≡ length old → HaveWorked → All (λ (desk : DeskSeen S P W). desk.lacks_memory ≡ false) mid
      → (replies : List Reply) × HasReplies scene lines mid replies
  worked_replies some same worked none =
      all_replies scene lines mid (omega (arith, some, same)) (λ w d low.
      subst (λ n. AreRepliesTo scene.told scene.layout (of_worker n w 0 lines) (slice_index_or mid w d).replies) (sym same)
      ((worked w d (omega (arith, low, same))).replies (none w d low)))

  pub left_worked : length mid ≡ length old → HaveWorked → AreLeftReady told faults scene old mid
  left_worked same worked = (same, λ w d low. (worked w d low).left)

  pub left_written : (new : List (DeskSeen S P W)) → AreLeftReady told faults scene old mid → SameButReplies mid new → AreLeftReady told faults scene old new
  left_written new left written = (
    written.0 ∙ left.0,
    λ w d low.
        let h = left.1 w d low in
        subst (λ x. IsLeftReady told faults scene (slice_index_or old w d) x) (sym (written.1 w d (omega (arith, low, left.0))))
        (record { ready = record { pass = h.ready.pass; same_files = h.ready.same_files }; later = h.later; shown = h.shown }),
  )

  -- what a worker has answered, by the blocks of all replies
  answered_at : (new : List (DeskSeen S P W)) (replies : List Reply) → length mid ≡ length old → HaveWorked → All (λ (desk : DeskSeen S P W). desk.lacks_memory ≡ false) mid
      → HasReplies scene lines mid replies → SameButReplies mid new → (w : ℕ) (d : DeskSeen S P W) → w < length old
      → HasAnswered whole scene.layout (of_worker (length old) w 0 (blocks_of scene.layout lines replies)) (faults (slice_index_or old w d).source) (faults (slice_index_or new w d).source)
      (walked_of walked (slice_index_or old w d).pass) (walked_of walked (slice_index_or new w d).pass)
  answered_at new replies same worked none has written w d low =
      let within : w < length mid = omega (arith, low, same) in
      let own : (slice_index_or mid w d).replies ≡ of_worker (length old) w 0 replies = has.at_desks w d within ∙ ap (λ n. of_worker n w 0 replies) same in
      let answered = round_answered whole scene lines (length old) w replies (slice_index_or mid w d).replies (faults (slice_index_or old w d).source) (faults (slice_index_or mid w d).source)
      (walked_of walked (slice_index_or old w d).pass) (walked_of walked (slice_index_or mid w d).pass) has.each own ((worked w d low).answered (none w d within)) in
      subst (λ (x : DeskSeen S P W). HasAnswered whole scene.layout (of_worker (length old) w 0 (blocks_of scene.layout lines replies)) (faults (slice_index_or old w d).source) (faults x.source)
      (walked_of walked (slice_index_or old w d).pass) (walked_of walked x.pass)) (sym (written.1 w d within)) answered

  pub round_given : (new : List (DeskSeen S P W)) (replies : List Reply) (before now : Option (List ℕ)) → length mid ≡ length old → HaveWorked
      → All (λ (desk : DeskSeen S P W). desk.lacks_memory ≡ false) mid → HasReplies scene lines mid replies → SameButReplies mid new → Appends before now (flat_map (reply_text scene.layout) replies)
      → IsBatch faults walked whole scene lines old new before now
  round_given new replies before now same worked none has written given = record {
    blocks = blocks_of scene.layout lines replies;
    of_lines = replies_are_blocks scene.told scene.layout lines replies has.each;
    given = subst (Appends before now) (sym (texts_are scene.told scene.layout lines replies has.each)) given;
    workers = answered_at new replies same worked none has written;
  }

  pub round_begun : (new : List (DeskSeen S P W)) (replies : List Reply) (before now : Option (List ℕ)) → length mid ≡ length old → HaveWorked
      → All (λ (desk : DeskSeen S P W). desk.lacks_memory ≡ false) mid → HasReplies scene lines mid replies → SameButReplies mid new → GivesFront before now (flat_map (reply_text scene.layout) replies)
      → IsBatchBegun faults scene lines old new before now
  round_begun new replies before now same worked none has written given = record {
    blocks = blocks_of scene.layout lines replies;
    of_lines = replies_are_blocks scene.told scene.layout lines replies has.each;
    given = subst (GivesFront before now) (sym (texts_are scene.told scene.layout lines replies has.each)) given;
    workers = λ w d low. (answered_at new replies same worked none has written w d low).failed;
  }

-- nothing was given yet
pub nothing_begun : {S P W : Type 0} (told : S → Option Files) (faults : S → ℕ) (scene : Viewed P) (lines : List (List ℕ)) (old new : List (DeskSeen S P W)) (before : Option (List ℕ))
    → AreLeftReady told faults scene old new → IsBatchBegun faults scene lines old new before before
nothing_begun told faults scene lines old new before left =
    let good = good_blocks scene.told scene.layout lines in
    record {
      blocks = good.0;
      of_lines = good.1.of_lines;
      given = nothing_given before (text_of_blocks good.0);
      workers = λ w d low. omega (arith, good.1.none (length old) w 0, (left.1 w d low).later);
    }

-- ---- all rounds

-- how far a batch has come: the lines of whole rounds are answered, unless no line is left
pub record HasCome {S P W : Type 0} (faults : S → ℕ) (walked : P → List W) (whole : Plan → W) (scene : Viewed P) (input rest : List (List ℕ)) (old now : List (DeskSeen S P W)) (before given : Option (List ℕ)) : Type 0 where
  pub lines : List (List ℕ)
  pub parts : input ≡ lines ++ rest
  pub batch : IsBatch faults walked whole scene lines old now before given
  pub rounds : (length lines % 64 ≡ 0) ⊎ (rest ≡ [])

nothing_left : (these more : List (List ℕ)) → these ++ more ≡ [] → length these ≡ 0
nothing_left [] more none = refl
nothing_left (x ∷ xs) more none = cc

whole_rounds : (lines rest these more : List (List ℕ)) → (length lines % 64 ≡ 0) ⊎ (rest ≡ []) → rest ≡ these ++ more → 0 < length these → length lines % 64 ≡ 0
whole_rounds lines rest these more (inl whole) cut some = whole
whole_rounds lines rest these more (inr none) cut some = absurd (omega (arith, nothing_left these more (sym cut ∙ none), some))

still_whole : (lines these rest : List (List ℕ)) → length lines % 64 ≡ 0 → length these ≤ 64 → (length these < 64 → rest ≡ []) → (length (lines ++ these) % 64 ≡ 0) ⊎ (rest ≡ [])
still_whole lines these rest whole few last = ⊎_elim
    (λ low. inr (last low))
    (λ full. inl (omega (arith, whole, full, few, length-append lines these)))
    (cases_lt (length these) 64)

module _ {S P W : Type 0} (faults : S → ℕ) (walked : P → List W) (whole : Plan → W) (scene : Viewed P) where
  pub none_come : (input : List (List ℕ)) (desks : List (DeskSeen S P W)) (before : Option (List ℕ)) → HasCome faults walked whole scene input input desks desks before before
  none_come input desks before = record {
    lines = [];
    parts = refl;
    batch = record {
      blocks = [];
      of_lines = record { each = All-nil _; in_order = refl };
      given = Appends-nil before;
      workers = λ w d low. nothing_answered whole scene.layout _ _ _ (omega arith);
    };
    rounds = inl refl;
  }

  pub round_come : (input rest these more : List (List ℕ)) (old mid new : List (DeskSeen S P W)) (before between now : Option (List ℕ)) → length mid ≡ length old
      → HasCome faults walked whole scene input rest old mid before between → rest ≡ these ++ more → 0 < length these → length these ≤ 64 → (length these < 64 → more ≡ [])
      → IsBatch faults walked whole scene these mid new between now → HasCome faults walked whole scene input more old new before now
  round_come input rest these more old mid new before between now same come cut some few last round =
      let full = whole_rounds come.lines rest these more come.rounds cut some in
      record {
        lines = come.lines ++ these;
        parts = come.parts ∙ ap (λ r. come.lines ++ r) cut ∙ sym (append_assoc come.lines these more);
        batch = batch_more faults walked whole scene come.lines these old mid new before between now same full few come.batch round;
        rounds = still_whole come.lines these more full few last;
      }

  -- the round that was begun ends it
  pub round_ended : (input rest these more : List (List ℕ)) (old mid new : List (DeskSeen S P W)) (before between now : Option (List ℕ)) → length mid ≡ length old
      → HasCome faults walked whole scene input rest old mid before between → rest ≡ these ++ more → 0 < length these → length these ≤ 64
      → IsBatchBegun faults scene these mid new between now → IsBatchBegun faults scene input old new before now
  round_ended input rest these more old mid new before between now same come cut some few round =
      let full = whole_rounds come.lines rest these more come.rounds cut some in
      let begun = begun_then faults walked whole scene (come.lines ++ these) more old new before now
      (begun_more faults walked whole scene come.lines these old mid new before between now same full few come.batch round) in
      subst (λ ls. IsBatchBegun faults scene ls old new before now) (append_assoc come.lines these more ∙ ap (λ r. come.lines ++ r) (sym cut) ∙ sym come.parts) begun

  -- what was answered so far is a front of the whole
  pub come_so_far : (input rest : List (List ℕ)) (old now : List (DeskSeen S P W)) (before given : Option (List ℕ)) → HasCome faults walked whole scene input rest old now before given
      → IsBatchBegun faults scene input old now before given
  come_so_far input rest old now before given come =
      subst (λ ls. IsBatchBegun faults scene ls old now before given) (sym come.parts)
      (begun_then faults walked whole scene come.lines rest old now before given (batch_begun faults walked whole scene come.lines old now before given come.batch))

  pub all_come : (input rest : List (List ℕ)) (old now : List (DeskSeen S P W)) (before given : Option (List ℕ)) → HasCome faults walked whole scene input rest old now before given → rest ≡ []
      → IsBatch faults walked whole scene input old now before given
  all_come input rest old now before given come none =
      subst (λ ls. IsBatch faults walked whole scene ls old now before given) (sym (come.parts ∙ ap (λ r. come.lines ++ r) none ∙ append-nil come.lines)) come.batch

-- ---- cases of results

pub on_ok : {T E : Type 0} (r : Result T E) (P Q : Type 0) → (P → Q) → OnOk r P → OnOk r Q
on_ok (Ok value) P Q f h = f h
on_ok (Err fault) P Q f h = h

no_lines : (lines : List (Bor (List ℕ))) → length lines ≡ 0 → map (λ (l : Bor (List ℕ)). l.now) lines ≡ []
no_lines [] none = refl
no_lines (line ∷ lines) none = absurd (omega (arith, none))

-- where a round has no lines the input has ended
pub no_more : (rest behind : List (List ℕ)) (lines : List (Bor (List ℕ))) → rest ≡ map (λ (l : Bor (List ℕ)). l.now) lines ++ behind → length lines ≡ 0 → (length lines < 64 → behind ≡ [])
    → rest ≡ []
no_more rest behind lines cut none last = cut ∙ ap (λ ls. ls ++ behind) (no_lines lines none) ∙ last (omega (arith, none))

-- the desks at the start
pub left_now : {S P W : Type 0} (told : S → Option Files) (faults : S → ℕ) (scene : Viewed P) (desks : List (DeskSeen S P W)) → All (IsReady told scene) desks → AreLeftReady told faults scene desks desks
left_now told faults scene desks ready = (refl, λ w d low. record { ready = ready w d low; later = omega arith; shown = refl })

pub ready_left : {S P W : Type 0} (told : S → Option Files) (faults : S → ℕ) (scene : Viewed P) (old new : List (DeskSeen S P W)) → AreLeftReady told faults scene old new → All (IsReady told scene) new
ready_left told faults scene old new left w d low = (left.1 w d (omega (arith, low, left.0))).ready

-- the lines of a round as their bytes
count_now : (lines : List (Bor (List ℕ))) → length (map (λ (l : Bor (List ℕ)). l.now) lines) ≡ length lines
count_now lines = let now : Bor (List ℕ) → List ℕ = λ l. l.now in length-map lines now

pub lines_some : (lines : List (Bor (List ℕ))) → 0 < length lines → 0 < length (map (λ (l : Bor (List ℕ)). l.now) lines)
lines_some lines some = omega (arith, some, count_now lines)

pub lines_few : (lines : List (Bor (List ℕ))) → length lines ≤ 64 → length (map (λ (l : Bor (List ℕ)). l.now) lines) ≤ 64
lines_few lines few = omega (arith, few, count_now lines)

pub lines_last : (lines : List (Bor (List ℕ))) (behind : List (List ℕ)) → (length lines < 64 → behind ≡ []) → length (map (λ (l : Bor (List ℕ)). l.now) lines) < 64 → behind ≡ []
lines_last lines behind last low = last (omega (arith, low, count_now lines))
