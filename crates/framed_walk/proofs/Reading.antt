-- How often files are read from turn to turn.
use Rattle.std.proofs.Common.{◌≡◌, ◌∙◌, ℕ, ◌+◌, List, [], ◌∷◌, ◌++◌, length, map, take, Option, Some, None, refl, sym, ap, subst, arith, append-nil, append_assoc}
use Rattle.std.specs.Prelude.{IsSomeAnd, eqb}
use Rattle.std.specs.List.{slice_get}
use Rattle.std.proofs.lemmas.List.{map-append, take_more}
use Rattle.std.proofs.lemmas.Option.{slice_get_within, get_or_from_slice_get}
use Rattle.implicit_tiling.specs.Region.{Region}
use Rattle.implicit_tiling.specs.Files.{Files}
use Rattle.implicit_tiling.specs.Code.{word_tile}
use Rattle.implicit_tiling.specs.Scene.{Layout, Scene}
use Rattle.implicit_tiling.specs.Steps.{Pair, pairs, steps}
use Rattle.frame_pool.specs.Frames.{Frames}
use Rattle.frame_pool.specs.Moves.{IsAskAnswer, after_unpin}
use Rattle.subtree_outcome.specs.declared.outcome.Outcome.{Outcome}
use Rattle.subtree_outcome.proofs.Fetching.{none_fetched, fetched_together}
use Rattle.tile_coords.specs.declared.walk_end.WalkEnd.{WalkEnd}
use Rattle.region_cursor.specs.Cursor.{Cursor}
use Rattle.region_cursor.specs.Joined.{HasWalked}
use Rattle.region_cursor.specs.Walked.{root_word, IsNextKey}
use Rattle.framed_walk.specs.Reads.{reads_of, frame_of, in_turn, after_turn, Turns, HasRead, IsInTurn, step_keys}

-- one turn more
turns_more : (layout : Layout) (told : Option Files) (first : Frames ℕ Outcome) (keys : List ℕ) (frames : Frames ℕ Outcome) (reads : List ℕ) (key f : ℕ) (now after : Frames ℕ Outcome) (before fetches : ℕ)
    → Turns first keys frames reads → (t : IsInTurn layout told key f frames now before fetches) → after ≡ after_unpin f now → Turns first (keys ++ key ∷ []) after (reads ++ reads_of key t.asked)
turns_more layout told first [] frames reads key f now after before fetches done t is =
    let P : Frames ℕ Outcome → Type 0 = λ p. IsAskAnswer eqb key p t.asked in
    let ends : after ≡ after_turn key t.found t.asked first =
    is ∙ ap (λ n. after_unpin n now) t.frame ∙ ap (after_unpin (frame_of t.asked)) (t.held ∙ ap (in_turn key t.found t.asked) done.0) in
    (t.asked, t.found, [], subst P done.0 t.answer, (ends, refl), ap (λ r. r ++ reads_of key t.asked) done.1 ∙ sym (append-nil (reads_of key t.asked)))
turns_more layout told first (k ∷ keys) frames reads key f now after before fetches done t is =
    let more = turns_more layout told (after_turn k done.1 done.0 first) keys frames done.2 key f now after before fetches done.4 t is in
    (done.0, done.1, done.2 ++ reads_of key t.asked, done.3, more, ap (λ r. r ++ reads_of key t.asked) done.5 ∙ append_assoc (reads_of k done.0) done.2 (reads_of key t.asked))

pub none_read : (layout : Layout) (told : Option Files) (first : Frames ℕ Outcome) (before : ℕ) → HasRead layout told first [] first before before
none_read layout told first before = record { reads = []; turns = (refl, refl); fetched = none_fetched layout told before }

pub read_more : (layout : Layout) (told now_told : Option Files) (first : Frames ℕ Outcome) (keys : List ℕ) (frames : Frames ℕ Outcome) (key f : ℕ) (now after : Frames ℕ Outcome) (before mid fetches : ℕ)
    → HasRead layout told first keys frames before mid → IsInTurn layout now_told key f frames now mid fetches → now_told ≡ told → after ≡ after_unpin f now
    → HasRead layout told first (keys ++ key ∷ []) after before fetches
read_more layout told now_told first keys frames key f now after before mid fetches r t same is =
    let tile = word_tile layout.scheme in
    record {
      reads = r.reads ++ reads_of key t.asked;
      turns = turns_more layout now_told first keys frames r.reads key f now after mid fetches r.turns t is;
      fetched = fetched_together layout told now_told (map tile r.reads) (map tile (reads_of key t.asked)) (map tile (r.reads ++ reads_of key t.asked)) before mid fetches r.fetched t.fetched same
          (map-append tile r.reads (reads_of key t.asked));
    }

-- the keys of one step more
next_pair : (s : Scene) (ps : List Pair) (k key : ℕ) (here : Option Pair) → slice_get ps k ≡ here → IsSomeAnd here (λ p. key ≡ root_word s p.root)
    → map (λ p. root_word s p.root) (take k ps) ++ key ∷ [] ≡ map (λ p. root_word s p.root) (take (k + 1) ps)
next_pair s ps k key None at is = absurd is
next_pair s ps k key (Some p) at is =
    let f = λ (q : Pair). root_word s q.root in
    let more : take (k + 1) ps ≡ take k ps ++ p ∷ [] = take_more ps k p (slice_get_within ps k p at) ∙ ap (λ q. take k ps ++ q ∷ []) (get_or_from_slice_get ps k p p at) in
    ap (λ w. map f (take k ps) ++ w ∷ []) is ∙ sym (map-append f (take k ps) (p ∷ [])) ∙ ap (map f) (sym more)

pub keys_more : (s : Scene) (region : Region) (k made key : ℕ) (keys : List ℕ) → keys ≡ step_keys s region k → IsNextKey s region k (Some key) → made ≡ k + 1
    → keys ++ key ∷ [] ≡ step_keys s region made
keys_more s region k made key keys so is more =
    ap (λ ws. ws ++ key ∷ []) so ∙ next_pair s (pairs s region) k key (slice_get (pairs s region) k) refl is.1 ∙ ap (step_keys s region) (sym more)

-- steps that are made, and the keys that were asked for
pub record IsWalkedBy (s : Scene) (region : Region) (c : Cursor) (next : Option ℕ) (words : List ℕ) (end : WalkEnd) (keys : List ℕ) : Type 0 where
  pub walked : HasWalked s region c next words end
  pub keys_are : keys ≡ step_keys s region walked.made

-- at the end they are those of all steps
pub all_keys : (s : Scene) (region : Region) (c : Cursor) (words : List ℕ) (end : WalkEnd) (keys : List ℕ) → IsWalkedBy s region c None words end keys
    → keys ≡ step_keys s region (length (steps s region))
all_keys s region c words end keys w = w.keys_are ∙ ap (step_keys s region) w.walked.next_is
