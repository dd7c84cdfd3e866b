-- What a batch gave, with its passes taken out again and its first fetch before it.
use Rattle.std.proofs.Common.{◌≡◌, ℕ, ◌<◌, ◌≤◌, List, [], ◌∷◌, ◌++◌, length, map, refl, sym, ap, subst, ◌∙◌, arith}
use Rattle.std.specs.Prelude.{Option, Some, None, IsSomeAnd, Result, Ok, Err, OnOk, slice_index_or}
use Rattle.std.specs.List.{All}
use Rattle.implicit_tiling.specs.Files.{Files}
use Rattle.implicit_tiling.specs.Scene.{Layout}
use Rattle.request_text.specs.Input.{input_lines}
use Rattle.viewer_session.specs.Sessions.{SceneSeen, PassSeen, IsPassOf}
use Rattle.viewer_session.specs.Starts.{IsNewPass}
use Rattle.viewer_session.specs.declared.pass.Walked.{Walked}
use Rattle.viewer_session.specs.declared.pass.Walked.TheVariants.{Whole}
use Rattle.batch_blocks.specs.Blocks.{Block, failures, answered_plans}
use Rattle.batch_blocks.specs.Workers.{of_worker, RoseBy}
use Rattle.batch_run.specs.Desks.{Viewed, IsReady, walked_of}
use Rattle.batch_run.specs.Batches.{HasAnswered, IsBatch, IsBatchBegun, AreLeftReady}
use Rattle.shared_commands.specs.Desks.{Place, IsFree, IsLeftFree, AreLeftFree, OnlyFirst, HaveLostPasses}
use Rattle.shared_commands.specs.Batch.{HasGivenAll, HasGivenSome}
use Rattle.shared_commands.proofs.Firsts.{as_before}

-- a scene as the workers see it
abbrev pub seen_of : SceneSeen → Viewed PassSeen
seen_of scene = record { told = scene.tileset.told; layout = scene.tileset.layout; is_pass = IsPassOf scene }

abbrev pub walks_of : PassSeen → List Walked
walks_of pass = pass.walked

module _ {S : Type 0} (told : S → Option Files) (faults : S → ℕ) (scene : SceneSeen) (passes : List PassSeen) (old put : List (Place S)) where
  -- each desk has its pass
  abbrev pub AllPut : Type 0
  AllPut = (w : ℕ) (d : Place S) (p : PassSeen) → w < length old → slice_index_or put w d ≡ record (slice_index_or old w d) { pass = Some (slice_index_or passes w p) }

  -- a pass, where there is a desk
  some_pass : (w : ℕ) (ps : List PassSeen) → w < length ps → PassSeen
  some_pass w [] low = absurd (omega (arith, low))
  some_pass w (p ∷ ps) low = p

  pub desks_ready : length passes ≡ length old → All (IsNewPass scene) passes → All (IsFree told scene.tileset.told) old → length put ≡ length old → AllPut → All (IsReady told (seen_of scene)) put
  desks_ready count new free many all = λ w d low.
      let inside : w < length old = omega (arith, low, many) in
      let few : w < length passes = omega (arith, inside, count) in
      let p = some_pass w passes few in
      subst (IsReady told (seen_of scene)) (sym (all w d p inside))
      (record { pass = (new w p few).of_scene; same_files = (free w d inside).same_files })

  module _ (done lost : List (Place S)) (count : length passes ≡ length old) (new : All (IsNewPass scene) passes) (free : All (IsFree told scene.tileset.told) old) (many : length put ≡ length old) (all : AllPut)
      (left : AreLeftReady told faults (seen_of scene) put done) (out : HaveLostPasses done lost) where
    -- of one desk, what it has lost
    lost_one : (x y : Place S) (found : Option PassSeen) → x.pass ≡ found → IsSomeAnd found (IsPassOf scene) → ((pass : PassSeen) → x.pass ≡ Some pass → y ≡ record x { pass = None; shown = pass.walked })
        → y ≡ record x { pass = None; shown = walked_of walks_of x.pass }
    lost_one x y None is has each = absurd has
    lost_one x y (Some pass) is has each = each pass is ∙ ap (λ o. record x { pass = None; shown = walked_of walks_of o }) (sym is)

    one_lost : (w : ℕ) (d : Place S) → w < length old → slice_index_or lost w d ≡ record (slice_index_or done w d) { pass = None; shown = walked_of walks_of (slice_index_or done w d).pass }
    one_lost w d low =
        lost_one (slice_index_or done w d) (slice_index_or lost w d) (slice_index_or done w d).pass refl (left.1 w d (omega (arith, low, many))).ready.pass
        (λ pass has. out.1 w d pass (omega (arith, low, many, left.0)) has)

    pub all_left : AreLeftFree told faults old lost
    all_left = (
      out.0 ∙ left.0 ∙ many,
      λ w d low.
          let p = some_pass w passes (omega (arith, low, count)) in
          let ready = left.1 w d (omega (arith, low, many)) in
          let put_one = all w d p low in
          subst (λ (x : Place S). IsLeftFree told faults (slice_index_or old w d) x) (sym (one_lost w d low)) (record {
            no_pass = refl;
            same_files = ready.ready.same_files ∙ sym (free w d low).same_files;
            later = subst (λ (x : Place S). faults x.source ≤ faults (slice_index_or done w d).source) put_one ready.later;
          }),
    )

    pub given_all : (input : List ℕ) (before now : Option (List ℕ)) → IsBatch faults walks_of (λ plan. Whole plan) (seen_of scene) (input_lines input) put done before now
        → HasGivenAll faults scene.tileset.told scene.tileset.layout input old lost before now
    given_all input before now b = record {
      blocks = b.blocks;
      of_lines = b.of_lines;
      given = b.given;
      workers = λ w d low.
          let p = some_pass w passes (omega (arith, low, count)) in
          let put_one = all w d p low in
          let none_walked : walked_of walks_of (slice_index_or put w d).pass ≡ [] = ap (λ (x : Place S). walked_of walks_of x.pass) put_one ∙ (new w p (omega (arith, low, count))).nothing_walked in
          let mine : List Block = of_worker (length old) w 0 b.blocks in
          let answered = subst (λ n. HasAnswered (λ plan. Whole plan) scene.tileset.layout (of_worker n w 0 b.blocks) (faults (slice_index_or put w d).source) (faults (slice_index_or done w d).source)
          (walked_of walks_of (slice_index_or put w d).pass) (walked_of walks_of (slice_index_or done w d).pass)) many (b.workers w d (omega (arith, low, many))) in
          subst (λ (x : Place S). HasAnswered Whole scene.tileset.layout mine (faults (slice_index_or old w d).source) (faults x.source) [] x.shown) (sym (one_lost w d low)) (record {
            failed = subst (λ (x : Place S). RoseBy (failures mine) (faults x.source) (faults (slice_index_or done w d).source)) put_one answered.failed;
            walked = answered.walked ∙ ap (λ l. l ++ map Whole (answered_plans scene.tileset.layout mine)) none_walked;
          });
    }

    pub given_some : (input : List ℕ) (before now : Option (List ℕ)) → IsBatchBegun faults (seen_of scene) (input_lines input) put done before now
        → HasGivenSome faults scene.tileset.told scene.tileset.layout input old lost before now
    given_some input before now b = record {
      blocks = b.blocks;
      of_lines = b.of_lines;
      given = b.given;
      workers = λ w d low.
          let p = some_pass w passes (omega (arith, low, count)) in
          let put_one = all w d p low in
          let mine : List Block = of_worker (length old) w 0 b.blocks in
          let rose = subst (λ n. RoseBy (failures (of_worker n w 0 b.blocks)) (faults (slice_index_or put w d).source) (faults (slice_index_or done w d).source)) many (b.workers w d (omega (arith, low, many))) in
          subst (λ (x : Place S). RoseBy (failures mine) (faults (slice_index_or old w d).source) (faults x.source)) (sym (one_lost w d low))
          (subst (λ (x : Place S). RoseBy (failures mine) (faults x.source) (faults (slice_index_or done w d).source)) put_one rose);
    }

pub on_ok : {A E : Type 0} (r : Result A E) (P Q : Type 0) → (P → Q) → OnOk r P → OnOk r Q
on_ok (Ok a) P Q f h = f h
on_ok (Err e) P Q f h = h

-- ---- after the fetch of `tileset.json`

rose_earlier : (n before mid now : ℕ) → before ≤ mid → RoseBy n mid now → RoseBy n before now
rose_earlier n before mid now low rose = omega (arith, low, rose)

module _ {S : Type 0} (told : S → Option Files) (faults : S → ℕ) (files : Option Files) (layout : Layout) (input : List ℕ) (old mid new : List (Place S)) (before now : Option (List ℕ))
    (only : OnlyFirst (λ before now. (told now ≡ told before) × (faults before ≤ faults now)) old mid) where
  pub all_since : HasGivenAll faults files layout input mid new before now → HasGivenAll faults files layout input old new before now
  all_since h =
      let same = as_before told faults old mid only in
      record {
        blocks = h.blocks;
        of_lines = h.of_lines;
        given = h.given;
        workers = λ w d low.
            let mine = subst (λ n. HasAnswered Whole layout (of_worker n w 0 h.blocks) (faults (slice_index_or mid w d).source) (faults (slice_index_or new w d).source) [] (slice_index_or new w d).shown)
            same.0 (h.workers w d (omega (arith, low, same.0))) in
            record { failed = rose_earlier _ _ _ _ (same.1 w d low).later mine.failed; walked = mine.walked };
      }

  pub some_since : HasGivenSome faults files layout input mid new before now → HasGivenSome faults files layout input old new before now
  some_since h =
      let same = as_before told faults old mid only in
      record {
        blocks = h.blocks;
        of_lines = h.of_lines;
        given = h.given;
        workers = λ w d low.
            rose_earlier _ _ _ _ (same.1 w d low).later
            (subst (λ n. RoseBy (failures (of_worker n w 0 h.blocks)) (faults (slice_index_or mid w d).source) (faults (slice_index_or new w d).source)) same.0 (h.workers w d (omega (arith, low, same.0))));
      }
