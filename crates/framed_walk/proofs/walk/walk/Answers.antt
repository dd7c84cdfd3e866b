use Rattle.std.proofs.Common.{◌≡◌, ◌∙◌, ℕ, ◌++◌, ◌∷◌, [], List, rules, refl, ap, sym, subst, arith, Option, Some, length, length-append}
use Rattle.std.specs.Prelude.{IfSome}
use Rattle.implicit_tiling.specs.declared.Scheme.{Scheme}
use Rattle.implicit_tiling.specs.Files.{Files}
use Rattle.implicit_tiling.specs.Code.{word_tile}
use Rattle.implicit_tileset.specs.Scene.{scene_of}
use Rattle.region_cursor.specs.Cursor.{IsRootKey, cursor_key, next_root}
use Rattle.subtree_outcome.specs.Outcomes.{outcome_seen}
use Rattle.tile_word.specs.Answers.{IsAnswer}
use Rattle.region_cursor.proofs.Callers.{walk_stays, next_root_of_key, outcome_fits, ends_within}
use Rattle.subtree_outcome.proofs.Reading.{of_told, both_told}
use Rattle.subtree_outcome.proofs.Orphans.{files_have_none}
use Rattle.framed_walk.specs.Frames.{IsHeld}
use Rattle.region_cursor.specs.Joined.{HasWalked}
use Rattle.framed_walk.proofs.Turns.{seen, at_rest_again}
use Rattle.region_cursor.proofs.Joined.{leaves_after, found_more, not_partial, goes_on_by_one, is_answer}
use Rattle.region_cursor.specs.Walked.{IsAt, IsNextKey}
use Rattle.subtree_outcome.proofs.Counting.{stays as count_stays}
use Rattle.framed_walk.proofs.Reading.{read_more, keys_more, none_read, IsWalkedBy, all_keys}
use Rattle.framed_walk.proofs.walk.walk.Goals as goal

pub loop-next-init : goal.loop-next-init
loop-next-init g c =
    let layout = c.args.layout.now in
    let cursor = c.args.cursor.now in
    record {
      rest = c.requires.rest;
      of_layout = c.requires.of_layout;
      within = search rules;
      count = search rules;
      next_is = search rules;
      root = search rules;
      few = search rules;
      found = search rules;
      end_is = search rules;
      over = search rules;
      read = (
        [],
        none_read layout (g.S.FileSource.told c.args.files.now) c.args.pool.now _,
        of_told (g.S.FileSource.told c.args.files.now) (λ files. IsAt (scene_of files layout) cursor.region 0 cursor) _
            (λ files at. record {
              walked = record { made = 0; at = at; next_is = c.next_key-next.ensures.scene (scene_of files layout) 0 at; words_are = c.requires.empty; end_is = refl };
              keys_are = refl;
            }) c.requires.at,
      );
      sure = search rules;
      later = search rules;
      same = search rules;
    }

pub step-requires-clause-fits : goal.step-requires-clause-fits
step-requires-clause-fits g c =
    let inv = c.loop-next.invariant in
    let cursor = c.loop-next.cursor in
    let at : cursor_key cursor ≡ Some c.in-Some.key = sym inv.next_is ∙ c.in-Some.is in
    let root = subst (λ o. IfSome o (IsRootKey cursor)) c.in-Some.is inv.root in
    let outcome = seen c.args.layout.now (g.S.FileSource.told c.loop-next.files) c.hold.new.pool c.in-Some.key c.in_ok-frame.frame c.look.result.now c.in_ok-frame.ensures.held c.look.ensures in
    outcome_fits c.args.layout.now c.args.cursor.now.region cursor c.in-Some.key c.look.result.now inv.of_layout at root outcome.read

pub loop-next-smaller : goal.loop-next-smaller
loop-next-smaller g c =
    let inv = c.loop-next.invariant in
    let cursor = c.loop-next.cursor in
    let at : cursor_key cursor ≡ Some c.in-Some.key = sym inv.next_is ∙ c.in-Some.is in
    let left = leaves_after cursor c.step.new.self c.look.result.now c.in-Some.key c.step.new.words.items at inv.within c.in_ok-end.ensures.after c.in_ok-end.ensures.words in
    left.lower 18446744073709551616 c.next_key-next-in-Some.ensures.few

pub loop-next-preserved : goal.loop-next-preserved
loop-next-preserved g c =
    let inv = c.loop-next.invariant in
    let layout = c.args.layout.now in
    let region = c.args.cursor.now.region in
    let told = g.S.FileSource.told c.args.files.now in
    let cursor = c.loop-next.cursor in
    let keys = inv.read.0 in
    let key = c.in-Some.key in
    let after = c.step.new.self in
    let words = c.loop-next.words.items in
    let more = c.step.new.words.items in
    let all = c.extend_from_slice.new.self.items in
    let at : cursor_key cursor ≡ Some c.in-Some.key = sym inv.next_is ∙ c.in-Some.is in
    let held = subst (λ (t : Option Files). IsHeld layout t c.in-Some.key c.in_ok-frame.frame c.hold.new.pool) inv.same c.in_ok-frame.ensures.held in
    let outcome = seen layout told c.hold.new.pool c.in-Some.key c.in_ok-frame.frame c.look.result.now held c.look.ensures in
    let left = leaves_after cursor after c.look.result.now c.in-Some.key more at inv.within c.in_ok-end.ensures.after c.in_ok-end.ensures.words in
    let stays = walk_stays layout region cursor after inv.of_layout c.in_ok-end.ensures.same in
    let is : all ≡ words ++ more = subst (λ (ws : List ℕ). all ≡ words ++ ws) c.deref.ensures.value c.in_ok-extend_from_slice.ensures.items in
    let root_is : next_root cursor ≡ word_tile layout.scheme c.in-Some.key =
    next_root_of_key cursor c.in-Some.key at ∙ ap (λ (e : Scheme). word_tile e c.in-Some.key) inv.of_layout.same_scheme in
    record {
      rest = at_rest_again layout told c.hold.new.pool c.in-Some.key c.in_ok-frame.frame held c.unpin.new.self c.unpin.ensures.after;
      of_layout = stays;
      within = left.within;
      count = omega (arith, left.count, inv.count, ap length is, length-append words more);
      next_is = c.next_key-next-in-Some.ensures.key;
      root = c.next_key-next-in-Some.ensures.root;
      few = c.next_key-next-in-Some.ensures.few;
      found = found_more layout region cursor words more all inv.found inv.count inv.of_layout c.in_ok-end.ensures.are_words c.in_ok-end.ensures.few is;
      end_is = ends_within layout region cursor (word_tile layout.scheme key) c.look.result.now c.in_ok-end.end inv.of_layout outcome.read c.in_ok-end.ensures.root;
      over = λ none partial. not_partial cursor c.look.result.now (sym c.in_ok-end.ensures.end ∙ partial)
          (ap cursor_key (sym c.in_ok-end.ensures.after) ∙ sym c.next_key-next-in-Some.ensures.key ∙ none);
      read = (
        keys ++ key ∷ [],
        read_more layout told (g.S.FileSource.told c.loop-next.files) c.args.pool.now keys c.loop-next.pool key c.in_ok-frame.frame c.hold.new.pool c.unpin.new.self _ _ _ inv.read.1 c.in_ok-frame.ensures.turn inv.same c.unpin.ensures.after,
        both_told told
            (λ files. IsWalkedBy (scene_of files layout) region cursor c.loop-next.next words c.loop-next.end keys)
            (λ files. (scene_of files layout).outcome (word_tile layout.scheme c.in-Some.key) ≡ outcome_seen c.look.result.now)
            (λ files. IsWalkedBy (scene_of files layout) region after c.next_key-next-in-Some.result all c.in_ok-end.end (keys ++ key ∷ []))
            (λ files w o.
            let s = scene_of files layout in
            let read : outcome_seen c.look.result.now ≡ s.outcome (next_root cursor) = sym o ∙ ap s.outcome (sym root_is) in
            let goes = goes_on_by_one s region cursor after c.loop-next.next c.next_key-next-in-Some.result words more all c.loop-next.end c.in_ok-end.end inv.of_layout.same_region stays.same_region
            (λ k stands. c.in_ok-end.ensures.scene s k (files_have_none files layout) stands read)
            (λ k stands. c.next_key-next-in-Some.ensures.scene s k stands) is w.walked in
            let at_key = subst (λ (o : Option ℕ). IsNextKey s region w.walked.made o) c.in-Some.is w.walked.next_is in
            record { walked = goes.0; keys_are = keys_more s region w.walked.made goes.0.made key keys w.keys_are at_key goes.1 })
            inv.read.2 outcome.of_scene,
      );
      sure = count_stays c.hold.result _ _ _ _ _ c.in_ok-frame.was c.hold.ensures.sure inv.sure;
      later = search rules;
      same = search rules;
    }

pub returns-clause-fetched : goal.returns-clause-fetched
returns-clause-fetched g c =
    let layout = c.args.layout.now in
    let region = c.args.cursor.now.region in
    let read = c.loop-next.invariant.read in (
      read.0,
      read.1,
      of_told (g.S.FileSource.told c.args.files.now)
          (λ files. IsWalkedBy (scene_of files layout) region c.loop-next.cursor c.loop-next.next c.loop-next.words.items c.loop-next.end read.0) _
          (λ files w. all_keys (scene_of files layout) region c.loop-next.cursor c.loop-next.words.items c.loop-next.end read.0
          (subst (λ (o : Option ℕ). IsWalkedBy (scene_of files layout) region c.loop-next.cursor o c.loop-next.words.items c.loop-next.end read.0) c.in_default.is w))
          read.2,
    )

pub returns-clause-answer : goal.returns-clause-answer
returns-clause-answer g c =
    let layout = c.args.layout.now in
    let region = c.args.cursor.now.region in
    let inv = c.loop-next.invariant in
    of_told (g.S.FileSource.told c.args.files.now)
    (λ files. IsWalkedBy (scene_of files layout) region c.loop-next.cursor c.loop-next.next c.loop-next.words.items c.loop-next.end inv.read.0)
    (λ files. IsAnswer (scene_of files layout) region c.loop-next.words.items c.loop-next.end)
    (λ files w. is_answer (scene_of files layout) region c.loop-next.cursor c.loop-next.words.items c.loop-next.end
    (subst (λ (o : Option ℕ). HasWalked (scene_of files layout) region c.loop-next.cursor o c.loop-next.words.items c.loop-next.end) c.in_default.is w.walked)
    inv.end_is c.requires.of_layout.some_levels c.requires.region)
    inv.read.2
