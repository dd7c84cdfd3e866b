use Rattle.std.proofs.Common.{◌≡◌, ℕ, ◌<◌, false, List, [], ◌∷◌, length, refl, sym, ap, subst, ◌∙◌, arith}
use Rattle.std.specs.Prelude.{◌==◌}
use Rattle.std.proofs.lemmas.Bool.{eqb-true, eqb-false}
use Rattle.std.proofs.lemmas.Result.{err_from_is_err_and}
use Rattle.std.proofs.lemmas.Grind.{get_or_default_zero}
use Rattle.implicit_tiling.specs.Code.{word_tile}
use Rattle.implicit_tiling.specs.Tile.{Tile}
use Rattle.implicit_tiling.specs.Scene.{Layout}
use Rattle.tile_builder.specs.Puts.{ArePut, IfTold}
use Rattle.tile_builder.proofs.Steps.{put_top, stop_at_top, root_is, put_root, stop_at_root, root_by_level, other_by_level, few_files, count_more, count_is, all_files}
use Rattle.tile_builder.proofs.builder.put_files.Goals as goal
use Rattle.tile_builder.proofs.builder.put_files.Goals.{then-tile-layout-eq0+in_ok-put_file-2, else-tile-layout-eq0}

some_words : (words : List ℕ) → (length words == 0) ≡ false → 0 < length words
some_words [] e = absurd (eqb-false 0 0 e refl)
some_words (w ∷ words) e = omega arith

-- ---- without words

pub returns-then-is_empty-clause-kept : goal.returns-then-is_empty-clause-kept
returns-then-is_empty-clause-kept g c =
    put_top c.args.layout.now c.args.words.now c.root.result (g.K.FileKeeper.kept c.args.keeper.now) (g.K.FileKeeper.kept c.put_file.new.keeper)
    (eqb-true _ 0 (sym c.if-is_empty.ensures)) c.root.ensures c.in_ok-put_file.ensures.kept

pub returns-in_err-put_file-clause-stopped : goal.returns-in_err-put_file-clause-stopped
returns-in_err-put_file-clause-stopped g c =
    let p = err_from_is_err_and c.from_residual.result c.from_residual.ensures.1 in
    rw (p.1, p.2) (stop_at_top c.args.layout.now c.args.words.now c.root.result (g.K.FileKeeper.kept c.args.keeper.now) (g.K.FileKeeper.kept c.put_file.new.keeper) c.in_err-put_file.field-0.0
    (eqb-true _ 0 (sym c.if-is_empty.ensures)) c.root.ensures c.in_err-put_file.ensures.stopped)

-- ---- at a word

pub put_file-requires-then-tile-layout-eq0-clause-root : goal.put_file-requires-then-tile-layout-eq0-clause-root
put_file-requires-then-tile-layout-eq0-clause-root g c =
    root_is c.args.layout.now c.args.words.now c.loop-word.word-index c.word_tile-tile.result c.requires.words
    (root_by_level c.args.layout.now c.layout.inside.scheme c.args.words.now c.loop-word.word-index c.word_tile-tile.result c.tile.inside.level c.layout.inside.subtree_levels
    c.loop-word-test.true (ap (λ (l : Layout). l.scheme) c.layout.view_is) (c.word_tile-tile.ensures.tile ∙ ap (word_tile c.layout.inside.scheme) (c.word-item.is ∙ get_or_default_zero c.args.words.now c.loop-word.word-index c.word-item.result c.loop-word-test.true)) (ap (λ (t : Tile). t.level) c.tile.view_is)
    (ap (λ (l : Layout). l.subtree_levels) c.layout.view_is) c.if-tile-layout-eq0.true)

pub returns-in_err-put_file-2-clause-stopped : goal.returns-in_err-put_file-2-clause-stopped
returns-in_err-put_file-2-clause-stopped g c =
    let p = err_from_is_err_and c.from_residual-in_err-put_file-2.result c.from_residual-in_err-put_file-2.ensures.1 in
    rw (p.1, p.2) (stop_at_root c.args.layout.now c.args.words.now c.loop-word.word-index c.word_tile-tile.result (g.K.FileKeeper.kept c.args.keeper.now) (g.K.FileKeeper.kept c.loop-word.keeper)
    (g.K.FileKeeper.kept c.put_file-then-tile-layout-eq0.new.keeper) c.in_err-put_file-2.field-0.0
    (root_by_level c.args.layout.now c.layout.inside.scheme c.args.words.now c.loop-word.word-index c.word_tile-tile.result c.tile.inside.level c.layout.inside.subtree_levels
    c.loop-word-test.true (ap (λ (l : Layout). l.scheme) c.layout.view_is) (c.word_tile-tile.ensures.tile ∙ ap (word_tile c.layout.inside.scheme) (c.word-item.is ∙ get_or_default_zero c.args.words.now c.loop-word.word-index c.word-item.result c.loop-word-test.true)) (ap (λ (t : Tile). t.level) c.tile.view_is)
    (ap (λ (l : Layout). l.subtree_levels) c.layout.view_is) c.if-tile-layout-eq0.true)
    c.loop-word.invariant.put c.in_err-put_file-2.ensures.stopped)

pub overflow_add-files : goal.overflow_add-files
overflow_add-files g c = record {
  fits = omega (arith, c.loop-word.invariant.count, few_files c.args.layout.now c.args.words.now c.args.words.now c.loop-word.word-index, c.loop-word-test.true);
}

pub loop-word-preserved : goal.loop-word-preserved
loop-word-preserved g c =
    elim c.if-tile-layout-eq0.branch [
      | then-tile-layout-eq0+in_ok-put_file-2 w ↦
          let at = root_by_level c.args.layout.now c.layout.inside.scheme c.args.words.now c.loop-word.word-index c.word_tile-tile.result c.tile.inside.level c.layout.inside.subtree_levels
          c.loop-word-test.true (ap (λ (l : Layout). l.scheme) c.layout.view_is) (c.word_tile-tile.ensures.tile ∙ ap (word_tile c.layout.inside.scheme) (c.word-item.is ∙ get_or_default_zero c.args.words.now c.loop-word.word-index c.word-item.result c.loop-word-test.true)) (ap (λ (t : Tile). t.level) c.tile.view_is)
          (ap (λ (l : Layout). l.subtree_levels) c.layout.view_is) w.if-tile-layout-eq0.true in
          record {
            put = rw w.keeper-is (put_root c.args.layout.now c.args.words.now c.loop-word.word-index c.word_tile-tile.result (g.K.FileKeeper.kept c.args.keeper.now)
                (g.K.FileKeeper.kept c.loop-word.keeper) (g.K.FileKeeper.kept w.put_file-then-tile-layout-eq0.new.keeper) at c.requires.names c.loop-word.invariant.put
                w.in_ok-put_file-2.ensures.kept);
            count = w.files-is ∙ count_more c.args.layout.now c.args.words.now c.loop-word.word-index c.word_tile-tile.result c.loop-word.files at c.loop-word.invariant.count;
            later = rw w.keeper-is (omega (arith, c.loop-word.invariant.later, w.put_file-then-tile-layout-eq0.ensures.later));
          }
      | else-tile-layout-eq0 w ↦
          let same = other_by_level c.args.layout.now c.layout.inside.scheme c.args.words.now c.loop-word.word-index c.word_tile-tile.result c.tile.inside.level c.layout.inside.subtree_levels
          c.loop-word-test.true (ap (λ (l : Layout). l.scheme) c.layout.view_is) (c.word_tile-tile.ensures.tile ∙ ap (word_tile c.layout.inside.scheme) (c.word-item.is ∙ get_or_default_zero c.args.words.now c.loop-word.word-index c.word-item.result c.loop-word-test.true)) (ap (λ (t : Tile). t.level) c.tile.view_is)
          (ap (λ (l : Layout). l.subtree_levels) c.layout.view_is) w.if-tile-layout-eq0.false in
          record {
            put = rw w.keeper-is (subst (λ fs. IfTold (g.K.FileKeeper.kept c.args.keeper.now) (g.K.FileKeeper.kept c.loop-word.keeper) (ArePut fs)) (sym same) c.loop-word.invariant.put);
            count = w.files-is ∙ c.loop-word.invariant.count ∙ ap length (sym same);
            later = rw w.keeper-is c.loop-word.invariant.later;
          }
    ]

-- ---- behind all words

pub returns-clause-kept : goal.returns-clause-kept
returns-clause-kept g c =
    subst (λ fs. IfTold (g.K.FileKeeper.kept c.args.keeper.now) (g.K.FileKeeper.kept c.loop-word.keeper) (ArePut fs))
    (all_files c.args.layout.now c.args.words.now c.loop-word.word-index (some_words c.args.words.now (sym c.if-is_empty.ensures)) c.loop-word-test.false) c.loop-word.invariant.put

pub returns-clause-files : goal.returns-clause-files
returns-clause-files g c =
    count_is c.args.layout.now c.args.words.now c.loop-word.word-index c.loop-word.files (some_words c.args.words.now (sym c.if-is_empty.ensures)) c.loop-word-test.false
    c.loop-word.invariant.count
