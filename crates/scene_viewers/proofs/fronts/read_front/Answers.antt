use Rattle.std.proofs.Common.{◌≡◌, List, length, sym, subst, arith, ℕ}
use Rattle.implicit_tiling.specs.Text.{words_text}
use Rattle.tile_coords.specs.Ends.{end_seen}
use Rattle.subtree_outcome.specs.Found.{AreTilesOf}
use Rattle.scene_viewers.specs.Replies.{IsPublishedText}
use Rattle.scene_viewers.proofs.Published.{written, front_read}
use Rattle.scene_viewers.proofs.fronts.read_front.Goals as goal

pub returns-clause-text : goal.returns-clause-text
returns-clause-text c =
    let first = c.page-head.result in
    let page = c.page.result in
    let out = c.page.new.out in
    let len = c.in_ok-words.words.len in
    let same : length out ≡ len = omega (arith, c.page.auto.out, c.as_mut_slice.ensures.len) in
    let layout = c.args.scene.now.tileset.layout in
    subst (λ (ws : List ℕ). IsPublishedText c.args.scene.now.tileset.told layout c.args.cursor.now c.page.new.cursor (words_text layout ws (end_seen layout.scheme first.end)))
    (sym (written out c.in_ok-words.words.items len same))
    (front_read c.args.scene.now c.args.cursor.now c.page-head.new.cursor c.page.new.cursor first.steps first.length first.end page.steps page.length page.end page.count out c.requires.cursor
    c.page-head.ensures.head c.page.ensures.head c.page-head.ensures.near c.page.ensures.near c.page-head.ensures.course c.page-head.ensures.whole
    (omega (arith, same, c.in_ok-words.ensures.len)) (omega (arith, c.page.ensures.count, c.as_mut_slice.ensures.len, c.in_ok-words.ensures.len)) c.page.ensures.words).0

pub returns-clause-words : goal.returns-clause-words
returns-clause-words c =
    let first = c.page-head.result in
    let page = c.page.result in
    let out = c.page.new.out in
    let len = c.in_ok-words.words.len in
    let same : length out ≡ len = omega (arith, c.page.auto.out, c.as_mut_slice.ensures.len) in
    subst (AreTilesOf c.args.scene.now.tileset.layout) (sym (written out c.in_ok-words.words.items len same))
    (front_read c.args.scene.now c.args.cursor.now c.page-head.new.cursor c.page.new.cursor first.steps first.length first.end page.steps page.length page.end page.count out c.requires.cursor
    c.page-head.ensures.head c.page.ensures.head c.page-head.ensures.near c.page.ensures.near c.page-head.ensures.course c.page-head.ensures.whole
    (omega (arith, same, c.in_ok-words.ensures.len)) (omega (arith, c.page.ensures.count, c.as_mut_slice.ensures.len, c.in_ok-words.ensures.len)) c.page.ensures.words).1
