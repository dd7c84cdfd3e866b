use Rattle.std.proofs.Common.{◌≡◌, List, length, sym, subst, arith, ℕ}
use Rattle.std.specs.Prelude.{IfSome}
use Rattle.implicit_tileset.specs.Scene.{scene_of}
use Rattle.tile_word.specs.Answers.{IsAnswer}
use Rattle.subtree_outcome.specs.Found.{AreTilesOf}
use Rattle.viewer_session.proofs.Wholes.{written, all_read}
use Rattle.viewer_session.proofs.scene.Scene.read_all.Goals as goal

pub returns-clause-found : goal.returns-clause-found
returns-clause-found c =
    let page = c.page-page.result in
    let first = c.page-length.result in
    let out = c.page-page.new.out in
    let len = c.in_ok-found.found.len in
    let same : length out ≡ len = omega (arith, c.page-page.auto.out, c.as_mut_slice.ensures.len) in
    subst (AreTilesOf c.args.self.now.tileset.layout) (sym (written out c.in_ok-found.found.items len same))
    (all_read c.args.self.now c.args.cursor.now c.page-length.new.cursor first.steps first.length first.end page.steps page.length page.end page.count len out c.requires.ended
    c.page-length.ensures.head c.page-length.ensures.near c.page-page.ensures.near c.page-page.ensures.course c.in_ok-found.ensures.len same
    (omega (arith, c.page-page.ensures.count, c.as_mut_slice.ensures.len)) c.page-page.ensures.words c.page-page.ensures.whole).0

pub returns-clause-answer : goal.returns-clause-answer
returns-clause-answer c =
    let page = c.page-page.result in
    let first = c.page-length.result in
    let out = c.page-page.new.out in
    let len = c.in_ok-found.found.len in
    let same : length out ≡ len = omega (arith, c.page-page.auto.out, c.as_mut_slice.ensures.len) in
    subst (λ (ws : List ℕ). IfSome c.args.self.now.tileset.told (λ all. IsAnswer (scene_of all c.args.self.now.tileset.layout) c.args.cursor.now.plan.region ws page.end))
    (sym (written out c.in_ok-found.found.items len same))
    (all_read c.args.self.now c.args.cursor.now c.page-length.new.cursor first.steps first.length first.end page.steps page.length page.end page.count len out c.requires.ended
    c.page-length.ensures.head c.page-length.ensures.near c.page-page.ensures.near c.page-page.ensures.course c.in_ok-found.ensures.len same
    (omega (arith, c.page-page.ensures.count, c.as_mut_slice.ensures.len)) c.page-page.ensures.words c.page-page.ensures.whole).1
