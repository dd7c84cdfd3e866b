use Rattle.std.proofs.Common.{◌≡◌, ◌∙◌, ◌≤◌, refl, sym, ap, subst, arith}
use Rattle.implicit_tiling.specs.Scene.{Layout}
use Rattle.walk_course.specs.Course.{IsHead}
use Rattle.walk_course.specs.declared.tag.WalkTag.{WalkTag}
use Rattle.viewer_session.specs.declared.scene.Scene.TheInside.{Inside}
use Rattle.viewer_session.specs.Sessions.{SceneSeen, tag_in}
use Rattle.viewer_session.proofs.Wholes.{head_is_whole}
use Rattle.viewer_session.proofs.scene.Scene.page.Goals as goal

pub returns-clause-whole : goal.returns-clause-whole
returns-clause-whole c =
    let plan = c.args.cursor.now.plan in
    let tag = tag_in c.args.self.now plan in
    let page = c.page.result in
    let layout_is : c.args.self.now.tileset.layout ≡ c.self.inside.walks.layout =
    ap (λ (s : SceneSeen). s.tileset.layout) (sym c.self.view_is) ∙ c.self.invariant.0 in
    let subtree_levels = ap (λ (l : Layout). l.subtree_levels) layout_is in
    let levels = ap (λ (l : Layout). l.levels) layout_is in
    let own_subtree_levels = ap (λ (i : Inside). i.walks.layout.subtree_levels) c.self-inside.view_is in
    let own_levels = ap (λ (i : Inside). i.walks.layout.levels) c.self-inside.view_is in
    let some : 1 ≤ tag.layout.subtree_levels = omega (arith, c.self-inside.invariant.some_subtree_levels, subtree_levels, own_subtree_levels) in
    let some_levels : 1 ≤ tag.layout.levels = omega (arith, c.self-inside.invariant.some_levels, levels, own_levels) in
    head_is_whole tag plan page.steps page.length page.end some some_levels refl c.requires.cursor.fits
    (subst (λ (t : WalkTag). IsHead t page.steps page.length page.end) c.requires.cursor.of_scene c.page.ensures.course)
