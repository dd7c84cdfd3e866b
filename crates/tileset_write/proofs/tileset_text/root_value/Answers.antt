use Rattle.std.proofs.Common.{◌∙◌, codes, ap, ap₂, subst}
use Rattle.std.specs.List.{All}
use Rattle.serde_json.specs.Data.{put}
use Rattle.serde_json.specs.View.{members_view}
use Rattle.serde_json.proofs.Views.{view-Object}
use Rattle.implicit_tiling.specs.Scene.{Layout}
use Rattle.tileset_write.specs.LayoutText.{implicit_value, root_value, IsTemplateText}
use Rattle.tileset_write.specs.LayoutMembers.{put_contents}
use Rattle.tileset_write.proofs.LayoutMade.{root_made}
use Rattle.tileset_write.proofs.LayoutKept.{layout_kept}
use Rattle.tileset_write.proofs.tileset_text.root_value.Goals as goal

pub returns-clause-value : goal.returns-clause-value
returns-clause-value c =
    let i = c.layout.inside in
    let implicit = implicit_value i.scheme i.subtree_levels i.levels i.subtree in
    let m₁ = members_view c.put.new.map.entries in
    let m₂ = members_view c.put_contents.new.members.entries in
    let m₃ = members_view c.put-2.new.map.entries in
    let m₄ = members_view c.put-3.new.map.entries in
    let m₅ = members_view c.put-4.new.map.entries in
    view-Object c.put-4.new.map ∙ root_made i.contents.items implicit m₁ m₂ m₃ m₄ m₅
    (c.in_ok-put.ensures.ok ∙ ap₂ (λ d ms. put (codes "boundingVolume") d ms) c.in_ok-box_value.ensures (ap members_view c.new-members.ensures.empty))
    (c.in_ok-put_contents.ensures.members ∙ ap (λ l. put_contents l m₁) c.deref.ensures.value)
    (c.in_ok-put-2.ensures.ok ∙ ap (λ d. put (codes "geometricError") d m₂) c.from.ensures)
    (c.in_ok-put-3.ensures.ok ∙ ap (λ d. put (codes "implicitTiling") d m₃) c.in_ok-implicit.ensures.value)
    (c.in_ok-put-4.ensures.ok ∙ ap (λ d. put (codes "refine") d m₄) c.in_ok-text_value.ensures)
    ∙ ap (λ (l : Layout). root_value l.contents (implicit_value l.scheme l.subtree_levels l.levels l.subtree)) c.layout.view_is

pub returns-clause-layout : goal.returns-clause-layout
returns-clause-layout c =
    layout_kept _ c.args.layout.now c.layout.view_is c.layout.invariant c.in_ok-implicit.ensures.template
    (subst (All IsTemplateText) c.deref.ensures.value c.in_ok-put_contents.ensures.templates)
