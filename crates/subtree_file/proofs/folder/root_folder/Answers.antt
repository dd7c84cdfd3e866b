use Rattle.std.proofs.Common.{ap}
use Rattle.implicit_tiling.specs.Scene.{Layout}
use Rattle.implicit_tileset.specs.BufferFiles.{folder_of}
use Rattle.subtree_file.proofs.Slashes.{name_is, ok_same}
use Rattle.subtree_file.proofs.folder.root_folder.Goals as goal

pub returns : goal.returns
returns c =
    let scheme = ap (λ (l : Layout). l.scheme) c.layout.view_is in
    let template = ap (λ (l : Layout). l.subtree) c.layout.view_is in
    let name = name_is c.args.layout.now c.args.root _ _ _ _ _ _ _ c.as_str.ensures.value c.in_ok-fill.ensures.filled c.new-name.ensures.bytes c.axes.ensures scheme template c.root.view_is in
    ok_same c.folder_of.result _ _ (ap folder_of name) c.folder_of.ensures
