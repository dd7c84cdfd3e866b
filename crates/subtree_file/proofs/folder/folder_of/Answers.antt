use Rattle.std.proofs.Common.{sym}
use Rattle.subtree_file.proofs.Slashes.{by_split, ok_same}
use Rattle.subtree_file.proofs.folder.folder_of.Goals as goal

pub returns : goal.returns
returns c = ok_same c.folder_from.result _ _ (sym (by_split c.args.name.now c.rsplit_once-split.result c.rsplit_once-split.ensures.cases)) c.folder_from.ensures
