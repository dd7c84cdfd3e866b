use Rattle.std.proofs.Common.{◌≡◌, ◌+◌, length}
use Rattle.std.specs.List.{All}
use Rattle.viewer_session.specs.Starts.{IsNewPass}
use Rattle.serve_command.specs.Serving.{AllTell}
use Rattle.serve_command.proofs.serving.make_viewers.Given as goal

abbrev pub invariant-loop : goal.invariant-loop
invariant-loop g l = record {
  many : length l.viewers.items ≡ l.counter;
  left : length l.sources.items + l.counter ≡ l.count;
  as_many : length l.passes.items ≡ length l.sources.items;
  new : All (IsNewPass l.fn.scene) l.passes.items;
  told : AllTell g.S.FileSource.told l.fn.scene.tileset.told l.sources.items;
}
