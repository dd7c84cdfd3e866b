use Rattle.std.proofs.Common.{◌≡◌, ◌≤◌, length, take}
use Rattle.tile_builder.specs.Puts.{ArePut, IfTold}
use Rattle.tile_builder.proofs.Steps.{files_of_words}
use Rattle.tile_builder.proofs.builder.put_files.Given as goal

abbrev pub invariant-loop-word : goal.invariant-loop-word
invariant-loop-word g l = record {
  put : IfTold (g.K.FileKeeper.kept l.initial.keeper) (g.K.FileKeeper.kept l.keeper) (ArePut (files_of_words l.layout l.words (take l.word-index l.words)));
  count : l.files ≡ length (files_of_words l.layout l.words (take l.word-index l.words));
  later : g.K.FileKeeper.faults l.initial.keeper ≤ g.K.FileKeeper.faults l.keeper;
}
