use Rattle.tiling_laws.proofs.Walk.{answer_reads_the_walk}
use Rattle.tiling_laws.proofs.availability_laws.an_answer_reads_its_walk_alone.Goals as goal

pub returns : goal.returns
returns c = answer_reads_the_walk
