use Rattle.std.proofs.Common.{inr}
use Rattle.commands.proofs.Making.{left_whole, left_in_memory, left_made, first_made, made_front}
use Rattle.commands.proofs.make.run.Goals as goal

pub returns-in-Ok-write_made-clause-leaves : goal.returns-in-Ok-write_made-clause-leaves
returns-in-Ok-write_made-clause-leaves g c = left_made _ _ c.args.recipe.now c.in-Ok.ensures.kept c.in-Ok.ensures.layout c.in-Ok.ensures.holds

pub returns-in-Err-WriteFault-clause-replies : goal.returns-in-Err-WriteFault-clause-replies
returns-in-Err-WriteFault-clause-replies g c = made_front c.args.recipe.now c.in-Ok.built.files c.in-Ok.built.tiles _ _ c.in-Ok.ensures.files c.in-Ok.ensures.tiles c.write_made.ensures.front

pub returns-in-Err-WriteFault-clause-leaves : goal.returns-in-Err-WriteFault-clause-leaves
returns-in-Err-WriteFault-clause-leaves g c = left_whole _ _ c.args.recipe.now c.in-Ok.ensures.kept

pub returns-in-Err-Memory-write_made-clause-replies : goal.returns-in-Err-Memory-write_made-clause-replies
returns-in-Err-Memory-write_made-clause-replies g c = made_front c.args.recipe.now c.in-Ok.built.files c.in-Ok.built.tiles _ _ c.in-Ok.ensures.files c.in-Ok.ensures.tiles c.write_made.ensures.front

pub returns-in-Err-Memory-write_made-clause-leaves : goal.returns-in-Err-Memory-write_made-clause-leaves
returns-in-Err-Memory-write_made-clause-leaves g c = left_in_memory _ _ c.args.recipe.now c.in-Ok.ensures.kept

pub returns-in-Ok-write_made-clause-first : goal.returns-in-Ok-write_made-clause-first
returns-in-Ok-write_made-clause-first g c = first_made _ _ c.args.recipe.now _ c.in-Ok.ensures.kept c.in-Ok.ensures.layout c.in-Ok.ensures.holds

pub returns-in-Err-WriteFault-clause-first : goal.returns-in-Err-WriteFault-clause-first
returns-in-Err-WriteFault-clause-first g c = first_made _ _ c.args.recipe.now _ c.in-Ok.ensures.kept c.in-Ok.ensures.layout c.in-Ok.ensures.holds

pub returns-in-Err-Memory-write_made-clause-first : goal.returns-in-Err-Memory-write_made-clause-first
returns-in-Err-Memory-write_made-clause-first g c = first_made _ _ c.args.recipe.now _ c.in-Ok.ensures.kept c.in-Ok.ensures.layout c.in-Ok.ensures.holds

-- where the outlet alone failed, all files were put
pub returns-in-Err-WriteFault-clause-all_put : goal.returns-in-Err-WriteFault-clause-all_put
returns-in-Err-WriteFault-clause-all_put g c = λ failed. inr (left_made _ _ c.args.recipe.now c.in-Ok.ensures.kept c.in-Ok.ensures.layout c.in-Ok.ensures.holds)
