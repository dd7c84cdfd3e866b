use Rattle.std.proofs.Common.{◌≡◌, sym, subst, ◌+◌, ◌*◌, ◌^◌, arith}
use Rattle.tile_word.specs.Words.{IsFurther}
use Rattle.tile_word.proofs.Parts.{further}
use Rattle.tile_word.proofs.word.word_after.Goals as goal

pub returns-clause-further : goal.returns-clause-further
returns-clause-further c =
    let is : c.word.inside.high * 2 ^ 64 + (c.word.inside.low + c.args.count) ≡ c.args.word + c.args.count = omega (arith, c.word.view_is) in
    subst (IsFurther c.args.word c.args.count) (sym is) (further c.args.word c.args.count c.requires.index)
