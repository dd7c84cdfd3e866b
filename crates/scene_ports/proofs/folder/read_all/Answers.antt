use Rattle.std.proofs.Common.{subst, refl, Some, [], IfSome, arith}
use Rattle.scene_ports.specs.Source.{IsFetched}
use Rattle.scene_ports.specs.declared.source.Fetch.TheVariants.{Whole}
use Rattle.scene_ports.proofs.Whole.{whole_file}
use Rattle.scene_ports.proofs.folder.read_all.Goals as goal

pub returns-in-Ok-clause-found : goal.returns-in-Ok-clause-found
returns-in-Ok-clause-found g c =
    subst (λ file. IfSome (g.F.Read.remaining file) (λ bytes. IsFetched (Some bytes) c.args.limit c.read_to_its_end.new.out.items Whole)) c.take-front.ensures.inner
    (whole_file _ c.args.limit c.len.result c.take-front.result.limit [] c.read_to_its_end.new.out.items c.take-front.ensures.limit refl
    (omega (arith, c.len.ensures)) c.if-len-limit.true c.in-Ok.ensures)
