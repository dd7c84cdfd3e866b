-- What a desk becomes whose source is lent for writing (this project's own).
use Rattle.std.specs.Borrow.{Fml, RattleType, MutBor, Lends}
use Rattle.batch_run.specs.Desks.{DeskSeen}
use Rattle.batch_run.specs.contracts.desk.Desk.{the_row}

-- it has the source as it is left, and all else as it was
abbrev pub LendsSource : (S P W : RattleType) → MutBor (DeskSeen S.Denot P.Denot W.Denot) → MutBor S.Denot → Fml
LendsSource S P W desk source = Lends (the_row S P W) S desk source (λ left. record desk.now { source = left })
