-- What a decision of the code is in the table of replies (this project's own).
use Rattle.std.specs.Prelude.{ℕ, List, codes}
use Rattle.http_front.specs.declared.decided.Decided.{Decided}
use Rattle.http_front.specs.declared.decided.Decided.TheVariants.{BadRequest, NotFound, NotAllowed, Asks}
use Rattle.http_front.specs.Table.{Decision, replies, asks, closing, going_on}

-- where the viewers are asked, for this line
abbrev pub decision_of : Decided → List ℕ → Decision
decision_of BadRequest line = replies (closing 400 (codes "bad request"))
decision_of NotFound line = replies (going_on 404 (codes "not found"))
decision_of NotAllowed line = replies (going_on 405 (codes "method not allowed"))
decision_of (Asks route) line = asks route line
