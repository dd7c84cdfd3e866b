use Rattle.std.proofs.Common.{subst, sym}
use Rattle.region_cursor.specs.Walked.{IsNextKey}
use Rattle.region_cursor.proofs.Places.{next_key_is}
use Rattle.region_cursor.proofs.Rows.{found_is_root}
use Rattle.region_cursor.proofs.cursor.CursorState.next_key.Goals as goal

pub returns-clause-root : goal.returns-clause-root
returns-clause-root c = found_is_root c.args.self.now c.key.result c.key.ensures.key c.key.ensures.limits

pub returns-clause-scene : goal.returns-clause-scene
returns-clause-scene c = λ s k is.
    subst (λ o. IsNextKey s c.args.self.now.region k o) (sym c.key.ensures.key) (next_key_is s c.args.self.now.region k c.args.self.now is)
