-- At a level that isn't looked at nothing is in the region.
use Rattle.std.proofs.Common.{◌++◌, ◌∙◌, [], sym, ap, append-nil, length, take, arith}
use Rattle.std.specs.Prelude.{nat_lt}
use Rattle.region_scan.proofs.NodeTiles.{no_tiles}
use Rattle.region_scan.proofs.Scan.{within_limit}
use Rattle.region_scan.proofs.level.level_tiles.Goals as goal

pub returns-then-not-is_looked_at-clause-appended : goal.returns-then-not-is_looked_at-clause-appended
returns-then-not-is_looked_at-clause-appended c =
    let nothing = no_tiles c.args.subtree.now c.args.local c.args.region.now (sym c.is_looked_at.ensures ∙ c.if-not-is_looked_at.true) in
    sym (ap (λ xs. c.args.out.now.items ++ take c.args.limit xs) nothing
    ∙ ap (λ xs. c.args.out.now.items ++ xs) (sym (within_limit [] c.args.limit (omega arith)).0) ∙ append-nil c.args.out.now.items)

pub returns-then-not-is_looked_at-clause-more : goal.returns-then-not-is_looked_at-clause-more
returns-then-not-is_looked_at-clause-more c =
    let nothing = no_tiles c.args.subtree.now c.args.local c.args.region.now (sym c.is_looked_at.ensures ∙ c.if-not-is_looked_at.true) in
    (within_limit [] c.args.limit (omega arith)).1 ∙ sym (ap (λ xs. nat_lt c.args.limit (length xs)) nothing)
