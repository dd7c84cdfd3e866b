use Rattle.std.proofs.Common.{false, true, ◌∙◌, sym, ◌≡◌, arith, ◌<◌, length}
use Rattle.scene_ports.proofs.Named.{distinct_here, repeated_here}
use Rattle.scene_ports.proofs.pairs.has_distinct_names.Goals as goal

pub returns-then-is_some : goal.returns-then-is_some
returns-then-is_some c =
    let within : c.loop-at.at < length c.args.files.now = omega arith in
    let again = repeated_here c.args.files.now c.loop-at.at c.index-files-at.result _ _ c.index-files-at.is within c.as_str.ensures.value c.place_of.ensures (sym c.is_some.ensures ∙ c.if-is_some.true) in
    ((λ h. absurd (let e : false ≡ true = h in cc)), λ d. absurd (again (c.loop-at.invariant.0 d)))

pub loop-at-preserved : goal.loop-at-preserved
loop-at-preserved c =
    let within : c.loop-at.at < length c.args.files.now = omega arith in
    let here = distinct_here c.args.files.now c.loop-at.at c.index-files-at.result _ _ c.index-files-at.is within c.as_str.ensures.value c.place_of.ensures (sym c.is_some.ensures ∙ c.if-is_some.false) in
    ((λ d. here.0 (c.loop-at.invariant.0 d)), λ d. c.loop-at.invariant.1 (here.1 d))
