-- The table of faults in the steps in which it is looked at.
use Rattle.std.proofs.Common.{◌≡◌, ℕ, Bool, true, false, List, refl, sym, ap, ◌∙◌}
use Rattle.std.specs.Prelude.{Option, Some, None, Result, Ok, Err}
use Rattle.std.specs.List.{list_any}
use Rattle.availability.specs.Rules.{fault_from, rule_fault}
use Rattle.availability.specs.declared.subtree.RuleFault.{RuleFault}
use Rattle.availability.specs.declared.subtree.RuleFault.TheVariants.{ParentMissing, ContentWithoutTile}
use Rattle.implicit_tiling.specs.Checks.{need, refuse}
use Rattle.implicit_tiling.specs.Tile.{Tile}
use Rattle.implicit_tiling.specs.Scene.{Layout}
use Rattle.implicit_tiling.specs.Subtree.{Subtree, has_orphan, has_content_alone}
use Rattle.implicit_tileset.specs.Record.{Availability, SubtreeRecord}
use Rattle.implicit_tileset.specs.SubtreeFile.{Used, is_out, is_short, wanted_contents, used_of, subtree_checked, and_then}
use Rattle.implicit_tileset.specs.FileOutcome.{Sources, held_at, subtree_at, bits_checked}
use Rattle.subtree_file.specs.declared.fault.DecodeFault.{DecodeFault}
use Rattle.subtree_file.specs.declared.fault.DecodeFault.TheVariants.{Fault, Memory}
use Rattle.subtree_file.specs.Faults.{bits_fault_number, fault_of_rule}
use Rattle.subtree_file.specs.Decoding.{Decodes, AreUsed, views_checked, subtree_counted, subtree_placed}
use Rattle.subtree_file.proofs.Viewed.{miscounted}

-- ---- the rows from 14 on

abbrev two : Bool → Bool → Result (Unit {0}) ℕ
two b14 b15 = refuse 14 b14 (refuse 15 b15 (Ok tt))

rows : (b14 b15 b16 : Bool) (s : Subtree)
    → refuse 14 b14 (refuse 15 b15 (refuse 16 b16 (subtree_checked s)))
    ≡ and_then (two b14 b15) (λ done. and_then (refuse 16 b16 (Ok s)) subtree_checked)
rows true b15 b16 s = refl
rows false true b16 s = refl
rows false false true s = refl
rows false false false s = refl

by_contents : (layout : Layout) (root : Tile) (s : Sources) (used : List Used) (found : Option (List Availability)) (are : AreUsed layout s.parts used) → Some are.contents ≡ found
    → need 11 found (λ contents. bits_checked layout root s contents used)
    ≡ and_then (views_checked s used) (λ done. and_then (need 11 found (λ contents. refuse 16 (list_any (miscounted s) (used_of layout s.parts contents)) (Ok (subtree_at layout root s contents)))) subtree_checked)
by_contents layout root s used None are is = cc
by_contents layout root s used (Some contents) are is =
    let same : are.contents ≡ contents = cc in
    let all : used ≡ used_of layout s.parts contents = are.are ∙ ap (used_of layout s.parts) same in
    rows (list_any (λ u. is_out (held_at s u.availability) u.availability) used)
    (list_any (λ u. is_short (held_at s u.availability) u) used)
    (list_any (miscounted s) used)
    (subtree_at layout root s contents)
    ∙ ap (λ us. and_then (views_checked s used) (λ done. and_then (refuse 16 (list_any (miscounted s) us) (Ok (subtree_at layout root s contents))) subtree_checked)) all

pub placed-in_steps : (layout : Layout) (root : Tile) (s : Sources) (used : List Used) → AreUsed layout s.parts used
    → subtree_placed layout root s used ≡ and_then (views_checked s used) (λ done. and_then (subtree_counted layout root s) subtree_checked)
placed-in_steps layout root s used are = by_contents layout root s used (wanted_contents layout s.parts) are (sym are.wanted)

-- ---- the rules between bits

rules_err : (orphan alone : Bool) (s : Subtree) (fault : RuleFault) → fault_from orphan alone ≡ Err fault → refuse 17 orphan (refuse 18 alone (Ok s)) ≡ Err (bits_fault_number (fault_of_rule fault))
rules_err true alone s fault is = let same : ParentMissing ≡ fault = cc in ap (λ f. Err (bits_fault_number (fault_of_rule f))) same
rules_err false true s fault is = let same : ContentWithoutTile ≡ fault = cc in ap (λ f. Err (bits_fault_number (fault_of_rule f))) same
rules_err false false s fault is = cc

pub checked-err : (s : Subtree) (fault : RuleFault) → rule_fault s ≡ Err fault → subtree_checked s ≡ Err (bits_fault_number (fault_of_rule fault))
checked-err s fault is = rules_err (has_orphan s) (has_content_alone s) s fault is

-- ---- the answers of the steps

pub views_err : (layout : Layout) (root : Tile) (s : Sources) (used : List Used) (fault : DecodeFault) → AreUsed layout s.parts used
    → Decodes (views_checked s used) (Err fault) → Decodes (subtree_placed layout root s used) (Err fault)
views_err layout root s used Memory are is = tt
views_err layout root s used (Fault n) are is = placed-in_steps layout root s used are ∙ ap (λ r. and_then r (λ done. and_then (subtree_counted layout root s) subtree_checked)) is

pub counted_err : (layout : Layout) (root : Tile) (s : Sources) (used : List Used) (fault : DecodeFault) → AreUsed layout s.parts used
    → views_checked s used ≡ Ok tt → Decodes (subtree_counted layout root s) (Err fault) → Decodes (subtree_placed layout root s used) (Err fault)
counted_err layout root s used Memory are is_placed is = tt
counted_err layout root s used (Fault n) are is_placed is =
    placed-in_steps layout root s used are
    ∙ ap (λ r. and_then r (λ done. and_then (subtree_counted layout root s) subtree_checked)) is_placed
    ∙ ap (λ r. and_then r subtree_checked) is

pub broken : (layout : Layout) (root : Tile) (s : Sources) (used : List Used) (found : Subtree) (fault : RuleFault) → AreUsed layout s.parts used
    → views_checked s used ≡ Ok tt → subtree_counted layout root s ≡ Ok found → rule_fault found ≡ Err fault
    → subtree_placed layout root s used ≡ Err (bits_fault_number (fault_of_rule fault))
broken layout root s used found fault are is_placed is_counted is_broken =
    placed-in_steps layout root s used are
    ∙ ap (λ r. and_then r (λ done. and_then (subtree_counted layout root s) subtree_checked)) is_placed
    ∙ ap (λ r. and_then r subtree_checked) is_counted
    ∙ checked-err found fault is_broken

whole_rules : (orphan alone : Bool) (s : Subtree) → fault_from orphan alone ≡ Ok tt → refuse 17 orphan (refuse 18 alone (Ok s)) ≡ Ok s
whole_rules true alone s is = cc
whole_rules false true s is = cc
whole_rules false false s is = refl

pub unbroken : (layout : Layout) (root : Tile) (s : Sources) (used : List Used) (found : Subtree) → AreUsed layout s.parts used
    → views_checked s used ≡ Ok tt → subtree_counted layout root s ≡ Ok found → rule_fault found ≡ Ok tt → subtree_placed layout root s used ≡ Ok found
unbroken layout root s used found are is_placed is_counted is_whole =
    placed-in_steps layout root s used are
    ∙ ap (λ r. and_then r (λ done. and_then (subtree_counted layout root s) subtree_checked)) is_placed
    ∙ ap (λ r. and_then r subtree_checked) is_counted
    ∙ whole_rules (has_orphan found) (has_content_alone found) found is_whole

-- ---- what is used

pub are_used : (layout : Layout) (r : SubtreeRecord) (used : List Used) (found : Option (List Availability)) → wanted_contents layout r ≡ found
    → need 11 found (λ contents. Ok (used_of layout r contents)) ≡ Ok used → AreUsed layout r used
are_used layout r used None wanted is = cc
are_used layout r used (Some contents) wanted is = record { contents = contents; wanted = wanted; are = let same : used_of layout r contents ≡ used = cc in sym same }
