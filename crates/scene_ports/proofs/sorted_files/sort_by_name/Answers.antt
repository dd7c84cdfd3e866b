use Rattle.std.proofs.Common.{rules}
use Rattle.std.specs.Prelude.{MatchBool}
use Rattle.std.proofs.lemmas.List.Sorted.{answers_always}
use Rattle.scene_ports.specs.Files.{files_of, HasDistinctNames}
use Rattle.scene_ports.specs.Places.{IsSortedByName}
use Rattle.scene_ports.proofs.ByName.{is_before, told_by_neighbours, distinct_told, sorted_told, sorted_distinct, same_told}
use Rattle.scene_ports.proofs.sorted_files.sort_by_name.Goals as goal

told : (c : goal.After-is_sorted_by) → MatchBool c.is_sorted_by.result (IsSortedByName (files_of c.sort_unstable.new.self.items)) (HasDistinctNames (files_of c.sort_unstable.new.self.items) → ⊥)
told c =
    told_by_neighbours c.sort_unstable.new.self.items c.is_sorted_by.result c.sort_unstable.ensures.sorted
    (rw (← c.deref.ensures.value) (c.is_sorted_by.ensures.cases is_before (answers_always _ _ _ (λ f a r f' called. search rules))))

pub returns-clause-distinct : goal.returns-clause-distinct
returns-clause-distinct c = distinct_told c.args.files.now.items c.sort_unstable.new.self.items c.is_sorted_by.result c.sort_unstable.ensures.permutation (told c)

pub returns-clause-names : goal.returns-clause-names
returns-clause-names c answered = sorted_distinct (files_of c.sort_unstable.new.self.items) (sorted_told c.sort_unstable.new.self.items c.is_sorted_by.result (told c) answered)

pub returns-clause-sorted : goal.returns-clause-sorted
returns-clause-sorted c = sorted_told c.sort_unstable.new.self.items c.is_sorted_by.result (told c)

pub returns-clause-same : goal.returns-clause-same
returns-clause-same c answered = same_told c.args.files.now.items c.sort_unstable.new.self.items c.sort_unstable.ensures.permutation (sorted_told c.sort_unstable.new.self.items c.is_sorted_by.result (told c) answered)
