-- The definitions, computed on small inputs.
use Rattle.std.proofs.Common.{◌≡◌, ℕ, List, [], ◌∷◌, ◌++◌, true, false, refl, codes, None}
use Rattle.std.specs.Fmt.{digits}
use Rattle.implicit_tiling.specs.declared.Scheme.TheVariants.{Quad}
use Rattle.implicit_tiling.specs.Scene.{Layout}
use Rattle.implicit_tiling.specs.Text.{line}
use Rattle.request_text.specs.Input.{input_lines}
use Rattle.batch_blocks.specs.Workers.{worker_of, of_worker}
use Rattle.batch_blocks.specs.Blocks.{Block, IsBlock, text_of_blocks, failures}

-- three workers: the lines take turns, and begin anew with each round of 64
turns : of_worker {X = ℕ} 3 1 0 (10 ∷ 11 ∷ 12 ∷ 13 ∷ 14 ∷ []) ≡ 11 ∷ 14 ∷ []
turns = refl

one_worker_has_all : of_worker {X = ℕ} 1 0 0 (10 ∷ 11 ∷ 12 ∷ []) ≡ 10 ∷ 11 ∷ 12 ∷ []
one_worker_has_all = refl

the_last_of_a_round : worker_of 3 63 ≡ 0
the_last_of_a_round = refl

the_first_of_the_next : worker_of 3 64 ≡ 0
the_first_of_the_next = refl

more_workers_than_lines : of_worker {X = ℕ} 64 63 0 (10 ∷ 11 ∷ []) ≡ []
more_workers_than_lines = refl

layout : Layout
layout = record { scheme = Quad; subtree_levels = 2; levels = 2; subtree = codes "s/{level}/{x}/{y}.subtree"; contents = [] }

refused : Block
refused = record { line = codes "1 1,0 0,0"; failed = false; text = line (codes "refused" ∷ codes "4" ∷ []) }

refused_by_rule_4 : IsBlock None layout refused
unfolding digits refused layout
refused_by_rule_4 = (refl, refl)

read_fault : Block
read_fault = record { line = codes "1 0,0 1,1"; failed = true; text = codes "read-fault" ++ 10 ∷ [] }

a_failed_read : IsBlock None layout read_fault
unfolding layout read_fault
a_failed_read = refl

both : text_of_blocks (refused ∷ read_fault ∷ []) ≡ codes "refused" ++ (9 ∷ 52 ∷ 10 ∷ (codes "read-fault" ++ 10 ∷ []))
unfolding refused read_fault
both = refl

one_failure : failures (refused ∷ read_fault ∷ []) ≡ 1
unfolding refused read_fault
one_failure = refl

-- an empty line is a line, and a last piece without its LF too
three_lines : input_lines (10 ∷ (codes "x" ++ (13 ∷ 10 ∷ codes "y"))) ≡ [] ∷ codes "x" ∷ codes "y" ∷ []
three_lines = refl
