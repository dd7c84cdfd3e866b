-- What the words ask for, and the statuses.
use Rattle.std.proofs.Common.{◌≡◌, ℕ, sym, ap, subst}
use Rattle.std.specs.Prelude.{Option, Some, None, IfSome}
use Rattle.program_status.specs.Sets.{IsOneOf}
use Rattle.program_status.specs.declared.status.Status.{Status}
use Rattle.program_status.specs.declared.status.Status.TheVariants.{Usage, Memory}
use Rattle.commands.specs.Commands.{Wish, batch}
use Rattle.shared_commands.specs.Batch.{batch_ends}
use Rattle.shared_commands.specs.Shared.{BatchWish, batch_asked_for, shared_ends}

pub batch_is_asked : (found : Option Wish) (workers frames : ℕ) → found ≡ Some (batch workers frames) → batch_asked_for found ≡ Some (record { workers = workers; frames = frames })
batch_is_asked found workers frames is = ap batch_asked_for is

pub ends_of_batch : (wish : Option BatchWish) (one : BatchWish) (status : Status) → wish ≡ Some one → IsOneOf batch_ends status → IsOneOf (shared_ends wish) status
ends_of_batch wish one status is h = subst (λ o. IsOneOf (shared_ends o) status) (sym is) h

pub of_wish : (wish : Option BatchWish) (P : Type 0) → P → IfSome wish (λ one. P)
of_wish None P p = tt
of_wish (Some one) P p = p

pub of_no_wish : (wish : Option BatchWish) (P : BatchWish → Type 0) → wish ≡ None → IfSome wish P
of_no_wish wish P none = subst (λ o. IfSome o P) (sym none) tt

pub usage_ends : (wish : Option BatchWish) → wish ≡ None → IsOneOf (shared_ends wish) Usage
usage_ends wish none = subst (λ o. IsOneOf (shared_ends o) Usage) (sym none) tt

pub memory_ends : (wish : Option BatchWish) → IsOneOf (shared_ends wish) Memory
memory_ends None = tt
memory_ends (Some one) = tt

pub count_of : (wish : Option BatchWish) (one : BatchWish) (n : ℕ) → wish ≡ Some one → IfSome wish (λ w. n ≡ w.workers) → n ≡ one.workers
count_of wish one n is h = subst (λ o. IfSome o (λ w. n ≡ w.workers)) is h
