-- The statuses with which the program ends, by what is asked for; and that desks of the current folder are free.
use Rattle.std.proofs.Common.{◌≡◌, ℕ, Bool, false, List, [], ◌∷◌, refl, sym, subst}
use Rattle.std.specs.Prelude.{Option, Some, None, if◌then◌else◌}
use Rattle.std.specs.List.{All}
use Rattle.implicit_tiling.specs.Files.{Files}
use Rattle.program_status.specs.Sets.{IsOneOf}
use Rattle.program_status.specs.declared.status.Status.{Status}
use Rattle.program_status.specs.declared.status.Status.TheVariants.{Usage}
use Rattle.commands.specs.Commands.{Wish, tiles, check, make, survey, replay, batch, serve, promised}
use Rattle.serve_command.specs.Serving.{serve_ends}
use Rattle.shared_commands.specs.Desks.{Place, files_of, IsFree}
use Rattle.shared_commands.specs.Shared.{BatchWish, batch_asked_for, shared_ends}
use Rattle.view.specs.Program.{ends_by, is_served, program_ends}

by_shared : (found : Option BatchWish) (plain_ends : List Status) (one : BatchWish) (status : Status) → found ≡ Some one → IsOneOf (shared_ends found) status → IsOneOf (ends_by found plain_ends) status
by_shared found plain_ends one status is = subst (λ o. IsOneOf (shared_ends o) status → IsOneOf (ends_by o plain_ends) status) (sym is) (λ h. h)

-- a wish for a batch isn't one for a serving
batch_unserved : (wish : Option Wish) (one : BatchWish) → batch_asked_for wish ≡ Some one → is_served wish ≡ false
batch_unserved None one is = cc
batch_unserved (Some (tiles line)) one is = cc
batch_unserved (Some check) one is = cc
batch_unserved (Some (make recipe)) one is = cc
batch_unserved (Some (survey recipe)) one is = cc
batch_unserved (Some (replay frames passes)) one is = cc
batch_unserved (Some (batch workers frames)) one is = refl
batch_unserved (Some (serve port viewers frames)) one is = cc

unless_served : (served : Bool) (serving others : List Status) (status : Status) → served ≡ false → IsOneOf others status → IsOneOf (if served then serving else others) status
unless_served served serving others status is h = subst (λ b. IsOneOf (if b then serving else others) status) (sym is) h

pub ends_of_shared : (wish : Option Wish) (one : BatchWish) (status : Status) → batch_asked_for wish ≡ Some one → IsOneOf (shared_ends (batch_asked_for wish)) status → IsOneOf (program_ends wish) status
ends_of_shared wish one status is h =
    unless_served (is_served wish) serve_ends _ status (batch_unserved wish one is) (by_shared (batch_asked_for wish) (promised wish).ends one status is h)

pub ends_of_serving : (wish : Option Wish) (port viewers frames : ℕ) (status : Status) → wish ≡ Some (serve port viewers frames) → IsOneOf serve_ends status → IsOneOf (program_ends wish) status
ends_of_serving wish port viewers frames status is h = subst (λ o. IsOneOf (program_ends o) status) (sym is) h

pub ends_of_plain : (wish : Option Wish) (status : Status) → is_served wish ≡ false → batch_asked_for wish ≡ None → IsOneOf (promised wish).ends status → IsOneOf (program_ends wish) status
ends_of_plain wish status unserved none h =
    unless_served (is_served wish) serve_ends _ status unserved (subst (λ o. IsOneOf (ends_by o (promised wish).ends) status) (sym none) h)

pub ends_of_nothing : (wish : Option Wish) → wish ≡ None → IsOneOf (program_ends wish) Usage
ends_of_nothing wish none = subst (λ o. IsOneOf (program_ends o) Usage) (sym none) tt

files_untold : {S : Type 0} (told : S → Option Files) → ((s : S) → told s ≡ None) → (desks : List (Place S)) → files_of told desks ≡ None
files_untold told untold [] = refl
files_untold told untold (desk ∷ desks) = untold desk.source

pub free_of_untold : {S : Type 0} (told : S → Option Files) → ((s : S) → told s ≡ None) → (desks : List (Place S)) → All (IsFree told None) desks → All (IsFree told (files_of told desks)) desks
free_of_untold told untold desks free = subst (λ files. All (IsFree told files) desks) (sym (files_untold told untold desks)) free
