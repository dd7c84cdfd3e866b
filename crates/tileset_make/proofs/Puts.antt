-- Files that are put one after another, and one more that is put behind them.
use Rattle.std.proofs.Common.{◌≡◌, ◌≢◌, ℕ, Bool, true, false, List, [], ◌∷◌, ◌++◌, refl, sym, ap, subst, ◌∙◌, append_assoc, if◌then◌else◌}
use Rattle.std.specs.Prelude.{Option, Some, None, Result, Ok, Err, OnOk, IfErr}
use Rattle.std.specs.Str.{bytes_eq}
use Rattle.std.proofs.lemmas.Bool.Decides.{not_from_Decides}
use Rattle.std.proofs.lemmas.Slice.Eq.{bytes_eq-Decides}
use Rattle.implicit_tiling.specs.Files.{Files, file}
use Rattle.scene_ports.specs.Keeper.{SameButFor, Puts, PutsKnown}
use Rattle.scene_ports.specs.declared.keeper.Put.{Put}
use Rattle.scene_ports.specs.declared.keeper.Put.TheVariants.{Kept, Failed}
use Rattle.scene_ports.proofs.Named.{file-first, file-later}
use Rattle.tile_builder.specs.Puts.{ArePut, IsCut, IsCutAt, Stops, IfTold}
use Rattle.tile_builder.proofs.Putting.{told_weaker}
use Rattle.tile_builder.specs.declared.builder.BuildStop.{BuildStop}
use Rattle.tile_builder.specs.declared.builder.BuildStop.TheVariants.{Failed as failed, Memory as memory}

-- ---- what is told after two calls

pub told_twice : (a b c : Option Files) (P Q R : Files → Files → Type 0) → ((before mid now : Files) → P before mid → Q mid now → R before now)
    → IfTold a b P → IfTold b c Q → IfTold a c R
told_twice None b c P Q R both one other = tt
told_twice (Some before) None c P Q R both one other = absurd one
told_twice (Some before) (Some mid) None P Q R both one other = other
told_twice (Some before) (Some mid) (Some now) P Q R both one other = both before mid now one other

pub told_put : (name bytes : List ℕ) (a b : Option Files) (put : Put) → PutsKnown name bytes a b put → IfTold a b (λ before now. Puts name bytes before now put)
told_put name bytes None b put puts = tt
told_put name bytes (Some before) None put puts = puts
told_put name bytes (Some before) (Some now) put puts = puts

pub told_same : (a : Option Files) (P : Files → Files → Type 0) → ((files : Files) → P files files) → IfTold a a P
told_same None P each = tt
told_same (Some files) P each = each files

-- what is told of files that are known
pub told_at : {a b : Option Files} {before now : Files} (P : Files → Files → Type 0) → a ≡ Some before → b ≡ Some now → IfTold a b P → P before now
told_at {a = a} {b = b} {before = before} {now = now} P one other told =
    subst (λ w. IfTold (Some before) w P) other (subst (λ w. IfTold w b P) one told)

-- ---- files behind others

-- behind files without the name the look-up goes on
behind_cases : (b : Bool) (bytes : List ℕ) (rest all more : Option (List ℕ)) → (rest ≡ None → all ≡ more) → (if b then Some bytes else rest) ≡ None
    → (if b then Some bytes else all) ≡ more
behind_cases true bytes rest all more later none = let impossible : Some bytes ≡ None = none in absurd (cc)
behind_cases false bytes rest all more later none = later none

pub behind : (name : List ℕ) (files more : Files) → file name files ≡ None → file name (files ++ more) ≡ file name more
behind name [] more none = refl
behind name (pair ∷ files) more none = behind_cases (bytes_eq pair.0 name) pair.1 (file name files) (file name (files ++ more)) (file name more) (behind name files more) none

-- files are looked up alike where what is behind them is
pub alike_behind : (name : List ℕ) (files one other : Files) → file name one ≡ file name other → file name (files ++ one) ≡ file name (files ++ other)
alike_behind name [] one other e = e
alike_behind name (pair ∷ files) one other e = ap (λ w. if bytes_eq pair.0 name then Some pair.1 else w) (alike_behind name files one other e)

-- ---- the file that is put behind all others

last_cases : (name bytes wanted : List ℕ) (files before mid now : Files) (b : Bool) → bytes_eq name wanted ≡ b → file name files ≡ None → ArePut files before mid
    → Puts name bytes mid now Kept → file wanted now ≡ file wanted (files ++ (name, bytes) ∷ before)
last_cases name bytes wanted files before mid now true e none put last =
    let same : name ≡ wanted = (bytes_eq-Decides name wanted).0 e in
    ap (λ n. file n now) (sym same) ∙ last.0 ∙ sym (file-first name bytes before) ∙ sym (behind name files ((name, bytes) ∷ before) none)
    ∙ ap (λ n. file n (files ++ (name, bytes) ∷ before)) same
last_cases name bytes wanted files before mid now false e none put last =
    let apart : name ≢ wanted = not_from_Decides _ (bytes_eq-Decides name wanted) e in
    last.1 wanted (λ same. apart (sym same)) ∙ put wanted
    ∙ sym (alike_behind wanted files ((name, bytes) ∷ before) before (file-later wanted name bytes before apart))

pub put_last : (name bytes : List ℕ) (files before mid now : Files) → file name files ≡ None → ArePut files before mid → Puts name bytes mid now Kept
    → ArePut (files ++ (name, bytes) ∷ []) before now
put_last name bytes files before mid now none put last wanted =
    last_cases name bytes wanted files before mid now (bytes_eq name wanted) refl none put last
    ∙ ap (file wanted) (sym (append_assoc files ((name, bytes) ∷ []) before))

-- ---- stops

-- where it stopped among the first files, it stopped among all
pub stopped_before : (files more before now : Files) (stop : BuildStop) → Stops files before now stop → Stops (files ++ more) before now stop
stopped_before files more before now failed cut = record {
  done = cut.done;
  failed = cut.failed;
  rest = cut.rest ++ more;
  parts = ap (λ w. w ++ more) cut.parts ∙ append_assoc cut.done (cut.failed ∷ cut.rest) more;
  put = cut.put;
}
stopped_before files more before now memory cut = record {
  done = cut.done;
  rest = cut.rest ++ more;
  parts = ap (λ w. w ++ more) cut.parts ∙ append_assoc cut.done cut.rest more;
  put = cut.put;
}

-- where nothing was put yet
pub stopped_at_once : (files before : Files) → Stops files before before memory
stopped_at_once files before = record { done = []; rest = files; parts = refl; put = λ name. refl }

-- it stopped at the last file
pub stopped_at_last : (name bytes : List ℕ) (files : Files) (a b c : Option Files) (stop : BuildStop) → IfTold a b (ArePut files)
    → (stop ≡ failed → PutsKnown name bytes b c Failed) → (stop ≡ memory → c ≡ b) → IfTold a c (λ before now. Stops (files ++ (name, bytes) ∷ []) before now stop)
stopped_at_last name bytes files a b c failed put others same =
    told_twice a b c (ArePut files) (λ mid now. SameButFor name mid now) (λ before now. IsCutAt (files ++ (name, bytes) ∷ []) before now)
    (λ before mid now first last. record {
      done = files;
      failed = (name, bytes);
      rest = [];
      parts = refl;
      put = λ wanted apart. last wanted apart ∙ first wanted;
    })
    put (told_put name bytes b c Failed (others refl))
stopped_at_last name bytes files a b c memory put others same =
    let P : Option Files → Type 0 = λ told. IfTold a told (λ before now. IsCut (files ++ (name, bytes) ∷ []) before now) in
    subst P (sym (same refl))
    (told_weaker a b (ArePut files) (λ before now. IsCut (files ++ (name, bytes) ∷ []) before now)
    (λ before now first. record { done = files; rest = (name, bytes) ∷ []; parts = refl; put = first }) put)

-- ---- results

-- what holds in any case holds of a success
pub if_ok : {A E : Type 0} (r : Result A E) (P : Type 0) → P → OnOk r P
if_ok (Ok a) P holds = holds
if_ok (Err e) P holds = tt

-- what the exit of a `?` returns
pub err_exit : {A E : Type 0} (r : Result A E) (e : E) (P : E → Type 0) → (y : E) × (r ≡ Err y) × (y ≡ e) → P e → IfErr r P
err_exit {A = A} {E = E} r e P exit holds = let Q : Result A E → Type 0 = λ s. IfErr s P in subst Q (sym (exit.1 ∙ ap Err exit.2)) holds
