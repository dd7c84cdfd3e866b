-- Files that are put one after another, under distinct names.
use Rattle.std.proofs.Common.{◌≡◌, ◌≢◌, ℕ, ◌+◌, ◌<◌, Bool, true, false, List, [], ◌∷◌, ◌++◌, length, take, drop, get_or, refl, sym, ap, subst, ◌∙◌, append_assoc, add-one, drop-cons, if◌then◌else◌}
use Rattle.std.specs.Prelude.{Option, Some, None, IsNone, is_some}
use Rattle.std.specs.Str.{bytes_eq}
use Rattle.std.specs.List.{All}
use Rattle.std.proofs.lemmas.Bool.{both_ways}
use Rattle.std.proofs.lemmas.Bool.Decides.{not_from_Decides}
use Rattle.std.proofs.lemmas.List.{take-append-drop}
use Rattle.std.proofs.lemmas.Slice.Eq.{bytes_eq-Decides}
use Rattle.implicit_tiling.specs.Files.{Files, file}
use Rattle.scene_ports.specs.Files.{HasDistinctNames}
use Rattle.scene_ports.specs.Keeper.{Puts, PutsKnown}
use Rattle.scene_ports.specs.declared.keeper.Put.TheVariants.{Kept}
use Rattle.scene_ports.proofs.Named.{file-first, file-later}
use Rattle.tile_builder.specs.declared.builder.BuildStop.{BuildStop}
use Rattle.tile_builder.specs.declared.builder.BuildStop.TheVariants.{Failed, Memory}
use Rattle.tile_builder.specs.Puts.{ArePut, Stops, IfTold, put_of}

-- ---- looking up a name in lists that are joined

abbrev Pair : Type 0
Pair = List ℕ × List ℕ

behind_pair : (b : Bool) (v : List ℕ) (o p q : Option (List ℕ)) → IsNone (if b then Some v else o) → (IsNone o → p ≡ q) → (if b then Some v else p) ≡ q
behind_pair true v o p q none h = absurd (both_ways true none refl)
behind_pair false v o p q none h = h none

-- a name that is not found in front
file-behind : (name : List ℕ) (xs ys : Files) → IsNone (file name xs) → file name (xs ++ ys) ≡ file name ys
file-behind name [] ys none = refl
file-behind name (pair ∷ xs) ys none = behind_pair (bytes_eq pair.0 name) pair.1 (file name xs) (file name (xs ++ ys)) (file name ys) none (file-behind name xs ys)

-- a pair of another name
file-without : (name : List ℕ) (xs : Files) (p : Pair) (ys : Files) → p.0 ≢ name → file name (xs ++ p ∷ ys) ≡ file name (xs ++ ys)
file-without name [] p ys ne = file-later name p.0 p.1 ys ne
file-without name (pair ∷ xs) p ys ne = ap (λ o. if bytes_eq pair.0 name then Some pair.1 else o) (file-without name xs p ys ne)

found_or : (b : Bool) (v : List ℕ) (o : Option (List ℕ)) → is_some o ≡ true → is_some (if b then Some v else o) ≡ true
found_or true v o some = refl
found_or false v o some = some

found_within : (xs : Files) (p : Pair) (ys : Files) → is_some (file p.0 (xs ++ p ∷ ys)) ≡ true
found_within [] p ys = ap is_some (file-first p.0 p.1 ys)
found_within (pair ∷ xs) p ys = found_or (bytes_eq pair.0 p.0) pair.1 (file p.0 (xs ++ p ∷ ys)) (found_within xs p ys)

-- ---- distinct names

none_first : (b : Bool) (v : List ℕ) (o : Option (List ℕ)) → (b ≡ true → ⊥) → IsNone o → IsNone (if b then Some v else o)
none_first true v o never none = absurd (never refl)
none_first false v o never none = none

-- the name of a pair is not found before it
pub none_before : (done : Files) (p : Pair) (rest : Files) → HasDistinctNames (done ++ p ∷ rest) → IsNone (file p.0 done)
none_before [] p rest distinct = refl
none_before (q ∷ done) p rest distinct =
    let other : bytes_eq q.0 p.0 ≡ true → ⊥ = λ e.
    let same : q.0 ≡ p.0 = (bytes_eq-Decides q.0 p.0).0 e in
    both_ways (is_some (file p.0 (done ++ p ∷ rest))) (subst (λ n. IsNone (file n (done ++ p ∷ rest))) same distinct.0) (found_within done p rest) in
    none_first (bytes_eq q.0 p.0) q.1 (file p.0 done) other (none_before done p rest distinct.1)

-- each file is found under its name, also among others behind them
pub found_at : (done : Files) (p : Pair) (rest before : Files) → HasDistinctNames (done ++ p ∷ rest) → file p.0 ((done ++ p ∷ rest) ++ before) ≡ Some p.1
found_at done p rest before distinct =
    ap (file p.0) (append_assoc done (p ∷ rest) before) ∙ file-behind p.0 done (p ∷ (rest ++ before)) (none_before done p rest distinct) ∙ file-first p.0 p.1 (rest ++ before)

pub split_at : {X : Type 0} (xs : List X) (k : ℕ) (d : X) → k < length xs → xs ≡ take k xs ++ get_or xs k d ∷ drop (k + 1) xs
split_at xs k d h = sym (take-append-drop k xs) ∙ ap (λ v. take k xs ++ v) (drop-cons xs k d h ∙ ap (λ n. get_or xs k d ∷ drop n xs) (sym (add-one k)))

pub all_found : (files before : Files) → HasDistinctNames files → All (λ p. file p.0 (files ++ before) ≡ Some p.1) files
all_found files before distinct k d h =
    let p = get_or files k d in
    let parts = split_at files k d h in
    ap (λ fs. file p.0 (fs ++ before)) parts ∙ found_at (take k files) p (drop (k + 1) files) before (subst HasDistinctNames parts distinct)

-- ---- one put more

put_at : (done : Files) (p : Pair) (before mid now : Files) (other : List ℕ) (b : Bool) → bytes_eq p.0 other ≡ b → IsNone (file p.0 done) → ArePut done before mid
    → Puts p.0 p.1 mid now Kept → file other now ≡ file other (done ++ p ∷ before)
put_at done p before mid now other true e none put puts =
    let same : p.0 ≡ other = (bytes_eq-Decides p.0 other).0 e in
    subst (λ n. file n now ≡ file n (done ++ p ∷ before)) same (puts.0 ∙ sym (file-behind p.0 done (p ∷ before) none ∙ file-first p.0 p.1 before))
put_at done p before mid now other false e none put puts =
    let apart : p.0 ≢ other = not_from_Decides (bytes_eq p.0 other) (bytes_eq-Decides p.0 other) e in
    puts.1 other (λ same. apart (sym same)) ∙ put other ∙ sym (file-without other done p before apart)

pub put_more : (done : Files) (p : Pair) (before mid now : Files) → IsNone (file p.0 done) → ArePut done before mid → Puts p.0 p.1 mid now Kept → ArePut (done ++ p ∷ []) before now
put_more done p before mid now none put puts other =
    put_at done p before mid now other (bytes_eq p.0 other) refl none put puts ∙ ap (file other) (sym (append_assoc done (p ∷ []) before))

-- where a put fails or has no memory, the files before it are put
pub stops_at : (files done : Files) (p : Pair) (rest before mid now : Files) (stop : BuildStop) → files ≡ done ++ p ∷ rest → ArePut done before mid
    → Puts p.0 p.1 mid now (put_of stop) → Stops files before now stop
stops_at files done p rest before mid now Failed parts put puts = record {
  done = done;
  failed = p;
  rest = rest;
  parts = parts;
  put = λ name ne. puts name ne ∙ put name;
}
stops_at files done p rest before mid now Memory parts put puts = record {
  done = done;
  rest = p ∷ rest;
  parts = parts;
  put = λ name. ap (file name) puts ∙ put name;
}

-- ---- the same of what a keeper tells

pub told_first : (told : Option Files) → IfTold told told (ArePut [])
told_first None = tt
told_first (Some before) = λ name. refl

pub told_more : (old mid now : Option Files) (done : Files) (p : Pair) → IsNone (file p.0 done) → IfTold old mid (ArePut done) → PutsKnown p.0 p.1 mid now Kept
    → IfTold old now (ArePut (done ++ p ∷ []))
told_more None mid now done p none put puts = tt
told_more (Some before) None now done p none put puts = absurd put
told_more (Some before) (Some mid) None done p none put puts = absurd puts
told_more (Some before) (Some mid) (Some now) done p none put puts = put_more done p before mid now none put puts

pub told_stop : (old mid now : Option Files) (files done : Files) (p : Pair) (rest : Files) (stop : BuildStop) → files ≡ done ++ p ∷ rest → IfTold old mid (ArePut done)
    → PutsKnown p.0 p.1 mid now (put_of stop) → IfTold old now (λ before after. Stops files before after stop)
told_stop None mid now files done p rest stop parts put puts = tt
told_stop (Some before) None now files done p rest stop parts put puts = absurd put
told_stop (Some before) (Some mid) None files done p rest stop parts put puts = absurd puts
told_stop (Some before) (Some mid) (Some now) files done p rest stop parts put puts = stops_at files done p rest before mid now stop parts put puts

pub told_weaker : (old now : Option Files) (P Q : Files → Files → Type 0) → ((before after : Files) → P before after → Q before after) → IfTold old now P → IfTold old now Q
told_weaker None now P Q says h = tt
told_weaker (Some before) None P Q says h = h
told_weaker (Some before) (Some now) P Q says h = says before now h
