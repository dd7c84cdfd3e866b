-- A file that was read up to a limit.
use Rattle.std.proofs.Common.{◌≡◌, ◌≤◌, ◌+◌, ◌++◌, ◌∙◌, ap, sym, ℕ, min, List, [], length, take, None, Some, IfSome, arith}
use Rattle.std.specs.Prelude.{Option}
use Rattle.std.specs.Option.{option_map}
use Rattle.std.proofs.lemmas.List.{length-take, take_all}
use Rattle.scene_ports.specs.Source.{IsFetched}
use Rattle.scene_ports.specs.declared.source.Fetch.TheVariants.{Whole}

few : (most limit long : ℕ) → most ≡ limit + 1 → min most long ≤ limit → long ≤ limit
few most limit long is low = omega (arith)

-- a front of one byte more than the limit that keeps to the limit is all
pub whole_file : (rest : Option (List ℕ)) (limit n most : ℕ) (old new : List ℕ) → most ≡ limit + 1 → old ≡ [] → length new ≡ length old + n → n ≤ limit
    → IfSome (option_map (take most) rest) (λ bytes. new ≡ old ++ bytes) → IfSome rest (λ bytes. IsFetched (Some bytes) limit new Whole)
whole_file None limit n most old new is empty counted low read = tt
whole_file (Some bytes) limit n most old new is empty counted low read =
    let all : new ≡ take most bytes = read ∙ ap (λ l. l ++ take most bytes) empty in
    let none : length old ≡ 0 = ap (λ l. length l) empty in
    let cut : min most (length bytes) ≡ length new = sym (length-take most bytes) ∙ ap (λ l. length l) (sym all) in
    let short : length bytes ≤ limit = few most limit (length bytes) is (omega (arith, cut, none, counted, low)) in
    ap (λ l. Some l) (sym (take_all most bytes (omega (arith, short, is))) ∙ sym all)
