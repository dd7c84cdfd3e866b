-- The places of nodes among a subtree's bits.
use Rattle.std.proofs.Common.{◌≡◌, ℕ, zero, suc, ◌+◌, ◌-◌, ◌*◌, ◌^◌, ◌<◌, ◌≤◌, length, sym, ap, subst, arith, add-one, add-zero, inl, inr}
use Rattle.std.proofs.lemmas.Bool.{cases_lt}
use Rattle.std.specs.List.{All}
use Rattle.implicit_tiling.specs.declared.Scheme.{Scheme}
use Rattle.implicit_tiling.specs.declared.Scheme.TheVariants.{Quad, Oct}
use Rattle.implicit_tiling.specs.Limits.{most_levels, most_subtree_levels}
use Rattle.implicit_tiling.specs.Tile.{branching}
use Rattle.implicit_tiling.specs.Availability.{nodes_above}
use Rattle.implicit_tiling.specs.Subtree.{Subtree, IsSubtree}
use Rattle.tiling_laws.proofs.Nodes.{none_above, level_more, nodes_times_rest}
use Rattle.tile_word.proofs.Levels.{indices_fit}

rise_by : (scheme : Scheme) (l k : ℕ) → nodes_above scheme l ≤ nodes_above scheme (l + k)
rise_by scheme l zero = omega (arith, ap (nodes_above scheme) (add-zero l))
rise_by scheme l (suc k) =
    let next : l + suc k ≡ l + k + 1 = omega arith in
    omega (arith, rise_by scheme l k, level_more scheme (l + k), ap (nodes_above scheme) next)

-- deeper levels begin at greater places
pub nodes_rise : (scheme : Scheme) (l n : ℕ) → l ≤ n → nodes_above scheme l ≤ nodes_above scheme n
nodes_rise scheme l n le =
    let sum : l + (n - l) ≡ n = omega arith in
    omega (arith, rise_by scheme l (n - l), ap (nodes_above scheme) sum)

-- the place of a node of a level above n
pub place_below : (scheme : Scheme) (l n m : ℕ) → l < n → m < branching scheme ^ l → nodes_above scheme l + m < nodes_above scheme n
place_below scheme l n m low h =
    let le : l + 1 ≤ n = omega arith in
    omega (arith, level_more scheme l, nodes_rise scheme (l + 1) n le)

-- a level's last place is before the next level
pub level_end : (scheme : Scheme) (l : ℕ) → nodes_above scheme l + branching scheme ^ l ≡ nodes_above scheme (l + 1)
level_end scheme l = sym (level_more scheme l)

few_nodes : (scheme : Scheme) (a n : ℕ) → (branching scheme - 1) * a + 1 ≡ n → a < n
few_nodes Quad a n h = omega arith
few_nodes Oct a n h = omega arith

-- the number of nodes within the limits
below_limit : (scheme : Scheme) (l : ℕ) → l ≤ most_subtree_levels scheme → l < most_levels scheme
below_limit Quad l h = omega arith
below_limit Oct l h = omega arith

pub nodes_fit : (scheme : Scheme) (l : ℕ) → l ≤ most_subtree_levels scheme → nodes_above scheme l < 2 ^ 62
nodes_fit scheme l le =
    omega (arith, few_nodes scheme (nodes_above scheme l) (branching scheme ^ l) (nodes_times_rest scheme l), indices_fit scheme l (below_limit scheme l le))

pub level_fits : (scheme : Scheme) (l : ℕ) → l ≤ most_subtree_levels scheme → branching scheme ^ l ≤ 2 ^ 62
level_fits scheme l le = indices_fit scheme l (below_limit scheme l le)

-- each place is that of a node
pub record IsPlaceOf (scheme : Scheme) (n i l m : ℕ) : Type 0 where
  pub low : l < n
  pub within : m < branching scheme ^ l
  pub is : nodes_above scheme l + m ≡ i

pub node_of_place : (scheme : Scheme) (n i : ℕ) → i < nodes_above scheme n → (l : ℕ) × (m : ℕ) × IsPlaceOf scheme n i l m
node_of_place scheme zero i h = absurd (omega (arith, none_above scheme))
node_of_place scheme (suc n) i h =
    elim (cases_lt i (nodes_above scheme n)) [
      | inl low ↦ let above = node_of_place scheme n i low in
          (above.0, above.1, record { low = omega (arith, above.2.low); within = above.2.within; is = above.2.is })
      | inr high ↦ (
        n,
        i - nodes_above scheme n,
        record {
          low = omega arith;
          within = omega (arith, level_more scheme n, ap (nodes_above scheme) (add-one n));
          is = omega arith;
        },
      )
    ]

-- the place of a node is one of a subtree's bits
pub place_fits : (s t : Subtree) (l m n : ℕ) → s ≡ t → IsSubtree s → l < t.levels → m < branching t.scheme ^ l → n ≡ nodes_above s.scheme l
    → n + m < nodes_above s.scheme s.levels
place_fits s t l m n same is low h at =
    let low_s : l < s.levels = subst (λ u. l < u.levels) (sym same) low in
    let h_s : m < branching s.scheme ^ l = subst (λ u. m < branching u.scheme ^ l) (sym same) h in
    omega (arith, place_below s.scheme l s.levels m low_s h_s, at)

pub place_is_short : (s t : Subtree) (l m n : ℕ) → s ≡ t → IsSubtree s → l < t.levels → m < branching t.scheme ^ l → n ≡ nodes_above s.scheme l → n + m < 2 ^ 64
place_is_short s t l m n same is low h at = omega (arith, place_fits s t l m n same is low h at, nodes_fit s.scheme s.levels is.few_levels)

pub tile_place : (s t : Subtree) (l m n : ℕ) → s ≡ t → IsSubtree s → l < t.levels → m < branching t.scheme ^ l → n ≡ nodes_above s.scheme l → n + m < length s.tiles
tile_place s t l m n same is low h at = omega (arith, place_fits s t l m n same is low h at, is.tile_bits)

-- a level ends at one of a subtree's places, or with the last
pub level_within : (s t : Subtree) (l n m : ℕ) → s ≡ t → IsSubtree s → l < t.levels → n ≡ nodes_above s.scheme l → m ≡ branching s.scheme ^ l → n + m ≤ length s.tiles
level_within s t l n m same is low at many =
    let low_s : l < s.levels = subst (λ u. l < u.levels) (sym same) low in
    let up : l + 1 ≤ s.levels = omega (arith, low_s) in
    omega (arith, level_end s.scheme l, nodes_rise s.scheme (l + 1) s.levels up, is.tile_bits)

pub few_places : (s : Subtree) → IsSubtree s → length s.tiles < 2 ^ 64
few_places s is = omega (arith, nodes_fit s.scheme s.levels is.few_levels, is.tile_bits)

pub content_place : (s t : Subtree) (l m n : ℕ) → s ≡ t → IsSubtree s → l < t.levels → m < branching t.scheme ^ l → n ≡ nodes_above s.scheme l
    → All (λ bits. n + m < length bits) s.contents
content_place s t l m n same is low h at =
    λ k d kh. subst (λ c. n + m < c) (sym (is.content_bits k d kh)) (place_fits s t l m n same is low h at)
