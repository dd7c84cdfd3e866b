-- Searches of indices, and which of them blocks pass over.
use Rattle.std.proofs.Common.{◌≡◌, ℕ, suc, ◌+◌, ◌-◌, ◌*◌, ◌/◌, ◌^◌, ◌<◌, ◌≤◌, Bool, true, false, refl, sym, ap, subst, ◌∙◌, arith, inl, inr}
use Rattle.std.specs.Prelude.{◌&&◌}
use Rattle.std.proofs.Math.Nat.{div-mul-le_self, lt-div-mul-add, div-eq_of_lt-le, mul-le-mul_right, div-lt_iff_lt-mul, pow-suc}
use Rattle.std.proofs.lemmas.Nat.{pow-add}
use Rattle.std.proofs.lemmas.Bool.{and_from, cases_lt}
use Rattle.implicit_tiling.specs.declared.Scheme.{Scheme}
use Rattle.implicit_tiling.specs.declared.Scheme.TheVariants.{Quad, Oct}
use Rattle.implicit_tiling.specs.Limits.{most_subtree_levels}
use Rattle.implicit_tiling.specs.Tile.{branching}
use Rattle.implicit_tiling.specs.Region.{Region, is_in}
use Rattle.implicit_tiling.specs.Subtree.{Subtree, IsSubtree, has_tile}
use Rattle.implicit_tiling.specs.Nodes.{node_at}
use Rattle.bitstream.specs.Bits.{HasNoOne, IsFirstOne}
use Rattle.tiling_laws.proofs.Ancestors.{branching_pow_pos}
use Rattle.tile_word.proofs.Levels.{branching_at_1}
use Rattle.availability.proofs.Places.{level_fits}
use Rattle.region_scan.proofs.NodesInRegion.{node_above_in}

-- nothing is between two places, nor between the second and a third one
pub joined : (test : ℕ → Bool) (from at to : ℕ) → HasNoOne test from at → HasNoOne test at to → HasNoOne test from to
joined test from at to first then i low high =
    elim (cases_lt i at) [
      | inl below ↦ first i low below
      | inr above ↦ then i above high
    ]

false_right : (a b : Bool) → b ≡ false → (a && b) ≡ false
false_right true b is = is
false_right false b is = refl

-- where the one test fails both don't hold
pub none_of_first : (a b : ℕ → Bool) (from to : ℕ) → HasNoOne a from to → HasNoOne (λ m. a m && b m) from to
none_of_first a b from to none i low high = ap (λ x. x && b i) (none i low high)

pub none_of_second : (a b : ℕ → Bool) (from to : ℕ) → HasNoOne b from to → HasNoOne (λ m. a m && b m) from to
none_of_second a b from to none i low high = false_right (a i) (b i) (none i low high)

-- the next one that passes the first test passes both
pub first_of_both : (a b : ℕ → Bool) (from at to index : ℕ) → from ≤ at → HasNoOne (λ m. a m && b m) from at → IsFirstOne a at to index → b index ≡ true
    → IsFirstOne (λ m. a m && b m) from to index
first_of_both a b from at to index le before first is = record {
  low = omega (arith, first.low);
  high = first.high;
  one = and_from (a index) (b index) first.one is;
  before = joined (λ m. a m && b m) from at index before (none_of_first a b at index first.before);
}

-- no more passes the first test
pub none_of_both : (a b : ℕ → Bool) (from at to : ℕ) → HasNoOne (λ m. a m && b m) from at → HasNoOne a at to → HasNoOne (λ m. a m && b m) from to
none_of_both a b from at to before none = joined (λ m. a m && b m) from at to before (none_of_first a b at to none)

-- the next one that passes the first test stands before a run that fails the second
pub none_up_to : (a b : ℕ → Bool) (from at to index end : ℕ) → HasNoOne (λ m. a m && b m) from at → IsFirstOne a at to index → HasNoOne b index end
    → HasNoOne (λ m. a m && b m) from end
none_up_to a b from at to index end before first run =
    let test : ℕ → Bool = λ m. a m && b m in
    joined test from index end (joined test from at index before (none_of_first a b at index first.before)) (none_of_second a b index end run)

-- ---- blocks

few_in_a_subtree : (scheme : Scheme) → most_subtree_levels scheme ≤ 26
few_in_a_subtree Quad = omega arith
few_in_a_subtree Oct = omega arith

untrue : (b : Bool) → (b ≡ true → ⊥) → b ≡ false
untrue true never = absurd (never refl)
untrue false never = refl

-- a block's nodes are those below one node
same_block : (d m n : ℕ) → 0 < d → m ≤ n → n < (m / d + 1) * d → n / d ≡ m / d
same_block d m n pos low high = div-eq_of_lt-le d (omega (arith, div-mul-le_self m d)) high

pub block_above : (scheme : Scheme) (l k m : ℕ) → k ≤ l → m < branching scheme ^ l → m / branching scheme ^ k < branching scheme ^ (l - k)
block_above scheme l k m le h =
    let d = branching scheme ^ k in
    let sum : l - k + k ≡ l = omega arith in
    (div-lt_iff_lt-mul (branching_pow_pos scheme k)).1 (omega (arith, pow-add (branching scheme) (l - k) k, ap (λ e. branching scheme ^ e) sum, h))

pub block_behind : (d m : ℕ) → 0 < d → m < (m / d + 1) * d
block_behind d m pos = omega (arith, lt-div-mul-add {a = m} pos)

pub block_within : (scheme : Scheme) (l k m : ℕ) → k ≤ l → m < branching scheme ^ l → (m / branching scheme ^ k + 1) * branching scheme ^ k ≤ branching scheme ^ l
block_within scheme l k m le h =
    let d = branching scheme ^ k in
    let sum : l - k + k ≡ l = omega arith in
    let up : m / d + 1 ≤ branching scheme ^ (l - k) = omega (arith, block_above scheme l k m le h) in
    omega (arith, mul-le-mul_right d up, pow-add (branching scheme) (l - k) k, ap (λ e. branching scheme ^ e) sum)

-- where a node is outside, so are all below it
pub block_outside : (s : Subtree) (region : Region) (l k m : ℕ) → k ≤ l → is_in region (node_at s (l - k) (m / branching s.scheme ^ k)) ≡ false
    → HasNoOne (λ n. is_in region (node_at s l n)) m ((m / branching s.scheme ^ k + 1) * branching s.scheme ^ k)
block_outside s region l k m le outside n low high =
    let sum : l - k + k ≡ l = omega arith in
    let block = same_block (branching s.scheme ^ k) m n (branching_pow_pos s.scheme k) low high in
    untrue (is_in region (node_at s l n)) (λ inside.
    let above : is_in region (node_at s (l - k) (n / branching s.scheme ^ k)) ≡ true =
    node_above_in s region (l - k) k n (ap (λ j. is_in region (node_at s j n)) sum ∙ inside) in
    let same : is_in region (node_at s (l - k) (n / branching s.scheme ^ k)) ≡ false = ap (λ q. is_in region (node_at s (l - k) q)) block ∙ outside in cc)

-- the same of what the code makes: the number of nodes of a block
pub seen : (s t : Subtree) (k nodes : ℕ) → s ≡ t → nodes ≡ branching s.scheme ^ k → nodes ≡ branching t.scheme ^ k
seen s t k nodes same is = is ∙ ap (λ (u : Subtree). branching u.scheme ^ k) same

pub block_seen : (t : Subtree) (l k m nodes : ℕ) → nodes ≡ branching t.scheme ^ k → k ≤ l → m < branching t.scheme ^ l → m / nodes < branching t.scheme ^ (l - k)
block_seen t l k m nodes is le h = subst (λ d. m / d < branching t.scheme ^ (l - k)) (sym is) (block_above t.scheme l k m le h)

pub end_seen : (t : Subtree) (l k m nodes : ℕ) → nodes ≡ branching t.scheme ^ k → k ≤ l → m < branching t.scheme ^ l → (m / nodes + 1) * nodes ≤ branching t.scheme ^ l
end_seen t l k m nodes is le h = subst (λ d. (m / d + 1) * d ≤ branching t.scheme ^ l) (sym is) (block_within t.scheme l k m le h)

pub behind_seen : (t : Subtree) (k m nodes : ℕ) → nodes ≡ branching t.scheme ^ k → m < (m / nodes + 1) * nodes
behind_seen t k m nodes is = subst (λ d. m < (m / d + 1) * d) (sym is) (block_behind (branching t.scheme ^ k) m (branching_pow_pos t.scheme k))

pub outside_seen : (t : Subtree) (region : Region) (l k m nodes : ℕ) → nodes ≡ branching t.scheme ^ k → k ≤ l → is_in region (node_at t (l - k) (m / nodes)) ≡ false
    → HasNoOne (λ n. is_in region (node_at t l n)) m ((m / nodes + 1) * nodes)
outside_seen t region l k m nodes is le outside =
    subst (λ d. HasNoOne (λ n. is_in region (node_at t l n)) m ((m / d + 1) * d)) (sym is)
    (block_outside t region l k m le (ap (λ d. is_in region (node_at t (l - k) (m / d))) (sym is) ∙ outside))

-- the indices of a level fit a number
pub few_nodes : (s t : Subtree) (l : ℕ) → s ≡ t → IsSubtree s → l ≤ t.levels → branching t.scheme ^ l ≤ 2 ^ 62
few_nodes s t l same is le =
    let low : l ≤ s.levels = subst (λ (u : Subtree). l ≤ u.levels) (sym same) le in
    subst (λ (u : Subtree). branching u.scheme ^ l ≤ 2 ^ 62) same (level_fits s.scheme l (omega (arith, low, is.few_levels)))

pub few_levels : (s t : Subtree) (l : ℕ) → s ≡ t → IsSubtree s → l ≤ t.levels → l ≤ 26
few_levels s t l same is le =
    let low : l ≤ s.levels = subst (λ (u : Subtree). l ≤ u.levels) (sym same) le in
    omega (arith, low, is.few_levels, few_in_a_subtree s.scheme)

-- one node that is outside
pub one_outside : (test : ℕ → Bool) (m : ℕ) → test m ≡ false → HasNoOne test m (m + 1)
one_outside test m is i low high = let same : i ≡ m = omega (arith, low, high) in ap test same ∙ is

-- ---- child roots

parents_rise : (scheme : Scheme) (m n : ℕ) → m ≤ n → m / branching scheme ≤ n / branching scheme
parents_rise Quad m n le = omega arith
parents_rise Oct m n le = omega arith

parent_below : (scheme : Scheme) (m n : ℕ) → m < n * branching scheme → m / branching scheme < n
parent_below Quad m n h = omega arith
parent_below Oct m n h = omega arith

pub children_fit : (s t : Subtree) (next many : ℕ) → s ≡ t → IsSubtree s → next < branching t.scheme ^ (s.levels - 1) → many ≡ branching s.scheme ^ 1 → next * many < 2 ^ 64
children_fit s t next many same is low all =
    let below : next < branching s.scheme ^ (s.levels - 1) = subst (λ (u : Subtree). next < branching u.scheme ^ (s.levels - 1)) (sym same) low in
    let one : many ≡ branching s.scheme = all ∙ branching_at_1 s.scheme in
    let up : suc (s.levels - 1) ≡ s.levels = omega (arith, is.some_levels) in
    let most : next ≤ branching s.scheme ^ (s.levels - 1) = omega (arith, below) in
    omega (
      arith,
      ap (λ n. next * n) one,
      mul-le-mul_right (branching s.scheme) most,
      pow-suc (branching s.scheme) (s.levels - 1),
      ap (λ e. branching s.scheme ^ e) up,
      level_fits s.scheme s.levels is.few_levels,
    )

-- the children of nodes that aren't there
pub childless : (s : Subtree) (index next : ℕ) → HasNoOne (has_tile s (s.levels - 1)) (index / branching s.scheme) next
    → HasNoOne (λ m. has_tile s (s.levels - 1) (m / branching s.scheme)) index (next * branching s.scheme)
childless s index next none i low high = none (i / branching s.scheme) (parents_rise s.scheme index i low) (parent_below s.scheme i next high)
