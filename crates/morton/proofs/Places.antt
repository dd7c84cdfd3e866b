-- The bits of numbers that are put together place by place.
use Rattle.std.proofs.Common.{◌≡◌, ℕ, zero, suc, ◌+◌, ◌*◌, ◌/◌, ◌%◌, ◌^◌, ◌<◌, ◌≤◌, refl, sym, ap, ◌∙◌, arith, add-zero, add_comm, lit<, max, bit_or}
use Rattle.std.proofs.Math.Nat.{mod-eq_of_lt}
use Rattle.std.proofs.lemmas.Nat.Bits.{bit_at-suc, bit_at_or, bit_at-zero, same_from_bits_below}
use Rattle.std.proofs.lemmas.Nat.{or_lt}
use Rattle.tiling_laws.proofs.Index.{lowest_place, places_below}
use Rattle.morton.proofs.Steps.{down_bit}
use Rattle.implicit_tiling.specs.declared.Scheme.{Scheme}
use Rattle.implicit_tiling.specs.declared.Scheme.TheVariants.{Quad, Oct}
use Rattle.implicit_tiling.specs.Tile.{axes, branching, bit, place_of, interleaved}

-- ---- each bit

-- the bits of a place: bit j of x, of y and of z
abbrev pub bit_of_place : Scheme → ℕ → ℕ → ℕ → ℕ → ℕ → ℕ
bit_of_place scheme x y z zero j = bit j x
bit_of_place scheme x y z (suc zero) j = bit j y
bit_of_place scheme x y z (suc (suc r)) j = bit j z

first_bit : (scheme : Scheme) (x y z r w : ℕ) → r < axes scheme → bit r (place_of scheme x y z 0 + branching scheme * w) ≡ bit_of_place scheme x y z r 0
first_bit Quad x y z zero w h = omega arith
first_bit Quad x y z (suc zero) w h = omega arith
first_bit Quad x y z (suc (suc r)) w h = absurd (omega arith)
first_bit Oct x y z zero w h = omega arith
first_bit Oct x y z (suc zero) w h = omega arith
first_bit Oct x y z (suc (suc zero)) w h = omega arith
first_bit Oct x y z (suc (suc (suc r))) w h = absurd (omega arith)

-- a bit past the first place is one of what stands above it
later_bit : (scheme : Scheme) (x y z w i : ℕ) → bit (axes scheme + i) (place_of scheme x y z 0 + branching scheme * w) ≡ bit i w
later_bit Quad x y z w i =
    let n : ℕ = place_of Quad x y z 0 + 4 * w in
    let e : 2 + i ≡ suc (suc i) = omega arith in
    let d : n / 2 / 2 ≡ w = omega arith in
    ap (λ k. bit k n) e ∙ bit_at-suc n (suc i) ∙ bit_at-suc (n / 2) i ∙ ap (bit i) d
later_bit Oct x y z w i =
    let n : ℕ = place_of Oct x y z 0 + 8 * w in
    let e : 3 + i ≡ suc (suc (suc i)) = omega arith in
    let d : n / 2 / 2 / 2 ≡ w = omega arith in
    ap (λ k. bit k n) e ∙ bit_at-suc n (suc (suc i)) ∙ bit_at-suc (n / 2) (suc i) ∙ bit_at-suc (n / 2 / 2) i ∙ ap (bit i) d

of_half : (scheme : Scheme) (x y z r j : ℕ) → bit_of_place scheme (x / 2) (y / 2) (z / 2) r j ≡ bit_of_place scheme x y z r (suc j)
of_half scheme x y z zero j = sym (bit_at-suc x j)
of_half scheme x y z (suc zero) j = sym (bit_at-suc y j)
of_half scheme x y z (suc (suc r)) j = sym (bit_at-suc z j)

one_place : (scheme : Scheme) (j r : ℕ) → axes scheme * suc j + r ≡ axes scheme + (axes scheme * j + r)
one_place Quad j r = omega arith
one_place Oct j r = omega arith

no_place : (scheme : Scheme) (r : ℕ) → axes scheme * zero + r ≡ r
no_place Quad r = omega arith
no_place Oct r = omega arith

pub bit_of : (scheme : Scheme) (places x y z j r : ℕ) → j < places → r < axes scheme
    → bit (axes scheme * j + r) (interleaved scheme places x y z) ≡ bit_of_place scheme x y z r j
bit_of scheme zero x y z j r h k = absurd (omega arith)
bit_of scheme (suc p) x y z zero r h k =
    ap (bit (axes scheme * zero + r)) (lowest_place scheme p x y z)
    ∙ ap (λ i. bit i (place_of scheme x y z 0 + branching scheme * interleaved scheme p (x / 2) (y / 2) (z / 2))) (no_place scheme r)
    ∙ first_bit scheme x y z r (interleaved scheme p (x / 2) (y / 2) (z / 2)) k
bit_of scheme (suc p) x y z (suc j) r h k =
    ap (bit (axes scheme * suc j + r)) (lowest_place scheme p x y z)
    ∙ ap (λ i. bit i (place_of scheme x y z 0 + branching scheme * interleaved scheme p (x / 2) (y / 2) (z / 2))) (one_place scheme j r)
    ∙ later_bit scheme x y z (interleaved scheme p (x / 2) (y / 2) (z / 2)) (axes scheme * j + r)
    ∙ bit_of scheme p (x / 2) (y / 2) (z / 2) j r (omega arith) k
    ∙ of_half scheme x y z r j

-- ---- every bit below the last place

within : (scheme : Scheme) (places i : ℕ) → i < axes scheme * places → i / axes scheme < places
within Quad p i h = omega arith
within Oct p i h = omega arith

residue : (scheme : Scheme) (i : ℕ) → i % axes scheme < axes scheme
residue Quad i = omega arith
residue Oct i = omega arith

divided : (scheme : Scheme) (i : ℕ) → i ≡ axes scheme * (i / axes scheme) + i % axes scheme
divided Quad i = omega arith
divided Oct i = omega arith

pub bit_at_place : (scheme : Scheme) (places x y z i : ℕ) → i < axes scheme * places
    → bit i (interleaved scheme places x y z) ≡ bit_of_place scheme x y z (i % axes scheme) (i / axes scheme)
bit_at_place scheme p x y z i h =
    ap (λ k. bit k (interleaved scheme p x y z)) (divided scheme i)
    ∙ bit_of scheme p x y z (i / axes scheme) (i % axes scheme) (within scheme p i h) (residue scheme i)

below_bits : (scheme : Scheme) (places x y z : ℕ) → branching scheme ^ places ≡ 2 ^ (axes scheme * places)
    → interleaved scheme places x y z < 2 ^ (axes scheme * places)
below_bits scheme p x y z width = omega (arith, places_below scheme p x y z, width)

-- a number whose bits are those of the places is the interleaved one
pub from_bits : (scheme : Scheme) (places x y z word : ℕ) → branching scheme ^ places ≡ 2 ^ (axes scheme * places) → word < 2 ^ (axes scheme * places)
    → ((i : ℕ) → i < axes scheme * places → bit i word ≡ bit_of_place scheme x y z (i % axes scheme) (i / axes scheme))
    → word ≡ interleaved scheme places x y z
from_bits scheme p x y z word width h each =
    same_from_bits_below (axes scheme * p) word (interleaved scheme p x y z) h (below_bits scheme p x y z width)
    (λ i k. each i k ∙ sym (bit_at_place scheme p x y z i k))

-- ---- sums of coordinates that share no place

pub either : (scheme : Scheme) (places x y z u v w a b c : ℕ) → branching scheme ^ places ≡ 2 ^ (axes scheme * places)
    → ((r j : ℕ) → max (bit_of_place scheme x y z r j) (bit_of_place scheme u v w r j) ≡ bit_of_place scheme a b c r j)
    → bit_or (interleaved scheme places x y z) (interleaved scheme places u v w) ≡ interleaved scheme places a b c
either scheme p x y z u v w a b c width each =
    from_bits scheme p a b c (bit_or (interleaved scheme p x y z) (interleaved scheme p u v w)) width
    (or_lt (axes scheme * p) (interleaved scheme p x y z) (interleaved scheme p u v w) (below_bits scheme p x y z width) (below_bits scheme p u v w width))
    (λ i k.
    bit_at_or (interleaved scheme p x y z) (interleaved scheme p u v w) i
    ∙ ap (λ b. max b (bit i (interleaved scheme p u v w))) (bit_at_place scheme p x y z i k)
    ∙ ap (λ b. max (bit_of_place scheme x y z (i % axes scheme) (i / axes scheme)) b) (bit_at_place scheme p u v w i k)
    ∙ each (i % axes scheme) (i / axes scheme))

-- y stands twice as high as x, and z four times
y_is_twice : (scheme : Scheme) (places y : ℕ) → interleaved scheme places y 0 0 * 2 ≡ interleaved scheme places 0 y 0
y_is_twice scheme zero y = refl
y_is_twice Quad (suc p) y = omega (arith, lowest_place Quad p y 0 0, lowest_place Quad p 0 y 0, y_is_twice Quad p (y / 2))
y_is_twice Oct (suc p) y = omega (arith, lowest_place Oct p y 0 0, lowest_place Oct p 0 y 0, y_is_twice Oct p (y / 2))

z_is_fourfold : (places z : ℕ) → interleaved Oct places z 0 0 * 4 ≡ interleaved Oct places 0 0 z
z_is_fourfold zero z = refl
z_is_fourfold (suc p) z = omega (arith, lowest_place Oct p z 0 0, lowest_place Oct p 0 0 z, z_is_fourfold p (z / 2))

x_and_y : (scheme : Scheme) (x y r j : ℕ) → max (bit_of_place scheme x 0 0 r j) (bit_of_place scheme 0 y 0 r j) ≡ bit_of_place scheme x y 0 r j
x_and_y scheme x y zero j = omega (arith, bit_at-zero j)
x_and_y scheme x y (suc zero) j = omega (arith, bit_at-zero j)
x_and_y scheme x y (suc (suc r)) j = omega (arith, bit_at-zero j)

xy_and_z : (scheme : Scheme) (x y z r j : ℕ) → max (bit_of_place scheme x y 0 r j) (bit_of_place scheme 0 0 z r j) ≡ bit_of_place scheme x y z r j
xy_and_z scheme x y z zero j = omega (arith, bit_at-zero j)
xy_and_z scheme x y z (suc zero) j = omega (arith, bit_at-zero j)
xy_and_z scheme x y z (suc (suc r)) j = omega (arith, bit_at-zero j)

pub of_two : (places x y a b : ℕ) → 4 ^ places ≡ 2 ^ (2 * places) → 4 ^ places ≤ 2 ^ 64
    → a ≡ interleaved Quad places x 0 0 → b ≡ interleaved Quad places y 0 0
    → bit_or a (b * 2 % 2 ^ 64) ≡ interleaved Quad places x y 0
of_two p x y a b width fits ea eb =
    let moved : b * 2 ≡ interleaved Quad p 0 y 0 = ap (λ n. n * 2) eb ∙ y_is_twice Quad p y in
    let high : b * 2 % 2 ^ 64 ≡ interleaved Quad p 0 y 0 = mod-eq_of_lt (omega (arith, moved, fits, places_below Quad p 0 y 0)) ∙ moved in
    ap (λ n. bit_or n (b * 2 % 2 ^ 64)) ea ∙ ap (bit_or (interleaved Quad p x 0 0)) high
    ∙ either Quad p x 0 0 0 y 0 x y 0 width (x_and_y Quad x y)

pub of_three : (places x y z a b c : ℕ) → 8 ^ places ≡ 2 ^ (3 * places) → 8 ^ places ≤ 2 ^ 64
    → a ≡ interleaved Oct places x 0 0 → b ≡ interleaved Oct places y 0 0 → c ≡ interleaved Oct places z 0 0
    → bit_or (bit_or a (b * 2 % 2 ^ 64)) (c * 4 % 2 ^ 64) ≡ interleaved Oct places x y z
of_three p x y z a b c width fits ea eb ec =
    let moved : b * 2 ≡ interleaved Oct p 0 y 0 = ap (λ n. n * 2) eb ∙ y_is_twice Oct p y in
    let high : b * 2 % 2 ^ 64 ≡ interleaved Oct p 0 y 0 = mod-eq_of_lt (omega (arith, moved, fits, places_below Oct p 0 y 0)) ∙ moved in
    let moved_z : c * 4 ≡ interleaved Oct p 0 0 z = ap (λ n. n * 4) ec ∙ z_is_fourfold p z in
    let highest : c * 4 % 2 ^ 64 ≡ interleaved Oct p 0 0 z = mod-eq_of_lt (omega (arith, moved_z, fits, places_below Oct p 0 0 z)) ∙ moved_z in
    ap (λ n. bit_or (bit_or n (b * 2 % 2 ^ 64)) (c * 4 % 2 ^ 64)) ea
    ∙ ap (λ n. bit_or (bit_or (interleaved Oct p x 0 0) n) (c * 4 % 2 ^ 64)) high
    ∙ ap (λ n. bit_or n (c * 4 % 2 ^ 64)) (either Oct p x 0 0 0 y 0 x y 0 width (x_and_y Oct x y))
    ∙ ap (bit_or (interleaved Oct p x y 0)) highest
    ∙ either Oct p x y 0 0 0 z x y z width (xy_and_z Oct x y z)

-- ---- coordinates that are taken apart

-- the bits of x are those of m at r places above each multiple of the axes' number
abbrev pub Taken : Scheme → ℕ → ℕ → ℕ → ℕ → Type 0
Taken scheme places m r x = (j : ℕ) → j < places → bit j x ≡ bit (axes scheme * j + r) m

pub taken : (scheme : Scheme) (places m x : ℕ) → ((j : ℕ) → j < places → bit j x ≡ bit (axes scheme * j) m) → Taken scheme places m 0 x
taken scheme p m x each = λ j h. each j h ∙ ap (λ i. bit i m) (sym (add-zero (axes scheme * j)))

pub same_taken : (scheme : Scheme) (places m r a b : ℕ) → a < 2 ^ places → b < 2 ^ places → Taken scheme places m r a → Taken scheme places m r b → a ≡ b
same_taken scheme p m r a b ha hb ta tb = same_from_bits_below p a b ha hb (λ j h. ta j h ∙ sym (tb j h))

quad_bit : (places x y m r j : ℕ) → Taken Quad places m 0 x → Taken Quad places m 1 y → j < places → r < 2 → bit (2 * j + r) m ≡ bit_of_place Quad x y 0 r j
quad_bit p x y m zero j tx ty h k = sym (tx j h)
quad_bit p x y m (suc zero) j tx ty h k = sym (ty j h)
quad_bit p x y m (suc (suc r)) j tx ty h k = absurd (omega arith)

pub quad_index : (places x y m : ℕ) → 4 ^ places ≡ 2 ^ (2 * places) → m < 2 ^ (2 * places)
    → Taken Quad places m 0 x → Taken Quad places m 1 y → interleaved Quad places x y 0 ≡ m
quad_index p x y m width h tx ty =
    sym (from_bits Quad p x y 0 m width h
    (λ i k. ap (λ n. bit n m) (divided Quad i) ∙ quad_bit p x y m (i % 2) (i / 2) tx ty (within Quad p i k) (residue Quad i)))

oct_bit : (places x y z m r j : ℕ) → Taken Oct places m 0 x → Taken Oct places m 1 y → Taken Oct places m 2 z → j < places → r < 3
    → bit (3 * j + r) m ≡ bit_of_place Oct x y z r j
oct_bit p x y z m zero j tx ty tz h k = sym (tx j h)
oct_bit p x y z m (suc zero) j tx ty tz h k = sym (ty j h)
oct_bit p x y z m (suc (suc zero)) j tx ty tz h k = sym (tz j h)
oct_bit p x y z m (suc (suc (suc r))) j tx ty tz h k = absurd (omega arith)

pub oct_index : (places x y z m : ℕ) → 8 ^ places ≡ 2 ^ (3 * places) → m < 2 ^ (3 * places)
    → Taken Oct places m 0 x → Taken Oct places m 1 y → Taken Oct places m 2 z → interleaved Oct places x y z ≡ m
oct_index p x y z m width h tx ty tz =
    sym (from_bits Oct p x y z m width h
    (λ i k. ap (λ n. bit n m) (divided Oct i) ∙ oct_bit p x y z m (i % 3) (i / 3) tx ty tz (within Oct p i k) (residue Oct i)))

-- the coordinates of an interleaved number are taken from it
taken_at : (scheme : Scheme) (places x y z m r : ℕ) → interleaved scheme places x y z ≡ m → r < axes scheme
    → (j : ℕ) → j < places → bit_of_place scheme x y z r j ≡ bit (axes scheme * j + r) m
taken_at scheme p x y z m r e k j h = sym (bit_of scheme p x y z j r h k) ∙ ap (bit (axes scheme * j + r)) e

pub x_taken : (scheme : Scheme) (places x y z m : ℕ) → interleaved scheme places x y z ≡ m → Taken scheme places m 0 x
x_taken Quad p x y z m e = taken_at Quad p x y z m 0 e (lit< tt)
x_taken Oct p x y z m e = taken_at Oct p x y z m 0 e (lit< tt)

pub y_taken : (scheme : Scheme) (places x y z m : ℕ) → interleaved scheme places x y z ≡ m → Taken scheme places m 1 y
y_taken Quad p x y z m e = taken_at Quad p x y z m 1 e (lit< tt)
y_taken Oct p x y z m e = taken_at Oct p x y z m 1 e (lit< tt)

pub z_taken : (places x y z m : ℕ) → interleaved Oct places x y z ≡ m → Taken Oct places m 2 z
z_taken p x y z m e = taken_at Oct p x y z m 2 e (lit< tt)

-- what is taken from a number that was moved down by r places
pub taken_below : (scheme : Scheme) (places m r x : ℕ) → ((j : ℕ) → j < places → bit j x ≡ bit (axes scheme * j) (m / 2 ^ r)) → Taken scheme places m r x
taken_below scheme p m r x each = λ j h.
    each j h ∙ down_bit m r (axes scheme * j) ∙ ap (λ i. bit i m) (add_comm r (axes scheme * j))
