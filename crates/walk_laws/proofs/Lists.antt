-- Lists of lists, filters of them, and ranges cut into blocks.
use Rattle.std.proofs.Common.{◌≡◌, ℕ, zero, suc, ◌+◌, ◌*◌, ◌<◌, ◌≤◌, Bool, true, false, cond, List, [], ◌∷◌, ◌++◌, map, refl, sym, ap, ◌∙◌, arith, add-zero, zero-add}
use Rattle.std.specs.Prelude.{◌&&◌, filter, Option, None}
use Rattle.std.specs.List.{flat_map, range_with_len, filter_map, cons_option, All}
use Rattle.std.proofs.lemmas.List.{map-append}
use Rattle.std.proofs.lemmas.Grind.{flat_map-append}
use Rattle.std.proofs.lemmas.List.Elements.{All-head, All-tail, All-nil, All-cons, filter-append, filter_map-append}

-- functions that agree on a list
pub map_same : {X Y : Type 0} (f g : X → Y) (xs : List X) → All (λ x. f x ≡ g x) xs → map f xs ≡ map g xs
map_same f g [] h = refl
map_same f g (x ∷ xs) h =
    ap (λ y. y ∷ map f xs) (All-head (λ w. f w ≡ g w) x xs h) ∙ ap (λ ys. g x ∷ ys) (map_same f g xs (All-tail (λ w. f w ≡ g w) x xs h))

pub flat_map_same : {X Y : Type 0} (f g : X → List Y) (xs : List X) → All (λ x. f x ≡ g x) xs → flat_map f xs ≡ flat_map g xs
flat_map_same f g [] h = refl
flat_map_same f g (x ∷ xs) h =
    ap (λ y. y ++ flat_map f xs) (All-head (λ w. f w ≡ g w) x xs h) ∙ ap (λ ys. g x ++ ys) (flat_map_same f g xs (All-tail (λ w. f w ≡ g w) x xs h))

pub filter_none : {X : Type 0} (p : X → Bool) (xs : List X) → All (λ x. p x ≡ false) xs → filter p xs ≡ []
filter_none p [] h = refl
filter_none p (x ∷ xs) h =
    ap (λ b. cond b (x ∷ filter p xs) (filter p xs)) (All-head (λ w. p w ≡ false) x xs h) ∙ filter_none p xs (All-tail (λ w. p w ≡ false) x xs h)

pub filter_all : {X : Type 0} (p : X → Bool) (xs : List X) → All (λ x. p x ≡ true) xs → filter p xs ≡ xs
filter_all p [] h = refl
filter_all p (x ∷ xs) h =
    ap (λ b. cond b (x ∷ filter p xs) (filter p xs)) (All-head (λ w. p w ≡ true) x xs h)
    ∙ ap (λ w. x ∷ w) (filter_all p xs (All-tail (λ w. p w ≡ true) x xs h))

-- a filter of a map
map_cond : {X Y : Type 0} (f : X → Y) (b : Bool) (x : X) (xs : List X) → cond b (f x ∷ map f xs) (map f xs) ≡ map f (cond b (x ∷ xs) xs)
map_cond f true x xs = refl
map_cond f false x xs = refl

pub filter-map : {X Y : Type 0} (p : Y → Bool) (f : X → Y) (xs : List X) → filter p (map f xs) ≡ map f (filter (λ x. p (f x)) xs)
filter-map p f [] = refl
filter-map p f (x ∷ xs) = ap (λ w. cond (p (f x)) (f x ∷ w) w) (filter-map p f xs) ∙ map_cond f (p (f x)) x (filter (λ y. p (f y)) xs)

-- a filter of a filter
filter_cond : {X : Type 0} (p : X → Bool) (b : Bool) (x : X) (xs : List X) → filter p (cond b (x ∷ xs) xs) ≡ cond (b && p x) (x ∷ filter p xs) (filter p xs)
filter_cond p true x xs = refl
filter_cond p false x xs = refl

pub filter-filter : {X : Type 0} (p q : X → Bool) (xs : List X) → filter q (filter p xs) ≡ filter (λ x. p x && q x) xs
filter-filter p q [] = refl
filter-filter p q (x ∷ xs) = filter_cond q (p x) x (filter p xs) ∙ ap (λ w. cond (p x && q x) (x ∷ w) w) (filter-filter p q xs)

pub map-map : {X Y Z : Type 0} (g : Y → Z) (f : X → Y) (xs : List X) → map g (map f xs) ≡ map (λ x. g (f x)) xs
map-map g f [] = refl
map-map g f (x ∷ xs) = ap (λ w. g (f x) ∷ w) (map-map g f xs)

-- lists of lists
pub map-flat_map : {X Y Z : Type 0} (g : Y → Z) (f : X → List Y) (xs : List X) → map g (flat_map f xs) ≡ flat_map (λ x. map g (f x)) xs
map-flat_map g f [] = refl
map-flat_map g f (x ∷ xs) = map-append g (f x) (flat_map f xs) ∙ ap (λ w. map g (f x) ++ w) (map-flat_map g f xs)

pub filter-flat_map : {X Y : Type 0} (p : Y → Bool) (f : X → List Y) (xs : List X) → filter p (flat_map f xs) ≡ flat_map (λ x. filter p (f x)) xs
filter-flat_map p f [] = refl
filter-flat_map p f (x ∷ xs) = filter-append p (f x) (flat_map f xs) ∙ ap (λ w. filter p (f x) ++ w) (filter-flat_map p f xs)

pub filter_map-flat_map : {X Y Z : Type 0} (h : Y → Option Z) (f : X → List Y) (xs : List X) → filter_map h (flat_map f xs) ≡ flat_map (λ x. filter_map h (f x)) xs
filter_map-flat_map h f [] = refl
filter_map-flat_map h f (x ∷ xs) = filter_map-append h (f x) (flat_map f xs) ∙ ap (λ w. filter_map h (f x) ++ w) (filter_map-flat_map h f xs)

pub flat_map-flat_map : {X Y Z : Type 0} (g : Y → List Z) (f : X → List Y) (xs : List X) → flat_map g (flat_map f xs) ≡ flat_map (λ x. flat_map g (f x)) xs
flat_map-flat_map g f [] = refl
flat_map-flat_map g f (x ∷ xs) = flat_map-append g (f x) (flat_map f xs) ∙ ap (λ w. flat_map g (f x) ++ w) (flat_map-flat_map g f xs)

pub flat_map-map : {X Y Z : Type 0} (g : Y → List Z) (f : X → Y) (xs : List X) → flat_map g (map f xs) ≡ flat_map (λ x. g (f x)) xs
flat_map-map g f [] = refl
flat_map-map g f (x ∷ xs) = ap (λ w. g (f x) ++ w) (flat_map-map g f xs)

pub filter_map-map : {X Y Z : Type 0} (h : Y → Option Z) (f : X → Y) (xs : List X) → filter_map h (map f xs) ≡ filter_map (λ x. h (f x)) xs
filter_map-map h f [] = refl
filter_map-map h f (x ∷ xs) = ap (λ w. cons_option (h (f x)) w) (filter_map-map h f xs)

-- elements that give nothing may be left out
kept_or_empty : {X Y : Type 0} (f : X → List Y) (b : Bool) (x : X) (xs : List X) → (b ≡ false → f x ≡ []) → f x ++ flat_map f xs ≡ flat_map f (cond b (x ∷ xs) xs)
kept_or_empty f true x xs h = refl
kept_or_empty f false x xs h = ap (λ w. w ++ flat_map f xs) (h refl)

pub flat_map_kept : {X Y : Type 0} (f : X → List Y) (p : X → Bool) (xs : List X) → All (λ x. p x ≡ false → f x ≡ []) xs → flat_map f xs ≡ flat_map f (filter p xs)
flat_map_kept f p [] h = refl
flat_map_kept f p (x ∷ xs) h =
    ap (λ w. f x ++ w) (flat_map_kept f p xs (All-tail (λ w. p w ≡ false → f w ≡ []) x xs h))
    ∙ kept_or_empty f (p x) x (filter p xs) (All-head (λ w. p w ≡ false → f w ≡ []) x xs h)

-- ranges
pub of_range : (P : ℕ → Type 0) (a n : ℕ) → ((i : ℕ) → a ≤ i → i < a + n → P i) → All P (range_with_len a n)
of_range P a zero h = All-nil P
of_range P a (suc n) h = All-cons P a (range_with_len (a + 1) n) (h a (omega arith) (omega arith)) (of_range P (a + 1) n (λ i low high. h i (omega arith) (omega arith)))

pub range-append : (a m n : ℕ) → range_with_len a (m + n) ≡ range_with_len a m ++ range_with_len (a + m) n
range-append a zero n = ap (λ k. range_with_len a k) (zero-add n) ∙ ap (λ k. range_with_len k n) (sym (add-zero a))
range-append a (suc m) n =
    let count : suc m + n ≡ suc (m + n) = omega arith in
    let start : a + 1 + m ≡ a + suc m = omega arith in
    ap (λ k. range_with_len a k) count ∙ ap (λ w. a ∷ w) (range-append (a + 1) m n) ∙ ap (λ k. a ∷ (range_with_len (a + 1) m ++ range_with_len k n)) start

-- a range of n blocks of m numbers each
pub range_blocks : (m a n : ℕ) → range_with_len (a * m) (n * m) ≡ flat_map (λ i. range_with_len (i * m) m) (range_with_len a n)
range_blocks m a zero =
    let none : 0 * m ≡ 0 = omega arith in
    ap (λ k. range_with_len (a * m) k) none
range_blocks m a (suc n) =
    let count : suc n * m ≡ m + n * m = omega arith in
    let next : a * m + m ≡ (a + 1) * m = omega arith in
    ap (λ k. range_with_len (a * m) k) count ∙ range-append (a * m) m (n * m)
    ∙ ap (λ k. range_with_len (a * m) m ++ range_with_len k (n * m)) next ∙ ap (λ w. range_with_len (a * m) m ++ w) (range_blocks m (a + 1) n)

-- a range from another start
pub range_shifted : {X : Type 0} (f : ℕ → X) (a b n : ℕ) → map f (range_with_len (a + b) n) ≡ map (λ j. f (a + j)) (range_with_len b n)
range_shifted f a b zero = refl
range_shifted f a b (suc n) =
    let next : a + b + 1 ≡ a + (b + 1) = omega arith in
    ap (λ k. f (a + b) ∷ map f (range_with_len k n)) next ∙ ap (λ w. f (a + b) ∷ w) (range_shifted f a (b + 1) n)

-- optional values
pub filter_map_same : {X Y : Type 0} (f g : X → Option Y) (xs : List X) → All (λ x. f x ≡ g x) xs → filter_map f xs ≡ filter_map g xs
filter_map_same f g [] h = refl
filter_map_same f g (x ∷ xs) h =
    ap (λ o. cons_option o (filter_map f xs)) (All-head (λ w. f w ≡ g w) x xs h)
    ∙ ap (λ w. cons_option (g x) w) (filter_map_same f g xs (All-tail (λ w. f w ≡ g w) x xs h))

pub filter_map_none : {X Y : Type 0} (f : X → Option Y) (xs : List X) → All (λ x. f x ≡ None) xs → filter_map f xs ≡ []
filter_map_none f [] h = refl
filter_map_none f (x ∷ xs) h =
    ap (λ o. cons_option o (filter_map f xs)) (All-head (λ w. f w ≡ None) x xs h) ∙ filter_map_none f xs (All-tail (λ w. f w ≡ None) x xs h)

pub flat_map_none : {X Y : Type 0} (f : X → List Y) (xs : List X) → All (λ x. f x ≡ []) xs → flat_map f xs ≡ []
flat_map_none f [] h = refl
flat_map_none f (x ∷ xs) h =
    ap (λ w. w ++ flat_map f xs) (All-head (λ w. f w ≡ []) x xs h) ∙ flat_map_none f xs (All-tail (λ w. f w ≡ []) x xs h)
