-- The four walks through masks, each by its table.
use Rattle.std.proofs.Common.{◌≡◌, ℕ, zero, suc, ◌+◌, ◌*◌, ◌/◌, ◌%◌, ◌^◌, ◌<◌, List, [], ◌∷◌, refl, sym, ap, ◌∙◌, arith, map, lit<, add-zero}
use Rattle.std.specs.List.{range_with_len}
use Rattle.std.proofs.lemmas.Nat.{and_le_r}
use Rattle.std.proofs.lemmas.Nat.Bits.{bit_at-zero}
use Rattle.implicit_tiling.specs.declared.Scheme.{Scheme}
use Rattle.implicit_tiling.specs.declared.Scheme.TheVariants.{Quad, Oct}
use Rattle.implicit_tiling.specs.Tile.{axes, branching, bit, interleaved}
use Rattle.morton.proofs.Steps.{Shows, shown, kept, up, down, shows_itself, shows_itself_below, shows_kept, shows_spread, shows_gathered, agree}
use Rattle.morton.proofs.Places.{bit_of_place, from_bits, Taken}

-- bit j where the place has the residue 0
abbrev pub lowest : ℕ → ℕ → List ℕ
lowest zero j = j ∷ []
lowest (suc r) j = []

-- the table of a number that is spread
abbrev pub spread_table : Scheme → ℕ → List ℕ
spread_table scheme i = lowest (i % axes scheme) (i / axes scheme)

-- the table of a number that is gathered
abbrev pub gathered_table : Scheme → ℕ → List ℕ
gathered_table scheme j = axes scheme * j ∷ []

shown_lowest : (scheme : Scheme) (x r j : ℕ) → shown x (lowest r j) ≡ bit_of_place scheme x 0 0 r j
shown_lowest scheme x zero j = omega arith
shown_lowest scheme x (suc zero) j = sym (bit_at-zero j)
shown_lowest scheme x (suc (suc r)) j = sym (bit_at-zero j)

spread_is : (scheme : Scheme) (places : ℕ) {x word : ℕ} {table : ℕ → List ℕ} → Shows x word table → branching scheme ^ places ≡ 2 ^ (axes scheme * places)
    → word < 2 ^ (axes scheme * places)
    → map table (range_with_len 0 (axes scheme * places)) ≡ map (spread_table scheme) (range_with_len 0 (axes scheme * places))
    → word ≡ interleaved scheme places x 0 0
spread_is scheme p {x} {word} {table} shows width h same =
    from_bits scheme p x 0 0 word width h
    (λ i k. shows.each i ∙ ap (shown x) (agree (axes scheme * p) table (spread_table scheme) same i k) ∙ shown_lowest scheme x (i % axes scheme) (i / axes scheme))

shown_one : (m i : ℕ) → shown m (i ∷ []) ≡ bit i m
shown_one m i = omega arith

alone : (scheme : Scheme) (m j : ℕ) → shown m (axes scheme * j ∷ []) ≡ bit (axes scheme * j + 0) m
alone scheme m j = shown_one m (axes scheme * j) ∙ ap (λ i. bit i m) (sym (add-zero (axes scheme * j)))

gathered_is : (scheme : Scheme) (places : ℕ) {m word : ℕ} {table : ℕ → List ℕ} → Shows m word table
    → map table (range_with_len 0 places) ≡ map (gathered_table scheme) (range_with_len 0 places)
    → Taken scheme places m 0 word
gathered_is scheme p {m} {word} {table} shows same = λ j h.
    shows.each j ∙ ap (shown m) (agree p table (gathered_table scheme) same j h) ∙ alone scheme m j

pub kept_below : (mask word bound : ℕ) → mask < bound → kept mask word < bound
kept_below mask word bound h = omega (arith, and_le_r word mask)

-- a step of a spreading, and one of a gathering
abbrev pub spread_step : ℕ → ℕ → ℕ → ℕ
spread_step s mask word = kept mask (up s word)

abbrev pub gather_step : ℕ → ℕ → ℕ → ℕ
gather_step s mask word = kept mask (down s word)

-- the walks of two coordinates
abbrev pub quad_spread : ℕ → ℕ
quad_spread x =
    spread_step 1 0x5555_5555_5555_5555 (spread_step 2 0x3333_3333_3333_3333 (spread_step 4 0x0F0F_0F0F_0F0F_0F0F
    (spread_step 8 0x00FF_00FF_00FF_00FF (spread_step 16 0x0000_FFFF_0000_FFFF x))))

abbrev pub quad_gather : ℕ → ℕ
quad_gather m =
    gather_step 16 0xFFFF_FFFF (gather_step 8 0x0000_FFFF_0000_FFFF (gather_step 4 0x00FF_00FF_00FF_00FF
    (gather_step 2 0x0F0F_0F0F_0F0F_0F0F (gather_step 1 0x3333_3333_3333_3333 (kept 0x5555_5555_5555_5555 m)))))

pub quad_spread_is : (x : ℕ) → x < 2 ^ 32 → quad_spread x ≡ interleaved Quad 32 x 0 0
quad_spread_is x h =
    let shows =
    shows_spread 1 0x5555_5555_5555_5555 (lit< tt) (shows_spread 2 0x3333_3333_3333_3333 (lit< tt) (shows_spread 4 0x0F0F_0F0F_0F0F_0F0F (lit< tt)
    (shows_spread 8 0x00FF_00FF_00FF_00FF (lit< tt) (shows_spread 16 0x0000_FFFF_0000_FFFF (lit< tt) (shows_itself_below x 32 h))))) in
    spread_is Quad 32 shows refl (kept_below 0x5555_5555_5555_5555 _ (2 ^ 64) (lit< tt)) refl

pub quad_gather_is : (m : ℕ) → Taken Quad 32 m 0 (quad_gather m)
quad_gather_is m =
    let shows =
    shows_gathered 16 0xFFFF_FFFF (shows_gathered 8 0x0000_FFFF_0000_FFFF (shows_gathered 4 0x00FF_00FF_00FF_00FF
    (shows_gathered 2 0x0F0F_0F0F_0F0F_0F0F (shows_gathered 1 0x3333_3333_3333_3333 (shows_kept 0x5555_5555_5555_5555 (shows_itself m)))))) in
    gathered_is Quad 32 shows refl

-- the walks of three coordinates
abbrev pub oct_spread : ℕ → ℕ
oct_spread x =
    spread_step 2 0x1249_2492_4924_9249 (spread_step 4 0x10C3_0C30_C30C_30C3 (spread_step 8 0x100F_00F0_0F00_F00F
    (spread_step 16 0x001F_0000_FF00_00FF (spread_step 32 0x001F_0000_0000_FFFF x))))

abbrev pub oct_gather : ℕ → ℕ
oct_gather m =
    gather_step 32 0x001F_FFFF (gather_step 16 0x001F_0000_0000_FFFF (gather_step 8 0x001F_0000_FF00_00FF
    (gather_step 4 0x100F_00F0_0F00_F00F (gather_step 2 0x10C3_0C30_C30C_30C3 (kept 0x1249_2492_4924_9249 m)))))

pub oct_spread_is : (x : ℕ) → x < 2 ^ 21 → oct_spread x ≡ interleaved Oct 21 x 0 0
oct_spread_is x h =
    let shows =
    shows_spread 2 0x1249_2492_4924_9249 (lit< tt) (shows_spread 4 0x10C3_0C30_C30C_30C3 (lit< tt) (shows_spread 8 0x100F_00F0_0F00_F00F (lit< tt)
    (shows_spread 16 0x001F_0000_FF00_00FF (lit< tt) (shows_spread 32 0x001F_0000_0000_FFFF (lit< tt) (shows_itself_below x 21 h))))) in
    spread_is Oct 21 shows refl (kept_below 0x1249_2492_4924_9249 _ (2 ^ 63) (lit< tt)) refl

pub oct_gather_is : (m : ℕ) → Taken Oct 21 m 0 (oct_gather m)
oct_gather_is m =
    let shows =
    shows_gathered 32 0x001F_FFFF (shows_gathered 16 0x001F_0000_0000_FFFF (shows_gathered 8 0x001F_0000_FF00_00FF
    (shows_gathered 4 0x100F_00F0_0F00_F00F (shows_gathered 2 0x10C3_0C30_C30C_30C3 (shows_kept 0x1249_2492_4924_9249 (shows_itself m)))))) in
    gathered_is Oct 21 shows refl
