-- The text of a reply is that of what it says.
use Rattle.std.proofs.Common.{◌≡◌, ℕ, zero, suc, ◌+◌, ◌^◌, ◌<◌, ◌≤◌, Bool, true, false, List, [], ◌∷◌, ◌++◌, length, map, codes, refl, ap, ◌∙◌, arith, add-one, lit<}
use Rattle.std.specs.Prelude.{◌*◌, if◌then◌else◌}
use Rattle.std.specs.List.{flat_map, All, AllByRecursion}
use Rattle.std.specs.Fmt.{decimal}
use Rattle.std.proofs.Math.Nat.{pow-suc, pow-le-pow_right}
use Rattle.std.proofs.lemmas.List.{length-map}
use Rattle.std.proofs.lemmas.List.Elements.{recursion_from_All}
use Rattle.implicit_tiling.specs.declared.Scheme.{Scheme}
use Rattle.implicit_tiling.specs.Tile.{Tile}
use Rattle.implicit_tiling.specs.Scene.{Scene, content_bits_of}
use Rattle.implicit_tiling.specs.Availability.{mask, mask_from, content_bit, subtree_root, place}
use Rattle.implicit_tiling.specs.Code.{word_mask, tile_word}
use Rattle.implicit_tiling.specs.Text.{line, tile_line, word_line}
use Rattle.implicit_tiling.specs.Steps.{StepEnd}
use Rattle.tile_word.specs.Words.{HasWord}
use Rattle.tile_word.proofs.Tiles.{words_have_their_parts}
use Rattle.tile_coords.specs.declared.walk_end.WalkEnd.{WalkEnd}
use Rattle.tile_coords.specs.declared.walk_end.WalkEnd.TheVariants.{Partial, Complete, TooMany, Fault}
use Rattle.tile_coords.specs.Ends.{end_seen}
use Rattle.replay_script.specs.declared.reply.Reply.{Reply}
use Rattle.replay_script.specs.declared.reply.Reply.TheVariants.{Bad, No, Cursor, Refused, Claimed, End, Out, Hit, Granted}
use Rattle.replay_script.specs.declared.reply.Reply.TheVariants.{Loading, Busy, Loaded, Failed, Moved, Dropped, Page}
use Rattle.replay_script.specs.Replies.{reply_text, state_text, page_line}
use Rattle.replay_machine.specs.Said.{Said, Says, bad_line, not_now, cursor, refused, claimed, at_end, out, hit, granted, loading, busy, loaded, failed, moved, dropped, page}
use Rattle.replay_run.specs.Plays.{said_text, said_tiles, end_text}

-- ---- the line of a tile by its word

worth : (b : Bool) (c : ℕ) → (if b then 2 ^ c else 0) ≤ 2 ^ c
worth true c = omega arith
worth false c = omega arith

bit_below : (s : Scene) (t : Tile) (c : ℕ) (bits : ℕ → Bool) → content_bit s t c bits ≤ 2 ^ c
bit_below s t c bits = worth (bits (place s.layout t)) c

-- the contents from c on make less than their number of places holds
mask_within : (s : Scene) (t : Tile) (c : ℕ) (templates : List (List ℕ)) (bits : List (ℕ → Bool)) → mask_from s t c templates bits + 2 ^ c ≤ 2 ^ (c + length templates)
mask_within s t c [] bits =
    let same : 2 ^ c ≤ 2 ^ (c + zero) = pow-le-pow_right (lit< tt) (omega arith) in omega (arith, same)
mask_within s t c (template ∷ templates) [] =
    let grows : 2 ^ c ≤ 2 ^ (c + suc (length templates)) = pow-le-pow_right (lit< tt) (omega arith) in omega (arith, grows)
mask_within s t c (template ∷ templates) (b ∷ bits) =
    let same : c + 1 + length templates ≡ c + suc (length templates) = omega arith in
    let rest : mask_from s t (c + 1) templates bits + 2 ^ (c + 1) ≤ 2 ^ (c + suc (length templates)) = rw (← same) (mask_within s t (c + 1) templates bits) in
    let twice : 2 ^ (c + 1) ≡ 2 ^ c * 2 = ap (λ n. 2 ^ n) (add-one c) ∙ pow-suc 2 c in
    omega (arith, rest, twice, bit_below s t c b)

mask_fits : (s : Scene) (t : Tile) → length s.layout.contents ≤ 16 → mask s t < 2 ^ 16
mask_fits s t few =
    let within : mask s t + 2 ^ 0 ≤ 2 ^ (0 + length s.layout.contents) = mask_within s t 0 s.layout.contents (content_bits_of (s.outcome (subtree_root s.layout t))) in
    let most : 0 + length s.layout.contents ≤ 16 = omega (arith, few) in
    let small : 2 ^ (0 + length s.layout.contents) ≤ 2 ^ 16 = pow-le-pow_right (lit< tt) most in
    omega (arith, within, small)

line_is : (s : Scene) (t : Tile) → HasWord s.layout.scheme t → length s.layout.contents ≤ 16 → word_line s.layout (tile_word s t) ≡ tile_line s.layout t (mask s t)
line_is s t has few =
    let parts = words_have_their_parts s.layout.scheme t (mask s t) has (mask_fits s t few) in
    ap (λ u. tile_line s.layout u (word_mask (tile_word s t))) parts.tile ∙ ap (tile_line s.layout t) parts.mask

lines_are : (s : Scene) (ts : List Tile) → AllByRecursion (HasWord s.layout.scheme) ts → length s.layout.contents ≤ 16
    → flat_map (word_line s.layout) (map (tile_word s) ts) ≡ flat_map (λ t. tile_line s.layout t (mask s t)) ts
lines_are s [] all few = refl
lines_are s (t ∷ ts) all few = ap (λ w. w ++ flat_map (word_line s.layout) (map (tile_word s) ts)) (line_is s t all.0 few) ∙ ap (λ w. tile_line s.layout t (mask s t) ++ w) (lines_are s ts all.1 few)

-- ---- replies

state_is : (scheme : Scheme) (end : WalkEnd) → state_text end ≡ end_text (end_seen scheme end)
state_is scheme Partial = refl
state_is scheme Complete = refl
state_is scheme TooMany = refl
state_is scheme (Fault root number) = refl

page_line_of : ℕ → ℕ → List ℕ → List ℕ
page_line_of from count state = line (codes "page" ∷ decimal from ∷ decimal count ∷ state ∷ [])

page_is : (s : Scene) (from place : ℕ) (tiles : List Tile) (words : List ℕ) (end : StepEnd) (shown : WalkEnd) → place ≡ from → words ≡ map (tile_word s) tiles → end_seen s.layout.scheme shown ≡ end
    → All (HasWord s.layout.scheme) tiles → length s.layout.contents ≤ 16
    → page_line place (length words) shown ++ flat_map (word_line s.layout) words ≡ said_text s (page from tiles end)
unfolding page_line_of
page_is s from place tiles words end shown at are is have few =
    ap (λ n. page_line_of n (length words) (state_text shown) ++ flat_map (word_line s.layout) words) at
    ∙ ap (λ ws. page_line_of from (length ws) (state_text shown) ++ flat_map (word_line s.layout) ws) are
    ∙ ap (λ n. page_line_of from n (state_text shown) ++ flat_map (word_line s.layout) (map (tile_word s) tiles)) (length-map tiles (tile_word s))
    ∙ ap (λ state. page_line_of from (length tiles) state ++ flat_map (word_line s.layout) (map (tile_word s) tiles)) (state_is s.layout.scheme shown ∙ ap end_text is)
    ∙ ap (λ lines. page_line_of from (length tiles) (end_text end) ++ lines) (lines_are s tiles (recursion_from_All (HasWord s.layout.scheme) tiles have) few)

pub text_is : (s : Scene) (said : Said) (reply : Reply) → Says s said reply → All (HasWord s.layout.scheme) (said_tiles said) → length s.layout.contents ≤ 16
    → reply_text s.layout reply ≡ said_text s said
text_is s bad_line reply is have few = ap (reply_text s.layout) is
text_is s not_now reply is have few = ap (reply_text s.layout) is
text_is s (cursor c) reply is have few = ap (reply_text s.layout) is
text_is s (refused k) reply is have few = ap (reply_text s.layout) is
text_is s claimed reply is have few = ap (reply_text s.layout) is
text_is s at_end reply is have few = ap (reply_text s.layout) is
text_is s out reply is have few = ap (reply_text s.layout) is
text_is s (hit f) reply is have few = ap (reply_text s.layout) is
text_is s (granted f) reply is have few = ap (reply_text s.layout) is
text_is s loading reply is have few = ap (reply_text s.layout) is
text_is s busy reply is have few = ap (reply_text s.layout) is
text_is s (loaded f) reply is have few = ap (reply_text s.layout) is
text_is s failed reply is have few = ap (reply_text s.layout) is
text_is s (moved n) reply is have few = ap (reply_text s.layout) is
text_is s dropped reply is have few = ap (reply_text s.layout) is
text_is s (page from tiles end) (Page place words shown) is have few = page_is s from place tiles words.items end shown is.0 is.1 is.2 have few
text_is s (page from tiles end) Bad is have few = absurd is
text_is s (page from tiles end) No is have few = absurd is
text_is s (page from tiles end) (Cursor c) is have few = absurd is
text_is s (page from tiles end) (Refused k) is have few = absurd is
text_is s (page from tiles end) Claimed is have few = absurd is
text_is s (page from tiles end) End is have few = absurd is
text_is s (page from tiles end) Out is have few = absurd is
text_is s (page from tiles end) (Hit f) is have few = absurd is
text_is s (page from tiles end) (Granted f) is have few = absurd is
text_is s (page from tiles end) Loading is have few = absurd is
text_is s (page from tiles end) Busy is have few = absurd is
text_is s (page from tiles end) (Loaded f) is have few = absurd is
text_is s (page from tiles end) Failed is have few = absurd is
text_is s (page from tiles end) (Moved n) is have few = absurd is
text_is s (page from tiles end) Dropped is have few = absurd is
