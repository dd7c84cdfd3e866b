-- One step of a walk, by what is read of its root.
use Rattle.std.proofs.Common.{◌≡◌, ℕ, ◌+◌, ◌-◌, ◌%◌, ◌^◌, ◌<◌, ◌≤◌, Bool, true, false, List, [], ◌∷◌, ◌++◌, length, map, take, get_or, Some, None, refl, sym, ap, subst, ◌∙◌, arith, append-nil, length-append, inl, inr}
use Rattle.std.proofs.lemmas.Bool.{cases_eq, eqb-true, and_parts}
use Rattle.std.specs.Prelude.{◌==◌}
use Rattle.std.proofs.lemmas.List.{length-take, map-append}
use Rattle.std.proofs.Math.Seq.{take-append-add}
use Rattle.std.proofs.lemmas.List.Elements.{All-append, All-take, All-weaker, All-nil, All-cons}
use Rattle.implicit_tiling.specs.Limits.{most_subtree_fault}
use Rattle.implicit_tiling.specs.Tile.{Tile}
use Rattle.implicit_tiling.specs.Region.{Region, is_in}
use Rattle.implicit_tiling.specs.Scene.{Layout, Scene, good, bad, fault_of}
use Rattle.implicit_tiling.specs.Availability.{is_reached}
use Rattle.implicit_tiling.specs.Answer.{most_tiles}
use Rattle.implicit_tiling.specs.Subtree.{Subtree, IsSubtree, IsOf, bits_of}
use Rattle.implicit_tiling.specs.Code.{word_tile, word_level, tile_word}
use Rattle.implicit_tiling.specs.Nodes.{level_words, child_words}
use Rattle.implicit_tiling.specs.Steps.{pair_of, segment, root_level, pair_fault}
use Rattle.region_scan.specs.NodeLaws.{IsNodeWord}
use Rattle.region_scan.proofs.NodeWords.{found_words_are_words}
use Rattle.walk_laws.specs.Decoded.{IsDecoded}
use Rattle.walk_laws.specs.Children.{roots_below}
use Rattle.walk_laws.specs.Pairs.{NoPairFaults}
use Rattle.walk_laws.proofs.Decoded.{node_words}
use Rattle.walk_laws.proofs.Children.{next_level}
use Rattle.walk_laws.proofs.Segments.{local_low}
use Rattle.walk_laws.proofs.Pairs.{fault_at_own_level, no_fault_of_good}
use Rattle.tile_coords.specs.declared.walk_end.WalkEnd.{WalkEnd}
use Rattle.tile_coords.specs.declared.walk_end.WalkEnd.TheVariants.{Partial, Complete, TooMany, Fault}
use Rattle.reference_walk.specs.Appended.{Appends, if_last_words}
use Rattle.tile_word.specs.Roots.{IsRootWord, AreRoots}
use Rattle.subtree_outcome.specs.Outcomes.{IsFoundAt, IsOutcomeAt}
use Rattle.subtree_outcome.specs.Found.{IsTileWord, AreTileWords, AreTilesOf, IsFaultOf, EndsWithin}
use Rattle.subtree_outcome.proofs.Found.{tile_word_is, tiles_more}
use Rattle.subtree_outcome.specs.declared.outcome.Outcome.{Outcome}
use Rattle.subtree_outcome.specs.declared.outcome.Outcome.TheVariants.{Bad}
use Rattle.reference_walk.specs.Walks.{pair_words, word_pair, Walks, if_last, next_roots, IsWalked}
use Rattle.tile_walk.proofs.Words.{child_tiles}
use Rattle.tile_walk.proofs.Roots.{child_is_root}

-- the words of a local level are those of tiles of the layout
level_are_words : (layout : Layout) (st : Subtree) (region : Region) (local : ℕ) → IsSubtree st → IsOf layout st → AreTileWords layout (level_words st region local)
level_are_words layout st region local limits of =
    All-weaker (IsNodeWord st region local (2 ^ length st.contents)) (IsTileWord layout.scheme layout.levels (length layout.contents))
    (λ w node. tile_word_is st.scheme layout.scheme st.cut layout.levels (length st.contents) (length layout.contents) w of.same_scheme of.same_cut of.contents_named
    node.is_word node.below_cut node.mask)
    (level_words st region local) ((found_words_are_words st region limits).tiles local)

pub found_after : (layout : Layout) (st : Subtree) (region : Region) (local : ℕ) (before after roots next : List ℕ) (end : WalkEnd) → IsSubtree st → IsOf layout st
    → Appends st region local before after roots next end → AreTilesOf layout before → AreTilesOf layout after
found_after layout st region local before after roots next Partial limits of is found =
    let more = level_words st region local in
    tiles_more layout before more after found (level_are_words layout st region local limits of) (omega (arith, is.few, ap (length {A = ℕ}) is.words, length-append before more)) is.words
found_after layout st region local before after roots next Complete limits of is found = absurd is
found_after layout st region local before after roots next TooMany limits of is found =
    let room = most_tiles - length before in
    let more = level_words st region local in
    tiles_more layout before (take room more) after found
    (All-take (IsTileWord layout.scheme layout.levels (length layout.contents)) room more (level_are_words layout st region local limits of))
    (omega (arith, found.few, length-take room more)) is.words
found_after layout st region local before after roots next (Fault root n) limits of is found = absurd is

roots_if : (layout : Layout) (st : Subtree) (region : Region) (level : ℕ) (last : Bool) → IsSubtree st → IsOf layout st → 1 ≤ layout.subtree_levels
    → (last ≡ true → st.root.level + st.levels ≡ level + 1) → AreRoots layout (level + 1) (if_last_words last (child_words st region))
roots_if layout st region level false limits of some next = All-nil (IsRootWord layout (level + 1))
roots_if layout st region level true limits of some next =
    λ k d low. child_is_root layout st region level (get_or (child_words st region) k d) of some (next refl) ((found_words_are_words st region limits).children k d low)

-- the root's level and the local level make the level
pub level_is : (layout : Layout) (level root local : ℕ) → root ≡ root_level layout level → local ≡ level % layout.subtree_levels → level ≡ root + local
level_is layout level root local at low = omega (arith, at, low, local_low level layout.subtree_levels)

pub roots_after : (layout : Layout) (st : Subtree) (region : Region) (level local : ℕ) (before after roots next : List ℕ) (end : WalkEnd) → IsSubtree st → IsOf layout st
    → 1 ≤ layout.subtree_levels → level ≡ st.root.level + local → Appends st region local before after roots next end → AreRoots layout (level + 1) roots → AreRoots layout (level + 1) next
roots_after layout st region level local before after roots next Partial limits of some at is found =
    let P : List ℕ → Type 0 = AreRoots layout (level + 1) in
    subst P (sym is.roots_are) (All-append (IsRootWord layout (level + 1)) roots (if_last_words (local + 1 == st.levels) (child_words st region)) found
    (roots_if layout st region level (local + 1 == st.levels) limits of some (λ last. let e = eqb-true (local + 1) st.levels last in omega (arith, e, at))))
roots_after layout st region level local before after roots next Complete limits of some at is found = absurd is
roots_after layout st region level local before after roots next TooMany limits of some at is found =
    let P : List ℕ → Type 0 = AreRoots layout (level + 1) in subst P (sym is.same_roots) found
roots_after layout st region level local before after roots next (Fault root n) limits of some at is found = absurd is

pub ends_after : (layout : Layout) (st : Subtree) (region : Region) (local : ℕ) (before after roots next : List ℕ) (end : WalkEnd)
    → Appends st region local before after roots next end → EndsWithin layout end
ends_after layout st region local before after roots next Partial is = tt
ends_after layout st region local before after roots next Complete is = absurd is
ends_after layout st region local before after roots next TooMany is = tt
ends_after layout st region local before after roots next (Fault root n) is = absurd is

-- a root at its own level, and its fault
pub own_level : (layout : Layout) (level w : ℕ) → IsRootWord layout level w → IsRootWord layout (word_level w) w
own_level layout level w root = record {
  is_word = root.is_word;
  no_mask = root.no_mask;
  at_level = refl;
  below = omega (arith, root.below, root.at_level);
  at_start = ap (λ l. l % layout.subtree_levels) root.at_level ∙ root.at_start;
}

pub fault_is_of : (layout : Layout) (level w n : ℕ) (r : Tile) (o : Outcome) → IsRootWord layout level w → IsOutcomeAt layout r o → o ≡ Bad n → IsFaultOf layout w n
fault_is_of layout level w n r o root read same =
    let own : (1 ≤ n) × (n ≤ most_subtree_fault) = subst (IsOutcomeAt layout r) same read in
    record { root = own_level layout level w root; some = own.0; most = own.1 }

-- a faulty file ends the walk: where it is known to have none below its root's level, the level is the root's
fault_is : (s : Scene) (region : Region) (level w n : ℕ) (r : Tile) → r ≡ word_tile s.layout.scheme w → r.level ≡ root_level s.layout level → IsWalked s region level w
    → s.outcome r ≡ bad n → pair_fault s (word_pair s.layout.scheme level w) ≡ Some n
fault_is s region level w n r same at walked is =
    let fault : fault_of (s.outcome (word_tile s.layout.scheme w)) ≡ Some n = ap (λ t. fault_of (s.outcome t)) (sym same) ∙ ap fault_of is in
    elim (cases_eq (level % s.layout.subtree_levels) 0) [
      | inl start ↦ fault_at_own_level s level (word_tile s.layout.scheme w) (omega (arith, at, start, ap (λ (t : Tile). t.level) same)) ∙ fault
      | inr inner ↦ let none = walked.no_fault inner in cc
    ]

pub walks_fault : (s : Scene) (region : Region) (level w n : ℕ) (r : Tile) (words : List ℕ) → r ≡ word_tile s.layout.scheme w → r.level ≡ root_level s.layout level
    → IsWalked s region level w → length words ≤ most_tiles → s.outcome r ≡ bad n → Walks s region (word_pair s.layout.scheme level w ∷ []) words words (Fault w n)
walks_fault s region level w n r words same at walked few is = record {
  done = [];
  pair = word_pair s.layout.scheme level w;
  rest = [];
  parts = refl;
  no_fault = All-nil (λ p. pair_fault s p ≡ None);
  fault = fault_is s region level w n r same at walked is;
  at_root = refl;
  words = sym (append-nil words);
  few = few;
}

pair_words_are : (s : Scene) (region : Region) (level local w : ℕ) (st : Subtree) → IsDecoded s st → local < st.levels → st.root ≡ word_tile s.layout.scheme w
    → level ≡ st.root.level + local → pair_words s region (word_pair s.layout.scheme level w ∷ []) ≡ level_words st region local
pair_words_are s region level local w st is low same at =
    ap (map (tile_word s)) (append-nil (segment s region (word_pair s.layout.scheme level w)))
    ∙ ap (λ r. map (tile_word s) (segment s region (pair_of level r))) (sym same)
    ∙ ap (λ l. map (tile_word s) (segment s region (pair_of l st.root))) at
    ∙ node_words s region st local is low

no_fault_of : (s : Scene) (level w : ℕ) (st : Subtree) → IsDecoded s st → st.root ≡ word_tile s.layout.scheme w → NoPairFaults s (word_pair s.layout.scheme level w ∷ [])
no_fault_of s level w st is same =
    All-cons (λ p. pair_fault s p ≡ None) (word_pair s.layout.scheme level w) []
    (no_fault_of_good s level (word_tile s.layout.scheme w) (ap (λ t. fault_of (s.outcome t)) (sym same) ∙ ap fault_of is.same_bits)) (All-nil (λ p. pair_fault s p ≡ None))

pub walks_good : (s : Scene) (region : Region) (level local w : ℕ) (st : Subtree) (before after roots next : List ℕ) (end : WalkEnd) → IsDecoded s st → local < st.levels
    → st.root ≡ word_tile s.layout.scheme w → level ≡ st.root.level + local → length before ≤ most_tiles → Appends st region local before after roots next end
    → Walks s region (word_pair s.layout.scheme level w ∷ []) before after end
walks_good s region level local w st before after roots next Partial is low same at few appended = record {
  no_fault = no_fault_of s level w st is same;
  words = appended.words ∙ ap (λ ws. before ++ ws) (sym (pair_words_are s region level local w st is low same at));
  few = appended.few;
}
walks_good s region level local w st before after roots next Complete is low same at few appended = absurd appended
walks_good s region level local w st before after roots next TooMany is low same at few appended =
    let here = level_words st region local in
    let are = pair_words_are s region level local w st is low same at in
    let room = most_tiles - length before in
    let whole : length before + room ≡ most_tiles = omega (arith, few) in
    record {
      done = word_pair s.layout.scheme level w ∷ [];
      rest = [];
      parts = refl;
      no_fault = no_fault_of s level w st is same;
      many = let P : List ℕ → Type 0 = λ ws. most_tiles < length (before ++ ws) in subst P (sym are) (omega (arith, appended.many, length-append before here));
      words = appended.words ∙ sym (take-append-add before here room) ∙ ap (λ n. take n (before ++ here)) whole ∙ ap (λ ws. take most_tiles (before ++ ws)) (sym are);
    }
walks_good s region level local w st before after roots next (Fault root n) is low same at few appended = absurd appended

-- the child roots of a step that goes on
last_tiles : (s : Scene) (region : Region) (st : Subtree) (last : Bool) → IsDecoded s st
    → map (word_tile s.layout.scheme) (if_last_words last (child_words st region)) ≡ if_last last (roots_below s region st.root)
last_tiles s region st false is = refl
last_tiles s region st true is = child_tiles s region st is

pub next_good : (s : Scene) (region : Region) (level local w : ℕ) (st : Subtree) (before after roots next : List ℕ) (end : WalkEnd) → IsDecoded s st
    → local ≡ level % s.layout.subtree_levels → st.root ≡ word_tile s.layout.scheme w → Appends st region local before after roots next end → end ≡ Partial
    → map (word_tile s.layout.scheme) next ≡ map (word_tile s.layout.scheme) roots ++ next_roots s region level (word_tile s.layout.scheme w)
next_good s region level local w st before after roots next end is low same appended goes =
    let P : WalkEnd → Type 0 = Appends st region local before after roots next in
    let all = subst P goes appended in
    let f = word_tile s.layout.scheme in
    let test : (local + 1 == st.levels) ≡ (level % s.layout.subtree_levels + 1 == s.layout.subtree_levels) = ap (λ l. l + 1 == st.levels) low ∙ ap (λ n. level % s.layout.subtree_levels + 1 == n) is.of_layout.same_levels in
    ap (map f) all.roots_are ∙ map-append f roots (if_last_words (local + 1 == st.levels) (child_words st region))
    ∙ ap (λ ts. map f roots ++ ts) (last_tiles s region st (local + 1 == st.levels) is
    ∙ ap (λ b. if_last b (roots_below s region st.root)) test
    ∙ ap (λ r. if_last (level % s.layout.subtree_levels + 1 == s.layout.subtree_levels) (roots_below s region r)) same)
