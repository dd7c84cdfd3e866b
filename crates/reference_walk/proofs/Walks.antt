-- A walk over its pairs, part by part.
use Rattle.std.proofs.Common.{◌≡◌, ◌≢◌, ℕ, ◌+◌, ◌-◌, ◌<◌, ◌≤◌, List, [], ◌∷◌, ◌++◌, length, map, take, drop, get_or, None, refl, sym, ap, subst, ◌∙◌, arith, append_assoc, append-nil, length-append}
use Rattle.std.specs.List.{flat_map, range_with_len}
use Rattle.std.proofs.lemmas.List.{map-append, length-map, take_more, take-append-drop, take-map}
use Rattle.std.proofs.lemmas.List.Elements.{All-append}
use Rattle.std.proofs.lemmas.Grind.{flat_map-append}
use Rattle.implicit_tiling.specs.Tile.{Tile}
use Rattle.implicit_tiling.specs.Region.{Region}
use Rattle.implicit_tiling.specs.Files.{Files}
use Rattle.implicit_tiling.specs.Scene.{Layout, Scene}
use Rattle.implicit_tiling.specs.Code.{word_tile, tile_word}
use Rattle.implicit_tiling.specs.Answer.{fault, Answer, answer, most_tiles}
use Rattle.implicit_tiling.specs.Steps.{Pair, pair_of, segment, pair_fault, pairs, walk_roots, ended}
use Rattle.walk_laws.specs.Pairs.{tiles_of_pairs, level_pairs, pairs_above}
use Rattle.walk_laws.proofs.Lists.{map-map}
use Rattle.walk_laws.proofs.Pairs.{pairs_go_down, pairs_above_come_first}
use Rattle.walk_laws.proofs.PairAnswers.{answer_is_complete, answer_stops_at_a_fault, answer_is_cut}
use Rattle.scene_ports.specs.Counts.{more_by}
use Rattle.subtree_outcome.specs.Fetched.{cost_of_all}
use Rattle.subtree_outcome.proofs.Fetching.{costs_together}
use Rattle.tile_coords.specs.declared.walk_end.WalkEnd.{WalkEnd}
use Rattle.tile_coords.specs.declared.walk_end.WalkEnd.TheVariants.{Partial, Complete, TooMany, Fault}
use Rattle.tile_word.specs.Answers.{IsAnswer}
use Rattle.reference_walk.specs.Walks.{cost_of_pairs, pair_words, word_pair, Walks, GoesOn}
use Rattle.tile_coords.specs.Ends.{end_seen, end_word}
use Rattle.subtree_outcome.specs.Found.{EndsWithin}
use Rattle.subtree_outcome.proofs.Found.{ends_at_root}
use Rattle.tile_word.proofs.Ends.{end_of_words}

pub pair_words-append : (s : Scene) (region : Region) (ps qs : List Pair) → pair_words s region (ps ++ qs) ≡ pair_words s region ps ++ pair_words s region qs
pair_words-append s region ps qs =
    ap (map (tile_word s)) (flat_map-append (segment s region) ps qs) ∙ map-append (tile_word s) (tiles_of_pairs s region ps) (tiles_of_pairs s region qs)

-- no pair, and no word so far
pub goes_nowhere : (s : Scene) (region : Region) (words : List ℕ) → length words ≤ most_tiles → GoesOn s region [] words words
goes_nowhere s region words few = record { no_fault = λ k d low. absurd (omega arith); words = sym (append-nil words); few = few }

-- the words after some pairs and then others
words_on : (s : Scene) (region : Region) (ps qs : List Pair) (before mid : List ℕ) → mid ≡ before ++ pair_words s region ps
    → mid ++ pair_words s region qs ≡ before ++ pair_words s region (ps ++ qs)
words_on s region ps qs before mid is =
    ap (λ ws. ws ++ pair_words s region qs) is ∙ append_assoc before (pair_words s region ps) (pair_words s region qs)
    ∙ ap (λ ws. before ++ ws) (sym (pair_words-append s region ps qs))

-- a walk that went on, and then walks further pairs
pub walks_on : (s : Scene) (region : Region) (ps qs : List Pair) (before mid after : List ℕ) (end : WalkEnd) → GoesOn s region ps before mid → Walks s region qs mid after end
    → Walks s region (ps ++ qs) before after end
walks_on s region ps qs before mid after Partial on is = record {
  no_fault = All-append (λ p. pair_fault s p ≡ None) ps qs on.no_fault is.no_fault;
  words = is.words ∙ words_on s region ps qs before mid on.words;
  few = is.few;
}
walks_on s region ps qs before mid after Complete on is = absurd is
walks_on s region ps qs before mid after TooMany on is =
    let same = words_on s region ps is.done before mid on.words in
    let P : List ℕ → Type 0 = λ ws. most_tiles < length ws in
    record {
      done = ps ++ is.done;
      rest = is.rest;
      parts = ap (λ w. ps ++ w) is.parts ∙ sym (append_assoc ps is.done is.rest);
      no_fault = All-append (λ p. pair_fault s p ≡ None) ps is.done on.no_fault is.no_fault;
      many = subst P same is.many;
      words = is.words ∙ ap (take most_tiles) same;
    }
walks_on s region ps qs before mid after (Fault root n) on is = record {
  done = ps ++ is.done;
  pair = is.pair;
  rest = is.rest;
  parts = ap (λ w. ps ++ w) is.parts ∙ sym (append_assoc ps is.done (is.pair ∷ is.rest));
  no_fault = All-append (λ p. pair_fault s p ≡ None) ps is.done on.no_fault is.no_fault;
  fault = is.fault;
  at_root = is.at_root;
  words = is.words ∙ words_on s region ps is.done before mid on.words;
  few = is.few;
}

-- a walk that has ended leaves what follows aside
pub walks_no_more : (s : Scene) (region : Region) (ps rest : List Pair) (before after : List ℕ) (end : WalkEnd) → end ≢ Partial → Walks s region ps before after end
    → Walks s region (ps ++ rest) before after end
walks_no_more s region ps rest before after Partial over is = absurd (over refl)
walks_no_more s region ps rest before after Complete over is = absurd is
walks_no_more s region ps rest before after TooMany over is = record {
  done = is.done;
  rest = is.rest ++ rest;
  parts = ap (λ w. w ++ rest) is.parts ∙ append_assoc is.done is.rest rest;
  no_fault = is.no_fault;
  many = is.many;
  words = is.words;
}
walks_no_more s region ps rest before after (Fault root n) over is = record {
  done = is.done;
  pair = is.pair;
  rest = is.rest ++ rest;
  parts = ap (λ w. w ++ rest) is.parts ∙ append_assoc is.done (is.pair ∷ is.rest) rest;
  no_fault = is.no_fault;
  fault = is.fault;
  at_root = is.at_root;
  words = is.words;
  few = is.few;
}

-- one root more of a level
pub one_root_more : (s : Scene) (region : Region) (f : ℕ → Pair) (roots : List ℕ) (i : ℕ) (before mid after : List ℕ) (end : WalkEnd) → i < length roots
    → GoesOn s region (map f (take i roots)) before mid → Walks s region (f (get_or roots i 0) ∷ []) mid after end
    → Walks s region (map f (take (i + 1) roots)) before after end
one_root_more s region f roots i before mid after end low on is =
    let P : List Pair → Type 0 = λ ps. Walks s region ps before after end in
    let same : map f (take (i + 1) roots) ≡ map f (take i roots) ++ f (get_or roots i 0) ∷ [] =
    ap (map f) (take_more roots i 0 low) ∙ map-append f (take i roots) (get_or roots i 0 ∷ []) in
    subst P (sym same) (walks_on s region (map f (take i roots)) (f (get_or roots i 0) ∷ []) before mid after end on is)

-- the walk ends at a root of a level
pub ends_in_level : (s : Scene) (region : Region) (f : ℕ → Pair) (roots : List ℕ) (i : ℕ) (before mid after : List ℕ) (end : WalkEnd) → i < length roots → end ≢ Partial
    → GoesOn s region (map f (take i roots)) before mid → Walks s region (f (get_or roots i 0) ∷ []) mid after end → Walks s region (map f roots) before after end
ends_in_level s region f roots i before mid after end low over on is =
    let P : List Pair → Type 0 = λ ps. Walks s region ps before after end in
    let same : map f (take (i + 1) roots) ++ map f (drop (i + 1) roots) ≡ map f roots =
    sym (map-append f (take (i + 1) roots) (drop (i + 1) roots)) ∙ ap (map f) (take-append-drop (i + 1) roots) in
    subst P same (walks_no_more s region (map f (take (i + 1) roots)) (map f (drop (i + 1) roots)) before after end over
    (one_root_more s region f roots i before mid after end low on is))

-- the pairs of a level by the words of its roots
level_pairs_are : (s : Scene) (region : Region) (level : ℕ) (roots : List ℕ) → map (word_tile s.layout.scheme) roots ≡ walk_roots s region level
    → map (word_pair s.layout.scheme level) roots ≡ level_pairs s region level
level_pairs_are s region level roots is = sym (map-map (pair_of level) (word_tile s.layout.scheme) roots) ∙ ap (map (pair_of level)) is

-- one level more
pub one_level_more : (s : Scene) (region : Region) (level : ℕ) (roots before after : List ℕ) (end : WalkEnd) → map (word_tile s.layout.scheme) roots ≡ walk_roots s region level
    → GoesOn s region (pairs_above s region level) [] before → Walks s region (map (word_pair s.layout.scheme level) roots) before after end
    → Walks s region (pairs_above s region (level + 1)) [] after end
one_level_more s region level roots before after end are on is =
    let P : List Pair → Type 0 = λ ps. Walks s region ps [] after end in
    let same = pairs_go_down s region level ∙ ap (λ w. pairs_above s region level ++ w) (sym (level_pairs_are s region level roots are)) in
    subst P (sym same) (walks_on s region (pairs_above s region level) (map (word_pair s.layout.scheme level) roots) [] before after end on is)

-- a walk of all pairs gives the answer
few_tiles : (s : Scene) (region : Region) (ps : List Pair) (words : List ℕ) → words ≡ pair_words s region ps → length words ≤ most_tiles → length (tiles_of_pairs s region ps) ≤ most_tiles
few_tiles s region ps words is few = omega (arith, few, ap (length {A = ℕ}) is, length-map (tiles_of_pairs s region ps) (tile_word s))

answer_at : (s : Scene) (region : Region) (words : List ℕ) (a : Answer) → answer s region ≡ a → words ≡ map (tile_word s) a.tiles → words ≡ map (tile_word s) (answer s region).tiles
answer_at s region words a is same = same ∙ ap (λ (b : Answer). map (tile_word s) b.tiles) (sym is)

pub complete_answer : (s : Scene) (region : Region) (words : List ℕ) → 1 ≤ s.layout.subtree_levels → GoesOn s region (pairs s region) [] words → IsAnswer s region words Complete
complete_answer s region words some on =
    let a = answer_is_complete s region some on.no_fault (few_tiles s region (pairs s region) words on.words on.few) in
    record {
      words_are = answer_at s region words _ a on.words;
      end_is = ap (λ (b : Answer). ended b.end) (sym a);
      end_by_word = ap (λ (b : Answer). end_word s.layout.scheme b.end) (sym a);
    }

pub ended_answer : (s : Scene) (region : Region) (words : List ℕ) (end : WalkEnd) → 1 ≤ s.layout.subtree_levels → end ≢ Partial → EndsWithin s.layout end → Walks s region (pairs s region) [] words end
    → IsAnswer s region words end
ended_answer s region words Partial some over root is = absurd (over refl)
ended_answer s region words Complete some over root is = absurd is
ended_answer s region words TooMany some over root is =
    let many : most_tiles < length (tiles_of_pairs s region is.done) = omega (arith, is.many, length-map (tiles_of_pairs s region is.done) (tile_word s)) in
    let a = answer_is_cut s region is.done is.rest some is.parts is.no_fault many in
    record {
      words_are = answer_at s region words _ a (is.words ∙ take-map (tile_word s) most_tiles (tiles_of_pairs s region is.done));
      end_is = ap (λ (b : Answer). ended b.end) (sym a);
      end_by_word = ap (λ (b : Answer). end_word s.layout.scheme b.end) (sym a);
    }
ended_answer s region words (Fault w n) some over root is =
    let a = answer_stops_at_a_fault s region is.done is.pair is.rest n some is.parts is.no_fault is.fault (few_tiles s region is.done words is.words is.few) in
    let end_is : end_seen s.layout.scheme (Fault w n) ≡ ended (answer s region).end = ap (λ t. ended (fault t n)) is.at_root ∙ ap (λ (b : Answer). ended b.end) (sym a) in
    record {
      words_are = answer_at s region words _ a is.words;
      end_is = end_is;
      end_by_word = end_of_words s.layout.scheme (Fault w n) (answer s region).end (ends_at_root s.layout (Fault w n) root) end_is;
    }

-- a walk that has ended at a level
pub answer_at_level : (s : Scene) (region : Region) (level : ℕ) (words : List ℕ) (end : WalkEnd) → 1 ≤ s.layout.subtree_levels → level ≤ region.level → end ≢ Partial
    → EndsWithin s.layout end → Walks s region (pairs_above s region (level + 1)) [] words end → IsAnswer s region words end
answer_at_level s region level words end some low over root is =
    let P : List Pair → Type 0 = λ ps. Walks s region ps [] words end in
    let rest = flat_map (level_pairs s region) (range_with_len (level + 1) (region.level + 1 - (level + 1))) in
    ended_answer s region words end some over root
    (subst P (sym (pairs_above_come_first s region (level + 1) (omega (arith, low)))) (walks_no_more s region (pairs_above s region (level + 1)) rest [] words end over is))

-- the tiles of some words in two parts
pub in_two : (f : ℕ → Tile) (ws : List ℕ) (i : ℕ) → map f ws ≡ map f (take i ws) ++ map f (drop i ws)
in_two f ws i = ap (map f) (sym (take-append-drop i ws)) ∙ map-append f (take i ws) (drop i ws)

pub few_first : (f : ℕ → Tile) (ws : List ℕ) (i : ℕ) → length (map f (take i ws)) ≤ length ws
few_first f ws i = omega (arith, length-map (take i ws) f, ap (length {A = ℕ}) (take-append-drop i ws), length-append (take i ws) (drop i ws))

costs_on : (files : Files) (layout : Layout) (ps qs : List Pair) → cost_of_pairs files layout (ps ++ qs) ≡ cost_of_pairs files layout ps + cost_of_pairs files layout qs
costs_on files layout ps qs =
    ap (cost_of_all files layout) (map-append (λ (p : Pair). p.root) ps qs) ∙ costs_together files layout (map (λ (p : Pair). p.root) ps) (map (λ (p : Pair). p.root) qs)

-- the fetches of one level more: what the roots of its pairs cost
pub read_one_level : (files : Files) (s : Scene) (region : Region) (level : ℕ) (roots these : List ℕ) (begin mid now : ℕ) → these ≡ roots → map (word_tile s.layout.scheme) roots ≡ walk_roots s region level
    → mid ≤ more_by (cost_of_pairs files s.layout (pairs_above s region level)) begin → now ≤ more_by (cost_of_all files s.layout (map (word_tile s.layout.scheme) these)) mid
    → now ≤ more_by (cost_of_pairs files s.layout (pairs_above s region (level + 1))) begin
read_one_level files s region level roots these begin mid now same are so more =
    let above = pairs_above s region level in
    let own = map (word_pair s.layout.scheme level) roots in
    let count : cost_of_pairs files s.layout (pairs_above s region (level + 1)) ≡ cost_of_pairs files s.layout above + cost_of_pairs files s.layout own =
    ap (cost_of_pairs files s.layout) (pairs_go_down s region level ∙ ap (λ w. above ++ w) (sym (level_pairs_are s region level roots are))) ∙ costs_on files s.layout above own in
    let costs : cost_of_pairs files s.layout own ≡ cost_of_all files s.layout (map (word_tile s.layout.scheme) these) =
    ap (cost_of_all files s.layout) (map-map (λ (p : Pair). p.root) (word_pair s.layout.scheme level) roots ∙ ap (map (word_tile s.layout.scheme)) (sym same)) in
    omega (arith, so, more, count, costs)

-- and of all levels
pub read_at_most : (files : Files) (s : Scene) (region : Region) (level begin now : ℕ) → level ≤ region.level + 1 → now ≤ more_by (cost_of_pairs files s.layout (pairs_above s region level)) begin
    → now ≤ more_by (cost_of_pairs files s.layout (pairs s region)) begin
read_at_most files s region level begin now low so =
    let above = pairs_above s region level in
    let rest = flat_map (level_pairs s region) (range_with_len level (region.level + 1 - level)) in
    let count : cost_of_pairs files s.layout (pairs s region) ≡ cost_of_pairs files s.layout above + cost_of_pairs files s.layout rest =
    ap (cost_of_pairs files s.layout) (pairs_above_come_first s region level low) ∙ costs_on files s.layout above rest in
    omega (arith, so, count)
