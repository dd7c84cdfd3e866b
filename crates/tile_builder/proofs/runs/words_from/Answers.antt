use Rattle.std.proofs.Common.{◌≡◌, ℕ, ◌+◌, ◌<◌, ◌≤◌, List, take, drop, subst}
use Rattle.std.specs.List.{All}
use Rattle.tile_word.specs.Words.{word_key}
use Rattle.tile_builder.proofs.Cuts.{cuts_in_order, keys_between}
use Rattle.tile_builder.proofs.runs.words_from.Goals as goal

-- what is known of the words before and behind a number, by another name of it
below_again : (ws : List ℕ) (n a b : ℕ) → a ≡ b → All (λ w. word_key w < a) (take n ws) → All (λ w. word_key w < b) (take n ws)
below_again ws n a b same all = let P : ℕ → Type 0 = λ k. All (λ w. word_key w < k) (take n ws) in subst P same all

others_again : (ws : List ℕ) (n a b : ℕ) → a ≡ b → All (λ w. a ≤ word_key w) (drop n ws) → All (λ w. b ≤ word_key w) (drop n ws)
others_again ws n a b same all = let P : ℕ → Type 0 = λ k. All (λ w. k ≤ word_key w) (drop n ws) in subst P same all

pub slice_bounds-result-count : goal.slice_bounds-result-count
slice_bounds-result-count c =
    cuts_in_order c.args.words.now c.count_below-start.result c.count_below-end.result c.args.first c.args.count c.count_below-start.ensures.within
    c.count_below-end.ensures.within c.count_below-start.ensures.below
    (others_again c.args.words.now c.count_below-end.result c.word_after.result (c.args.first + c.args.count) c.word_after.ensures.number c.count_below-end.ensures.others)

pub slice_bounds-result-start : goal.slice_bounds-result-start
slice_bounds-result-start c =
    cuts_in_order c.args.words.now c.count_below-start.result c.count_below-end.result c.args.first c.args.count c.count_below-start.ensures.within
    c.count_below-end.ensures.within c.count_below-start.ensures.below
    (others_again c.args.words.now c.count_below-end.result c.word_after.result (c.args.first + c.args.count) c.word_after.ensures.number c.count_below-end.ensures.others)

pub returns : goal.returns
returns c =
    let others = others_again c.args.words.now c.count_below-end.result c.word_after.result (c.args.first + c.args.count) c.word_after.ensures.number c.count_below-end.ensures.others in
    keys_between c.args.words.now c.count_below-start.result c.count_below-end.result c.args.first c.args.count
    (cuts_in_order c.args.words.now c.count_below-start.result c.count_below-end.result c.args.first c.args.count c.count_below-start.ensures.within
    c.count_below-end.ensures.within c.count_below-start.ensures.below others)
    c.count_below-start.ensures.below c.count_below-start.ensures.others
    (below_again c.args.words.now c.count_below-end.result c.word_after.result (c.args.first + c.args.count) c.word_after.ensures.number c.count_below-end.ensures.below) others
