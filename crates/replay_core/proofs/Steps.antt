-- A step of a walk that shows what a cursor of the machine does.
use Rattle.std.proofs.Common.{◌≡◌, ◌∙◌, ℕ, ◌+◌, ◌≤◌, List, [], ◌++◌, length, take, drop, map, Option, Some, None, refl, sym, ap, subst}
use Rattle.std.specs.Prelude.{IfSome, IsSomeAnd}
use Rattle.std.proofs.lemmas.List.{take-map, drop-map}
use Rattle.std.specs.List.{All}
use Rattle.std.proofs.lemmas.List.Elements.{All-take, All-drop}
use Rattle.implicit_tiling.specs.declared.Scheme.{Scheme}
use Rattle.implicit_tiling.specs.Scene.{Scene}
use Rattle.implicit_tiling.specs.Code.{word, tile_word, IsWord}
use Rattle.implicit_tiling.specs.Answer.{answer}
use Rattle.region_cursor.specs.Cursor.{cursor_key}
use Rattle.region_cursor.specs.Walked.{IsAt, IsNextKey, GivesStep}
use Rattle.region_cursor.specs.Joined.{HasWalked}
use Rattle.region_cursor.proofs.Places.{next_key_is}
use Rattle.region_cursor.proofs.Joined.{goes_on_by_one}
use Rattle.replay_machine.specs.Machine.{Walk}
use Rattle.replay_machine.specs.Turns.{shown_tiles, shown_end, next_pair, page_tiles}
use Rattle.replay_machine.proofs.Pages.{shown_tiles_are_of_the_answer}
use Rattle.replay_core.specs.Shown.{Shown, Shows, stepped}

-- as a walk of some steps
walked : (s : Scene) (walk : Walk) (w : Shown) → Shows s walk w → HasWalked s walk.plan.region w.cursor (cursor_key w.cursor) w.words w.end
walked s walk w is = record { made = walk.made; at = is.at; next_is = next_key_is s walk.plan.region walk.made w.cursor is.at; words_are = is.words_are; end_is = is.end_is }

shows_made : (s : Scene) (walk : Walk) (w : Shown) (n : ℕ) → n ≡ walk.made + 1 → w.cursor.region ≡ walk.plan.region → (v : HasWalked s walk.plan.region w.cursor (cursor_key w.cursor) w.words w.end)
    → v.made ≡ n → Shows s (record walk { made = n; holder = None }) w
shows_made s walk w n is region v made = record {
  same_region = region;
  at = subst (λ k. IsAt s walk.plan.region k w.cursor) made v.at;
  words_are = v.words_are ∙ ap (λ k. map (tile_word s) (shown_tiles s (record walk { made = k }))) made;
  end_is = v.end_is ∙ ap (λ k. shown_end s (record walk { made = k })) made;
}

-- one step more
pub shows_one_more : (s : Scene) (walk : Walk) (old new : Shown) (more : List ℕ) → new.cursor.region ≡ old.cursor.region
    → ((k : ℕ) → IsAt s old.cursor.region k old.cursor → GivesStep s old.cursor.region k more new.end × IsAt s old.cursor.region (k + 1) new.cursor)
    → new.words ≡ old.words ++ more → Shows s walk old → Shows s (stepped walk) new
unfolding walked
shows_one_more s walk old new more same step words is =
    let region = same ∙ is.same_region in
    let one = goes_on_by_one s walk.plan.region old.cursor new.cursor (cursor_key old.cursor) (cursor_key new.cursor) old.words more new.words old.end new.end is.same_region region step
    (λ k at. next_key_is s new.cursor.region k new.cursor at) words (walked s walk old is) in
    shows_made s walk new (walk.made + 1) refl region one.0 one.1

-- the key of the next root
pub key_of_pair : (s : Scene) (walk : Walk) (w : Shown) (key : Option ℕ) → key ≡ cursor_key w.cursor → Shows s walk w
    → IfSome key (λ k. IsSomeAnd (next_pair s walk) (λ pair. k ≡ word s.layout.scheme pair.root 0))
key_of_pair s walk w None is shows = tt
key_of_pair s walk w (Some key) is shows = (subst (IsNextKey s walk.plan.region walk.made) (sym is) (next_key_is s walk.plan.region walk.made w.cursor shows.at)).1

-- the words of a page, as they are read
pub words_of_page : (items start part seen words before last fresh old : List ℕ) (place most : ℕ) → items ≡ start ++ part → start ≡ [] → part ≡ take most (drop place seen) → seen ≡ words
    → words ≡ before ++ last → last ≡ fresh → before ++ fresh ≡ old → items ≡ take most (drop place old)
words_of_page items start part seen words before last fresh old place most is none cut read all new whole =
    is ∙ ap (λ ws. ws ++ part) none ∙ cut ∙ ap (λ ws. take most (drop place ws)) (read ∙ all ∙ ap (λ ws. before ++ ws) new ∙ whole)

-- a page
pub page_shows : (s : Scene) (walk : Walk) (w : Shown) (page : List ℕ) (place most : ℕ) → 1 ≤ s.layout.subtree_levels → page ≡ take most (drop place w.words) → Shows s walk w
    → page ≡ map (tile_word s) (page_tiles s walk place most)
page_shows s walk w page place most some is shows =
    let front = shown_tiles_are_of_the_answer s walk some in
    is ∙ ap (λ ws. take most (drop place ws)) (shows.words_are ∙ ap (map (tile_word s)) front)
    ∙ ap (take most) (drop-map (tile_word s) place (take (length (shown_tiles s walk)) (answer s walk.plan.region).tiles))
    ∙ take-map (tile_word s) most (drop place (take (length (shown_tiles s walk)) (answer s walk.plan.region).tiles))

-- the words of a page are words of tiles, as all of them are
pub page_of_words : (scheme : Scheme) (page words : List ℕ) (place most : ℕ) → page ≡ take most (drop place words) → All (IsWord scheme) words → All (IsWord scheme) page
page_of_words scheme page words place most is all = subst (All (IsWord scheme)) (sym is) (All-take (IsWord scheme) most (drop place words) (All-drop (IsWord scheme) place words all))
