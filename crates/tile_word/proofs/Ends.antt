-- The end of an answer by the word of its root.
use Rattle.std.proofs.Common.{◌≡◌, sym, ap, ◌∙◌}
use Rattle.implicit_tiling.specs.declared.Scheme.{Scheme}
use Rattle.implicit_tiling.specs.Answer.{End, complete, too_many, fault}
use Rattle.implicit_tiling.specs.Code.{word, word_tile}
use Rattle.implicit_tiling.specs.Steps.{ended}
use Rattle.tile_coords.specs.Ends.{end_seen, end_word, EndsAtRoot}
use Rattle.tile_coords.specs.declared.walk_end.WalkEnd.{WalkEnd}
use Rattle.tile_coords.specs.declared.walk_end.WalkEnd.TheVariants.{Partial, Complete, TooMany, Fault}
use Rattle.tile_word.proofs.Tiles.{parts_have_their_word}

-- the end of an answer is that of its words
same_end : (a b : End) → ended a ≡ ended b → a ≡ b
same_end a b same = cc

pub end_of_words : (scheme : Scheme) (end : WalkEnd) (e : End) → EndsAtRoot scheme end → end_seen scheme end ≡ ended e → end ≡ end_word scheme e
end_of_words scheme Partial e root same = cc
end_of_words scheme Complete e root same = ap (end_word scheme) (same_end complete e same)
end_of_words scheme TooMany e root same = ap (end_word scheme) (same_end too_many e same)
end_of_words scheme (Fault w n) e root same =
    let own : word scheme (word_tile scheme w) 0 ≡ w = ap (word scheme (word_tile scheme w)) (sym root.1) ∙ (parts_have_their_word scheme w root.0).word in
    ap (λ v. Fault v n) (sym own) ∙ ap (end_word scheme) (same_end (fault (word_tile scheme w) n) e same)
