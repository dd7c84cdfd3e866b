-- The end of a walk: a fault's root is named by its word (this project's own).
use Rattle.std.specs.Prelude.{◌≡◌}
use Rattle.implicit_tiling.specs.declared.Scheme.{Scheme}
use Rattle.implicit_tiling.specs.Code.{word, word_tile, word_mask, IsWord}
use Rattle.implicit_tiling.specs.Answer.{End, complete, too_many, fault}
use Rattle.implicit_tiling.specs.Steps.{StepEnd, partial, ended}
use Rattle.tile_coords.specs.declared.walk_end.WalkEnd.{WalkEnd}
use Rattle.tile_coords.specs.declared.walk_end.WalkEnd.TheVariants.{Partial, Complete, TooMany, Fault}

-- how the end reads: the root is the tile of its word
abbrev pub end_seen : Scheme → WalkEnd → StepEnd
end_seen scheme Partial = partial
end_seen scheme Complete = ended complete
end_seen scheme TooMany = ended too_many
end_seen scheme (Fault root number) = ended (fault (word_tile scheme root) number)

-- the root is its tile's word with mask 0
abbrev pub EndsAtRoot : Scheme → WalkEnd → Type 0
EndsAtRoot scheme Partial = Unit {0}
EndsAtRoot scheme Complete = Unit {0}
EndsAtRoot scheme TooMany = Unit {0}
EndsAtRoot scheme (Fault root number) = IsWord scheme root × (word_mask root ≡ 0)

-- the end of an answer by this word
abbrev pub end_word : Scheme → End → WalkEnd
end_word scheme complete = Complete
end_word scheme too_many = TooMany
end_word scheme (fault root number) = Fault (word scheme root 0) number
