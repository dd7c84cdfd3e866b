-- The paths of the current folder, and which of them a name stands for (this project's own).
use Rattle.std.specs.Prelude.{ℕ, Bool, not, ◌&&◌, ◌==◌, List, [], ◌∷◌, length, slice_index, if◌then◌else◌, Option}
use Rattle.std.specs.Prelude.{Some, None}
use Rattle.std.specs.List.{list_any, slice_split}
use Rattle.std.specs.Str.{bytes_eq, is_utf8}
use Rattle.percent_encoding.specs.Percent.{percent_decode}

-- '/'
abbrev pub slash : ℕ
slash = 47

-- `..`
abbrev pub parent_part : List ℕ
parent_part = 46 ∷ 46 ∷ []

-- one of the parts between slashes is `..`
abbrev pub has_parent_part : List ℕ → Bool
has_parent_part path = list_any (λ part. bytes_eq part parent_part) (slice_split (λ byte. byte == slash) path)

-- it stays in the folder: it is not empty and not absolute, and has no zero byte and no part `..`
abbrev pub is_plain : List ℕ → Bool
is_plain path = not (length path == 0) && not (slice_index path 0 == slash) && not (list_any (λ byte. byte == 0) path)
    && not (has_parent_part path)

-- the path that decoded bytes are, if any: UTF-8 that stays in the folder
abbrev pub path_in : List ℕ → Option (List ℕ)
path_in bytes = if is_utf8 bytes && is_plain bytes then Some bytes else None

-- the path that a name stands for, if any: what it is when decoded
abbrev pub path_named : List ℕ → Option (List ℕ)
path_named name = path_in (percent_decode name)
