-- What the target of a request asks for: its path, and the request line of its query (this project's own; escapes by
-- the URL Standard, section 1.3).
use Rattle.std.specs.Prelude.{ℕ, ◌==◌, Bool, List, [], ◌∷◌, length, take, drop, codes, Option, Some, None, is_some}
use Rattle.std.specs.Prelude.{if◌then◌else◌}
use Rattle.std.specs.List.{list_all, list_any, filter_map, slice_split, before_first, after_first, join_with_byte}
use Rattle.std.specs.Str.{bytes_eq}
use Rattle.percent_encoding.specs.Percent.{percent_decode}
use Rattle.http_text.specs.declared.routes.Route.{Route}
use Rattle.http_text.specs.declared.routes.Route.TheVariants.{Tiles, Prefix, NotFound}

-- what stands before the first `?` of the target, or all of it
abbrev pub path_of : List ℕ → List ℕ
path_of target = before_first (λ c. c == 63) target

-- what stands behind the first `?`, or nothing
abbrev pub query_of : List ℕ → List ℕ
query_of target = after_first (λ c. c == 63) target

abbrev pub route_of_path : List ℕ → Route
route_of_path path = if bytes_eq path (codes "/tiles") then Tiles else (
    if bytes_eq path (codes "/prefix") then Prefix else NotFound)

-- the parts of a query, between its `&`
abbrev pub parts_of : List ℕ → List (List ℕ)
parts_of query = slice_split (λ c. c == 38) query

-- what stands behind a front, where the text begins with it
abbrev pub behind : List ℕ → List ℕ → Option (List ℕ)
behind front text = if bytes_eq (take (length front) text) front then Some (drop (length front) text) else None

-- the names, each with the `=` at which its part is cut: none has one inside, so it is the part's first
abbrev pub names : List (List ℕ)
names = codes "level=" ∷ codes "lo=" ∷ codes "hi=" ∷ []

-- the part has one of the names
abbrev pub is_parameter : List ℕ → Bool
is_parameter part = list_any (λ name. is_some (behind name part)) names

-- the values of the parts of this name, in order
abbrev pub values : List ℕ → List ℕ → List (List ℕ)
values name query = filter_map (behind name) (parts_of query)

-- the one value, where there is just one
abbrev pub only : List (List ℕ) → Option (List ℕ)
only [] = None
only (value ∷ []) = Some value
only (value ∷ other ∷ others) = None

-- the three values decoded and joined by single spaces; the empty line where one is missing
abbrev pub joined : Option (List ℕ) → Option (List ℕ) → Option (List ℕ) → List ℕ
joined (Some level) (Some lo) (Some hi) =
    join_with_byte 32 (percent_decode level ∷ percent_decode lo ∷ percent_decode hi ∷ [])
joined level lo hi = []

-- the request line of a query: each of the names stands just once and no part has another, in any order; the empty
-- line where the query has another form
abbrev pub line_of_query : List ℕ → List ℕ
line_of_query query = if list_all is_parameter (parts_of query)
    then joined (only (values (codes "level=") query)) (only (values (codes "lo=") query))
    (only (values (codes "hi=") query))
    else []

-- what a target asks for
abbrev pub route_of : List ℕ → Route
route_of target = route_of_path (path_of target)

-- the line of a query on a route; none where there is no such path
abbrev pub line_on : Route → List ℕ → List ℕ
line_on Tiles query = line_of_query query
line_on Prefix query = line_of_query query
line_on NotFound query = []

-- the request line of a target
abbrev pub line_in : List ℕ → List ℕ
line_in target = line_on (route_of target) (query_of target)
