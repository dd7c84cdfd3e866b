-- The places of names, after a pair is put in place of another of its name or behind all.
use Rattle.std.proofs.Common.{set, ◌≡◌, ℕ, zero, suc, ◌+◌, Bool, true, false, cond, List, [], ◌∷◌, ◌++◌, length, Option, Some, None, refl, sym, ap, ◌∙◌, subst, arith}
use Rattle.std.specs.Prelude.{position, String, string_bytes, Vec}
use Rattle.std.specs.List.{position_from}
use Rattle.std.specs.HashMap.{HashMap, get_by_text}
use Rattle.std.specs.Map.{update}
use Rattle.std.specs.Str.{bytes_eq}
use Rattle.std.specs.declared.alloc.Global.{Global}
use Rattle.std.proofs.lemmas.Iterator.Adapters.{position_from-zero}
use Rattle.std.proofs.lemmas.Slice.Eq.{bytes_eq-Decides}
use Rattle.scene_ports.specs.Files.{files_of}
use Rattle.scene_ports.specs.Places.{HasPlaces}
use Rattle.scene_ports.proofs.Named.{Pairs, StandsAt, is_named, stands_from_place}

-- ---- a pair in place of another of its name

stays_from : (name other : List ℕ) (pairs : Pairs) (at i : ℕ) (pair : String Global × Vec ℕ Global) → StandsAt name (files_of pairs) at → string_bytes pair.0 ≡ name
    → position_from (is_named other) i (set pairs at pair) ≡ position_from (is_named other) i pairs
stays_from name other [] at i pair h named = absurd h
stays_from name other (first ∷ rest) zero i pair h named = ap (λ n. cond (bytes_eq n other) (Some i) (position_from (is_named other) (i + 1) rest)) (named ∙ sym h)
stays_from name other (first ∷ rest) (suc at) i pair h named = ap (λ w. cond (is_named other first) (Some i) w) (stays_from name other rest at (i + 1) pair h.1 named)

pub places_stay : {S : Type 0} (places : HashMap (String Global) ℕ S) (name : List ℕ) (pairs : Pairs) (at : ℕ) (pair : String Global × Vec ℕ Global) → HasPlaces places pairs
    → position (is_named name) pairs ≡ Some at → string_bytes pair.0 ≡ name → HasPlaces places (set pairs at pair)
places_stay places name pairs at pair has place named other =
    let stays = stays_from name other pairs at 0 pair (stands_from_place name pairs at place) named in
    has other ∙ position_from-zero (is_named other) pairs ∙ sym stays ∙ sym (position_from-zero (is_named other) (set pairs at pair))

-- ---- a pair behind all others

found_cases : (test : String Global × Vec ℕ Global → Bool) (rest : Pairs) (last : String Global × Vec ℕ Global) (i at : ℕ) (b : Bool)
    → (position_from test (i + 1) rest ≡ Some at → position_from test (i + 1) (rest ++ last ∷ []) ≡ Some at)
    → cond b (Some i) (position_from test (i + 1) rest) ≡ Some at → cond b (Some i) (position_from test (i + 1) (rest ++ last ∷ [])) ≡ Some at
found_cases test rest last i at true later h = h
found_cases test rest last i at false later h = later h

-- a place that was found is found again
found_from : (test : String Global × Vec ℕ Global → Bool) (pairs : Pairs) (last : String Global × Vec ℕ Global) (i at : ℕ) → position_from test i pairs ≡ Some at → position_from test i (pairs ++ last ∷ []) ≡ Some at
found_from test [] last i at h = let impossible : None ≡ Some at = h in cc
found_from test (first ∷ rest) last i at h = found_cases test rest last i at (test first) (found_from test rest last (i + 1) at) h

last_cases : (test : String Global × Vec ℕ Global → Bool) (rest : Pairs) (last : String Global × Vec ℕ Global) (i end : ℕ) (b : Bool)
    → (position_from test (i + 1) rest ≡ None → position_from test (i + 1) (rest ++ last ∷ []) ≡ cond (test last) (Some end) None)
    → cond b (Some i) (position_from test (i + 1) rest) ≡ None → cond b (Some i) (position_from test (i + 1) (rest ++ last ∷ [])) ≡ cond (test last) (Some end) None
last_cases test rest last i end true later h = cc
last_cases test rest last i end false later h = later h

-- where none was found, only the last place can be
last_from : (test : String Global × Vec ℕ Global → Bool) (pairs : Pairs) (last : String Global × Vec ℕ Global) (i end : ℕ) → end ≡ i + length pairs → position_from test i pairs ≡ None
    → position_from test i (pairs ++ last ∷ []) ≡ cond (test last) (Some end) None
last_from test [] last i end e h = let here : i ≡ end = omega (arith, e) in ap (λ n. cond (test last) (Some n) None) here
last_from test (first ∷ rest) last i end e h =
    let behind : end ≡ i + 1 + length rest = omega (arith, e) in
    last_cases test rest last i end (test first) (last_from test rest last (i + 1) end behind) h

apart_cases : (test : String Global × Vec ℕ Global → Bool) (pairs : Pairs) (last : String Global × Vec ℕ Global) (found : Option ℕ) → position_from test 0 pairs ≡ found → test last ≡ false
    → found ≡ position_from test 0 (pairs ++ last ∷ [])
apart_cases test pairs last None h apart = sym (last_from test pairs last 0 (length pairs) (omega arith) h ∙ ap (λ b. cond b (Some (length pairs)) None) apart)
apart_cases test pairs last (Some at) h apart = sym (found_from test pairs last 0 at h)

behind_cases : (name other : List ℕ) (pairs : Pairs) (last : String Global × Vec ℕ Global) (b : Bool) → bytes_eq name other ≡ b → string_bytes last.0 ≡ name → position_from (is_named name) 0 pairs ≡ None
    → cond b (Some (length pairs)) (position_from (is_named other) 0 pairs) ≡ position_from (is_named other) 0 (pairs ++ last ∷ [])
behind_cases name other pairs last true e named none =
    let same : name ≡ other = (bytes_eq-Decides name other).0 e in
    let absent : position_from (is_named other) 0 pairs ≡ None = (let P : List ℕ → Type 0 = λ n. position_from (is_named n) 0 pairs ≡ None in subst P same none) in
    sym (last_from (is_named other) pairs last 0 (length pairs) (omega arith) absent ∙ ap (λ n. cond (bytes_eq n other) (Some (length pairs)) None) named ∙ ap (λ b. cond b (Some (length pairs)) None) e)
behind_cases name other pairs last false e named none = apart_cases (is_named other) pairs last _ refl (ap (λ n. bytes_eq n other) named ∙ e)

pub places_behind : {S : Type 0} (before now : HashMap (String Global) ℕ S) (name : List ℕ) (pairs : Pairs) (last : String Global × Vec ℕ Global) → HasPlaces before pairs
    → position (is_named name) pairs ≡ None → string_bytes last.0 ≡ name → ((other : List ℕ) → get_by_text now other ≡ update bytes_eq (get_by_text before) name (Some (length pairs)) other)
    → HasPlaces now (pairs ++ last ∷ [])
places_behind before now name pairs last has none named updated other =
    let absent = sym (position_from-zero (is_named name) pairs) ∙ none in
    let old = has other ∙ position_from-zero (is_named other) pairs in
    updated other ∙ ap (λ w. cond (bytes_eq name other) (Some (length pairs)) w) old ∙ behind_cases name other pairs last (bytes_eq name other) refl named absent
    ∙ sym (position_from-zero (is_named other) (pairs ++ last ∷ []))
