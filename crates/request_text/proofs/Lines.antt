-- A text of lines that is given line by line.
use Rattle.std.proofs.Common.{◌≡◌, ℕ, ◌+◌, ◌<◌, subst, List, [], ◌∷◌, ◌++◌, length, take, drop, get_or, sym, ap, ◌∙◌, append_assoc, append-nil, length-append}
use Rattle.std.specs.Prelude.{Option, Result, Ok, Err, OnOk}
use Rattle.std.specs.List.{flat_map}
use Rattle.std.specs.Io.KnownBytes.{Appends}
use Rattle.std.proofs.lemmas.List.{take-append-drop, take_more}
use Rattle.std.proofs.lemmas.Grind.{flat_map-append}
use Rattle.scene_ports.specs.Output.{GivesFront, GivesAllBut}
use Rattle.scene_ports.proofs.Giving.{all_but_line, all_but_then, all_but_then_front, all_but_end, front_within}

-- one line more
pub lines_more : {X : Type 0} (line : X → List ℕ) (xs : List X) (i : ℕ) (d : X) → i < length xs
    → flat_map line (take (i + 1) xs) ≡ flat_map line (take i xs) ++ line (get_or xs i d)
lines_more line xs i d within =
    ap (flat_map line) (take_more xs i d within) ∙ flat_map-append line (take i xs) (get_or xs i d ∷ [])
    ∙ ap (λ w. flat_map line (take i xs) ++ w) (append-nil (line (get_or xs i d)))

pub length-lines_more : {X : Type 0} (line : X → List ℕ) (xs : List X) (i : ℕ) (d : X) → i < length xs
    → length (flat_map line (take (i + 1) xs)) ≡ length (flat_map line (take i xs)) + length (line (get_or xs i d))
length-lines_more line xs i d within =
    ap (λ w. length w) (lines_more line xs i d within) ∙ length-append (flat_map line (take i xs)) (line (get_or xs i d))

-- the first lines are a front of the whole
pub lines_split : {X : Type 0} (line : X → List ℕ) (xs : List X) (i : ℕ) (end : List ℕ) → flat_map line xs ++ end ≡ flat_map line (take i xs) ++ (flat_map line (drop i xs) ++ end)
lines_split line xs i end =
    ap (λ ys. flat_map line ys ++ end) (sym (take-append-drop i xs))
    ∙ ap (λ w. w ++ end) (flat_map-append line (take i xs) (drop i xs))
    ∙ append_assoc (flat_map line (take i xs)) (flat_map line (drop i xs)) end

pub lines_front : {X : Type 0} (line : X → List ℕ) (xs : List X) (i : ℕ) (end : List ℕ) (before now : Option (List ℕ)) → GivesFront before now (flat_map line (take i xs))
    → GivesFront before now (flat_map line xs ++ end)
lines_front line xs i end before now front = front_within before now (flat_map line (take i xs)) (flat_map line (drop i xs) ++ end) (flat_map line xs ++ end) front (lines_split line xs i end)

-- the line of the element at place i joins what is held back
line_held : {X : Type 0} (before now : Option (List ℕ)) (line : X → List ℕ) (xs : List X) (i : ℕ) (d : X) (held one : List ℕ) → i < length xs → GivesAllBut before now held (flat_map line (take i xs))
    → one ≡ held ++ line (get_or xs i d) → GivesAllBut before now one (flat_map line (take (i + 1) xs))
line_held before now line xs i d held one within lines gained =
    rw (gained, lines_more line xs i d within) (all_but_line before now held (flat_map line (take i xs)) (line (get_or xs i d)) lines)

-- and is given, but for what is held back then
pub line_given : {X : Type 0} (before now next : Option (List ℕ)) (line : X → List ℕ) (xs : List X) (i : ℕ) (d : X) (held one rest : List ℕ) → i < length xs
    → GivesAllBut before now held (flat_map line (take i xs)) → one ≡ held ++ line (get_or xs i d) → GivesAllBut now next rest one
    → GivesAllBut before next rest (flat_map line (take (i + 1) xs))
line_given before now next line xs i d held one rest within lines gained given =
    all_but_then before now next one rest (flat_map line (take (i + 1) xs)) (line_held before now line xs i d held one within lines gained) given

pub line_front : {X : Type 0} (before now next : Option (List ℕ)) (line : X → List ℕ) (xs : List X) (i : ℕ) (d : X) (held one end : List ℕ) → i < length xs
    → GivesAllBut before now held (flat_map line (take i xs)) → one ≡ held ++ line (get_or xs i d) → GivesFront now next one → GivesFront before next (flat_map line xs ++ end)
line_front before now next line xs i d held one end within lines gained front =
    lines_front line xs (i + 1) end before next
    (all_but_then_front before now next one (flat_map line (take (i + 1) xs)) (line_held before now line xs i d held one within lines gained) front)

-- the end joins what is held back, and all is given
end_held : (before now : Option (List ℕ)) (lines held one end : List ℕ) → GivesAllBut before now held lines → one ≡ held ++ end → GivesAllBut before now one (lines ++ end)
end_held before now lines held one end all gained = rw gained (all_but_line before now held lines end all)

pub end_given : (before now next : Option (List ℕ)) (lines held one end : List ℕ) → GivesAllBut before now held lines → one ≡ held ++ end → Appends now next one → Appends before next (lines ++ end)
end_given before now next lines held one end all gained given = all_but_end before now next one (lines ++ end) (end_held before now lines held one end all gained) given

pub end_front : (before now next : Option (List ℕ)) (lines held one end : List ℕ) → GivesAllBut before now held lines → one ≡ held ++ end → GivesFront now next one → GivesFront before next (lines ++ end)
end_front before now next lines held one end all gained front = all_but_then_front before now next one (lines ++ end) (end_held before now lines held one end all gained) front

-- ---- the same behind what was held back before

-- the first lines are a front of the whole
pub lines_front_behind : {X : Type 0} (start : List ℕ) (line : X → List ℕ) (xs : List X) (i : ℕ) (end : List ℕ) (before now : Option (List ℕ)) → GivesFront before now (start ++ flat_map line (take i xs))
    → GivesFront before now (start ++ (flat_map line xs ++ end))
lines_front_behind start line xs i end before now front =
    front_within before now (start ++ flat_map line (take i xs)) (flat_map line (drop i xs) ++ end) (start ++ (flat_map line xs ++ end)) front
    (ap (λ w. start ++ w) (lines_split line xs i end) ∙ sym (append_assoc start (flat_map line (take i xs)) (flat_map line (drop i xs) ++ end)))

-- the line of the element at place i joins what is held back
line_held_behind : {X : Type 0} (before now : Option (List ℕ)) (start : List ℕ) (line : X → List ℕ) (xs : List X) (i : ℕ) (d : X) (held one : List ℕ) → i < length xs
    → GivesAllBut before now held (start ++ flat_map line (take i xs)) → one ≡ held ++ line (get_or xs i d) → GivesAllBut before now one (start ++ flat_map line (take (i + 1) xs))
line_held_behind before now start line xs i d held one within lines gained =
    let whole : start ++ flat_map line (take (i + 1) xs) ≡ (start ++ flat_map line (take i xs)) ++ line (get_or xs i d) =
    ap (λ w. start ++ w) (lines_more line xs i d within) ∙ sym (append_assoc start (flat_map line (take i xs)) (line (get_or xs i d))) in
    rw (gained, whole) (all_but_line before now held (start ++ flat_map line (take i xs)) (line (get_or xs i d)) lines)

pub line_given_behind : {X : Type 0} (before now next : Option (List ℕ)) (start : List ℕ) (line : X → List ℕ) (xs : List X) (i : ℕ) (d : X) (held one rest : List ℕ) → i < length xs
    → GivesAllBut before now held (start ++ flat_map line (take i xs)) → one ≡ held ++ line (get_or xs i d) → GivesAllBut now next rest one
    → GivesAllBut before next rest (start ++ flat_map line (take (i + 1) xs))
line_given_behind before now next start line xs i d held one rest within lines gained given =
    all_but_then before now next one rest (start ++ flat_map line (take (i + 1) xs)) (line_held_behind before now start line xs i d held one within lines gained) given

pub line_front_behind : {X : Type 0} (before now next : Option (List ℕ)) (start : List ℕ) (line : X → List ℕ) (xs : List X) (i : ℕ) (d : X) (held one end : List ℕ) → i < length xs
    → GivesAllBut before now held (start ++ flat_map line (take i xs)) → one ≡ held ++ line (get_or xs i d) → GivesFront now next one → GivesFront before next (start ++ (flat_map line xs ++ end))
line_front_behind before now next start line xs i d held one end within lines gained front =
    lines_front_behind start line xs (i + 1) end before next
    (all_but_then_front before now next one (start ++ flat_map line (take (i + 1) xs)) (line_held_behind before now start line xs i d held one within lines gained) front)

-- the end joins what is held back
pub end_held_behind : (before now : Option (List ℕ)) (start lines held one end : List ℕ) → GivesAllBut before now held (start ++ lines) → one ≡ held ++ end
    → GivesAllBut before now one (start ++ (lines ++ end))
end_held_behind before now start lines held one end all gained =
    subst (GivesAllBut before now one) (append_assoc start lines end) (end_held before now (start ++ lines) held one end all gained)

-- nothing was held back before: what was given but for the piece, and then the piece
from_nothing : (before now : Option (List ℕ)) (start held text : List ℕ) → start ≡ [] → GivesAllBut before now held (start ++ text) → GivesAllBut before now held text
from_nothing before now start held text none all = subst (λ w. GivesAllBut before now held (w ++ text)) none all

pub whole_given : {T E : Type 0} (before now next : Option (List ℕ)) (start held text : List ℕ) (r : Result T E) → start ≡ [] → GivesAllBut before now held (start ++ text)
    → OnOk r (Appends now next held) → OnOk r (Appends before next text)
whole_given before now next start held text (Ok v) none all given = all_but_end before now next held text (from_nothing before now start held text none all) given
whole_given before now next start held text (Err e) none all given = tt

pub whole_front : (before now next : Option (List ℕ)) (start held text : List ℕ) → start ≡ [] → GivesAllBut before now held (start ++ text) → GivesFront now next held
    → GivesFront before next text
whole_front before now next start held text none all front = all_but_then_front before now next held text (from_nothing before now start held text none all) front

pub begun_front : (before now : Option (List ℕ)) (start text : List ℕ) → start ≡ [] → GivesFront before now (start ++ text) → GivesFront before now text
begun_front before now start text none front = subst (λ w. GivesFront before now (w ++ text)) none front
