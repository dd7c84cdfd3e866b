-- Lines that a text gains behind what is held back.
use Rattle.std.proofs.Common.{◌≡◌, ℕ, ◌+◌, ◌<◌, List, ◌++◌, [], length, take, drop, get_or, refl, sym, ap, ◌∙◌, subst, append_assoc}
use Rattle.std.specs.Prelude.{Option}
use Rattle.std.specs.List.{flat_map}
use Rattle.std.proofs.KnownBytes.{Appends-nil}
use Rattle.std.proofs.lemmas.List.{take-append-drop}
use Rattle.std.proofs.lemmas.Grind.{flat_map-append}
use Rattle.scene_ports.specs.Output.{GivesFront, GivesAllBut}
use Rattle.scene_ports.proofs.Giving.{all_but_line, all_but_then, all_but_then_front, front_within}
use Rattle.request_text.proofs.Lines.{lines_more}

-- nothing was given
pub nothing_given : (before : Option (List ℕ)) (text : List ℕ) → GivesFront before before text
nothing_given before text = ([], text, refl, Appends-nil before)

-- the line of the element at place i joins what is held back
line_held : {X : Type 0} (before now : Option (List ℕ)) (line : X → List ℕ) (xs : List X) (i : ℕ) (d : X) (front held one : List ℕ) → i < length xs
    → GivesAllBut before now held (front ++ flat_map line (take i xs)) → one ≡ held ++ line (get_or xs i d)
    → GivesAllBut before now one (front ++ flat_map line (take (i + 1) xs))
line_held before now line xs i d front held one within lines gained =
    let done = flat_map line (take i xs) in
    let next = line (get_or xs i d) in
    let text : (front ++ done) ++ next ≡ front ++ flat_map line (take (i + 1) xs) =
    append_assoc front done next ∙ ap (λ w. front ++ w) (sym (lines_more line xs i d within)) in
    subst (GivesAllBut before now one) text
    (subst (λ w. GivesAllBut before now w ((front ++ done) ++ next)) (sym gained) (all_but_line before now held (front ++ done) next lines))

-- and is given, but for what is held back then
pub line_given : {X : Type 0} (before now next : Option (List ℕ)) (line : X → List ℕ) (xs : List X) (i : ℕ) (d : X) (front held one rest : List ℕ) → i < length xs
    → GivesAllBut before now held (front ++ flat_map line (take i xs)) → one ≡ held ++ line (get_or xs i d) → GivesAllBut now next rest one
    → GivesAllBut before next rest (front ++ flat_map line (take (i + 1) xs))
line_given before now next line xs i d front held one rest within lines gained given =
    all_but_then before now next one rest (front ++ flat_map line (take (i + 1) xs)) (line_held before now line xs i d front held one within lines gained) given

-- the first lines are a front of all
pub lines_front : {X : Type 0} (line : X → List ℕ) (xs : List X) (i : ℕ) (front : List ℕ) (before now : Option (List ℕ))
    → GivesFront before now (front ++ flat_map line (take i xs)) → GivesFront before now (front ++ flat_map line xs)
lines_front line xs i front before now given =
    let done = flat_map line (take i xs) in
    let rest = flat_map line (drop i xs) in
    let text : front ++ flat_map line xs ≡ (front ++ done) ++ rest =
    ap (λ ys. front ++ flat_map line ys) (sym (take-append-drop i xs))
    ∙ ap (λ w. front ++ w) (flat_map-append line (take i xs) (drop i xs))
    ∙ sym (append_assoc front done rest) in
    front_within before now (front ++ done) rest (front ++ flat_map line xs) given text

pub line_front : {X : Type 0} (before now next : Option (List ℕ)) (line : X → List ℕ) (xs : List X) (i : ℕ) (d : X) (front held one : List ℕ) → i < length xs
    → GivesAllBut before now held (front ++ flat_map line (take i xs)) → one ≡ held ++ line (get_or xs i d) → GivesFront now next one
    → GivesFront before next (front ++ flat_map line xs)
line_front before now next line xs i d front held one within lines gained given =
    lines_front line xs (i + 1) front before next
    (all_but_then_front before now next one (front ++ flat_map line (take (i + 1) xs)) (line_held before now line xs i d front held one within lines gained) given)

-- ---- a text of two parts

-- the first part joins what is held back, and then the second
pub parts_given : (before now next : Option (List ℕ)) (held one gained rest first other second : List ℕ) → one ≡ held ++ first → other ≡ second
    → GivesAllBut before now gained one → GivesAllBut now next rest (gained ++ other) → GivesAllBut before next rest (held ++ (first ++ second))
parts_given before now next held one gained rest first other second is same given more =
    let text : one ++ other ≡ held ++ (first ++ second) =
    ap (λ w. w ++ other) is ∙ append_assoc held first other ∙ ap (λ w. held ++ (first ++ w)) same in
    subst (GivesAllBut before next rest) text
    (all_but_then before now next (gained ++ other) rest (one ++ other) (all_but_line before now gained one other given) more)

pub parts_front : (before now next : Option (List ℕ)) (held one gained first other second : List ℕ) → one ≡ held ++ first → other ≡ second
    → GivesAllBut before now gained one → GivesFront now next (gained ++ other) → GivesFront before next (held ++ (first ++ second))
parts_front before now next held one gained first other second is same given more =
    let text : one ++ other ≡ held ++ (first ++ second) =
    ap (λ w. w ++ other) is ∙ append_assoc held first other ∙ ap (λ w. held ++ (first ++ w)) same in
    subst (GivesFront before next) text
    (all_but_then_front before now next (gained ++ other) (one ++ other) (all_but_line before now gained one other given) more)

-- some front of the first part
pub first_front : (before now : Option (List ℕ)) (held one first second : List ℕ) → one ≡ held ++ first → GivesFront before now one
    → GivesFront before now (held ++ (first ++ second))
first_front before now held one first second is given =
    front_within before now one second (held ++ (first ++ second)) given (sym (append_assoc held first second) ∙ ap (λ w. w ++ second) (sym is))
