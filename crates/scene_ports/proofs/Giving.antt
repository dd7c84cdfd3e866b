-- Texts that are given piece by piece.
use Rattle.std.proofs.Common.{◌≡◌, ℕ, List, [], ◌-◌, ◌++◌, length, take, drop, refl, sym, ap, ◌∙◌, append_assoc, append-nil, subst}
use Rattle.std.specs.Prelude.{Option, Result, Ok, Err, OnOk}
use Rattle.std.proofs.lemmas.List.{take-append-drop, take_rest}
use Rattle.std.specs.Io.KnownBytes.{Appends, Keeps}
use Rattle.std.proofs.KnownBytes.{Appends-nil, Appends-trans, Appends-kept}
use Rattle.scene_ports.specs.Output.{GivesFront, GivesAllBut}

-- ---- a text of which an end is held back

-- nothing is given yet
pub all_but_start : (before : Option (List ℕ)) (text : List ℕ) → GivesAllBut before before text text
all_but_start before text = ([], refl, Appends-nil before)

-- the front of what is held back is given
pub all_but_more : (before now next : Option (List ℕ)) (held text : List ℕ) (n : ℕ) → GivesAllBut before now held text → Appends now next (take n held)
    → GivesAllBut before next (drop n held) text
all_but_more before now next held text n h more = (
  h.0 ++ take n held,
  h.1 ∙ ap (λ w. h.0 ++ w) (sym (take-append-drop n held)) ∙ sym (append_assoc h.0 (take n held) (drop n held)),
  Appends-trans before now next h.0 (take n held) h.2 more,
)

-- the same, as a loop writes what is left of a slice
pub all_but_rest : (before now next : Option (List ℕ)) (held text : List ℕ) (n : ℕ) → GivesAllBut before now held text → Appends now next (take n held)
    → GivesAllBut before next (take (length held - n) (drop n held)) text
all_but_rest before now next held text n h more = rw take_rest (all_but_more before now next held text n h more)

-- of what is held back, a call gives all but an end
pub all_but_then : (before now next : Option (List ℕ)) (held rest text : List ℕ) → GivesAllBut before now held text → GivesAllBut now next rest held
    → GivesAllBut before next rest text
all_but_then before now next held rest text h more = (
  h.0 ++ more.0,
  h.1 ∙ ap (λ w. h.0 ++ w) more.1 ∙ sym (append_assoc h.0 more.0 rest),
  Appends-trans before now next h.0 more.0 h.2 more.2,
)

-- the text and what is held back gain a line
pub all_but_line : (before now : Option (List ℕ)) (held text line : List ℕ) → GivesAllBut before now held text → GivesAllBut before now (held ++ line) (text ++ line)
all_but_line before now held text line h = (h.0, ap (λ w. w ++ line) h.1 ∙ append_assoc h.0 held line, h.2)

-- what is held back is given, and so all is
pub all_but_end : (before now next : Option (List ℕ)) (held text : List ℕ) → GivesAllBut before now held text → Appends now next held → Appends before next text
all_but_end before now next held text h more = subst (Appends before next) (sym h.1) (Appends-trans before now next h.0 held h.2 more)

-- nothing is held back
pub all_but_nothing : (before now : Option (List ℕ)) (held text : List ℕ) → GivesAllBut before now held text → held ≡ [] → Appends before now text
all_but_nothing before now held text h none =
    let all : h.0 ≡ text = sym (append-nil h.0) ∙ ap (λ w. h.0 ++ w) (sym none) ∙ sym h.1 in
    subst (Appends before now) all h.2

pub all_but_front : (before now : Option (List ℕ)) (held text : List ℕ) → GivesAllBut before now held text → GivesFront before now text
all_but_front before now held text h = (h.0, held, h.1, h.2)

-- nothing more was given
pub all_but_stopped : (before now next : Option (List ℕ)) (held text : List ℕ) → GivesAllBut before now held text → Keeps now next → GivesFront before next text
all_but_stopped before now next held text h kept = (h.0, held, h.1, Appends-kept before now next h.0 h.2 kept)

-- some front of what is held back was given
pub all_but_then_front : (before now next : Option (List ℕ)) (held text : List ℕ) → GivesAllBut before now held text → GivesFront now next held
    → GivesFront before next text
all_but_then_front before now next held text h front = (
  h.0 ++ front.0,
  front.1,
  h.1 ∙ ap (λ w. h.0 ++ w) front.2 ∙ sym (append_assoc h.0 front.0 front.1),
  Appends-trans before now next h.0 front.0 h.2 front.3,
)

-- ---- fronts

-- a front of a front
pub front_within : (before now : Option (List ℕ)) (part rest text : List ℕ) → GivesFront before now part → text ≡ part ++ rest → GivesFront before now text
front_within before now part rest text front parts = (
  front.0,
  front.1 ++ rest,
  parts ∙ ap (λ w. w ++ rest) front.2 ∙ append_assoc front.0 front.1 rest,
  front.3,
)

-- some front of a later piece, after what was given whole
pub front_after : (before mid now : Option (List ℕ)) (done piece rest text : List ℕ) → Appends before mid done → GivesFront mid now piece
    → text ≡ done ++ (piece ++ rest) → GivesFront before now text
front_after before mid now done piece rest text given front parts = (
  done ++ front.0,
  front.1 ++ rest,
  parts ∙ ap (λ w. done ++ (w ++ rest)) front.2 ∙ ap (λ w. done ++ w) (append_assoc front.0 front.1 rest) ∙ sym (append_assoc done front.0 (front.1 ++ rest)),
  Appends-trans before mid now done front.0 given front.3,
)

-- nothing of a later piece
pub front_before : (before mid : Option (List ℕ)) (done rest text : List ℕ) → Appends before mid done → text ≡ done ++ rest → GivesFront before mid text
front_before before mid done rest text given parts = (done, rest, parts, given)

-- ---- whole pieces

pub given_more : (before mid now : Option (List ℕ)) (done piece text : List ℕ) → Appends before mid done → Appends mid now piece → text ≡ done ++ piece
    → Appends before now text
given_more before mid now done piece text given more parts = subst (Appends before now) (sym parts) (Appends-trans before mid now done piece given more)

pub given_on_ok : {T E : Type 0} (before mid now : Option (List ℕ)) (done piece text : List ℕ) (r : Result T E) → Appends before mid done → OnOk r (Appends mid now piece) → text ≡ done ++ piece
    → OnOk r (Appends before now text)
given_on_ok before mid now done piece text (Ok v) given more parts = given_more before mid now done piece text given more parts
given_on_ok before mid now done piece text (Err e) given more parts = tt
