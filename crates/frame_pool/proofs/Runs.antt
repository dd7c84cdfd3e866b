-- What a run of calls of `next` or `next_back` gives, at an iterator that is seen as the list of what it has left.
use Rattle.std.proofs.Common.{◌≡◌, ◌∙◌, List, [], ◌∷◌, length, reverse, ap, subst}
use Rattle.std.specs.declared.iter.Rev.{Rev}
use Rattle.std.specs.Iterator.Adapters.{rev_source, rev_steps}
use Rattle.std.specs.Map.Iter.{TakesFirst, TakesLast, GivesInOrder, GivesInReverse}
use Rattle.std.proofs.lemmas.List.{length-reverse, reverse-append}
use Rattle.std.proofs.lemmas.Iterator.{YieldsList}
use Rattle.std.proofs.lemmas.Iterator.Consumers.{YieldsList-from_shown}
use Rattle.std.proofs.iter.runs.Sources.{from_front, from_back, as_is, as_is_back}

module _ {X : Type 0} where
  pub gives_in_order : GivesInOrder X
  gives_in_order p seen = as_is p p.from (from_front (TakesFirst (λ (x : X). x)) (λ x. x) (λ left. left) (λ s t h. ap length h.0) (λ s x t h. h) p seen)

  pub gives_in_reverse : GivesInReverse X
  gives_in_reverse p seen = as_is_back p p.from (from_back (TakesLast (λ (x : X). x)) (λ x. x) (λ left. left) (λ s t h. ap length h.0) (λ s x t h. h) p seen)

  -- from its back
  pub from_the_back : (s : Rev (List X)) (xs : List X) → rev_source s ≡ xs → YieldsList (rev_steps (TakesLast (λ (x : X). x))) (λ x. x) s (reverse xs)
  from_the_back s xs is = subst (λ ys. YieldsList (rev_steps (TakesLast (λ (x : X). x))) (λ x. x) s (reverse ys)) is
      (YieldsList-from_shown (rev_steps (TakesLast (λ (x : X). x))) (λ x. x) (λ u. reverse (rev_source u))
      (λ u t h. length-reverse (rev_source u) ∙ ap length h.0)
      (λ u x t h. ap reverse h ∙ reverse-append (rev_source t) (x ∷ []))
      s)
