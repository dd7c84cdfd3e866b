use Rattle.std.proofs.Common.{◌∙◌, ℕ, ◌+◌, ◌<◌, length, refl, sym, ap, subst, set, List, Some, None, arith}
use Rattle.std.proofs.lemmas.Option.{slice_get_within}
use Rattle.frame_pool.specs.declared.frame.FrameState.{FrameState}
use Rattle.frame_pool.specs.declared.frame.FrameState.TheVariants.{Ready, Loading}
use Rattle.frame_pool.specs.declared.frame.Asked.TheVariants.{Hit, Granted, Loading as Waiting, Busy}
use Rattle.frame_pool.specs.States.{pins_of}
use Rattle.frame_pool.specs.Frames.{Frames, EachFrame, HasKeysOnce, KeepsPinned}
use Rattle.frame_pool.specs.Moves.{IsAskAnswer, MayGoOn, pinned, after_ask, asked_last}
use Rattle.frame_pool.specs.Finding.{AreNoted, HasRoom, NoneEmptyBelow, IsKept}
use Rattle.frame_pool.proofs.Asking.{one_answer}
use Rattle.frame_pool.proofs.Holders.{ready-at, loading-at, none-has}
use Rattle.frame_pool.proofs.Keeping.{keeps_pinned, may_go_on}
use Rattle.frame_pool.proofs.Kept.{kept-pins, kept-front, kept-loading}
use Rattle.frame_pool.proofs.Pools.{once-in_order, changed-at}
use Rattle.frame_pool.proofs.Victims.{victim-inside, victim-seen, all_pinned}
use Rattle.frame_pool.proofs.pool.Pool.ask.Goals as goal

pub overflow_add-pins : goal.overflow_add-pins
overflow_add-pins g c =
    let ready = ready-at g.K.PartialEq.eq c.args.key c.self.inside.census.items c.deref.result.now c.in-Some.frame c.index.result.now c.in-Ready.own c.in-Ready.pins c.in-Some.ensures c.deref.ensures.value c.index.ensures c.in-Ready.is in
    let few = subst (λ (p : Frames g.row.K.Denot g.row.V.Denot). EachFrame (λ s. pins_of s < 4294967295) p.census) (sym c.self.view_is) c.requires c.in-Some.frame (Ready c.in-Ready.own c.in-Ready.pins) ready.0 in
    omega arith

pub move_to_front-requires : goal.move_to_front-requires
move_to_front-requires g c =
    let ready = ready-at g.K.PartialEq.eq c.args.key c.self.inside.census.items c.deref.result.now c.in-Some.frame c.index.result.now c.in-Ready.own c.in-Ready.pins c.in-Some.ensures c.deref.ensures.value c.index.ensures c.in-Ready.is in
    once-in_order g.K.PartialEq.eq c.self.inside.census.items c.self.inside.values.items c.self.inside.order c.in-Some.frame c.self.invariant.frames (slice_get_within c.self.inside.census.items c.in-Some.frame _ ready.0)

pub invariant_of-self : goal.invariant_of-self
invariant_of-self g c =
    let ready = ready-at g.K.PartialEq.eq c.args.key c.self.inside.census.items c.deref.result.now c.in-Some.frame c.index.result.now c.in-Ready.own c.in-Ready.pins c.in-Some.ensures c.deref.ensures.value c.index.ensures c.in-Ready.is in
    let inside = slice_get_within c.self.inside.census.items c.in-Some.frame _ ready.0 in
    subst (λ (xs : List ℕ). IsKept g.K.PartialEq.eq (set c.self.inside.census.items c.in-Some.frame (Ready c.in-Ready.own (c.in-Ready.pins + 1))) c.self.inside.values.items xs c.self.inside.notes c.self.inside.least_empty) (sym c.move_to_front.ensures)
    (kept-pins g.K.PartialEq.eq c.self.inside.census.items c.self.inside.values.items (asked_last c.in-Some.frame c.self.inside.order) c.self.inside.notes c.self.inside.least_empty c.in-Some.frame
    (kept-front g.K.PartialEq.eq c.self.inside.census.items c.self.inside.values.items c.self.inside.order c.self.inside.notes c.self.inside.least_empty c.in-Some.frame c.self.invariant inside)
    c.in-Ready.own c.in-Ready.pins (c.in-Ready.pins + 1) ready.0)

pub returns-in-Ready-clause-answer : goal.returns-in-Ready-clause-answer
returns-in-Ready-clause-answer g c =
    let ready = ready-at g.K.PartialEq.eq c.args.key c.self.inside.census.items c.deref.result.now c.in-Some.frame c.index.result.now c.in-Ready.own c.in-Ready.pins c.in-Some.ensures c.deref.ensures.value c.index.ensures c.in-Ready.is in
    subst (λ (p : Frames g.row.K.Denot g.row.V.Denot). IsAskAnswer g.K.PartialEq.eq c.args.key p (Hit c.in-Some.frame)) c.self.view_is (c.in-Ready.own, c.in-Ready.pins, ready.0, ready.1)

pub returns-in-Ready-clause-only : goal.returns-in-Ready-clause-only
returns-in-Ready-clause-only g c other h = one_answer g.K.PartialEq.eq c.args.key c.args.self.now (subst (λ (p : Frames g.row.K.Denot g.row.V.Denot). HasKeysOnce g.K.PartialEq.eq p.census) c.self.view_is c.self.invariant.frames.keys) other (Hit c.in-Some.frame) h (returns-in-Ready-clause-answer g c)

pub returns-in-Ready-clause-after : goal.returns-in-Ready-clause-after
returns-in-Ready-clause-after g c =
    let ready = ready-at g.K.PartialEq.eq c.args.key c.self.inside.census.items c.deref.result.now c.in-Some.frame c.index.result.now c.in-Ready.own c.in-Ready.pins c.in-Some.ensures c.deref.ensures.value c.index.ensures c.in-Ready.is in
    ap (λ (xs : List ℕ). let after : Frames g.row.K.Denot g.row.V.Denot = record { census = set c.self.inside.census.items c.in-Some.frame (Ready c.in-Ready.own (c.in-Ready.pins + 1)); values = c.self.inside.values.items; order = xs } in after) c.move_to_front.ensures
    ∙ ap (λ (states : List (FrameState g.row.K.Denot)). let after : Frames g.row.K.Denot g.row.V.Denot = record { census = states; values = c.self.inside.values.items; order = asked_last c.in-Some.frame c.self.inside.order } in after)
    (sym (changed-at c.self.inside.census.items c.in-Some.frame (Ready c.in-Ready.own c.in-Ready.pins) pinned ready.0))
    ∙ ap (λ (p : Frames g.row.K.Denot g.row.V.Denot). after_ask c.args.key p (Hit c.in-Some.frame)) c.self.view_is

pub returns-in_default-clause-answer : goal.returns-in_default-clause-answer
returns-in_default-clause-answer g c =
    let loading = loading-at g.K.PartialEq.eq c.args.key c.self.inside.census.items c.deref.result.now c.in-Some.frame c.index.result.now c.in-Some.ensures c.deref.ensures.value c.index.ensures c.in_default.not-Ready in
    let answer = subst (λ (p : Frames g.row.K.Denot g.row.V.Denot). IsAskAnswer g.K.PartialEq.eq c.args.key p Waiting) c.self.view_is (c.in-Some.frame, loading.0, loading.1, loading.2) in
    answer

pub returns-in_default-clause-only : goal.returns-in_default-clause-only
returns-in_default-clause-only g c other h = one_answer g.K.PartialEq.eq c.args.key c.args.self.now (subst (λ (p : Frames g.row.K.Denot g.row.V.Denot). HasKeysOnce g.K.PartialEq.eq p.census) c.self.view_is c.self.invariant.frames.keys) other Waiting h (returns-in_default-clause-answer g c)

pub note-requires-clause-given : goal.note-requires-clause-given
note-requires-clause-given g c = none-has g.K.PartialEq.eq c.args.key c.deref-in-Some-victim.result.now c.deref.result.now c.in-None.ensures (c.deref.ensures.value ∙ sym c.deref-in-Some-victim.ensures.value)

pub index_mut-requires-in-Some-victim : goal.index_mut-requires-in-Some-victim
index_mut-requires-in-Some-victim g c =
    let inside = victim-inside c.self.inside.census.items c.self.inside.order c.in-Some-victim.frame (victim-seen c.self.inside.census.items c.deref-in-None.result.now c.self.inside.order c.self.inside.order (Some c.in-Some-victim.frame) c.in-Some-victim.ensures.victim c.deref-in-None.ensures.value refl) in
    let long = c.self.inside.census.ok.0 in
    omega arith

pub index_mut-requires-in-Some-victim-2 : goal.index_mut-requires-in-Some-victim-2
index_mut-requires-in-Some-victim-2 g c =
    let inside = victim-inside c.self.inside.census.items c.self.inside.order c.in-Some-victim.frame (victim-seen c.self.inside.census.items c.deref-in-None.result.now c.self.inside.order c.self.inside.order (Some c.in-Some-victim.frame) c.in-Some-victim.ensures.victim c.deref-in-None.ensures.value refl) in
    let long = c.self.inside.values.ok.0 in
    let places = c.self.invariant.frames.places in
    omega arith

pub move_to_front-requires-in-Some-victim : goal.move_to_front-requires-in-Some-victim
move_to_front-requires-in-Some-victim g c =
    let inside = victim-inside c.self.inside.census.items c.self.inside.order c.in-Some-victim.frame (victim-seen c.self.inside.census.items c.deref-in-None.result.now c.self.inside.order c.self.inside.order (Some c.in-Some-victim.frame) c.in-Some-victim.ensures.victim c.deref-in-None.ensures.value refl) in
    once-in_order g.K.PartialEq.eq c.self.inside.census.items c.self.inside.values.items c.self.inside.order c.in-Some-victim.frame c.self.invariant.frames inside

pub invariant_of-self-in-Some-victim : goal.invariant_of-self-in-Some-victim
invariant_of-self-in-Some-victim g c =
    let inside = victim-inside c.self.inside.census.items c.self.inside.order c.in-Some-victim.frame (victim-seen c.self.inside.census.items c.deref-in-None.result.now c.self.inside.order c.self.inside.order (Some c.in-Some-victim.frame) c.in-Some-victim.ensures.victim c.deref-in-None.ensures.value refl) in
    let seen = c.deref-in-Some-victim.ensures.value in
    subst (λ (xs : List ℕ). IsKept g.K.PartialEq.eq (set c.self.inside.census.items c.in-Some-victim.frame (Loading c.args.key)) (set c.self.inside.values.items c.in-Some-victim.frame None) xs c.note.new.notes c.victim.new.least_empty) (sym c.move_to_front-in-Some-victim.ensures)
    (kept-loading g.K.PartialEq.eq c.self.inside.census.items c.self.inside.values.items (asked_last c.in-Some-victim.frame c.self.inside.order) c.self.inside.notes c.self.inside.least_empty c.in-Some-victim.frame
    (kept-front g.K.PartialEq.eq c.self.inside.census.items c.self.inside.values.items c.self.inside.order c.self.inside.notes c.self.inside.least_empty c.in-Some-victim.frame c.self.invariant inside)
    g.met.K.PartialEq.laws c.args.key (none-has g.K.PartialEq.eq c.args.key c.self.inside.census.items c.deref.result.now c.in-None.ensures c.deref.ensures.value)
    c.note.new.notes
    (subst (λ (states : List (FrameState g.row.K.Denot)). AreNoted g.K.PartialEq.eq (set states c.in-Some-victim.frame (Loading c.args.key)) c.note.new.notes) seen c.note.ensures.noted)
    (subst (λ (states : List (FrameState g.row.K.Denot)). HasRoom (length states) c.note.new.notes) seen c.note.ensures.room)
    c.victim.new.least_empty
    (subst (NoneEmptyBelow c.victim.new.least_empty) c.deref-in-None.ensures.value c.victim.ensures.below))

pub returns-in-Some-victim-clause-answer : goal.returns-in-Some-victim-clause-answer
returns-in-Some-victim-clause-answer g c =
    subst (λ (p : Frames g.row.K.Denot g.row.V.Denot). IsAskAnswer g.K.PartialEq.eq c.args.key p (Granted c.in-Some-victim.frame)) c.self.view_is
    (none-has g.K.PartialEq.eq c.args.key c.self.inside.census.items c.deref.result.now c.in-None.ensures c.deref.ensures.value, victim-seen c.self.inside.census.items c.deref-in-None.result.now c.self.inside.order c.self.inside.order (Some c.in-Some-victim.frame) c.in-Some-victim.ensures.victim c.deref-in-None.ensures.value refl)

pub returns-in-Some-victim-clause-only : goal.returns-in-Some-victim-clause-only
returns-in-Some-victim-clause-only g c other h = one_answer g.K.PartialEq.eq c.args.key c.args.self.now (subst (λ (p : Frames g.row.K.Denot g.row.V.Denot). HasKeysOnce g.K.PartialEq.eq p.census) c.self.view_is c.self.invariant.frames.keys) other (Granted c.in-Some-victim.frame) h (returns-in-Some-victim-clause-answer g c)

pub returns-in-None-victim-clause-answer : goal.returns-in-None-victim-clause-answer
returns-in-None-victim-clause-answer g c =
    subst (λ (p : Frames g.row.K.Denot g.row.V.Denot). IsAskAnswer g.K.PartialEq.eq c.args.key p Busy) c.self.view_is
    (none-has g.K.PartialEq.eq c.args.key c.self.inside.census.items c.deref.result.now c.in-None.ensures c.deref.ensures.value, all_pinned c.self.inside.census.items c.self.inside.order c.self.invariant.frames.numbers (victim-seen c.self.inside.census.items c.deref-in-None.result.now c.self.inside.order c.self.inside.order None c.in-None-victim.ensures.victim c.deref-in-None.ensures.value refl))

pub returns-in-None-victim-clause-only : goal.returns-in-None-victim-clause-only
returns-in-None-victim-clause-only g c other h = one_answer g.K.PartialEq.eq c.args.key c.args.self.now (subst (λ (p : Frames g.row.K.Denot g.row.V.Denot). HasKeysOnce g.K.PartialEq.eq p.census) c.self.view_is c.self.invariant.frames.keys) other Busy h (returns-in-None-victim-clause-answer g c)

pub returns-in-Some-victim-clause-after : goal.returns-in-Some-victim-clause-after
returns-in-Some-victim-clause-after g c =
    ap (λ (xs : List ℕ). let after : Frames g.row.K.Denot g.row.V.Denot = record { census = set c.self.inside.census.items c.in-Some-victim.frame (Loading c.args.key); values = set c.self.inside.values.items c.in-Some-victim.frame None; order = xs } in after) c.move_to_front-in-Some-victim.ensures
    ∙ ap (λ (p : Frames g.row.K.Denot g.row.V.Denot). after_ask c.args.key p (Granted c.in-Some-victim.frame)) c.self.view_is

pub returns-in-Ready-clause-pinned : goal.returns-in-Ready-clause-pinned
returns-in-Ready-clause-pinned g c =
    subst (λ (p : Frames g.row.K.Denot g.row.V.Denot). KeepsPinned c.args.self.now p) (sym (returns-in-Ready-clause-after g c))
    (keeps_pinned g.K.PartialEq.eq c.args.key c.args.self.now (Hit c.in-Some.frame) (returns-in-Ready-clause-answer g c))

pub returns-in-Some-victim-clause-pinned : goal.returns-in-Some-victim-clause-pinned
returns-in-Some-victim-clause-pinned g c =
    subst (λ (p : Frames g.row.K.Denot g.row.V.Denot). KeepsPinned c.args.self.now p) (sym (returns-in-Some-victim-clause-after g c))
    (keeps_pinned g.K.PartialEq.eq c.args.key c.args.self.now (Granted c.in-Some-victim.frame) (returns-in-Some-victim-clause-answer g c))

pub returns-in-Ready-clause-next : goal.returns-in-Ready-clause-next
returns-in-Ready-clause-next g c =
    subst (λ (p : Frames g.row.K.Denot g.row.V.Denot). MayGoOn (Hit c.in-Some.frame) p.census) (sym (returns-in-Ready-clause-after g c))
    (may_go_on g.K.PartialEq.eq c.args.key c.args.self.now (Hit c.in-Some.frame) (returns-in-Ready-clause-answer g c))

pub returns-in-Some-victim-clause-next : goal.returns-in-Some-victim-clause-next
returns-in-Some-victim-clause-next g c =
    subst (λ (p : Frames g.row.K.Denot g.row.V.Denot). MayGoOn (Granted c.in-Some-victim.frame) p.census) (sym (returns-in-Some-victim-clause-after g c))
    (may_go_on g.K.PartialEq.eq c.args.key c.args.self.now (Granted c.in-Some-victim.frame) (returns-in-Some-victim-clause-answer g c))
