-- A token is made of no bytes. It owns nothing, so its value may be any, and is the one that the caller tells.
use Rattle.std.proofs.Common.{◌≡◌, [], ◌∷◌, refl}
use mir.Syntax.{a_type, dcons, dnil}
use mir.Val.{Val, vstruct, vcons, vnil}
use mir.MapTy.{inst_fn}
use base.Logic.{SProp, emp}
use types.Kit.{‵, raw, ◌⊛◌, ◌$◌, ◌∵◌, !, qed, keep, split, fjoin, use0, move, join, suffices, done}
use types.Run.{no_more, and_then, returns, enter}
use types.ByLocal.{alloc_all, pass_all, free_all, look_at, get, sets}
use types.Part.{agg}
use prog.Wp.{WpFn}
use contract.Running.{tables, tables_of}
use contract.Monad.{fact, fact_i}
use sound.WpLaws.{WpFn-mono}
use denote.RattleType.{RattleType, owns}
use denote.Signature.{types_at}
use denote.Steps.{nothing}
use denote.Param.{param, bounded}
use denote.Shadow.{makes_shadow}
use denote.Struct.Struct.{Struct}
use denote.Struct.Owning.{shape}
use denote.Triple.Clauses.{closing}
use denote.Triple.Entry.{alive}
use denote.Triple.Spec.{triple_of}
use denote.Triple.Table.{entered}
use denote.Triple.Walked.{Stays, walk_of, walked, walk_Meets, ends_at}
use Rattle.contract_tokens.specs.contracts.told.Told as told
use Rattle.contract_tokens.specs.contracts.told.Told.of.{ended, clauses}
use Rattle.contract_tokens.specs.contracts.told.Told.of.Key.{name as #self}
use Rattle.contract_tokens.proofs.told.Told.of.Statement.{statement}
use Rattle.contract_tokens.proofs.told.Told.of.Code as code

pub of_spec : {M : Type 1} → statement M
unfolding tables_of
of_spec 𝓤 𝓛 𝓜 𝓡 wired G J _ _ g d _ =
    let H = 𝓛.H in let 𝓣 = tables 𝓤 H 𝓜 𝓡 𝓡.env in let X : RattleType = param 0 G in let En = ended G J g d in let c = clauses G J g d 𝓛 𝓜.mem 𝓡.returns in
    let inst = bounded (a_type ∷ a_type ∷ []) (G, (J, tt)) (dcons d dnil) in let fn = inst_fn inst code.function in let closed = code.unfolded 𝓤 H 𝓜 𝓡 wired (G, (J, tt)) d in let Token : RattleType = told.the_row X in
    let Bare : RattleType = Struct (shape (told.the_type X)) in let v : Val = vstruct (vcons (vstruct vnil) vnil) in
    let hs : Stays En.signature.params En.kept = tt in
    entered 𝓤 H (triple_of 𝓛 En.signature (closing 𝓛 En c)) 𝓣.C 𝓣.Λ (#self inst) fn closed
    (walk_Meets 𝓛 En hs tt c (WpFn 𝓤 H 𝓣.C 𝓣.Λ fn) (WpFn-mono 𝓤 H 𝓛.laws (tables_of 𝓤 H 𝓜 𝓣) fn)
    (walked 𝓛 En hs c (WpFn 𝓤 H 𝓣.C 𝓣.Λ fn) (λ κs. tt) (λ κs. tt) (λ κs qs bounds a gh are.
    let r : Token.Denot = record { marker = record {}; value = g.told } in
    let Says : Type 0 = r.value ≡ g.told in let y : (walk_of 𝓛 En hs c).Ghost = ((κs, qs, bounds, a, tt), gh) in let Post : Val → SProp 𝓤 = (walk_of 𝓛 En hs c).post y in
    qed 𝓛 ((raw (alive 𝓛 En.signature κs qs) ⊛ ‵ (owns (types_at En.signature.params κs) a y.0.4)) ∷ raw ((c κs a).requires gh) ∷ []) ∵
    split ! $ keep ! (0 ∷ []) $ nothing ! $ use0 𝓛 (‵ (Bare.own_val (tt, tt) (v ∷ []))) (makes_shadow 𝓛 (Bare.own_val (tt, tt) (v ∷ [])) (λ vss. (tt, ((λ uss. (tt, tt)), tt))) ((vstruct vnil ∷ [], tt), (refl, ((tt, (refl, tt)), tt)))) $ fjoin ! $
    enter ! 𝓣.C 𝓣.Λ fn [] Post $ alloc_all ! (λ l. pass_all ! refl tt $
    sets ! (agg ! (no_more !)) refl (tt, tt) $ sets ! (agg ! (and_then ! (get ! refl) (no_more !))) refl (tt, (tt, tt)) $
    use0 𝓛 (raw (fact 𝓤 Says)) (fact_i 𝓤 Says (emp 𝓤) refl) $ nothing ! $
    returns ! (look_at ! 0 refl) $ free_all ! refl $ keep ! (3 ∷ 0 ∷ 2 ∷ 1 ∷ []) $
    suffices ! _ (ends_at 𝓛 En hs c y v r tt tt) $ move ! (1 ∷ 2 ∷ []) $ join ! $ move ! (1 ∷ 0 ∷ []) $ join ! $ done !))))
