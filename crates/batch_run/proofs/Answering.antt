-- What the answers of a worker add up to.
use Rattle.std.proofs.Common.{◌≡◌, ℕ, ◌+◌, ◌≤◌, false, List, [], ◌∷◌, ◌++◌, map, sym, ap, subst, ◌∙◌, arith, append-nil, append_assoc}
use Rattle.std.specs.Prelude.{Option, Some, Result, Ok, Err, IfOk, IfSome}
use Rattle.std.specs.declared.alloc.AllocError.{AllocError}
use Rattle.std.specs.List.{cons_option}
use Rattle.std.proofs.lemmas.List.{map-append}
use Rattle.implicit_tiling.specs.Files.{Files}
use Rattle.implicit_tiling.specs.Region.{Plan}
use Rattle.implicit_tiling.specs.Request.{line_of}
use Rattle.implicit_tiling.specs.Scene.{Layout}
use Rattle.tileset_json.specs.Limits.{IsWithinLimits}
use Rattle.walk_laws.specs.Plans.{FitsLayout}
use Rattle.batch_blocks.specs.Workers.{RoseBy}
use Rattle.batch_blocks.specs.Blocks.{Block, failures, answered_plans, plan_in, plan_where}
use Rattle.batch_blocks.specs.Replies.{block_of, IsReplyTo, IsReplyToPlan}
use Rattle.batch_blocks.specs.declared.reply.Reply.{Reply}
use Rattle.batch_blocks.specs.declared.reply.Reply.TheVariants.{Refused, ReadFault, Whole}
use Rattle.batch_blocks.proofs.Plans.{plan_fits, reply_to_line}
use Rattle.batch_blocks.proofs.Replies.{failures-append, plans-append}
use Rattle.batch_run.specs.Batches.{HasAnswered, HasAnsweredPlan}

pub nothing_answered : {W : Type 0} (whole : Plan → W) (layout : Layout) (f g : ℕ) (a : List W) → f ≤ g → HasAnswered whole layout [] f g a a
nothing_answered whole layout f g a later = record { failed = omega (arith, later); walked = sym (append-nil a) }

rose_more : (n m k a b c : ℕ) → k ≡ n + m → RoseBy n a b → RoseBy m b c → RoseBy k a c
rose_more n m k a b c sum one two = omega (arith, sum, one, two)

pub rose_later : (n a b c : ℕ) → RoseBy n a b → b ≤ c → RoseBy n a c
rose_later n a b c one later = omega (arith, one, later)

pub more_answered : {W : Type 0} (whole : Plan → W) (layout : Layout) (these those : List Block) (f g h : ℕ) (a b c : List W) → HasAnswered whole layout these f g a b → HasAnswered whole layout those g h b c
    → HasAnswered whole layout (these ++ those) f h a c
more_answered whole layout these those f g h a b c one two =
    let first = answered_plans layout these in
    let more = answered_plans layout those in
    record {
      failed = rose_more (failures these) (failures those) (failures (these ++ those)) f g h (failures-append these those) one.failed two.failed;
      walked = two.walked ∙ ap (λ w. w ++ map whole more) one.walked ∙ append_assoc a (map whole first) (map whole more)
          ∙ ap (λ w. a ++ w) (sym (map-append whole first more) ∙ ap (map whole) (sym (plans-append layout these those)));
    }

-- a plan that was answered is the answer to each line that is read to it
pub plan_answered : {W : Type 0} (whole : Plan → W) (layout : Layout) (line : List ℕ) (plan : Plan) (reply : Reply) (f g : ℕ) (a b : List W) → plan_in layout line ≡ Ok plan → HasAnsweredPlan whole plan f g a b reply
    → HasAnswered whole layout (block_of layout line reply ∷ []) f g a b
plan_answered whole layout line plan (Refused number) f g a b read h = absurd h
plan_answered whole layout line plan ReadFault f g a b read h = record { failed = omega (arith, h.0); walked = h.1 ∙ sym (append-nil a) }
plan_answered whole layout line plan (Whole end words) f g a b read h = record {
  failed = omega (arith, h.0);
  walked = h.1 ∙ ap (λ r. a ++ map whole (cons_option (plan_where false r) [])) (sym read);
}

-- a refusal takes nothing
pub line_refused : {W : Type 0} (whole : Plan → W) (layout : Layout) (line : List ℕ) (number : ℕ) (f : ℕ) (a : List W) → plan_in layout line ≡ Err number
    → HasAnswered whole layout (block_of layout line (Refused number) ∷ []) f f a a
line_refused whole layout line number f a read = record {
  failed = omega arith;
  walked = sym (append-nil a) ∙ ap (λ r. a ++ map whole (cons_option (plan_where false r) [])) (sym read);
}

-- a line that is read to a plan has one that fits the layout
pub read_fits : (layout : Layout) (line : List ℕ) (read : Result Plan ℕ) → read ≡ plan_in layout line → IfOk read (FitsLayout layout)
read_fits layout line (Ok plan) is = plan_fits layout (line_of line) plan (sym is)
read_fits layout line (Err number) is = tt

-- ---- the reply to a line

pub line_replied : (told : Option Files) (layout same : Layout) (line : List ℕ) (plan : Plan) (read : Result Plan ℕ) (reply : Result Reply AllocError) → layout ≡ same → read ≡ plan_in layout line → read ≡ Ok plan
    → IsWithinLimits layout → IfOk reply (IsReplyToPlan told same plan) → IfOk reply (IsReplyTo told same line)
line_replied told layout same line plan read (Ok reply) e is ok within h =
    reply_to_line told same line plan reply (subst (λ l. plan_in l line ≡ Ok plan) e (sym is ∙ ok)) (subst IsWithinLimits e within) h
line_replied told layout same line plan read (Err error) e is ok within h = tt

pub line_answered : {W : Type 0} (whole : Plan → W) (layout same : Layout) (line : List ℕ) (plan : Plan) (read : Result Plan ℕ) (reply : Result Reply AllocError) (f g : ℕ) (a b : List W) → layout ≡ same
    → read ≡ plan_in layout line → read ≡ Ok plan → IfOk reply (HasAnsweredPlan whole plan f g a b) → IfOk reply (λ r. HasAnswered whole same (block_of same line r ∷ []) f g a b)
line_answered whole layout same line plan read (Ok reply) f g a b e is ok h =
    plan_answered whole same line plan reply f g a b (subst (λ l. plan_in l line ≡ Ok plan) e (sym is ∙ ok)) h
line_answered whole layout same line plan read (Err error) f g a b e is ok h = tt

pub read_in : (layout same : Layout) (line : List ℕ) (number : ℕ) (read : Result Plan ℕ) → layout ≡ same → read ≡ plan_in layout line → read ≡ Err number → plan_in same line ≡ Err number
read_in layout same line number read e is err = subst (λ l. plan_in l line ≡ Err number) e (sym is ∙ err)

-- ---- a plan that was busy before

pub plan_at_last : {W : Type 0} (whole : Plan → W) (plan : Plan) (f mid g : ℕ) (a between b : List W) (asked : Option Reply) (reply : Reply) → mid ≡ f → between ≡ a → asked ≡ Some reply
    → IfSome asked (HasAnsweredPlan whole plan mid g between b) → HasAnsweredPlan whole plan f g a b reply
plan_at_last whole plan f mid g a between b asked reply same_faults same_walked is h =
    let one : HasAnsweredPlan whole plan mid g between b reply = subst (λ o. IfSome o (HasAnsweredPlan whole plan mid g between b)) is h in
    subst (λ n. HasAnsweredPlan whole plan n g a b reply) same_faults (subst (λ w. HasAnsweredPlan whole plan mid g w b reply) same_walked one)
