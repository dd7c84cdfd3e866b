-- Replies of several workers, put together in the order of their lines, and blocks one after another.
use Rattle.std.proofs.Common.{◌≡◌, ℕ, ◌+◌, ◌<◌, ◌≤◌, Bool, true, false, List, [], ◌∷◌, ◌++◌, length, map, refl, sym, ap, subst, ◌∙◌, arith, length-append}
use Rattle.std.specs.Prelude.{Option, Some, None, Result, Ok, Err, ◌%◌, ◌==◌, filter}
use Rattle.std.specs.List.{All, flat_map, filter_map}
use Rattle.std.proofs.lemmas.Bool.{eqb-true, eq-eqb}
use Rattle.std.proofs.lemmas.Nat.{mod_below}
use Rattle.std.proofs.lemmas.Grind.{flat_map-append, common_steps}
use Rattle.std.proofs.lemmas.List.{map-append}
use Rattle.std.proofs.lemmas.List.Elements.{All-nil, All-cons, All-append, filter-append, filter_map-append}
use Rattle.implicit_tiling.specs.Files.{Files}
use Rattle.implicit_tiling.specs.Region.{Plan}
use Rattle.implicit_tiling.specs.Scene.{Layout}
use Rattle.implicit_tiling.specs.Steps.{ended}
use Rattle.implicit_tiling.specs.Answer.{complete}
use Rattle.implicit_tiling.specs.Text.{text_of, refused_text, words_text}
use Rattle.implicit_tileset.specs.Scene.{scene_of}
use Rattle.tile_coords.specs.declared.walk_end.WalkEnd.TheVariants.{Complete}
use Rattle.batch_blocks.specs.declared.reply.Reply.{Reply}
use Rattle.batch_blocks.specs.Workers.{worker_of, kept_where, of_worker}
use Rattle.batch_blocks.specs.Blocks.{Block, IsBlock, IsTextOfLine, IsAnswerText, AreBlocks, text_of_blocks, failures, answered_plan, answered_plans, plan_in}
use Rattle.batch_blocks.specs.Replies.{block_of, blocks_of, reply_text, IsReplyTo, AreRepliesTo}

-- ---- replies of several workers

-- the first of some replies
first_reply : (told : Option Files) (layout : Layout) (line : List ℕ) (lines : List (List ℕ)) (queue : List Reply) → AreRepliesTo told layout (line ∷ lines) queue
    → (reply : Reply) × (rest : List Reply) × (queue ≡ reply ∷ rest) × IsReplyTo told layout line reply × AreRepliesTo told layout lines rest
first_reply told layout line lines [] each = absurd each
first_reply told layout line lines (reply ∷ rest) each = (reply, rest, refl, each.0, each.1)

no_replies : (told : Option Files) (layout : Layout) (queue : List Reply) → AreRepliesTo told layout [] queue → queue ≡ []
no_replies told layout [] each = refl
no_replies told layout (reply ∷ rest) each = absurd each

-- the replies that are left of a worker, where the line at hand is or isn't its own
abbrev left_where : Bool → List Reply → List Reply → List Reply
left_where true rest queue = rest
left_where false rest queue = queue

own_line : (own w : ℕ) → own ≡ w → (own == w) ≡ true
own_line own w e = eq-eqb own w e

left_are_replies : (told : Option Files) (layout : Layout) (own w : ℕ) (is : Bool) (line : List ℕ) (mine : ℕ → List (List ℕ)) (queue : ℕ → List Reply) (rest : List Reply) → (own == w) ≡ is
    → AreRepliesTo told layout (mine own) rest → AreRepliesTo told layout (kept_where (own == w) line (mine w)) (queue w) → AreRepliesTo told layout (mine w) (left_where is rest (queue w))
left_are_replies told layout own w true line mine queue rest is own_rest each = subst (λ v. AreRepliesTo told layout (mine v) rest) (eqb-true own w is) own_rest
left_are_replies told layout own w false line mine queue rest is own_rest each = subst (λ b. AreRepliesTo told layout (kept_where b line (mine w)) (queue w)) is each

queue_is : (own w : ℕ) (is : Bool) (reply : Reply) (rest after : List Reply) (queue : ℕ → List Reply) → (own == w) ≡ is → queue own ≡ reply ∷ rest → left_where is rest (queue w) ≡ after
    → queue w ≡ kept_where (own == w) reply after
queue_is own w true reply rest after queue is first left =
    ap queue (sym (eqb-true own w is)) ∙ first ∙ ap (λ xs. reply ∷ xs) left ∙ ap (λ b. kept_where b reply after) (sym is)
queue_is own w false reply rest after queue is first left = left ∙ ap (λ b. kept_where b reply after) (sym is)

-- where each worker has the replies to its lines, there are replies to all lines, of which each has its own
pub merged : (told : Option Files) (layout : Layout) (workers n : ℕ) (lines : List (List ℕ)) (queue : ℕ → List Reply) → 1 ≤ workers
    → ((w : ℕ) → w < workers → AreRepliesTo told layout (of_worker workers w n lines) (queue w))
    → (replies : List Reply) × AreRepliesTo told layout lines replies × ((w : ℕ) → w < workers → queue w ≡ of_worker workers w n replies)
merged told layout workers n [] queue some each = ([], tt, λ w low. no_replies told layout (queue w) (each w low))
merged told layout workers n (line ∷ lines) queue some each =
    let own : ℕ = worker_of workers n in
    let low : own < workers = mod_below (n % 64) workers some in
    let mine : AreRepliesTo told layout (line ∷ of_worker workers own (n + 1) lines) (queue own) =
    subst (λ b. AreRepliesTo told layout (kept_where b line (of_worker workers own (n + 1) lines)) (queue own)) (own_line own own refl) (each own low) in
    let first = first_reply told layout line (of_worker workers own (n + 1) lines) (queue own) mine in
    let more = merged told layout workers (n + 1) lines (λ w. left_where (own == w) first.1 (queue w)) some
    (λ w below. left_are_replies told layout own w (own == w) line (λ v. of_worker workers v (n + 1) lines) queue first.1 refl first.4 (each w below)) in (
      first.0 ∷ more.0,
      (first.3, more.1),
      λ w below. queue_is own w (own == w) first.0 first.1 (of_worker workers w (n + 1) more.0) queue refl first.2 (more.2 w below),
    )

kept_blocks : (layout : Layout) (own : Bool) (line : List ℕ) (lines : List (List ℕ)) (reply : Reply) (replies : List Reply)
    → kept_where own (block_of layout line reply) (blocks_of layout lines replies) ≡ blocks_of layout (kept_where own line lines) (kept_where own reply replies)
kept_blocks layout true line lines reply replies = refl
kept_blocks layout false line lines reply replies = refl

-- the blocks of a worker are those of its lines and replies
pub blocks_of_worker : (told : Option Files) (layout : Layout) (workers w n : ℕ) (lines : List (List ℕ)) (replies : List Reply) → AreRepliesTo told layout lines replies
    → of_worker workers w n (blocks_of layout lines replies) ≡ blocks_of layout (of_worker workers w n lines) (of_worker workers w n replies)
blocks_of_worker told layout workers w n [] replies each = refl
blocks_of_worker told layout workers w n (line ∷ lines) [] each = absurd each
blocks_of_worker told layout workers w n (line ∷ lines) (reply ∷ replies) each =
    ap (kept_where (worker_of workers n == w) (block_of layout line reply)) (blocks_of_worker told layout workers w (n + 1) lines replies each.1)
    ∙ kept_blocks layout (worker_of workers n == w) line (of_worker workers w (n + 1) lines) reply (of_worker workers w (n + 1) replies)

-- ---- one reply more

pub replies_more : (told : Option Files) (layout : Layout) (lines : List (List ℕ)) (replies : List Reply) (line : List ℕ) (reply : Reply) → AreRepliesTo told layout lines replies
    → IsReplyTo told layout line reply → AreRepliesTo told layout (lines ++ line ∷ []) (replies ++ reply ∷ [])
replies_more told layout [] [] line reply each one = (one, tt)
replies_more told layout [] (r ∷ rs) line reply each one = absurd each
replies_more told layout (l ∷ ls) [] line reply each one = absurd each
replies_more told layout (l ∷ ls) (r ∷ rs) line reply each one = (each.0, replies_more told layout ls rs line reply each.1 one)

pub blocks_more : (told : Option Files) (layout : Layout) (lines : List (List ℕ)) (replies : List Reply) (line : List ℕ) (reply : Reply) → AreRepliesTo told layout lines replies
    → blocks_of layout (lines ++ line ∷ []) (replies ++ reply ∷ []) ≡ blocks_of layout lines replies ++ block_of layout line reply ∷ []
blocks_more told layout [] [] line reply each = refl
blocks_more told layout [] (r ∷ rs) line reply each = absurd each
blocks_more told layout (l ∷ ls) [] line reply each = absurd each
blocks_more told layout (l ∷ ls) (r ∷ rs) line reply each = ap (λ bs. block_of layout l r ∷ bs) (blocks_more told layout ls rs line reply each.1)

pub as_many : (told : Option Files) (layout : Layout) (lines : List (List ℕ)) (replies : List Reply) → AreRepliesTo told layout lines replies → length replies ≡ length lines
as_many told layout [] [] each = refl
as_many told layout [] (r ∷ rs) each = absurd each
as_many told layout (l ∷ ls) [] each = absurd each
as_many told layout (l ∷ ls) (r ∷ rs) each = omega (arith, as_many told layout ls rs each.1)

-- the texts of the blocks are those of the replies
pub texts_are : (told : Option Files) (layout : Layout) (lines : List (List ℕ)) (replies : List Reply) → AreRepliesTo told layout lines replies
    → text_of_blocks (blocks_of layout lines replies) ≡ flat_map (reply_text layout) replies
texts_are told layout [] [] each = refl
texts_are told layout [] (r ∷ rs) each = absurd each
texts_are told layout (l ∷ ls) [] each = absurd each
texts_are told layout (l ∷ ls) (r ∷ rs) each = ap (λ w. reply_text layout r ++ w) (texts_are told layout ls rs each.1)

-- ---- blocks

more_blocks : (told : Option Files) (layout : Layout) (line : List ℕ) (lines : List (List ℕ)) (block : Block) (blocks : List Block) → block.line ≡ line → IsBlock told layout block
    → AreBlocks told layout lines blocks → AreBlocks told layout (line ∷ lines) (block ∷ blocks)
more_blocks told layout line lines block blocks of_line is rest = record {
  each = All-cons (IsBlock told layout) block blocks is rest.each;
  in_order = ap (λ l. l ∷ map (λ (b : Block). b.line) blocks) of_line ∙ ap (λ ls. line ∷ ls) rest.in_order;
}

no_blocks : (told : Option Files) (layout : Layout) → AreBlocks told layout [] []
no_blocks told layout = record { each = All-nil (IsBlock told layout); in_order = refl }

pub replies_are_blocks : (told : Option Files) (layout : Layout) (lines : List (List ℕ)) (replies : List Reply) → AreRepliesTo told layout lines replies
    → AreBlocks told layout lines (blocks_of layout lines replies)
replies_are_blocks told layout [] replies each = no_blocks told layout
replies_are_blocks told layout (line ∷ lines) [] each = absurd each
replies_are_blocks told layout (line ∷ lines) (reply ∷ replies) each =
    more_blocks told layout line lines (block_of layout line reply) (blocks_of layout lines replies) refl each.0.block
    (replies_are_blocks told layout lines replies each.1)

pub blocks-append : (told : Option Files) (layout : Layout) (lines more : List (List ℕ)) (these those : List Block) → AreBlocks told layout lines these → AreBlocks told layout more those
    → AreBlocks told layout (lines ++ more) (these ++ those)
blocks-append told layout lines more these those first second = record {
  each = All-append (IsBlock told layout) these those first.each second.each;
  in_order = map-append (λ (b : Block). b.line) these those ∙ ap (λ ls. ls ++ map (λ (b : Block). b.line) those) first.in_order ∙ ap (λ ls. lines ++ ls) second.in_order;
}

pub text-append : (these those : List Block) → text_of_blocks (these ++ those) ≡ text_of_blocks these ++ text_of_blocks those
text-append these those = flat_map-append (λ (b : Block). b.text) these those

pub failures-append : (these those : List Block) → failures (these ++ those) ≡ failures these + failures those
failures-append these those =
    ap (λ bs. length bs) (filter-append (λ (b : Block). b.failed) these those)
    ∙ length-append (filter (λ (b : Block). b.failed) these) (filter (λ (b : Block). b.failed) those)

pub plans-append : (layout : Layout) (these those : List Block) → answered_plans layout (these ++ those) ≡ answered_plans layout these ++ answered_plans layout those
plans-append layout these those = filter_map-append (answered_plan layout) these those

-- ---- a block that any line may have

some_answer : (told : Option Files) (layout : Layout) (plan : Plan) → (text : List ℕ) × IsAnswerText told layout plan text
some_answer (Some files) layout plan = (text_of (scene_of files layout) (Ok plan), refl)
some_answer None layout plan = (words_text layout [] (ended complete), ([], Complete, record { are_words = All-nil _; few = omega arith }, tt, refl))

some_text : (told : Option Files) (layout : Layout) (read : Result Plan ℕ) → (text : List ℕ) × IsTextOfLine told layout read false text
some_text told layout (Ok plan) = some_answer told layout plan
some_text told layout (Err number) = (refused_text number, (refl, refl))

nobody_failed : (workers w n : ℕ) (block : Block) (blocks : List Block) (own : Bool) → block.failed ≡ false → failures blocks ≡ 0 → failures (kept_where own block blocks) ≡ 0
nobody_failed workers w n block blocks true good none = grind (arith, common_steps, good, none)
nobody_failed workers w n block blocks false good none = none

-- blocks of which none tells of a failed read
pub record AreGood (told : Option Files) (layout : Layout) (lines : List (List ℕ)) (blocks : List Block) : Type 0 where
  pub of_lines : AreBlocks told layout lines blocks
  pub none : (workers w n : ℕ) → failures (of_worker workers w n blocks) ≡ 0

pub good_blocks : (told : Option Files) (layout : Layout) (lines : List (List ℕ)) → (blocks : List Block) × AreGood told layout lines blocks
good_blocks told layout [] = ([], record { of_lines = no_blocks told layout; none = λ workers w n. refl })
good_blocks told layout (line ∷ lines) =
    let text = some_text told layout (plan_in layout line) in
    let block : Block = record { line = line; failed = false; text = text.0 } in
    let more = good_blocks told layout lines in (
      block ∷ more.0,
      record {
        of_lines = more_blocks told layout line lines block more.0 refl text.1 more.1.of_lines;
        none = λ workers w n. nobody_failed workers w n block (of_worker workers w (n + 1) more.0) (worker_of workers n == w) refl (more.1.none workers w (n + 1));
      },
    )
