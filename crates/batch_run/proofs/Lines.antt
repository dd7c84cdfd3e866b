-- The lines of a worker, answered one after another.
use Rattle.std.proofs.Common.{◌≡◌, ◌≢◌, ℕ, ◌+◌, ◌<◌, List, [], ◌∷◌, ◌++◌, length, map, take, get_or, sym, ap, subst, ◌∙◌, arith}
use Rattle.std.specs.Prelude.{Option}
use Rattle.std.proofs.lemmas.List.{take_more, map-append, length-map, length-take}
use denote.Ref.{Bor}
use Rattle.implicit_tiling.specs.Files.{Files}
use Rattle.implicit_tiling.specs.Region.{Plan}
use Rattle.implicit_tiling.specs.Scene.{Layout}
use Rattle.batch_blocks.specs.declared.reply.Reply.{Reply}
use Rattle.batch_blocks.specs.Workers.{worker_of, of_worker}
use Rattle.batch_blocks.specs.Replies.{block_of, blocks_of, IsReplyTo, AreRepliesTo}
use Rattle.batch_blocks.proofs.Workers.{of_worker-own, of_worker-other}
use Rattle.batch_blocks.proofs.Replies.{replies_more, blocks_more}
use Rattle.batch_run.specs.Batches.{HasAnswered}
use Rattle.batch_run.proofs.Answering.{more_answered}

-- the lines of a worker among the first ones of a round
abbrev pub own_lines : ℕ → ℕ → ℕ → List (Bor (List ℕ)) → List (List ℕ)
own_lines workers worker place lines = of_worker workers worker 0 (map (λ line. line.now) (take place lines))

now_more : (lines : List (Bor (List ℕ))) (place : ℕ) (d : Bor (List ℕ)) → place < length lines
    → map (λ (l : Bor (List ℕ)). l.now) (take (place + 1) lines) ≡ map (λ (l : Bor (List ℕ)). l.now) (take place lines) ++ (get_or lines place d).now ∷ []
now_more lines place d low =
    let now : Bor (List ℕ) → List ℕ = λ l. l.now in
    ap (map now) (take_more lines place d low) ∙ map-append now (take place lines) (get_or lines place d ∷ [])

now_count : (lines : List (Bor (List ℕ))) (place : ℕ) → place < length lines → place ≡ length (map (λ (l : Bor (List ℕ)). l.now) (take place lines))
now_count lines place low =
    let now : Bor (List ℕ) → List ℕ = λ l. l.now in
    omega (arith, low, length-map (take place lines) now, length-take place lines)

pub own_more : (workers worker place : ℕ) (lines : List (Bor (List ℕ))) (d : Bor (List ℕ)) → place < length lines → worker_of workers place ≡ worker
    → own_lines workers worker (place + 1) lines ≡ own_lines workers worker place lines ++ (get_or lines place d).now ∷ []
own_more workers worker place lines d low own =
    ap (of_worker workers worker 0) (now_more lines place d low)
    ∙ of_worker-own workers worker place (map (λ (l : Bor (List ℕ)). l.now) (take place lines)) (get_or lines place d).now (now_count lines place low) own

-- some line, where there is one
some_line : (lines : List (Bor (List ℕ))) → 0 < length lines → Bor (List ℕ)
some_line [] some = absurd (omega (arith, some))
some_line (line ∷ lines) some = line

pub other_same : (workers worker place : ℕ) (lines : List (Bor (List ℕ))) → place < length lines → worker_of workers place ≢ worker
    → own_lines workers worker (place + 1) lines ≡ own_lines workers worker place lines
other_same workers worker place lines low other =
    let line = some_line lines (omega (arith, low)) in
    ap (of_worker workers worker 0) (now_more lines place line low)
    ∙ of_worker-other workers worker place (map (λ (l : Bor (List ℕ)). l.now) (take place lines)) (get_or lines place line).now (now_count lines place low) other

pub replied_more : (told : Option Files) (layout : Layout) (lines more : List (List ℕ)) (replies longer : List Reply) (line : List ℕ) (reply : Reply) → more ≡ lines ++ line ∷ []
    → longer ≡ replies ++ reply ∷ [] → AreRepliesTo told layout lines replies → IsReplyTo told layout line reply → AreRepliesTo told layout more longer
replied_more told layout lines more replies longer line reply grown pushed each one =
    subst (λ ls. AreRepliesTo told layout ls longer) (sym grown) (subst (AreRepliesTo told layout (lines ++ line ∷ [])) (sym pushed) (replies_more told layout lines replies line reply each one))

pub answered_more : {W : Type 0} (whole : Plan → W) (told : Option Files) (layout : Layout) (lines more : List (List ℕ)) (replies longer : List Reply) (line : List ℕ) (reply : Reply) (f g h : ℕ)
    (a b c : List W) → more ≡ lines ++ line ∷ [] → longer ≡ replies ++ reply ∷ [] → AreRepliesTo told layout lines replies → HasAnswered whole layout (blocks_of layout lines replies) f g a b
    → HasAnswered whole layout (block_of layout line reply ∷ []) g h b c → HasAnswered whole layout (blocks_of layout more longer) f h a c
answered_more whole told layout lines more replies longer line reply f g h a b c grown pushed each so_far one =
    let same : blocks_of layout more longer ≡ blocks_of layout lines replies ++ block_of layout line reply ∷ [] =
    ap (λ ls. blocks_of layout ls longer) grown ∙ ap (blocks_of layout (lines ++ line ∷ [])) pushed ∙ blocks_more told layout lines replies line reply each in
    subst (λ bs. HasAnswered whole layout bs f h a c) (sym same) (more_answered whole layout (blocks_of layout lines replies) (block_of layout line reply ∷ []) f g h a b c so_far one)
