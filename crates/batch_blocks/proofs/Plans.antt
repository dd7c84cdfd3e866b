-- Lines that are read to plans, and the texts of their answers.
use Rattle.std.proofs.Common.{◌≡◌, ℕ, ◌<◌, ◌≤◌, Bool, true, false, List, [], ◌∷◌, length, refl, sym, ap, subst, ◌∙◌, arith, map}
use Rattle.std.specs.Prelude.{Option, Some, None, IfSome, Result, Ok, Err, nat_lt, nat_le, not, ◌^◌, ◌==◌, ◌&&◌, slice_index}
use Rattle.std.proofs.lemmas.Bool.{and_parts, eqb-true}
use Rattle.implicit_tiling.specs.declared.Scheme.{Scheme}
use Rattle.implicit_tiling.specs.declared.Scheme.TheVariants.{Quad, Oct}
use Rattle.implicit_tiling.specs.Limits.{most_levels, most_contents}
use Rattle.implicit_tiling.specs.Checks.{refuse}
use Rattle.implicit_tiling.specs.Tile.{axes, depth_of}
use Rattle.implicit_tiling.specs.Files.{Files}
use Rattle.implicit_tiling.specs.Region.{Region, Plan, region_of, some_axis}
use Rattle.implicit_tiling.specs.Request.{Line, line_of, plan_of_line, planned, three}
use Rattle.implicit_tiling.specs.Scene.{Layout, Scene}
use Rattle.implicit_tiling.specs.Answer.{answer}
use Rattle.implicit_tiling.specs.Code.{tile_word}
use Rattle.implicit_tiling.specs.Text.{words_text, answer_text, text_of}
use Rattle.implicit_tileset.specs.Scene.{scene_of}
use Rattle.implicit_tiling.proofs.Tables.{refuse-good}
use Rattle.walk_laws.specs.Plans.{FitsLayout}
use Rattle.walk_laws.proofs.Regions.{accepted_is_a_region}
use Rattle.tile_coords.specs.declared.walk_end.WalkEnd.{WalkEnd}
use Rattle.tile_coords.specs.Ends.{end_seen}
use Rattle.tileset_json.specs.Limits.{IsWithinLimits}
use Rattle.tile_word.specs.Answers.{IsAnswer}
use Rattle.subtree_outcome.specs.Found.{AreTilesOf, EndsWithin}
use Rattle.request_text.proofs.Words.{words_make_the_text}
use Rattle.batch_blocks.specs.declared.reply.Reply.{Reply}
use Rattle.batch_blocks.specs.declared.reply.Reply.TheVariants.{Refused, ReadFault, Whole}
use Rattle.batch_blocks.specs.Blocks.{plan_in, IsTextOfLine, IsAnswerText}
use Rattle.batch_blocks.specs.Replies.{block_of, IsReplyTo, IsReplyToPlan}

-- the text by the words that were found is the text of the answer
pub text_is : (s : Scene) (region : Region) (words : List ℕ) (end : WalkEnd) → IsAnswer s region words end → region.level < most_levels s.layout.scheme → length s.layout.contents ≤ most_contents
    → words_text s.layout words (end_seen s.layout.scheme end) ≡ answer_text s (answer s region)
text_is s region words end is low few =
    ap (λ ws. words_text s.layout ws (end_seen s.layout.scheme end)) is.words_are
    ∙ ap (words_text s.layout (map (tile_word s) (answer s region).tiles)) is.end_is
    ∙ words_make_the_text s region low few

-- a region that a layout accepts is below the levels of its scheme
pub below_most : (layout : Layout) (plan : Plan) → FitsLayout layout plan → IsWithinLimits layout → plan.region.level < most_levels layout.scheme
below_most layout plan fits within =
    let below = (accepted_is_a_region layout.levels plan.region.level plan.region.lo plan.region.hi plan.region fits.accepted).1 in omega (arith, below, within.few_levels)

-- `Ok` of a region, with its type
abbrev ok_region : Region → Result Region ℕ
ok_region r = Ok r

planned_is : (scheme : Scheme) (r : Result Region ℕ) (plan : Plan) → planned scheme r ≡ Ok plan → (r ≡ Ok plan.region) × (plan.scheme ≡ scheme)
planned_is scheme (Ok region) plan h =
    let made : Plan = record { scheme = scheme; region = region } in
    let same : made ≡ plan = cc in (ap (λ (p : Plan). ok_region p.region) same, sym (ap (λ (p : Plan). p.scheme) same))
planned_is scheme (Err n) plan h = cc

-- an accepted region is the one of its level and box
region_is : (levels level : ℕ) (lo hi : List ℕ) (region : Region) → region_of levels level lo hi ≡ Ok region → record { level = level; lo = lo; hi = hi } ≡ region
region_is levels level lo hi region h =
    let made : Region = record { level = level; lo = lo; hi = hi } in
    let one = refuse-good 1 (nat_le levels level) _ region h in
    let two = refuse-good 2 (some_axis (λ axis. nat_lt (slice_index hi axis) (slice_index lo axis))) _ region one.1 in
    let three = refuse-good 3 (some_axis (λ axis. nat_le (2 ^ level) (slice_index hi axis))) (Ok made) region two.1 in
    let last : ok_region made ≡ ok_region region = three.1 in cc

accepted_again : (levels level : ℕ) (lo hi : List ℕ) (region : Region) → region_of levels level lo hi ≡ Ok region → region_of levels region.level region.lo region.hi ≡ Ok region
accepted_again levels level lo hi region h =
    let P : Region → Type 0 = λ r. region_of levels r.level r.lo r.hi ≡ Ok region in subst P (region_is levels level lo hi region h) h

-- a list of as many numbers as the scheme has axes is flat where the scheme is
flat : (scheme : Scheme) (cs : List ℕ) → (length cs == axes scheme) ≡ true → slice_index (three cs) 2 ≡ depth_of scheme (slice_index (three cs) 2)
flat Oct cs h = refl
flat Quad [] h = refl
flat Quad (x ∷ []) h = refl
flat Quad (x ∷ y ∷ []) h = refl
flat Quad (x ∷ y ∷ z ∷ more) h = absurd (omega (arith, eqb-true _ _ h))

not_false : (b : Bool) → not b ≡ false → b ≡ true
not_false true h = refl
not_false false h = cc

flat_at : (scheme : Scheme) (cs box : List ℕ) → three cs ≡ box → (length cs == axes scheme) ≡ true → slice_index box 2 ≡ depth_of scheme (slice_index box 2)
flat_at scheme cs box same h = let P : List ℕ → Type 0 = λ b. slice_index b 2 ≡ depth_of scheme (slice_index b 2) in subst P same (flat scheme cs h)

-- the plan of a line fits the layout
pub plan_fits : (layout : Layout) (read : Option Line) (plan : Plan) → plan_of_line layout.scheme layout.levels read ≡ Ok plan → FitsLayout layout plan
plan_fits layout None plan h = cc
plan_fits layout (Some line) plan h =
    let axes_fit = refuse-good 2 (not (length line.lo == axes layout.scheme && length line.hi == axes layout.scheme)) _ plan h in
    let both = and_parts _ _ (not_false _ axes_fit.0) in
    let made = planned_is layout.scheme (region_of layout.levels line.level (three line.lo) (three line.hi)) plan axes_fit.1 in
    let is = region_is layout.levels line.level (three line.lo) (three line.hi) plan.region made.0 in
    record {
      same_scheme = made.1;
      flat_lo = flat_at layout.scheme line.lo plan.region.lo (ap (λ (r : Region). r.lo) is) both.0;
      flat_hi = flat_at layout.scheme line.hi plan.region.hi (ap (λ (r : Region). r.hi) is) both.1;
      accepted = accepted_again layout.levels line.level (three line.lo) (three line.hi) plan.region made.0;
    }

-- ---- replies to lines

answer_text_is : (told : Option Files) (layout : Layout) (plan : Plan) (words : List ℕ) (end : WalkEnd) → FitsLayout layout plan → IsWithinLimits layout → AreTilesOf layout words
    → EndsWithin layout end → IfSome told (λ all. IsAnswer (scene_of all layout) plan.region words end)
    → IsAnswerText told layout plan (words_text layout words (end_seen layout.scheme end))
answer_text_is (Some all) layout plan words end fits within tiles ends is = text_is (scene_of all layout) plan.region words end is (below_most layout plan fits within) within.few_contents
answer_text_is None layout plan words end fits within tiles ends is = (words, end, tiles, ends, refl)

-- a reply to a plan is one to each line that is read to it
pub reply_to_line : (told : Option Files) (layout : Layout) (line : List ℕ) (plan : Plan) (reply : Reply) → plan_in layout line ≡ Ok plan → IsWithinLimits layout
    → IsReplyToPlan told layout plan reply → IsReplyTo told layout line reply
reply_to_line told layout line plan (Refused number) read within is = absurd is
reply_to_line told layout line plan ReadFault read within is = record {
  of_layout = tt;
  block = subst (λ r. IsTextOfLine told layout r true (block_of layout line ReadFault).text) (sym read) refl;
}
reply_to_line told layout line plan (Whole end words) read within is = record {
  of_layout = (is.0, is.1);
  block = subst (λ r. IsTextOfLine told layout r false (words_text layout words.items (end_seen layout.scheme end))) (sym read)
      (answer_text_is told layout plan words.items end (plan_fits layout (line_of line) plan read) within is.0 is.1 is.2);
}

-- a refusal is the reply to a line that is refused so
pub refusal_of_line : (told : Option Files) (layout : Layout) (line : List ℕ) (number : ℕ) → plan_in layout line ≡ Err number → IsReplyTo told layout line (Refused number)
refusal_of_line told layout line number read = record {
  of_layout = tt;
  block = subst (λ r. IsTextOfLine told layout r false (block_of layout line (Refused number)).text) (sym read) (refl, refl);
}
