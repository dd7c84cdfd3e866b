-- The text that stands ready, and how it is given.
use Rattle.std.proofs.Common.{◌≡◌, ◌∙◌, ℕ, List, [], ◌∷◌, ◌++◌, refl, sym, ap, subst}
use Rattle.std.specs.Prelude.{Option, Some, None, IfSome, IsSomeAnd, Result, Ok, Err, IfOk}
use Rattle.implicit_tiling.specs.Files.{Files}
use Rattle.implicit_tiling.specs.Region.{Plan}
use Rattle.implicit_tiling.specs.Request.{line_of}
use Rattle.implicit_tiling.specs.Scene.{Layout}
use Rattle.implicit_tiling.specs.Text.{words_text}
use Rattle.implicit_tileset.specs.Scene.{scene_of}
use Rattle.walk_laws.specs.Plans.{FitsLayout}
use Rattle.scene_ports.specs.Output.{GivesFront, GivesAllBut}
use Rattle.scene_ports.proofs.Giving.{all_but_then_front}
use Rattle.tile_coords.specs.declared.walk_end.WalkEnd.{WalkEnd}
use Rattle.tile_coords.specs.Ends.{end_seen}
use Rattle.tileset_json.specs.Limits.{IsWithinLimits}
use Rattle.tile_word.specs.Answers.{IsAnswer}
use Rattle.subtree_outcome.specs.Found.{AreTilesOf, EndsWithin}
use Rattle.scene_viewers.specs.Viewers.{ViewersSeen}
use Rattle.plan_registry.specs.Registries.{CursorSeen}
use Rattle.walk_course.specs.declared.tag.WalkTag.{WalkTag}
use Rattle.viewer_session.specs.declared.pass.Walked.TheVariants.{Whole}
use Rattle.viewer_session.specs.Sessions.{tag_in}
use Rattle.viewer_session.specs.Advances.{HasRead}
use Rattle.viewer_session.specs.Answers.{HasAnsweredOn}
use Rattle.http_front.specs.Table.{Answered, text as text_answer}
use Rattle.scene_viewers.specs.Replies.{HasAnswered, AnswersTiles}
use Rattle.batch_blocks.specs.Blocks.{plan_in, IsAnswerText}
use Rattle.batch_blocks.proofs.Plans.{text_is, below_most, plan_fits}

-- the words of an answer and its end make its text
pub answer_text_is : (told : Option Files) (layout : Layout) (plan : Plan) (words : List ℕ) (end : WalkEnd) → FitsLayout layout plan → IsWithinLimits layout → AreTilesOf layout words
    → EndsWithin layout end → IfSome told (λ all. IsAnswer (scene_of all layout) plan.region words end)
    → IsAnswerText told layout plan (words_text layout words (end_seen layout.scheme end))
answer_text_is (Some all) layout plan words end fits within tiles ends is = text_is (scene_of all layout) plan.region words end is (below_most layout plan fits within) within.few_contents
answer_text_is None layout plan words end fits within tiles ends is = (words, end, tiles, ends, refl)

-- a line that is read to a plan has one that fits the layout
pub read_fits : (layout : Layout) (line : List ℕ) (read : Result Plan ℕ) → read ≡ plan_in layout line → IfOk read (FitsLayout layout)
read_fits layout line (Ok plan) is = plan_fits layout (line_of line) plan (sym is)
read_fits layout line (Err number) is = tt

-- the text behind a start, by whatever words it is called
pub front_given : (before now next : Option (List ℕ)) (held start body text : List ℕ) → body ≡ text → GivesAllBut before now held (start ++ body) → GivesFront now next held
    → GivesFront before next (start ++ text)
front_given before now next held start body text is all front = subst (λ w. GivesFront before next (start ++ w)) is (all_but_then_front before now next held (start ++ body) all front)

pub text_same : (layout same : Layout) (words ws : List ℕ) (end : WalkEnd) → layout ≡ same → words ≡ ws
    → words_text layout words (end_seen layout.scheme end) ≡ words_text same ws (end_seen same.scheme end)
text_same layout same words ws end e f = ap (λ (l : Layout). words_text l words (end_seen l.scheme end)) e ∙ ap (λ w. words_text same w (end_seen same.scheme end)) f

pub text_of_view : {S : Type 0} {v w : ViewersSeen S} → v ≡ w → v.text ≡ w.text
text_of_view {S} {v} {w} is = ap (λ (u : ViewersSeen S). u.text) is

-- ---- an answer that is whole

-- what is answered where a text stands ready, by the viewers as they were
pub whole_answered : {S : Type 0} (told : S → Option Files) (faults fetches : S → ℕ) (plan : Plan) (before old new : ViewersSeen S) (words : List ℕ) (end : WalkEnd) (cursor : CursorSeen WalkTag) (answered : Answered)
    → before ≡ old → answered ≡ text_answer new.text → new.text ≡ words_text before.scene.tileset.layout words (end_seen before.scene.tileset.layout.scheme end) → new.kept ≡ Some cursor
    → FitsLayout old.scene.tileset.layout plan → IsWithinLimits old.scene.tileset.layout → AreTilesOf before.scene.tileset.layout words → EndsWithin before.scene.tileset.layout end
    → IfSome before.scene.tileset.told (λ all. IsAnswer (scene_of all before.scene.tileset.layout) plan.region words end)
    → HasAnsweredOn before.scene.tileset plan new.pass.walks.last new.pass.walks.gave end cursor → new.pass.walked ≡ before.pass.walked ++ Whole plan ∷ [] → faults new.files ≡ faults before.files
    → new.pass.frames.note.busies ≡ before.pass.frames.note.busies → HasRead (tag_in before.scene plan) before.pass.frames new.pass.frames (fetches before.files) (fetches new.files)
    → AnswersTiles told faults fetches plan old new answered
whole_answered {S} told faults fetches plan before old new words end cursor answered is ready text_is kept_is fits within tiles ends answer on walked sure busies read =
    let layout = before.scene.tileset.layout in
    let own_fits = subst (λ (o : ViewersSeen S). FitsLayout o.scene.tileset.layout plan) (sym is) fits in
    let own_within = subst (λ (o : ViewersSeen S). IsWithinLimits o.scene.tileset.layout) (sym is) within in
    let has : HasAnswered told faults fetches plan before new new.text = record {
      text = subst (IsAnswerText before.scene.tileset.told layout plan) (sym text_is) (answer_text_is before.scene.tileset.told layout plan words end own_fits own_within tiles ends answer);
      kept = subst (λ (k : Option (CursorSeen WalkTag)). IsSomeAnd k (λ c. (e : WalkEnd) × HasAnsweredOn before.scene.tileset plan new.pass.walks.last new.pass.walks.gave e c)) (sym kept_is) (end, on);
      walked = walked;
      sure = sure;
      busies = busies;
      read = read;
    } in
    subst (λ (o : ViewersSeen S). AnswersTiles told faults fetches plan o new answered) is (subst (AnswersTiles told faults fetches plan before new) (sym ready) has)
