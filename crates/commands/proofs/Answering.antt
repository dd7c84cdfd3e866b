-- What was told of files, as what is wanted; and plans that fit.
use Rattle.std.proofs.Common.{◌≡◌, ℕ, ◌<◌, ◌≤◌, Bool, true, false, List, [], ◌∷◌, length, refl, sym, ap, subst, ◌∙◌, arith, inl, inr, ◌⊎◌}
use Rattle.std.specs.Prelude.{Option, Some, None, IfSome, Result, Ok, Err, IsTrue, ◌↔◌, if◌then◌else◌, nat_lt, nat_le, not, ◌^◌, ◌==◌, ◌&&◌, slice_index, map}
use Rattle.std.specs.Io.KnownBytes.{Appends}
use Rattle.std.proofs.KnownBytes.{Appends-nil, Keeps-refl}
use Rattle.std.proofs.lemmas.Bool.{and_parts, eqb-true, false≢true}
use Rattle.std.proofs.Math.Nat.{suc-ne-zero}
use Rattle.implicit_tiling.specs.declared.Scheme.{Scheme}
use Rattle.implicit_tiling.specs.declared.Scheme.TheVariants.{Quad, Oct}
use Rattle.implicit_tiling.specs.Limits.{most_levels, most_contents}
use Rattle.implicit_tiling.specs.Tile.{Tile, axes, depth_of}
use Rattle.implicit_tiling.specs.Files.{Files}
use Rattle.implicit_tiling.specs.Region.{Region, Plan, region_of, some_axis}
use Rattle.implicit_tiling.specs.Request.{Line, plan_of_line, planned, three}
use Rattle.implicit_tiling.specs.Scene.{Layout, Scene}
use Rattle.implicit_tiling.specs.Answer.{End, complete, too_many, fault, answer}
use Rattle.implicit_tiling.specs.Steps.{ended}
use Rattle.implicit_tiling.specs.Checked.{checked}
use Rattle.implicit_tiling.specs.Text.{words_text, answer_text, checked_text}
use Rattle.implicit_tileset.specs.Scene.{scene_of}
use Rattle.scene_ports.specs.Output.{GivesFront}
use Rattle.tile_coords.specs.declared.walk_end.WalkEnd.{WalkEnd}
use Rattle.tile_coords.specs.declared.walk_end.WalkEnd.TheVariants.{Partial, Complete, TooMany, Fault}
use Rattle.tile_coords.specs.declared.walk_end.FoundFault.{FoundFault}
use Rattle.tile_coords.specs.declared.walk_end.CheckEnd.{CheckEnd}
use Rattle.request_text.specs.Found.{found_text, end_of_check}
use Rattle.tile_coords.specs.Found.{found_of}
use Rattle.tile_coords.specs.Ends.{end_seen}
use Rattle.tileset_json.specs.Limits.{IsWithinLimits}
use Rattle.implicit_tiling.proofs.Tables.{refuse-good}
use Rattle.walk_laws.proofs.Regions.{accepted_is_a_region}
use Rattle.subtree_outcome.proofs.Reading.{of_told}
use Rattle.request_text.proofs.Found.{found_make_the_text}
use Rattle.request_text.proofs.Words.{words_make_the_text}
use Rattle.program_status.specs.declared.status.Status.{Status}
use Rattle.program_status.specs.declared.status.Status.TheVariants.{Done, Faulted, Usage, BadLayout, ReadFault, WriteFault, InputFault, Memory, InputLong, ListenFault}
use Rattle.commands.specs.Commands.{Wish, promised}
use Rattle.commands.specs.Replies.{Reply, layout_wanted, reply_over, reply_in, Agrees, IsGiven, IsBegun, Replies}
use Rattle.commands.specs.Tiles.{end_status, walk_status, plan_reply, line_reply}
use Rattle.commands.specs.Check.{found_status, check_reply}
use Rattle.program_status.specs.Sets.{IsOneOf}
use Rattle.commands.specs.Replies.{early_ends}
use Rattle.walk_laws.specs.Plans.{FitsLayout}
use Rattle.tile_word.specs.Answers.{IsAnswer}
use Rattle.implicit_tiling.specs.Code.{tile_word}
use Rattle.tile_walk.specs.Checks.{IsCheck}

-- nothing was given, which is a front of any text
pub nothing_given : (before : Option (List ℕ)) (text : List ℕ) → GivesFront before before text
nothing_given before text = ([], text, refl, Appends-nil before)

-- the end of a walk, and the status of a text that tells of it
pub status_is : (scheme : Scheme) (end : WalkEnd) (e : End) → end_seen scheme end ≡ ended e → walk_status end ≡ end_status e
status_is scheme Partial e h = cc
status_is scheme Complete complete h = refl
status_is scheme Complete too_many h = cc
status_is scheme Complete (fault r n) h = cc
status_is scheme TooMany complete h = cc
status_is scheme TooMany too_many h = refl
status_is scheme TooMany (fault r n) h = cc
status_is scheme (Fault root number) complete h = cc
status_is scheme (Fault root number) too_many h = cc
status_is scheme (Fault root number) (fault r n) h = refl

-- the text by the words that were found is the text of the answer
text_is : (s : Scene) (region : Region) (words : List ℕ) (end : WalkEnd) → IsAnswer s region words end → region.level < most_levels s.layout.scheme → length s.layout.contents ≤ most_contents
    → words_text s.layout words (end_seen s.layout.scheme end) ≡ answer_text s (answer s region)
text_is s region words end is low few =
    ap (λ ws. words_text s.layout ws (end_seen s.layout.scheme end)) is.words_are
    ∙ ap (words_text s.layout (map (tile_word s) (answer s region).tiles)) is.end_is
    ∙ words_make_the_text s region low few

-- a region that a layout accepts is below the levels of its scheme
below_most : (layout : Layout) (plan : Plan) → FitsLayout layout plan → IsWithinLimits layout → plan.region.level < most_levels layout.scheme
below_most layout plan fits within =
    let below = (accepted_is_a_region layout.levels plan.region.level plan.region.lo plan.region.hi plan.region fits.accepted).1 in omega (arith, below, within.few_levels)

-- a text that was given whole, with the status of its end
given_replies : (wanted : Result Reply Status) (before now : Option (List ℕ)) (end : WalkEnd) → IsGiven wanted before now (walk_status end) → Replies wanted before now (walk_status end)
given_replies wanted before now Partial h = h
given_replies wanted before now Complete h = h
given_replies wanted before now TooMany h = h
given_replies wanted before now (Fault root number) h = h

pub told_replies : (told : Option Files) (layout : Layout) (plan : Plan) (words : List ℕ) (end : WalkEnd) (before now : Option (List ℕ)) (status : Status)
    → FitsLayout layout plan → IsWithinLimits layout → IfSome told (λ all. IsAnswer (scene_of all layout) plan.region words end)
    → Appends before now (words_text layout words (end_seen layout.scheme end)) → status ≡ walk_status end
    → IfSome told (λ all. Replies (Ok (plan_reply (scene_of all layout) (Ok plan))) before now status)
told_replies told layout plan words end before now status fits within answers given is =
    of_told told (λ all. IsAnswer (scene_of all layout) plan.region words end) (λ all. Replies (Ok (plan_reply (scene_of all layout) (Ok plan))) before now status) (λ all found.
    let s : Scene = scene_of all layout in
    let text = text_is s plan.region words end found (below_most layout plan fits within) within.few_contents in
    let whole : Appends before now (answer_text s (answer s plan.region)) = subst (Appends before now) text given in
    subst (Replies (Ok (plan_reply s (Ok plan))) before now) (sym is)
    (given_replies (Ok (plan_reply s (Ok plan))) before now end (status_is layout.scheme end (answer s plan.region).end found.end_is, whole))) answers

pub told_begun : (told : Option Files) (layout : Layout) (plan : Plan) (words : List ℕ) (end : WalkEnd) (before now : Option (List ℕ))
    → FitsLayout layout plan → IsWithinLimits layout → IfSome told (λ all. IsAnswer (scene_of all layout) plan.region words end)
    → GivesFront before now (words_text layout words (end_seen layout.scheme end))
    → IfSome told (λ all. IsBegun (Ok (plan_reply (scene_of all layout) (Ok plan))) before now)
told_begun told layout plan words end before now fits within answers front =
    of_told told (λ all. IsAnswer (scene_of all layout) plan.region words end) (λ all. IsBegun (Ok (plan_reply (scene_of all layout) (Ok plan))) before now) (λ all found.
    let s : Scene = scene_of all layout in
    subst (GivesFront before now) (text_is s plan.region words end found (below_most layout plan fits within) within.few_contents) front) answers

-- `Ok` of a region, with its type
abbrev ok_region : Region → Result Region ℕ
ok_region r = Ok r

planned_is : (scheme : Scheme) (r : Result Region ℕ) (plan : Plan) → planned scheme r ≡ Ok plan → (r ≡ Ok plan.region) × (plan.scheme ≡ scheme)
planned_is scheme (Ok region) plan h =
    let made : Plan = record { scheme = scheme; region = region } in
    let same : made ≡ plan = cc in (ap (λ (p : Plan). ok_region p.region) same, sym (ap (λ (p : Plan). p.scheme) same))
planned_is scheme (Err n) plan h = cc

-- an accepted region is the one of its level and box
region_is : (levels level : ℕ) (lo hi : List ℕ) (region : Region) → region_of levels level lo hi ≡ Ok region → record { level = level; lo = lo; hi = hi } ≡ region
region_is levels level lo hi region h =
    let made : Region = record { level = level; lo = lo; hi = hi } in
    let one = refuse-good 1 (nat_le levels level) _ region h in
    let two = refuse-good 2 (some_axis (λ axis. nat_lt (slice_index hi axis) (slice_index lo axis))) _ region one.1 in
    let three = refuse-good 3 (some_axis (λ axis. nat_le (2 ^ level) (slice_index hi axis))) (Ok made) region two.1 in
    let last : ok_region made ≡ ok_region region = three.1 in cc

accepted_again : (levels level : ℕ) (lo hi : List ℕ) (region : Region) → region_of levels level lo hi ≡ Ok region → region_of levels region.level region.lo region.hi ≡ Ok region
accepted_again levels level lo hi region h =
    let P : Region → Type 0 = λ r. region_of levels r.level r.lo r.hi ≡ Ok region in subst P (region_is levels level lo hi region h) h

-- a list of as many numbers as the scheme has axes is flat where the scheme is
flat : (scheme : Scheme) (cs : List ℕ) → (length cs == axes scheme) ≡ true → slice_index (three cs) 2 ≡ depth_of scheme (slice_index (three cs) 2)
flat Oct cs h = refl
flat Quad [] h = refl
flat Quad (x ∷ []) h = refl
flat Quad (x ∷ y ∷ []) h = refl
flat Quad (x ∷ y ∷ z ∷ more) h = absurd (omega (arith, eqb-true _ _ h))

not_false : (b : Bool) → not b ≡ false → b ≡ true
not_false true h = refl
not_false false h = cc

flat_at : (scheme : Scheme) (cs box : List ℕ) → three cs ≡ box → (length cs == axes scheme) ≡ true → slice_index box 2 ≡ depth_of scheme (slice_index box 2)
flat_at scheme cs box same h = let P : List ℕ → Type 0 = λ b. slice_index b 2 ≡ depth_of scheme (slice_index b 2) in subst P same (flat scheme cs h)

-- the plan of a line fits the layout
pub plan_fits : (layout : Layout) (read : Option Line) (plan : Plan) → plan_of_line layout.scheme layout.levels read ≡ Ok plan → FitsLayout layout plan
plan_fits layout None plan h = cc
plan_fits layout (Some line) plan h =
    let axes_fit = refuse-good 2 (not (length line.lo == axes layout.scheme && length line.hi == axes layout.scheme)) _ plan h in
    let both = and_parts _ _ (not_false _ axes_fit.0) in
    let made = planned_is layout.scheme (region_of layout.levels line.level (three line.lo) (three line.hi)) plan axes_fit.1 in
    let is = region_is layout.levels line.level (three line.lo) (three line.hi) plan.region made.0 in
    record {
      same_scheme = made.1;
      flat_lo = flat_at layout.scheme line.lo plan.region.lo (ap (λ (r : Region). r.lo) is) both.0;
      flat_hi = flat_at layout.scheme line.hi plan.region.hi (ap (λ (r : Region). r.hi) is) both.1;
      accepted = accepted_again layout.levels line.level (three line.lo) (three line.hi) plan.region made.0;
    }

-- the reply to a line is that to its plan, or its refusal
pub line_replies : (told : Option Files) (layout : Layout) (line : Line) (read : Result Plan ℕ) (before now : Option (List ℕ)) (status : Status)
    → read ≡ plan_of_line layout.scheme layout.levels (Some line) → IfSome told (λ all. Replies (Ok (plan_reply (scene_of all layout) read)) before now status)
    → IfSome told (λ all. Replies (Ok (line_reply (scene_of all layout) line)) before now status)
line_replies told layout line read before now status is h =
    let P : Result Plan ℕ → Type 0 = λ r. IfSome told (λ all. Replies (Ok (plan_reply (scene_of all layout) r)) before now status) in subst P is h

-- ---- before anything is given

pub nothing_begun : (wanted : Result Reply Status) (before : Option (List ℕ)) → IsBegun wanted before before
nothing_begun (Ok reply) before = nothing_given before reply.text
nothing_begun (Err status) before = Keeps-refl before

early_is : (of : Scene → Reply) (all : Files) (wanted : Result Layout Status) (status : Status) (before : Option (List ℕ)) → wanted ≡ Err status
    → IsGiven (reply_over of all wanted) before before status
early_is of all wanted status before is =
    let P : Result Layout Status → Type 0 = λ w. IsGiven (reply_over of all w) before before status in subst P (sym is) (refl, Keeps-refl before)

-- a layout that isn't there or is faulty ends the program with nothing given; a fetch ends with no write fault
early_replies : (of : Scene → Reply) (all : Files) (wanted : Result Layout Status) (status : Status) (before : Option (List ℕ)) → IsOneOf early_ends status → Agrees wanted (Err status)
    → Replies (reply_over of all wanted) before before status
early_replies of all wanted ReadFault before early agrees = Keeps-refl before
early_replies of all wanted Memory before early agrees = nothing_begun (reply_over of all wanted) before
early_replies of all wanted WriteFault before early agrees = absurd early
early_replies of all wanted (BadLayout number) before early agrees = early_is of all wanted (BadLayout number) before agrees
early_replies of all wanted Done before early agrees = absurd early
early_replies of all wanted Faulted before early agrees = absurd early
early_replies of all wanted Usage before early agrees = absurd early
early_replies of all wanted InputFault before early agrees = absurd early
early_replies of all wanted InputLong before early agrees = absurd early
early_replies of all wanted ListenFault before early agrees = absurd early

-- what is wanted of files that are told
pub told_wanted : (told : Option Files) (of : Scene → Reply) (P : Result Reply Status → Type 0) → IfSome told (λ all. P (reply_over of all (layout_wanted all))) → IfSome (reply_in of told) P
told_wanted None of P h = tt
told_wanted (Some all) of P h = h

pub told_early : (told : Option Files) (of : Scene → Reply) (status : Status) (before : Option (List ℕ)) → IsOneOf early_ends status
    → IfSome told (λ all. Agrees (layout_wanted all) (Err status)) → IfSome (reply_in of told) (λ wanted. Replies wanted before before status)
told_early told of status before early agrees = told_wanted told of (λ wanted. Replies wanted before before status)
    (of_told told (λ all. Agrees (layout_wanted all) (Err status)) (λ all. Replies (reply_over of all (layout_wanted all)) before before status)
    (λ all h. early_replies of all (layout_wanted all) status before early h) agrees)

-- the reply over the layout that was found is the one that is wanted
pub told_found : (told : Option Files) (of : Scene → Reply) (layout : Layout) (P : Result Reply Status → Type 0) → IfSome told (λ all. Agrees (layout_wanted all) (Ok layout))
    → IfSome told (λ all. P (Ok (of (scene_of all layout)))) → IfSome (reply_in of told) P
told_found None of layout P agrees h = tt
told_found (Some all) of layout P agrees h =
    let Q : Result Layout Status → Type 0 = λ w. P (reply_over of all w) in subst Q (sym agrees) h

-- a fact of what is wanted, whatever it is
pub of_wanted : (wanted : Option (Result Reply Status)) (P : Result Reply Status → Type 0) → ((w : Result Reply Status) → P w) → IfSome wanted P
of_wanted None P f = tt
of_wanted (Some w) P f = f w

-- where no device failed and there was memory, what is wanted was given whole
given_or_not : (w : Result Reply Status) (S K O X : Type 0) (before now : Option (List ℕ)) (status : Status) → Replies w before now status → (status ≡ ReadFault → S)
    → (status ≡ WriteFault → O ⊎ (X × K)) → (status ≡ Memory) ⊎ (S ⊎ (K ⊎ (O ⊎ IsGiven w before now status)))
given_or_not w S K O X before now Memory h read write = inl refl
given_or_not w S K O X before now ReadFault h read write = inr (inl (read refl))
given_or_not w S K O X before now WriteFault h read write = inr (inr (elim (write refl) [ inl out ↦ inr (inl out) | inr keep ↦ inl keep.1 ]))
given_or_not w S K O X before now status h read write = inr (inr (inr (inr h)))

all_given_or_not : (wanted : Option (Result Reply Status)) (S K O X : Type 0) (before now : Option (List ℕ)) (status : Status) → IfSome wanted (λ w. Replies w before now status)
    → (status ≡ ReadFault → S) → (status ≡ WriteFault → O ⊎ (X × K)) → IfSome wanted (λ w. (status ≡ Memory) ⊎ (S ⊎ (K ⊎ (O ⊎ IsGiven w before now status))))
all_given_or_not None S K O X before now status h read write = tt
all_given_or_not (Some w) S K O X before now status h read write = given_or_not w S K O X before now status h read write

pub complete_of : (told : Option Files) (found : Option Wish) (wish : Wish) (S K O X : Type 0) (before now : Option (List ℕ)) (status : Status) → found ≡ Some wish
    → IfSome ((promised (Some wish)).reply told) (λ w. Replies w before now status) → (status ≡ ReadFault → S) → (status ≡ WriteFault → O ⊎ (X × K))
    → IfSome ((promised found).reply told) (λ w. (status ≡ Memory) ⊎ (S ⊎ (K ⊎ (O ⊎ IsGiven w before now status))))
complete_of told found wish S K O X before now status is replies read write =
    let P : Option Wish → Type 0 = λ o. IfSome ((promised o).reply told) (λ w. (status ≡ Memory) ⊎ (S ⊎ (K ⊎ (O ⊎ IsGiven w before now status)))) in
    subst P (sym is) (all_given_or_not ((promised (Some wish)).reply told) S K O X before now status replies read write)

-- what was given of what was found to be asked for
pub replies_of : (told : Option Files) (found : Option Wish) (wish : Wish) (before now : Option (List ℕ)) (status : Status) → found ≡ Some wish
    → IfSome ((promised (Some wish)).reply told) (λ w. Replies w before now status) → IfSome ((promised found).reply told) (λ w. Replies w before now status)
replies_of told found wish before now status is h = let P : Option Wish → Type 0 = λ o. IfSome ((promised o).reply told) (λ w. Replies w before now status) in subst P (sym is) h

-- a failed write of what was found to be asked for
pub failed_write_of : (found : Option Wish) (wish : Wish) (F O K : Type 0) → found ≡ Some wish → (F → O ⊎ (((promised (Some wish)).puts ≡ true) × K)) → F → O ⊎ (((promised found).puts ≡ true) × K)
failed_write_of found wish F O K is cause = let P : Option Wish → Type 0 = λ o. F → O ⊎ (((promised o).puts ≡ true) × K) in subst P (sym is) cause

-- ---- the check

pub empty_means : (n : ℕ) (b : Bool) → b ≡ (n == 0) → IsTrue b ↔ (n ≡ 0)
empty_means n b is = (λ yes. eqb-true n 0 (sym is ∙ yes), λ none. is ∙ ap (λ k. k == 0) none)

status_of_found : (scheme : Scheme) (faults : List (Tile × ℕ)) (seen : List FoundFault) (empty : Bool) (status : Status) → seen ≡ map (found_of scheme) faults
    → (IsTrue empty ↔ (length seen ≡ 0)) → status ≡ (if empty then Done else Faulted) → status ≡ found_status faults
status_of_found scheme [] seen true status are is e = e
status_of_found scheme [] seen false status are is e = absurd (false≢true (is.1 (ap length are)))
status_of_found scheme (f ∷ faults) seen true status are is e = absurd (suc-ne-zero (length (map (found_of scheme) faults)) (sym (ap length are) ∙ is.0 refl))
status_of_found scheme (f ∷ faults) seen false status are is e = e

-- the text of a check that was given whole, with its status
found_replies : (wanted : Result Reply Status) (before now : Option (List ℕ)) (faults : List (Tile × ℕ)) → IsGiven wanted before now (found_status faults) → Replies wanted before now (found_status faults)
found_replies wanted before now [] h = h
found_replies wanted before now (f ∷ faults) h = h

-- the text by the words that were found is the text of the check
check_text_is : (s : Scene) (found : List FoundFault) (end : CheckEnd) → IsCheck s found end → s.layout.levels ≤ most_levels s.layout.scheme
    → found_text s.layout.scheme found end ≡ checked_text s.layout.scheme (checked s)
check_text_is s found end is few =
    let end_is : end ≡ end_of_check (checked s) =
    ap (λ (n : ℕ). record { looked = n; more = end.more }) is.looked_is ∙ ap (λ (b : Bool). record { looked = length (checked s).looked; more = b }) is.more_is in
    ap (λ fs. found_text s.layout.scheme fs end) is.faults_are ∙ ap (found_text s.layout.scheme (map (found_of s.layout.scheme) (checked s).faults)) end_is ∙ found_make_the_text s few

pub told_checked : (told : Option Files) (layout : Layout) (found : List FoundFault) (end : CheckEnd) (empty : Bool) (status : Status) (before now : Option (List ℕ))
    → IsWithinLimits layout → IfSome told (λ all. IsCheck (scene_of all layout) found end) → Appends before now (found_text layout.scheme found end)
    → (IsTrue empty ↔ (length found ≡ 0)) → status ≡ (if empty then Done else Faulted)
    → IfSome told (λ all. Replies (Ok (check_reply (scene_of all layout))) before now status)
told_checked told layout found end empty status before now within checks given is_empty is =
    of_told told (λ all. IsCheck (scene_of all layout) found end) (λ all. Replies (Ok (check_reply (scene_of all layout))) before now status) (λ all h.
    let s : Scene = scene_of all layout in
    let whole : Appends before now (checked_text layout.scheme (checked s)) = subst (Appends before now) (check_text_is s found end h within.few_levels) given in
    let same : status ≡ found_status (checked s).faults = status_of_found layout.scheme (checked s).faults found empty status h.faults_are is_empty is in
    subst (Replies (Ok (check_reply s)) before now) (sym same) (found_replies (Ok (check_reply s)) before now (checked s).faults (refl, whole))) checks

pub told_check_begun : (told : Option Files) (layout : Layout) (found : List FoundFault) (end : CheckEnd) (before now : Option (List ℕ))
    → IsWithinLimits layout → IfSome told (λ all. IsCheck (scene_of all layout) found end) → GivesFront before now (found_text layout.scheme found end)
    → IfSome told (λ all. IsBegun (Ok (check_reply (scene_of all layout))) before now)
told_check_begun told layout found end before now within checks front =
    of_told told (λ all. IsCheck (scene_of all layout) found end) (λ all. IsBegun (Ok (check_reply (scene_of all layout))) before now) (λ all h.
    subst (GivesFront before now) (check_text_is (scene_of all layout) found end h within.few_levels) front) checks
