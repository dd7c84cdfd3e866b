-- The plans of a script's events fit the layout.
use Rattle.std.proofs.Common.{◌≡◌, ℕ, Bool, true, false, List, [], ◌∷◌, map, codes, Option, Some, None, refl, subst}
use Rattle.std.specs.Prelude.{nat_le, Result, Ok, Err, if◌then◌else◌}
use Rattle.std.specs.List.{join_with_byte}
use Rattle.std.specs.Str.{bytes_eq}
use Rattle.implicit_tiling.specs.Region.{Plan}
use Rattle.implicit_tiling.specs.Answer.{most_tiles}
use Rattle.implicit_tiling.specs.Request.{number, line_of, plan_of_line}
use Rattle.implicit_tiling.specs.Scene.{Layout}
use Rattle.request_text.specs.Input.{input_lines}
use Rattle.batch_blocks.proofs.Plans.{plan_fits}
use Rattle.replay_script.specs.declared.event.Event.{Event}
use Rattle.replay_script.specs.declared.event.Event.TheVariants.{Attach, Page, Bad}
use Rattle.replay_script.specs.Events.{with_read}
use Rattle.replay_script.specs.Script.{words_in, one_number, attached, attach_event, paged, page_event, passed, pass_event, event_of_words, event_of, script_of}
use Rattle.replay_core.specs.Core.{AsksFor}

-- the plan of an event fits the layout, before anything is read
abbrev Fits : Layout → Event (Unit {0}) → Type 0
Fits layout event = AsksFor layout (with_read event None)

asked_fits : (layout : Layout) (p : ℕ) (line : List ℕ) (asked : Result Plan ℕ) → plan_of_line layout.scheme layout.levels (line_of line) ≡ asked → Fits layout (Attach p asked)
asked_fits layout p line (Ok plan) is = plan_fits layout (line_of line) plan is
asked_fits layout p line (Err k) is = tt

attached_fits : (layout : Layout) (line : List ℕ) (pass : Option ℕ) → Fits layout (attached pass (plan_of_line layout.scheme layout.levels (line_of line)))
attached_fits layout line None = tt
attached_fits layout line (Some p) = asked_fits layout p line (plan_of_line layout.scheme layout.levels (line_of line)) refl

attach_fits : (layout : Layout) (words : List (List ℕ)) → Fits layout (attach_event layout.scheme layout.levels words)
attach_fits layout [] = tt
attach_fits layout (pass ∷ []) = tt
attach_fits layout (pass ∷ word ∷ words) = attached_fits layout (join_with_byte 32 (word ∷ words)) (number pass)

either_fits : (layout : Layout) (b : Bool) (one other : Event (Unit {0})) → Fits layout one → Fits layout other → Fits layout (if b then one else other)
either_fits layout true one other is_one is_other = is_one
either_fits layout false one other is_one is_other = is_other

paged_fits : (layout : Layout) (pass count : Option ℕ) → Fits layout (paged pass count)
paged_fits layout None count = tt
paged_fits layout (Some p) None = tt
paged_fits layout (Some p) (Some n) = either_fits layout (nat_le n most_tiles) (Page p n) Bad tt tt

page_fits : (layout : Layout) (words : List (List ℕ)) → Fits layout (page_event words)
page_fits layout [] = tt
page_fits layout (pass ∷ words) = paged_fits layout (number pass) (one_number words)

passed_fits : (layout : Layout) (name : List ℕ) (pass : Option ℕ) → Fits layout (passed name pass)
passed_fits layout name None = tt
passed_fits layout name (Some p) =
    either_fits layout (bytes_eq name (codes "claim")) _ _ tt
    (either_fits layout (bytes_eq name (codes "pin")) _ _ tt
    (either_fits layout (bytes_eq name (codes "load")) _ _ tt
    (either_fits layout (bytes_eq name (codes "fail")) _ _ tt
    (either_fits layout (bytes_eq name (codes "commit")) _ _ tt
    (either_fits layout (bytes_eq name (codes "drop")) _ _ tt tt)))))

named_fits : (layout : Layout) (words : List (List ℕ)) → Fits layout (event_of_words layout.scheme layout.levels words)
named_fits layout [] = tt
named_fits layout (name ∷ words) =
    either_fits layout (bytes_eq name (codes "attach")) (attach_event layout.scheme layout.levels words) _ (attach_fits layout words)
    (either_fits layout (bytes_eq name (codes "page")) (page_event words) (pass_event name words) (page_fits layout words) (passed_fits layout name (one_number words)))

no_first : (event : Event (Unit {0})) (rest : List (Event (Unit {0}))) → [] ≡ event ∷ rest → ⊥
no_first event rest is = cc

first_is : (one other : Event (Unit {0})) (rest more : List (Event (Unit {0}))) → one ∷ rest ≡ other ∷ more → one ≡ other
first_is one other rest more is = cc

first_fits : (layout : Layout) (lines : List (List ℕ)) (event : Event (Unit {0})) (rest : List (Event (Unit {0}))) → map (event_of layout.scheme layout.levels) lines ≡ event ∷ rest → Fits layout event
first_fits layout [] event rest is = absurd (no_first event rest is)
first_fits layout (line ∷ lines) event rest is = subst (Fits layout) (first_is _ _ _ _ is) (named_fits layout (words_in line))

-- the first event of an input that has one
pub next_fits : (layout : Layout) (input : List ℕ) (event : Event (Unit {0})) (rest : List (Event (Unit {0}))) → script_of layout.scheme layout.levels input ≡ event ∷ rest
    → AsksFor layout (with_read event None)
next_fits layout input event rest is = first_fits layout (input_lines input) event rest is
