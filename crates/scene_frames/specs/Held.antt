-- What a pass knows that holds the outcome of a root, and what was granted and read for it (this project's own).
use Rattle.std.specs.Prelude.{◌≡◌, ◌⊎◌, ◌≤◌, ℕ, List, [], ◌∷◌, ◌++◌, Option, Some, None, slice_get}
use Rattle.implicit_tiling.specs.declared.Scheme.TheVariants.{Quad}
use Rattle.implicit_tiling.specs.Files.{Files}
use Rattle.implicit_tiling.specs.Scene.{Layout}
use Rattle.frame_pool.specs.declared.frame.FrameState.TheVariants.{Empty}
use Rattle.frame_pool.specs.Moves.{after_settle}
use Rattle.implicit_tiling.specs.Code.{word_tile}
use Rattle.scene_ports.specs.Counts.{more_by}
use Rattle.shared_pool.specs.declared.entry.Entry.TheVariants.{Granted, Ended}
use Rattle.shared_pool.specs.declared.note.Note.{Note}
use Rattle.shared_pool.specs.declared.shared.Shared.{Shared}
use Rattle.shared_pool.specs.declared.shared.PoolTag.{PoolTag}
use Rattle.shared_pool.specs.Books.{entered}
use Rattle.shared_pool.specs.Fits.{HasLoad}
use Rattle.shared_pool.specs.Seen.{Takes, Gives}
use Rattle.subtree_outcome.specs.declared.outcome.Outcome.{Outcome}
use Rattle.subtree_outcome.specs.declared.outcome.WalkStop.{WalkStop}
use Rattle.subtree_outcome.specs.declared.outcome.WalkStop.TheVariants.{ReadFault as walk_fault, Memory as walk_memory}
use Rattle.subtree_outcome.specs.Fetched.{HasFetched, most_fetches}
use Rattle.subtree_outcome.specs.Outcomes.{IsOutcomeOf}
use Rattle.scene_frames.specs.declared.held.HoldStop.{HoldStop}
use Rattle.scene_frames.specs.declared.held.HoldStop.TheVariants.{ReadFault, Memory}
use Rattle.scene_frames.specs.declared.rule.SceneTag.{SceneTag}

-- the outcome is that of the root's file, where the files are told, and else one that was read
abbrev pub Fits : SceneTag → ℕ → Outcome → Type 0
Fits tag key found = IsOutcomeOf tag.layout tag.told key found

-- any tag
abbrev pub no_scene : SceneTag
no_scene = record {
  told = None;
  layout = record { scheme = Quad; subtree_levels = 0; levels = 0; subtree = []; contents = [] };
}

abbrev pub hold_stop : WalkStop → HoldStop
hold_stop walk_fault = ReadFault
hold_stop walk_memory = Memory

-- the frames are those of a scene with this layout, whose source tells this
abbrev pub IsOfScene : Layout → Option Files → PoolTag SceneTag → Type 0
IsOfScene layout told tag = (tag.own.layout ≡ layout) × (tag.own.told ≡ told)

-- the pass has the outcome of the root pinned, and loads nothing
abbrev pub Pins : ℕ → Outcome → Note ℕ Outcome → Type 0
Pins key found note = (frame : ℕ) × (note.pin ≡ Some (record { frame = frame; key = key; value = found }))
    × (note.loading ≡ None)

-- the pass has a frame for the root, and pins nothing
abbrev pub Loads : ℕ → Note ℕ Outcome → Type 0
Loads key note = (note.pin ≡ None) × ((frame : ℕ) × (note.loading ≡ Some (record { frame = frame; key = key })))

-- a loading of the root ended without an outcome: its frame was found loading it, and is empty in the pool that was given
-- back last
abbrev pub HasEnded : ℕ → ℕ → PoolTag SceneTag → Option (Shared ℕ Outcome) → Option (Shared ℕ Outcome) → Type 0
HasEnded number key tag last gave = (frame : ℕ) × Takes tag last (λ x.
    HasLoad x.pool (record { frame = frame; key = key })
    × Gives gave (after_settle frame None x.pool) (x.log ++ Ended number key ∷ [])
    × (slice_get (after_settle frame None x.pool).census frame ≡ Some Empty))

-- An outcome that is held, by the notes and the counts of fetches before and after: nothing was granted and fetched; or a
-- frame was granted to the pass for the root, and the root's outcome was fetched
abbrev pub IsHeldBy : Layout → Option Files → ℕ → ℕ → Note ℕ Outcome → Note ℕ Outcome → ℕ → ℕ → Type 0
IsHeldBy layout told number key n m before after = ((m.granted ≡ n.granted) × (after ≡ before))
    ⊎ ((lost : Option ℕ) × (m.granted ≡ entered (Granted number key lost) n.granted)
    × HasFetched layout told (word_tile layout.scheme key ∷ []) before after)

-- The same where none is held: a frame that was granted was loaded without an outcome, by at most the most fetches of a
-- root
abbrev pub IsStoppedBy : Layout → ℕ → ℕ → Note ℕ Outcome → Note ℕ Outcome → ℕ → ℕ → Type 0
IsStoppedBy layout number key n m before after = ((m.granted ≡ n.granted) × (after ≡ before))
    ⊎ ((lost : Option ℕ) × (m.granted ≡ entered (Ended number key) (entered (Granted number key lost) n.granted))
    × (after ≤ more_by (most_fetches layout) before))
