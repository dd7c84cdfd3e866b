-- For proofs and inner functions: what writing some availabilities adds (this project's own).
use Rattle.std.specs.Prelude.{◌≡◌, List, Bool, ◌++◌, length, map}
use Rattle.serde_json.specs.View.{view}
use Rattle.subtree_write.specs.Canonical.{streams_of, stream_bytes, view_values}
use Rattle.subtree_write.specs.declared.streams.Streams.{Streams}

-- a view for each that needs a bitstream, and its bytes
pub record Adds (old new : Streams) (availabilities : List (List Bool)) : Type 0 where
  pub views : map view new.views.items ≡ map view old.views.items ++ view_values (length old.bytes.items)
      (streams_of availabilities)
  pub bytes : new.bytes.items ≡ old.bytes.items ++ stream_bytes (streams_of availabilities)
