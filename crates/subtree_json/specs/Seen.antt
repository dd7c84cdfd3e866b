-- Availabilities of the program, seen as those of the definitions (this project's own).
use Rattle.implicit_tileset.specs.Record.{Availability as availability, constant, stream, ContentPart as content_part}
use Rattle.implicit_tileset.specs.Record.{well_formed, malformed}
use Rattle.subtree_json.specs.declared.part.Availability.{Availability}
use Rattle.subtree_json.specs.declared.part.Availability.TheVariants.{Constant, Stream}
use Rattle.subtree_json.specs.declared.part.ContentPart.{ContentPart}
use Rattle.subtree_json.specs.declared.part.ContentPart.TheVariants.{Good, Malformed}

abbrev pub availability_seen : Availability → availability
availability_seen (Constant b) = constant b
availability_seen (Stream view count) = stream view count

abbrev pub content_seen : ContentPart → content_part
content_seen (Good a) = well_formed (availability_seen a)
content_seen Malformed = malformed
