use Rattle.std.proofs.Common.{sym, ◌∙◌}
use Rattle.std.proofs.lemmas.Bool.{eqb-true}
use Rattle.bitstream.proofs.Put.{bits_of_bytes-places, zeros_are_of_no_places}
use Rattle.bitstream.proofs.bits.Bits.of_places.Goals as goal

pub returns : goal.returns
returns c = bits_of_bytes-places c.in_ok-bytes.bytes.items c.args.count c.args.places.now c.in_ok-bytes.ensures

pub returns-then-is_empty : goal.returns-then-is_empty
returns-then-is_empty c = c.constant.ensures ∙ zeros_are_of_no_places c.args.count c.args.places.now (eqb-true _ 0 (sym c.if-is_empty.ensures))
