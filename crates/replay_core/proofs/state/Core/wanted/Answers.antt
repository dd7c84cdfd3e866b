use Rattle.std.proofs.Common.{◌≡◌, sym}
use Rattle.replay_core.proofs.Wanted.{loader_has_cursor, loader_goes, wanted_key, wanted_root}
use Rattle.replay_core.proofs.state.Core.wanted.Goals as goal

pub key_of-requires : goal.key_of-requires
key_of-requires c = loader_goes c.args.layout.now c.args.self.now c.args.pass c.in-Loads.field-0 c.in-Some-cursor.number c.in-Some.state c.requires (sym c.in-Some.ensures) c.in-Loads.is c.in-Some-cursor.is

pub returns-clause-key : goal.returns-clause-key
returns-clause-key c = wanted_key c.args.layout.now c.args.self.now c.args.pass c.in-Loads.field-0 c.in-Some-cursor.number c.key_of.result c.in-Some.state c.requires (sym c.in-Some.ensures) c.in-Loads.is c.in-Some-cursor.is c.key_of.ensures.next

pub returns-clause-root : goal.returns-clause-root
returns-clause-root c = wanted_root c.args.layout.now c.args.self.now c.args.pass c.in-Loads.field-0 c.in-Some-cursor.number c.key_of.result c.in-Some.state c.requires (sym c.in-Some.ensures) c.in-Loads.is c.in-Some-cursor.is c.key_of.ensures.next

pub unreachable-requires : goal.unreachable-requires
unreachable-requires c = loader_has_cursor c.args.layout.now c.args.self.now c.args.pass c.in-Loads.field-0 c.in-Some.state c.requires (sym c.in-Some.ensures) c.in-Loads.is c.in-None-cursor.is
