use Rattle.std.proofs.Common.{◌≡◌, codes, sym, rules}
use Rattle.std.specs.Prelude.{◌==◌, true}
use Rattle.uri_template.specs.Filling.{scheme_of, tile_of}
use Rattle.uri_template.proofs.Variables.{level_found, x_found, y_found, z_found}
use Rattle.uri_template.proofs.filling.variable.Goals as goal

pub returns-in-Some : goal.returns-in-Some
returns-in-Some c = (
  codes "level}",
  level_found (scheme_of c.args.axes) (tile_of c.args.level c.args.coords) c.args.text.now (sym c.in-Some.ensures.starts),
  c.in-Some.ensures.parts,
  c.in-Some.ensures.text,
)

pub returns-in-Some-behind_name : goal.returns-in-Some-behind_name
returns-in-Some-behind_name c = (
  codes "x}",
  x_found (scheme_of c.args.axes) (tile_of c.args.level c.args.coords) c.args.text.now (sym c.in_default.ensures.starts) (sym c.in-Some-behind_name.ensures.starts),
  c.in-Some-behind_name.ensures.parts,
  c.in-Some-behind_name.ensures.text,
)

pub returns-in-Some-behind_name-2 : goal.returns-in-Some-behind_name-2
returns-in-Some-behind_name-2 c = (
  codes "y}",
  y_found (scheme_of c.args.axes) (tile_of c.args.level c.args.coords) c.args.text.now (sym c.in_default.ensures.starts) (sym c.in_default-behind_name.ensures.starts)
      (sym c.in-Some-behind_name-2.ensures.starts),
  c.in-Some-behind_name-2.ensures.parts,
  c.in-Some-behind_name-2.ensures.text,
)

pub returns-in-Some-behind_name-3 : goal.returns-in-Some-behind_name-3
returns-in-Some-behind_name-3 c =
    let three : (c.args.axes == 3) ≡ true = search rules in (
      codes "z}",
      rw three (z_found (tile_of c.args.level c.args.coords) c.args.text.now (sym c.in_default.ensures.starts) (sym c.in_default-behind_name.ensures.starts)
          (sym c.in_default-behind_name-2.ensures.starts) (sym c.in-Some-behind_name-3.ensures.starts)),
      c.in-Some-behind_name-3.ensures.parts,
      c.in-Some-behind_name-3.ensures.text,
    )
