-- The test of two tiles.
use Rattle.std.proofs.Common.{◌≡◌, ap}
use Rattle.std.specs.Prelude.{◌&&◌, ◌==◌}
use Rattle.std.specs.Bool.{Decides}
use Rattle.std.proofs.lemmas.Bool.{and_parts, and_from, eqb-true, eq-eqb}
use Rattle.implicit_tiling.specs.Tile.{Tile}
use Rattle.tiling_laws.proofs.TileAt.{same_tile}
use Rattle.tile_occupancy.specs.Occupied.{is_same}

pub same_is_decided : (t u : Tile) → Decides (is_same t u) (t ≡ u)
same_is_decided t u = (
  λ test.
      let all = and_parts (t.level == u.level && t.x == u.x && t.y == u.y) (t.z == u.z) test in
      let three = and_parts (t.level == u.level && t.x == u.x) (t.y == u.y) all.0 in
      let two = and_parts (t.level == u.level) (t.x == u.x) three.0 in
      same_tile t u (eqb-true t.level u.level two.0) (eqb-true t.x u.x two.1) (eqb-true t.y u.y three.1) (eqb-true t.z u.z all.1),
  λ same.
      and_from (t.level == u.level && t.x == u.x && t.y == u.y) (t.z == u.z)
      (and_from (t.level == u.level && t.x == u.x) (t.y == u.y)
      (and_from (t.level == u.level) (t.x == u.x) (eq-eqb t.level u.level (ap (λ (v : Tile). v.level) same)) (eq-eqb t.x u.x (ap (λ (v : Tile). v.x) same)))
      (eq-eqb t.y u.y (ap (λ (v : Tile). v.y) same)))
      (eq-eqb t.z u.z (ap (λ (v : Tile). v.z) same)),
)
