-- The axes of a scheme, and the scheme of so many axes.
use Rattle.std.proofs.Common.{◌≡◌, ◌≤◌, refl, lit≤}
use Rattle.implicit_tiling.specs.declared.Scheme.{Scheme}
use Rattle.implicit_tiling.specs.declared.Scheme.TheVariants.{Quad, Oct}
use Rattle.implicit_tiling.specs.Tile.{axes}
use Rattle.uri_template.specs.Filling.{scheme_of}

pub scheme_of-axes : (scheme : Scheme) → scheme_of (axes scheme) ≡ scheme
scheme_of-axes Quad = refl
scheme_of-axes Oct = refl

pub axes-bounds : (scheme : Scheme) → (2 ≤ axes scheme) × (axes scheme ≤ 3)
axes-bounds Quad = (lit≤ tt, lit≤ tt)
axes-bounds Oct = (lit≤ tt, lit≤ tt)
