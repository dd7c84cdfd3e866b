-- Plans that fit a layout (this project's own).
use Rattle.std.specs.Prelude.{◌≡◌, ◌<◌, slice_index, Ok}
use Rattle.implicit_tiling.specs.Tile.{depth_of}
use Rattle.implicit_tiling.specs.Region.{Region, Plan, region_of}
use Rattle.implicit_tiling.specs.Scene.{Layout}
use Rattle.walk_laws.specs.Regions.{IsRegion}

-- the scheme is the layout's, in a quadtree the third places are 0, and the region is accepted
pub record FitsLayout (layout : Layout) (plan : Plan) : Type 0 where
  pub same_scheme : plan.scheme ≡ layout.scheme
  pub flat_lo : slice_index plan.region.lo 2 ≡ depth_of layout.scheme (slice_index plan.region.lo 2)
  pub flat_hi : slice_index plan.region.hi 2 ≡ depth_of layout.scheme (slice_index plan.region.hi 2)
  pub accepted : region_of layout.levels plan.region.level plan.region.lo plan.region.hi ≡ Ok plan.region

-- a region of the layout's levels
pub record IsRegionOf (layout : Layout) (region : Region) : Type 0 where
  pub is_region : IsRegion region
  pub below : region.level < layout.levels
