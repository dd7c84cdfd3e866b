-- For proofs and inner functions: the laws of the course of a walk (this project's own).
use Rattle.std.specs.Prelude.{ℕ, ◌<◌, ◌^◌, Option, Some, None, IfSome}
use Rattle.std.proofs.Common.{refl, arith}
use Rattle.implicit_tiling.specs.Scene.{Layout}
use Rattle.implicit_tiling.specs.Files.{Files}
use Rattle.implicit_tiling.specs.Region.{Region}
use Rattle.implicit_tileset.specs.Scene.{scene_of}
use Rattle.tile_coords.specs.declared.walk_end.WalkEnd.{WalkEnd}
use Rattle.tile_coords.specs.declared.walk_end.WalkEnd.TheVariants.{Partial, Complete, TooMany, Fault}
use Rattle.published_prefix.specs.Heads.{FitsFaultWord}
use Rattle.subtree_outcome.specs.Found.{EndsWithin}
use Rattle.walk_course.specs.Course.{IsAfter, IsHead}
use Rattle.walk_course.specs.declared.tag.WalkTag.{WalkTag}

pub few_steps : (tag : WalkTag) (made count : ℕ) (end : WalkEnd) → IsHead tag made count end → made < 2 ^ 45
few_steps tag made count end head = head.few_steps

end_fits : (layout : Layout) (end : WalkEnd) → EndsWithin layout end → FitsFaultWord end
end_fits layout Partial is = tt
end_fits layout Complete is = tt
end_fits layout TooMany is = tt
end_fits layout (Fault root number) is = (is.root.no_mask, omega (arith, is.most))

pub fault_fits : (tag : WalkTag) (made count : ℕ) (end : WalkEnd) → IsHead tag made count end → FitsFaultWord end
fault_fits tag made count end head = end_fits tag.layout end head.of_layout

at_the_beginning : (told : Option Files) (layout : Layout) (region : Region)
    → IfSome told (λ all. IsAfter (scene_of all layout) region 0 0 Partial)
at_the_beginning None layout region = tt
at_the_beginning (Some all) layout region = record { within = omega arith; count_is = refl; end_is = refl }

pub begins : (tag : WalkTag) → IsHead tag 0 0 Partial
begins tag = record {
  few_steps = omega arith;
  few_words = omega arith;
  in_region = omega arith;
  of_layout = tt;
  at_first = λ none. (refl, refl);
  of_steps = at_the_beginning tag.told tag.layout tag.region;
}
