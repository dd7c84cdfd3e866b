-- `survey`: the numbers of a generated tileset that is made in memory and walked (this project's own).
use Rattle.std.specs.Prelude.{ℕ, false, List, [], ◌∷◌, Some, Ok}
use Rattle.request_text.specs.Made.{survey_text}
use Rattle.tileset_make.specs.declared.recipe.Recipe.{Recipe}
use Rattle.tileset_make.specs.Recipes.{survey_of}
use Rattle.program_status.specs.declared.status.Status.{Status}
use Rattle.program_status.specs.declared.status.Status.TheVariants.{Done, WriteFault, Memory}
use Rattle.commands.specs.Promise.{Promise, LeavesAll, NeedsNoFile, PlaysNothing}
use Rattle.commands.specs.Replies.{Reply}

-- the most levels of a subtree of a survey
abbrev pub most_surveyed_levels : ℕ
most_surveyed_levels = 4

abbrev pub survey_reply : Recipe → Reply
survey_reply r = record {
  status = Done;
  text = survey_text (survey_of r).files (survey_of r).tiles
      (survey_of r).listed (survey_of r).contents (survey_of r).more;
}

abbrev pub survey_ends : List Status
survey_ends = Done ∷ WriteFault ∷ Memory ∷ []

abbrev pub survey_promise : Recipe → Promise
survey_promise r = record {
  reply = λ told. Some (Ok (survey_reply r));
  ends = survey_ends;
  reads = false;
  puts = false;
  takes = false;
  leaves = LeavesAll;
  first = NeedsNoFile;
  plays = PlaysNothing;
}
