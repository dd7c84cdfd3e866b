use Rattle.std.proofs.Common.{◌∙◌, sym, rules, tests}
use Rattle.std.specs.List.{slice_get}
use Rattle.std.proofs.lemmas.Iterator.Adapters.{option_map_id}
use Rattle.std.proofs.lemmas.Iterator.Search.{find_from_yields_List}
use Rattle.frame_pool.specs.Frames.{is_free_frame}
use Rattle.frame_pool.proofs.Runs.{from_the_back}
use Rattle.frame_pool.proofs.victim.last_free.Goals as goal

pub returns : goal.returns
returns g c =
    sym (option_map_id c.find.result)
    ∙ find_from_yields_List (λ f. is_free_frame (slice_get c.args.census.now f)) _ _ c.find.result c.find.ensures.ran (from_the_back c.rev.result c.args.order.now (c.rev.ensures.source ∙ c.iter.ensures.rest)) (λ x b q k. search (rules, tests))
