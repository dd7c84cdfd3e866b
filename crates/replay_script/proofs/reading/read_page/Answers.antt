use Rattle.std.proofs.Common.{◌∙◌}
use Rattle.replay_script.proofs.Blanks.{page_without_count, page_read}
use Rattle.replay_script.proofs.reading.read_page.Goals as goal

pub returns-in-Some-read_number-2 : goal.returns-in-Some-read_number-2
returns-in-Some-read_number-2 c =
    c.page_of.ensures
    ∙ page_read c.args.rest.now c.in-Some.pass.now c.in-Some.count.now c.in-Some-read_number.pass c.in-Some-read_number-2.count c.in-Some.ensures
    c.in-Some-read_number.ensures c.in-Some-read_number-2.ensures

pub returns-in-None : goal.returns-in-None
returns-in-None c = page_without_count c.args.rest.now c.in-Some.pass.now c.in-Some.count.now c.in-Some.ensures c.in-None.ensures
