use Rattle.std.proofs.Common.{◌≡◌, [], ◌∙◌, rules}
use Rattle.http_text.specs.declared.routes.Route.TheVariants.{NotFound}
use Rattle.http_text.specs.Targets.{line_in, line_on, query_of, route_of}
use Rattle.http_text.proofs.Served.{line_there}
use Rattle.http_text.proofs.targets.route.Goals as goal

pub returns-in_err-append_line-clause-memory : goal.returns-in_err-append_line-clause-memory
returns-in_err-append_line-clause-memory c =
    let served : c.route_of_path-route.result ≡ NotFound → ⊥ = search rules in
    let there = line_there c.route_of_path-route.result c.query.result.now c.in-Some.values served c.in-Some.ensures in
    let same : line_on c.route_of_path-route.result c.query.result.now ≡ line_on (route_of c.args.target.now) (query_of c.args.target.now) = search rules in
    let not_empty : line_in c.args.target.now ≡ [] → ⊥ = λ e. there (same ∙ e) in
    search (rules, not_empty)
