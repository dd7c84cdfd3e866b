use Rattle.std.proofs.Common.{◌≡◌, length}
use Rattle.shared_pool.specs.Books.{HasFewKeys, IsFetchedOnce, all_entries}
use Rattle.shared_pool.proofs.Audits.{audited}
use Rattle.shared_pool.proofs.host.Host.audit.Goals as goal

pub returns-clause-fetched : goal.returns-clause-fetched
returns-clause-fetched g c =
    let f = c.take-shared.ensures.fits in
    let v = c.self.view_is in
    let full = coe 1 0 (k. length (v k).note.granted ≡ (v k).tag.passes) c.requires in
    coe 0 1 (k. HasFewKeys g.R.Key.PartialEq.eq (v k).tag.frames (all_entries (v k).note.granted) → IsFetchedOnce g.R.Key.PartialEq.eq (all_entries (v k).note.granted))
    (audited g.R.Key.PartialEq.eq g.R.PoolRule.fits c.self.inside.seat.tag f.0 c.take-shared.result f.3 f.1 c.self.inside.seat.note f.2 full)
