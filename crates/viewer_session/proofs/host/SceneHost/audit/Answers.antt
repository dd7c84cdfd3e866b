use Rattle.std.proofs.Common.{subst, nat_eq}
use Rattle.shared_pool.specs.Books.{HasFewKeys, IsFetchedOnce, all_entries}
use Rattle.viewer_session.specs.Sessions.{FramesHost}
use Rattle.viewer_session.proofs.host.SceneHost.audit.Goals as goal

pub returns-clause-fetched : goal.returns-clause-fetched
returns-clause-fetched g c =
    subst (λ (h : FramesHost). HasFewKeys nat_eq h.tag.frames (all_entries h.note.granted) → IsFetchedOnce nat_eq (all_entries h.note.granted)) c.self.view_is c.audit.ensures.fetched
