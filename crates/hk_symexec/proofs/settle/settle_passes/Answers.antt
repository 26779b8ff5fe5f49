use Rattle.std.proofs.Common.{sym, subst}
use Rattle.hk_symvalue.specs.Meaning.{is_true}
use Rattle.hk_symexec.specs.Seen.{seen}
use Rattle.hk_symexec.specs.Tracks.{Tracks}
use Rattle.hk_symexec.proofs.Following.{sticks}
use Rattle.hk_symexec.proofs.settle.settle_passes.Goals as goal

pub returns-clause-tracks : goal.returns-clause-tracks
returns-clause-tracks c = λ P f v memory go one e split h.
    subst (λ s. Tracks P f s memory go e) (sym (c.in_ok-made.ensures.seen v))
    (sticks P f (seen c.args.t.now v c.args.x) memory one go e (is_true c.args.t.now c.args.stuck v) (λ rs g w fine. split rs w fine) h)
