use Rattle.std.proofs.Common.{subst}
use Rattle.hk_symstep.specs.Held.{held_meaning}
use Rattle.ir_machine.specs.Step.{with_result}
use Rattle.hk_symexec.specs.Seen.{seen}
use Rattle.hk_symexec.specs.Tracks.{Tracks}
use Rattle.hk_symexec.proofs.settle.set_result.Goals as goal

pub returns-in_ok-made-in-Some-clause-tracks : goal.returns-in_ok-made-in-Some-clause-tracks
returns-in_ok-made-in-Some-clause-tracks c = λ P f v memory go e h.
    c.in_ok-made-in-Some.ensures.tracks P f v memory go e
    (subst (λ r. Tracks P f (seen c.args.t.now v c.args.x) memory (λ rs m. go (with_result r (held_meaning c.args.t.now v c.args.held) rs) m) e) c.in-Some.is h)
