use Rattle.std.proofs.Common.{subst}
use Rattle.ir_walk.specs.Walk.{on_return}
use Rattle.hk_symmem.specs.Guarded.{memory_at}
use Rattle.hk_symexec.specs.Seen.{seen}
use Rattle.hk_symexec.specs.Tracks.{Tracks}
use Rattle.hk_symexec.proofs.returns.give_back.Goals as goal

pub returns-in_ok-made-in-None-clause-tracks : goal.returns-in_ok-made-in-None-clause-tracks
returns-in_ok-made-in-None-clause-tracks g c = λ P f v line go e h.
    c.in_ok-made-in-None.ensures.tracks P f v line go e
    (subst (λ o. Tracks P f (seen c.args.t.now v c.args.x) (memory_at c.args.t.now c.args.memory.now v) (λ rs m. on_return line rs m o) e) c.in-None.is h)

pub returns-in_ok-made-in-Some-clause-tracks : goal.returns-in_ok-made-in-Some-clause-tracks
returns-in_ok-made-in-Some-clause-tracks g c = λ P f v line go e h.
    c.in_ok-made-in-Some.ensures.tracks P f v line go e
    (subst (λ o. Tracks P f (seen c.args.t.now v c.args.x) (memory_at c.args.t.now c.args.memory.now v) (λ rs m. on_return line rs m o) e) c.in-Some.is h)
