use Rattle.std.proofs.Common.{None, refl, sym, subst}
use Rattle.ir_walk.specs.Walk.{on_return}
use Rattle.hk_symmem.specs.Guarded.{memory_at}
use Rattle.hk_symexec.specs.Seen.{seen}
use Rattle.hk_symexec.specs.Tracks.{Tracks}
use Rattle.hk_symexec.proofs.Following.{comes_back}
use Rattle.hk_symexec.proofs.Carrying.{memory_carried}
use Rattle.hk_symexec.proofs.returns.return_nothing.Goals as goal

pub returns-clause-tracks : goal.returns-clause-tracks
returns-clause-tracks g c = λ P f v line go e h.
    memory_carried c.args.t.now c.come_back.new.t c.in_ok-made.ensures.frame P f c.args.memory.now c.requires.over v go e (seen c.come_back.new.t v c.in_ok-made.made)
    (subst (λ s. Tracks P f s (memory_at c.args.t.now c.args.memory.now v) go e) (sym (c.in_ok-made.ensures.seen v))
    (comes_back P f (seen c.args.t.now v c.args.x) (memory_at c.args.t.now c.args.memory.now v) (λ rs m. on_return line rs m None) go e (λ rs. refl) h))
