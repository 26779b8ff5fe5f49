use Rattle.std.proofs.Common.{sym, subst}
use Rattle.hk_symvalue.specs.Meaning.{is_true}
use Rattle.hk_symstep.specs.Held.{held_meaning}
use Rattle.ir_machine.specs.Step.{with_result}
use Rattle.hk_symexec.specs.Seen.{seen}
use Rattle.hk_symexec.specs.Tracks.{Tracks, Splits}
use Rattle.hk_symexec.proofs.Kept.{held_same}
use Rattle.hk_symexec.proofs.Following.{sticks}
use Rattle.hk_symexec.proofs.settle.settle_sets.Goals as goal

pub returns-clause-tracks : goal.returns-clause-tracks
returns-clause-tracks c = λ P f v memory go one e split h.
    let same = held_same c.args.t.now c.stick.new.t c.in_ok-stopped.ensures.frame c.args.held c.requires.held v in
    c.in_ok-made.ensures.tracks P f v memory go e
    (subst (λ s. Tracks P f s memory (λ rs m. go (with_result c.args.register (held_meaning c.stick.new.t v c.args.held) rs) m) e) (sym (c.in_ok-stopped.ensures.seen v))
    (sticks P f (seen c.args.t.now v c.args.x) memory one (λ rs m. go (with_result c.args.register (held_meaning c.stick.new.t v c.args.held) rs) m) e (is_true c.args.t.now c.args.stuck v)
    (λ rs g w fine. subst (λ k. Splits (is_true c.args.t.now c.args.stuck v) (one rs memory) (go (with_result c.args.register k rs) memory)) (sym same) (split rs w fine)) h))
