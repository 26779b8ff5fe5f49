use Rattle.std.proofs.Common.{Some, refl, sym, ap, ◌∙◌, subst}
use Rattle.hk_term.specs.Meaning.{value}
use Rattle.ir_walk.specs.Walk.{Back, on_value}
use Rattle.hk_symvalue.specs.Meaning.{is_true, meaning}
use Rattle.hk_symstep.specs.Held.{value_meaning}
use Rattle.hk_symexec.specs.Seen.{seen}
use Rattle.hk_symexec.specs.Tracks.{Tracks}
use Rattle.hk_symexec.proofs.Kept.{meaning_kept}
use Rattle.hk_symexec.proofs.Following.{sticks, comes_with}
use Rattle.hk_symexec.proofs.Leading.{value_splits}
use Rattle.hk_symexec.proofs.returns.return_on.Goals as goal

pub returns-clause-tracks : goal.returns-clause-tracks
returns-clause-tracks c = λ P f v memory line go e h.
    subst (λ s. Tracks P f s memory go e) (sym (c.in_ok-made.ensures.seen v))
    (comes_with P f (seen c.stick.new.t v c.in_ok-known.known) memory (λ rs m. Back (Some (meaning c.args.t.now c.args.value v)) m) go e
    (value_meaning c.come_back_with.new.t v c.in_ok-made.made.value) (meaning c.args.t.now c.args.value v) (λ rs. refl)
    (λ on. c.in_ok-made.ensures.here v on ∙ ap Some (meaning_kept c.args.t.now c.stick.new.t c.in_ok-known.ensures.frame c.args.value c.requires.value v))
    (λ off x q. c.in_ok-made.ensures.kept v off x q)
    (subst (λ s. Tracks P f s memory (λ rs m. Back (Some (meaning c.args.t.now c.args.value v)) m) e) (sym (c.in_ok-known.ensures.seen v))
    (sticks P f (seen c.args.t.now v c.args.x) memory (λ rs m. on_value line m (Some (meaning c.args.t.now c.args.value v))) (λ rs m. Back (Some (meaning c.args.t.now c.args.value v)) m) e (is_true c.args.t.now c.args.value.poison v)
    (λ rs on w fine. value_splits line memory (is_true c.args.t.now c.args.value.poison v) (value c.args.t.now c.args.value.base v) (value c.args.t.now c.args.value.bits v)) h)))
