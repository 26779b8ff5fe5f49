use Rattle.std.proofs.Common.{sym, subst}
use Rattle.ir_value.specs.Pointers.{reach}
use Rattle.hk_term.specs.Meaning.{value}
use Rattle.hk_symvalue.specs.Meaning.{meaning}
use Rattle.hk_symvalue.specs.Rows.{Reaches}
use Rattle.hk_symvalue.proofs.PointerLaws.{reaches_unaligned}
use Rattle.hk_symvalue.proofs.pointers.reach_sticks.Goals as goal

pub returns-in_ok-always-clause-reaches : goal.returns-in_ok-always-clause-reaches
returns-in_ok-always-clause-reaches c = λ v.
    subst (λ s. Reaches s (reach (value c.args.t.now c.args.size v) (value c.args.t.now c.args.object_align v) c.args.bytes c.args.align (meaning c.args.t.now c.args.address v)))
    (sym (c.in_ok-always.ensures.value v)) (reaches_unaligned _ _ c.args.bytes _ c.args.align c.if-align-eq0.true)
