use Rattle.hk_term.specs.Meaning.{value}
use Rattle.spec_tree.specs.View.{view_spec}
use Rattle.hk_symspec.specs.States.{state_at}
use Rattle.hk_oblig.proofs.Gathering.{same_fields}
use Rattle.hk_oblig.proofs.truths.agreement_at.Goals as goal

pub returns-clause-told : goal.returns-clause-told
returns-clause-told g c = λ v x y h k.
    same_fields (value c.fields_agree.new.t c.in_ok-made.made v) c.args.field (state_at (view_spec c.args.spec.now) c.args.t.now c.args.after.now v)
    (state_at (view_spec c.args.spec.now) c.args.t.now c.args.wanted.now v) x y (c.in_ok-made.ensures.value v h.steady k.steady) h.same k.same
