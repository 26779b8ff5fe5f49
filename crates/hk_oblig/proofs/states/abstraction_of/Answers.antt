use Rattle.std.proofs.Common.{ap, ◌∙◌}
use Rattle.spec_tree.specs.View.{view_spec}
use Rattle.spec_tree.specs.Meaning.{abstraction}
use Rattle.hk_symspec.specs.Standing.{formula_base}
use Rattle.hk_oblig.proofs.states.abstraction_of.Goals as goal

pub returns-clause-told : goal.returns-clause-told
returns-clause-told g c = λ v m h. record {
  same = c.in_ok-state.ensures.value v ∙ ap (abstraction (view_spec c.args.spec.now)) h.same;
  steady = c.in_ok-state.ensures.steady formula_base v h.steady;
}
