use Rattle.hk_symvalue.specs.Meaning.{is_true}
use Rattle.spec_tree.specs.View.{view_spec}
use Rattle.spec_tree.specs.Meaning.{property_holds}
use Rattle.hk_oblig.proofs.Gathering.{whole_told}
use Rattle.hk_oblig.proofs.truths.all_properties.Goals as goal

pub returns-clause-told : goal.returns-clause-told
returns-clause-told g c = λ v x h.
    whole_told c.property_terms.new.t v c.in_ok-each.each c.as_slice.result.now (view_spec c.args.spec.now).properties (λ n. property_holds (view_spec c.args.spec.now) n x)
    (is_true c.conjunction.new.t c.in_ok-all.all v) c.as_slice.ensures (c.in_ok-each.ensures.told v x h) (c.in_ok-all.ensures.value v)
