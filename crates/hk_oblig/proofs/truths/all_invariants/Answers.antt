use Rattle.hk_symvalue.specs.Meaning.{is_true}
use Rattle.spec_tree.specs.View.{view_spec}
use Rattle.spec_tree.specs.Meaning.{invariant_holds}
use Rattle.hk_oblig.proofs.Gathering.{whole_told}
use Rattle.hk_oblig.proofs.truths.all_invariants.Goals as goal

pub returns-clause-told : goal.returns-clause-told
returns-clause-told g c = λ v m h.
    whole_told c.invariant_terms.new.t v c.in_ok-each.each c.as_slice.result.now (view_spec c.args.spec.now).invariants (λ n. invariant_holds (view_spec c.args.spec.now) n m)
    (is_true c.conjunction.new.t c.in_ok-all.all v) c.as_slice.ensures (c.in_ok-each.ensures.told v m h) (c.in_ok-all.ensures.value v)
