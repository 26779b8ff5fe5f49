use Rattle.std.proofs.Common.{ap, ◌∙◌}
use Rattle.hk_term.specs.Meaning.{value}
use Rattle.spec_tree.specs.Value.{bit}
use Rattle.spec_tree.specs.View.{view_spec}
use Rattle.spec_tree.specs.Meaning.{property_holds}
use Rattle.hk_oblig.proofs.Gathering.{bit_is}
use Rattle.hk_oblig.proofs.truths.property_at.Goals as goal

pub returns-clause-told : goal.returns-clause-told
returns-clause-told g c = λ n at v x h.
    bit_is (value c.property_term.new.t c.in_ok-made.made v) (property_holds (view_spec c.args.spec.now) n x)
    (c.in_ok-made.ensures.value n at v h.steady ∙ ap (λ y. bit (property_holds (view_spec c.args.spec.now) n y)) h.same)
