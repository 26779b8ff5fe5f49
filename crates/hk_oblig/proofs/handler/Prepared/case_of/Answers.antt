use Rattle.std.proofs.Common.{◌≡◌, subst}
use Rattle.hk_term.specs.Meaning.{reading_of}
use Rattle.spec_tree.specs.View.{view_spec}
use Rattle.hk_oblig.specs.Cases.{case_at}
use Rattle.hk_oblig.specs.Asking.{PreparedView}
use Rattle.hk_oblig.proofs.handler.Prepared.case_of.Goals as goal

pub returns-clause-case : goal.returns-clause-case
returns-clause-case c = λ t at.
    subst (λ (p : PreparedView). c.in_ok-case.case ≡ case_at p.origins (view_spec c.args.spec.now) t c.args.o (reading_of c.args.v.now)) c.self.view_is (c.in_ok-case.ensures.case t at)
