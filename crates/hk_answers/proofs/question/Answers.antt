use Rattle.std.proofs.Common.{List, ℤ, All, sym, subst}
use Rattle.hk_cnf.specs.Literal.{IsWithin}
use Rattle.hk_answers.proofs.question.Goals as goal

pub require-requires : goal.require-requires
require-requires c =
    let vars = c.blast.new.gates.vars in
    subst (λ ls. All (IsWithin vars) ls) (sym c.as_slice.ensures.value)
    (c.in_ok-clause.ensures.within vars (c.in-Some.ensures.within c.equation.new.terms c.blast.new.gates c.blast.ensures.table))
