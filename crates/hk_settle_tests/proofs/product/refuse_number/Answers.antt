use Rattle.std.proofs.Common.{sym, subst}
use Rattle.std.specs.List.{All}
use Rattle.hk_cnf.specs.Literal.{IsWithin}
use Rattle.hk_settle_tests.proofs.product.refuse_number.Goals as goal

pub require-requires : goal.require-requires
require-requires c =
    let n = c.args.gates.now.vars in
    subst (λ ls. All (IsWithin n) ls) (sym c.as_slice-2.ensures.value)
    (c.in_ok-clause.ensures.within n (subst (λ ls. All (IsWithin n) ls) (sym c.as_slice.ensures.value) (c.in_ok-lits.ensures n c.requires)))
