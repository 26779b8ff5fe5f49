use Rattle.std.proofs.Common.{[], sym, subst}
use Rattle.std.proofs.lemmas.List.Elements.{All-cons, All-nil}
use Rattle.hk_cnf.specs.Literal.{IsWithin}
use Rattle.hk_settle_tests.proofs.product.require_number.Goals as goal

pub require-requires : goal.require-requires
require-requires c =
    let i = c.loop-lit.invariant in
    All-cons (IsWithin c.loop-lit.gates.vars) c.lit-item.result [] (subst (λ n. IsWithin n c.lit-item.result) (sym i.vars) (subst (IsWithin c.args.gates.now.vars) (sym c.lit-item.is) (i.items c.loop-lit.lit-index c.lit-item.result c.loop-lit-test.true))) (All-nil (IsWithin c.loop-lit.gates.vars))
