use Rattle.std.proofs.Common.{sym, subst}
use Rattle.std.specs.List.{All}
use Rattle.std.proofs.lemmas.List.Elements.{All-push}
use Rattle.hk_cnf.specs.Literal.{IsWithin}
use Rattle.hk_settle_tests.proofs.product.literals.Goals as goal

pub loop-lit-preserved : goal.loop-lit-preserved
loop-lit-preserved c = λ n w.
    subst (λ ls. All (IsWithin n) ls) (sym c.in_ok-push.ensures.items)
    (All-push (IsWithin n) c.loop-lit.lits.items c.chosen.result (c.loop-lit.invariant n w) (c.chosen.ensures n (subst (IsWithin n) (sym c.lit-item.is) (w c.loop-lit.lit-index c.lit-item.result c.loop-lit-test.true))))
