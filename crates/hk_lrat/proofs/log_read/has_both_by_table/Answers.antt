use Rattle.std.proofs.Common.{true, cond, neg_ℤ, subst, sym, ◌∙◌, ap}
use Rattle.std.specs.List.{list_any}
use Rattle.std.specs.Ordering.{int_eq}
use Rattle.hk_cnf.specs.Literal.{IsLiteral}
use Rattle.hk_lrat.proofs.Denied.{int_eq-flip}
use Rattle.hk_lrat.proofs.Spelling.{both-found, both-none, seen-more, literal-bits}
use Rattle.hk_lrat.proofs.log_read.has_both_by_table.Goals as goal

pub returns-then-contains : goal.returns-then-contains
returns-then-contains c =
    let bits = literal-bits c.number.result (neg_ℤ c.lit-item.result) (c.number.ensures.value ∙ c.negated.ensures.value) (subst IsLiteral c.negated.ensures.value c.number.ensures.literal) in
    both-found c.args.clause.now c.loop-lit.lit-index c.lit-item.result c.loop-lit-test.true c.lit-item.is
    (sym (c.loop-lit.invariant.0 (neg_ℤ c.lit-item.result))
    ∙ (ap (λ z. list_any (int_eq z) c.loop-lit.seen.keys) (sym bits)
    ∙ (sym c.contains.ensures ∙ c.if-contains.true)))

pub loop-lit-preserved : goal.loop-lit-preserved
loop-lit-preserved c =
    let bits = literal-bits c.number.result (neg_ℤ c.lit-item.result) (c.number.ensures.value ∙ c.negated.ensures.value) (subst IsLiteral c.negated.ensures.value c.number.ensures.literal) in
    let own = literal-bits c.number-in-loop-lit.result c.lit-item.result c.number-in-loop-lit.ensures.value c.negated.ensures.literal in (
      (λ k. seen-more c.args.clause.now c.loop-lit.lit-index c.lit-item.result k (list_any (int_eq k) c.loop-lit.seen.keys) (list_any (int_eq k) c.insert.new.self.keys) c.loop-lit-test.true c.lit-item.is (c.loop-lit.invariant.0 k)
          (c.in_ok-insert.ensures.updates.0 k
          ∙ (ap (λ z. cond (int_eq z k) true (list_any (int_eq k) c.loop-lit.seen.keys)) own
          ∙ ap (λ b. cond b true (list_any (int_eq k) c.loop-lit.seen.keys)) (int_eq-flip c.lit-item.result k)))),
      both-none c.args.clause.now c.loop-lit.lit-index c.lit-item.result c.loop-lit-test.true c.lit-item.is c.loop-lit.invariant.1
          (sym (c.loop-lit.invariant.0 (neg_ℤ c.lit-item.result))
          ∙ (ap (λ z. list_any (int_eq z) c.loop-lit.seen.keys) (sym bits)
          ∙ (sym c.contains.ensures ∙ c.if-contains.false))),
    )
