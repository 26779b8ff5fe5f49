use Rattle.std.proofs.Common.{◌≡◌, ℕ, ◌≤◌, ◌<◌, length, sym, subst, ◌∙◌, ap, arith}
use Rattle.std.proofs.lemmas.Bool.{eqb-false}
use Rattle.hk_cnf.proofs.Splits.{prefix-within}
use Rattle.hk_lrat.specs.LogText.{is_skipped}
use Rattle.hk_cert_log.proofs.Fronts.{line-skipped, row-ended, row-last}
use Rattle.hk_cert_log.proofs.extent.row_end.Goals as goal

positive : (n : ℕ) → (n ≡ 0 → ⊥) → 0 < n
positive n h = omega arith

pub split_at-requires : goal.split_at-requires
split_at-requires c = subst (λ n. n ≤ length c.args.text.now) (sym c.line_len-length.ensures) (prefix-within _ c.args.text.now)

pub returns-then-is_skipped : goal.returns-then-is_skipped
returns-then-is_skipped c =
    line-skipped c.args.text.now c.line_len-length.result
    (positive (length c.args.text.now) (eqb-false (length c.args.text.now) 0 (sym c.is_empty.ensures ∙ c.if-is_empty.false)))
    c.line_len-length.ensures
    (ap is_skipped (sym c.split_at.ensures.front) ∙ (sym c.is_skipped.ensures ∙ c.if-is_skipped.true))

pub returns-then-length-text : goal.returns-then-length-text
returns-then-length-text c =
    row-ended c.args.text.now c.line_len-length.result
    (positive (length c.args.text.now) (eqb-false (length c.args.text.now) 0 (sym c.is_empty.ensures ∙ c.if-is_empty.false)))
    c.line_len-length.ensures c.if-length-text.true
    (ap is_skipped (sym c.split_at.ensures.front) ∙ (sym c.is_skipped.ensures ∙ c.if-is_skipped.false))

pub returns-else-length-text : goal.returns-else-length-text
returns-else-length-text c =
    row-last c.args.text.now c.line_len-length.result
    (positive (length c.args.text.now) (eqb-false (length c.args.text.now) 0 (sym c.is_empty.ensures ∙ c.if-is_empty.false)))
    c.line_len-length.ensures c.if-length-text.false
    (ap is_skipped (sym c.split_at.ensures.front) ∙ (sym c.is_skipped.ensures ∙ c.if-is_skipped.false))
