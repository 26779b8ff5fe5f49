use Rattle.std.proofs.Common.{◌≡◌, ℕ, ◌≤◌, ◌<◌, length, sym, subst, ◌∙◌, arith}
use Rattle.std.proofs.lemmas.Bool.{eqb-true, eqb-false}
use Rattle.hk_cnf.proofs.Splits.{prefix-within, no-word, first-word, word-shorter}
use Rattle.hk_cnf.proofs.text.next_word.Goals as goal

pub split_at-requires : goal.split_at-requires
split_at-requires c = subst (λ n. n ≤ length c.args.line.now) (sym c.blank_len.ensures) (prefix-within _ c.args.line.now)

pub returns-then-is_empty-clause-words : goal.returns-then-is_empty-clause-words
returns-then-is_empty-clause-words c =
    no-word c.args.returns c.args.line.now c.split_at.result.1.now c.blank_len.result c.blank_len.ensures c.split_at.ensures.back
    (eqb-true (length c.split_at.result.1.now) 0 (sym c.is_empty.ensures ∙ c.if-is_empty.true))

pub split_at-requires-2 : goal.split_at-requires-2
split_at-requires-2 c = subst (λ n. n ≤ length c.split_at.result.1.now) (sym c.word_len.ensures) (prefix-within _ c.split_at.result.1.now)

positive : (n : ℕ) → (n ≡ 0 → ⊥) → 0 < n
positive n h = omega arith

pub returns-clause-words : goal.returns-clause-words
returns-clause-words c =
    first-word c.args.returns c.args.line.now c.split_at.result.1.now c.split_at-2.result.0.now c.split_at-2.result.1.now c.blank_len.result c.word_len.result c.blank_len.ensures c.split_at.ensures.back
    (positive (length c.split_at.result.1.now) (eqb-false (length c.split_at.result.1.now) 0 (sym c.is_empty.ensures ∙ c.if-is_empty.false)))
    c.word_len.ensures c.split_at-2.ensures.front c.split_at-2.ensures.back

pub returns-clause-shorter : goal.returns-clause-shorter
returns-clause-shorter c =
    word-shorter c.args.returns c.args.line.now c.split_at.result.1.now c.split_at-2.result.1.now c.blank_len.result c.word_len.result c.blank_len.ensures c.split_at.ensures.back
    (positive (length c.split_at.result.1.now) (eqb-false (length c.split_at.result.1.now) 0 (sym c.is_empty.ensures ∙ c.if-is_empty.false)))
    c.word_len.ensures c.split_at-2.ensures.back
