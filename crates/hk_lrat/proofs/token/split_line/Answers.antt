use Rattle.std.proofs.Common.{◌≤◌, length, sym, subst}
use Rattle.std.proofs.lemmas.List.{take_rest}
use Rattle.hk_cnf.proofs.Splits.{prefix-within, first-line, drop-nil}
use Rattle.hk_lrat.proofs.token.split_line.Goals as goal

pub split_at-requires : goal.split_at-requires
split_at-requires c = subst (λ n. n ≤ length c.args.text.now) (sym c.line_len.ensures) (prefix-within _ c.args.text.now)

pub returns-in-empty-clause-lines : goal.returns-in-empty-clause-lines
returns-in-empty-clause-lines c =
    first-line c.args.text.now c.split_at.result.0.now c.split_at.result.1.now c.split_at.result.1.now c.line_len.result c.requires c.line_len.ensures c.split_at.ensures.front c.split_at.ensures.back
    (drop-nil c.split_at.result.1.now c.in-empty.len_below)

pub returns-in-len1-up-clause-lines : goal.returns-in-len1-up-clause-lines
returns-in-len1-up-clause-lines c =
    first-line c.args.text.now c.split_at.result.0.now c.split_at.result.1.now _ c.line_len.result c.requires c.line_len.ensures c.split_at.ensures.front c.split_at.ensures.back
    (take_rest c.split_at.result.1.now 1)
