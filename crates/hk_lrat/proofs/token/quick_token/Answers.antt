use Rattle.std.proofs.Common.{◌≡◌, get_or, rules, sym}
use Rattle.hk_lrat.proofs.Words.{natural-token, end-at, minus-at}
use Rattle.hk_lrat.proofs.token.quick_token.Goals as goal

pub returns-in-48-clause-token : goal.returns-in-48-clause-token
returns-in-48-clause-token c =
    let byte : get_or c.args.line.now 0 0 ≡ 48 = search rules in
    end-at c.args.line.now c.in-48.len_at_least byte (sym c.if-ends_word.ensures)

pub returns-in_ok-size-in-45-clause-token : goal.returns-in_ok-size-in-45-clause-token
returns-in_ok-size-in-45-clause-token c =
    let byte : get_or c.args.line.now 0 0 ≡ 45 = search rules in
    minus-at c.args.line.now c.in_ok-size-in-45.rest.now c.in_ok-size-in-45.size c.in-45.len_at_least byte c.in_ok-size-in-45.ensures

pub returns-in_ok-size-in_default-clause-token : goal.returns-in_ok-size-in_default-clause-token
returns-in_ok-size-in_default-clause-token c = natural-token c.args.line.now c.in_ok-size-in_default.rest.now c.in_ok-size-in_default.size c.in_ok-size-in_default.ensures
