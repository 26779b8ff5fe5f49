use Rattle.std.proofs.Common.{◌≡◌, ◌||◌, rules}
use Rattle.hk_term.specs.Shape.{width}
use Rattle.hk_term.specs.Meaning.{value}
use Rattle.hk_symvalue.specs.Meaning.{is_true, meaning}
use Rattle.hk_symvalue.specs.Rows.{flagged}
use Rattle.hk_symvalue.proofs.PairLaws.{pair_answers}
use Rattle.hk_symvalue.proofs.pairs.pair_of.Goals as goal

pub returns-clause-answers : goal.returns-clause-answers
returns-clause-answers c = λ v.
    let old = c.args.t.now in
    let w = width old c.args.a.bits in
    let pa = is_true old c.args.a.poison v in
    let pb = is_true old c.args.b.poison v in
    let own = is_true c.pair_numbers.new.t c.in_ok-row.row.poison v in
    let n = value c.pair_numbers.new.t c.in_ok-row.row.bits v in
    let shows : meaning c.number_of.new.t c.in_ok-value.value v ≡ flagged ((pa || pb) || own) n = search rules in
    pair_answers c.args.kind w _ _ n pa pb own _ shows (c.in_ok-row.ensures.row v)
