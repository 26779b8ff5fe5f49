use Rattle.std.proofs.Common.{◌≡◌, ◌||◌, rules}
use Rattle.hk_term.specs.Shape.{width}
use Rattle.hk_term.specs.Meaning.{value}
use Rattle.hk_symvalue.specs.Meaning.{is_true, meaning}
use Rattle.hk_symvalue.specs.Rows.{flagged, binary_sticks}
use Rattle.hk_symvalue.proofs.ValueLaws.{binary_answers}
use Rattle.hk_symvalue.proofs.rows.binary_of.Goals as goal

pub returns-clause-answers : goal.returns-clause-answers
returns-clause-answers c = λ v.
    let w = width c.args.t.now c.args.a.bits in
    let pa = is_true c.args.t.now c.args.a.poison v in
    let pb = is_true c.args.t.now c.args.b.poison v in
    let x = value c.args.t.now c.args.a.bits v in
    let y = value c.args.t.now c.args.b.bits v in
    let own = is_true c.of_numbers.new.t c.in_ok-row.row.poison v in
    let n = value c.of_numbers.new.t c.in_ok-row.row.bits v in
    let stuck : is_true c.number_of.new.t c.in_ok-stuck.stuck v ≡ binary_sticks c.args.kind w pa x pb y = search rules in
    let shows : meaning c.number_of.new.t c.in_ok-value.value v ≡ flagged ((pa || pb) || own) n = search rules in
    binary_answers c.args.flags c.args.kind w x y n pa pb own _ _ stuck shows (c.in_ok-row.ensures.row v)
