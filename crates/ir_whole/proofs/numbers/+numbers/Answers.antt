use Rattle.std.proofs.Common.{List, ℕ, ◌<◌, ◌≤◌, ◌+◌, ◌∙◌, length, sym, ap, subst, arith, drop, Some}
use Rattle.ir_ast.specs.View.{view_type, view_types, view_type_list}
use Rattle.ir_type.specs.Whole.{wholes_by}
use Rattle.ir_whole.specs.Heads.{types_by, RowFits, fields}
use Rattle.ir_whole.specs.Numbers.{fronted}
use Rattle.ir_whole.proofs.Distinct.{row_more}
use Rattle.ir_whole.proofs.RowLaws.{below_more, row_push, next_part, last_part, none_more, some_more, fronted_end}
use Rattle.ir_whole.proofs.numbers.+numbers.Goals as goal

pub row_in-returns-then-number-eq0-clause-parts : goal.row_in-returns-then-number-eq0-clause-parts
row_in-returns-then-number-eq0-clause-parts t c = λ s looks.
    none_more c.args.types.now c.args.numbers.now c.args.heads.now c.each.heads c.number_in.new.heads c.each.row.items c.in_ok-number.number
    (view_type_list c.args.parts.now) (view_types (drop c.each.part-index c.as_slice-items.result.now)) (view_types (drop (c.each.part-index + 1) c.as_slice-items.result.now)) (view_type c.part-item.result)
    c.each.invariant.grows c.in_ok-number.ensures.grows c.each.invariant.fits c.in_ok-number.ensures.number c.each.invariant.left
    (next_part c.as_slice-items.result.now c.each.part-index c.part-item.result c.each-test.true c.part-item.is)
    s looks c.if-number-eq0.true

pub row_in-each-preserved : goal.row_in-each-preserved
row_in-each-preserved t c =
    let longer : length c.each.heads ≤ length c.number_in.new.heads = c.in_ok-number.ensures.longer in
    let some : 0 < c.in_ok-number.number = omega (arith, c.if-number-eq0.false) in
    record {
      longer = omega (arith, longer, c.each.invariant.longer);
      some = omega (arith, longer, c.each.invariant.some);
      below = below_more (length c.each.heads) (length c.number_in.new.heads) c.args.numbers.now longer c.each.invariant.below;
      fits = subst (RowFits (length c.number_in.new.heads)) (sym {A = List ℕ} c.in_ok-push.ensures.items)
          (row_push (length c.number_in.new.heads) c.each.row.items c.in_ok-number.number (row_more (length c.each.heads) (length c.number_in.new.heads) c.each.row.items longer c.each.invariant.fits) some c.in_ok-number.ensures.within);
      grows = λ first g. c.in_ok-number.ensures.grows first (c.each.invariant.grows first g);
      left = λ s looks.
          some_more c.args.types.now c.args.numbers.now c.args.heads.now c.each.heads c.number_in.new.heads c.each.row.items c.in_ok-number.number
          (view_type_list c.args.parts.now) (view_types (drop c.each.part-index c.as_slice-items.result.now)) (view_types (drop (c.each.part-index + 1) c.as_slice-items.result.now)) (view_type c.part-item.result)
          c.each.invariant.grows c.in_ok-number.ensures.grows c.each.invariant.fits c.in_ok-number.ensures.number c.each.invariant.left
          (next_part c.as_slice-items.result.now c.each.part-index c.part-item.result c.each-test.true c.part-item.is)
          s looks some
          ∙ ap (λ row. fronted (types_by c.number_in.new.heads) row (wholes_by s (view_types (drop (c.each.part-index + 1) c.as_slice-items.result.now)))) (sym {A = List ℕ} c.in_ok-push.ensures.items);
    }

pub row_in-returns-clause-parts : goal.row_in-returns-clause-parts
row_in-returns-clause-parts t c = λ s looks.
    c.each.invariant.left s looks
    ∙ ap (λ ts. fronted (types_by c.each.heads) c.each.row.items (wholes_by s ts)) (last_part c.as_slice-items.result.now c.each.part-index c.each-test.false)
    ∙ fronted_end (types_by c.each.heads) c.each.row.items
    ∙ ap (λ row. Some (fields (types_by c.each.heads) row)) (sym c.new.ensures)
