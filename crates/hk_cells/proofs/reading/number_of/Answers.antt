use Rattle.std.proofs.Common.{◌≡◌, Some, ◌+◌, ◌/◌, ◌%◌, ◌≤◌, length, ap, subst, sym, arith, ◌∙◌}
use Rattle.std.proofs.lemmas.List.FromFn.{length-map-range_with_len}
use Rattle.hk_term.specs.Meaning.{value}
use Rattle.ir_layout.specs.Bytes.{number_at}
use Rattle.hk_symmem.specs.Origins.{cell_byte}
use Rattle.hk_cells.specs.Growth.{selects_in}
use Rattle.hk_cells.specs.Multiples.{IsSeenMultiple}
use Rattle.hk_cells.specs.Parts.{IsKept}
use Rattle.hk_cells.proofs.PartLaws.{parts_count, divided_count, kept_width, constant_seen, cells_seen, origin_seen, no_cells, same_cells}
use Rattle.hk_cells.proofs.reading.number_of.Goals as goal

pub part_at-requires : goal.part_at-requires
part_at-requires c = omega (arith, c.requires.object, divided_count c.args.reads.now c.args.parts.now c.requires.parts)

pub number_of_constant-requires-clause-object : goal.number_of_constant-requires-clause-object
number_of_constant-requires-clause-object c = omega (arith, c.requires.object, divided_count c.args.reads.now c.args.parts.now c.requires.parts, parts_count c.args.reads.now c.args.parts.now c.requires.parts)

pub number_of_cells-requires-clause-cell : goal.number_of_cells-requires-clause-cell
number_of_cells-requires-clause-cell c = subst IsKept c.in-Cells.is (kept_width c.args.reads.now c.args.parts.now c.args.object c.part_at.result c.requires.parts c.part_at.ensures)

pub returns-in_err-made-in-Constant-clause-few : goal.returns-in_err-made-in-Constant-clause-few
returns-in_err-made-in-Constant-clause-few c = λ size d e m s. absurd (no_cells c.args.reads.now c.args.parts.now c.args.object size d c.requires.parts (c.part_at.ensures ∙ ap Some c.in-Constant.is) e)

pub returns-in_ok-made-in-Constant-clause-few : goal.returns-in_ok-made-in-Constant-clause-few
returns-in_ok-made-in-Constant-clause-few c = λ size d e m s. absurd (no_cells c.args.reads.now c.args.parts.now c.args.object size d c.requires.parts (c.part_at.ensures ∙ ap Some c.in-Constant.is) e)

pub returns-in_ok-made-in-Constant-clause-value : goal.returns-in_ok-made-in-Constant-clause-value
returns-in_ok-made-in-Constant-clause-value c = λ v.
    subst (λ b. value c.args.t.now c.args.offset v + c.args.bytes ≤ length b → value c.number_of_constant.new.t c.in_ok-made-in-Constant.made v ≡ number_at c.args.bytes (value c.args.t.now c.args.offset v) b)
    (sym (constant_seen c.args.reads.now c.args.parts.now v.entry c.args.object c.requires.parts (c.part_at.ensures ∙ ap Some c.in-Constant.is))) (c.in_ok-made-in-Constant.ensures.value v)

pub returns-in_err-made-in-Cells-clause-few : goal.returns-in_err-made-in-Cells-clause-few
returns-in_err-made-in-Cells-clause-few c = λ s d e m seen.
    let own = origin_seen c.args.reads.now c.args.parts.now c.args.object _ _ c.requires.parts (c.part_at.ensures ∙ ap Some c.in-Cells.is) in
    subst (λ d. c.args.bytes % d ≡ 0 → IsSeenMultiple c.args.t.now d c.args.offset → selects_in c.number_of_cells.new.t ≤ selects_in c.args.t.now + c.args.bytes / d)
    (same_cells _ _ s d (sym own ∙ e)).1 c.number_of_cells.ensures.few m seen

pub returns-in_ok-made-in-Cells-clause-few : goal.returns-in_ok-made-in-Cells-clause-few
returns-in_ok-made-in-Cells-clause-few c = λ s d e m seen.
    let own = origin_seen c.args.reads.now c.args.parts.now c.args.object _ _ c.requires.parts (c.part_at.ensures ∙ ap Some c.in-Cells.is) in
    subst (λ d. c.args.bytes % d ≡ 0 → IsSeenMultiple c.args.t.now d c.args.offset → selects_in c.number_of_cells.new.t ≤ selects_in c.args.t.now + c.args.bytes / d)
    (same_cells _ _ s d (sym own ∙ e)).1 c.number_of_cells.ensures.few m seen

pub returns-in_ok-made-in-Cells-clause-value : goal.returns-in_ok-made-in-Cells-clause-value
returns-in_ok-made-in-Cells-clause-value c = λ v.
    subst (λ b. value c.args.t.now c.args.offset v + c.args.bytes ≤ length b → value c.number_of_cells.new.t c.in_ok-made-in-Cells.made v ≡ number_at c.args.bytes (value c.args.t.now c.args.offset v) b)
    (sym (cells_seen c.args.reads.now c.args.parts.now v.entry c.args.object _ _ c.requires.parts (c.part_at.ensures ∙ ap Some c.in-Cells.is)))
    (λ there. c.in_ok-made-in-Cells.ensures.value v (subst (λ n. value c.args.t.now c.args.offset v + c.args.bytes ≤ n) (length-map-range_with_len (cell_byte _ (v.entry c.args.object)) 0 _) there))
