use Rattle.std.proofs.Common.{rules, ◌+◌, drop, sym, subst}
use Rattle.std.specs.Prelude.{slice_index_or}
use Rattle.hk_simplify.proofs.FormLaws.{grows-trans}
use Rattle.hk_term.specs.Meaning.{value}
use Rattle.spec_tree.specs.Sorted.{field_sorts, no_field}
use Rattle.spec_tree.specs.View.{view_spec}
use Rattle.hk_symspec.specs.Standing.{IsWriteOver}
use Rattle.hk_symspec.proofs.NameLaws.{part_at}
use Rattle.hk_symspec.specs.KeptLaws.{write_kept}
use Rattle.hk_symspec.proofs.OverlayLaws.{index_terms_kept, overlaid_on}
use Rattle.hk_symspec.proofs.overlay.behind_all.Goals as goal

pub behind_write-requires-clause-write : goal.behind_write-requires-clause-write
behind_write-requires-clause-write c =
    let fields = field_sorts (view_spec c.args.spec.now) in
    let over : IsWriteOver fields c.args.t.now c.w-item.result = subst (IsWriteOver fields c.args.t.now) (sym c.w-item.is) (c.requires.writes c.each.w-index c.w-item.result c.each-test.true) in
    write_kept fields c.args.t.now c.each.t c.w-item.result c.each.invariant.longer c.each.invariant.keeps_widths over

pub behind_write-requires-clause-index : goal.behind_write-requires-clause-index
behind_write-requires-clause-index c =
    index_terms_kept c.args.t.now c.each.t (slice_index_or (field_sorts (view_spec c.args.spec.now)) c.args.field no_field).keys c.args.index.now c.each.invariant.longer c.each.invariant.keeps_widths c.requires.index

pub each-preserved : goal.each-preserved
each-preserved c =
    let fields = field_sorts (view_spec c.args.spec.now) in
    let over : IsWriteOver fields c.args.t.now c.w-item.result = subst (IsWriteOver fields c.args.t.now) (sym c.w-item.is) (c.requires.writes c.each.w-index c.w-item.result c.each-test.true) in
    record {
      within = search rules;
      size = search rules;
      overlaid = λ v state long entry.
          overlaid_on fields c.args.t.now c.each.t v c.args.field (slice_index_or fields c.args.field no_field).keys c.args.index.now
          (drop c.each.w-index c.args.writes.now) (drop (c.each.w-index + 1) c.args.writes.now) c.w-item.result (value c.each.t c.each.made v) (value c.behind_write.new.t c.in_ok-made.made v) _
          (part_at c.args.writes.now c.each.w-index c.w-item.result c.w-item.is c.each-test.true) c.each.invariant.keeps_values over c.requires.index
          (λ s. c.in_ok-made.ensures.value v s) (c.each.invariant.overlaid v state long entry);
      keeps_widths = search rules;
      keeps_values = search rules;
      longer = search rules;
      grows = search (rules, grows-trans);
    }
