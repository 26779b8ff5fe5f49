use Rattle.std.proofs.Common.{rules, ◌≡◌, ◌+◌, ◌-◌, ◌^◌, min, sum, map, ap, ◌∙◌, slice_index_or, arith}
use Rattle.ir_ast.specs.ProgramView.{view_module}
use Rattle.spec_tree.specs.View.{view_spec, view_field, view_transition}
use Rattle.hk_case.specs.Obligations as definition
use Rattle.spec_state.proofs.Turns.{found_at}
use Rattle.hk_exhaust.proofs.Facts.{one_layout}
use Rattle.hk_exhaust.proofs.counts.case_bits.Goals as goal

pub returns : goal.returns
returns c = λ l t laid found.
    let s = view_spec c.args.spec.now in
    let x = c.index-as_slice-h.result in
    let is : x ≡ slice_index_or c.args.spec.now.transitions c.args.h x = search rules in
    let same : view_transition x ≡ t = found_at view_transition c.args.spec.now.transitions c.args.h x t c.requires.there is found in
    let fields : s.fields ≡ map view_field c.as_slice-2.result.now = search rules in
    let objects = one_layout (view_module c.args.kernel.now) c.layout.result.now l c.checked-checked.ensures.facts c.layout.ensures laid in
    let states : min (c.bits_of_states-states.result + sum t.widths) (2 ^ 64 - 1) ≡ min (definition.case_bits l.objects s t c.args.o) (2 ^ 64 - 1) =
    c.bits_of_states-states.ensures s t fields ∙ ap (λ os. min (definition.case_bits os s t c.args.o) (2 ^ 64 - 1)) objects in
    let widths : c.bits_of_arguments.result ≡ min (sum t.widths) (2 ^ 64 - 1) = c.bits_of_arguments.ensures ∙ ap (λ ws. min (sum ws) (2 ^ 64 - 1)) (c.as_slice-3.ensures ∙ ap (λ u. u.widths) same) in
    let all : c.saturating_add.result ≡ min (c.bits_of_states-states.result + c.bits_of_arguments.result) (2 ^ 64 - 1) = search rules in
    omega (arith, states, widths, all)
