use Rattle.std.proofs.Common.{rules, ◌≡◌, ◌≤◌, ◌-◌, ◌^◌, Some, min, slice_get, slice_index_or, ap, ◌∙◌, subst, arith}
use Rattle.ir_ast.specs.ProgramView.{view_module}
use Rattle.spec_tree.specs.View.{view_spec, view_transition}
use Rattle.hk_case.specs.Obligations.{case_bits}
use Rattle.hk_exhaust.specs.Answers.{Finds}
use Rattle.spec_state.proofs.Turns.{there_at, found_at}
use Rattle.hk_exhaust.proofs.Facts.{owed_by, objects_counted, one_layout, finds_in_all}
use Rattle.hk_exhaust.proofs.search.find_in_all.Goals as goal

pub count_of-count-requires : goal.count_of-count-requires
count_of-count-requires c =
    let s = view_spec c.args.spec.now in
    let x = c.index-as_slice-h.result in
    let is : x ≡ slice_index_or c.args.spec.now.transitions c.args.h x = search rules in
    let t = view_transition x in
    let there : slice_get s.transitions c.args.h ≡ Some t = there_at view_transition c.args.spec.now.transitions c.args.h x c.requires.there is in
    let l = c.layout-layout.result.now in
    let bits : c.case_bits-bits.result ≡ min (case_bits l.objects s t c.args.o) (2 ^ 64 - 1) = c.case_bits-bits.ensures l t c.layout-layout.ensures there in
    let few : case_bits l.objects s t c.args.o ≤ 16 = c.requires.few l t c.layout-layout.ensures there in
    omega (arith, bits, few)

pub find_among-requires-clause-handler : goal.find_among-requires-clause-handler
find_among-requires-clause-handler c =
    let x = c.index-as_slice-h.result in
    let is : x ≡ slice_index_or c.args.spec.now.transitions c.args.h x = search rules in
    record {
      sorted = c.requires.spec;
      there = there_at view_transition c.args.spec.now.transitions c.args.h x c.requires.there is;
      counted = c.objects-objects.ensures.count ∙ objects_counted (view_module c.args.kernel.now) (view_spec c.args.spec.now) c.layout-layout.result.now c.requires.fits c.layout-layout.ensures;
    }

pub find_among-requires-clause-owed : goal.find_among-requires-clause-owed
find_among-requires-clause-owed c =
    let x = c.index-as_slice-h.result in
    let is : x ≡ slice_index_or c.args.spec.now.transitions c.args.h x = search rules in
    owed_by c.args.spec.now (view_transition x) c.args.o (c.requires.obligation (view_transition x) (there_at view_transition c.args.spec.now.transitions c.args.h x c.requires.there is))

pub returns : goal.returns
returns c = λ l t laid found.
    let m = view_module c.args.kernel.now in
    let s = view_spec c.args.spec.now in
    let x = c.index-as_slice-h.result in
    let is : x ≡ slice_index_or c.args.spec.now.transitions c.args.h x = search rules in
    let u = view_transition x in
    let there : slice_get s.transitions c.args.h ≡ Some u = there_at view_transition c.args.spec.now.transitions c.args.h x c.requires.there is in
    let k = c.layout-layout.result.now in
    let bits : c.case_bits-bits.result ≡ min (case_bits k.objects s u c.args.o) (2 ^ 64 - 1) = c.case_bits-bits.ensures k u c.layout-layout.ensures there in
    let few : case_bits k.objects s u c.args.o ≤ 16 = c.requires.few k u c.layout-layout.ensures there in
    let same : c.case_bits-bits.result ≡ case_bits k.objects s u c.args.o = omega (arith, bits, few) in
    let count : c.count_of-count.result ≡ 2 ^ case_bits k.objects s u c.args.o = c.count_of-count.ensures ∙ ap (λ b. 2 ^ b) same in
    let answer = c.in_ok-find_among.field-0 in
    let here : Finds m k.objects s u c.args.o answer = finds_in_all m k.objects s u c.args.o c.count_of-count.result answer count c.in_ok-find_among.ensures in
    subst (λ os. Finds m os s t c.args.o answer) (one_layout m k l c.checked-checked.ensures.facts c.layout-layout.ensures laid)
    (subst (λ v. Finds m k.objects s v c.args.o answer) (found_at view_transition c.args.spec.now.transitions c.args.h x t c.requires.there is found) here)
