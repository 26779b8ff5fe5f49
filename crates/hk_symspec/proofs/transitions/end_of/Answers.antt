use Rattle.std.proofs.Common.{rules, ◌≡◌, ◌∙◌, ◌<◌, ◌^◌, List, ap, subst}
use Rattle.std.specs.Prelude.{option_map}
use Rattle.hk_term.specs.Shape.{width}
use Rattle.hk_term.specs.Meaning.{Reading, value}
use Rattle.spec_tree.specs.Value as tree
use Rattle.spec_tree.specs.Value.{Env, bit, holds}
use Rattle.spec_tree.specs.View.{view_expr, view_spec}
use Rattle.hk_symexpr.specs.declared.names.NamedTerm.{NamedTerm}
use Rattle.hk_symspec.specs.declared.write.EntryWrite.{EntryWrite}
use Rattle.hk_symspec.specs.Lines.{LineReads, line_context}
use Rattle.hk_symspec.proofs.NameLaws.{bit_of}
use Rattle.hk_symspec.proofs.LineLaws.{followed}
use Rattle.hk_symspec.proofs.transitions.end_of.Goals as goal

pub returns-in_err-number-clause-keeps : goal.returns-in_err-number-clause-keeps
returns-in_err-number-clause-keeps g c = followed c.args.t.now c.line_term.new.t c.result_term.new.t c.line_term.ensures.keeps c.result_term.ensures.keeps

pub returns-clause-keeps : goal.returns-clause-keeps
returns-clause-keeps g c = followed c.args.t.now c.line_term.new.t c.result_term.new.t c.line_term.ensures.keeps c.result_term.ensures.keeps

pub returns-clause-valid : goal.returns-clause-valid
returns-clause-valid g c = λ v env h.
    let s = view_spec c.args.setting.now.spec.now in
    let args = c.args.setting.now.args.now in
    let known = c.args.setting.now.known.now in
    let e = view_expr c.args.transition.now.valid in
    let t1 = c.line_term.new.t in
    let valid = c.in_ok-valid.valid in
    let one : width t1 valid ≡ 1 = search rules in
    let P : List NamedTerm → List EntryWrite → Type 0 = λ l w. (x : Reading) (y : Env) → LineReads s c.args.t.now c.args.setting.now.state.now args known l w x y → value t1 valid x ≡ tree.value (line_context s args l) y e in
    c.result_term.ensures.keeps.values valid c.in_ok-valid.ensures.within v
    ∙ bit_of (value t1 valid v) (subst (λ w. value t1 valid v < 2 ^ w) one (c.node-node.ensures.holds.below v))
    ∙ ap (λ n. bit (holds n))
    (subst (λ l. P l c.args.walked.now.writes.items) c.as_slice-locals.ensures.value (subst (P c.as_slice-locals.result.now) c.as_slice-writes.ensures.value c.in_ok-valid.ensures.value) v env h)

pub returns-clause-number : goal.returns-clause-number
returns-clause-number g c = λ v env h.
    let s = view_spec c.args.setting.now.spec.now in
    let a = c.args.setting.now.state.now in
    let args = c.args.setting.now.args.now in
    let known = c.args.setting.now.known.now in
    let e = option_map view_expr c.args.transition.now.result in
    let t1 = c.line_term.new.t in
    let R : List NamedTerm → List EntryWrite → Type 0 = λ l w. (x : Reading) (y : Env) → LineReads s c.args.t.now a args known l w x y → LineReads s t1 a args known l w x y in
    let P : List NamedTerm → List EntryWrite → Type 0 = λ l w. (x : Reading) (y : Env) → LineReads s t1 a args known l w x y
    → option_map (λ k. value c.result_term.new.t k x) c.in_ok-number.number ≡ option_map (tree.value (line_context s args l) y) e in
    subst (λ l. P l c.args.walked.now.writes.items) c.as_slice-locals.ensures.value (subst (P c.as_slice-locals.result.now) c.as_slice-writes.ensures.value c.in_ok-number.ensures.number) v env
    (subst (λ l. R l c.args.walked.now.writes.items) c.as_slice-locals.ensures.value (subst (R c.as_slice-locals.result.now) c.as_slice-writes.ensures.value c.in_ok-valid.ensures.reads) v env h)
