use Rattle.std.proofs.Common.{◌∙◌, List, [], map, ap, sym, subst}
use Rattle.spec_tree.specs.Plain.{Line}
use Rattle.spec_tree.specs.Sorted.{AreLines, lets_of, with_locals}
use Rattle.spec_tree.specs.View.{view_line, view_spec}
use Rattle.spec_tree.specs.Meaning.{after_lines}
use Rattle.hk_symexpr.specs.declared.names.NamedTerm.{NamedTerm}
use Rattle.hk_symspec.specs.declared.write.EntryWrite.{EntryWrite}
use Rattle.hk_symspec.specs.Lines.{IsPoint, LineReads, line_context}
use Rattle.hk_symspec.proofs.transitions.walk.Goals as goal

pub go_through-requires-clause-point : goal.go_through-requires-clause-point
go_through-requires-clause-point g c =
    let s = view_spec c.args.setting.now.spec.now in
    let P : List NamedTerm → List EntryWrite → Type 0 = λ l w. IsPoint s c.args.t.now c.args.setting.now.state.now c.args.setting.now.args.now c.args.setting.now.known.now l w in
    subst (λ l. P l c.new-writes.result.items) (sym c.new-locals.ensures.items) (subst (λ w. P [] w) (sym c.new-writes.ensures.items) c.requires.point)

pub go_through-requires-clause-sorted : goal.go_through-requires-clause-sorted
go_through-requires-clause-sorted g c =
    let s = view_spec c.args.setting.now.spec.now in
    let P : List NamedTerm → List Line → Type 0 = λ l ls. AreLines (line_context s c.args.setting.now.args.now l) ls in
    subst (λ l. P l (map view_line c.as_slice-lines.result.now)) (sym c.new-locals.ensures.items) (subst (P []) (sym (ap (map view_line) c.as_slice-lines.ensures)) c.requires.sorted)

pub returns-clause-context : goal.returns-clause-context
returns-clause-context g c =
    let s = view_spec c.args.setting.now.spec.now in
    c.in_ok-go_through.ensures.context
    ∙ (λ i. with_locals (line_context s c.args.setting.now.args.now (c.new-locals.ensures.items i)) (lets_of (map view_line (c.as_slice-lines.ensures i))))

pub returns-clause-reads : goal.returns-clause-reads
returns-clause-reads g c = λ v env h.
    let s = view_spec c.args.setting.now.spec.now in
    let a = c.args.setting.now.state.now in
    let args = c.args.setting.now.args.now in
    let known = c.args.setting.now.known.now in
    let P : List NamedTerm → List EntryWrite → Type 0 = λ l w. LineReads s c.args.t.now a args known l w v env in
    subst (LineReads s c.go_through.new.t a args known c.go_through.new.locals.items c.go_through.new.writes.items v)
    (λ i. after_lines (line_context s args (c.new-locals.ensures.items i)) env (map view_line (c.as_slice-lines.ensures i)))
    (c.in_ok-go_through.ensures.reads v env (subst (λ l. P l c.new-writes.result.items) (sym c.new-locals.ensures.items) (subst (λ w. P [] w) (sym c.new-writes.ensures.items) h)))
