use Rattle.std.proofs.Common.{List, [], ◌∷◌, sym, subst}
use Rattle.hk_term.specs.Meaning.{Reading}
use Rattle.spec_tree.specs.Value.{Env}
use Rattle.spec_tree.specs.View.{view_expr, view_line, view_spec}
use Rattle.spec_tree.specs.declared.spec.Line.TheVariants.{Write}
use Rattle.spec_tree.specs.Meaning.{after_lines, with_value}
use Rattle.hk_symexpr.specs.declared.names.NamedTerm.{NamedTerm}
use Rattle.hk_symspec.specs.declared.write.EntryWrite.{EntryWrite}
use Rattle.hk_symspec.specs.Lines.{LineReads, line_context}
use Rattle.hk_symspec.proofs.lines.go_on.Goals as goal

pub returns-in_ok-put_let-in-Let-clause-reads : goal.returns-in_ok-put_let-in-Let-clause-reads
returns-in_ok-put_let-in-Let-clause-reads g c = λ v env h.
    let s = view_spec c.args.setting.now.spec.now in
    let a = c.args.setting.now.state.now in
    let args = c.args.setting.now.args.now in
    let known = c.args.setting.now.known.now in
    let locals = c.args.locals.now.items in
    let ctx = line_context s args locals in
    let P : List EntryWrite → Type 0 = λ w. (x : Reading) (y : Env) → LineReads s c.args.t.now a args known locals w x y → LineReads s c.put_let.new.t a args known c.put_let.new.locals.items w x (with_value ctx y (view_expr c.in-Let.e)) in
    subst (λ l. LineReads s c.put_let.new.t a args known c.put_let.new.locals.items c.args.writes.now.items v (after_lines ctx env (view_line l ∷ []))) (sym c.in-Let.is)
    (subst P c.as_slice.ensures.value c.in_ok-put_let-in-Let.ensures.reads v env h)

pub returns-in_ok-put_write-in-Write-clause-reads : goal.returns-in_ok-put_write-in-Write-clause-reads
returns-in_ok-put_write-in-Write-clause-reads g c = λ v env h.
    let s = view_spec c.args.setting.now.spec.now in
    let a = c.args.setting.now.state.now in
    let args = c.args.setting.now.args.now in
    let known = c.args.setting.now.known.now in
    let locals = c.args.locals.now.items in
    let new = c.put_write.new.t in
    let writes = c.put_write.new.writes.items in
    let P : List NamedTerm → Type 0 = λ l. (x : Reading) (y : Env) → LineReads s c.args.t.now a args known l c.args.writes.now.items x y
    → LineReads s new a args known l writes x (after_lines (line_context s args l) y (view_line (Write c.in-Write.write) ∷ [])) in
    subst (λ l. LineReads s new a args known locals writes v (after_lines (line_context s args locals) env (view_line l ∷ []))) (sym c.in-Write.is)
    (subst P c.as_slice-in-Write.ensures.value c.in_ok-put_write-in-Write.ensures.reads v env h)
