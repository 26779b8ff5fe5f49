use Rattle.std.proofs.Common.{◌≡◌, List, subst}
use Rattle.hk_term.specs.Meaning as term
use Rattle.hk_term.specs.Meaning.{Reading}
use Rattle.spec_tree.specs.Value.{Env, value, values}
use Rattle.spec_tree.specs.View.{view_expr, view_expr_list, view_spec}
use Rattle.hk_symspec.specs.declared.write.EntryWrite.{EntryWrite}
use Rattle.hk_symspec.specs.States.{numbers_at}
use Rattle.hk_symspec.specs.Lines.{IsPoint, LineReads, line_context}
use Rattle.hk_symspec.proofs.LineLaws.{agrees_then, point_written, reads_written}
use Rattle.hk_symspec.proofs.lines.put_write.Goals as goal

pub returns-clause-point : goal.returns-clause-point
returns-clause-point g c =
    let s = view_spec c.args.setting.now.spec.now in
    let a = c.args.setting.now.state.now in
    let P : List EntryWrite → Type 0 = λ l. IsPoint s c.write_of.new.t a c.args.setting.now.args.now c.args.setting.now.known.now c.args.locals.now l in
    point_written s c.write_of.new.t a c.args.setting.now.args.now c.args.setting.now.known.now c.args.locals.now c.args.writes.now.items _ c.in_ok-made.made c.in_ok-push.ensures.items
    c.in_ok-made.ensures.over c.in_ok-made.ensures.guard
    (subst P c.as_slice.ensures.value c.in_ok-made.ensures.point)

pub returns-clause-reads : goal.returns-clause-reads
returns-clause-reads g c = λ v env h.
    let s = view_spec c.args.setting.now.spec.now in
    let a = c.args.setting.now.state.now in
    let args = c.args.setting.now.args.now in
    let known = c.args.setting.now.known.now in
    let locals = c.args.locals.now in
    let at = view_expr_list c.args.write.now.index in
    let e = view_expr c.args.write.now.value in
    let made = c.in_ok-made.made in
    let new = c.write_of.new.t in
    let I : List EntryWrite → Type 0 = λ l. (w : Reading) (x : Env) → LineReads s c.args.t.now a args known locals l w x → numbers_at new made.index w ≡ values (line_context s args locals) x at in
    let Q : List EntryWrite → Type 0 = λ l. (w : Reading) (x : Env) → LineReads s c.args.t.now a args known locals l w x → term.value new made.value w ≡ value (line_context s args locals) x e in
    let P : List EntryWrite → Type 0 = λ l. (w : Reading) (x : Env) → LineReads s c.args.t.now a args known locals l w x → LineReads s new a args known locals l w x in
    reads_written s new a args known locals c.args.writes.now.items _ made c.args.write.now.field at e v env c.in_ok-push.ensures.items c.in_ok-made.ensures.field c.in_ok-made.ensures.guard
    (λ u b. subst I c.as_slice.ensures.value c.in_ok-made.ensures.index u env (λ w d. h w (agrees_then _ v u w b d)))
    (λ u b. subst Q c.as_slice.ensures.value c.in_ok-made.ensures.value u env (λ w d. h w (agrees_then _ v u w b d)))
    (subst P c.as_slice.ensures.value c.in_ok-made.ensures.reads v env h)
