use Rattle.std.proofs.Common.{◌≡◌, ◌∙◌, List, sym, subst}
use Rattle.hk_term.specs.Shape.{width}
use Rattle.hk_term.specs.Meaning as term
use Rattle.hk_term.specs.Meaning.{Reading}
use Rattle.spec_tree.specs.Sorted.{width_of}
use Rattle.spec_tree.specs.Value.{Env, value}
use Rattle.spec_tree.specs.View.{view_expr, view_spec}
use Rattle.hk_symexpr.specs.declared.names.NamedTerm.{NamedTerm}
use Rattle.hk_symspec.specs.Lines.{IsPoint, LineReads, line_context}
use Rattle.hk_symspec.proofs.LineLaws.{agrees_then, context_named, point_named, reads_named}
use Rattle.hk_symspec.proofs.lines.put_let.Goals as goal

pub returns-clause-point : goal.returns-clause-point
returns-clause-point g c =
    let s = view_spec c.args.setting.now.spec.now in
    let a = c.args.setting.now.state.now in
    let n : NamedTerm = record { term = c.in_ok-term.term; width = c.width-width.result } in
    let P : List NamedTerm → Type 0 = λ l. IsPoint s c.line_term.new.t a c.args.setting.now.args.now c.args.setting.now.known.now l c.args.writes.now in
    point_named s c.line_term.new.t a c.args.setting.now.args.now c.args.setting.now.known.now c.args.locals.now.items _ c.args.writes.now n c.in_ok-push.ensures.items
    (record { within = c.in_ok-term.ensures.within; width_is = sym c.width-width.ensures.width })
    (subst P c.as_slice.ensures.value c.in_ok-term.ensures.point)

pub returns-clause-context : goal.returns-clause-context
returns-clause-context g c =
    let s = view_spec c.args.setting.now.spec.now in
    let e = view_expr c.args.e.now in
    let n : NamedTerm = record { term = c.in_ok-term.term; width = c.width-width.result } in
    let P : List NamedTerm → Type 0 = λ l. width c.line_term.new.t c.in_ok-term.term ≡ width_of (line_context s c.args.setting.now.args.now l) e in
    context_named s c.args.setting.now.args.now c.args.locals.now.items _ n e c.in_ok-push.ensures.items
    (c.width-width.ensures.width ∙ subst P c.as_slice.ensures.value c.in_ok-term.ensures.width)

pub returns-clause-reads : goal.returns-clause-reads
returns-clause-reads g c = λ v env h.
    let s = view_spec c.args.setting.now.spec.now in
    let a = c.args.setting.now.state.now in
    let args = c.args.setting.now.args.now in
    let known = c.args.setting.now.known.now in
    let writes = c.args.writes.now in
    let e = view_expr c.args.e.now in
    let n : NamedTerm = record { term = c.in_ok-term.term; width = c.width-width.result } in
    let Q : List NamedTerm → Type 0 = λ l. (w : Reading) (x : Env) → LineReads s c.args.t.now a args known l writes w x → term.value c.line_term.new.t c.in_ok-term.term w ≡ value (line_context s args l) x e in
    let P : List NamedTerm → Type 0 = λ l. (w : Reading) (x : Env) → LineReads s c.args.t.now a args known l writes w x → LineReads s c.line_term.new.t a args known l writes w x in
    reads_named s c.line_term.new.t a args known c.args.locals.now.items _ writes n e v env c.in_ok-push.ensures.items
    (λ u b. subst Q c.as_slice.ensures.value c.in_ok-term.ensures.value u env (λ w d. h w (agrees_then _ v u w b d)))
    (subst P c.as_slice.ensures.value c.in_ok-term.ensures.reads v env h)
