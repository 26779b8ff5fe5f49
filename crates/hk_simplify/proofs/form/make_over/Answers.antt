use Rattle.std.proofs.Common.{length, ap, sym, subst, ◌∙◌}
use Rattle.hk_term.specs.Shape.{NodeFits, node_width, width}
use Rattle.hk_term.specs.Meaning.{node_value, value}
use Rattle.hk_simplify.proofs.FormLaws.{outer-fits, outer-width, outer-value}
use Rattle.hk_simplify.proofs.form.make_over.Goals as goal

pub intern-requires-2 : goal.intern-requires-2
intern-requires-2 c =
    let e = c.in_ok-inner.ensures in
    subst (NodeFits (length c.intern.new.self) (width c.intern.new.self)) (sym c.over-node.ensures)
    (outer-fits c.args.t.now c.intern.new.self c.args.part c.in_ok-inner.inner e.holds.within e.longer e.width e.value e.keeps_widths e.keeps_values c.args.outer c.requires.2)

pub returns-clause-width : goal.returns-clause-width
returns-clause-width c =
    let e = c.in_ok-inner.ensures in
    c.in_ok-a.ensures.width ∙ ap (λ n. node_width n (width c.intern.new.self)) c.over-node.ensures
    ∙ outer-width c.args.t.now c.intern.new.self c.args.part c.in_ok-inner.inner e.holds.within e.longer e.width e.value e.keeps_widths e.keeps_values c.args.outer c.requires.2

pub returns-clause-value : goal.returns-clause-value
returns-clause-value c = λ v.
    let e = c.in_ok-inner.ensures in
    c.in_ok-a.ensures.value v ∙ ap (λ n. node_value n (value c.intern.new.self) (width c.intern.new.self) v) c.over-node.ensures
    ∙ outer-value c.args.t.now c.intern.new.self c.args.part c.in_ok-inner.inner e.holds.within e.longer e.width e.value e.keeps_widths e.keeps_values c.args.outer c.requires.2 v
