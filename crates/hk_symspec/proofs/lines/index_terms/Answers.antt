use Rattle.std.proofs.Common.{◌≡◌, ◌∙◌, ◌<◌, ◌+◌, ◌++◌, length, drop, map, arith, ap, sym, subst}
use Rattle.std.specs.Prelude.{All}
use Rattle.hk_term.specs.Shape.{width}
use Rattle.hk_term.specs.Meaning as term
use Rattle.spec_tree.specs.Plain.{tree_and}
use Rattle.spec_tree.specs.Sorted.{width_of}
use Rattle.spec_tree.specs.Value.{value, values}
use Rattle.spec_tree.specs.View.{view_expr, view_expr_list, view_exprs, view_spec}
use Rattle.hk_symspec.specs.States.{numbers_at}
use Rattle.hk_symspec.specs.Lines.{AreSorted, line_context, widths_of}
use Rattle.hk_symspec.proofs.LineLaws.{drop_end, followed, here, list_is, map_put, part_at, put_all, put_one, unchanged, within_put}
use Rattle.hk_symspec.proofs.lines.index_terms.Goals as goal

pub each-init : goal.each-init
each-init g c =
    let ctx = line_context (view_spec c.args.setting.now.spec.now) c.args.setting.now.args.now c.args.locals.now in
    let same : view_expr_list c.args.at.now ≡ view_exprs c.as_slice-items.result.now = list_is c.args.at.now ∙ ap view_exprs (sym c.as_slice-items.ensures.value) in
    record {
      point = c.requires.point;
      sorted = subst (AreSorted ctx) same c.requires.sorted;
      within = subst (All (λ k. k < length c.args.t.now)) (sym c.new-terms.ensures.items) (λ k d l. absurd (omega (arith, l)));
      widths = λ i. map (width c.args.t.now) (c.new-terms.ensures.items i) ++ widths_of ctx (sym same i);
      numbers = λ v env h i. numbers_at c.args.t.now (c.new-terms.ensures.items i) v ++ values ctx env (sym same i);
      reads = λ v env h. h;
      keeps = unchanged c.args.t.now;
    }

pub each-preserved : goal.each-preserved
each-preserved g c =
    let ctx = line_context (view_spec c.args.setting.now.spec.now) c.args.setting.now.args.now c.args.locals.now in
    let items = c.as_slice-items.result.now in
    let e = view_expr c.e-item.result in
    let left = view_exprs (drop c.each.e-index items) in
    let rest = view_exprs (drop (c.each.e-index + 1) items) in
    let is : left ≡ tree_and e rest = ap view_exprs (part_at items c.each.e-index c.e-item.result c.e-item.is c.each-test.true) in
    let old = c.each.t in
    let new = c.line_term.new.t in
    let keeps = c.line_term.ensures.keeps in
    let within = c.each.invariant.within in
    let put = c.in_ok-push.ensures.items in
    record {
      point = c.in_ok-term.ensures.point;
      sorted = (here ctx left rest e is c.each.invariant.sorted).1;
      within = within_put (length old) (length new) c.each.terms.items _ c.in_ok-term.term keeps.longer within put c.in_ok-term.ensures.within;
      widths = put_one (map (width old) c.each.terms.items) _ (width_of ctx e) (widths_of ctx left) (widths_of ctx rest) (widths_of ctx (view_expr_list c.args.at.now))
          (map_put (width new) (width old) (length old) c.each.terms.items _ c.in_ok-term.term (width_of ctx e) keeps.widths within put c.in_ok-term.ensures.width)
          (ap (widths_of ctx) is) c.each.invariant.widths;
      numbers = λ v env h. put_one (numbers_at old c.each.terms.items v) _ (value ctx env e) (values ctx env left) (values ctx env rest) (values ctx env (view_expr_list c.args.at.now))
          (map_put (λ k. term.value new k v) (λ k. term.value old k v) (length old) c.each.terms.items _ c.in_ok-term.term (value ctx env e) (λ k l. keeps.values k l v) within put
          (c.in_ok-term.ensures.value v env (c.each.invariant.reads v env h)))
          (ap (values ctx env) is) (c.each.invariant.numbers v env h);
      reads = λ v env h. c.in_ok-term.ensures.reads v env (c.each.invariant.reads v env h);
      keeps = followed c.args.t.now old new c.each.invariant.keeps keeps;
    }

pub returns-in_err-term-clause-keeps : goal.returns-in_err-term-clause-keeps
returns-in_err-term-clause-keeps g c = followed c.args.t.now c.each.t c.line_term.new.t c.each.invariant.keeps c.line_term.ensures.keeps

pub returns-in_err-push-clause-keeps : goal.returns-in_err-push-clause-keeps
returns-in_err-push-clause-keeps g c = followed c.args.t.now c.each.t c.line_term.new.t c.each.invariant.keeps c.line_term.ensures.keeps

pub returns-clause-widths : goal.returns-clause-widths
returns-clause-widths g c =
    let ctx = line_context (view_spec c.args.setting.now.spec.now) c.args.setting.now.args.now c.args.locals.now in
    put_all (map (width c.each.t) c.each.terms.items) (widths_of ctx (view_exprs (drop c.each.e-index c.as_slice-items.result.now))) (widths_of ctx (view_expr_list c.args.at.now))
    (ap (λ l. widths_of ctx (view_exprs l)) (drop_end c.as_slice-items.result.now c.each.e-index c.each-test.false)) c.each.invariant.widths

pub returns-clause-numbers : goal.returns-clause-numbers
returns-clause-numbers g c = λ v env h.
    let ctx = line_context (view_spec c.args.setting.now.spec.now) c.args.setting.now.args.now c.args.locals.now in
    put_all (numbers_at c.each.t c.each.terms.items v) (values ctx env (view_exprs (drop c.each.e-index c.as_slice-items.result.now))) (values ctx env (view_expr_list c.args.at.now))
    (ap (λ l. values ctx env (view_exprs l)) (drop_end c.as_slice-items.result.now c.each.e-index c.each-test.false)) (c.each.invariant.numbers v env h)
