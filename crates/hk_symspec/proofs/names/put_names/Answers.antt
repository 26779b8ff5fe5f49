use Rattle.std.proofs.Common.{rules, ◌≡◌, ◌∷◌, ◌+◌, ◌∙◌, List, map, drop, ap}
use Rattle.hk_simplify.proofs.FormLaws.{grows-trans}
use Rattle.hk_term.specs.Meaning.{Reading}
use Rattle.spec_tree.specs.Plain.{Tree}
use Rattle.spec_tree.specs.Sorted.{Context}
use Rattle.spec_tree.specs.View.{view_expr}
use Rattle.hk_symexpr.specs.Sources.{Source}
use Rattle.hk_symspec.specs.Formulas.{formula_context}
use Rattle.hk_symspec.proofs.NameLaws.{part_at, sorted_left, context_left, leads_on, led, drop_end}
use Rattle.hk_symspec.proofs.names.put_names.Goals as goal

pub each-preserved : goal.each-preserved
each-preserved g c =
    let source : Reading → Source = g.R.SymReads.source c.args.reads.now c.each.t in
    let named : Context = g.R.SymReads.named c.args.reads.now in
    let c0 : Context = formula_context named c.args.args.now c.each.locals.items c.args.base in
    let c1 : Context = formula_context named c.args.args.now c.put_name.new.locals.items c.args.base in
    let e : Tree = view_expr c.e-item.result in
    let left : List Tree = map view_expr (drop c.each.e-index c.as_slice-e-items.result.now) in
    let rest : List Tree = map view_expr (drop (c.each.e-index + 1) c.as_slice-e-items.result.now) in
    let is : left ≡ e ∷ rest = ap (map view_expr) (part_at c.as_slice-e-items.result.now c.each.e-index c.e-item.result c.e-item.is c.each-test.true) in
    let context = c.in_ok-put_name.ensures.context in
    record {
      over = c.in_ok-put_name.ensures.over;
      formula = c.in_ok-put_name.ensures.formula;
      sorted = (sorted_left c0 c1 e left rest is context c.each.invariant.sorted).1;
      context = context_left c0 c1 e left rest is context ∙ c.each.invariant.context;
      leads = λ v env s. leads_on source (g.R.SymReads.source c.args.reads.now c.put_name.new.t) named c.each.t c.put_name.new.t c.args.args.now c.each.locals.items
          c.put_name.new.locals.items c.args.base e left rest is context c.in_ok-put_name.ensures.reads v _ (c.each.invariant.leads v env s);
      keeps_widths = search rules;
      keeps_values = search rules;
      longer = search rules;
      grows = grows-trans _ _ _ c.each.invariant.grows c.in_ok-put_name.ensures.grows;
      source = λ v. c.in_ok-put_name.ensures.source v ∙ c.each.invariant.source v;
    }

pub returns-clause-reads : goal.returns-clause-reads
returns-clause-reads g c = λ v env s.
    led (g.R.SymReads.source c.args.reads.now c.each.t) (g.R.SymReads.named c.args.reads.now) c.each.t c.args.args.now c.each.locals.items c.args.base
    (map view_expr (drop c.each.e-index c.as_slice-e-items.result.now)) v _
    (ap (map view_expr) (drop_end c.as_slice-e-items.result.now c.each.e-index c.each-test.false)) (c.each.invariant.leads v env s)
