use Rattle.std.proofs.Common.{rules, ◌≡◌, ℕ, ◌^◌, ◌<◌, subst}
use Rattle.hk_term.specs.Shape.{width}
use Rattle.hk_term.specs.Meaning.{value}
use Rattle.spec_tree.specs.View.{view_expr, view_locals}
use Rattle.hk_symspec.proofs.NameLaws.{body_value}
use Rattle.hk_symspec.proofs.formulas.body_term.Goals as goal

pub returns-clause-value : goal.returns-clause-value
returns-clause-value g c =
    let one : width c.formula_term.new.t c.in_ok-made.made ≡ 1 = search rules in
    body_value (g.R.SymReads.source c.args.reads.now c.args.t.now) (g.R.SymReads.source c.args.reads.now c.put_names.new.t) (g.R.SymReads.named c.args.reads.now)
    c.args.t.now c.put_names.new.t c.formula_term.new.t c.args.base c.new-locals.result.items c.put_names.new.locals.items c.as_slice.result.now
    (view_locals c.args.body.now.locals) (view_expr c.args.body.now.value) c.in_ok-made.made
    c.new-locals.ensures.items c.as_slice.ensures.value c.in_ok-put_names.ensures.context c.in_ok-put_names.ensures.reads c.in_ok-made.ensures.value
    (λ v. let P : ℕ → Type 0 = λ w. value c.formula_term.new.t c.in_ok-made.made v < 2 ^ w in subst P one (c.node-node.ensures.holds.below v))
