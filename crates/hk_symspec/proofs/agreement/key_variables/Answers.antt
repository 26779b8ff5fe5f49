use Rattle.std.proofs.Common.{rules, ◌≡◌, ◌+◌, Some, map, take, sym, subst, arith}
use Rattle.std.specs.Prelude.{slice_get}
use Rattle.std.proofs.lemmas.List.{length-map, take_all}
use Rattle.std.proofs.lemmas.Option.{get_or_from_slice_get}
use Rattle.hk_simplify.proofs.FormLaws.{grows-trans}
use Rattle.spec_tree.specs.Plain.{Key}
use Rattle.spec_tree.specs.Sorted.{IsIndexSort}
use Rattle.spec_tree.specs.View.{view_key}
use Rattle.hk_symspec.specs.Standing.{formula_base}
use Rattle.hk_symspec.specs.Agreement.{AreKeyVariables}
use Rattle.hk_symspec.proofs.Turning.{mapped_at}
use Rattle.hk_symspec.proofs.Agreeing.{variables_on}
use Rattle.hk_symspec.proofs.agreement.key_variables.Goals as goal

pub each-init : goal.each-init
each-init c = record {
  variables = c.new-made.ensures.items;
  keeps_widths = search rules;
  keeps_values = search rules;
  longer = search rules;
  grows = search rules;
}

pub key_variable-requires : goal.key_variable-requires
key_variable-requires c =
    let there : slice_get (map view_key c.args.keys.now) c.each.k ≡ Some (view_key c.key_at-key.result) = mapped_at view_key c.args.keys.now c.each.k c.key_at-key.result c.key_at-key.ensures in
    subst (λ (q : Key). IsIndexSort q.width q.size) (get_or_from_slice_get (map view_key c.args.keys.now) c.each.k (view_key c.key_at-key.result) (view_key c.key_at-key.result) there)
    (c.requires.sorts c.each.k (view_key c.key_at-key.result) (omega (arith, c.each-test.true, length-map c.args.keys.now view_key)))

pub each-preserved : goal.each-preserved
each-preserved c =
    let there : slice_get (map view_key c.args.keys.now) c.each.k ≡ Some (view_key c.key_at-key.result) = mapped_at view_key c.args.keys.now c.each.k c.key_at-key.result c.key_at-key.ensures in
    record {
      variables = subst (λ ls. AreKeyVariables c.key_variable.new.t formula_base (take (c.each.k + 1) (map view_key c.args.keys.now)) ls) (sym c.in_ok-push.ensures.items)
          (variables_on c.each.t c.key_variable.new.t formula_base (map view_key c.args.keys.now) c.each.k (view_key c.key_at-key.result) c.in_ok-one.one c.each.made.items there
          c.in_ok-one.ensures.longer c.in_ok-one.ensures.keeps_widths c.in_ok-one.ensures.keeps_values c.each.invariant.variables c.in_ok-one.ensures.variable);
      keeps_widths = search rules;
      keeps_values = search rules;
      longer = search rules;
      grows = search (rules, grows-trans);
    }

pub returns-clause-variables : goal.returns-clause-variables
returns-clause-variables c =
    subst (λ ks. AreKeyVariables c.each.t formula_base ks c.each.made.items) (take_all c.each.k (map view_key c.args.keys.now) (omega (arith, c.each-test.false, length-map c.args.keys.now view_key))) c.each.invariant.variables
