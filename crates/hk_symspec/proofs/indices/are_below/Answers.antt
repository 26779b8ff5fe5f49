use Rattle.std.proofs.Common.{rules, ◌≡◌, ◌≤◌, ◌∙◌, Some, map, ap, arith}
use Rattle.std.specs.Prelude.{slice_get, nat_lt}
use Rattle.std.proofs.lemmas.List.{length-map}
use Rattle.hk_simplify.proofs.FormLaws.{grows-trans}
use Rattle.hk_term.specs.Operations.{bit}
use Rattle.hk_term.specs.Meaning.{value}
use Rattle.spec_tree.specs.Plain.{Key}
use Rattle.spec_tree.specs.View.{view_key}
use Rattle.hk_symspec.proofs.Turning.{mapped_at}
use Rattle.hk_symspec.proofs.IndexLaws.{index_length, index_at, limited_at, tests_on}
use Rattle.hk_symspec.proofs.indices.are_below.Goals as goal

pub limit_at-one-requires : goal.limit_at-one-requires
limit_at-one-requires c =
    omega (arith, c.each-test.true, index_length c.args.t.now (map view_key c.args.keys.now) c.args.index.now c.requires.index, length-map c.args.keys.now view_key)

pub is_below-requires : goal.is_below-requires
is_below-requires c =
    let at = index_at c.args.t.now (map view_key c.args.keys.now) c.args.index.now c.each.k (view_key c.key_at-key.result) c.limit_at-one.result c.requires.index
    (mapped_at view_key c.args.keys.now c.each.k c.key_at-key.result c.key_at-key.ensures) c.limit_at-one.ensures in
    record { term = omega (arith, at.0, c.each.invariant.longer) }

pub each-preserved : goal.each-preserved
each-preserved c =
    let key : Key = view_key c.key_at-key.result in
    let i = c.limit_at-one.result in
    let there : slice_get (map view_key c.args.keys.now) c.each.k ≡ Some key = mapped_at view_key c.args.keys.now c.each.k c.key_at-key.result c.key_at-key.ensures in
    let at = index_at c.args.t.now (map view_key c.args.keys.now) c.args.index.now c.each.k key i c.requires.index there c.limit_at-one.ensures in
    record {
      within = search rules;
      size = search rules;
      tests = λ v limited.
          let same : value c.each.t i.term v ≡ value c.args.t.now i.term v = c.each.invariant.keeps_values i.term at.0 v in
          let low : value c.args.t.now i.term v ≤ i.most = limited_at c.args.t.now v c.args.index.now c.each.k i limited c.limit_at-one.ensures in
          tests_on c.args.t.now (map view_key c.args.keys.now) c.args.index.now c.each.k v (value c.each.t c.each.made v) (value c.both.new.t c.in_ok-made-2.made v) key i there c.limit_at-one.ensures
          (λ p q ep eq. c.in_ok-made-2.ensures.value v p q
          (c.in_ok-test.ensures.keeps_values c.each.made c.each.invariant.within v ∙ ep)
          (c.in_ok-test.ensures.value v (omega (arith, same, low)) ∙ ap (λ x. bit (nat_lt x c.size_in.result)) same ∙ ap (λ x. bit (nat_lt (value c.args.t.now i.term v) x)) c.size_in.ensures ∙ eq))
          (c.each.invariant.tests v limited);
      keeps_widths = search rules;
      keeps_values = search rules;
      longer = search rules;
      grows = search (rules, grows-trans);
    }
