use Rattle.std.proofs.Common.{rules, ◌≡◌, ℕ, ◌+◌, ◌*◌, ◌^◌, ◌<◌, ◌∙◌, Some, map, sym, subst, arith}
use Rattle.std.specs.Prelude.{slice_get}
use Rattle.std.proofs.lemmas.List.{length-map}
use Rattle.hk_simplify.proofs.FormLaws.{grows-trans}
use Rattle.hk_term.specs.Meaning.{value}
use Rattle.spec_tree.specs.Plain.{Key}
use Rattle.spec_tree.specs.View.{view_key}
use Rattle.hk_symspec.proofs.Turning.{mapped_at}
use Rattle.hk_symspec.proofs.IndexLaws.{index_length, index_at}
use Rattle.hk_symspec.proofs.ArrayLaws.{place_on, place_end}
use Rattle.hk_symspec.proofs.bases.place_of.Goals as goal

pub limit_at-one-requires : goal.limit_at-one-requires
limit_at-one-requires c =
    omega (arith, c.each-test.true, index_length c.args.t.now (map view_key c.args.keys.now) c.args.index.now c.requires.index, length-map c.args.keys.now view_key)

pub next_place-requires-clause-index : goal.next_place-requires-clause-index
next_place-requires-clause-index c =
    let at = index_at c.args.t.now (map view_key c.args.keys.now) c.args.index.now c.each.k (view_key c.key_at-key.result) c.limit_at-one.result c.requires.index
    (mapped_at view_key c.args.keys.now c.each.k c.key_at-key.result c.key_at-key.ensures) c.limit_at-one.ensures in
    omega (arith, at.0, c.each.invariant.longer)

pub each-preserved : goal.each-preserved
each-preserved c =
    let key : Key = view_key c.key_at-key.result in
    let i = c.limit_at-one.result in
    let there : slice_get (map view_key c.args.keys.now) c.each.k ≡ Some key = mapped_at view_key c.args.keys.now c.each.k c.key_at-key.result c.key_at-key.ensures in
    let at = index_at c.args.t.now (map view_key c.args.keys.now) c.args.index.now c.each.k key i c.requires.index there c.limit_at-one.ensures in
    record {
      within = search rules;
      size = search rules;
      place = λ v p found small.
          let same : value c.each.t i.term v ≡ value c.args.t.now i.term v = c.each.invariant.keeps_values i.term at.0 v in
          let a : ℕ = value c.each.t c.each.made v in
          let whole : a * c.size_in.result + value c.each.t i.term v ≡ a * key.size + value c.args.t.now i.term v = λ j. a * c.size_in.ensures j + same j in
          let P : ℕ → Type 0 = λ x. x < 2 ^ 64 in
          place_on c.args.t.now (map view_key c.args.keys.now) c.args.index.now c.each.k v a (value c.next_place.new.t c.in_ok-made-2.made v) p key i there c.limit_at-one.ensures
          (λ low. c.in_ok-made-2.ensures.value v (subst P (sym whole) low) ∙ whole) small (c.each.invariant.place v p found small);
      keeps_widths = search rules;
      keeps_values = search rules;
      longer = search rules;
      grows = search (rules, grows-trans);
    }

pub returns-clause-value : goal.returns-clause-value
returns-clause-value c = λ v p found small.
    place_end c.args.t.now (map view_key c.args.keys.now) c.args.index.now c.each.k v (value c.each.t c.each.made v) p
    (omega (arith, c.each-test.false, length-map c.args.keys.now view_key)) (c.each.invariant.place v p found small)
