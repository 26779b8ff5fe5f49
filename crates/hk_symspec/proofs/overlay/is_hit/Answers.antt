use Rattle.std.proofs.Common.{rules, ◌≡◌, ◌∙◌, map, sym, arith}
use Rattle.std.specs.Prelude.{nat_eq}
use Rattle.std.proofs.lemmas.List.{length-map}
use Rattle.hk_simplify.proofs.FormLaws.{grows-trans}
use Rattle.hk_term.specs.Operations.{bit}
use Rattle.hk_term.specs.Meaning.{value}
use Rattle.spec_tree.specs.View.{view_key}
use Rattle.hk_symspec.proofs.IndexLaws.{index_length}
use Rattle.hk_symspec.proofs.OverlayLaws.{pair_at, key_length, matches_begin, matches_on, matches_end}
use Rattle.hk_symspec.proofs.overlay.is_hit.Goals as goal

pub each-init : goal.each-init
each-init c = record {
  within = c.requires.guard;
  size = c.requires.truth;
  matches = λ v p e. matches_begin c.args.t.now c.args.index.now c.args.other.now v p (value c.args.t.now c.args.guard v) e;
  keeps_widths = search rules;
  keeps_values = search rules;
  longer = search rules;
  grows = search rules;
}

pub term_at-one-requires : goal.term_at-one-requires
term_at-one-requires c =
    omega (arith, c.each-test.true, key_length c.args.t.now (map view_key c.args.keys.now) c.args.index.now c.requires.index, length-map c.args.keys.now view_key)

pub limit_at-two-requires : goal.limit_at-two-requires
limit_at-two-requires c =
    omega (arith, c.each-test.true, index_length c.args.t.now (map view_key c.args.keys.now) c.args.other.now c.requires.other, length-map c.args.keys.now view_key)

pub eq-requires-clause-first : goal.eq-requires-clause-first
eq-requires-clause-first c =
    let p = pair_at c.args.t.now (map view_key c.args.keys.now) c.args.index.now c.args.other.now c.each.k c.term_at-one.result c.limit_at-two.result c.requires.index c.requires.other c.term_at-one.ensures c.limit_at-two.ensures in
    omega (arith, p.first, c.each.invariant.longer)

pub eq-requires-clause-second : goal.eq-requires-clause-second
eq-requires-clause-second c =
    let p = pair_at c.args.t.now (map view_key c.args.keys.now) c.args.index.now c.args.other.now c.each.k c.term_at-one.result c.limit_at-two.result c.requires.index c.requires.other c.term_at-one.ensures c.limit_at-two.ensures in
    omega (arith, p.second, c.each.invariant.longer)

pub eq-requires-clause-widths : goal.eq-requires-clause-widths
eq-requires-clause-widths c =
    let p = pair_at c.args.t.now (map view_key c.args.keys.now) c.args.index.now c.args.other.now c.each.k c.term_at-one.result c.limit_at-two.result c.requires.index c.requires.other c.term_at-one.ensures c.limit_at-two.ensures in
    c.each.invariant.keeps_widths c.term_at-one.result p.first ∙ p.widths ∙ sym (c.each.invariant.keeps_widths c.limit_at-two.result.term p.second)

pub each-preserved : goal.each-preserved
each-preserved c =
    let p = pair_at c.args.t.now (map view_key c.args.keys.now) c.args.index.now c.args.other.now c.each.k c.term_at-one.result c.limit_at-two.result c.requires.index c.requires.other c.term_at-one.ensures c.limit_at-two.ensures in
    record {
      within = search rules;
      size = search rules;
      matches = λ v q e.
          let one : value c.each.t c.term_at-one.result v ≡ value c.args.t.now c.term_at-one.result v = c.each.invariant.keeps_values c.term_at-one.result p.first v in
          let two : value c.each.t c.limit_at-two.result.term v ≡ value c.args.t.now c.limit_at-two.result.term v = c.each.invariant.keeps_values c.limit_at-two.result.term p.second v in
          matches_on c.args.t.now c.args.index.now c.args.other.now c.each.k v q (value c.each.t c.each.made v) (value c.both.new.t c.in_ok-made.made v) c.term_at-one.result c.limit_at-two.result
          c.term_at-one.ensures c.limit_at-two.ensures
          (λ a b ea eb. c.in_ok-made.ensures.value v a b
          (c.in_ok-same.ensures.keeps_values c.each.made c.each.invariant.within v ∙ ea)
          (c.in_ok-same.ensures.value v ∙ (λ j. bit (nat_eq (one j) (two j))) ∙ eb))
          (c.each.invariant.matches v q e);
      keeps_widths = search rules;
      keeps_values = search rules;
      longer = search rules;
      grows = search (rules, grows-trans);
    }

pub returns-clause-value : goal.returns-clause-value
returns-clause-value c = λ v p e.
    matches_end c.args.t.now c.args.index.now c.args.other.now c.each.k v p (value c.each.t c.each.made v)
    (omega (arith, c.each-test.false, key_length c.args.t.now (map view_key c.args.keys.now) c.args.index.now c.requires.index, length-map c.args.keys.now view_key))
    (c.each.invariant.matches v p e)
