use Rattle.std.proofs.Common.{◌∙◌, ◌<◌, ◌+◌, [], ◌∷◌, length, drop, map, arith, ap, sym, subst}
use Rattle.std.specs.Prelude.{All}
use Rattle.std.proofs.lemmas.List.Elements.{All-append, All-cons}
use Rattle.hk_term.specs.Shape.{width}
use Rattle.hk_symexpr.specs.Naming.{IsNamed}
use Rattle.hk_symspec.proofs.LineLaws.{map_more, part_at, put_one}
use Rattle.hk_symspec.proofs.transitions.named_terms.Goals as goal

pub each-preserved : goal.each-preserved
each-preserved c =
    let t = c.args.t.now in
    let args = c.args.args.now in
    let k = c.each.term-index in
    let item = c.term-item.result in
    let named = c.each.named.items in
    let n = c.named_term.result in
    let put = c.in_ok-push.ensures.items in
    let part = part_at args k item c.term-item.is c.each-test.true in
    let low : item < length t = subst (λ x. x < length t) (sym c.term-item.is) (c.requires k item c.each-test.true) in
    record {
      terms = put_one (map (λ a. a.term) named) _ item (drop k args) (drop (k + 1) args) args (map_more (λ a. a.term) named _ n item put c.named_term.ensures.term) part c.each.invariant.terms;
      widths = put_one (map (λ a. a.width) named) _ (width t item) (map (width t) (drop k args)) (map (width t) (drop (k + 1) args)) (map (width t) args)
          (map_more (λ a. a.width) named _ n (width t item) put c.named_term.ensures.width) (ap (map (width t)) part) c.each.invariant.widths;
      named = subst (All (IsNamed t)) (sym put)
          (All-append (IsNamed t) named (n ∷ []) c.each.invariant.named
          (All-cons (IsNamed t) n [] (record { within = subst (λ x. x < length t) (sym c.named_term.ensures.term) low; width_is = ap (width t) c.named_term.ensures.term ∙ sym c.named_term.ensures.width }) (λ j d l. absurd (omega (arith, l)))));
    }
