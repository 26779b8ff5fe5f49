use Rattle.std.proofs.Common.{refl}
use Rattle.hk_inst.proofs.required.agreement.Goals as goal

pub returns-clause-agrees : goal.returns-clause-agrees
returns-clause-agrees c = record {
  wide = c.in_ok-wide.wide;
  other_wide = c.in_ok-other_wide.other_wide;
  places = c.in_ok-places.places;
  values = c.in_ok-values.values;
  one = c.in_ok-one.one;
  wide_is = c.put-2.ensures.keeps _ _ (c.put.ensures.keeps _ _ (c.equal-2.ensures.keeps _ _ (c.equal.ensures.keeps _ _ (c.widened-2.ensures.keeps _ _ c.in_ok-wide.ensures.at))));
  other_is = c.put-2.ensures.keeps _ _ (c.put.ensures.keeps _ _ (c.equal-2.ensures.keeps _ _ (c.equal.ensures.keeps _ _ c.in_ok-other_wide.ensures.at)));
  places_is = c.put-2.ensures.keeps _ _ (c.put.ensures.keeps _ _ (c.equal-2.ensures.keeps _ _ c.in_ok-places.ensures.at));
  values_is = c.put-2.ensures.keeps _ _ (c.put.ensures.keeps _ _ c.in_ok-values.ensures.at);
  one_is = c.put-2.ensures.keeps _ _ c.in_ok-one.ensures.at;
  is = c.in_ok-made.ensures.at;
}

pub returns-clause-adds : goal.returns-clause-adds
returns-clause-adds c = λ tests all. c.put-2.ensures.adds tests (c.put.ensures.adds tests (c.equal-2.ensures.adds tests (c.equal.ensures.adds tests (c.widened-2.ensures.adds tests (c.widened.ensures.adds tests all)))) refl) refl
