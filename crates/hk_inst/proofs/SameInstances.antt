-- The equality of instances in code is that of contracts.
use Rattle.std.proofs.Common.{◌≡◌, List, [], ◌∷◌, ◌||◌, refl}
use Rattle.std.specs.List.{list_any}
use Rattle.hk_inst.specs.declared.instance.Instance.{Instance}
use Rattle.hk_inst.specs.declared.instance.Instance.TheVariants.{Pair, Tuple}
use Rattle.hk_inst.specs.contracts.instance.InstancePartialEq.TheImpl.{eq-value}
use Rattle.hk_inst.specs.Truths.{same_instance}

eq-same : (i j : Instance) → eq-value.it i j ≡ same_instance i j
eq-same (Pair a b) (Pair c d) = refl
eq-same (Pair a b) (Tuple k ks) = refl
eq-same (Tuple k ks) (Pair a b) = refl
eq-same (Tuple k ks) (Tuple j js) = refl

pub any-same : (i : Instance) (is : List Instance) → list_any (eq-value.it i) is ≡ list_any (same_instance i) is
any-same i [] = refl
any-same i (j ∷ is) = λ n. eq-same i j n || any-same i is n
