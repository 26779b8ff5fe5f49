-- The width and the value of a copy, and that it stays one while the list grows.
use Rattle.std.proofs.Common.{◌≡◌, ℕ, ◌%◌, ◌^◌, ◌<◌, ◌++◌, cond, nat_eq, List, reverse, Some, arith, sym, ◌∙◌, ap, subst, inl, inr}
use Rattle.std.specs.List.{slice_get}
use Rattle.std.proofs.lemmas.Option.{slice_get_within}
use Rattle.std.proofs.lemmas.List.{length-append}
use Rattle.std.proofs.lemmas.Nat.{pow_pos}
use Rattle.std.proofs.Math.Nat.{mod-mod, mod-lt, mod-eq_of_lt, pow-le-pow_right, div-one}
use Rattle.hk_term.specs.Operations.{bit, unary_value, binary_value, binary_width, resize_value}
use Rattle.hk_term.specs.Shape.{width, AllFitIn, Grows}
use Rattle.hk_term.specs.Meaning.{Reading, value}
use Rattle.hk_term.specs.declared.node.Node.{Node}
use Rattle.hk_term.specs.declared.node.Node.TheVariants.{Const}
use Rattle.hk_term.specs.declared.node.TermResize.{TermResize}
use Rattle.hk_term.proofs.TermLists.{holds, width-grows, value-grows}
use Rattle.hk_term.proofs.Interning.{slice_get-append}
use Rattle.hk_copy.specs.Stands.{Stands, number_of, replaced}
use Rattle.hk_copy.specs.Copies.{IsCut, Copies}
use Rattle.hk_copy.specs.Copies.Copies.{constant, plain, stands, resized, select, unary, binary, choose, resize, quantifier}
use Rattle.hk_copy.proofs.ReadingLaws.{every_tuple-copied}

-- a copy has the width of its term
pub copies-width : (nodes : List Node) → AllFitIn (reverse nodes) → {env : Stands} {t r : ℕ} → Copies nodes env t r → width nodes r ≡ width nodes t
copies-width nodes fit {t = t} {r = r} (constant n within at is) = (holds nodes r _ fit at).width_is
copies-width nodes fit {t = t} {r = r} (plain size id from to none) = (holds nodes r _ fit to).width_is ∙ sym (holds nodes t _ fit from).width_is
copies-width nodes fit {t = t} {r = r} (stands size id other from found to) = (holds nodes r _ fit to).width_is ∙ sym (holds nodes t _ fit from).width_is
copies-width nodes fit {t = t} {r = r} (resized size id wide other kind p from found its to cut) = (holds nodes r _ fit to).width_is ∙ sym (holds nodes t _ fit from).width_is
copies-width nodes fit {t = t} {r = r} (select array size i j from to index) = (holds nodes r _ fit to).width_is ∙ sym (holds nodes t _ fit from).width_is
copies-width nodes fit {t = t} {r = r} (unary kind a x from to first) =
    (holds nodes r _ fit to).width_is ∙ copies-width nodes fit first ∙ sym (holds nodes t _ fit from).width_is
copies-width nodes fit {t = t} {r = r} (binary kind a b x y from to first second) =
    (holds nodes r _ fit to).width_is ∙ (λ i. binary_width kind (copies-width nodes fit first i) (copies-width nodes fit second i)) ∙ sym (holds nodes t _ fit from).width_is
copies-width nodes fit {t = t} {r = r} (choose c a b z x y from to test first second) =
    (holds nodes r _ fit to).width_is ∙ copies-width nodes fit first ∙ sym (holds nodes t _ fit from).width_is
copies-width nodes fit {t = t} {r = r} (resize kind to a x from at first) = (holds nodes r _ fit at).width_is ∙ sym (holds nodes t _ fit from).width_is
copies-width nodes fit {t = t} {r = r} (quantifier bound a x from to apart body) = (holds nodes r _ fit to).width_is ∙ sym (holds nodes t _ fit from).width_is

-- a cut takes the lowest bits, where they are more than the number has, all of it
cut-value : (kind : TermResize) (from to n : ℕ) → IsCut kind from to → resize_value kind from to (n % 2 ^ from) ≡ n % 2 ^ from % 2 ^ to
cut-value kind from to n (inl p) =
    let below : n % 2 ^ from < 2 ^ to = omega (arith, mod-lt n (pow_pos from), pow-le-pow_right {n = 2} (omega arith) {i = from} {j = to} p.1) in
    ap (λ k. resize_value k from to (n % 2 ^ from)) p.0 ∙ sym (mod-eq_of_lt below)
cut-value kind from to n (inr e) = ap (λ k. resize_value k from to (n % 2 ^ from)) e ∙ ap (λ m. m % 2 ^ to) (div-one (n % 2 ^ from))

-- a copy has the value of its term under the replaced reading
pub copies-value : (nodes : List Node) → AllFitIn (reverse nodes) → {env : Stands} {t r : ℕ} → Copies nodes env t r → (v : Reading) → value nodes r v ≡ value nodes t (replaced env v)
copies-value nodes fit {env} {t} {r} (constant n within at is) v = (holds nodes r _ fit at).value_is v ∙ sym (is v)
copies-value nodes fit {env} {t} {r} (plain size id from to none) v =
    (holds nodes r _ fit to).value_is v ∙ ap (λ o. number_of v o id % 2 ^ size) (sym none) ∙ sym ((holds nodes t _ fit from).value_is (replaced env v))
copies-value nodes fit {env} {t} {r} (stands size id other from found to) v =
    (holds nodes r _ fit to).value_is v ∙ sym (mod-mod (v.var other) (2 ^ size)) ∙ ap (λ o. number_of v o id % 2 ^ size) (sym found)
    ∙ sym ((holds nodes t _ fit from).value_is (replaced env v))
copies-value nodes fit {env} {t} {r} (resized size id wide other kind p from found its to cut) v =
    (holds nodes r _ fit to).value_is v
    ∙ (λ i. resize_value kind ((holds nodes p _ fit its).width_is i) size ((holds nodes p _ fit its).value_is v i))
    ∙ cut-value kind wide size (v.var other) cut ∙ ap (λ o. number_of v o id % 2 ^ size) (sym found)
    ∙ sym ((holds nodes t _ fit from).value_is (replaced env v))
copies-value nodes fit {env} {t} {r} (select array size i j from to index) v =
    (holds nodes r _ fit to).value_is v ∙ ap (λ k. v.entry array k % 2 ^ size) (copies-value nodes fit index v)
    ∙ sym ((holds nodes t _ fit from).value_is (replaced env v))
copies-value nodes fit {env} {t} {r} (unary kind a x from to first) v =
    (holds nodes r _ fit to).value_is v ∙ (λ i. unary_value kind (copies-width nodes fit first i) (copies-value nodes fit first v i))
    ∙ sym ((holds nodes t _ fit from).value_is (replaced env v))
copies-value nodes fit {env} {t} {r} (binary kind a b x y from to first second) v =
    (holds nodes r _ fit to).value_is v
    ∙ (λ i. binary_value kind (copies-width nodes fit first i) (copies-width nodes fit second i) (copies-value nodes fit first v i) (copies-value nodes fit second v i))
    ∙ sym ((holds nodes t _ fit from).value_is (replaced env v))
copies-value nodes fit {env} {t} {r} (choose c a b z x y from to test first second) v =
    (holds nodes r _ fit to).value_is v
    ∙ (λ i. cond (nat_eq (copies-value nodes fit test v i) 1) (copies-value nodes fit first v i) (copies-value nodes fit second v i))
    ∙ sym ((holds nodes t _ fit from).value_is (replaced env v))
copies-value nodes fit {env} {t} {r} (resize kind to a x from at first) v =
    (holds nodes r _ fit at).value_is v ∙ (λ i. resize_value kind (copies-width nodes fit first i) to (copies-value nodes fit first v i))
    ∙ sym ((holds nodes t _ fit from).value_is (replaced env v))
copies-value nodes fit {env} {t} {r} (quantifier bound a x from to apart body) v =
    (holds nodes r _ fit to).value_is v
    ∙ ap bit (every_tuple-copied bound env (λ u. nat_eq (value nodes x u) 1) (λ u. nat_eq (value nodes a u) 1) v apart (λ u. ap (λ n. nat_eq n 1) (copies-value nodes fit body u)))
    ∙ sym ((holds nodes t _ fit from).value_is (replaced env v))

-- ---- a longer list

module _ (nodes more : List Node) where
  still : (k : ℕ) (n : Node) → slice_get nodes k ≡ Some n → slice_get (nodes ++ more) k ≡ Some n
  still k n e = slice_get-append nodes more k (slice_get_within nodes k n e) ∙ e

  -- a copy is one in a longer list too
  pub copies-more : {env : Stands} {t r : ℕ} → Copies nodes env t r → Copies (nodes ++ more) env t r
  copies-more {env} {t} {r} (constant n within at is) =
      constant n (omega (arith, within, length-append nodes more))
      (still r _ at ∙ ap (λ w. Some (Const w n)) (sym (width-grows nodes more t within)))
      (λ v. value-grows nodes more t (replaced env v) within ∙ is v)
  copies-more {env} {t} {r} (plain size id from to none) = plain size id (still t _ from) (still r _ to) none
  copies-more {env} {t} {r} (stands size id other from found to) = stands size id other (still t _ from) found (still r _ to)
  copies-more {env} {t} {r} (resized size id wide other kind p from found its to cut) =
      resized size id wide other kind p (still t _ from) found (still p _ its) (still r _ to) cut
  copies-more {env} {t} {r} (select array size i j from to index) = select array size i j (still t _ from) (still r _ to) (copies-more index)
  copies-more {env} {t} {r} (unary kind a x from to first) = unary kind a x (still t _ from) (still r _ to) (copies-more first)
  copies-more {env} {t} {r} (binary kind a b x y from to first second) =
      binary kind a b x y (still t _ from) (still r _ to) (copies-more first) (copies-more second)
  copies-more {env} {t} {r} (choose c a b z x y from to test first second) =
      choose c a b z x y (still t _ from) (still r _ to) (copies-more test) (copies-more first) (copies-more second)
  copies-more {env} {t} {r} (resize kind to a x from at first) = resize kind to a x (still t _ from) (still r _ at) (copies-more first)
  copies-more {env} {t} {r} (quantifier bound a x from to apart body) =
      quantifier bound a x (still t _ from) (still r _ to) apart (copies-more body)

pub copies-grows : (old new : List Node) → Grows old new → (env : Stands) (t r : ℕ) → Copies old env t r → Copies new env t r
copies-grows old new g env t r c = subst (λ ns. Copies ns env t r) (sym g.is) (copies-more old g.more c)
