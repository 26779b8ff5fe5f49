-- A value depends on the variables that stand in the list alone.
use Rattle.std.proofs.Common.{◌≡◌, ℕ, zero, suc, ◌<◌, ◌%◌, ◌^◌, Bool, cond, nat_eq, List, [], ◌∷◌, length, reverse, Some, arith, refl, sym, ◌∙◌, ap}
use Rattle.std.specs.Prelude.{slice_get}
use Rattle.hk_term.specs.Operations.{bit, unary_value, binary_value, resize_value}
use Rattle.hk_term.specs.Shape.{width, AllFitIn, NodeFits}
use Rattle.hk_term.specs.Meaning.{Reading, with_var, every_below, every_tuple, node_value, value}
use Rattle.hk_term.specs.declared.bounds.Bound.{Bound}
use Rattle.hk_term.specs.declared.node.Node.{Node}
use Rattle.hk_term.specs.declared.node.Node.TheVariants.{Const, Var, Select, Unary, Binary, Choose, Resize, ForAll}
use Rattle.hk_term.proofs.TermLists.{holds}
use Rattle.hk_copy.specs.Stands.{with_tuple}

-- two readings give the variables below an id the same numbers, and all entries
pub record IsAlike (first : ℕ) (v w : Reading) : Type 0 where
  pub var : (id : ℕ) → id < first → v.var id ≡ w.var id
  pub entry : v.entry ≡ w.entry

with_var-alike : (first : ℕ) (v w : Reading) (id k : ℕ) → IsAlike first v w → IsAlike first (with_var v id k) (with_var w id k)
with_var-alike first v w id k h = record { var = λ j l. ap (λ n. cond (nat_eq j id) k n) (h.var j l); entry = h.entry }

pub tuple-alike : (bs : List Bound) (p q : Reading → Bool) (first : ℕ) → ((v w : Reading) → IsAlike first v w → p v ≡ q w) → (v w : Reading) → IsAlike first v w → every_tuple bs p v ≡ every_tuple bs q w
tuple-alike [] p q first h v w a = h v w a
tuple-alike (b ∷ bs) p q first h v w a =
    ap (every_below b.size) (λ i k. tuple-alike bs p q first h (with_var v b.id k) (with_var w b.id k) (with_var-alike first v w b.id k a) i)

pub with_tuple-alike : (bs : List Bound) (ks : List ℕ) (first : ℕ) (v w : Reading) → IsAlike first v w → IsAlike first (with_tuple bs ks v) (with_tuple bs ks w)
with_tuple-alike [] ks first v w a = a
with_tuple-alike (b ∷ bs) [] first v w a = a
with_tuple-alike (b ∷ bs) (k ∷ ks) first v w a = with_tuple-alike bs ks first (with_var v b.id k) (with_var w b.id k) (with_var-alike first v w b.id k a)

pub some-node : (ns : List Node) (j : ℕ) → j < length ns → (n : Node) × (slice_get ns j ≡ Some n)
some-node [] j h = absurd (omega arith)
some-node (m ∷ ns) zero h = (m, refl)
some-node (m ∷ ns) (suc j) h = some-node ns j (omega arith)

module _ (nodes : List Node) (fit : AllFitIn (reverse nodes)) (first made : ℕ) (below : (k size id : ℕ) → k < made → slice_get nodes k ≡ Some (Var size id) → id < first) where
  Same : ℕ → Type 0
  Same t = (v w : Reading) → IsAlike first v w → value nodes t v ≡ value nodes t w

  node-alike : (n : Node) (t : ℕ) → t < made → slice_get nodes t ≡ Some n → NodeFits t (width nodes) n → ((k : ℕ) → k < t → Same k) → (v w : Reading) → IsAlike first v w → node_value n (value nodes) (width nodes) v ≡ node_value n (value nodes) (width nodes) w
  unfolding Same
  node-alike (Const size number) t l at fits e v w a = refl
  node-alike (Var size id) t l at fits e v w a = ap (λ x. x % 2 ^ size) (a.var id (below t size id l at))
  node-alike (Select array size index) t l at fits e v w a = λ i. a.entry i array (e index fits.1 v w a i) % 2 ^ size
  node-alike (Unary kind x) t l at fits e v w a = ap (unary_value kind (width nodes x)) (e x fits v w a)
  node-alike (Binary kind x y) t l at fits e v w a = λ i. binary_value kind (width nodes x) (width nodes y) (e x fits.0 v w a i) (e y fits.1 v w a i)
  node-alike (Choose c x y) t l at fits e v w a = λ i. cond (nat_eq (e c fits.0 v w a i) 1) (e x fits.1 v w a i) (e y fits.2 v w a i)
  node-alike (Resize kind to x) t l at fits e v w a = ap (resize_value kind (width nodes x) to) (e x fits.0 v w a)
  node-alike (ForAll bound body) t l at fits e v w a =
      ap bit (tuple-alike bound (λ u. nat_eq (value nodes body u) 1) (λ u. nat_eq (value nodes body u) 1) first (λ x y b. ap (λ n. nat_eq n 1) (e body fits.0 x y b)) v w a)

  alike-upto : (m t : ℕ) → t < m → t < made → t < length nodes → Same t
  unfolding Same
  alike-upto zero t h l b v w a = absurd (omega arith)
  alike-upto (suc m) t h l b v w a =
      let n = some-node nodes t b in
      let r = holds nodes t n.0 fit n.1 in
      r.value_is v ∙ node-alike n.0 t l n.1 r.fits (λ k d. alike-upto m k (omega (arith, d, h)) (omega (arith, d, l)) (omega (arith, d, b))) v w a ∙ sym (r.value_is w)

  pub value-alike : (t : ℕ) → t < made → t < length nodes → (v w : Reading) → IsAlike first v w → value nodes t v ≡ value nodes t w
  unfolding Same
  value-alike t l b v w a = alike-upto (suc t) t (omega arith) l b v w a
