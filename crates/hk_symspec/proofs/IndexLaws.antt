-- Index tuples as terms.
use Rattle.std.proofs.Common.{◌≡◌, ℕ, zero, suc, ◌+◌, ◌<◌, ◌≤◌, Bool, true, false, ◌&&◌, Some, List, [], ◌∷◌, length, drop, refl, sym, ◌∙◌, ap, subst, arith, add-one}
use Rattle.std.specs.Prelude.{slice_get, nat_lt, bit_and}
use Rattle.std.proofs.lemmas.Bool.{lt-ltb}
use Rattle.hk_term.specs.Operations.{bit}
use Rattle.hk_term.specs.Shape.{width}
use Rattle.hk_term.specs.Meaning.{Reading, value}
use Rattle.hk_term.specs.declared.node.Node.{Node}
use Rattle.spec_tree.specs.Plain.{Key}
use Rattle.hk_symexpr.specs.Naming.{AreIndexTerms, AreLimited, index_values}
use Rattle.hk_symexpr.specs.declared.names.Limit.{Limit}
use Rattle.hk_symspec.specs.Ranges.{in_range}
use Rattle.hk_symspec.proofs.Turning.{left_at, none_left}

both_bits : (p q : Bool) → bit_and (bit p) (bit q) ≡ bit (p && q)
both_bits true true = refl
both_bits true false = refl
both_bits false true = refl
both_bits false false = refl

pub both_is : (a b : ℕ) (p q : Bool) → a ≡ bit p → b ≡ bit q → bit_and a b ≡ bit (p && q)
both_is a b p q ea eb = (λ i. bit_and (ea i) (eb i)) ∙ both_bits p q

pub surely : (n size : ℕ) → n < size → 1 ≡ bit (nat_lt n size)
surely n size l = ap bit (sym (lt-ltb n size l))

pub index_length : (nodes : List Node) (keys : List Key) (index : List Limit) → AreIndexTerms nodes keys index → length index ≡ length keys
index_length nodes [] index h = ap length h
index_length nodes (k ∷ ks) [] h = absurd h
index_length nodes (k ∷ ks) (i ∷ is) h = ap suc (index_length nodes ks is h.2)

pub index_at : (nodes : List Node) (keys : List Key) (index : List Limit) (k : ℕ) (key : Key) (i : Limit) → AreIndexTerms nodes keys index
    → slice_get keys k ≡ Some key → slice_get index k ≡ Some i → (i.term < length nodes) × (width nodes i.term ≡ key.width)
index_at nodes [] index k key i h a b = cc
index_at nodes (x ∷ ks) [] k key i h a b = absurd h
index_at nodes (x ∷ ks) (y ∷ is) zero key i h a b =
    let e : x ≡ key = cc in let d : y ≡ i = cc in
    let P : Limit → Type 0 = λ z. z.term < length nodes in
    (subst P d h.0, ap (λ z. width nodes z.term) (sym d) ∙ h.1 ∙ ap (λ z. z.width) e)
index_at nodes (x ∷ ks) (y ∷ is) (suc k) key i h a b = index_at nodes ks is k key i h.2 a b

pub limited_at : (nodes : List Node) (v : Reading) (index : List Limit) (k : ℕ) (i : Limit) → AreLimited nodes index v → slice_get index k ≡ Some i → value nodes i.term v ≤ i.most
limited_at nodes v [] k i h a = cc
limited_at nodes v (x ∷ is) zero i h a =
    let d : x ≡ i = cc in
    let P : Limit → Type 0 = λ z. value nodes z.term v ≤ z.most in
    subst P d (h 0 x (omega arith))
limited_at nodes v (x ∷ is) (suc k) i h a = limited_at nodes v is k i (λ n d l. h (suc n) d (omega (arith, l))) a

-- the tests that were made, and those that are left
pub record Tests (nodes : List Node) (keys : List Key) (index : List Limit) (k : ℕ) (v : Reading) (n : ℕ) : Type 0 where
  pub so : Bool
  pub is : n ≡ bit so
  pub left : (so && in_range (drop k keys) (index_values nodes (drop k index) v)) ≡ in_range keys (index_values nodes index v)

and_assoc : (a b c : Bool) → ((a && b) && c) ≡ (a && (b && c))
and_assoc true b c = refl
and_assoc false b c = refl

and_true : (a : Bool) → (a && true) ≡ a
and_true true = refl
and_true false = refl

pub tests_begin : (nodes : List Node) (keys : List Key) (index : List Limit) (v : Reading) → Tests nodes keys index 0 v 1
tests_begin nodes keys index v = record { so = true; is = refl; left = refl }

pub tests_on : (nodes : List Node) (keys : List Key) (index : List Limit) (k : ℕ) (v : Reading) (n m : ℕ) (key : Key) (i : Limit)
    → slice_get keys k ≡ Some key → slice_get index k ≡ Some i
    → ((p q : Bool) → n ≡ bit p → bit (nat_lt (value nodes i.term v) key.size) ≡ bit q → m ≡ bit (p && q))
    → Tests nodes keys index k v n → Tests nodes keys index (k + 1) v m
tests_on nodes keys index k v n m key i a b step t = record {
  so = t.so && nat_lt (value nodes i.term v) key.size;
  is = step t.so (nat_lt (value nodes i.term v) key.size) t.is refl;
  left = ap (λ q. (t.so && nat_lt (value nodes i.term v) key.size) && in_range (drop q keys) (index_values nodes (drop q index) v)) (add-one k)
      ∙ and_assoc t.so (nat_lt (value nodes i.term v) key.size) (in_range (drop (suc k) keys) (index_values nodes (drop (suc k) index) v))
      ∙ ap (λ r. t.so && r) (sym next) ∙ t.left;
}
  where
    next : in_range (drop k keys) (index_values nodes (drop k index) v) ≡ (nat_lt (value nodes i.term v) key.size && in_range (drop (suc k) keys) (index_values nodes (drop (suc k) index) v))
    next = ap (λ l. in_range l (index_values nodes (drop k index) v)) (left_at keys k key a) ∙ ap (λ l. in_range (key ∷ drop (suc k) keys) (index_values nodes l v)) (left_at index k i b)

pub tests_end : (nodes : List Node) (keys : List Key) (index : List Limit) (k : ℕ) (v : Reading) (n : ℕ) → length keys ≤ k → Tests nodes keys index k v n
    → n ≡ bit (in_range keys (index_values nodes index v))
tests_end nodes keys index k v n high t =
    t.is ∙ ap bit (sym (and_true t.so) ∙ ap (λ l. t.so && in_range l (index_values nodes (drop k index) v)) (sym (none_left keys k high)) ∙ t.left)
