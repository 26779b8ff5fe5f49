-- Truth values that are made one after the other, each of which tells something wherever something else stands.
use Rattle.std.proofs.Common.{◌≡◌, ◌<◌, ◌+◌, ◌↔◌, ◌&&◌, ℕ, zero, suc, Bool, true, false, nat_eq, IsTrue, Some, List, [], ◌∷◌, ◌++◌, length, slice_index, slice_index_or, refl, sym, ap, ◌∙◌, subst, arith}
use Rattle.std.specs.Prelude.{All, slice_get}
use Rattle.std.specs.List.{list_all}
use Rattle.std.proofs.lemmas.Bool.{eq-eqb, eqb-true}
use Rattle.std.proofs.lemmas.List.Elements.{All-nil, All-cons, All-head, All-tail, All-append}
use Rattle.hk_term.specs.Meaning.{Reading}
use Rattle.hk_term.specs.declared.node.Node.{Node}
use Rattle.hk_symvalue.specs.Growth.{Extends}
use Rattle.hk_symvalue.specs.Meaning.{IsTruth, is_true}
use Rattle.spec_tree.specs.Plain.{Named, Spec}
use Rattle.spec_tree.specs.Value.{bit}
use Rattle.hk_oblig.specs.Telling.{TellEach, TellFields}
use Rattle.hk_oblig.proofs.Growing.{true_stays, truths_stay}

-- the first of them, so many: wherever this stands the one at a place tells that
pub record Gathered (nodes : List Node) {D : Type 0} (stands : Reading → D → Type 0) (tells : D → ℕ → Bool → Type 0) (terms : List ℕ) (count : ℕ) : Type 0 where
  pub many : length terms ≡ count
  pub truths : All (IsTruth nodes) terms
  pub told : (v : Reading) (d : D) → stands v d → (k : ℕ) → k < count → tells d k (is_true nodes (slice_index terms k) v)

pub none_gathered : (nodes : List Node) {D : Type 0} (stands : Reading → D → Type 0) (tells : D → ℕ → Bool → Type 0) → Gathered nodes stands tells [] 0
none_gathered nodes stands tells = record { many = refl; truths = All-nil (IsTruth nodes); told = λ v d g k low. absurd (omega (arith, low)) }

at_front : (xs : List ℕ) (x k : ℕ) → k < length xs → slice_index (xs ++ x ∷ []) k ≡ slice_index xs k
at_front [] x k low = absurd (omega (arith, low))
at_front (y ∷ xs) x zero low = refl
at_front (y ∷ xs) x (suc k) low = at_front xs x k (omega (arith, low))

at_end : (xs : List ℕ) (x : ℕ) → slice_index (xs ++ x ∷ []) (length xs) ≡ x
at_end [] x = refl
at_end (y ∷ xs) x = at_end xs x

one_longer : (xs : List ℕ) (x : ℕ) → length (xs ++ x ∷ []) ≡ length xs + 1
one_longer [] x = refl
one_longer (y ∷ xs) x = let e = one_longer xs x in omega (arith, e)

pub one_gathered : (old new : List Node) {D : Type 0} (stands : Reading → D → Type 0) (tells : D → ℕ → Bool → Type 0) (terms : List ℕ) (term count : ℕ) → Extends old new
    → Gathered old stands tells terms count → IsTruth new term → ((v : Reading) (d : D) → stands v d → tells d count (is_true new term v)) → Gathered new stands tells (terms ++ term ∷ []) (count + 1)
one_gathered old new stands tells terms term count grown h truth told = record {
  many = let e = one_longer terms term in omega (arith, e, h.many);
  truths = All-append (IsTruth new) terms (term ∷ []) (truths_stay old new grown terms h.truths) (All-cons (IsTruth new) term [] truth (All-nil (IsTruth new)));
  told = λ v d g k low. by v d g k low (nat_eq k count) refl;
}
  where
    by : (v : Reading) (d : _) → stands v d → (k : ℕ) → k < count + 1 → (b : Bool) → nat_eq k count ≡ b → tells d k (is_true new (slice_index (terms ++ term ∷ []) k) v)
    by v d g k low true e =
        let is : k ≡ count = eqb-true k count e in
        let place : k ≡ length terms = is ∙ sym h.many in
        let there : slice_index (terms ++ term ∷ []) k ≡ term = ap (slice_index (terms ++ term ∷ [])) place ∙ at_end terms term in
        subst (λ t. tells d k (is_true new t v)) (sym there) (subst (λ j. tells d j (is_true new term v)) (sym is) (told v d g))
    by v d g k low false e =
        let other : k ≡ count → ⊥ = λ is. let t : true ≡ false = sym (eq-eqb k count is) ∙ e in cc in
        let less : k < count = omega (arith, low, other) in
        let there : k < length terms = omega (arith, less, h.many) in
        let same : is_true new (slice_index (terms ++ term ∷ []) k) v ≡ is_true old (slice_index terms k) v =
        ap (λ t. is_true new t v) (at_front terms term k there) ∙ true_stays old new grown (slice_index terms k) (h.truths k 0 there) v in
        subst (tells d k) (sym same) (h.told v d g k less)

-- ---- what they tell in the end

-- of a list of invariants or properties
abbrev pub tells_named : {D : Type 0} → List Named → (D → Named → Bool) → D → ℕ → Bool → Type 0
tells_named named holds d k b = (n : Named) → slice_get named k ≡ Some n → b ≡ holds d n

found_below : {X : Type 0} (xs : List X) (k : ℕ) (x : X) → slice_get xs k ≡ Some x → k < length xs
found_below [] zero x g = cc
found_below [] (suc k) x g = cc
found_below (y ∷ xs) zero x g = omega arith
found_below (y ∷ xs) (suc k) x g = let low = found_below xs k x g in omega (arith, low)

pub each_told : (nodes : List Node) {D : Type 0} (stands : Reading → D → Type 0) (named : List Named) (holds : D → Named → Bool) (terms : List ℕ) (count : ℕ) → count ≡ length named
    → Gathered nodes stands (tells_named named holds) terms count → (v : Reading) (d : D) → stands v d → TellEach nodes v terms named (holds d)
each_told nodes stands named holds terms count all h v d g = record {
  count = h.many ∙ all;
  each = λ k n at. h.told v d g k (let low = found_below named k n at in omega (arith, low, all)) n at;
}

-- of the fields of two states
abbrev pub tells_fields : List (List ℕ) × List (List ℕ) → ℕ → Bool → Type 0
tells_fields p f b = IsTrue b ↔ (slice_index_or p.0 f [] ≡ slice_index_or p.1 f [])

pub fields_told : (nodes : List Node) (stands : Reading → List (List ℕ) × List (List ℕ) → Type 0) (s : Spec) (terms : List ℕ) (count : ℕ) → count ≡ length s.fields
    → Gathered nodes stands tells_fields terms count → (v : Reading) (x y : List (List ℕ)) → stands v (x, y) → TellFields nodes v terms s x y
fields_told nodes stands s terms count all h v x y g = record {
  count = h.many ∙ all;
  each = λ f low. h.told v (x, y) g f (omega (arith, low, all));
}

-- ---- numbers as truth values

pub bit_is : (n : ℕ) (b : Bool) → n ≡ bit b → nat_eq n 1 ≡ b
bit_is n true e = ap (λ k. nat_eq k 1) e
bit_is n false e = ap (λ k. nat_eq k 1) e

pub one_is : (n : ℕ) (P : Type 0) → (n ≡ 1) ↔ P → IsTrue (nat_eq n 1) ↔ P
one_is n P h = ((λ e. h.0 (eqb-true n 1 e)), (λ p. eq-eqb n 1 (h.1 p)))

pub same_fields : (n f : ℕ) (a b x y : List (List ℕ)) → (n ≡ 1) ↔ (slice_index_or a f [] ≡ slice_index_or b f []) → a ≡ x → b ≡ y
    → IsTrue (nat_eq n 1) ↔ (slice_index_or x f [] ≡ slice_index_or y f [])
same_fields n f a b x y h p q =
    let of : List (List ℕ) → List ℕ = λ l. slice_index_or l f [] in
    one_is n (of x ≡ of y) ((λ e. sym (ap of p) ∙ h.0 e ∙ ap of q), (λ e. h.1 (ap of p ∙ e ∙ sym (ap of q))))

-- ---- conjunctions

-- all of them are true exactly where all that they tell of holds
pub all_told : (nodes : List Node) (v : Reading) (terms : List ℕ) (named : List Named) (holds : Named → Bool) → TellEach nodes v terms named holds
    → IsTrue (list_all (λ k. is_true nodes k v) terms) ↔ All (λ n. holds n ≡ true) named
all_told nodes v [] [] holds h = ((λ e. All-nil (λ n. holds n ≡ true)), (λ a. refl))
all_told nodes v [] (n ∷ named) holds h = absurd (let e = h.count in omega (arith, e))
all_told nodes v (t ∷ terms) [] holds h = absurd (let e = h.count in omega (arith, e))
all_told nodes v (t ∷ terms) (n ∷ named) holds h =
    let first : is_true nodes t v ≡ holds n = h.each 0 n refl in
    let left : TellEach nodes v terms named holds = record { count = (let e = h.count in omega (arith, e)); each = λ k m g. h.each (suc k) m g } in
    let rest = all_told nodes v terms named holds left in (
      (λ e.
          let b = both (is_true nodes t v) (list_all (λ k. is_true nodes k v) terms) e in
          All-cons (λ m. holds m ≡ true) n named (sym first ∙ b.0) (rest.0 b.1)),
      (λ a. joined (is_true nodes t v) (list_all (λ k. is_true nodes k v) terms) (first ∙ All-head (λ m. holds m ≡ true) n named a) (rest.1 (All-tail (λ m. holds m ≡ true) n named a))),
    )
  where
    both : (a b : Bool) → (a && b) ≡ true → (a ≡ true) × (b ≡ true)
    both true b e = (refl, e)
    both false b e = cc

    joined : (a b : Bool) → a ≡ true → b ≡ true → (a && b) ≡ true
    joined true b e f = f
    joined false b e f = cc

pub whole_told : (nodes : List Node) (v : Reading) (terms slice : List ℕ) (named : List Named) (holds : Named → Bool) (b : Bool) → slice ≡ terms → TellEach nodes v terms named holds
    → b ≡ list_all (λ k. is_true nodes k v) slice → IsTrue b ↔ All (λ n. holds n ≡ true) named
whole_told nodes v terms slice named holds b same h is =
    let all = all_told nodes v terms named holds h in
    let e : b ≡ list_all (λ k. is_true nodes k v) terms = is ∙ ap (list_all (λ k. is_true nodes k v)) same in
    ((λ t. all.0 (sym e ∙ t)), (λ a. e ∙ all.1 a))
