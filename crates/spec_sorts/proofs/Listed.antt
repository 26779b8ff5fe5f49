-- Distinct names that are all among as many: the same ones, in another order.
use Rattle.std.proofs.Common.{◌≡◌, ℕ, suc, ◌+◌, ◌*◌, Bool, true, false, ◌||◌, not, List, [], ◌∷◌, ◌++◌, map, length, refl, sym, ◌∙◌, ap, subst, mul_assoc, mul_comm, arith}
use Rattle.std.specs.Prelude.{bytes_eq}
use Rattle.std.specs.List.{list_all}
use Rattle.std.specs.Cmp.Lexicographic.{same_text}
use Rattle.std.proofs.lemmas.List.{length-append}
use Rattle.std.proofs.lemmas.Slice.Eq.{bytes_eq-Decides}
use Rattle.spec_tree.specs.Sorted.{product}
use Rattle.spec_names.specs.Kernel.{Name}
use Rattle.spec_scope.specs.Scope.{is_among}
use Rattle.spec_lines.specs.Equations.{are_distinct}
use Rattle.spec_sorts.proofs.Small.{neither, both_are}

-- ---- tests of names

pub name_is : (x : Name) → bytes_eq x x ≡ true
name_is x = (bytes_eq-Decides x x).1 refl

no_truth : true ≡ false → ⊥
no_truth e = cc

turned_by : (t : Bool) (x z : Name) → bytes_eq z x ≡ t → bytes_eq x z ≡ false → bytes_eq z x ≡ false
turned_by false x z e h = e
turned_by true x z e h =
    let same : z ≡ x = same_text z x (sym e) in absurd (no_truth (sym (name_is x) ∙ ap (bytes_eq x) (sym same) ∙ h))

pub turned : (x z : Name) → bytes_eq x z ≡ false → bytes_eq z x ≡ false
turned x z h = turned_by (bytes_eq z x) x z refl h

pub not_not : (t : Bool) → not t ≡ true → t ≡ false
not_not true h = cc
not_not false h = refl

or_swap : (a b r : Bool) → (a || (b || r)) ≡ (b || (a || r))
or_swap true true r = refl
or_swap true false r = refl
or_swap false b r = refl

times_swap : (a b r : ℕ) → a * (b * r) ≡ b * (a * r)
times_swap a b r = sym (mul_assoc a b r) ∙ ap (λ n. n * r) (mul_comm a b) ∙ mul_assoc b a r

-- ---- a name among others

pub record Split (x : Name) (ys : List Name) : Type 0 where
  pub front : List Name
  pub back : List Name
  pub is : ys ≡ front ++ x ∷ back

split_by : (t : Bool) (x y : Name) (ys : List Name) → bytes_eq x y ≡ t → (t || is_among x ys) ≡ true → (is_among x ys ≡ true → Split x ys) → Split x (y ∷ ys)
split_by true x y ys e h on = record { front = []; back = ys; is = ap (λ (z : Name). z ∷ ys) (sym (same_text x y (sym e))) }
split_by false x y ys e h on = let p = on h in record { front = y ∷ p.front; back = p.back; is = ap (λ (zs : List Name). y ∷ zs) p.is }

split : (x : Name) (ys : List Name) → is_among x ys ≡ true → Split x ys
split x [] h = cc
split x (y ∷ ys) h = split_by (bytes_eq x y) x y ys refl h (split x ys)

among_with : (z x : Name) (front back : List Name) → is_among z (front ++ x ∷ back) ≡ (bytes_eq z x || is_among z (front ++ back))
among_with z x [] back = refl
among_with z x (y ∷ front) back =
    ap (λ (t : Bool). bytes_eq z y || t) (among_with z x front back) ∙ or_swap (bytes_eq z y) (bytes_eq z x) (is_among z (front ++ back))

among_other : (z x : Name) (front back : List Name) → bytes_eq z x ≡ false → is_among z (front ++ x ∷ back) ≡ is_among z (front ++ back)
among_other z x front back e = among_with z x front back ∙ ap (λ (t : Bool). t || is_among z (front ++ back)) e

product_with : (f : Name → ℕ) (x : Name) (front back : List Name) → product (map f (front ++ x ∷ back)) ≡ f x * product (map f (front ++ back))
product_with f x [] back = refl
product_with f x (y ∷ front) back = ap (λ (n : ℕ). f y * n) (product_with f x front back) ∙ times_swap (f y) (f x) (product (map f (front ++ back)))

distinct_with : (x : Name) (front back : List Name) → are_distinct (front ++ back) ≡ true → is_among x (front ++ back) ≡ false → are_distinct (front ++ x ∷ back) ≡ true
distinct_with x [] back d h = rw (d, h) refl
distinct_with x (y ∷ front) back d h =
    let p = both_are (not (is_among y (front ++ back))) (are_distinct (front ++ back)) d in
    let n = neither (bytes_eq x y) (is_among x (front ++ back)) h in
    let apart : is_among y (front ++ x ∷ back) ≡ false = among_other y x front back (turned x y n.0) ∙ not_not (is_among y (front ++ back)) p.0 in
    let rest : are_distinct (front ++ x ∷ back) ≡ true = distinct_with x front back p.1 n.1 in
    rw (apart, rest) refl

still : (x : Name) (front back xs : List Name) → is_among x xs ≡ false → list_all (λ z. is_among z (front ++ x ∷ back)) xs ≡ true
    → list_all (λ z. is_among z (front ++ back)) xs ≡ true
still x front back [] h all = refl
still x front back (z ∷ xs) h all =
    let n = neither (bytes_eq x z) (is_among x xs) h in
    let p = both_are (is_among z (front ++ x ∷ back)) (list_all (λ z. is_among z (front ++ x ∷ back)) xs) all in
    let one : is_among z (front ++ back) ≡ true = sym (among_other z x front back (turned x z n.0)) ∙ p.0 in
    let rest : list_all (λ z. is_among z (front ++ back)) xs ≡ true = still x front back xs n.1 p.1 in
    rw (one, rest) refl

-- ---- the same names

pub record Arranged (f : Name → ℕ) (xs ys : List Name) : Type 0 where
  pub distinct : are_distinct ys ≡ true
  pub among : (z : Name) → is_among z xs ≡ is_among z ys
  pub tuples : product (map f xs) ≡ product (map f ys)

arranged_at : (f : Name → ℕ) (x : Name) (xs front back : List Name) → is_among x xs ≡ false → Arranged f xs (front ++ back) → Arranged f (x ∷ xs) (front ++ x ∷ back)
arranged_at f x xs front back h a = record {
  distinct = distinct_with x front back a.distinct (sym (a.among x) ∙ h);
  among = λ z. ap (λ (t : Bool). bytes_eq z x || t) (a.among z) ∙ sym (among_with z x front back);
  tuples = ap (λ (n : ℕ). f x * n) a.tuples ∙ sym (product_with f x front back);
}

one_less : (n m k : ℕ) → suc n ≡ m + suc k → n ≡ m + k
one_less n m k h = omega (arith, h)

shorter : (x : Name) (xs front back : List Name) → length (x ∷ xs) ≡ length (front ++ x ∷ back) → length xs ≡ length (front ++ back)
shorter x xs front back h =
    one_less (length xs) (length front) (length back) (h ∙ length-append front (x ∷ back)) ∙ sym (length-append front back)

pub arranged : (f : Name → ℕ) (xs ys : List Name) → are_distinct xs ≡ true → length xs ≡ length ys → list_all (λ z. is_among z ys) xs ≡ true → Arranged f xs ys
arranged f [] [] d l all = record { distinct = refl; among = λ z. refl; tuples = refl }
arranged f [] (y ∷ ys) d l all = absurd (omega (arith, l))
arranged f (x ∷ xs) ys d l all =
    let p = both_are (not (is_among x xs)) (are_distinct xs) d in
    let a = both_are (is_among x ys) (list_all (λ z. is_among z ys) xs) all in
    let s = split x ys a.0 in
    let apart : is_among x xs ≡ false = not_not (is_among x xs) p.0 in
    let rest = still x s.front s.back xs apart (subst (λ (zs : List Name). list_all (λ z. is_among z zs) xs ≡ true) s.is a.1) in
    let len = shorter x xs s.front s.back (l ∙ ap (λ (zs : List Name). length zs) s.is) in
    subst (Arranged f (x ∷ xs)) (sym s.is) (arranged_at f x xs s.front s.back apart (arranged f xs (s.front ++ s.back) p.1 len rest))
