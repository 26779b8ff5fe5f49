-- Numbers that are not given twice, by those seen so far.
use Rattle.std.proofs.Common.{◌≡◌, ℕ, suc, ◌+◌, ◌<◌, Bool, true, false, not, ◌&&◌, ◌||◌, cond, nat_eq, List, [], ◌∷◌, length, drop, get_or, refl, sym, ◌∙◌, ap, add-one, drop-cons}
use Rattle.std.specs.List.{list_all, list_any}
use Rattle.std.specs.Cmp.{unsigned_ties}
use Rattle.std.specs.Ordering.{nat_cmp}
use Rattle.std.specs.BTreeSet.{BTreeSet, contains, Updates, IsEmpty}
use Rattle.std.specs.BTreeMap.{is_at}
use Rattle.ir_typing.specs.Fits.{all_differ}
use Rattle.ir_typing.specs.Twice.{all_new}

apart : (s : ℕ → Bool) (n : ℕ) (ns : List ℕ) → list_all (λ m. not (nat_eq n m || s m)) ns ≡ (not (list_any (nat_eq n) ns) && list_all (λ m. not (s m)) ns)
apart s n [] = refl
apart s n (m ∷ ns) = ap (λ b. not (nat_eq n m || s m) && b) (apart s n ns) ∙ mixed (nat_eq n m) (s m) (list_any (nat_eq n) ns) (list_all (λ m. not (s m)) ns)
  where
    mixed : (a b c d : Bool) → (not (a || b) && (not c && d)) ≡ (not (a || c) && (not b && d))
    mixed true b c d = refl
    mixed false true true d = refl
    mixed false true false d = refl
    mixed false false c d = refl

all_new_is : (s : ℕ → Bool) (ns : List ℕ) → all_new s ns ≡ (all_differ ns && list_all (λ n. not (s n)) ns)
all_new_is s [] = refl
all_new_is s (n ∷ ns) =
    ap (λ b. not (s n) && b) (all_new_is (λ q. nat_eq n q || s q) ns ∙ ap (λ b. all_differ ns && b) (apart s n ns))
    ∙ mixed (s n) (all_differ ns) (list_any (nat_eq n) ns) (list_all (λ n. not (s n)) ns)
  where
    mixed : (a b c d : Bool) → (not a && (b && (not c && d))) ≡ ((not c && b) && (not a && d))
    mixed true true true d = refl
    mixed true true false d = refl
    mixed true false true d = refl
    mixed true false false d = refl
    mixed false true true d = refl
    mixed false true false d = refl
    mixed false false true d = refl
    mixed false false false d = refl

same_seen : (s t : ℕ → Bool) (ns : List ℕ) → ((q : ℕ) → s q ≡ t q) → all_new s ns ≡ all_new t ns
same_seen s t [] same = refl
same_seen s t (n ∷ ns) same =
    ap (λ b. not b && all_new (λ q. nat_eq n q || s q) ns) (same n)
    ∙ ap (λ b. not (t n) && b) (same_seen (λ q. nat_eq n q || s q) (λ q. nat_eq n q || t q) ns (λ q. ap (λ b. nat_eq n q || b) (same q)))

-- nothing is seen at first
pub none_seen : (set : BTreeSet ℕ) (ns : List ℕ) → IsEmpty set → all_new (contains nat_cmp set) ns ≡ all_differ ns
none_seen set ns empty = same_seen (contains nat_cmp set) (λ q. false) ns (λ q. ap (list_any (λ k. is_at (nat_cmp q) k)) empty) ∙ all_new_is (λ q. false) ns ∙ pick (all_differ ns)
  where
    all_true : (ns : List ℕ) → list_all (λ n. not false) ns ≡ true
    all_true [] = refl
    all_true (n ∷ ns) = all_true ns

    pick : (b : Bool) → (b && list_all (λ n. not false) ns) ≡ b
    pick true = all_true ns
    pick false = refl

-- a number that was not seen is, from now on
pub next_seen : (old new : BTreeSet ℕ) (ns : List ℕ) (i : ℕ) (all : Bool) → i < length ns → contains nat_cmp old (get_or ns i 0) ≡ false → Updates nat_cmp old new (get_or ns i 0) true
    → all_new (contains nat_cmp old) (drop i ns) ≡ all → all_new (contains nat_cmp new) (drop (i + 1) ns) ≡ all
next_seen old new ns i all l fresh updates so_far =
    ap (λ k. all_new (contains nat_cmp new) (drop k ns)) (add-one i)
    ∙ same_seen (contains nat_cmp new) (λ q. nat_eq (get_or ns i 0) q || contains nat_cmp old q) (drop (suc i) ns) (λ q. updates.0 q ∙ ap (λ b. cond b true (contains nat_cmp old q)) (sym (unsigned_ties (get_or ns i 0) q)) ∙ pick (nat_eq (get_or ns i 0) q) (contains nat_cmp old q))
    ∙ sym (ap (λ b. not b && all_new (λ q. nat_eq (get_or ns i 0) q || contains nat_cmp old q) (drop (suc i) ns)) fresh)
    ∙ sym (ap (all_new (contains nat_cmp old)) (drop-cons ns i 0 l))
    ∙ so_far
  where
    pick : (a b : Bool) → cond a true b ≡ (a || b)
    pick true b = refl
    pick false b = refl

-- one that was is given twice
pub seen_twice : (old : BTreeSet ℕ) (ns : List ℕ) (i : ℕ) (all : Bool) → i < length ns → contains nat_cmp old (get_or ns i 0) ≡ true → all_new (contains nat_cmp old) (drop i ns) ≡ all → false ≡ all
seen_twice old ns i all l seen so_far =
    sym (ap (λ b. not b && all_new (λ q. nat_eq (get_or ns i 0) q || contains nat_cmp old q) (drop (suc i) ns)) seen)
    ∙ sym (ap (all_new (contains nat_cmp old)) (drop-cons ns i 0 l))
    ∙ so_far

pub was_seen : (b : Bool) → false ≡ not b → b ≡ true
was_seen true e = refl
was_seen false e = e

pub was_new : (b : Bool) → true ≡ not b → b ≡ false
was_new true e = e
was_new false e = refl
