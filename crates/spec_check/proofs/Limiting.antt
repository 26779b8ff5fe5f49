-- What is within its limits by the tests is so.
use Rattle.std.proofs.Common.{◌≡◌, ℕ, ◌≤◌, ◌<◌, ◌+◌, ◌⊎◌, inl, inr, Bool, true, false, List, [], ◌∷◌, length, refl, sym, ap, ◌∙◌, arith, eqb-true, leb-true, leb-false}
use Rattle.std.proofs.Math.Dec.{leb}
use Rattle.std.proofs.lemmas.Bool.Decides.{leb_tells}
use Rattle.std.proofs.lemmas.List.Sums.{AllPass-from_list_all}
use Rattle.std.specs.Prelude.{◌^◌, ◌&&◌, nat_le, nat_eq, sum_by, fold}
use Rattle.std.specs.List.{All, list_all}
use Rattle.spec_ast.specs.Raw.{Line}
use Rattle.spec_tree.specs.Plain.{Key, Field, Spec}
use Rattle.spec_tree.specs.Sorted.{IsWidth, IsIndexSort, IsFieldSort, product, key_sizes, sort_of}
use Rattle.spec_names.specs.Kernel.{Kernel}
use Rattle.spec_scope.specs.Scope.{is_width}
use Rattle.spec_lines.specs.Sorts.{cut, is_index, tuples_of}
use Rattle.spec_lines.specs.Behind.{fields_of, begin}
use Rattle.spec_lines.proofs.Cutting.{tuples_are}
use Rattle.spec_sound.specs.Limits.{copies_stand, IsWithin}
use Rattle.spec_check.specs.Within.{is_index_sort, has_sort, entries_from, is_within}

both : (a b : Bool) → (a && b) ≡ true → (a ≡ true) × (b ≡ true)
both true b e = (refl, e)
both false b e = absurd (cc e)

all_of : {X : Type 0} (test : X → Bool) (P : X → Type 0) → ((x : X) → test x ≡ true → P x) → (xs : List X) → list_all test xs ≡ true → All P xs
all_of test P from xs e = λ k d l. from _ (AllPass-from_list_all test xs e k d l)

width_of : (w : ℕ) → is_width w ≡ true → IsWidth w
width_of w e =
    let p = both (nat_le 1 w) (nat_le w 64) e in
    (leb-true 1 w p.0, leb-true w 64 p.1)

index_of : (k : Key) → is_index_sort k ≡ true → IsIndexSort k.width k.size
index_of k e =
    let p = both (is_width k.width) (nat_le 1 k.size && (nat_le k.size 65536 && nat_le k.size (2 ^ k.width))) e in
    let q = both (nat_le 1 k.size) (nat_le k.size 65536 && nat_le k.size (2 ^ k.width)) p.1 in
    let r = both (nat_le k.size 65536) (nat_le k.size (2 ^ k.width)) q.1 in
    (width_of k.width p.0, (leb-true 1 k.size q.0, leb-true k.size 65536 r.0), leb-true k.size (2 ^ k.width) r.1)

-- ---- entries

small : (n : ℕ) → n ≤ 4194304 → cut n ≡ n
small n h = grind (arith, h)

large : (n : ℕ) → 4194304 < n → cut n ≡ 4194305
large n h = grind (arith, h)

told_by : (n m : ℕ) → m ≤ 4194304 → cut n ≤ m → ((leb n 4194304 ≡ true) × (n ≤ 4194304)) ⊎ ((leb n 4194304 ≡ false) × (4194304 < n)) → n ≤ m
told_by n m most h (inl p) = let e = small n p.1 in omega (arith, e, h)
told_by n m most h (inr p) = let e = large n p.1 in absurd (omega (arith, e, h, most))

-- what is not cut is told
told : (n m : ℕ) → m ≤ 4194304 → cut n ≤ m → n ≤ m
told n m most h = told_by n m most h (leb_tells n 4194304)

abbrev Size : ℕ → Type 0
Size n = ((leb n 4194304 ≡ true) × (n ≤ 4194304)) ⊎ ((leb n 4194304 ≡ false) × (4194304 < n))

sum_by_sizes : (a b : ℕ) → Size a → Size b → cut (cut a + cut b) ≡ cut (a + b)
sum_by_sizes a b (inl p) (inl q) = let e = small a p.1 in let f = small b q.1 in ap (λ n. cut (n + cut b)) e ∙ ap (λ n. cut (a + n)) f
sum_by_sizes a b (inr p) q =
    let e = large a p.1 in
    ap (λ n. cut (n + cut b)) e ∙ (large (4194305 + cut b) (omega arith) ∙ sym (large (a + b) (omega (arith, p.1))))
sum_by_sizes a b (inl p) (inr q) =
    let f = large b q.1 in
    ap (λ n. cut (cut a + n)) f ∙ (large (cut a + 4194305) (omega arith) ∙ sym (large (a + b) (omega (arith, q.1))))

cut_sum : (a b : ℕ) → cut (cut a + cut b) ≡ cut (a + b)
cut_sum a b = sum_by_sizes a b (leb_tells a 4194304) (leb_tells b 4194304)

abbrev entries_in : Field → ℕ
entries_in f = product (key_sizes f.keys)

entries_cut : (n : ℕ) (fs : List Field) → entries_from (cut n) fs ≡ cut (fold (λ a f. a + entries_in f) n fs)
entries_cut n [] = refl
entries_cut n (f ∷ fs) =
    ap (λ p. entries_from (cut (cut n + p)) fs) (tuples_are f.keys)
    ∙ (ap (λ p. entries_from p fs) (cut_sum n (entries_in f)) ∙ entries_cut (n + entries_in f) fs)

entries_told : (fs : List Field) → entries_from 0 fs ≤ 4194304 → sum_by entries_in fs ≤ 4194304
entries_told fs h =
    let e : entries_from 0 fs ≡ cut (sum_by entries_in fs) = entries_cut 0 fs in
    told (sum_by entries_in fs) 4194304 (omega arith) (omega (arith, h, e))

-- ---- sorts

sort_of_field : (f : Field) → has_sort f ≡ true → IsFieldSort (sort_of f)
sort_of_field f e =
    let p = both (list_all is_index_sort f.keys) (nat_le (length f.keys) 4 && (nat_le (tuples_of f.keys) (2 ^ 20) && is_width f.width)) e in
    let q = both (nat_le (length f.keys) 4) (nat_le (tuples_of f.keys) (2 ^ 20) && is_width f.width) p.1 in
    let r = both (nat_le (tuples_of f.keys) (2 ^ 20)) (is_width f.width) q.1 in
    let few = leb-true (tuples_of f.keys) 1048576 r.0 in
    let is : tuples_of f.keys ≡ cut (entries_in f) = tuples_are f.keys in
    record {
      keyed = all_of is_index_sort (λ k. IsIndexSort k.width k.size) index_of f.keys p.0;
      few = leb-true (length f.keys) 4 q.0;
      small = told (entries_in f) 1048576 (omega arith) (omega (arith, few, is));
      wide = width_of f.width r.1;
    }

pub within : (count : ℕ) (k : Kernel) (raw : List Line) (spec : Spec) → is_within count spec ≡ true → count ≡ length (fields_of k raw)
    → copies_stand (begin k raw) raw ≡ true → IsWithin k raw spec
within count k raw spec e counted copies =
    let p = both (nat_eq (length spec.fields) count) (list_all has_sort spec.fields && (nat_le (entries_from 0 spec.fields) (2 ^ 22) && nat_le (length spec.transitions) 256)) e in
    let q = both (list_all has_sort spec.fields) (nat_le (entries_from 0 spec.fields) (2 ^ 22) && nat_le (length spec.transitions) 256) p.1 in
    let r = both (nat_le (entries_from 0 spec.fields) (2 ^ 22)) (nat_le (length spec.transitions) 256) q.1 in
    record {
      counted = eqb-true (length spec.fields) count p.0 ∙ counted;
      sorts = all_of has_sort (λ f. IsFieldSort (sort_of f)) sort_of_field spec.fields q.0;
      entries = entries_told spec.fields (leb-true (entries_from 0 spec.fields) 4194304 r.0);
      handlers = leb-true (length spec.transitions) 256 r.1;
      copies = copies;
    }
