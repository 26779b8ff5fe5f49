-- Laws of lists of items, one more at a time.
use Rattle.std.proofs.Common.{◌≡◌, ℕ, ◌+◌, ◌*◌, ◌<◌, ◌≤◌, Bool, true, ◌&&◌, nat_eq, List, [], ◌∷◌, length, get_or, take, sum_by, arith, ap, sym, subst, ◌∙◌, refl}
use Rattle.std.specs.Cmp.{first_so, second_so}
use Rattle.std.proofs.lemmas.Bool.{eqb-true}
use Rattle.std.proofs.lemmas.List.{take_all}
use Rattle.std.proofs.lemmas.List.Sums.{sum_by_more, sum_by-cons}
use Rattle.hk_range.specs.Linear.{InEnds, left_items, right_items, only_first}
use Rattle.hk_range.specs.declared.ends.Ends.{Ends}
use Rattle.hk_range.specs.declared.sums.Item.{Item}

more : (g : Item → ℕ) (xs : List Item) (i : ℕ) (it : Item) → i < length xs → it ≡ get_or xs i it → sum_by g (take (i + 1) xs) ≡ sum_by g (take i xs) + g it
more g xs i it h is = sum_by_more g xs i it h ∙ ap (λ (j : Item). sum_by g (take i xs) + g j) (sym is)

-- the ranges of sums with an item more, and of all
pub ends_more : (m : Ends) (f : ℕ → ℕ) (xs : List Item) (i : ℕ) (it : Item) (l r : ℕ) → i < length xs → it ≡ get_or xs i it
    → InEnds m ((l + left_items f (take i xs)) + it.left * f it.term) ((r + right_items f (take i xs)) + it.right * f it.term) → InEnds m (l + left_items f (take (i + 1) xs)) (r + right_items f (take (i + 1) xs))
ends_more m f xs i it l r h is e =
    let p : left_items f (take (i + 1) xs) ≡ left_items f (take i xs) + it.left * f it.term = more (λ (j : Item). j.left * f j.term) xs i it h is in
    let q : right_items f (take (i + 1) xs) ≡ right_items f (take i xs) + it.right * f it.term = more (λ (j : Item). j.right * f j.term) xs i it h is in
    let a : (l + left_items f (take i xs)) + it.left * f it.term ≡ l + left_items f (take (i + 1) xs) = omega (arith, p) in
    let b : (r + right_items f (take i xs)) + it.right * f it.term ≡ r + right_items f (take (i + 1) xs) = omega (arith, q) in
    subst (λ y. InEnds m (l + left_items f (take (i + 1) xs)) y) b (subst (λ x. InEnds m x ((r + right_items f (take i xs)) + it.right * f it.term)) a e)

pub ends_all : (m : Ends) (f : ℕ → ℕ) (xs : List Item) (i l r : ℕ) → length xs ≤ i → InEnds m (l + left_items f (take i xs)) (r + right_items f (take i xs)) → InEnds m (l + left_items f xs) (r + right_items f xs)
ends_all m f xs i l r h e = subst (λ ys. InEnds m (l + left_items f ys) (r + right_items f ys)) (take_all i xs h) e

-- items of which none stands in the second sum
pub none_second : (f : ℕ → ℕ) (xs : List Item) → only_first xs ≡ true → right_items f xs ≡ 0
none_second f xs e = by xs e
  where
    by : (ys : List Item) → only_first ys ≡ true → right_items f ys ≡ 0
    by [] h = refl
    by (y ∷ ys) h =
        let zero : y.right ≡ 0 = eqb-true y.right 0 (first_so (nat_eq y.right 0) (only_first ys) h) in
        let rest : right_items f ys ≡ 0 = by ys (second_so (nat_eq y.right 0) (only_first ys) h) in
        let part : y.right * f y.term ≡ 0 * f y.term = ap (λ n. n * f y.term) zero in
        let whole : right_items f (y ∷ ys) ≡ y.right * f y.term + right_items f ys = sum_by-cons (λ (j : Item). j.right * f j.term) y ys in
        omega (arith, whole, part, rest)
