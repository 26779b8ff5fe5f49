-- Ranks among places that rise rename variables.
use Rattle.std.proofs.Common.{◌≡◌, ℕ, zero, suc, ◌+◌, ◌-◌, ◌*◌, ◌^◌, ◌<◌, ◌≤◌, ◌⊎◌, inl, inr, Bool, true, false, if◌then◌else◌, nat_lt, List, [], ◌∷◌, ◌++◌, length, get_or, map, take, ℤ, pos, negsuc, neg_ℤ, refl, sym, ◌∙◌, ap, subst, arith}
use Rattle.std.proofs.lemmas.Bool.{cases_lt, lt-ltb, le-ltb}
use Rattle.std.proofs.lemmas.Bool.Decides.{Decides-int_eq}
use Rattle.std.proofs.lemmas.List.{get_or_default, get_or_past, map-append, take_more, take_all}
use Rattle.std.proofs.lemmas.List.Elements.{All-push}
use Rattle.std.specs.List.{All}
use Rattle.std.specs.Ordering.{int_eq}
use Rattle.hk_cnf.specs.Literal.{IsLiteral, IsWithin, is_negation, place_of}
use Rattle.hk_cnf.specs.Clauses.{Clauses}
use Rattle.hk_lrat.specs.declared.log.LratRow.{LratRow}
use Rattle.hk_lrat.specs.Log.{is_within, log_fault}
use Rattle.hk_lrat.specs.Ranks.{AreRising, AreSplit, place_at, literal_at, renamed_row}
use Rattle.hk_lrat.proofs.Renaming.{Renames, log-same}

-- a rank of the table
inside : (places : List ℕ) (k d : ℕ) → k < length places → place_at places k ≡ get_or places k d
inside places k d lt = get_or_default places k (2 ^ 64 + k) d lt

-- behind the table
outside : (places : List ℕ) (k : ℕ) → length places ≤ k → place_at places k ≡ 2 ^ 64 + k
outside places k le = get_or_past places k (2 ^ 64 + k) le

small : (places : List ℕ) → All (λ n. n < 2 ^ 64) places → (k : ℕ) → k < length places → place_at places k < 2 ^ 64
small places all k lt = all k (2 ^ 64 + k) lt

-- by cases of two
either : (P Q R : Type 0) → P ⊎ Q → (P → R) → (Q → R) → R
either P Q R (inl p) f g = f p
either P Q R (inr q) f g = g q

rises : (places : List ℕ) → AreRising places → All (λ n. n < 2 ^ 64) places → (m n : ℕ) → m < n → place_at places m < place_at places n
rises places up all m n lt =
    either (n < (length places)) ((length places) ≤ n) (place_at places m < place_at places n) (cases_lt n (length places))
    (λ b. let h : get_or places m 0 < get_or places n 0 = up m n 0 lt b in
    let p : place_at places m ≡ get_or places m 0 = inside places m 0 (omega (arith, lt, b)) in
    let q : place_at places n ≡ get_or places n 0 = inside places n 0 b in omega (arith, h, p, q))
    (λ a. let q : place_at places n ≡ 2 ^ 64 + n = outside places n a in
    either (m < (length places)) ((length places) ≤ m) (place_at places m < place_at places n) (cases_lt m (length places))
    (λ b. let s : place_at places m < 2 ^ 64 = small places all m b in omega (arith, s, q))
    (λ c. let p : place_at places m ≡ 2 ^ 64 + m = outside places m c in omega (arith, p, q, lt)))

apart : (places : List ℕ) → AreRising places → All (λ n. n < 2 ^ 64) places → (m n : ℕ) → place_at places m ≡ place_at places n → m ≡ n
apart places up all m n e =
    either (m < n) (n ≤ m) (m ≡ n) (cases_lt m n)
    (λ lt. let h : place_at places m < place_at places n = rises places up all m n lt in absurd (omega (arith, h, e)))
    (λ le. either (n < m) (m ≤ n) (m ≡ n) (cases_lt n m)
    (λ lt. let h : place_at places n < place_at places m = rises places up all n m lt in absurd (omega (arith, h, e)))
    (λ ge. omega (arith, le, ge)))

-- a number for each literal
abbrev number : ℤ → ℕ
number (pos n) = 2 * n
number (negsuc n) = 2 * n + 1

literal-apart : (places : List ℕ) → AreRising places → All (λ n. n < 2 ^ 64) places → (a b : ℤ) → literal_at places a ≡ literal_at places b → a ≡ b
literal-apart places up all (pos zero) (pos zero) e = refl
literal-apart places up all (pos zero) (pos (suc m)) e = let h : 0 ≡ 2 * suc (place_at places m) = ap number e in absurd (omega (arith, h))
literal-apart places up all (pos zero) (negsuc m) e = let h : 0 ≡ 2 * place_at places m + 1 = ap number e in absurd (omega (arith, h))
literal-apart places up all (pos (suc n)) (pos zero) e = let h : 2 * suc (place_at places n) ≡ 0 = ap number e in absurd (omega (arith, h))
literal-apart places up all (pos (suc n)) (pos (suc m)) e =
    let h : 2 * suc (place_at places n) ≡ 2 * suc (place_at places m) = ap number e in
    let g : place_at places n ≡ place_at places m = omega (arith, h) in ap (λ k. pos (suc k)) (apart places up all n m g)
literal-apart places up all (pos (suc n)) (negsuc m) e =
    let h : 2 * suc (place_at places n) ≡ 2 * place_at places m + 1 = ap number e in absurd (omega (arith, h))
literal-apart places up all (negsuc n) (pos zero) e = let h : 2 * place_at places n + 1 ≡ 0 = ap number e in absurd (omega (arith, h))
literal-apart places up all (negsuc n) (pos (suc m)) e =
    let h : 2 * place_at places n + 1 ≡ 2 * suc (place_at places m) = ap number e in absurd (omega (arith, h))
literal-apart places up all (negsuc n) (negsuc m) e =
    let h : 2 * place_at places n + 1 ≡ 2 * place_at places m + 1 = ap number e in
    let g : place_at places n ≡ place_at places m = omega (arith, h) in ap negsuc (apart places up all n m g)

-- each is true where the other is
by-both : (x y : Bool) → (x ≡ true → y ≡ true) → (y ≡ true → x ≡ true) → x ≡ y
by-both true y f g = sym (f refl)
by-both false true f g = g refl
by-both false false f g = refl

same-literal : (places : List ℕ) → AreRising places → All (λ n. n < 2 ^ 64) places → (a b : ℤ) → int_eq (literal_at places a) (literal_at places b) ≡ int_eq a b
same-literal places up all a b =
    by-both (int_eq (literal_at places a) (literal_at places b)) (int_eq a b)
    (λ h. (Decides-int_eq a b).1 (literal-apart places up all a b ((Decides-int_eq (literal_at places a) (literal_at places b)).0 h)))
    (λ h. (Decides-int_eq (literal_at places a) (literal_at places b)).1 (ap (literal_at places) ((Decides-int_eq a b).0 h)))

negated : (places : List ℕ) (a : ℤ) → literal_at places (neg_ℤ a) ≡ neg_ℤ (literal_at places a)
negated places (pos zero) = refl
negated places (pos (suc n)) = refl
negated places (negsuc n) = refl

below : (places : List ℕ) (few many : ℕ) → AreRising places → All (λ n. n < 2 ^ 64) places → AreSplit places few many → (k : ℕ) → k < few → place_at places k < many
below places few many up all s k lt =
    let last : get_or places (few - 1) 0 < many = s.below (omega (arith, lt)) in
    let len : few ≤ length places = s.few in
    let same : place_at places (few - 1) ≡ get_or places (few - 1) 0 = inside places (few - 1) 0 (omega (arith, lt, len)) in
    either (k < (few - 1)) ((few - 1) ≤ k) (place_at places k < many) (cases_lt k (few - 1))
    (λ b. let h : place_at places k < place_at places (few - 1) = rises places up all k (few - 1) b in omega (arith, h, same, last))
    (λ c. let e : few - 1 ≡ k = omega (arith, c, lt) in subst (λ j. place_at places j < many) e (omega (arith, same, last)))

above : (places : List ℕ) (few many : ℕ) → AreRising places → All (λ n. n < 2 ^ 64) places → AreSplit places few many → many ≤ 2 ^ 64 → (k : ℕ) → few ≤ k → many ≤ place_at places k
above places few many up all s most k le =
    either (k < (length places)) ((length places) ≤ k) (many ≤ place_at places k) (cases_lt k (length places))
    (λ b. let first : many ≤ get_or places few 0 = s.above (omega (arith, le, b)) in
    let same : place_at places few ≡ get_or places few 0 = inside places few 0 (omega (arith, le, b)) in
    either (few < k) (k ≤ few) (many ≤ place_at places k) (cases_lt few k)
    (λ lt. let h : place_at places few < place_at places k = rises places up all few k lt in omega (arith, h, same, first))
    (λ ge. let e : few ≡ k = omega (arith, le, ge) in subst (λ j. many ≤ place_at places j) e (omega (arith, same, first))))
    (λ c. let q : place_at places k ≡ 2 ^ 64 + k = outside places k c in omega (arith, q, most))

place-within : (places : List ℕ) (few many : ℕ) → AreRising places → All (λ n. n < 2 ^ 64) places → AreSplit places few many → many ≤ 2 ^ 64 → (k : ℕ) → nat_lt (place_at places k) many ≡ nat_lt k few
place-within places few many up all s most k =
    either (k < few) (few ≤ k) (nat_lt (place_at places k) many ≡ nat_lt k few) (cases_lt k few)
    (λ lt. lt-ltb (place_at places k) many (below places few many up all s k lt) ∙ sym (lt-ltb k few lt))
    (λ le. le-ltb (place_at places k) many (above places few many up all s most k le) ∙ sym (le-ltb k few le))

literal-within : (places : List ℕ) (few many : ℕ) → AreRising places → All (λ n. n < 2 ^ 64) places → AreSplit places few many → many ≤ 2 ^ 64 → (a : ℤ) → is_within many (literal_at places a) ≡ is_within few a
literal-within places few many up all s most (pos zero) = refl
literal-within places few many up all s most (pos (suc n)) = place-within places few many up all s most n
literal-within places few many up all s most (negsuc n) = place-within places few many up all s most n

pub ranks-rename : (places : List ℕ) (few many : ℕ) → AreRising places → All (λ n. n < 2 ^ 64) places → AreSplit places few many → many ≤ 2 ^ 64 → Renames (literal_at places) few many
ranks-rename places few many up all s most = record {
  same = same-literal places up all;
  negated = negated places;
  within = literal-within places few many up all s most;
}

-- neighbours that rise
pub rising-from : (places : List ℕ) → ((j : ℕ) → 0 < j → j < length places → get_or places (j - 1) 0 < get_or places j 0) → AreRising places
rising-from places next i j d lt b = go j lt b
  where
    one : (n : ℕ) → suc n < length places → get_or places n 0 < get_or places (suc n) 0
    one n l = let e : suc n - 1 ≡ n = omega arith in subst (λ k. get_or places k 0 < get_or places (suc n) 0) e (next (suc n) (omega arith) l)

    here : (k : ℕ) → k < length places → get_or places k 0 ≡ get_or places k d
    here k l = get_or_default places k 0 d l

    go : (j : ℕ) → i < j → j < length places → get_or places i d < get_or places j d
    go zero l m = absurd (omega (arith, l))
    go (suc n) l m =
        let step : get_or places n 0 < get_or places (suc n) 0 = one n m in
        let p : get_or places n 0 ≡ get_or places n d = here n (omega (arith, m)) in
        let q : get_or places (suc n) 0 ≡ get_or places (suc n) d = here (suc n) m in
        either (i < n) (n ≤ i) (get_or places i d < get_or places (suc n) d) (cases_lt i n)
        (λ lt. let h : get_or places i d < get_or places n d = go n lt (omega (arith, m)) in omega (arith, h, step, p, q))
        (λ ge. let e : n ≡ i = omega (arith, ge, l) in subst (λ k. get_or places k d < get_or places (suc n) d) e (omega (arith, step, p, q)))

-- one element more is what one more of a list is mapped from
pub mapped-more : {X Y : Type 0} (f : X → Y) (made : List X) (x : X) (ys : List Y) (i : ℕ) (y : Y) → map f made ≡ take i ys → i < length ys → y ≡ get_or ys i y → f x ≡ y → map f (made ++ x ∷ []) ≡ take (i + 1) ys
mapped-more f made x ys i y h lt at e =
    map-append f made (x ∷ []) ∙ ap (λ l. l ++ f x ∷ []) h ∙ ap (λ z. take i ys ++ z ∷ []) (e ∙ at) ∙ sym (take_more ys i y lt)

-- what was made of the first literals of a clause
pub record IsRanked (f : ℤ → ℤ) (limit : ℕ) (made clause : List ℤ) (k : ℕ) : Type 0 where
  pub at : map f made ≡ take k clause
  pub within : All (IsWithin limit) made

pub ranked-more : (f : ℤ → ℤ) (limit : ℕ) (made clause : List ℤ) (k : ℕ) (x y : ℤ) → IsRanked f limit made clause k → k < length clause → y ≡ get_or clause k y → f x ≡ y → IsWithin limit x → IsRanked f limit (made ++ x ∷ []) clause (k + 1)
ranked-more f limit made clause k x y r lt at e w = record {
  at = mapped-more f made x clause k y r.at lt at e;
  within = All-push (IsWithin limit) made x r.within w;
}

-- what was made of the first clauses of a list
pub record AreRanked (f : ℤ → ℤ) (count : ℕ) (made : Clauses) (clauses : List (List ℤ)) (k : ℕ) : Type 0 where
  pub vars : made.vars ≡ count
  pub at : map (map f) made.clauses ≡ take k clauses

pub all-made : {X Y : Type 0} (f : X → Y) (made : List X) (ys : List Y) (k : ℕ) → map f made ≡ take k ys → length ys ≤ k → map f made ≡ ys
all-made f made ys k h le = h ∙ take_all k ys le

-- the literal of a rank is the one that was asked for
pub literal-back : (places : List ℕ) (rank : ℕ) (l : ℤ) → IsLiteral l → place_at places rank ≡ place_of l → literal_at places (if is_negation l then negsuc rank else pos (suc rank)) ≡ l
literal-back places rank (pos zero) h e = absurd (h.nonzero refl)
literal-back places rank (pos (suc n)) h e = ap (λ k. pos (suc k)) e
literal-back places rank (negsuc n) h e = ap negsuc e

pub literal-below : (rank limit : ℕ) (b : Bool) (l : ℤ) → l ≡ (if b then negsuc rank else pos (suc rank)) → IsLiteral l → rank < limit → IsWithin limit l
literal-below rank limit b l e h lt = record { literal = h; below = subst (λ x. place_of x < limit) (sym e) (pick b) }
  where
    pick : (d : Bool) → place_of (if d then negsuc rank else pos (suc rank)) < limit
    pick true = lt
    pick false = lt

pub over-ranks : (places : List ℕ) (count : ℕ) (list few : Clauses) (rows ranked : List LratRow) → AreRising places → All (λ n. n < 2 ^ 64) places → AreSplit places count list.vars → list.vars < 2 ^ 64 → few.vars ≡ count → map (map (literal_at places)) few.clauses ≡ list.clauses → map (renamed_row (literal_at places)) ranked ≡ rows → log_fault few ranked ≡ log_fault list rows
over-ranks places count list few rows ranked up all s small v cs rs =
    log-same (literal_at places) list few rows ranked (subst (λ n. Renames (literal_at places) n list.vars) (sym v) (ranks-rename places count list.vars up all s (omega (arith, small)))) cs rs
