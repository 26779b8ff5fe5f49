-- Laws of two numbers that are taken apart by a factor.
use Rattle.std.proofs.Common.{◌≡◌, ◌≢◌, ℕ, zero, ◌+◌, ◌*◌, ◌<◌, ◌≤◌, ◌⊎◌, Bool, true, false, ◌&&◌, nat_eq, nat_lt, arith, ap, sym, ◌∙◌, inl, inr}
use Rattle.std.proofs.Math.Nat.{mul-le-mul_left}
use Rattle.std.proofs.lemmas.Bool.{eq-eqb, ne_eqb, cases_lt, lt-ltb, le-ltb}
use Rattle.std.proofs.lemmas.Bool.Decides.{eqb_tells}

far : (c a b : ℕ) → a < b → c * a + c ≤ c * b
far c a b h = let step : a + 1 ≤ b = omega (arith, h) in let m : c * (a + 1) ≤ c * b = mul-le-mul_left c step in omega (arith, m)

apart_less : (c A1 A0 B1 B0 L R : ℕ) → c * A1 + A0 + R ≡ c * B1 + B0 + L → A0 < B0 + c → A1 < B1 → L < R
apart_less c A1 A0 B1 B0 L R e near h = let m = far c A1 B1 h in omega (arith, e, near, m)

apart : (c A1 A0 B1 B0 L R : ℕ) → c * A1 + A0 + R ≡ c * B1 + B0 + L → A0 < B0 + c → B0 < A0 + c → A1 ≢ B1 → L ≢ R
apart c A1 A0 B1 B0 L R e near back differs same = by (cases_lt A1 B1)
  where
    by : (A1 < B1) ⊎ (B1 ≤ A1) → ⊥
    by (inl h) = let l : L < R = apart_less c A1 A0 B1 B0 L R e near h in absurd (omega (arith, l, same))
    by (inr h) =
        let less : B1 < A1 = omega (arith, h, differs) in
        let l : R < L = apart_less c B1 B0 A1 A0 R L (sym e) back less in
        absurd (omega (arith, l, same))

-- where the lower parts differ by less than the factor, both are equal just where the parts are
pub split_equal : (c A1 A0 B1 B0 L R : ℕ) → c * A1 + A0 + R ≡ c * B1 + B0 + L → A0 < B0 + c → B0 < A0 + c → nat_eq L R ≡ (nat_eq A0 B0 && nat_eq A1 B1)
split_equal c A1 A0 B1 B0 L R e near back = by (eqb_tells A0 B0) (eqb_tells A1 B1)
  where
    by : ((nat_eq A0 B0 ≡ true) × (A0 ≡ B0)) ⊎ ((nat_eq A0 B0 ≡ false) × (A0 ≢ B0)) → ((nat_eq A1 B1 ≡ true) × (A1 ≡ B1)) ⊎ ((nat_eq A1 B1 ≡ false) × (A1 ≢ B1)) → nat_eq L R ≡ (nat_eq A0 B0 && nat_eq A1 B1)
    by (inl p) (inl q) =
        let m : c * A1 ≡ c * B1 = ap (λ k. c * k) q.1 in
        let low : A0 ≡ B0 = p.1 in
        let same : L ≡ R = omega (arith, e, m, low) in
        eq-eqb L R same ∙ sym (λ i. p.0 i && q.0 i)
    by (inl p) (inr q) = ne_eqb L R (apart c A1 A0 B1 B0 L R e near back q.1) ∙ sym (λ i. p.0 i && q.0 i)
    by (inr p) (inl q) =
        let m : c * A1 ≡ c * B1 = ap (λ k. c * k) q.1 in
        ne_eqb L R (λ same. p.1 (omega (arith, e, m, same))) ∙ sym (λ i. p.0 i && q.0 i)
    by (inr p) (inr q) = ne_eqb L R (apart c A1 A0 B1 B0 L R e near back q.1) ∙ sym (λ i. p.0 i && q.0 i)

pub less-iff : (a b c d : ℕ) → (a < b → c < d) → (c < d → a < b) → nat_lt a b ≡ nat_lt c d
less-iff a b c d there back = by (cases_lt a b) (cases_lt c d)
  where
    by : (a < b) ⊎ (b ≤ a) → (c < d) ⊎ (d ≤ c) → nat_lt a b ≡ nat_lt c d
    by (inl h) k = lt-ltb a b h ∙ sym (lt-ltb c d (there h))
    by (inr h) (inl k) = absurd (let less = back k in omega (arith, less, h))
    by (inr h) (inr k) = le-ltb a b h ∙ sym (le-ltb c d k)

-- the order of the upper parts, where the lower ones say no more than one
pub split_less : (c A1 A0 B1 B0 L R m : ℕ) → c * A1 + A0 + R ≡ c * B1 + B0 + L → ((m ≡ 1) × (A0 < B0) × (B0 ≤ A0 + c)) ⊎ ((m ≡ 0) × (B0 ≤ A0) × (A0 < B0 + c)) → nat_lt A1 (B1 + m) ≡ nat_lt L R
split_less c A1 A0 B1 B0 L R m e (inl h) = less-iff A1 (B1 + m) L R there back
  where
    there : A1 < B1 + m → L < R
    there k =
        let below : A1 ≤ B1 = omega (arith, k, h.0) in
        let p : c * A1 ≤ c * B1 = mul-le-mul_left c below in
        omega (arith, e, p, h.1)

    back : L < R → A1 < B1 + m
    back k = by (cases_lt B1 A1)
      where
        by : (B1 < A1) ⊎ (A1 ≤ B1) → A1 < B1 + m
        by (inl over) = let p = far c B1 A1 over in absurd (omega (arith, e, p, h.2, k))
        by (inr under) = omega (arith, under, h.0)
split_less c A1 A0 B1 B0 L R m e (inr h) = less-iff A1 (B1 + m) L R there back
  where
    there : A1 < B1 + m → L < R
    there k =
        let below : A1 < B1 = omega (arith, k, h.0) in
        apart_less c A1 A0 B1 B0 L R e h.2 below

    back : L < R → A1 < B1 + m
    back k = by (cases_lt A1 B1)
      where
        by : (A1 < B1) ⊎ (B1 ≤ A1) → A1 < B1 + m
        by (inl under) = omega (arith, under, h.0)
        by (inr over) =
            let p : c * B1 ≤ c * A1 = mul-le-mul_left c over in
            absurd (omega (arith, e, p, h.1, k))

-- two numbers and two sums with the same difference
pub balance_equal : (l r a b : ℕ) → l + b ≡ r + a → nat_eq l r ≡ nat_eq a b
balance_equal l r a b e = by (eqb_tells a b)
  where
    by : ((nat_eq a b ≡ true) × (a ≡ b)) ⊎ ((nat_eq a b ≡ false) × (a ≢ b)) → nat_eq l r ≡ nat_eq a b
    by (inl p) = let same : a ≡ b = p.1 in eq-eqb l r (omega (arith, e, same)) ∙ sym p.0
    by (inr p) = ne_eqb l r (λ same. p.1 (omega (arith, e, same))) ∙ sym p.0

pub balance_less : (l r a b : ℕ) → l + b ≡ r + a → nat_lt l r ≡ nat_lt a b
balance_less l r a b e = less-iff l r a b (λ h. omega (arith, e, h)) (λ h. omega (arith, e, h))
