-- Choices by the bits of an offset.
use Rattle.std.proofs.Common.{◌≡◌, ℕ, zero, suc, ◌+◌, ◌-◌, ◌*◌, ◌/◌, ◌%◌, ◌^◌, ◌<◌, ◌≤◌, ◌⊎◌, inl, inr, List, length, refl, sym, ◌∙◌, ap, subst, arith}
use Rattle.std.specs.Prelude.{if◌then◌else◌, nat_eq}
use Rattle.std.proofs.Math.Nat.{mod-eq_of_lt}
use Rattle.std.proofs.lemmas.Nat.{mod-pow-add}
use Rattle.ir_layout.specs.Bytes.{number_at}

split : (x level : ℕ) → 0 < level → x % 2 ^ level ≡ (x / 2 ^ (level - 1) % 2) * 2 ^ (level - 1) + x % 2 ^ (level - 1)
split x level l = ap (λ j. x % 2 ^ j) (one level l) ∙ mod-pow-add x 1 (level - 1)
  where
    one : (n : ℕ) → 0 < n → n ≡ 1 + (n - 1)
    one n l = omega (arith, l)

-- a bit and what it stands for
bit_cases : (b q r : ℕ) → b < 2 → ((b ≡ 1) × (b * q + r ≡ q + r)) ⊎ ((b ≡ 0) × (b * q + r ≡ r))
bit_cases zero q r l = inr (refl, omega arith)
bit_cases (suc zero) q r l = inl (refl, omega arith)
bit_cases (suc (suc b)) q r l = absurd (omega (arith, l))

-- beyond the end there is nothing
pub low_alone : (x level base next m low : ℕ) (items : List ℕ) → 0 < level → 0 < m → next ≡ base + 2 ^ (level - 1) → length items ≤ next
    → (base + x % 2 ^ (level - 1) + m ≤ length items → low ≡ number_at m (base + x % 2 ^ (level - 1)) items)
    → base + x % 2 ^ level + m ≤ length items → low ≡ number_at m (base + x % 2 ^ level) items
low_alone x level base next m low items some part e end below there = by (bit_cases (x / 2 ^ (level - 1) % 2) (2 ^ (level - 1)) (x % 2 ^ (level - 1)) (omega arith))
  where
    by : ((x / 2 ^ (level - 1) % 2 ≡ 1) × ((x / 2 ^ (level - 1) % 2) * 2 ^ (level - 1) + x % 2 ^ (level - 1) ≡ 2 ^ (level - 1) + x % 2 ^ (level - 1)))
        ⊎ ((x / 2 ^ (level - 1) % 2 ≡ 0) × ((x / 2 ^ (level - 1) % 2) * 2 ^ (level - 1) + x % 2 ^ (level - 1) ≡ x % 2 ^ (level - 1))) → low ≡ number_at m (base + x % 2 ^ level) items
    by (inl p) = absurd (beyond (x % 2 ^ level) (2 ^ (level - 1)) (x % 2 ^ (level - 1)) base next m (length items) (split x level some ∙ p.1) e end part there)
      where
        beyond : (y h r base next m len : ℕ) → y ≡ h + r → next ≡ base + h → len ≤ next → 0 < m → base + y + m ≤ len → ⊥
        beyond y h r base next m len a b c d f = omega (arith, a, b, c, d, f)
    by (inr p) =
        let same : x % 2 ^ level ≡ x % 2 ^ (level - 1) = split x level some ∙ p.1 in
        below (subst (λ y. base + y + m ≤ length items) same there) ∙ ap (λ y. number_at m (base + y) items) (sym same)

pub chosen : (x level base next m low high made : ℕ) (items : List ℕ) → 0 < level → next ≡ base + 2 ^ (level - 1)
    → (base + x % 2 ^ (level - 1) + m ≤ length items → low ≡ number_at m (base + x % 2 ^ (level - 1)) items)
    → (next + x % 2 ^ (level - 1) + m ≤ length items → high ≡ number_at m (next + x % 2 ^ (level - 1)) items)
    → made ≡ (if nat_eq (x / 2 ^ (level - 1) % 2) 1 then high else low)
    → base + x % 2 ^ level + m ≤ length items → made ≡ number_at m (base + x % 2 ^ level) items
chosen x level base next m low high made items some e below above is there = by (bit_cases (x / 2 ^ (level - 1) % 2) (2 ^ (level - 1)) (x % 2 ^ (level - 1)) (omega arith))
  where
    by : ((x / 2 ^ (level - 1) % 2 ≡ 1) × ((x / 2 ^ (level - 1) % 2) * 2 ^ (level - 1) + x % 2 ^ (level - 1) ≡ 2 ^ (level - 1) + x % 2 ^ (level - 1)))
        ⊎ ((x / 2 ^ (level - 1) % 2 ≡ 0) × ((x / 2 ^ (level - 1) % 2) * 2 ^ (level - 1) + x % 2 ^ (level - 1) ≡ x % 2 ^ (level - 1))) → made ≡ number_at m (base + x % 2 ^ level) items
    by (inl p) =
        let same : base + x % 2 ^ level ≡ next + x % 2 ^ (level - 1) = moved (x % 2 ^ level) (2 ^ (level - 1)) (x % 2 ^ (level - 1)) base next (split x level some ∙ p.1) e in
        is ∙ ap (λ b. if nat_eq b 1 then high else low) p.0 ∙ above (subst (λ y. y + m ≤ length items) same there) ∙ ap (λ y. number_at m y items) (sym same)
      where
        moved : (y h r base next : ℕ) → y ≡ h + r → next ≡ base + h → base + y ≡ next + r
        moved y h r base next a b = omega (arith, a, b)
    by (inr p) =
        let same : x % 2 ^ level ≡ x % 2 ^ (level - 1) = split x level some ∙ p.1 in
        is ∙ ap (λ b. if nat_eq b 1 then high else low) p.0 ∙ below (subst (λ y. base + y + m ≤ length items) same there) ∙ ap (λ y. number_at m (base + y) items) (sym same)

-- all bits
pub whole_offset : (x level m made len : ℕ) (items : List ℕ) → 0 < m → len ≡ length items → len ≤ 2 ^ level
    → (0 + x % 2 ^ level + m ≤ length items → made ≡ number_at m (0 + x % 2 ^ level) items) → x + m ≤ length items → made ≡ number_at m x items
whole_offset x level m made len items some e enough h there =
    let same : 0 + x % 2 ^ level ≡ x = ap (λ y. 0 + y) (mod-eq_of_lt (omega (arith, some, e, enough, there))) ∙ none x in
    h (subst (λ y. y + m ≤ length items) (sym same) there) ∙ ap (λ y. number_at m y items) same
  where
    none : (x : ℕ) → 0 + x ≡ x
    none x = omega arith
