-- Writes object by object.
use Rattle.std.proofs.Common.{◌≡◌, ◌≢◌, ◌<◌, ◌≤◌, ◌+◌, ◌-◌, ◌⊎◌, ◌&&◌, ℕ, Bool, true, false, List, inl, inr, refl, sym, ap, ◌∙◌, arith, nat_eq, nat_le, nat_lt, not, if◌then◌else◌}
use Rattle.std.proofs.lemmas.Bool.{lt-leb, le-leb, lt-ltb, le-ltb, cases_lt, true≢false, eq-eqb}
use Rattle.std.proofs.lemmas.Bool.Decides.{eqb_tells}
use Rattle.ir_machine.specs.Step.{write_to}
use Rattle.hk_symaccess.specs.Accesses.{written_up_to}

pub both_true : (a b : Bool) → (a && b) ≡ true → (a ≡ true) × (b ≡ true)
both_true true true e = (refl, refl)
both_true true false e = absurd (true≢false (sym e))
both_true false b e = absurd (true≢false (sym e))

pub not_true : (b : Bool) → not b ≡ true → b ≡ false
not_true false e = refl
not_true true e = absurd (true≢false (sym e))

-- a write that cannot be
pub no_write : (a b : Bool) (new old : List (List ℕ)) → (a ≡ true → b ≡ true → ⊥) → old ≡ (if a && b then new else old)
no_write true true new old h = absurd (h refl refl)
no_write true false new old h = refl
no_write false b new old h = refl

module _ (memory : List (List ℕ)) (b x bytes n object : ℕ) where
  is_among : 2 ≤ b → (k : ℕ) → b < k + 2 → (not (nat_le b 1) && nat_lt b (k + 2)) ≡ true
  is_among o k l = λ i. not (lt-leb b 1 (omega (arith, o)) i) && lt-ltb b (k + 2) l i

  is_null : b ≤ 1 → (k : ℕ) → (not (nat_le b 1) && nat_lt b (k + 2)) ≡ false
  is_null l k = ap (λ t. not t && nat_lt b (k + 2)) (le-leb b 1 l)

  is_over : 2 ≤ b → (k : ℕ) → k + 2 ≤ b → (not (nat_le b 1) && nat_lt b (k + 2)) ≡ false
  is_over o k l = λ i. not (lt-leb b 1 (omega (arith, o)) i) && le-ltb b (k + 2) l i

  -- before the object of the base nothing is written
  pub not_yet : (go : Bool) → b ≡ object + 2 → written_up_to object go memory b x bytes n ≡ memory
  not_yet go e = ap (λ z. if go && z then write_to memory bytes (b - 2) x n else memory) (is_over (omega (arith, e)) object (omega (arith, e))) ∙ by go
    where
      by : (go : Bool) → (if go && false then write_to memory bytes (b - 2) x n else memory) ≡ memory
      by true = refl
      by false = refl

  pub one_written : (go : Bool) (now : List (List ℕ)) → now ≡ written_up_to object go memory b x bytes n
      → (if go && nat_eq b (object + 2) then write_to now bytes object x n else now) ≡ written_up_to (object + 1) go memory b x bytes n
  one_written false now e = e
  one_written true now e = by (eqb_tells b (object + 2))
    where
      other : b ≢ object + 2 → (b < 2) ⊎ (2 ≤ b) → (b < object + 2) ⊎ (object + 2 ≤ b) → written_up_to object true memory b x bytes n ≡ written_up_to (object + 1) true memory b x bytes n
      other d (inl l) s = ap (λ z. if true && z then write_to memory bytes (b - 2) x n else memory) (is_null (omega (arith, l)) object ∙ sym (is_null (omega (arith, l)) (object + 1)))
      other d (inr l) (inl k) = ap (λ z. if true && z then write_to memory bytes (b - 2) x n else memory) (is_among l object k ∙ sym (is_among l (object + 1) (omega (arith, k))))
      other d (inr l) (inr k) = ap (λ z. if true && z then write_to memory bytes (b - 2) x n else memory) (is_over l object k ∙ sym (is_over l (object + 1) (omega (arith, k, d))))

      by : ((nat_eq b (object + 2) ≡ true) × (b ≡ object + 2)) ⊎ ((nat_eq b (object + 2) ≡ false) × (b ≢ object + 2))
          → (if true && nat_eq b (object + 2) then write_to now bytes object x n else now) ≡ written_up_to (object + 1) true memory b x bytes n
      by (inl t) =
          let place : object ≡ b - 2 = omega (arith, t.1) in
          ap (λ z. if true && z then write_to now bytes object x n else now) t.0 ∙ (λ i. write_to ((e ∙ not_yet true t.1) i) bytes (place i) x n)
          ∙ sym (ap (λ z. if true && z then write_to memory bytes (b - 2) x n else memory) (is_among (omega (arith, t.1)) (object + 1) (omega (arith, t.1))))
      by (inr f) =
          ap (λ z. if true && z then write_to now bytes object x n else now) f.0 ∙ e ∙ other f.1 (cases_lt b 2) (cases_lt b (object + 2))

  -- a base that is known
  pub known_written : (go : Bool) (count : ℕ) → b ≡ object + 2 → object < count → (if go && nat_eq b (object + 2) then write_to memory bytes object x n else memory) ≡ written_up_to count go memory b x bytes n
  known_written go count e l =
      let place : object ≡ b - 2 = omega (arith, e) in
      (λ i. if go && eq-eqb b (object + 2) e i then write_to memory bytes (place i) x n else memory)
      ∙ sym (ap (λ z. if go && z then write_to memory bytes (b - 2) x n else memory) (is_among (omega (arith, e)) count (omega (arith, e, l))))

  pub none_written : (go : Bool) (count : ℕ) → (2 ≤ b → b - 2 < count → ⊥) → memory ≡ written_up_to count go memory b x bytes n
  none_written go count h = sym (by go (cases_lt b 2) (cases_lt b (count + 2)))
    where
      empty : (go : Bool) → (not (nat_le b 1) && nat_lt b (count + 2)) ≡ false → written_up_to count go memory b x bytes n ≡ memory
      empty true e = ap (λ z. if true && z then write_to memory bytes (b - 2) x n else memory) e
      empty false e = refl

      by : (go : Bool) → (b < 2) ⊎ (2 ≤ b) → (b < count + 2) ⊎ (count + 2 ≤ b) → written_up_to count go memory b x bytes n ≡ memory
      by go (inl l) s = empty go (is_null (omega (arith, l)) count)
      by go (inr l) (inl k) = absurd (h l (omega (arith, l, k)))
      by go (inr l) (inr k) = empty go (is_over l count k)
