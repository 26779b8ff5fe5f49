-- Shifts by amounts whose high bits alone are worth the width.
use Rattle.std.proofs.Common.{◌≡◌, ℕ, zero, suc, ◌+◌, ◌*◌, ◌/◌, ◌%◌, ◌<◌, ◌≤◌, ◌^◌, Bool, true, false, not, ◌||◌, nat_eq, if◌then◌else◌, refl, sym, ◌∙◌, ap, arith}
use Rattle.std.proofs.lemmas.Bool.{ne_eqb}
use Rattle.std.proofs.lemmas.Nat.{pow_pos}
use Rattle.std.proofs.Math.Nat.{suc-mul}
use Rattle.hk_circuit.specs.Words.{bit}
use Rattle.hk_circuit.proofs.Shifts.{lost, vanishes}

some : (n : ℕ) → 0 < n → nat_eq n 0 ≡ false
some n h = ne_eqb n 0 (λ e. absurd (omega (arith, e, h)))

or-true : (x : Bool) → (x || true) ≡ true
or-true true = refl
or-true false = refl

or-false : (x : Bool) → (x || false) ≡ x
or-false true = refl
or-false false = refl

pub nonzero-step : (n k : ℕ) (x : Bool) → (not (nat_eq n 0) || x) ≡ not (nat_eq (n + 2 ^ k * bit x) 0)
nonzero-step n k true = or-true (not (nat_eq n 0)) ∙ ap not (sym (some (n + 2 ^ k * 1) (omega (arith, pow_pos k))))
nonzero-step n k false = or-false (not (nat_eq n 0)) ∙ ap (λ m. not (nat_eq m 0)) (plain n (2 ^ k))
  where
    plain : (m p : ℕ) → m ≡ m + p * 0
    plain m p = omega arith

pub chosen : (m n : ℕ) → (if not (nat_eq n 0) then 0 else m) ≡ (if nat_eq n 0 then m else 0)
chosen m n = pick (nat_eq n 0)
  where
    pick : (t : Bool) → (if not t then 0 else m) ≡ (if t then m else 0)
    pick true = refl
    pick false = refl

far : (n k l h : ℕ) → n ≤ 2 ^ k → n ≤ suc h * 2 ^ k + l
far n k l h b = omega (arith, suc-mul h (2 ^ k), b)

near : (k l : ℕ) → l ≡ 0 * 2 ^ k + l
near k l = omega arith

pub far-left : (a n k l h : ℕ) → n ≤ 2 ^ k → (if nat_eq h 0 then (a * 2 ^ l) % 2 ^ n else 0) ≡ (a * 2 ^ (h * 2 ^ k + l)) % 2 ^ n
far-left a n k l zero b = ap (λ m. (a * 2 ^ m) % 2 ^ n) (near k l)
far-left a n k l (suc h) b =
    ap (λ t. if t then (a * 2 ^ l) % 2 ^ n else 0) (some (suc h) (omega arith)) ∙ sym (lost a n (suc h * 2 ^ k + l) (far n k l h b))

pub far-right : (a n k l h : ℕ) → a < 2 ^ n → n ≤ 2 ^ k → (if nat_eq h 0 then a / 2 ^ l else 0) ≡ a / 2 ^ (h * 2 ^ k + l)
far-right a n k l zero s b = ap (λ m. a / 2 ^ m) (near k l)
far-right a n k l (suc h) s b =
    ap (λ t. if t then a / 2 ^ l else 0) (some (suc h) (omega arith)) ∙ sym (vanishes a n (suc h * 2 ^ k + l) s (far n k l h b))
