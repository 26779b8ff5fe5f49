-- Laws of the intrinsics that make one number of two.
use Rattle.std.proofs.Common.{◌≡◌, ◌<◌, ◌≤◌, ◌^◌, ◌-◌, ◌+◌, ◌⊎◌, ℕ, suc, Bool, true, false, not, ◌&&◌, ◌||◌, ◌==◌, if◌then◌else◌, nat_eq, nat_lt, int_lt, unsigned_abs, inl, inr, refl, sym, ap, ◌∙◌, subst, arith}
use Rattle.std.proofs.Math.Nat.{mod-eq_of_lt}
use Rattle.std.proofs.lemmas.Nat.{pow_pos}
use Rattle.std.proofs.lemmas.Bool.{lt-ltb, le-ltb, cases_lt, eqb-true}
use Rattle.hk_num.specs.Numbers.{signed_of, bvslt, bvsub}
use Rattle.hk_num.proofs.Readings.{halves, reading_low, reading_high}
use Rattle.ir_value.specs.declared.value.Value.{Value}
use Rattle.ir_value.specs.declared.value.Value.TheVariants.{Number}
use Rattle.ir_value.specs.declared.value.Made.{Made}
use Rattle.ir_value.specs.declared.value.Made.TheVariants.{Gives, Sticks, Lost}
use Rattle.ir_value.specs.declared.intrinsics.PairKind.{PairKind}
use Rattle.ir_value.specs.declared.intrinsics.PairKind.TheVariants.{Umin, Umax, Smin, Smax, Abs, Expect}
use Rattle.ir_value.specs.Numbers.{is_least, unless}
use Rattle.ir_value.specs.Intrinsics.{absolute, pick, pair_numbers, pair_of}
use Rattle.hk_symvalue.specs.Rows.{Answers, Shown, sticks, flagged}

-- no signed reading of a number below half is below 0, and each other one is
negative : (w a : ℕ) → (a < 2 ^ (w - 1)) ⊎ (2 ^ (w - 1) ≤ a) → bvslt w a 0 ≡ not (nat_lt a (2 ^ (w - 1)))
negative w a (inl low) = (λ i. int_lt (reading_low w a low i) (reading_low w 0 (pow_pos (w - 1)) i)) ∙ le-ltb a 0 (omega arith) ∙ sym (ap not (lt-ltb a (2 ^ (w - 1)) low))
negative w a (inr high) = (λ i. int_lt (reading_high w a high i) (reading_low w 0 (pow_pos (w - 1)) i)) ∙ sym (ap not (le-ltb a (2 ^ (w - 1)) high))

-- the magnitude where it is not the least number's
picked : (w a : ℕ) → 1 ≤ w → a < 2 ^ w → (a < 2 ^ (w - 1)) ⊎ (2 ^ (w - 1) ≤ a) → unsigned_abs (signed_of w a) ≡ (if bvslt w a 0 then bvsub w 0 a else a)
picked w a some below (inl low) =
    ap unsigned_abs (reading_low w a low) ∙ sym (ap (λ t. if t then bvsub w 0 a else a) (negative w a (inl low) ∙ ap not (lt-ltb a (2 ^ (w - 1)) low)))
picked w a some below (inr high) =
    let small : 2 ^ w + 0 - a < 2 ^ w = omega (arith, high, pow_pos (w - 1), below) in
    let next : 2 ^ w + 0 - a ≡ suc (2 ^ w - 1 - a) = omega (arith, below) in
    ap unsigned_abs (reading_high w a high)
    ∙ sym (ap (λ t. if t then bvsub w 0 a else a) (negative w a (inr high) ∙ ap not (le-ltb a (2 ^ (w - 1)) high)) ∙ mod-eq_of_lt small ∙ next)

-- the least number is its own magnitude
least_stays : (w a : ℕ) → 1 ≤ w → a < 2 ^ w → a ≡ 2 ^ (w - 1) → unsigned_abs (signed_of w a) ≡ a
least_stays w a some below e =
    let high : 2 ^ (w - 1) ≤ a = omega (arith, e) in
    ap unsigned_abs (reading_high w a high) ∙ omega (arith, e, below, halves w some)

pub absolute_shown : (w a b n : ℕ) (p : Bool) → 1 ≤ w → a < 2 ^ w → p ≡ (is_least w a && nat_eq b 1) → n ≡ unsigned_abs (signed_of w a) → Shown (flagged p n) (pair_numbers Abs w a b)
absolute_shown w a b n p some below e f = subst (λ q. Shown (flagged q n) (absolute w a (b == 1))) (sym e) (by (is_least w a) refl)
  where
    by : (t : Bool) → is_least w a ≡ t → Shown (flagged (t && nat_eq b 1) n) (if t then unless (b == 1) a else pick (bvslt w a 0) (bvsub w 0 a) a)
    by false g = ap Number (f ∙ picked w a some below (cases_lt a (2 ^ (w - 1))))
    by true g = strict (nat_eq b 1)
      where
        strict : (u : Bool) → Shown (flagged u n) (unless u a)
        strict true = refl
        strict false = ap Number (f ∙ least_stays w a some below (eqb-true a (2 ^ (w - 1)) g))

never_sticks : (kind : PairKind) (w a b : ℕ) → false ≡ sticks (pair_numbers kind w a b)
never_sticks Umin w a b = refl
never_sticks Umax w a b = refl
never_sticks Smin w a b = refl
never_sticks Smax w a b = refl
never_sticks Expect w a b = refl
never_sticks Abs w a b = by (is_least w a) (b == 1)
  where
    by : (t u : Bool) → false ≡ sticks (if t then unless u a else pick (bvslt w a 0) (bvsub w 0 a) a)
    by true true = refl
    by true false = refl
    by false u = refl

given : (m : Value) (made : Made) → false ≡ sticks made → Shown m made → Answers false m made
given m (Gives x) e h = (refl, h)
given m (Sticks r) e h = e
given m Lost e h = tt

pub pair_answers : (kind : PairKind) (w a b n : ℕ) (pa pb own : Bool) (m : Value) → m ≡ flagged ((pa || pb) || own) n → Shown (flagged own n) (pair_numbers kind w a b)
    → Answers false m (pair_of kind w (flagged pa a) (flagged pb b))
pair_answers kind w a b n false false own m e h = given m (pair_numbers kind w a b) (never_sticks kind w a b) (subst (λ x. Shown x (pair_numbers kind w a b)) (sym e) h)
pair_answers kind w a b n false true own m e h = (refl, e)
pair_answers kind w a b n true false own m e h = (refl, e)
pair_answers kind w a b n true true own m e h = (refl, e)
