-- Laws of addresses.
use Rattle.std.proofs.Common.{◌≡◌, ◌≢◌, ◌<◌, ◌≤◌, ◌^◌, ◌+◌, ◌-◌, ◌*◌, ◌%◌, ◌⊎◌, ℕ, pos, Bool, true, false, not, ◌&&◌, ◌||◌, ◌==◌, if◌then◌else◌, nat_eq, nat_lt, nat_le, inl, inr, refl, sym, ap, ◌∙◌, subst, arith}
use Rattle.std.proofs.Math.Nat.{mod-eq_of_lt, add-mul-mod_self_right}
use Rattle.std.proofs.lemmas.Bool.{lt-ltb, le-ltb, le-leb, lt-leb, cases_lt, ne_eqb}
use Rattle.hk_term.specs.Operations.{urem_value}
use Rattle.ir_value.specs.declared.value.Value.{Value}
use Rattle.ir_value.specs.declared.value.Value.TheVariants.{Number, Null, Address, Poison}
use Rattle.ir_value.specs.declared.value.StuckReason.TheVariants.{U6, U7}
use Rattle.ir_value.specs.declared.access.Access.TheVariants.{At, Not, Nowhere}
use Rattle.ir_value.specs.Pointers.{reach, reach_of, begin_at, moved_within}
use Rattle.hk_symvalue.specs.Meaning.{stands_for}
use Rattle.hk_symvalue.specs.Rows.{Reaches}

pub leaves_is : (s b x r : ℕ) → s < 2 ^ 64 → b < 2 ^ 64 → r ≡ (2 ^ 64 + s - b) % 2 ^ 64 → (nat_lt s b || nat_lt r x) ≡ not (nat_le (x + b) s)
leaves_is s b x r p q e = by (cases_lt s b)
  where
    inner : b ≤ s → (s - b < x) ⊎ (x ≤ s - b) → nat_lt (s - b) x ≡ not (nat_le (x + b) s)
    inner h (inl over) = lt-ltb (s - b) x over ∙ sym (ap not (lt-leb (x + b) s (omega (arith, h, over))))
    inner h (inr fits) = le-ltb (s - b) x fits ∙ sym (ap not (le-leb (x + b) s (omega (arith, h, fits))))

    by : (s < b) ⊎ (b ≤ s) → (nat_lt s b || nat_lt r x) ≡ not (nat_le (x + b) s)
    by (inl short) = ap (λ t. t || nat_lt r x) (lt-ltb s b short) ∙ sym (ap not (lt-leb (x + b) s (omega (arith, short))))
    by (inr h) =
        let whole : 2 ^ 64 + s - b ≡ (s - b) + 1 * 2 ^ 64 = omega (arith, h) in
        let small : s - b < 2 ^ 64 = omega (arith, p) in
        let rest : r ≡ s - b = e ∙ ap (λ n. n % 2 ^ 64) whole ∙ add-mul-mod_self_right (s - b) 1 (2 ^ 64) ∙ mod-eq_of_lt small in
        (λ i. (le-ltb s b h i || nat_lt (rest i) x)) ∙ inner h (cases_lt (s - b) x)

pub urem_is : (w a n : ℕ) → n ≢ 0 → urem_value w a n ≡ a % n
urem_is w a n some = ap (λ t. if t then a else a % n) (ne_eqb n 0 some)

-- whether an access sticks, by its tests
pub reaches_by : (p : Bool) (base x size oa bytes align : ℕ) (s o c : Bool) → s ≡ ((p || nat_eq base 1) || (o || c)) → o ≡ not (nat_le (x + bytes) size)
    → c ≡ (not (x % align == 0) || not (oa % align == 0)) → Reaches s (reach size oa bytes align (stands_for p base x))
reaches_by true base x size oa bytes align s o c e f g = e
reaches_by false base x size oa bytes align s o c e f g = by (nat_eq base 0) (nat_eq base 1) e
  where
    tests : (u j k : Bool) → s ≡ (not u || (not j || not k)) → Reaches s (if not u then Not U6 else (if not (j && k) then Not U7 else At (base - 2) x))
    tests false j k h = h
    tests true false k h = h
    tests true true false h = h
    tests true true true h = h

    reached : (t : Bool) → s ≡ (o || c) → Reaches s (if t then reach_of size oa bytes align (base - 2) x else Nowhere)
    reached true h = tests (nat_le (x + bytes) size) (x % align == 0) (oa % align == 0) (h ∙ (λ i. f i || g i))
    reached false h = tt

    by : (zero one : Bool) → s ≡ ((false || one) || (o || c)) → Reaches s (reach size oa bytes align (if zero then Number x else (if one then Null else Address (base - 2) x)))
    by true one h = tt
    by false true h = h
    by false false h = reached (nat_le 1 align) h

pub reaches_unaligned : (size oa bytes : ℕ) (a : Value) (align : ℕ) → align ≡ 0 → Reaches true (reach size oa bytes align a)
reaches_unaligned size oa bytes a align e = subst (λ n. Reaches true (reach size oa bytes n a)) (sym e) (by a)
  where
    by : (a : Value) → Reaches true (reach size oa bytes 0 a)
    by (Number n) = tt
    by Null = refl
    by (Address o x) = tt
    by Poison = refl

-- the base of a `getelementptr`
pub begins_as : (inbounds p q : Bool) (base x size : ℕ) → x < 2 ^ 64 → q ≡ (p || (nat_eq base 0 || (inbounds && (not (nat_eq base 1) && nat_lt size x))))
    → stands_for q base x ≡ begin_at inbounds size (stands_for p base x)
begins_as inbounds true q base x size small e = ap (λ b. stands_for b base x) e
begins_as inbounds false q base x size small e = ap (λ b. stands_for b base x) e ∙ by inbounds (nat_eq base 0) (nat_eq base 1)
  where
    same : (x + 0) % 2 ^ 64 ≡ x
    same = let plain : x + 0 ≡ x = omega arith in ap (λ n. n % 2 ^ 64) plain ∙ mod-eq_of_lt small

    within : (size < x) ⊎ (x ≤ size) → (if nat_lt size x then Poison else Address (base - 2) x) ≡ moved_within size (base - 2) (pos (x + 0))
    within (inl over) =
        ap (λ t. if t then Poison else Address (base - 2) x) (lt-ltb size x over)
        ∙ sym (λ i. if le-leb 0 (x + 0) (omega arith) i && lt-leb (x + 0) size (omega (arith, over)) i then Address (base - 2) ((x + 0) % 2 ^ 64) else Poison)
    within (inr fits) =
        ap (λ t. if t then Poison else Address (base - 2) x) (le-ltb size x fits) ∙ ap (Address (base - 2)) (sym same)
        ∙ sym (λ i. if le-leb 0 (x + 0) (omega arith) i && le-leb (x + 0) size (omega (arith, fits)) i then Address (base - 2) ((x + 0) % 2 ^ 64) else Poison)

    by : (inbounds zero one : Bool) → (if zero || (inbounds && (not one && nat_lt size x)) then Poison else (if zero then Number x else (if one then Null else Address (base - 2) x)))
        ≡ begin_at inbounds size (if zero then Number x else (if one then Null else Address (base - 2) x))
    by inbounds true one = refl
    by true false true = refl
    by false false true = refl
    by true false false = within (cases_lt size x)
    by false false false = ap (Address (base - 2)) (sym same)
