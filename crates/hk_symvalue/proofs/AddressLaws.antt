-- Laws of comparisons of pointers.
use Rattle.std.proofs.Common.{◌≡◌, ◌≢◌, ◌<◌, ◌≤◌, ◌-◌, ◌⊎◌, ℕ, Bool, true, false, not, ◌&&◌, ◌||◌, if◌then◌else◌, nat_eq, nat_lt, nat_le, inl, inr, refl, sym, ap, ◌∙◌, subst, arith}
use Rattle.std.proofs.lemmas.Bool.{lt-ltb, le-ltb, le-leb, lt-leb, cases_lt, ne_eqb, eq-eqb}
use Rattle.std.proofs.lemmas.Bool.Decides.{eqb_tells}
use Rattle.ir_ast.specs.declared.instr.Predicate.{Predicate}
use Rattle.ir_ast.specs.declared.instr.Predicate.TheVariants.{Eq, Ne, Ugt, Uge, Ult, Ule, Sgt, Sge, Slt, Sle}
use Rattle.ir_value.specs.declared.value.Value.{Value}
use Rattle.ir_value.specs.declared.value.Value.TheVariants.{Number, Null, Address, Poison}
use Rattle.ir_value.specs.declared.value.Made.TheVariants.{Gives, Sticks}
use Rattle.ir_value.specs.declared.value.StuckReason.TheVariants.{U15}
use Rattle.ir_value.specs.Numbers.{truth, holds}
use Rattle.ir_value.specs.Pointers.{is_equality, compare_nulls, compare_with_null, compare_within, compare_pointers}
use Rattle.hk_symvalue.specs.Meaning.{based, stands_for}
use Rattle.hk_symvalue.specs.Rows.{Answers, flagged, pointers_stick, pointers_hold}

pub not_over : (s x : ℕ) → not (nat_lt s x) ≡ nat_le x s
not_over s x = by (cases_lt s x)
  where
    by : (s < x) ⊎ (x ≤ s) → not (nat_lt s x) ≡ nat_le x s
    by (inl over) = ap not (lt-ltb s x over) ∙ sym (lt-leb x s over)
    by (inr fits) = ap not (le-ltb s x fits) ∙ sym (le-leb x s fits)

-- ---- by what the bases are: one and the same, the first null, the second null; and by what lies inside

abbrev stick : Predicate → Bool → Bool → Bool → Bool → Bool → Bool → Bool
stick p same na nb xa yb ya = if is_equality p then not (same || ((na && yb) || (nb && xa))) else not ((same && not na) && (xa && ya))

abbrev hold : Predicate → Bool → Bool → ℕ → ℕ → Bool
hold Eq same na x y = same && (na || nat_eq x y)
hold Ne same na x y = not (same && (na || nat_eq x y))
hold p same na x y = holds p 64 x y

nulls : (p : Predicate) (xa yb ya : Bool) (x y : ℕ) → Answers (stick p true true true xa yb ya) (Number (truth (hold p true true x y))) (compare_nulls p)
nulls Eq xa yb ya x y = (refl, refl)
nulls Ne xa yb ya x y = (refl, refl)
nulls _ xa yb ya x y = refl

null_first : (p : Predicate) (xa ya : Bool) (size x y : ℕ) → Answers (stick p false true false xa (nat_le y size) ya) (Number (truth (hold p false true x y))) (compare_with_null p size y)
null_first Eq xa ya size x y = by (nat_le y size)
  where
    by : (t : Bool) → Answers (not (false || ((true && t) || (false && xa)))) (Number 0) (if true && t then Gives (Number 0) else Sticks U15)
    by true = (refl, refl)
    by false = refl
null_first Ne xa ya size x y = by (nat_le y size)
  where
    by : (t : Bool) → Answers (not (false || ((true && t) || (false && xa)))) (Number 1) (if true && t then Gives (Number 1) else Sticks U15)
    by true = (refl, refl)
    by false = refl
null_first _ xa ya size x y = refl

null_second : (p : Predicate) (yb ya : Bool) (size x y : ℕ) → Answers (stick p false false true (nat_le x size) yb ya) (Number (truth (hold p false false x y))) (compare_with_null p size x)
null_second Eq yb ya size x y = by (nat_le x size)
  where
    by : (t : Bool) → Answers (not (false || ((false && yb) || (true && t)))) (Number 0) (if true && t then Gives (Number 0) else Sticks U15)
    by true = (refl, refl)
    by false = refl
null_second Ne yb ya size x y = by (nat_le x size)
  where
    by : (t : Bool) → Answers (not (false || ((false && yb) || (true && t)))) (Number 1) (if true && t then Gives (Number 1) else Sticks U15)
    by true = (refl, refl)
    by false = refl
null_second _ yb ya size x y = refl

-- an order of two addresses in one object
ordered : (xa ya : Bool) (n : ℕ) → Answers (not ((true && not false) && (xa && ya))) (Number n) (if false || (xa && ya) then Gives (Number n) else Sticks U15)
ordered true true n = (refl, refl)
ordered true false n = refl
ordered false ya n = refl

addresses : (p : Predicate) (same yb : Bool) (size x y : ℕ) → Answers (stick p same false false (nat_le x size) yb (nat_le y size)) (Number (truth (hold p same false x y))) (if same then compare_within p size x y else Sticks U15)
addresses Eq true yb size x y = (refl, refl)
addresses Ne true yb size x y = (refl, refl)
addresses Ugt true yb size x y = ordered (nat_le x size) (nat_le y size) (truth (holds Ugt 64 x y))
addresses Uge true yb size x y = ordered (nat_le x size) (nat_le y size) (truth (holds Uge 64 x y))
addresses Ult true yb size x y = ordered (nat_le x size) (nat_le y size) (truth (holds Ult 64 x y))
addresses Ule true yb size x y = ordered (nat_le x size) (nat_le y size) (truth (holds Ule 64 x y))
addresses Sgt true yb size x y = ordered (nat_le x size) (nat_le y size) (truth (holds Sgt 64 x y))
addresses Sge true yb size x y = ordered (nat_le x size) (nat_le y size) (truth (holds Sge 64 x y))
addresses Slt true yb size x y = ordered (nat_le x size) (nat_le y size) (truth (holds Slt 64 x y))
addresses Sle true yb size x y = ordered (nat_le x size) (nat_le y size) (truth (holds Sle 64 x y))
addresses Eq false yb size x y = refl
addresses Ne false yb size x y = refl
addresses _ false yb size x y = refl

-- ---- the bases of two pointers

-- a base: that of a number, that of null, or another one
abbrev Based : ℕ → Type 0
Based a = (a ≡ 0) ⊎ ((a ≡ 1) ⊎ ((a ≢ 0) × (a ≢ 1)))

bases : (a : ℕ) → Based a
bases a = by (eqb_tells a 0) (eqb_tells a 1)
  where
    by : ((nat_eq a 0 ≡ true) × (a ≡ 0)) ⊎ ((nat_eq a 0 ≡ false) × (a ≢ 0)) → ((nat_eq a 1 ≡ true) × (a ≡ 1)) ⊎ ((nat_eq a 1 ≡ false) × (a ≢ 1)) → Based a
    by (inl z) q = inl z.1
    by (inr s) (inl o) = inr (inl o.1)
    by (inr s) (inr r) = inr (inr (s.1, r.1))

less_two : (a b : ℕ) → a ≢ 0 → a ≢ 1 → b ≢ 0 → b ≢ 1 → nat_eq (a - 2) (b - 2) ≡ nat_eq a b
less_two a b p q r s = by (eqb_tells a b)
  where
    by : ((nat_eq a b ≡ true) × (a ≡ b)) ⊎ ((nat_eq a b ≡ false) × (a ≢ b)) → nat_eq (a - 2) (b - 2) ≡ nat_eq a b
    by (inl e) = eq-eqb (a - 2) (b - 2) (ap (λ n. n - 2) e.1) ∙ sym e.0
    by (inr d) = ne_eqb (a - 2) (b - 2) (λ (e : a - 2 ≡ b - 2). d.1 (omega (arith, e, p, q, r, s))) ∙ sym d.0

module _ (p : Predicate) (size_a size_b x y : ℕ) where
  -- what is to be shown of two bases
  abbrev Told : ℕ → ℕ → Type 0
  Told a b = Answers (pointers_stick p size_a size_b a x b y) (Number (truth (pointers_hold p a x b y))) (compare_pointers p size_a size_b (based a x) (based b y))

  -- the same with the tests of the bases as they turn out
  abbrev Turned : Bool → Bool → Bool → Value → Value → Type 0
  Turned same na nb u v = Answers (stick p same na nb (nat_le x size_a) (nat_le y size_b) (nat_le y size_a)) (Number (truth (hold p same na x y))) (compare_pointers p size_a size_b u v)

  held : (a b : ℕ) → pointers_hold p a x b y ≡ hold p (nat_eq a b) (nat_eq a 1) x y
  held a b = held_by p
    where
      held_by : (p : Predicate) → pointers_hold p a x b y ≡ hold p (nat_eq a b) (nat_eq a 1) x y
      held_by Eq = refl
      held_by Ne = refl
      held_by _ = refl

  told : (a b : ℕ) (same na nb : Bool) (u v : Value) → nat_eq a b ≡ same → nat_eq a 1 ≡ na → nat_eq b 1 ≡ nb → based a x ≡ u → based b y ≡ v → Turned same na nb u v → Told a b
  told a b same na nb u v e f g h k t =
      subst (λ c. Answers (pointers_stick p size_a size_b a x b y) (Number (truth c)) (compare_pointers p size_a size_b (based a x) (based b y))) (sym (held a b))
      (subst (λ i. Turned i (nat_eq a 1) (nat_eq b 1) (based a x) (based b y)) (sym e)
      (subst (λ i. Turned same i (nat_eq b 1) (based a x) (based b y)) (sym f)
      (subst (λ i. Turned same na i (based a x) (based b y)) (sym g)
      (subst (λ i. Turned same na nb i (based b y)) (sym h)
      (subst (Turned same na nb u) (sym k) t)))))

  address_of : (a z : ℕ) → a ≢ 0 → a ≢ 1 → based a z ≡ Address (a - 2) z
  address_of a z q r = λ i. if ne_eqb a 0 q i then Number z else (if ne_eqb a 1 r i then Null else Address (a - 2) z)

  null_of : (a z : ℕ) → a ≡ 1 → based a z ≡ Null
  null_of a z e = ap (λ n. based n z) e

  number_of : (a z : ℕ) → a ≡ 0 → based a z ≡ Number z
  number_of a z e = ap (λ n. based n z) e

  lost_second : (s : Bool) (m u : Value) → Answers s m (compare_pointers p size_a size_b u (Number y))
  lost_second s m (Number n) = tt
  lost_second s m Null = tt
  lost_second s m (Address o z) = tt
  lost_second s m Poison = tt

  by_bases : (a b : ℕ) → Based a → Based b → Told a b
  by_bases a b (inl z) k = subst (λ u. Answers (pointers_stick p size_a size_b a x b y) (Number (truth (pointers_hold p a x b y))) (compare_pointers p size_a size_b u (based b y))) (sym (number_of a x z)) tt
  by_bases a b (inr h) (inl z) = subst (λ v. Answers (pointers_stick p size_a size_b a x b y) (Number (truth (pointers_hold p a x b y))) (compare_pointers p size_a size_b (based a x) v)) (sym (number_of b y z)) (lost_second _ _ (based a x))
  by_bases a b (inr (inl e)) (inr (inl f)) =
      told a b true true true Null Null (eq-eqb a b (e ∙ sym f)) (eq-eqb a 1 e) (eq-eqb b 1 f) (null_of a x e) (null_of b y f)
      (nulls p (nat_le x size_a) (nat_le y size_b) (nat_le y size_a) x y)
  by_bases a b (inr (inl e)) (inr (inr q)) =
      told a b false true false Null (Address (b - 2) y) (ne_eqb a b (λ (h : a ≡ b). q.1 (sym h ∙ e))) (eq-eqb a 1 e) (ne_eqb b 1 q.1) (null_of a x e) (address_of b y q.0 q.1)
      (null_first p (nat_le x size_a) (nat_le y size_a) size_b x y)
  by_bases a b (inr (inr q)) (inr (inl f)) =
      told a b false false true (Address (a - 2) x) Null (ne_eqb a b (λ (h : a ≡ b). q.1 (h ∙ f))) (ne_eqb a 1 q.1) (eq-eqb b 1 f) (address_of a x q.0 q.1) (null_of b y f)
      (null_second p (nat_le y size_b) (nat_le y size_a) size_a x y)
  by_bases a b (inr (inr q)) (inr (inr r)) =
      told a b (nat_eq a b) false false (Address (a - 2) x) (Address (b - 2) y) refl (ne_eqb a 1 q.1) (ne_eqb b 1 r.1) (address_of a x q.0 q.1) (address_of b y r.0 r.1)
      (subst (λ t. Answers (stick p (nat_eq a b) false false (nat_le x size_a) (nat_le y size_b) (nat_le y size_a)) (Number (truth (hold p (nat_eq a b) false x y))) (if t then compare_within p size_a x y else Sticks U15))
      (sym (less_two a b q.0 q.1 r.0 r.1)) (addresses p (nat_eq a b) (nat_le y size_b) size_a x y))

  poison_first : (v : Value) → Answers false Poison (compare_pointers p size_a size_b Poison v)
  poison_first (Number n) = tt
  poison_first Null = (refl, refl)
  poison_first (Address o z) = (refl, refl)
  poison_first Poison = (refl, refl)

  poison_second : (u : Value) → Answers false Poison (compare_pointers p size_a size_b u Poison)
  poison_second (Number n) = tt
  poison_second Null = (refl, refl)
  poison_second (Address o z) = (refl, refl)
  poison_second Poison = (refl, refl)

  by_poison : (pa pb : Bool) (a b : ℕ) → Answers (not (pa || pb) && pointers_stick p size_a size_b a x b y) (flagged ((pa || pb) || false) (truth (pointers_hold p a x b y))) (compare_pointers p size_a size_b (stands_for pa a x) (stands_for pb b y))
  by_poison true pb a b = poison_first (stands_for pb b y)
  by_poison false true a b = poison_second (based a x)
  by_poison false false a b = by_bases a b (bases a) (bases b)

pub pointer_answers : (p : Predicate) (size_a size_b a x b y n : ℕ) (h pa pb s : Bool) (m : Value) → s ≡ (not (pa || pb) && pointers_stick p size_a size_b a x b y) → h ≡ pointers_hold p a x b y → n ≡ truth h
    → m ≡ flagged ((pa || pb) || false) n → Answers s m (compare_pointers p size_a size_b (stands_for pa a x) (stands_for pb b y))
pointer_answers p size_a size_b a x b y n h pa pb s m e f g k =
    subst (λ t. Answers t m (compare_pointers p size_a size_b (stands_for pa a x) (stands_for pb b y))) (sym e)
    (subst (λ z. Answers (not (pa || pb) && pointers_stick p size_a size_b a x b y) z (compare_pointers p size_a size_b (stands_for pa a x) (stands_for pb b y))) (sym (k ∙ ap (flagged ((pa || pb) || false)) (g ∙ ap truth f)))
    (by_poison p size_a size_b x y pa pb a b))
