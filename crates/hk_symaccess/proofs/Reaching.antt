-- Where an access reaches, by the parts of its address.
use Rattle.std.proofs.Common.{◌≡◌, ◌≢◌, ◌<◌, ◌≤◌, ◌+◌, ◌-◌, ◌⊎◌, ℕ, zero, suc, Bool, true, false, List, [], length, inl, inr, refl, sym, ap, ◌∙◌, subst, arith, nat_eq, nat_le, not, if◌then◌else◌}
use Rattle.std.proofs.lemmas.Bool.{le-leb, lt-leb, leb-true, eqb-true, eq-eqb, cases_lt, true≢false}
use Rattle.std.proofs.lemmas.Bool.Decides.{eqb_tells}
use Rattle.std.proofs.lemmas.List.{get_or_past}
use Rattle.ir_layout.specs.Bytes.{object_of, number_at}
use Rattle.ir_value.specs.declared.value.Value.{Value}
use Rattle.ir_value.specs.declared.value.Value.TheVariants.{Number, Null, Address}
use Rattle.ir_value.specs.declared.value.StuckReason.{StuckReason}
use Rattle.ir_value.specs.declared.value.StuckReason.TheVariants.{U5, U6, U7, U8}
use Rattle.ir_value.specs.declared.value.Made.TheVariants as made
use Rattle.ir_value.specs.declared.access.Access.{Access}
use Rattle.ir_value.specs.declared.access.Access.TheVariants.{At, Not, Nowhere}
use Rattle.ir_value.specs.Pointers.{reach, reach_of}
use Rattle.ir_code.specs.declared.program.Object.{Object}
use Rattle.ir_machine.specs.Values.{reached, are_bytes, object_at}
use Rattle.hk_symvalue.specs.Meaning.{stands_for}
use Rattle.hk_symvalue.specs.Rows.{Answers, Reaches}
use Rattle.hk_symaccess.specs.Accesses.{LiesAt, sized, aligned, loaded_at, loaded_number}

-- a base is 0, or 1, or over both
base_over : (b : ℕ) → nat_eq b 0 ≡ false → nat_eq b 1 ≡ false → 2 ≤ b
base_over zero e f = absurd (true≢false e)
base_over (suc zero) e f = absurd (true≢false f)
base_over (suc (suc b)) e f = omega arith

module _ (memory : List (List ℕ)) (objects : List Object) (bytes align b x : ℕ) where
  -- size and alignment by the base are those of the object that is reached
  pub reaches_there : (s p : Bool) (size oa : ℕ) → size ≡ sized memory b → oa ≡ aligned objects b → Reaches s (reach size oa bytes align (stands_for p b x)) → Reaches s (reached memory objects bytes align (stands_for p b x))
  reaches_there s true size oa e f h = h
  reaches_there s false size oa e f h = by (nat_eq b 0) (nat_eq b 1) refl refl h
    where
      by : (zero one : Bool) → nat_eq b 0 ≡ zero → nat_eq b 1 ≡ one → Reaches s (reach size oa bytes align (if zero then Number x else (if one then Null else Address (b - 2) x)))
          → Reaches s (reached memory objects bytes align (if zero then Number x else (if one then Null else Address (b - 2) x)))
      by true one g k r = tt
      by false true g k r = r
      by false false g k r =
          let over : nat_le b 1 ≡ false = lt-leb b 1 (omega (arith, base_over b g k)) in
          let size_is : size ≡ length (object_of memory (b - 2)) = e ∙ ap (λ t. if t then 0 else length (object_of memory (b - 2))) over in
          let align_is : oa ≡ (object_at objects (b - 2)).align = f ∙ ap (λ t. if t then 0 else (object_at objects (b - 2)).align) over in
          subst (λ n. Reaches s (reach n (object_at objects (b - 2)).align bytes align (Address (b - 2) x))) size_is (subst (λ n. Reaches s (reach size n bytes align (Address (b - 2) x))) align_is r)

  -- what an access comes to: it sticks, it is none, or it lies in its object
  abbrev pub Reached : Access → Type 0
  Reached a =
      ((r : StuckReason) × (a ≡ Not r))
      ⊎ (((a ≡ Nowhere) × ((nat_le b 1 ≡ true) ⊎ (nat_le 1 align ≡ false)))
      ⊎ ((a ≡ At (b - 2) x) × (2 ≤ b) × (x + bytes ≤ length (object_of memory (b - 2)))))

  pub reached_as : (p : Bool) → Reached (reached memory objects bytes align (stands_for p b x))
  reached_as true = inl (U8, refl)
  reached_as false = by (nat_eq b 0) (nat_eq b 1) refl refl
    where
      tests : (i j : Bool) → 2 ≤ b → nat_le (x + bytes) (length (object_of memory (b - 2))) ≡ i → Reached (if not i then Not U6 else (if not j then Not U7 else At (b - 2) x))
      tests false j o h = inl (U6, refl)
      tests true false o h = inl (U7, refl)
      tests true true o h = inr (inr (refl, o, leb-true _ _ h))

      known : (t : Bool) → nat_le 1 align ≡ t → 2 ≤ b → Reached (if t then reach_of (length (object_of memory (b - 2))) (object_at objects (b - 2)).align bytes align (b - 2) x else Nowhere)
      known true e o = tests _ _ o refl
      known false e o = inr (inl (refl, inr e))

      by : (zero one : Bool) → nat_eq b 0 ≡ zero → nat_eq b 1 ≡ one → Reached (reached memory objects bytes align (if zero then Number x else (if one then Null else Address (b - 2) x)))
      by true one g k = inr (inl (refl, inl (le-leb b 1 (omega (arith, eqb-true b 0 g)))))
      by false true g k = inl (U5, refl)
      by false false g k = known (nat_le 1 align) refl (base_over b g k)

  some_bytes : are_bytes bytes ≡ true → 1 ≤ bytes
  some_bytes e = by bytes e
    where
      by : (n : ℕ) → are_bytes n ≡ true → 1 ≤ n
      by zero h = absurd (true≢false (sym h))
      by (suc n) h = omega arith

  pub lies : are_bytes bytes ≡ true → 2 ≤ b → x + bytes ≤ length (object_of memory (b - 2)) → LiesAt memory b x bytes
  lies e o h = record { known = o; object = by (cases_lt (b - 2) (length memory)); inside = h }
    where
      by : (b - 2 < length memory) ⊎ (length memory ≤ b - 2) → b - 2 < length memory
      by (inl l) = l
      by (inr l) =
          let empty : length (object_of memory (b - 2)) ≡ 0 = ap (λ (z : List ℕ). length z) (get_or_past memory (b - 2) [] l) in
          absurd (omega (arith, some_bytes e, h, empty))

  pub load_answers : (s p : Bool) (n : ℕ) (m : Value) → are_bytes bytes ≡ true → Reaches s (reached memory objects bytes align (stands_for p b x))
      → (LiesAt memory b x bytes → n ≡ number_at bytes x (object_of memory (b - 2))) → m ≡ Number n → Answers s m (loaded_number memory objects bytes align (stands_for p b x))
  load_answers s p n m e r is f =
      subst (λ t. Answers s m (if t then loaded_at memory bytes (reached memory objects bytes align (stands_for p b x)) else made.Lost)) (sym e) (by (reached_as p) r)
    where
      by : {a : Access} → Reached a → Reaches s a → Answers s m (loaded_at memory bytes a)
      by {a} (inl q) h = subst (λ z. Answers s m (loaded_at memory bytes z)) (sym q.1) (subst (Reaches s) q.1 h)
      by {a} (inr (inl q)) h = subst (λ z. Answers s m (loaded_at memory bytes z)) (sym q.0) tt
      by {a} (inr (inr q)) h = subst (λ z. Answers s m (loaded_at memory bytes z)) (sym q.0) (subst (Reaches s) q.0 h, f ∙ ap Number (is (lies e q.1 q.2)))

  -- an access that goes on at an object lies in it
  pub passes_lies : (s p : Bool) → are_bytes bytes ≡ true → nat_le 1 align ≡ true → Reaches s (reached memory objects bytes align (stands_for p b x)) → s ≡ false → nat_le b 1 ≡ false → LiesAt memory b x bytes
  passes_lies s p e g r f o = by (reached_as p) r
    where
      none : (nat_le b 1 ≡ true) ⊎ (nat_le 1 align ≡ false) → ⊥
      none (inl z) = true≢false (sym z ∙ o)
      none (inr z) = true≢false (sym g ∙ z)

      by : {a : Access} → Reached a → Reaches s a → LiesAt memory b x bytes
      by {a} (inl q) h = absurd (true≢false (sym (subst (Reaches s) q.1 h) ∙ f))
      by {a} (inr (inl q)) h = absurd (none q.1)
      by {a} (inr (inr q)) h = lies e q.1 q.2

-- ---- loads object by object

-- the number of the object that the base is of
pub found_at : (memory now : List (List ℕ)) (b b' x x' bytes object new : ℕ) → b' ≡ b → x' ≡ x → now ≡ memory
    → (nat_eq b' (object + 2) ≡ true → x' + bytes ≤ length (object_of now object) → new ≡ number_at bytes x' (object_of now object))
    → b ≡ object + 2 → LiesAt memory b x bytes → new ≡ number_at bytes x (object_of memory (b - 2))
found_at memory now b b' x x' bytes object new base place same here is lies =
    let at : object ≡ b - 2 = omega (arith, is) in
    let size : length (object_of now object) ≡ length (object_of memory (b - 2)) = λ i. length (object_of (same i) (at i)) in
    here (eq-eqb b' (object + 2) (base ∙ is)) (omega (arith, lies.inside, size, place)) ∙ (λ i. number_at bytes (place i) (object_of (same i) (at i)))

-- one object more
pub one_more : (memory now : List (List ℕ)) (b b' x x' bytes object old new : ℕ) → b' ≡ b → x' ≡ x → now ≡ memory
    → (nat_eq b' (object + 2) ≡ true → x' + bytes ≤ length (object_of now object) → new ≡ number_at bytes x' (object_of now object))
    → (nat_eq b' (object + 2) ≡ false → new ≡ old)
    → (LiesAt memory b x bytes → b < object + 2 → old ≡ number_at bytes x (object_of memory (b - 2)))
    → LiesAt memory b x bytes → b < object + 1 + 2 → new ≡ number_at bytes x (object_of memory (b - 2))
one_more memory now b b' x x' bytes object old new base place same here away before lies below = by (eqb_tells b' (object + 2))
  where
    by : ((nat_eq b' (object + 2) ≡ true) × (b' ≡ object + 2)) ⊎ ((nat_eq b' (object + 2) ≡ false) × (b' ≢ object + 2)) → new ≡ number_at bytes x (object_of memory (b - 2))
    by (inl t) = found_at memory now b b' x x' bytes object new base place same here (sym base ∙ t.1) lies
    by (inr f) = away f.0 ∙ before lies (omega (arith, below, f.1, base))

-- the same, seen from a memory before
pub loaded_there : (memory now : List (List ℕ)) (b b' x x' bytes n : ℕ) → now ≡ memory → b' ≡ b → x' ≡ x → (LiesAt now b' x' bytes → n ≡ number_at bytes x' (object_of now (b' - 2)))
    → LiesAt memory b x bytes → n ≡ number_at bytes x (object_of memory (b - 2))
loaded_there memory now b b' x x' bytes n e f g h lies =
    h (subst (λ m. LiesAt m b' x' bytes) (sym e) (subst (λ k. LiesAt memory k x' bytes) (sym f) (subst (λ k. LiesAt memory b k bytes) (sym g) lies)))
    ∙ (λ i. number_at bytes (g i) (object_of (e i) (f i - 2)))
