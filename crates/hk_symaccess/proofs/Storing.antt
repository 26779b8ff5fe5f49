-- What a store comes to, by the parts of its value and its address.
use Rattle.std.proofs.Common.{◌≡◌, ◌≤◌, ◌+◌, ◌-◌, ◌*◌, ◌%◌, ◌^◌, ◌||◌, ◌&&◌, ℕ, Bool, true, false, List, length, inl, inr, refl, sym, ap, ◌∙◌, subst, arith, nat_eq, nat_le, not, if◌then◌else◌}
use Rattle.std.specs.Prelude.{Some}
use Rattle.std.proofs.Math.Nat.{mod-eq_of_lt}
use Rattle.std.proofs.lemmas.Bool.{lt-leb, lt-ltb, ltb-true, true≢false}
use Rattle.ir_value.specs.declared.value.Value.TheVariants.{Number, Null, Address}
use Rattle.ir_value.specs.declared.value.StuckReason.TheVariants as u
use Rattle.ir_value.specs.declared.access.Access.{Access}
use Rattle.ir_value.specs.Numbers.{is_width, is_number}
use Rattle.ir_code.specs.declared.program.Object.{Object}
use Rattle.ir_machine.specs.declared.state.Written.{Written}
use Rattle.ir_machine.specs.declared.state.Written.TheVariants.{Puts, Sticks, Lost}
use Rattle.ir_machine.specs.Values.{reached, are_bytes, object_at}
use Rattle.ir_machine.specs.Step.{put_value, store_to, stored, write_to}
use Rattle.hk_symvalue.specs.Meaning.{stands_for}
use Rattle.hk_symvalue.specs.Rows.{Reaches}
use Rattle.hk_symaccess.specs.Accesses.{LiesAt, MayWrite, Refuses, Stores, is_fixed, written_up_to}
use Rattle.hk_symaccess.proofs.Reaching.{Reached, reached_as, passes_lies}

module _ (memory : List (List ℕ)) (objects : List Object) (bytes align b x : ℕ) where
  -- the object of a base that is one
  fixed_is : 2 ≤ b → is_fixed objects b ≡ (object_at objects (b - 2)).constant
  fixed_is o = ap (λ t. if t then false else (object_at objects (b - 2)).constant) (lt-leb b 1 (omega (arith, o)))

  put_refuses : (p : Bool) (base n : ℕ) → Refuses p (put_value bytes (b - 2) x (stands_for p base n))
  put_refuses true base n = refl
  put_refuses false base n = by (nat_eq base 0) (nat_eq base 1)
    where
      puts : (t : Bool) → Refuses false (if t then Puts (b - 2) x n else Lost)
      puts true = refl
      puts false = tt

      by : (zero one : Bool) → Refuses false (put_value bytes (b - 2) x (if zero then Number n else (if one then Null else Address (base - 2) n)))
      by true one = puts (is_width (8 * bytes) && is_number (8 * bytes) n)
      by false true = tt
      by false false = tt

  pub store_refuses : (s q p c pv : Bool) (base n : ℕ) → are_bytes bytes ≡ true → Reaches q (reached memory objects bytes align (stands_for p b x)) → c ≡ is_fixed objects b → s ≡ (q || (c || pv))
      → Refuses s (stored memory objects bytes align (Some (stands_for pv base n)) (Some (stands_for p b x)))
  store_refuses s q p c pv base n e r f g =
      subst (λ t. Refuses s (if t then store_to objects bytes (stands_for pv base n) (reached memory objects bytes align (stands_for p b x)) else Lost)) (sym e)
      (by (reached_as memory objects bytes align b x p) r)
    where
      put : (k : Bool) → c ≡ k → q ≡ false → Refuses s (if k then Sticks u.U13 else put_value bytes (b - 2) x (stands_for pv base n))
      put true h l = g ∙ (λ i. l i || (h i || pv))
      put false h l = subst (λ t. Refuses t (put_value bytes (b - 2) x (stands_for pv base n))) (sym (g ∙ (λ i. l i || (h i || pv)))) (put_refuses pv base n)

      by : {a : Access} → Reached memory objects bytes align b x a → Reaches q a → Refuses s (store_to objects bytes (stands_for pv base n) a)
      by {a} (inl w) h = subst (λ z. Refuses s (store_to objects bytes (stands_for pv base n) z)) (sym w.1) (g ∙ ap (λ t. t || (c || pv)) (subst (Reaches q) w.1 h))
      by {a} (inr (inl w)) h = subst (λ z. Refuses s (store_to objects bytes (stands_for pv base n) z)) (sym w.0) tt
      by {a} (inr (inr w)) h =
          subst (λ z. Refuses s (store_to objects bytes (stands_for pv base n) z)) (sym w.0) (put (object_at objects (b - 2)).constant (f ∙ fixed_is w.1) (subst (Reaches q) w.0 h))

  or_false : (q c p : Bool) → (q || (c || p)) ≡ false → (q ≡ false) × (c ≡ false)
  or_false true c p e = absurd (true≢false e)
  or_false false true p e = absurd (true≢false e)
  or_false false false p e = (refl, refl)

  pub store_lies : (s q p c pv : Bool) → are_bytes bytes ≡ true → nat_le 1 align ≡ true → Reaches q (reached memory objects bytes align (stands_for p b x)) → c ≡ is_fixed objects b → s ≡ (q || (c || pv))
      → s ≡ false → nat_le b 1 ≡ false → MayWrite memory objects b x bytes
  store_lies s q p c pv e g r f k h o =
      let t : LiesAt memory b x bytes = passes_lies memory objects bytes align b x q p e g r (or_false q c pv (sym k ∙ h)).0 o in
      record { lies = t; free = sym (fixed_is t.known) ∙ sym f ∙ (or_false q c pv (sym k ∙ h)).1 }

  -- ---- the memory behind it

  abbrev Behind : Bool → List (List ℕ) → Written → Type 0
  Behind s new w = Refuses s w → Stores s new memory bytes w

  pub store_writes : (s p pv : Bool) (base n count : ℕ) (new : List (List ℕ)) → length memory ≡ count
      → Refuses s (stored memory objects bytes align (Some (stands_for pv base n)) (Some (stands_for p b x)))
      → (s ≡ false → nat_le b 1 ≡ false → MayWrite memory objects b x bytes)
      → new ≡ written_up_to count (true && not s) memory b x bytes (n % 2 ^ (8 * bytes))
      → Stores s new memory bytes (stored memory objects bytes align (Some (stands_for pv base n)) (Some (stands_for p b x)))
  store_writes s p pv base n count new long r may is = by (are_bytes bytes) r
    where
      there : 2 ≤ b → is_number (8 * bytes) n ≡ true → s ≡ false → new ≡ write_to memory bytes (b - 2) x n
      there o small h =
          let lies : LiesAt memory b x bytes = (may h (lt-leb b 1 (omega (arith, o)))).lies in
          is ∙ (λ i. if (true && not (h i)) && (not (lt-leb b 1 (omega (arith, o)) i) && lt-ltb b (count + 2) (omega (arith, lies.object, long, o)) i) then write_to memory bytes (b - 2) x (n % 2 ^ (8 * bytes)) else memory)
          ∙ ap (write_to memory bytes (b - 2) x) (mod-eq_of_lt (ltb-true _ _ small))

      puts : (i j : Bool) → 2 ≤ b → is_number (8 * bytes) n ≡ j → Behind s new (if i && j then Puts (b - 2) x n else Lost)
      puts true true o h z = (z, there o h z)
      puts true false o h z = tt
      puts false j o h z = tt

      number : (zero one : Bool) → 2 ≤ b → Behind s new (put_value bytes (b - 2) x (if zero then Number n else (if one then Null else Address (base - 2) n)))
      number true one o = puts (is_width (8 * bytes)) (is_number (8 * bytes) n) o refl
      number false true o = λ z. tt
      number false false o = λ z. tt

      put : (pv : Bool) → 2 ≤ b → Behind s new (put_value bytes (b - 2) x (stands_for pv base n))
      put true o = λ z. z
      put false o = number (nat_eq base 0) (nat_eq base 1) o

      free : (k : Bool) → 2 ≤ b → Behind s new (if k then Sticks u.U13 else put_value bytes (b - 2) x (stands_for pv base n))
      free true o = λ z. z
      free false o = put pv o

      at : {a : Access} → Reached memory objects bytes align b x a → Behind s new (store_to objects bytes (stands_for pv base n) a)
      at {a} (inl w) = subst (λ z. Behind s new (store_to objects bytes (stands_for pv base n) z)) (sym w.1) (λ z. z)
      at {a} (inr (inl w)) = subst (λ z. Behind s new (store_to objects bytes (stands_for pv base n) z)) (sym w.0) (λ z. tt)
      at {a} (inr (inr w)) = subst (λ z. Behind s new (store_to objects bytes (stands_for pv base n) z)) (sym w.0) (free (object_at objects (b - 2)).constant w.1)

      by : (t : Bool) → Behind s new (if t then store_to objects bytes (stands_for pv base n) (reached memory objects bytes align (stands_for p b x)) else Lost)
      by true = at (reached_as memory objects bytes align b x p)
      by false = λ z. tt

-- the same, seen from a memory before
pub may_write : (memory now : List (List ℕ)) (objects : List Object) (b b' x x' bytes : ℕ) → now ≡ memory → b' ≡ b → x' ≡ x → MayWrite memory objects b x bytes → MayWrite now objects b' x' bytes
may_write memory now objects b b' x x' bytes e f g m =
    subst (λ m. MayWrite m objects b' x' bytes) (sym e) (subst (λ k. MayWrite memory objects k x' bytes) (sym f) (subst (λ k. MayWrite memory objects b k bytes) (sym g) m))
