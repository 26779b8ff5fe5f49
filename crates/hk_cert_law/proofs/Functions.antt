-- What the kind of a function says of its name.
use Rattle.std.proofs.Common.{◌≡◌, ℕ, Bool, true, false, not, ◌&&◌, ◌||◌, cond, eqb, List, [], ◌∷◌, ◌++◌, length, drop, Option, Some, refl, sym, ◌∙◌, ap}
use Rattle.std.proofs.lemmas.Bool.{and_from, and_parts, or_from, eqb-true, eq-eqb, ne_eqb, eqb-false, not-true, not_from_false}
use Rattle.std.specs.Prelude.{bytes_eq, codes}
use Rattle.std.specs.List.{list_all}
use Rattle.spec_expr.specs.Words.{begins_with}
use Rattle.spec_read.specs.Places.{Function, equivalence, invariant, property, handler, are_same, begins_state, is_reserved, function_with, function_of}
use Rattle.hk_cert_lines.specs.Words.{is_word_byte, is_word, is_name, is_kept, is_handler_name, begins}
use Rattle.hk_cert_law.proofs.Entries.{name_bytes}

-- ---- what a name begins with

swapped : (a b : ℕ) → eqb a b ≡ eqb b a
swapped a b = by (eqb a b) refl
  where
    by : (t : Bool) → eqb a b ≡ t → t ≡ eqb b a
    by true e = sym (eq-eqb b a (sym (eqb-true a b e)))
    by false e = sym (ne_eqb b a (λ f. eqb-false a b e (sym f)))

begins_same : (front text : List ℕ) → begins front text ≡ begins_with front text
begins_same [] text = refl
begins_same (b ∷ front) [] = refl
begins_same (b ∷ front) (c ∷ text) = ap (λ t. t && begins front text) (swapped c b) ∙ ap (λ t. eqb b c && t) (begins_same front text)

front_is : (front text : List ℕ) → begins_with front text ≡ true → text ≡ front ++ drop (length front) text
front_is [] text h = refl
front_is (b ∷ front) [] h = absurd (cc h)
front_is (b ∷ front) (c ∷ text) h =
    let parts = and_parts (eqb b c) (begins_with front text) h in
    let first : c ≡ b = sym (eqb-true b c parts.0) in
    ap (λ x. x ∷ text) first ∙ ap (λ l. b ∷ l) (front_is front text parts.1)

all_behind : (test : ℕ → Bool) (a b : List ℕ) → list_all test (a ++ b) ≡ true → list_all test b ≡ true
all_behind test [] b h = h
all_behind test (x ∷ a) b h = all_behind test a b (and_parts (test x) (list_all test (a ++ b)) h).1

-- ---- kinds

abbrev pub inv : List ℕ
inv = codes "inv_"

abbrev pub prop : List ℕ
prop = codes "prop_"

-- an invariant's or a property's name behind its prefix is a word; a handler's name is one
abbrev pub Tells : List ℕ → Option Function → Type 0
Tells x (Some (invariant n)) = (x ≡ inv ++ n) × (is_word n ≡ true)
Tells x (Some (property n)) = (x ≡ prop ++ n) × (is_word n ≡ true)
Tells x (Some handler) = is_handler_name x ≡ true
Tells x _ = Unit {0}

word_of : (word : List ℕ) → (word ≡ [] → ⊥) → list_all is_word_byte word ≡ true → is_word word ≡ true
word_of [] some h = absurd (some refl)
word_of (b ∷ word) some h = h

module _ (x : List ℕ) (named : is_name x ≡ true) where
  -- what stands behind a prefix
  rest_word : (front : List ℕ) → begins_with front x ≡ true → eqb (length x) (length front) ≡ false → is_word (drop (length front) x) ≡ true
  rest_word front h longer =
      let whole = front_is front x h in
      let rest = drop (length front) x in
      word_of rest
      (λ none. let long : length x ≡ length front = ap (λ (l : List ℕ). length l) whole ∙ ap (λ l. length (front ++ l)) none ∙ ap (λ (l : List ℕ). length l) (append_nil front) in eqb-false (length x) (length front) longer long)
      (all_behind is_word_byte front rest (ap (list_all is_word_byte) (sym whole) ∙ name_bytes x named))
    where
      append_nil : (l : List ℕ) → l ++ [] ≡ l
      append_nil [] = refl
      append_nil (y ∷ l) = ap (λ r. y ∷ r) (append_nil l)

  by_invariant : (fits : Bool) → fits ≡ not (eqb (length x) 4) → begins_with inv x ≡ true → (t : Bool) → Tells x (function_with (fits && t) (invariant (drop 4 x)))
  by_invariant true e h true = (front_is inv x h, rest_word inv h (not-true (eqb (length x) 4) (sym e)))
  by_invariant true e h false = tt
  by_invariant false e h t = tt

  by_property : (fits : Bool) → fits ≡ not (eqb (length x) 5) → begins_with prop x ≡ true → (t : Bool) → Tells x (function_with (fits && t) (property (drop 5 x)))
  by_property true e h true = (front_is prop x h, rest_word prop h (not-true (eqb (length x) 5) (sym e)))
  by_property true e h false = tt
  by_property false e h t = tt

  by_equivalence : (t : Bool) → Tells x (function_with t equivalence)
  by_equivalence true = tt
  by_equivalence false = tt

  -- no prefix of another function
  by_handler : bytes_eq x (codes "equiv") ≡ false → begins_with inv x ≡ false → begins_with prop x ≡ false → (reserved : Bool) → is_reserved x ≡ reserved → (t : Bool) → Tells x (function_with (not reserved && t) handler)
  by_handler a b c true r t = tt
  by_handler a b c false r false = tt
  by_handler a b c false r true =
      let first = parts_of (begins_with (codes "step_") x) (begins_with (codes "count_") x || begins_with (codes "view_") x) r in
      let second = parts_of (begins_with (codes "count_") x) (begins_with (codes "view_") x) first.1 in
      let kept : is_kept x ≡ false =
      or_from (bytes_eq x (codes "equiv") || begins inv x || begins prop x || begins (codes "step_") x || begins (codes "count_") x) (begins (codes "view_") x)
      (or_from (bytes_eq x (codes "equiv") || begins inv x || begins prop x || begins (codes "step_") x) (begins (codes "count_") x)
      (or_from (bytes_eq x (codes "equiv") || begins inv x || begins prop x) (begins (codes "step_") x)
      (or_from (bytes_eq x (codes "equiv") || begins inv x) (begins prop x)
      (or_from (bytes_eq x (codes "equiv")) (begins inv x) a (begins_same inv x ∙ b))
      (begins_same prop x ∙ c))
      (begins_same (codes "step_") x ∙ first.0))
      (begins_same (codes "count_") x ∙ second.0))
      (begins_same (codes "view_") x ∙ second.1) in
      and_from (is_name x) (not (is_kept x)) named (not_from_false (is_kept x) kept)
    where
      parts_of : (s t : Bool) → (s || t) ≡ false → (s ≡ false) × (t ≡ false)
      parts_of false t e = (refl, e)
      parts_of true t e = absurd (cc e)

  module _ (parameters : List (List ℕ)) where
    kinds : (a b c : Bool) → bytes_eq x (codes "equiv") ≡ a → begins_with inv x ≡ b → begins_with prop x ≡ c
        → Tells x (cond a (function_with (are_same parameters (codes "kernel" ∷ codes "state" ∷ [])) equivalence)
        (cond b (function_with (not (eqb (length x) 4) && are_same parameters (codes "kernel" ∷ [])) (invariant (drop 4 x)))
        (cond c (function_with (not (eqb (length x) 5) && are_same parameters (codes "state" ∷ [])) (property (drop 5 x)))
        (function_with (not (is_reserved x) && begins_state parameters) handler))))
    kinds true b c p q r = by_equivalence (are_same parameters (codes "kernel" ∷ codes "state" ∷ []))
    kinds false true c p q r = by_invariant (not (eqb (length x) 4)) refl q (are_same parameters (codes "kernel" ∷ []))
    kinds false false true p q r = by_property (not (eqb (length x) 5)) refl r (are_same parameters (codes "state" ∷ []))
    kinds false false false p q r = by_handler p q r (is_reserved x) refl (begins_state parameters)

    pub kind_tells : Tells x (function_of x parameters)
    kind_tells = kinds (bytes_eq x (codes "equiv")) (begins_with inv x) (begins_with prop x) refl refl refl
