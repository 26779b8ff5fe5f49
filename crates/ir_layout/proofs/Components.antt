-- A layout text has a bad component where one is found byte by byte.
use Rattle.std.proofs.Common.{◌≡◌, ◌≤◌, ◌+◌, ◌⊎◌, inl, inr, ℕ, zero, suc, Bool, true, false, ◌&&◌, ◌||◌, List, [], ◌∷◌, refl, sym, ◌∙◌, ap, subst, arith, take, drop, length}
use Rattle.std.specs.Prelude.{◌==◌, if◌then◌else◌, not, take_while}
use Rattle.std.specs.List.{Contains}
use Rattle.std.proofs.lemmas.Bool.{or_cases, or_left, or_right, and_parts, and_from, cases_Bool, false≢true, cond-true, cond-false}
use Rattle.std.proofs.lemmas.List.Sums.{take_while-cons}
use Rattle.ir_layout.specs.Rules.{components, onto, IsBadComponent}
use Rattle.ir_layout.specs.Texts.{is_no_dash, is_bad_here, is_bad_behind, has_bad_component}
use Rattle.ir_layout.proofs.Anyhow.{here, behind, split}

-- so many elements from the front as pass the test are those
pub taken : (test : ℕ → Bool) (bs : List ℕ) → take (length (take_while test bs)) bs ≡ take_while test bs
taken test [] = refl
taken test (b ∷ bs) = subst (λ cs. take (length cs) (b ∷ bs) ≡ cs) (sym (take_while-cons test b bs)) (pick (test b) (taken test bs))
  where
    pick : (c : Bool) → take (length (take_while test bs)) bs ≡ take_while test bs
        → take (length (if c then b ∷ take_while test bs else [])) (b ∷ bs) ≡ (if c then b ∷ take_while test bs else [])
    pick true e = ap (λ cs. b ∷ cs) e
    pick false e = refl

-- nothing is left behind the end
pub past_end : (n : ℕ) (bs : List ℕ) → length bs ≤ n → drop n bs ≡ []
past_end zero [] few = refl
past_end (suc n) [] few = refl
past_end zero (b ∷ bs) few = absurd (omega (arith, few))
past_end (suc n) (b ∷ bs) few = past_end n bs (omega (arith, few))

-- the first component, and those behind it
abbrev first : List ℕ → List ℕ
first bs = take_while is_no_dash bs

abbrev others : List ℕ → List (List ℕ)
others [] = []
others (b ∷ bs) = if b == 45 then components bs else others bs

parts_are : (bs : List ℕ) → components bs ≡ first bs ∷ others bs
parts_are [] = refl
parts_are (b ∷ bs) = pick (b == 45) (parts_are bs) ∙ ap (λ cs. cs ∷ (if b == 45 then components bs else others bs)) (sym (take_while-cons is_no_dash b bs))
  where
    pick : (c : Bool) → components bs ≡ first bs ∷ others bs
        → (if c then [] ∷ components bs else onto b (components bs)) ≡ (if not c then b ∷ first bs else []) ∷ (if c then components bs else others bs)
    pick true e = refl
    pick false e = ap (onto b) e

here_is : (bs : List ℕ) → is_bad_here bs ≡ true → IsBadComponent (first bs)
here_is bs e = e

is_here : (bs : List ℕ) → IsBadComponent (first bs) → is_bad_here bs ≡ true
is_here bs e = e

abbrev HasBad : List (List ℕ) → Type 0
HasBad cs = (c : List ℕ) × Contains cs c × IsBadComponent c

has_more : (b : List ℕ) (cs : List (List ℕ)) → HasBad cs → HasBad (b ∷ cs)
has_more b cs (c, d, h) = (c, behind b c cs d, h)

behind_is : (bs : List ℕ) → is_bad_behind bs ≡ true → HasBad (others bs)
behind_is [] e = absurd (false≢true e)
behind_is (b ∷ bs) e = pick (or_cases ((b == 45) && is_bad_here bs) (is_bad_behind bs) e) (λ h. behind_is bs h)
  where
    rest : (c : Bool) → HasBad (others bs) → HasBad (if c then components bs else others bs)
    rest true h = subst HasBad (sym (parts_are bs)) (has_more (first bs) (others bs) h)
    rest false h = h

    pick : (((b == 45) && is_bad_here bs) ≡ true) ⊎ (is_bad_behind bs ≡ true) → (is_bad_behind bs ≡ true → HasBad (others bs)) → HasBad (others (b ∷ bs))
    pick (inl h) more =
        let parts = and_parts (b == 45) (is_bad_here bs) h in
        subst HasBad (sym (cond-true (b == 45) (components bs) (others bs) parts.0 ∙ parts_are bs)) (first bs, here (first bs) (others bs), here_is bs parts.1)
    pick (inr h) more = rest (b == 45) (more h)

is_behind : (bs : List ℕ) → HasBad (others bs) → is_bad_behind bs ≡ true
is_behind [] (c, (k, l, e), h) = absurd (omega (arith, l))
is_behind (b ∷ bs) h = pick (cases_Bool (b == 45)) (λ g. is_behind bs g)
  where
    pick : ((b == 45) ≡ true) ⊎ ((b == 45) ≡ false) → (HasBad (others bs) → is_bad_behind bs ≡ true) → (((b == 45) && is_bad_here bs) || is_bad_behind bs) ≡ true
    pick (inr f) more = or_right ((b == 45) && is_bad_here bs) (is_bad_behind bs) (more (subst HasBad (cond-false (b == 45) (components bs) (others bs) f) h))
    pick (inl t) more = found (subst HasBad (cond-true (b == 45) (components bs) (others bs) t ∙ parts_are bs) h)
      where
        found : HasBad (first bs ∷ others bs) → (((b == 45) && is_bad_here bs) || is_bad_behind bs) ≡ true
        found (c, d, g) = which (split (first bs) c (others bs) d)
          where
            which : (first bs ≡ c) ⊎ Contains (others bs) c → (((b == 45) && is_bad_here bs) || is_bad_behind bs) ≡ true
            which (inl e) = or_left ((b == 45) && is_bad_here bs) (is_bad_behind bs) (and_from (b == 45) (is_bad_here bs) t (is_here bs (subst IsBadComponent (sym e) g)))
            which (inr e) = or_right ((b == 45) && is_bad_here bs) (is_bad_behind bs) (more (c, e, g))

pub text_bad : (bs : List ℕ) → has_bad_component bs ≡ true → (c : List ℕ) × Contains (components bs) c × IsBadComponent c
text_bad bs e = pick (or_cases (is_bad_here bs) (is_bad_behind bs) e)
  where
    pick : (is_bad_here bs ≡ true) ⊎ (is_bad_behind bs ≡ true) → HasBad (components bs)
    pick (inl h) = subst HasBad (sym (parts_are bs)) (first bs, here (first bs) (others bs), here_is bs h)
    pick (inr h) = subst HasBad (sym (parts_are bs)) (has_more (first bs) (others bs) (behind_is bs h))

pub bad_text : (bs c : List ℕ) → Contains (components bs) c → IsBadComponent c → has_bad_component bs ≡ true
bad_text bs c d h = pick (split (first bs) c (others bs) (subst (λ cs. Contains cs c) (parts_are bs) d))
  where
    pick : (first bs ≡ c) ⊎ Contains (others bs) c → has_bad_component bs ≡ true
    pick (inl e) = or_left (is_bad_here bs) (is_bad_behind bs) (is_here bs (subst IsBadComponent (sym e) h))
    pick (inr e) = or_right (is_bad_here bs) (is_bad_behind bs) (is_behind bs (c, e, h))
