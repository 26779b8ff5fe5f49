-- The terms that wait, as words are entered.
use Rattle.std.proofs.Common.{◌≡◌, ◌⊎◌, inl, inr, ℕ, zero, suc, ◌+◌, ◌*◌, ◌<◌, ◌≤◌, Bool, true, false, cond, nat_eq, List, [], ◌∷◌, ◌++◌, length, reverse, Option, Some, None, refl, sym, ◌∙◌, ap, subst, arith, mul-le-mul_right}
use Rattle.std.specs.Prelude.{is_some, MatchOption, slice_get}
use Rattle.std.specs.Option.{option_to_list}
use Rattle.std.specs.Map.{lookup}
use Rattle.std.proofs.lemmas.Bool.{cases_lt}
use Rattle.std.proofs.lemmas.List.{reverse-append}
use Rattle.hk_term.specs.declared.node.Node.{Node}
use Rattle.hk_blast.specs.Blasted.{Words, HasWord, IsMissing, IsPart, Needs}
use Rattle.hk_blast.specs.Blasted.Needs.{part}
use Rattle.hk_blast.specs.Walk.{Waits, Stands, missing, left}

pub waits-below : (nodes : List Node) (goal : ℕ) (table : Words) (t : ℕ) (us : List ℕ) → Waits nodes goal table t us → t < length nodes
waits-below nodes goal table t [] h = h.0
waits-below nodes goal table t (u ∷ us) h = h.0

pub waits-missing : (nodes : List Node) (goal : ℕ) (table : Words) (t : ℕ) (us : List ℕ) → Waits nodes goal table t us → IsMissing table t
waits-missing nodes goal table t [] h = h.1
waits-missing nodes goal table t (u ∷ us) h = h.1

pub waits-needs : (nodes : List Node) (goal : ℕ) (table : Words) (t : ℕ) (us : List ℕ) → Waits nodes goal table t us → Needs nodes goal t
waits-needs nodes goal table t [] h = h.2
waits-needs nodes goal table t (u ∷ us) h = h.2

-- a part waits in front of its term
pub push-waits : (nodes : List Node) (goal : ℕ) (table : Words) (t k : ℕ) (node : Node) (xs ys : List ℕ) → ys ≡ xs ++ t ∷ [] → slice_get nodes t ≡ Some node → IsPart node k → k < t → IsMissing table k → Waits nodes goal table t (reverse xs) → Waits nodes goal table k (reverse ys)
push-waits nodes goal table t k node xs ys e at is l m h =
    let below : t < length nodes = waits-below nodes goal table t (reverse xs) h in
    subst (Waits nodes goal table k) (sym (ap reverse e ∙ reverse-append xs (t ∷ [])))
    (omega (arith, l, below), m, part t k node (waits-needs nodes goal table t (reverse xs) h) at is, l, h)

-- those that wait stay so while a smaller term gets its word
waits-later : (nodes : List Node) (goal : ℕ) (old new : Words) (t u : ℕ) (us : List ℕ) → ((k : ℕ) → IsMissing old k → (k ≡ t → ⊥) → IsMissing new k) → t < u → Waits nodes goal old u us → Waits nodes goal new u us
waits-later nodes goal old new t u [] others l h = (h.0, others u h.1 (λ e. absurd (omega (arith, e, l))), h.2, h.3)
waits-later nodes goal old new t u (w ∷ ws) others l h =
    (h.0, others u h.1 (λ e. absurd (omega (arith, e, l))), h.2, h.3, waits-later nodes goal old new t w ws others (omega (arith, l, h.3)) h.4)

-- a term got its word, and the next is taken
module _ (nodes : List Node) (goal : ℕ) (old new : Words) (t : ℕ) (xs ys : List ℕ) where
  popped : (u : ℕ) → xs ≡ ys ++ u ∷ [] → reverse xs ≡ u ∷ reverse ys
  popped u e = ap reverse e ∙ reverse-append ys (u ∷ [])

  empty : length xs ≡ 0 → xs ≡ []
  empty = pick xs
    where
      pick : (zs : List ℕ) → length zs ≡ 0 → zs ≡ []
      pick [] e = refl
      pick (z ∷ zs) e = absurd (omega (arith, e))

  after : (u : ℕ) → xs ≡ ys ++ u ∷ [] → Waits nodes goal old t (reverse xs) → ((k : ℕ) → IsMissing old k → (k ≡ t → ⊥) → IsMissing new k) → Waits nodes goal new u (reverse ys)
  after u e h others =
      let w : Waits nodes goal old t (u ∷ reverse ys) = subst (Waits nodes goal old t) (popped u e) h in
      waits-later nodes goal old new t u (reverse ys) others w.3 w.4

  pub pop-stands : (r : Option ℕ) (size rest : ℕ) (Q : ℕ → Type 0) → xs ≡ ys ++ option_to_list r → MatchOption r ((size ≡ 0) × (rest ≡ 0)) Q → size ≡ length xs → HasWord new t
      → ((k : ℕ) → IsMissing old k → (k ≡ t → ⊥) → IsMissing new k) → Waits nodes goal old t (reverse xs) → Stands nodes goal new r (reverse ys)
  pop-stands None size rest Q e m s has others h =
      let w : Waits nodes goal old t [] = subst (λ zs. Waits nodes goal old t (reverse zs)) (empty (sym s ∙ m.0)) h in
      subst (HasWord new) w.3 has
  pop-stands (Some u) size rest Q e m s has others h = after u e h others

  some-cases : (b : Bool) → ((b ≡ true) ⊎ (b ≡ false))
  some-cases true = inl refl
  some-cases false = inr refl

  abbrev bits : Bool → ℕ
  bits b = cond b 0 1

  at-most : (b : Bool) → cond b 0 1 ≤ 1
  at-most true = omega arith
  at-most false = omega arith

  module _ (kept : (k : ℕ) → HasWord old k → HasWord new k) where
    one : (k : ℕ) → cond (is_some (lookup (nat_eq k) new)) 0 1 ≤ cond (is_some (lookup (nat_eq k) old)) 0 1
    one k = pick (some-cases (is_some (lookup (nat_eq k) old)))
      where
        pick : (is_some (lookup (nat_eq k) old) ≡ true) ⊎ (is_some (lookup (nat_eq k) old) ≡ false) → cond (is_some (lookup (nat_eq k) new)) 0 1 ≤ cond (is_some (lookup (nat_eq k) old)) 0 1
        pick (inl e) = let f : cond (is_some (lookup (nat_eq k) new)) 0 1 ≡ 0 = ap bits (kept k e) in omega (arith, f)
        pick (inr e) = let f : cond (is_some (lookup (nat_eq k) old)) 0 1 ≡ 1 = ap bits e in omega (arith, f, at-most (is_some (lookup (nat_eq k) new)))

    missing-most : (m : ℕ) → missing m new ≤ missing m old
    missing-most zero = omega arith
    missing-most (suc m) = omega (arith, missing-most m, one m)

    missing-fewer : (m : ℕ) → t < m → IsMissing old t → HasWord new t → missing m new + 1 ≤ missing m old
    missing-fewer zero l h has = absurd (omega (arith, l))
    missing-fewer (suc m) l h has = pick (cases_lt t m) (λ b. missing-fewer m b h has)
      where
        pick : (t < m) ⊎ (m ≤ t) → (t < m → missing m new + 1 ≤ missing m old) → missing (suc m) new + 1 ≤ missing (suc m) old
        pick (inl b) go = omega (arith, go b, one m)
        pick (inr b) go =
            let e : t ≡ m = omega (arith, b, l) in
            let f : cond (is_some (lookup (nat_eq m) new)) 0 1 ≡ 0 = ap bits (subst (HasWord new) e has) in
            let g : cond (is_some (lookup (nat_eq m) old)) 0 1 ≡ 1 = ap (λ o. bits (is_some o)) (subst (IsMissing old) e h) in
            omega (arith, missing-most m, f, g)

    pub pop-smaller : (r : Option ℕ) → xs ≡ ys ++ option_to_list r → HasWord new t → ((k : ℕ) → IsMissing old k → (k ≡ t → ⊥) → IsMissing new k) → Waits nodes goal old t (reverse xs) → left (length nodes) new r < left (length nodes) old (Some t)
    pop-smaller None e has others h = omega arith
    pop-smaller (Some u) e has others h =
        let l : u < length nodes = waits-below nodes goal new u (reverse ys) (after u e h others) in
        less (missing (length nodes) new) (missing (length nodes) old) (length nodes) u t l (missing-fewer (length nodes) (waits-below nodes goal old t (reverse xs) h) (waits-missing nodes goal old t (reverse xs) h) has)
      where
        less : (a b m u t : ℕ) → u < m → a + 1 ≤ b → a * (m + 1) + u + 1 < b * (m + 1) + t + 1
        less a b m u t l k = let e : (a + 1) * (m + 1) ≤ b * (m + 1) = mul-le-mul_right (m + 1) k in omega (arith, e, l)

-- what got its word is needed
pub only-needed : (nodes : List Node) (goal : ℕ) (old new : Words) (t : ℕ) (us : List ℕ) → Waits nodes goal old t us → ((k : ℕ) → HasWord new k → (HasWord old k) ⊎ (k ≡ t)) → (k : ℕ) → HasWord new k → (HasWord old k) ⊎ (Needs nodes goal k)
only-needed nodes goal old new t us h only k has = pick (only k has)
  where
    pick : (HasWord old k) ⊎ (k ≡ t) → (HasWord old k) ⊎ (Needs nodes goal k)
    pick (inl o) = inl o
    pick (inr e) = inr (subst (Needs nodes goal) (sym e) (waits-needs nodes goal old t us h))
