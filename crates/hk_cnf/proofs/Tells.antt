-- What a clause's answer under a set of true literals says of its literals, in both directions.
use Rattle.std.proofs.Common.{◌≡◌, ◌≢◌, ◌⊎◌, Bool, true, false, cond, List, [], ◌∷◌, ◌++◌, ℤ, neg_ℤ, refl, sym, ◌∙◌, ap, subst, inl, inr}
use Rattle.std.proofs.lemmas.Bool.{false≢true}
use Rattle.std.proofs.lemmas.List.{append_assoc, append-nil}
use Rattle.std.proofs.lemmas.List.Elements.{All-nil, All-push, All-weaker}
use Rattle.std.specs.List.{All, fold}
use Rattle.std.specs.Ordering.{int_eq}
use Rattle.hk_cnf.specs.Literal.{has}
use Rattle.hk_cnf.specs.declared.hint.Hint.{Hint}
use Rattle.hk_cnf.specs.declared.hint.Hint.TheVariants.{False, Unit as OneLeft, Other}
use Rattle.hk_cnf.specs.Hint.{with_open, with_literal, hint_of, Single, Several, Tells}
use Rattle.hk_cnf.proofs.Members.{int_eq-is, int_eq-not, has-left, has-push, all-has}

several-more : (t : ℤ → Bool) (c : List ℤ) (x : ℤ) → Several t c → Several t (c ++ x ∷ [])
several-more t c x s =
    record {
      one = s.one;
      two = s.two;
      one_member = has-left c (x ∷ []) s.one s.one_member;
      two_member = has-left c (x ∷ []) s.two s.two_member;
      one_left = s.one_left;
      two_left = s.two_left;
      no_unit = s.no_unit;
    }

-- a false literal more says nothing new
tells-false : (t : ℤ → Bool) (h : Hint) (c : List ℤ) (x : ℤ) → Tells t h c → t (neg_ℤ x) ≡ true → Tells t h (c ++ x ∷ [])
tells-false t False c x s e = All-push (λ y. t (neg_ℤ y) ≡ true) c x s e
tells-false t (OneLeft l) c x s e =
    record {
      member = has-left c (x ∷ []) l s.member;
      others = All-push (λ y. (l ≡ y) ⊎ (t (neg_ℤ y) ≡ true)) c x s.others (inr e);
      not_true = s.not_true;
      not_false = s.not_false;
    }
tells-false t Other c x s e = several-more t c x s

-- a literal that is not false, after false ones alone
tells-first : (t : ℤ → Bool) (c : List ℤ) (x : ℤ) (b : Bool) → t x ≡ b → Tells t False c → t (neg_ℤ x) ≡ false → Tells t (cond b Other (OneLeft x)) (c ++ x ∷ [])
tells-first t c x true e s n =
    record { one = x; two = x; one_member = has-push c x; two_member = has-push c x; one_left = n; two_left = n; no_unit = inl e }
tells-first t c x false e s n =
    record {
      member = has-push c x;
      others = All-push (λ y. (x ≡ y) ⊎ (t (neg_ℤ y) ≡ true)) c x (All-weaker (λ y. t (neg_ℤ y) ≡ true) (λ y. (x ≡ y) ⊎ (t (neg_ℤ y) ≡ true)) (λ y h. inr h) c s) (inl refl);
      not_true = e;
      not_false = n;
    }

-- and after one that is unset
tells-second : (t : ℤ → Bool) (l : ℤ) (c : List ℤ) (x : ℤ) (b : Bool) → int_eq l x ≡ b → Single t l c → t (neg_ℤ x) ≡ false → Tells t (cond b (OneLeft l) Other) (c ++ x ∷ [])
tells-second t l c x true e s n =
    record {
      member = has-left c (x ∷ []) l s.member;
      others = All-push (λ y. (l ≡ y) ⊎ (t (neg_ℤ y) ≡ true)) c x s.others (inl (int_eq-is l x e));
      not_true = s.not_true;
      not_false = s.not_false;
    }
tells-second t l c x false e s n =
    record {
      one = l;
      two = x;
      one_member = has-left c (x ∷ []) l s.member;
      two_member = has-push c x;
      one_left = s.not_false;
      two_left = n;
      no_unit = inr (int_eq-not l x e);
    }

tells-open : (t : ℤ → Bool) (h : Hint) (c : List ℤ) (x : ℤ) → Tells t h c → t (neg_ℤ x) ≡ false → Tells t (with_open t h x) (c ++ x ∷ [])
tells-open t False c x s n = tells-first t c x (t x) refl s n
tells-open t (OneLeft l) c x s n = tells-second t l c x (int_eq l x) refl s n
tells-open t Other c x s n = several-more t c x s

tells-step : (t : ℤ → Bool) (h : Hint) (c : List ℤ) (x : ℤ) (b : Bool) → t (neg_ℤ x) ≡ b → Tells t h c → Tells t (cond b h (with_open t h x)) (c ++ x ∷ [])
tells-step t h c x true e s = tells-false t h c x s e
tells-step t h c x false e s = tells-open t h c x s e

tells-fold : (t : ℤ → Bool) (h : Hint) (before after : List ℤ) → Tells t h before → Tells t (fold (with_literal t) h after) (before ++ after)
tells-fold t h before [] s = subst (Tells t h) (sym (append-nil before)) s
tells-fold t h before (x ∷ after) s =
    subst (Tells t (fold (with_literal t) (with_literal t h x) after)) (append_assoc before (x ∷ []) after)
    (tells-fold t (with_literal t h x) (before ++ x ∷ []) after (tells-step t h before x (t (neg_ℤ x)) refl s))

-- each answer says what `Tells` says of it
pub Tells-hint_of : (t : ℤ → Bool) (c : List ℤ) → Tells t (hint_of t c) c
Tells-hint_of t c = tells-fold t False [] c (All-nil (λ x. t (neg_ℤ x) ≡ true))

-- a literal of the clause that is not false is the single one
single-at : (t : ℤ → Bool) (l x : ℤ) (c : List ℤ) → Single t l c → has c x ≡ true → t (neg_ℤ x) ≡ false → l ≡ x
single-at t l x c s m n = pick (all-has (λ y. (l ≡ y) ⊎ (t (neg_ℤ y) ≡ true)) c x s.others m)
  where
    pick : (l ≡ x) ⊎ (t (neg_ℤ x) ≡ true) → l ≡ x
    pick (inl e) = e
    pick (inr e) = absurd (false≢true (sym n ∙ e))

no-false : (t : ℤ → Bool) (x : ℤ) (c : List ℤ) → All (λ y. t (neg_ℤ y) ≡ true) c → has c x ≡ true → t (neg_ℤ x) ≡ false → ⊥
no-false t x c h m n = false≢true (sym n ∙ all-has (λ y. t (neg_ℤ y) ≡ true) c x h m)

single-several : (t : ℤ → Bool) (l : ℤ) (c : List ℤ) → Single t l c → Several t c → ⊥
single-several t l c s o = pick o.no_unit
  where
    pick : (t o.one ≡ true) ⊎ (o.one ≢ o.two) → ⊥
    pick (inl e) = false≢true (sym s.not_true ∙ (ap t (single-at t l o.one c s o.one_member o.one_left) ∙ e))
    pick (inr e) = e (sym (single-at t l o.one c s o.one_member o.one_left) ∙ single-at t l o.two c s o.two_member o.two_left)

false-only : (t : ℤ → Bool) (c : List ℤ) (h : Hint) → All (λ x. t (neg_ℤ x) ≡ true) c → Tells t h c → h ≡ False
false-only t c False all s = refl
false-only t c (OneLeft l) all s = absurd (no-false t l c all s.member s.not_false)
false-only t c Other all s = absurd (no-false t s.one c all s.one_member s.one_left)

single-only : (t : ℤ → Bool) (l : ℤ) (c : List ℤ) (h : Hint) → Single t l c → Tells t h c → h ≡ OneLeft l
single-only t l c False s all = absurd (no-false t l c all s.member s.not_false)
single-only t l c (OneLeft k) s o = ap OneLeft (sym (single-at t l k c s o.member o.not_false))
single-only t l c Other s o = absurd (single-several t l c s o)

several-only : (t : ℤ → Bool) (c : List ℤ) (h : Hint) → Several t c → Tells t h c → h ≡ Other
several-only t c False s all = absurd (no-false t s.one c all s.one_member s.one_left)
several-only t c (OneLeft l) s o = absurd (single-several t l c o s)
several-only t c Other s o = refl

-- the converses: a clause of which that holds gives that answer
pub hint-false : (t : ℤ → Bool) (c : List ℤ) → All (λ x. t (neg_ℤ x) ≡ true) c → hint_of t c ≡ False
hint-false t c h = false-only t c (hint_of t c) h (Tells-hint_of t c)

pub hint-single : (t : ℤ → Bool) (l : ℤ) (c : List ℤ) → Single t l c → hint_of t c ≡ OneLeft l
hint-single t l c h = single-only t l c (hint_of t c) h (Tells-hint_of t c)

pub hint-several : (t : ℤ → Bool) (c : List ℤ) → Several t c → hint_of t c ≡ Other
hint-several t c h = several-only t c (hint_of t c) h (Tells-hint_of t c)

-- what an answer says, where it is known
pub tells-at : (t : ℤ → Bool) (c : List ℤ) (h : Hint) → hint_of t c ≡ h → Tells t h c
tells-at t c h e = subst (λ k. Tells t k c) e (Tells-hint_of t c)
