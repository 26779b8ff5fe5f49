-- What a term reaches is the same in a longer list, and what is added passes the tests that all nodes and all stands pass.
use Rattle.std.proofs.Common.{◌≡◌, ℕ, ◌<◌, ◌≤◌, ◌⊎◌, ◌++◌, Bool, true, false, List, [], ◌∷◌, length, reverse, Some, None, arith, refl, sym, ◌∙◌, ap, subst, inl, inr}
use Rattle.std.specs.List.{slice_get}
use Rattle.std.specs.Prelude.{Option, Result, Ok, Err, IfOk, OnErr}
use Rattle.std.proofs.lemmas.Bool.{cases_lt}
use Rattle.std.proofs.lemmas.Option.{slice_get_within}
use Rattle.std.proofs.lemmas.List.{length-append}
use Rattle.hk_term.specs.Shape.{width, AllFitIn, Grows}
use Rattle.hk_term.specs.declared.bounds.Bound.{Bound}
use Rattle.hk_term.specs.declared.node.Node.{Node}
use Rattle.hk_term.specs.declared.node.Node.TheVariants.{Const, Var, Select, Unary, Binary, Choose, Resize, ForAll}
use Rattle.hk_term.proofs.TermLists.{holds, slice_get-seam}
use Rattle.hk_term.proofs.Interning.{slice_get-append}
use Rattle.hk_copy.specs.declared.stand.Stand.{Stand}
use Rattle.hk_copy.specs.declared.stand.Stand.TheVariants.{Other}
use Rattle.hk_copy.specs.Stands.{Stands, is_bound, without}
use Rattle.hk_copy.specs.Copies.{Copies}
use Rattle.hk_copy.specs.Reach.{IsPart, Reaches, Reads, Quantifies, Frees, IsFreed, Tests, passes, AllPass, StandsPass}
use Rattle.hk_copy.specs.Reach.Reaches.{own, under}
use Rattle.hk_copy.specs.Reach.Frees.{itself, within}
use Rattle.hk_copy.specs.Making.{renewed, IsFolded}
use Rattle.hk_copy.proofs.ReadingLaws.{lookup-without, lookup-hidden}
use Rattle.hk_copy.proofs.ReachLaws.{copies-reach, copies-free}
use Rattle.hk_copy.proofs.MakingLaws.{part-before}

module _ (old new : List Node) (g : Grows old new) (fit : AllFitIn (reverse new)) where
  was : (t : ℕ) (n : Node) → t < length old → slice_get new t ≡ Some n → slice_get old t ≡ Some n
  was t n h e = sym (slice_get-append old g.more t h) ∙ ap (λ l. slice_get l t) (sym g.is) ∙ e

  earlier : (t : ℕ) (n : Node) (a : ℕ) → t < length old → slice_get new t ≡ Some n → IsPart n a → a < length old
  earlier t n a h e part = omega (arith, h, part-before n t (width new) a (holds new t n fit e).fits part)

  -- what a term reaches in a longer list it reaches in the list
  pub reach-older : (R : ℕ → ℕ → Type 0) (Q : List Bound → Type 0) (t : ℕ) → t < length old → Reaches new R Q t → Reaches old R Q t
  reach-older R Q t h (own n e is) = own n (was t n h e) is
  reach-older R Q t h (under n a e part r) = under n a (was t n h e) part (reach-older R Q a (earlier t n a h e part) r)

  pub free-older : (size id t : ℕ) → t < length old → Frees new size id t → Frees old size id t
  free-older size id t h (itself n e is) = itself n (was t n h e) is
  free-older size id t h (within n a e off part r) = within n a (was t n h e) off part (free-older size id a (earlier t n a h e part) r)

  freed-older : (size id t : ℕ) (env : Stands) → t < length old → IsFreed new size id env t → IsFreed old size id env t
  freed-older size id t env h (inl p) = inl (free-older size id t h p.0, p.1)
  freed-older size id t env h (inr s) =
      inr (record { instead = s.instead; read = s.read; free = free-older s.read s.instead t h s.free; stand = s.stand })

  module _ {E : Type 0} (env : Stands) (t : ℕ) (h : t < length old) where
    pub copied-reads : (result : Result ℕ E) → IfOk result (λ r. Copies new env t r) → IfOk result (λ r. (array size : ℕ) → Reads new array size r → Reads old array size t)
    copied-reads (Ok r) c = λ array size reads.
        reach-older (λ a s. (a ≡ array) × (s ≡ size)) (λ b. ⊥) t h (copies-reach new (λ a s. (a ≡ array) × (s ≡ size)) (λ b. ⊥) c reads)
    copied-reads (Err e) c = c

    pub copied-quantifiers : (result : Result ℕ E) → IfOk result (λ r. Copies new env t r) → IfOk result (λ r. (bound : List Bound) → Quantifies new bound r → Quantifies old bound t)
    copied-quantifiers (Ok r) c = λ bound has.
        reach-older (λ a s. ⊥) (λ b. b ≡ bound) t h (copies-reach new (λ a s. ⊥) (λ b. b ≡ bound) c has)
    copied-quantifiers (Err e) c = c

    pub copied-free : (result : Result ℕ E) → IfOk result (λ r. Copies new env t r) → IfOk result (λ r. (size id : ℕ) → Frees new size id r → IsFreed old size id env t)
    copied-free (Ok r) c = λ size id free. freed-older size id t env h (copies-free new size id c free)
    copied-free (Err e) c = c

-- ---- what is added

pub pass-push : (tests : Tests) (ns : List Node) (n : Node) → AllPass tests ns → passes tests n ≡ true → AllPass tests (ns ++ n ∷ [])
pass-push tests ns n all its k m e = by (cases_lt k (length ns))
  where
    by : (k < length ns) ⊎ (length ns ≤ k) → passes tests m ≡ true
    by (inl low) = all k m (sym (slice_get-append ns (n ∷ []) k low) ∙ e)
    by (inr high) =
        let last : k ≡ length ns = omega (arith, high, slice_get_within (ns ++ n ∷ []) k m e, length-append ns (n ∷ [])) in
        let here : Some n ≡ Some m = sym (slice_get-seam ns n []) ∙ ap (λ j. slice_get (ns ++ n ∷ []) j) (sym last) ∙ e in
        let same : n ≡ m = cc in
        subst (λ x. passes tests x ≡ true) same its

pub pass-interned : {E : Type 0} (old new : List Node) (n : Node) (result : Result ℕ E) → IfOk result (λ t. ((t < length old) × (new ≡ old)) ⊎ ((t ≡ length old) × (new ≡ old ++ n ∷ []))) → OnErr result (new ≡ old) → (tests : Tests) → AllPass tests old → passes tests n ≡ true → AllPass tests new
pass-interned old new n (Ok t) (inl p) err tests all its = subst (AllPass tests) (sym p.1) all
pass-interned old new n (Ok t) (inr p) err tests all its = subst (AllPass tests) (sym p.1) (pass-push tests old n all its)
pass-interned old new n (Err e) ok err tests all its = subst (AllPass tests) (sym err) all

pass-renewed : (tests : Tests) (f : ℕ → ℕ) (n : Node) → passes tests (renewed f n) ≡ passes tests n
pass-renewed tests f (Const wide number) = refl
pass-renewed tests f (Var wide id) = refl
pass-renewed tests f (Select array wide index) = refl
pass-renewed tests f (Unary kind a) = refl
pass-renewed tests f (Binary kind a b) = refl
pass-renewed tests f (Choose c a b) = refl
pass-renewed tests f (Resize kind to a) = refl
pass-renewed tests f (ForAll bound body) = refl

pub pass-made : (nodes : List Node) (f : ℕ → ℕ) (t : ℕ) (n made : Node) → slice_get nodes t ≡ Some n → IsFolded nodes (renewed f n) made → (tests : Tests) → AllPass tests nodes → passes tests made ≡ true
pass-made nodes f t n made e (inl same) tests all = ap (passes tests) same ∙ pass-renewed tests f n ∙ all t n e
pass-made nodes f t n made e (inr p) tests all = ap (passes tests) p.1

pub pass-without : (tests : Tests) (bound : List Bound) (env : Stands) → StandsPass tests env → StandsPass tests (without bound env)
pass-without tests bound env all i size id e = by (is_bound bound i) refl
  where
    none : ◌≡◌ {A = Option Stand} None (Some (Other size id)) → ⊥
    none x = cc

    by : (b : Bool) → is_bound bound i ≡ b → tests.variable size id ≡ true
    by true q = absurd (none (sym (lookup-hidden bound env i q) ∙ e))
    by false q = all i size id (sym (lookup-without bound env i q) ∙ e)
