-- There is one function that finds the functions that come to strays.
use Rattle.std.proofs.Common.{◌≡◌, Bool, true, false, List, refl, sym, ap}
use Rattle.spec_ast.specs.Raw.{Line}
use Rattle.spec_names.specs.Kernel.{Name, Kernel}
use Rattle.spec_lines.specs.Whole.{AreStrays, first_fault, hooks_of}

alike : (a b : Bool) → (a ≡ true → b ≡ true) → (b ≡ true → a ≡ true) → a ≡ b
alike true true p q = refl
alike true false p q = sym (p refl)
alike false true p q = q refl
alike false false p q = refl

one_strays : (k : Kernel) (hooks : List Name) (s1 s2 : Name → Bool) → AreStrays k hooks s1 → AreStrays k hooks s2 → (f : Name) → s1 f ≡ s2 f
one_strays k hooks s1 s2 a b f = alike (s1 f) (s2 f) (λ e. b.all f (a.told f e)) (λ e. a.all f (b.told f e))

same_function : (s1 s2 : Name → Bool) → ((f : Name) → s1 f ≡ s2 f) → s1 ≡ s2
same_function s1 s2 p = λ i f. p f i

-- the first line that fails is the same
pub one_answer : (k : Kernel) (raw : List Line) (s1 s2 : Name → Bool) → AreStrays k (hooks_of raw) s1 → AreStrays k (hooks_of raw) s2
    → first_fault s1 k raw ≡ first_fault s2 k raw
one_answer k raw s1 s2 a b = ap (λ (s : Name → Bool). first_fault s k raw) (same_function s1 s2 (one_strays k (hooks_of raw) s1 s2 a b))
