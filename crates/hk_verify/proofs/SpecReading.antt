-- From what reading and elaboration give to the one specification that a text spells for a kernel, or its one refusal.

use Rattle.std.proofs.Common.{ℕ, ◌≡◌, inl, inr, List, Bool, true, false, Option, Some, None, Err, ap, sym, subst, refl}
use Rattle.ir_ast.specs.Program.{ModuleView}
use Rattle.spec_ast.specs.Raw.{Line}
use Rattle.spec_ast.specs.declared.fault.SpecFault.{SpecFault}
use Rattle.spec_ast.specs.declared.fault.SpecReason.{SpecReason}
use Rattle.spec_ast.specs.declared.fault.SpecStop.{SpecStop}
use Rattle.spec_ast.specs.declared.fault.SpecStop.TheVariants.{Refused, Memory}
use Rattle.spec_tree.specs.Plain.{Spec}
use Rattle.spec_names.specs.Kernel.{Name, Kernel}
use Rattle.spec_kernel.specs.View.{kernel_of}
use Rattle.spec_read.specs.Laws.{IsSpecOf, FailsText}
use Rattle.spec_read.specs.Told.{IsAnswer, IsRead}
use Rattle.spec_read.specs.Told as told
use Rattle.spec_lines.specs.Whole.{AreStrays, hooks_of, first_fault, spec_of}
use Rattle.spec_check.specs.Elaboration.{IsElaborated, IsRefused, ElaboratesTo}
use Rattle.hk_verify.specs.Specifications.{IsTheSpec, IsSpecFault, RefusesSpecText, IsSpecStop}

some_is : {A : Type 0} (o : Option A) (x y : A) → o ≡ Some x → o ≡ Some y → x ≡ y
some_is o x y p q = cc

-- ---- strays

truths_agree : (a b : Bool) → (a ≡ true → b ≡ true) → (b ≡ true → a ≡ true) → a ≡ b
truths_agree true b f g = sym (f refl)
truths_agree false true f g = g refl
truths_agree false false f g = refl

-- There is one table of the functions that come to strays.
same_strays : (k : Kernel) (hooks : List Name) (a b : Name → Bool) → AreStrays k hooks a → AreStrays k hooks b → a ≡ b
same_strays k hooks a b x y = λ i f. truths_agree (a f) (b f) (λ e. y.all f (x.told f e)) (λ e. x.all f (y.told f e)) i

-- ---- elaboration

-- Raw lines stand for one specification.
one_spec : (k : Kernel) (raw : List Line) (s t : Spec) → IsElaborated k raw s → IsElaborated k raw t → s ≡ t
one_spec k raw s t x y = some_is (spec_of k raw) s t x.made y.made

same_fault : (a b : SpecFault) → a.line ≡ b.line → a.reason ≡ b.reason → a ≡ b
same_fault a b line reason = λ i. record { line = line i; reason = reason i }

-- Raw lines have one first fault.
one_refusal : (k : Kernel) (raw : List Line) (f g : SpecFault) → IsRefused k raw f.line f.reason → IsRefused k raw g.line g.reason → f ≡ g
one_refusal k raw f g x y =
    let same = some_is (first_fault x.strays k raw) (f.line, f.reason) (g.line, g.reason) x.told
    (subst (λ (strays : Name → Bool). first_fault strays k raw ≡ Some (g.line, g.reason)) (same_strays k (hooks_of raw) y.strays x.strays y.are_strays x.are_strays) y.told) in
    same_fault f g (ap (λ (p : ℕ × SpecReason). p.0) same) (ap (λ (p : ℕ × SpecReason). p.1) same)

none_or_some : {A : Type 0} (o : Option A) (x : A) → o ≡ None → o ≡ Some x → ⊥
none_or_some o x p q = cc

-- What is refused stands for nothing.
never_both : (k : Kernel) (raw : List Line) (s : Spec) (line : ℕ) (reason : SpecReason) → IsElaborated k raw s → IsRefused k raw line reason → ⊥
never_both k raw s line reason x y =
    none_or_some (first_fault x.strays k raw) (line, reason) x.stand
    (subst (λ (strays : Name → Bool). first_fault strays k raw ≡ Some (line, reason)) (same_strays k (hooks_of raw) y.strays x.strays y.are_strays x.are_strays) y.told)

-- ---- texts

-- The raw lines that were read, and what they stand for.
pub found : (m : ModuleView) (text : List ℕ) (raw : List Line) (spec : Spec) → ((other : List Line) → IsSpecOf text other → raw ≡ other)
    → IsSpecOf text raw → IsElaborated (kernel_of m) raw spec → IsTheSpec m text spec
found m text raw spec only spelled elaborated = record {
  spelled = record { raw = raw; spelled = spelled; elaborated = elaborated };
  only = λ other h. one_spec (kernel_of m) raw other spec (subst (λ r. IsElaborated (kernel_of m) r other) (sym (only h.raw h.spelled)) h.elaborated) elaborated;
}

-- The raw lines that were read have a fault.
pub unfit : (m : ModuleView) (text : List ℕ) (raw : List Line) (fault : SpecFault) → ((other : List Line) → IsSpecOf text other → raw ≡ other)
    → ((other : SpecFault) → FailsText text other → ⊥) → IsSpecOf text raw → IsRefused (kernel_of m) raw fault.line fault.reason → RefusesSpecText m text fault
unfit m text raw fault only none spelled refused = record {
  cause = inr (record { raw = raw; spelled = spelled; refused = refused });
  only = λ other h. by other h;
  unspelled = λ spec h. never_both (kernel_of m) raw spec fault.line fault.reason (subst (λ r. IsElaborated (kernel_of m) r spec) (sym (only h.raw h.spelled)) h.elaborated) refused;
}
  where
    by : (other : SpecFault) → IsSpecFault m text other → other ≡ fault
    by other (inl fails) = absurd (none other fails)
    by other (inr u) = one_refusal (kernel_of m) raw other fault (subst (λ r. IsRefused (kernel_of m) r other.line other.reason) (sym (only u.raw u.spelled)) u.refused) refused

-- The text itself has a fault.
pub faulty : (m : ModuleView) (text : List ℕ) (fault : SpecFault) → ((raw : List Line) → IsSpecOf text raw → ⊥)
    → ((other : SpecFault) → FailsText text other → fault ≡ other) → FailsText text fault → RefusesSpecText m text fault
faulty m text fault none same fails = record {
  cause = inl fails;
  only = λ other h. by other h;
  unspelled = λ spec h. none h.raw h.spelled;
}
  where
    by : (other : SpecFault) → IsSpecFault m text other → other ≡ fault
    by other (inl also) = sym (same other also)
    by other (inr u) = absurd (none u.raw u.spelled)

-- ---- ways out

pub stopped_at_lines : (m : ModuleView) (text : List ℕ) (raw : List Line) (stop : SpecStop) → ((other : List Line) → IsSpecOf text other → raw ≡ other)
    → ((other : SpecFault) → FailsText text other → ⊥) → IsSpecOf text raw → ElaboratesTo (kernel_of m) raw (Err stop) → IsSpecStop m text stop
stopped_at_lines m text raw (Refused fault) only none spelled h = unfit m text raw fault only none spelled h
stopped_at_lines m text raw Memory only none spelled h = tt

pub stopped_at_text : (m : ModuleView) (text : List ℕ) (stop : SpecStop) → ((raw : List Line) → IsSpecOf text raw → IsRead raw (Err stop))
    → ((fault : SpecFault) → FailsText text fault → told.IsRefused fault (Err stop)) → IsAnswer text (Err stop) → IsSpecStop m text stop
stopped_at_text m text (Refused fault) none same h = faulty m text fault none same h
stopped_at_text m text Memory none same h = tt
