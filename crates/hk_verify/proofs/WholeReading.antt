-- From what reading, layout and checks give to the whole kernel that a text spells, or its one refusal.

use Rattle.std.proofs.Common.{ℕ, ◌≡◌, ◌≤◌, ◌<◌, ◌⊎◌, inl, inr, List, Result, Ok, Err, ap, sym, ◌∙◌, subst, refl, arith}
use Rattle.std.specs.Prelude.{if◌then◌else◌, ◌==◌}
use Rattle.ir_ast.specs.Program.{ModuleView}
use Rattle.ir_ast.specs.ProgramView.{view_module}
use Rattle.ir_ast.specs.declared.fault.KernelFault.{KernelFault}
use Rattle.ir_ast.specs.declared.fault.KernelReason.{KernelReason}
use Rattle.ir_ast.specs.declared.fault.KernelStop.{KernelStop}
use Rattle.ir_ast.specs.declared.fault.KernelStop.TheVariants.{Refused, Memory}
use Rattle.ir_ast.specs.declared.module.Module.{Module}
use Rattle.ir_type.specs.Items.{Item, Rule, K5, K6, K7, K8, K9, K10, K11, K12, K13, K14, K15, number_of, IsFree, IsFirst}
use Rattle.ir_read.specs.Spelling.{IsModuleText, IsFaultyText, IsModule, IsFault, IsStop}
use Rattle.ir_layout.specs.Rules.{FallsByLayout, IsLaidOut}
use Rattle.ir_layout.specs.Least as layout
use Rattle.ir_check.specs.Rules.{FallsByCheck, IsWellFormed}
use Rattle.ir_check.specs.Least as checks
use Rattle.ir_check.specs.Answers.{OnStop}
use Rattle.ir_kernel.specs.Answers.{IsRefusal}
use Rattle.hk_verify.specs.Whole.{IsWhole, IsUnfit, IsWholeFault, RefusesWhole, IsWholeStop}

same_fault : (a b : KernelFault) → a.line ≡ b.line → a.reason ≡ b.reason → a ≡ b
same_fault a b line reason = λ i. record { line = line i; reason = reason i }

-- Two first faults stand on one line and have one number.
first_line : (Falls : Item → Rule → Type 0) (m : ModuleView) (l k : ℕ) (r s : Rule) → IsFirst Falls m l r → IsFirst Falls m k s → (l ≡ k) × (number_of r ≡ number_of s)
first_line Falls m l k r s a b = by (a.least k s b.fails) (b.least l r a.fails)
  where
    by : (l < k) ⊎ ((l ≡ k) × (number_of r ≤ number_of s)) → (k < l) ⊎ ((k ≡ l) × (number_of s ≤ number_of r)) → (l ≡ k) × (number_of r ≡ number_of s)
    by (inl p) (inl q) = absurd (omega (arith, p, q))
    by (inl p) (inr q) = let e = q.0 in absurd (omega (arith, p, e))
    by (inr p) (inl q) = let e = p.0 in absurd (omega (arith, q, e))
    by (inr p) (inr q) = let x = p.1 in let y = q.1 in (p.0, omega (arith, x, y))

-- The rule of a number.
abbrev rule_at : ℕ → Rule
rule_at n =
    if n == 5 then K5 else if n == 6 then K6 else if n == 7 then K7 else if n == 8 then K8 else if n == 9 then K9 else if n == 10 then K10 else if n == 11 then K11
    else if n == 12 then K12 else if n == 13 then K13 else if n == 14 then K14 else K15

rule_of : (r : Rule) → rule_at (number_of r) ≡ r
rule_of K5 = refl
rule_of K6 = refl
rule_of K7 = refl
rule_of K8 = refl
rule_of K9 = refl
rule_of K10 = refl
rule_of K11 = refl
rule_of K12 = refl
rule_of K13 = refl
rule_of K14 = refl
rule_of K15 = refl

same_rule : (r s : Rule) → number_of r ≡ number_of s → r ≡ s
same_rule r s e = sym (rule_of r) ∙ ap rule_at e ∙ rule_of s

-- A module that is laid out and well formed has no fault.
fits : (m : ModuleView) (fault : KernelFault) → IsLaidOut m → IsWellFormed m → IsRefusal m fault → ⊥
fits m fault laid_out well_formed (inl (rule, reason, first)) = let f = first.fails in laid_out f.0 f.1 rule f.3
fits m fault laid_out well_formed (inr (laid, (rule, reason, first))) = let f = first.fails in well_formed f.0 f.1 rule f.3

-- A module has one fault.
one_refusal : (m : ModuleView) (a b : KernelFault) → IsRefusal m a → IsRefusal m b → a ≡ b
one_refusal m a b (inl (r, x, first)) (inl (s, y, second)) =
    let e = first_line (FallsByLayout m) m a.line b.line r s first second in
    same_fault a b e.0 (x ∙ ap layout.reason_of (same_rule r s e.1) ∙ sym y)
one_refusal m a b (inr (_, (r, x, first))) (inr (_, (s, y, second))) =
    let e = first_line (FallsByCheck m) m a.line b.line r s first second in
    same_fault a b e.0 (x ∙ ap checks.reason_of (same_rule r s e.1) ∙ sym y)
one_refusal m a b (inl (r, x, first)) (inr (laid, (s, y, second))) = let f = first.fails in absurd (laid f.0 f.1 r f.3)
one_refusal m a b (inr (laid, (r, x, first))) (inl (s, y, second)) = let f = second.fails in absurd (laid f.0 f.1 s f.3)

pub whole_of : (text : List ℕ) (m : Module) → ((w : ModuleView) → IsModuleText text w → view_module m ≡ w) → IsModuleText text (view_module m) → IsLaidOut (view_module m) → IsWellFormed (view_module m)
    → IsWhole text (view_module m)
whole_of text m only spelled laid_out well_formed = record {
  spelled = spelled;
  only = λ other h. sym (only other h);
  laid_out = laid_out;
  well_formed = well_formed;
}

-- The module that the text spells has a fault.
pub unfit : (text : List ℕ) (m : Module) (fault : KernelFault) → ((w : ModuleView) → IsModuleText text w → view_module m ≡ w) → ((line : ℕ) (reason : KernelReason) → IsFaultyText text line reason → ⊥)
    → IsModuleText text (view_module m) → IsRefusal (view_module m) fault → RefusesWhole text fault
unfit text m fault only none spelled refused = record {
  cause = inr (record { module_ = view_module m; spelled = spelled; refused = refused });
  only = λ other h. by other h;
  unspelled = λ w h. fits (view_module m) fault (subst IsLaidOut (sym (only w h.spelled)) h.laid_out) (subst IsWellFormed (sym (only w h.spelled)) h.well_formed) refused;
}
  where
    by : (other : KernelFault) → IsWholeFault text other → other ≡ fault
    by other (inl faulty) = absurd (none other.line other.reason faulty)
    by other (inr u) = one_refusal (view_module m) other fault (subst (λ w. IsRefusal w other) (sym (only u.module_ u.spelled)) u.refused) refused

-- The text itself has a fault.
pub faulty : (text : List ℕ) (fault : KernelFault) → ((w : ModuleView) → IsModuleText text w → ⊥)
    → ((line : ℕ) (reason : KernelReason) → IsFaultyText text line reason → (fault.line ≡ line) × (fault.reason ≡ reason)) → IsFaultyText text fault.line fault.reason → RefusesWhole text fault
faulty text fault none same is_faulty = record {
  cause = inl is_faulty;
  only = λ other h. by other h;
  unspelled = λ w h. none w h.spelled;
}
  where
    by : (other : KernelFault) → IsWholeFault text other → other ≡ fault
    by other (inl also) = same_fault other fault (sym (same other.line other.reason also).0) (sym (same other.line other.reason also).1)
    by other (inr u) = absurd (none u.module_ u.spelled)

pub stopped_at_kernel : (text : List ℕ) (m : Module) (stop : KernelStop) → ((w : ModuleView) → IsModuleText text w → view_module m ≡ w) → ((line : ℕ) (reason : KernelReason) → IsFaultyText text line reason → ⊥)
    → IsModuleText text (view_module m) → OnStop (IsRefusal (view_module m)) stop → IsWholeStop text stop
stopped_at_kernel text m (Refused fault) only none spelled h = unfit text m fault only none spelled h
stopped_at_kernel text m Memory only none spelled h = tt

pub stopped_at_text : (text : List ℕ) (stop : KernelStop) → ((w : ModuleView) → IsModuleText text w → IsModule (Err stop) w) → ((line : ℕ) (reason : KernelReason) → IsFaultyText text line reason → IsFault (Err stop) line reason)
    → IsStop text stop → IsWholeStop text stop
stopped_at_text text (Refused fault) none same h = faulty text fault none same h
stopped_at_text text Memory none same h = tt
