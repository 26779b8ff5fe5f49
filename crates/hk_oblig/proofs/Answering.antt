-- What a question over the parts of a handler asks.
use Rattle.std.proofs.Common.{◌≡◌, ◌↔◌, ℕ, true, false, nat_eq, List, subst}
use Rattle.std.proofs.lemmas.Bool.{eq-eqb, eqb-true}
use Rattle.hk_term.specs.Meaning.{Reading, value}
use Rattle.hk_term.specs.declared.node.Node.{Node}
use Rattle.ir_ast.specs.Program.{ModuleView}
use Rattle.hk_symmem.specs.Origins.{Origin}
use Rattle.spec_tree.specs.Plain.{Transition, Spec}
use Rattle.hk_case.specs.declared.Obligation.{Obligation}
use Rattle.hk_case.specs.declared.Case.{Case}
use Rattle.hk_case.specs.Violation.{Violates}
use Rattle.hk_case.specs.Obligations.{IsObligation}
use Rattle.hk_oblig.specs.declared.listed.Listed.{Listed}
use Rattle.hk_oblig.specs.Cases.{case_at}
use Rattle.hk_oblig.specs.GoalTruths.{HasGoal}
use Rattle.hk_oblig.specs.Telling.{Tells}
use Rattle.hk_oblig.specs.Asking.{Asks, IsPrepared, IsReady, PreparedView, is_property}
use Rattle.hk_oblig.proofs.Readiness.{step_for, run_for}

pub asks_so : (m : ModuleView) (origins : List Origin) (s : Spec) (t : Transition) (l : Listed) (o : Obligation) (nodes : List Node) (goal : ℕ) → IsReady m origins s t l o
    → ((n : ModuleView) (r : Spec) (u : Transition) (c : Case) (v : Reading) → Tells n l.terms v l.parts r u c → (value nodes goal v ≡ 1) ↔ Violates n r u o c)
    → Asks m origins s t o (λ v. nat_eq (value nodes goal v) 1)
asks_so m origins s t l o nodes goal ready h = λ v.
    let k = h m s t (case_at origins s t o v) v (ready.told v) in
    ((λ e. k.0 (eqb-true (value nodes goal v) 1 e)), (λ d. eq-eqb (value nodes goal v) 1 (k.1 d)))

-- ---- the parts that answer for an obligation

module _ (m : ModuleView) (s : Spec) (t : Transition) (p : PreparedView) (o : Obligation) (ready : IsPrepared m s t p) where
  step_ready : is_property o ≡ true → IsReady m p.origins s t p.step o
  step_ready e = subst (λ l. IsReady m p.origins s t l o) (step_for p o e) (ready.ready o)

  run_ready : is_property o ≡ false → IsReady m p.origins s t p.run o
  run_ready e = subst (λ l. IsReady m p.origins s t l o) (run_for p o e) (ready.ready o)

  pub step_goal : is_property o ≡ true → IsObligation s t o → HasGoal p.step.terms p.step.parts o
  step_goal e h = (step_ready e).goal h

  pub run_goal : is_property o ≡ false → IsObligation s t o → HasGoal p.run.terms p.run.parts o
  run_goal e h = (run_ready e).goal h

  pub step_asks : (nodes : List Node) (goal : ℕ) → is_property o ≡ true
      → ((n : ModuleView) (r : Spec) (u : Transition) (c : Case) (v : Reading) → Tells n p.step.terms v p.step.parts r u c → (value nodes goal v ≡ 1) ↔ Violates n r u o c)
      → Asks m p.origins s t o (λ v. nat_eq (value nodes goal v) 1)
  step_asks nodes goal e h = asks_so m p.origins s t p.step o nodes goal (step_ready e) h

  pub run_asks : (nodes : List Node) (goal : ℕ) → is_property o ≡ false
      → ((n : ModuleView) (r : Spec) (u : Transition) (c : Case) (v : Reading) → Tells n p.run.terms v p.run.parts r u c → (value nodes goal v ≡ 1) ↔ Violates n r u o c)
      → Asks m p.origins s t o (λ v. nat_eq (value nodes goal v) 1)
  run_asks nodes goal e h = asks_so m p.origins s t p.run o nodes goal (run_ready e) h
