-- What a log over the clauses of a question says of its obligation.
use Rattle.std.proofs.Common.{◌≡◌, ℕ, Bool, List, Result, Ok, Err, Option, Some, None, sym, ◌∙◌, subst}
use Rattle.std.specs.Prelude.{nat_eq, IfOk, IfNone}
use Rattle.hk_term.specs.Meaning.{Reading, value}
use Rattle.hk_cnf.specs.Clauses.{Clauses, IsUnsatisfiable}
use Rattle.hk_inst.specs.declared.instance.Instance.{Instance}
use Rattle.hk_inst.specs.Exactness.{Exact}
use Rattle.hk_inst.specs.Questions.{Asked}
use Rattle.hk_lrat.specs.declared.log.LratRow.{LratRow}
use Rattle.hk_lrat.specs.Log.{log_fault}
use Rattle.hk_proof.specs.declared.Proof.{Proof}
use Rattle.hk_proof.specs.declared.Proof.TheVariants.{Refuted}
use Rattle.ir_ast.specs.Program.{ModuleView}
use Rattle.ir_layout.specs.declared.object.Object.{Object}
use Rattle.hk_symmem.specs.Origins.{Origin, AreOriginsOf}
use Rattle.spec_tree.specs.Plain.{Transition, Spec}
use Rattle.hk_case.specs.declared.Obligation.{Obligation}
use Rattle.hk_case.specs.declared.Case.{Case}
use Rattle.hk_case.specs.Obligations.{IsCase}
use Rattle.hk_case.specs.Violation.{Violates, IsNeverViolated}
use Rattle.hk_oblig.specs.Cases.{case_at}
use Rattle.hk_oblig.specs.Asking.{Asks}
use Rattle.hk_exhaust.specs.Answers.{Finds}
use Rattle.hk_decide.specs.Right.{IsExactFor}
use Rattle.hk_check.specs.Once.{once}
use Rattle.hk_check.specs.Told.{IsViolating}
use Rattle.hk_check.specs.Trials.{IsJudged, IsTriedOver, IsTried}
use Rattle.hk_check.specs.declared.answers.Trial.{Trial}
use Rattle.hk_check.specs.declared.answers.Trial.TheVariants.{Shown, Refused, Violated, NoSuch}
use Rattle.hk_check.proofs.Once.{exact_repeated}

-- ---- over all cases

pub violated_by : (m : ModuleView) (objects : List Object) (s : Spec) (t : Transition) (o : Obligation) (answer : Option Case) (case : Case) → answer ≡ Some case → Finds m objects s t o answer → IsViolating m objects s t o case
violated_by m objects s t o answer case is found =
    let there : IsCase objects s t o case × Violates m s t o case = subst (Finds m objects s t o) is found in
    record { shape = there.0; violates = there.1 }

-- ---- over a question

-- the clauses of a question are exact for what was added to it, and for the goal of the question that it grew from
exact_of : (q now : Asked) (instances kept : List Instance) (list : Clauses) → ((v : Reading) → value now.nodes now.goal v ≡ value q.nodes q.goal v) → now.instances ≡ once instances → kept ≡ now.instances
    → Exact (λ v. nat_eq (value now.nodes now.goal v) 1) kept list → Exact (λ v. nat_eq (value q.nodes q.goal v) 1) instances list
exact_of q now instances kept list goal added kept_is e =
    exact_repeated (λ v. nat_eq (value q.nodes q.goal v) 1) instances list
    (subst (λ (is : List Instance). Exact (λ v. nat_eq (value q.nodes q.goal v) 1) is list) (kept_is ∙ added)
    (subst (λ (test : Reading → Bool). Exact test kept list) (λ n. λ v. nat_eq (goal v n) 1) e))

pub judged_over : (q now : Asked) (instances kept : List Instance) (list : Clauses) (log : List LratRow) (trial : Trial) → ((v : Reading) → value now.nodes now.goal v ≡ value q.nodes q.goal v)
    → now.instances ≡ once instances → kept ≡ now.instances → Exact (λ v. nat_eq (value now.nodes now.goal v) 1) kept list → IsJudged list log trial → IsTriedOver q instances log trial
judged_over q now instances kept list log Shown goal added kept_is e j = record { list = list; exact = exact_of q now instances kept list goal added kept_is e; judged = j }
judged_over q now instances kept list log (Refused clauses row reason) goal added kept_is e j = record { list = list; exact = exact_of q now instances kept list goal added kept_is e; judged = j }
judged_over q now instances kept list log (Violated case) goal added kept_is e j = absurd j
judged_over q now instances kept list log (NoSuch place) goal added kept_is e j = absurd j

pub judged : {E : Type 0} (q now : Asked) (instances kept : List Instance) (list : Clauses) (log : List LratRow) (stop : Option ℕ) (r : Result Trial E) → ((v : Reading) → value now.nodes now.goal v ≡ value q.nodes q.goal v)
    → stop ≡ None → IfNone stop (now.instances ≡ once instances) → kept ≡ now.instances → Exact (λ v. nat_eq (value now.nodes now.goal v) 1) kept list
    → IfOk r (IsJudged list log) → IfOk r (IsTriedOver q instances log)
judged q now instances kept list log stop (Ok trial) goal none added kept_is e j = judged_over q now instances kept list log trial goal (subst (λ o. IfNone o (now.instances ≡ once instances)) none added) kept_is e j
judged q now instances kept list log stop (Err why) goal none added kept_is e j = tt

-- ---- over an obligation

module _ (m : ModuleView) (objects : List Object) (origins : List Origin) (s : Spec) (t : Transition) (o : Obligation) (q : Asked)
    (stand : AreOriginsOf objects origins) (asks : Asks m origins s t o (λ v. nat_eq (value q.nodes q.goal v) 1)) where
  exact_for : (instances : List Instance) (list : Clauses) → Exact (λ v. nat_eq (value q.nodes q.goal v) 1) instances list → IsExactFor m objects s t o instances list
  exact_for instances list e = record { origins = origins; stand = stand; test = λ v. nat_eq (value q.nodes q.goal v) 1; asks = asks; exact = e }

  -- each case is that of a reading, and no reading passes the test where the clauses are exact for it and unsatisfiable
  none_violates : (instances : List Instance) (list : Clauses) → ((c : Case) → IsCase objects s t o c → (u : Reading) × (case_at origins s t o u ≡ c)) → Exact (λ v. nat_eq (value q.nodes q.goal v) 1) instances list → IsUnsatisfiable list
      → IsNeverViolated m objects s t o
  none_violates instances list given e never = λ c shape violates.
      let u = given c shape in
      let passes = (asks u.0).1 (subst (Violates m s t o) (sym u.1) violates) in
      let a = e.from_case u.0 passes in
      cc (sym a.2 ∙ never a.0 a.1)

  asks_now : (now : Asked) → ((v : Reading) → value now.nodes now.goal v ≡ value q.nodes q.goal v) → Asks m origins s t o (λ v. nat_eq (value now.nodes now.goal v) 1)
  asks_now now goal = subst (λ (test : Reading → Bool). Asks m origins s t o test) (λ n. λ v. nat_eq (sym (goal v) n) 1) asks

  tried_by_log : (instances : List Instance) (log : List LratRow) (trial : Trial) → ((c : Case) → IsCase objects s t o c → (u : Reading) × (case_at origins s t o u ≡ c)) → IsTriedOver q instances log trial → IsTried m objects s t o (Refuted instances log) trial
  tried_by_log instances log Shown given h = (
    none_violates instances h.list given h.exact h.judged.unsatisfiable,
    record { list = h.list; exact = exact_for instances h.list h.exact; refutes = h.judged.refutes; accepted = h.judged.accepted },
  )
  tried_by_log instances log (Refused clauses row reason) given h = record {
    exact = subst (λ l. IsExactFor m objects s t o instances l) (sym h.judged.0) (exact_for instances h.list h.exact);
    fault = subst (λ l. log_fault l log ≡ Some (row, reason)) (sym h.judged.0) h.judged.1;
  }
  tried_by_log instances log (Violated case) given h = absurd h.judged
  tried_by_log instances log (NoSuch place) given h = record {
    instance = h.stops.instance;
    there = h.stops.there;
    question = h.now;
    is_question = h.stops.nothing.question;
    origins = origins;
    stand = stand;
    asks = asks_now h.now h.goal;
    added = h.stops.added;
    nothing = h.stops.nothing.nothing;
  }

  pub tried_at : (p : Proof) (instances : List Instance) (log : List LratRow) (trial : Trial) → p ≡ Refuted instances log → ((c : Case) → IsCase objects s t o c → (u : Reading) × (case_at origins s t o u ≡ c))
      → IsTriedOver q instances log trial → IsTried m objects s t o p trial
  tried_at p instances log trial is given h = subst (λ (x : Proof). IsTried m objects s t o x trial) (sym is) (tried_by_log instances log trial given h)
