-- What a settled question says of its obligation.
use Rattle.std.proofs.Common.{◌≡◌, ℕ, Bool, true, List, ap, sym, subst}
use Rattle.std.specs.Prelude.{nat_eq}
use Rattle.std.proofs.lemmas.Bool.{eqb-true}
use Rattle.hk_term.specs.Meaning.{Reading, reading_of, value}
use Rattle.hk_term.specs.declared.valuation.Valuation.{Valuation}
use Rattle.hk_cnf.specs.Clauses.{Clauses}
use Rattle.hk_inst.specs.declared.instance.Instance.{Instance}
use Rattle.hk_inst.specs.Exactness.{Exact}
use Rattle.hk_inst.specs.Questions.{Asked}
use Rattle.hk_lrat.specs.declared.log.LratRow.{LratRow}
use Rattle.hk_cdcl.specs.Fresh.{IsSpent}
use Rattle.hk_settle.specs.Answers.{goal_test, IsRefuted, IfRefuted, IfTrue, IfSpent}
use Rattle.hk_settle.specs.declared.answers.Settled.{Settled}
use Rattle.hk_settle.specs.declared.answers.Settled.TheVariants.{Refuted, True, Spent}
use Rattle.hk_proof.specs.declared.Proof.TheVariants.{Refuted as RefutedProof}
use Rattle.ir_ast.specs.Program.{ModuleView}
use Rattle.ir_layout.specs.declared.object.Object.{Object}
use Rattle.hk_symmem.specs.Origins.{Origin, AreOriginsOf}
use Rattle.spec_tree.specs.Plain.{Transition, Spec}
use Rattle.hk_case.specs.declared.Obligation.{Obligation}
use Rattle.hk_case.specs.declared.Case.{Case}
use Rattle.hk_case.specs.Obligations.{IsCase}
use Rattle.hk_case.specs.Violation.{Violates, IsNeverViolated}
use Rattle.hk_oblig.specs.Cases.{case_at}
use Rattle.hk_oblig.specs.Asking.{Asks}
use Rattle.hk_decide.specs.Right.{IsExactFor, IsProof}

-- every case is that of a reading, so that none violates the obligation where its test accepts no reading
none_violates : (m : ModuleView) (objects : List Object) (origins : List Origin) (s : Spec) (t : Transition) (o : Obligation) (test : Reading → Bool)
    → ((c : Case) → IsCase objects s t o c → (u : Reading) × (case_at origins s t o u ≡ c))
    → Asks m origins s t o test → ((v : Reading) → test v ≡ true → ⊥) → IsNeverViolated m objects s t o
none_violates m objects origins s t o test given asks none = λ c shape violates.
    let u = given c shape in
    none u.0 ((asks u.0).1 (subst (Violates m s t o) (sym u.1) violates))

module _ (m : ModuleView) (objects : List Object) (origins : List Origin) (s : Spec) (t : Transition) (o : Obligation) (q : Asked) (settled : Settled) (stand : AreOriginsOf objects origins) (asks : Asks m origins s t o (goal_test q)) where
  -- it is refuted
  pub refuted : (instances : List Instance) (log : List LratRow) → ((c : Case) → IsCase objects s t o c → (u : Reading) × (case_at origins s t o u ≡ c)) → settled ≡ Refuted instances log
      → IfRefuted (IsRefuted q) settled → IfRefuted (λ _ _. (v : Reading) → value q.nodes q.goal v ≡ 1 → ⊥) settled → IsNeverViolated m objects s t o × IsProof m objects s t o (RefutedProof instances log)
  refuted instances log given is refutes none =
      let r : IsRefuted q instances log = subst (IfRefuted (IsRefuted q)) is refutes in
      let n : (v : Reading) → value q.nodes q.goal v ≡ 1 → ⊥ = subst (IfRefuted (λ _ _. (v : Reading) → value q.nodes q.goal v ≡ 1 → ⊥)) is none in (
        none_violates m objects origins s t o (goal_test q) given asks (λ v accepted. n v (eqb-true (value q.nodes q.goal v) 1 accepted)),
        record {
          list = r.list;
          exact = record { origins = origins; stand = stand; test = goal_test q; asks = asks; exact = r.exact };
          refutes = r.refutes;
          accepted = r.accepted;
        },
      )

  -- its goal is true
  pub violated : (v : Valuation) (c : Case) → settled ≡ True v → IfTrue (λ v. value q.nodes q.goal (reading_of v) ≡ 1) settled → c ≡ case_at origins s t o (reading_of v) → Violates m s t o c
  violated v c is holds case_is =
      let h : value q.nodes q.goal (reading_of v) ≡ 1 = subst (IfTrue (λ v. value q.nodes q.goal (reading_of v) ≡ 1)) is holds in
      subst (Violates m s t o) (sym case_is) ((asks (reading_of v)).0 (ap (λ n. nat_eq n 1) h))

  -- its budget is spent
  pub exact_for : (instances : List Instance) (clauses : Clauses) (log : List LratRow) → settled ≡ Spent instances clauses log
      → IfSpent (λ instances clauses _. Exact (goal_test q) instances clauses) settled → IsExactFor m objects s t o instances clauses
  exact_for instances clauses log is exact = record {
    origins = origins;
    stand = stand;
    test = goal_test q;
    asks = asks;
    exact = subst (IfSpent (λ instances clauses _. Exact (goal_test q) instances clauses)) is exact;
  }

pub spent_is : (budget : ℕ) (settled : Settled) (instances : List Instance) (clauses : Clauses) (log : List LratRow) → settled ≡ Spent instances clauses log
    → IfSpent (λ _ clauses log. IsSpent clauses log budget) settled → IsSpent clauses log budget
spent_is budget settled instances clauses log is spent = subst (IfSpent (λ _ clauses log. IsSpent clauses log budget)) is spent
