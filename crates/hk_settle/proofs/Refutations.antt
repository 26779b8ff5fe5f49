-- What a refuted list that is exact says of a goal.
use Rattle.std.proofs.Common.{◌≡◌, Bool, true, List, sym, ◌∙◌, ap, subst}
use Rattle.std.specs.Prelude.{nat_eq}
use Rattle.hk_term.specs.Meaning.{Reading, value}
use Rattle.hk_cnf.specs.Clauses.{Clauses, IsUnsatisfiable}
use Rattle.hk_lrat.specs.declared.log.LratRow.{LratRow}
use Rattle.hk_inst.specs.declared.instance.Instance.{Instance}
use Rattle.hk_inst.specs.Questions.{Asked}
use Rattle.hk_inst.specs.Exactness.{Exact}
use Rattle.hk_settle.specs.Answers.{goal_test, clauses_of, IsRefuted, Refuting, OnRefuted}
use Rattle.hk_settle.specs.declared.answers.End.{End}
use Rattle.hk_settle.specs.declared.answers.End.TheVariants.{Refuted}

-- another list with a goal of the same values
pub exact-at : (q p : Asked) → ((v : Reading) → value p.nodes p.goal v ≡ value q.nodes q.goal v) → (instances : List Instance) (list : Clauses) → Exact (goal_test p) instances list → Exact (goal_test q) instances list
exact-at q p same instances list e = subst (λ (test : Reading → Bool). Exact test instances list) (λ n. λ v. nat_eq (same v n) 1) e

-- the test accepts no reading, where the list is exact for it and unsatisfiable
pub none-accepted : (test : Reading → Bool) (instances : List Instance) (list : Clauses) → Exact test instances list → IsUnsatisfiable list → (v : Reading) → test v ≡ true → ⊥
none-accepted test instances list e never v h = let s = e.from_case v h in cc (sym s.2 ∙ never s.0 s.1)

-- what the parts of a refuted question are to the question that it grew from
pub record Parted (q : Asked) (instances : List Instance) (log : List LratRow) : Type 0 where
  pub list : Clauses
  pub exact : Exact (goal_test q) instances list
  pub refuting : Refuting list log

pub parted : (q p : Asked) → ((v : Reading) → value p.nodes p.goal v ≡ value q.nodes q.goal v) → (instances : List Instance) (list : Clauses) → Exact (goal_test p) instances list → list ≡ clauses_of p
    → (end : End) (log : List LratRow) → end ≡ Refuted log → OnRefuted (Refuting (clauses_of p)) end → Parted q instances log
parted q p same instances list e l end log is h = record {
  list = list;
  exact = exact-at q p same instances list e;
  refuting = subst (λ (c : Clauses). Refuting c log) (sym l) (subst (OnRefuted (Refuting (clauses_of p))) is h);
}

pub refuted-at : (q : Asked) (instances : List Instance) (log : List LratRow) → Parted q instances log → IsRefuted q instances log
refuted-at q instances log p = record { list = p.list; exact = p.exact; refutes = p.refuting.refutes; accepted = p.refuting.accepted }

-- no reading makes the goal true
pub none-at : (q : Asked) (instances : List Instance) (log : List LratRow) → Parted q instances log → (v : Reading) → value q.nodes q.goal v ≡ 1 → ⊥
none-at q instances log p v h = none-accepted (goal_test q) instances p.list p.exact p.refuting.unsatisfiable v (ap (λ n. nat_eq n 1) h)
