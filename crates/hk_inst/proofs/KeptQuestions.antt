-- What a question keeps is exact, as contracts see it.
use Rattle.std.proofs.Common.{◌≡◌, ℕ, ◌∙◌, ap, ◌<◌, Bool, true, false, nat_eq, List, length, sym, subst, get_or}
use Rattle.std.specs.List.{All}
use Rattle.std.proofs.lemmas.List.Elements.{Contains-get_or}
use Rattle.hk_term.specs.Meaning.{Reading, value}
use Rattle.hk_cnf.specs.Clauses.{Clauses, clauses_value}
use Rattle.hk_inst.specs.declared.state.State.{State}
use Rattle.hk_inst.specs.declared.instance.Instance.{Instance}
use Rattle.hk_inst.specs.Inputs.{number_in, completed, is_select, is_quantifier}
use Rattle.hk_inst.specs.Truths.{IsTrue, is_among}
use Rattle.hk_inst.specs.Exactness.{Exact}
use Rattle.hk_inst.specs.Questions.{Asked, IsQuestion}
use Rattle.hk_inst.specs.Growing.{IsGrowing, AreStepped}
use Rattle.hk_inst.specs.Left.{AreOnce}
use Rattle.hk_inst.specs.Adding.{Lengthened}
use Rattle.hk_inst.specs.States.{asked_of, IsKept}
use Rattle.hk_blast.specs.Blasted.{HasWord}
use Rattle.hk_copy.proofs.StepLaws.{longer-value}
use Rattle.hk_inst.proofs.Members.{numbered-are}
use Rattle.hk_inst.proofs.QuestionFacts.{known-within}
use Rattle.hk_inst.proofs.Beginning.{question-of}
use Rattle.hk_inst.proofs.ToCase.{goal-is-true}
use Rattle.hk_inst.proofs.Whole.{exact}

pub kept-question : (s : State) (q : Asked) → IsKept s → asked_of s ≡ q → IsQuestion q
kept-question s q k e = subst IsQuestion e (question-of (asked_of s) s.first s.next k.growing k.stepped)

pub kept-exact : (s : State) (q : Asked) (list : Clauses) → IsKept s → asked_of s ≡ q → list ≡ record { vars = s.gates.vars; clauses = s.gates.clauses } → Exact (λ v. nat_eq (value q.nodes q.goal v) 1) q.instances list
kept-exact s q list k e same =
    subst (λ (a : Asked). Exact (λ v. nat_eq (value a.nodes a.goal v) 1) a.instances list) e
    (subst (Exact (λ v. nat_eq (value s.terms s.goal v) 1) s.instances) (sym same) (exact (asked_of s) (question-of (asked_of s) s.first s.next k.growing k.stepped)))

-- where every other instance is true under a satisfying assignment, the goal is true in the completed case
abbrev pub Decides : Asked → List Bool → Type 0
Decides q a = clauses_value a q.circuit.clauses ≡ true → (v : Reading) → v ≡ completed q.nodes q.table (number_in q.table.words a)
    → ((i : Instance) → is_among q.instances i ≡ false → IsTrue q.nodes q.table (number_in q.table.words a) v i) → value q.nodes q.goal v ≡ 1

pub kept-decides : (s : State) (q : Asked) (a : List Bool) → IsKept s → asked_of s ≡ q → Decides q a
kept-decides s q a k e = subst (λ (x : Asked). Decides x a) e told
  where
    told : Decides (asked_of s) a
    told satisfied v is others =
        subst (λ u. value s.terms s.goal u ≡ 1) (sym is)
        (goal-is-true (asked_of s) (question-of (asked_of s) s.first s.next k.growing k.stepped) a satisfied
        (λ i out. subst (λ u. IsTrue s.terms (asked_of s).table (number_in s.bits a) u i) is (others i out)))

-- the reads of a question are terms of its list
pub reads-within : (s : State) → IsKept s → All (λ t. t < length s.terms) s.reads.items
reads-within s k n d l =
    known-within s.terms s.gates s.bits k.growing.base.blasted (get_or s.reads.items n d)
    (subst (λ ws. HasWord ws (get_or s.reads.items n d)) (sym k.stepped.steps_are) (numbered-are s.terms is_select k.stepped.reads (get_or s.reads.items n d) (Contains-get_or s.reads.items n d l)))

-- so are its quantifiers
pub quantifiers-within : (s : State) → IsKept s → All (λ t. t < length s.terms) s.quantifiers.items
quantifiers-within s k n d l =
    known-within s.terms s.gates s.bits k.growing.base.blasted (get_or s.quantifiers.items n d)
    (subst (λ ws. HasWord ws (get_or s.quantifiers.items n d)) (sym k.stepped.steps_are) (numbered-are s.terms is_quantifier k.stepped.quantifiers (get_or s.quantifiers.items n d) (Contains-get_or s.quantifiers.items n d l)))

abbrev KeptAs : Asked → ℕ → ℕ → Type 0
KeptAs q first next = (IsGrowing q first next (length q.table.words)) × (AreStepped q)

-- what is cut back is kept as before
pub kept-back : (s t : State) → asked_of t ≡ asked_of s → t.first ≡ s.first → t.next ≡ s.next → IsKept s → IsKept t
kept-back s t e f g k =
    let r : KeptAs (asked_of t) t.first t.next = subst (λ (z : Asked × ℕ × ℕ). KeptAs z.0 z.1 z.2) (λ n. (sym e n, sym f n, sym g n)) (k.growing, k.stepped) in
    record { growing = r.0; stepped = r.1; once = subst (λ (q : Asked). AreOnce q.instances) (sym e) k.once }

-- a longer question asks the same
pub same-goal : (p q : Asked) → Lengthened p q → p.goal < length p.nodes → (v : Reading) → value q.nodes q.goal v ≡ value p.nodes p.goal v
same-goal p q l h v = ap (λ g. value q.nodes g v) l.goal ∙ longer-value p.nodes q.nodes l.nodes p.goal h v

pub goal-within : (s : State) → IsKept s → s.goal < length s.terms
goal-within s k = known-within s.terms s.gates s.bits k.growing.base.blasted s.goal k.growing.base.of_goal

-- and its clauses are exact for what was asked before
pub longer-exact : (p : Asked) (t : State) → Lengthened p (asked_of t) → p.goal < length p.nodes → IsKept t → Exact (λ v. nat_eq (value p.nodes p.goal v) 1) t.instances (record { vars = t.gates.vars; clauses = t.gates.clauses })
longer-exact p t l h k =
    subst (λ (f : Reading → Bool). Exact f t.instances (record { vars = t.gates.vars; clauses = t.gates.clauses })) (λ n. λ v. nat_eq (same-goal p (asked_of t) l h v n) 1)
    (exact (asked_of t) (question-of (asked_of t) t.first t.next k.growing k.stepped))
