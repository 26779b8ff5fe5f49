-- Fresh additions, and when a log spent a budget.
use Rattle.std.specs.Prelude.{◌≡◌, ℕ, ◌-◌, ◌≤◌, Bool, true, false, List, [], ◌∷◌, ◌++◌, length, take, drop, ℤ, neg_ℤ}
use Rattle.std.specs.List.{All}
use Rattle.hk_cnf.specs.declared.hint.Hint.TheVariants.{Unit as OneLeft, Other}
use Rattle.hk_cnf.specs.Literal.{has}
use Rattle.hk_cnf.specs.Hint.{hint_of}
use Rattle.hk_cnf.specs.Clauses.{Clauses}
use Rattle.hk_lrat.specs.declared.log.LratRow.{LratRow}
use Rattle.hk_lrat.specs.declared.log.LratRow.TheVariants.{Add, Delete}
use Rattle.hk_lrat.specs.Log.{start, is_empty_addition}
use Rattle.hk_lrat.specs.Refutes.{AreAccepted}

-- no literal of the set stands in it together with its negation
abbrev pub IsConsistent : List ℤ → Type 0
IsConsistent set = (l : ℤ) → has set l ≡ true → has set (neg_ℤ l) ≡ false

-- each clause has a true literal, or two that are not false: unit propagation has nothing to do
abbrev pub AreQuiet : (ℤ → Bool) → List (List ℤ) → Type 0
AreQuiet truth clauses = All (λ c. hint_of truth c ≡ Other) clauses

-- unit propagation did not yet give the clause: under a set of literals it leaves one literal unset and all others
-- false, while each clause before it has a true literal or two that are not false
pub record IsFresh (before : List (List ℤ)) (c : List ℤ) : Type 0 where
  pub truths : List ℤ
  pub literal : ℤ
  pub consistent : IsConsistent truths
  pub unit : hint_of (has truths) c ≡ OneLeft literal
  pub quiet : AreQuiet (has truths) before

-- each of these clauses is fresh over those before it
abbrev pub AreFresh : List (List ℤ) → List (List ℤ) → Type 0
AreFresh before [] = Unit {0}
AreFresh before (c ∷ cs) = IsFresh before c × AreFresh (before ++ c ∷ []) cs

-- the clauses that the rows of a log add
abbrev pub additions : List LratRow → List (List ℤ)
additions [] = []
additions (Add id c hints ∷ rows) = c ∷ additions rows
additions (Delete ids ∷ rows) = additions rows

-- the first of the last `budget` additions
abbrev pub before_last : ℕ → List LratRow → ℕ
before_last budget log = length (additions log) - budget

-- the rows are accepted, none adds the empty clause, and the last `budget` additions, of which there are so many, are fresh
pub record IsSpent (list : Clauses) (log : List LratRow) (budget : ℕ) : Type 0 where
  pub accepted : AreAccepted (start list) log
  pub not_empty : All (λ row. is_empty_addition row ≡ false) log
  pub enough : budget ≤ length (additions log)
  pub fresh : AreFresh (list.clauses ++ take (before_last budget log) (additions log)) (drop (before_last budget log) (additions log))
