-- The accepted log: LRAT (Cruz-Filipe et al. 2017) without its RAT steps, and with ids that rise.
use Rattle.std.specs.Prelude.{ℕ, zero, suc, ◌+◌, Bool, true, false, not, ◌&&◌, ◌||◌, ◌==◌, nat_lt, if◌then◌else◌, List, [], ◌∷◌, ◌++◌, length, ℤ, pos, negsuc, neg_ℤ, Option, Some, None}
use Rattle.std.specs.List.{filter, list_any, list_all}
use Rattle.hk_cnf.specs.declared.hint.Hint.{Hint}
use Rattle.hk_cnf.specs.declared.hint.Hint.TheVariants.{False, Unit as OneLeft, Other}
use Rattle.hk_cnf.specs.Literal.{has, denied}
use Rattle.hk_cnf.specs.Hint.{hint_of, with_true}
use Rattle.hk_cnf.specs.Clauses.{Clauses}
use Rattle.hk_lrat.specs.declared.log.LratRow.{LratRow}
use Rattle.hk_lrat.specs.declared.log.LratRow.TheVariants.{Add, Delete}
use Rattle.hk_lrat.specs.declared.log.RowReason.{RowReason}
use Rattle.hk_lrat.specs.declared.log.RowReason.TheVariants.{L1, L2, L3, L4, L5, L7}

-- clauses with their ids
abbrev pub Live : Type 0
Live = List (ℕ × List ℤ)

-- between two rows: the number of variables, the greatest id so far, and the live clauses
pub record State : Type 0 where
  pub vars : ℕ
  pub last : ℕ
  pub live : Live

-- clauses with ids from this number on
abbrev pub numbered : ℕ → List (List ℤ) → Live
numbered n [] = []
numbered n (c ∷ cs) = (n, c) ∷ numbered (n + 1) cs

-- before the first row: the given clauses have the ids from 1 on
abbrev pub start : Clauses → State
start list = record { vars = list.vars; last = length list.clauses; live = numbered 1 list.clauses }

-- the live clause of an id
abbrev pub clause_of : Live → ℕ → Option (List ℤ)
clause_of [] id = None
clause_of (e ∷ live) id = if e.0 == id then Some e.1 else clause_of live id

-- a literal of one of the variables
abbrev pub is_within : ℕ → ℤ → Bool
is_within vars (pos zero) = false
is_within vars (pos (suc n)) = nat_lt n vars
is_within vars (negsuc n) = nat_lt n vars

-- the clause has a literal together with its negation
abbrev pub has_both : List ℤ → Bool
has_both [] = false
has_both (l ∷ c) = has c (neg_ℤ l) || has_both c

-- what follows where an id is looked up: no live clause is L3
abbrev pub at_clause : Option (List ℤ) → (List ℤ → Option RowReason) → Option RowReason
at_clause None next = Some L3
at_clause (Some c) next = next c

-- what follows a hint clause: a false one ends the row, a unit one sets its literal, any other is L4
abbrev pub at_hint : Hint → (ℤ → Option RowReason) → Option RowReason
at_hint False next = None
at_hint (OneLeft l) next = next l
at_hint Other next = Some L4

-- the hints in their order, while these literals are true: None where a clause is found false
abbrev pub follow : Live → (ℤ → Bool) → List ℕ → Option RowReason
follow live truth [] = Some L5
follow live truth (h ∷ hs) =
    at_clause (clause_of live h) (λ c. at_hint (hint_of truth c) (λ l. follow live (with_true l truth) hs))

-- the first reason against an addition
abbrev pub add_fault : State → ℕ → List ℤ → List ℕ → Option RowReason
add_fault s id c hints =
    if list_all (is_within s.vars) c && not (has_both c)
    then (if nat_lt s.last id then follow s.live (denied c) hints else Some L2)
    else Some L1

-- the id names a live clause
abbrev pub is_live : Live → ℕ → Bool
is_live live id = list_any (λ e. e.0 == id) live

-- the first reason against a deletion, which is refused whole
abbrev pub delete_fault : State → List ℕ → Option RowReason
delete_fault s ids = if list_all (is_live s.live) ids then None else Some L3

-- the first reason against a row: None where it is accepted
abbrev pub row_fault : State → LratRow → Option RowReason
row_fault s (Add id c hints) = add_fault s id c hints
row_fault s (Delete ids) = delete_fault s ids

-- without the clauses of these ids
abbrev pub without : List ℕ → Live → Live
without ids live = filter (λ e. not (list_any (λ id. e.0 == id) ids)) live

-- after an accepted row
abbrev pub after_row : State → LratRow → State
after_row s (Add id c hints) = record s { last = id; live = s.live ++ (id, c) ∷ [] }
after_row s (Delete ids) = record s { live = without ids s.live }

abbrev pub is_nil : List ℤ → Bool
is_nil [] = true
is_nil (l ∷ c) = false

-- an addition of the empty clause
abbrev pub is_empty_addition : LratRow → Bool
is_empty_addition (Add id c hints) = is_nil c
is_empty_addition (Delete ids) = false

-- a row and the first reason against the log at it
abbrev pub Fault : Type 0
Fault = ℕ × RowReason

-- what follows a row that has this number and this reason against it
abbrev pub after_fault : Option RowReason → ℕ → Bool → Option Fault → Option Fault
after_fault (Some reason) n refuting rest = Some (n, reason)
after_fault None n true rest = None
after_fault None n false rest = rest

-- the rows in their order, after n accepted ones: None where an empty clause is accepted before any row is refused
abbrev pub fault_from : State → ℕ → List LratRow → Option Fault
fault_from s n [] = Some (n, L7)
fault_from s n (row ∷ rows) = after_fault (row_fault s row) (n + 1) (is_empty_addition row) (fault_from (after_row s row) (n + 1) rows)

-- where the log first fails to refute the list: None where it refutes it
abbrev pub log_fault : Clauses → List LratRow → Option Fault
log_fault list rows = fault_from (start list) 0 rows
