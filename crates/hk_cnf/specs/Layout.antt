-- How a clause list is kept: all literals in one row, clause after clause, and for each clause the place where it ends.
use Rattle.std.specs.Prelude.{◌≡◌, ℕ, ◌<◌, ◌≤◌, ◌^◌, List, [], ◌∷◌, ℤ, map, length, slice_range, slice_index_or}
use Rattle.std.specs.List.{All}
use Rattle.hk_cnf.specs.declared.clauses.ClauseList.TheInside.{Inside}
use Rattle.hk_cnf.specs.Clauses.{Clauses, AreWithin}

-- a part of the row, from its start up to its end
pub record Span : Type 0 where
  pub start : ℕ
  pub end : ℕ

-- each part starts where the one before it ends
abbrev pub spans_from : ℕ → List ℕ → List Span
spans_from start [] = []
spans_from start (end ∷ ends) = record { start = start; end = end } ∷ spans_from end ends

-- the literals of one part
abbrev pub part_of : List ℤ → Span → List ℤ
part_of lits s = slice_range lits s.start s.end

-- the clauses
abbrev pub clauses_of : List ℤ → List Span → List (List ℤ)
clauses_of lits spans = map (part_of lits) spans

abbrev pub view_of : Inside → Clauses
view_of c = record { vars = c.vars; clauses = clauses_of c.lits.items (spans_from 0 c.ends.items) }

-- a part lies within a row of this length
pub record IsSpan (n : ℕ) (s : Span) : Type 0 where
  pub rising : s.start ≤ s.end
  pub inside : s.end ≤ n

-- the place where the last part ends
abbrev pub last_end : List ℕ → ℕ
last_end ends = slice_index_or (0 ∷ ends) (length ends) 0

-- the parts are the whole row, and the literals are within the variables
pub record IsLaidOut (c : Inside) : Type 0 where
  pub spans : All (IsSpan (length c.lits.items)) (spans_from 0 c.ends.items)
  pub whole : last_end c.ends.items ≡ length c.lits.items
  pub within : AreWithin c.vars (clauses_of c.lits.items (spans_from 0 c.ends.items))
  pub few : c.vars < 2 ^ 63
