-- A checker between two rows, with the room that is left in it.
use Rattle.std.specs.Prelude.{ℕ, ◌-◌, ◌≤◌, List, [], ◌∷◌, ◌++◌, length, ℤ}
use Rattle.hk_lrat.specs.declared.log.LratRow.{LratRow}
use Rattle.hk_lrat.specs.declared.log.LratRow.TheVariants.{Add, Delete}
use Rattle.hk_lrat.specs.Log.{State, without}

pub record Checked : Type 0 where
  pub state : State
  pub clauses_left : ℕ
  pub literals_left : ℕ

-- the row fits: an addition needs a place for its clause and one for each of its literals
abbrev pub Fits : Checked → LratRow → Type 0
Fits s (Add id c hints) = (1 ≤ s.clauses_left) × (length c ≤ s.literals_left)
Fits s (Delete ids) = Unit {0}

-- with a clause more
abbrev pub with_clause : Checked → ℕ → List ℤ → Checked
with_clause s id c =
    record {
      state = record s.state { last = id; live = s.state.live ++ (id, c) ∷ [] };
      clauses_left = s.clauses_left - 1;
      literals_left = s.literals_left - length c;
    }

-- without the clauses of these ids
abbrev pub without_clauses : Checked → List ℕ → Checked
without_clauses s ids = record s { state = record s.state { live = without ids s.state.live } }

-- after an accepted row
abbrev pub after_accepted : Checked → LratRow → Checked
after_accepted s (Add id c hints) = with_clause s id c
after_accepted s (Delete ids) = without_clauses s ids
