-- What contracts see of a checker.
use Rattle.std.specs.Prelude.{◌≡◌, ◌+◌, ◌*◌, ◌^◌, ◌<◌, ◌≤◌, length, vec_len, vec_capacity}
use Rattle.std.specs.List.{All}
use Rattle.hk_cnf.specs.Literal.{IsWithin}
use Rattle.hk_lrat.specs.declared.checker.Checker.TheInside.{Inside}
use Rattle.hk_lrat.specs.Room.{Checked}
use Rattle.hk_lrat.specs.Entries.{live_of, IsRising, IsEntry}

abbrev pub view_of : Inside → Checked
view_of c =
    record {
      state = record { vars = c.vars; last = c.last; live = live_of c.lits.items c.table.items };
      clauses_left = c.clauses_left;
      literals_left = c.literals_left;
    }

pub record IsChecker (c : Inside) : Type 0 where
  pub few : c.vars < 2 ^ 63
  pub rising : IsRising c.table.items
  pub last : All (λ e. e.id ≤ c.last) c.table.items
  pub entries : All (IsEntry (length c.lits.items)) c.table.items
  pub lits : All (IsWithin c.vars) c.lits.items
  pub two_each : length c.marks.items ≡ 2 * c.vars
  pub none_later : All (λ m. m ≤ c.row) c.marks.items
  pub clause_room : vec_len c.table + c.clauses_left ≤ vec_capacity c.table
  pub literal_room : vec_len c.lits + c.literals_left ≤ vec_capacity c.lits
