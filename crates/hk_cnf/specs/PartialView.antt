-- How a clause list is kept while it is read.
use Rattle.std.specs.List.{All}
use Rattle.hk_cnf.specs.Literal.{IsWithin}
use Rattle.hk_cnf.specs.Partial.{Partial}
use Rattle.hk_cnf.specs.declared.dimacs_read.Reading.TheInside.{Inside}

abbrev pub view_of : Inside → Partial
view_of r = record { vars = r.list.vars; clauses = r.list.clauses; begun = r.begun.items }

pub record IsReading (r : Inside) : Type 0 where
  pub within : All (IsWithin r.list.vars) r.begun.items
