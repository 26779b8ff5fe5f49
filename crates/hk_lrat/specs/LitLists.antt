-- What contracts see of the literals of a clause.
use Rattle.std.specs.Prelude.{List, ℤ}
use Rattle.hk_lrat.specs.declared.log.Literals.{Literals}
use Rattle.hk_lrat.specs.declared.log.Literals.TheVariants.{One, Two, Many}

abbrev pub literals_of : Literals → List ℤ
literals_of (One lits) = lits
literals_of (Two lits) = lits
literals_of (Many lits) = lits.items
