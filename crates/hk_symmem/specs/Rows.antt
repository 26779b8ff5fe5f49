-- What is kept of objects, against where their first bytes come from.
use Rattle.std.specs.Prelude.{◌≡◌, List, [], ◌∷◌}
use Rattle.hk_symmem.specs.declared.row.Row.{Row}
use Rattle.hk_symmem.specs.Origins.{Origin, fixed, cells}

-- a constant has no writes, and of another object the size is kept
abbrev pub IsRow : Origin → Row → Type 0
IsRow (fixed bytes) r = r.writes.items ≡ []
IsRow (cells size cell) r = r.size ≡ size

abbrev pub AreRows : List Origin → List Row → Type 0
AreRows [] [] = Unit {0}
AreRows [] (r ∷ rs) = ⊥
AreRows (x ∷ xs) [] = ⊥
AreRows (x ∷ xs) (r ∷ rs) = IsRow x r × AreRows xs rs
