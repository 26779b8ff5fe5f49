-- The text that is written for a clause list.
use Rattle.std.specs.Prelude.{ℕ, List, [], ◌∷◌, ◌++◌, length, ℤ}
use Rattle.std.specs.List.{flat_map}
use Rattle.std.specs.Fmt.{decimal, signed_decimal}
use Rattle.hk_cnf.specs.Clauses.{Clauses}

-- `p cnf V C`
abbrev pub header_text : ℕ → ℕ → List ℕ
header_text vars clauses = (112 ∷ 32 ∷ 99 ∷ 110 ∷ 102 ∷ 32 ∷ []) ++ decimal vars ++ 32 ∷ [] ++ decimal clauses ++ 10 ∷ []

-- a literal with a space behind it
abbrev pub literal_text : ℤ → List ℕ
literal_text l = signed_decimal l ++ 32 ∷ []

-- a clause with its 0 on a line
abbrev pub clause_text : List ℤ → List ℕ
clause_text c = flat_map literal_text c ++ 48 ∷ 10 ∷ []

abbrev pub list_text : Clauses → List ℕ
list_text list = header_text list.vars (length list.clauses) ++ flat_map clause_text list.clauses
