-- Local names and variables by their places.
use Rattle.std.specs.Prelude.{ℕ, List, [], ◌∷◌, ◌++◌}

-- of the local names their widths and numbers, of the variables their sizes and indices
pub record Scope : Type 0 where
  pub widths : List ℕ
  pub locals : List ℕ
  pub sizes : List ℕ
  pub indices : List ℕ

abbrev pub nothing_named : Scope
nothing_named = record { widths = []; locals = []; sizes = []; indices = [] }

-- one local name more
abbrev pub with_number : Scope → ℕ → ℕ → Scope
with_number s width number = record s { widths = s.widths ++ width ∷ []; locals = s.locals ++ number ∷ [] }

-- variables more, with an index each
abbrev pub entered : Scope → List ℕ → List ℕ → Scope
entered s sizes indices = record s { sizes = s.sizes ++ sizes; indices = s.indices ++ indices }
