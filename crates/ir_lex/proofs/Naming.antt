-- One step of undoing the escapes of a string.
use Rattle.std.proofs.Common.{◌≡◌, ℕ, zero, suc, List, [], ◌∷◌, drop, refl}
use Rattle.ir_lex.specs.Names.{unescaped_from}

pub passes_escape : (k : ℕ) (bytes : List ℕ) → unescaped_from k bytes ≡ unescaped_from 0 (drop k bytes)
passes_escape zero bytes = refl
passes_escape (suc k) [] = refl
passes_escape (suc k) (b ∷ rest) = passes_escape k rest
