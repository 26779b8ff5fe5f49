-- Files by name, as far as a shelf tells of them.
use Rattle.std.specs.Prelude.{ℕ, cond, List, [], ◌∷◌, Option, None, Some, String, Vec, string_bytes, bytes_eq}
use Rattle.std.specs.declared.alloc.Global.{Global}
use Rattle.std.specs.Map.{lookup}

-- each file's name and its bytes
abbrev pub Files : Type 0
Files = List (List ℕ × List ℕ)

-- the bytes under a name: those of the first file that has it
abbrev pub held_under : Option Files → List ℕ → Option (List ℕ)
held_under None name = None
held_under (Some files) name = lookup (λ other. bytes_eq other name) files

-- a file's name and its bytes, without where they lie in memory
abbrev pub file_of : String Global × Vec ℕ Global → List ℕ × List ℕ
file_of file = (string_bytes file.0, file.1.items)

-- the files once a name has these bytes: in place of those it had, or as a new file at the end
abbrev pub with_file : Files → List ℕ → List ℕ → Files
with_file [] name bytes = (name, bytes) ∷ []
with_file (file ∷ files) name bytes =
    cond (bytes_eq file.0 name) ((file.0, bytes) ∷ files) (file ∷ with_file files name bytes)
