-- The entries of an abstract state as lines.
use Rattle.std.specs.Prelude.{ℕ, ◌==◌, if◌then◌else◌, List, [], ◌∷◌, codes}
use Rattle.std.specs.List.{flat_map, zip, enumerate_from}
use Rattle.std.specs.Fmt.{decimal}
use Rattle.spec_tree.specs.Plain.{Field, Spec}
use Rattle.spec_tree.specs.Sorted.{key_sizes}
use Rattle.spec_tree.specs.Value.{tuple_at}
use Rattle.hk_rows.specs.Texts.{line, indices_text}

-- the line of an entry of a field, with a mark before the field's name
abbrev pub entry_line : List ℕ → List ℕ → List ℕ → ℕ → List ℕ
entry_line mark name indices n = line (codes "  " ∷ mark ∷ name ∷ indices_text indices ∷ codes " = " ∷ decimal n ∷ [])

-- an entry that is 0 is left out
abbrev pub entry_text : List ℕ → List ℕ → List ℕ → ℕ → List ℕ
entry_text mark name indices n = if n == 0 then [] else entry_line mark name indices n

-- the entries of a field in the order of the index tuples, which is ascending
abbrev pub field_text : List ℕ → Field → List ℕ → List ℕ
field_text mark f entries = flat_map (λ e. entry_text mark f.name (tuple_at (key_sizes f.keys) e.0) e.1) (enumerate_from 0 entries)

-- the entries of an abstract state, field by field in the order of the class
abbrev pub entries_text : List ℕ → Spec → List (List ℕ) → List ℕ
entries_text mark s state = flat_map (λ e. field_text mark e.0 e.1) (zip s.fields state)
