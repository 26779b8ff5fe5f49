-- The state block of a case. What is left out is zero; a constant has its initial bytes.
use Rattle.std.specs.Prelude.{ℕ, ◌+◌, ◌-◌, if◌then◌else◌, List, [], ◌∷◌, ◌++◌, map, length, Option, Some, None, Result, Ok, Err, slice_set}
use Rattle.std.specs.List.{range_with_len}
use Rattle.ir_ast.specs.Program.{GlobalView, ModuleView}
use Rattle.spec_tree.specs.Plain.{Field, Transition, Spec}
use Rattle.spec_tree.specs.Sorted.{key_sizes, product}
use Rattle.hk_case.specs.declared.Obligation.{Obligation}
use Rattle.hk_case.specs.declared.Obligation.TheVariants.{Property}
use Rattle.hk_case.specs.declared.Case.{Case}
use Rattle.hk_case.specs.declared.Case.TheVariants.{Machine, Abstract}
use Rattle.hk_rows.specs.Texts.{name_text}
use Rattle.hk_cert_lines.specs.declared.reason.CertReason.{CertReason}
use Rattle.hk_cert_lines.specs.Blocks.{arg_at, row_front, row_at, hex_bytes, entry_front, entry_at}
use Rattle.hk_cert.specs.Steps.{Place, Reading, fault, and_then, line_at}

-- ---- arguments: a line for each parameter

abbrev pub args_from : List ℕ → ℕ → List ℕ → Place → Reading (List ℕ)
args_from args k [] p = Ok (args, p)
args_from args k (width ∷ widths) p = and_then (line_at (arg_at k width) p) (λ n q. args_from (args ++ n ∷ []) (k + 1) widths q)

-- ---- rows

abbrev pub zeros : ℕ → List ℕ
zeros n = map (λ k. 0) (range_with_len 0 n)

-- bytes with zeros behind them, up to a length
abbrev pub padded : ℕ → List ℕ → List ℕ
padded n bytes = bytes ++ zeros (n - length bytes)

abbrev pub with_row : List ℕ → ℕ × List ℕ → List ℕ
with_row bytes row = padded row.0 bytes ++ hex_bytes row.1

-- a row was read, or the line with this number fails
abbrev pub at_row : {A : Type 0} → ℕ → Result (ℕ × List ℕ) CertReason → (ℕ × List ℕ → Reading A) → Reading A
at_row n (Ok row) next = next row
at_row n (Err reason) next = Err (fault n reason)

-- the rows of this name end in front of a line that is none
abbrev pub while_front : {A : Type 0} → Option (List ℕ) → Reading A → (List ℕ → Reading A) → Reading A
while_front None end next = end
while_front (Some rest) end next = next rest

-- an object of this size, of whose rows these bytes were read: its rows stand in ascending order
abbrev pub rows_from : List ℕ → ℕ → List ℕ → ℕ → List (List ℕ) → Reading (List ℕ)
rows_from shown size bytes n [] = Ok (padded size bytes, record { next = n; lines = [] })
rows_from shown size bytes n (line ∷ behind) =
    while_front (row_front shown line) (Ok (padded size bytes, record { next = n; lines = line ∷ behind }))
    (λ rest. at_row n (row_at (length bytes) size rest) (λ row. rows_from shown size (with_row bytes row) (n + 1) behind))

abbrev pub object_at : GlobalView → List ℕ → Place → Reading (List ℕ)
object_at global initial p = if global.constant then Ok (initial, p) else rows_from (name_text global.name) (length initial) [] p.next p.lines

-- the objects in text order, by their initial bytes
abbrev pub memory_from : List (List ℕ) → List (List ℕ × GlobalView) → List (List ℕ) → Place → Reading (List (List ℕ))
memory_from memory [] initial p = Ok (memory, p)
memory_from memory (g ∷ globals) [] p = Ok (memory, p)
memory_from memory (g ∷ globals) (bytes ∷ initial) p = and_then (object_at g.1 bytes p) (λ object q. memory_from (memory ++ object ∷ []) globals initial q)

-- ---- entries

abbrev pub at_entry : {A : Type 0} → ℕ → Result (ℕ × ℕ) CertReason → (ℕ × ℕ → Reading A) → Reading A
at_entry n (Ok entry) next = next entry
at_entry n (Err reason) next = Err (fault n reason)

-- the entries of a field, of which those in front of `low` were read: they stand in ascending order of their places
abbrev pub entries_from : Field → List ℕ → ℕ → ℕ → List (List ℕ) → Reading (List ℕ)
entries_from f entries low n [] = Ok (entries, record { next = n; lines = [] })
entries_from f entries low n (line ∷ behind) =
    while_front (entry_front f.name f.keys line) (Ok (entries, record { next = n; lines = line ∷ behind }))
    (λ rest. at_entry n (entry_at low f.keys f.width rest) (λ e. entries_from f (slice_set entries e.0 e.1) (e.0 + 1) (n + 1) behind))

abbrev pub field_at : Field → Place → Reading (List ℕ)
field_at f p = entries_from f (zeros (product (key_sizes f.keys))) 0 p.next p.lines

-- the fields in the order of the class
abbrev pub state_from : List (List ℕ) → List Field → Place → Reading (List (List ℕ))
state_from state [] p = Ok (state, p)
state_from state (f ∷ fields) p = and_then (field_at f p) (λ entries q. state_from (state ++ entries ∷ []) fields q)

-- ---- cases

abbrev pub machine_at : ModuleView → List (List ℕ) → List ℕ → Place → Reading Case
machine_at m initial widths p =
    and_then (args_from [] 0 widths p) (λ args q. and_then (memory_from [] m.globals initial q) (λ memory r. Ok (Machine memory args, r)))

abbrev pub abstract_at : Spec → List ℕ → Place → Reading Case
abstract_at s widths p = and_then (args_from [] 0 widths p) (λ args q. and_then (state_from [] s.fields q) (λ state r. Ok (Abstract state args, r)))

-- an abstract state for a property, and a machine state for all others; `initial`: the initial bytes of each object
abbrev pub case_at : ModuleView → List (List ℕ) → Spec → Transition → Obligation → Place → Reading Case
case_at m initial s t (Property p) place = abstract_at s t.widths place
case_at m initial s t o place = machine_at m initial t.widths place
