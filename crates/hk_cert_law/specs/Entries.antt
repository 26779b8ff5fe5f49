-- What the entries of a certificate must be for its text to be read as they are, and on which lines acceptances stand.
use Rattle.std.specs.Prelude.{◌≡◌, ℕ, suc, ◌+◌, ◌^◌, ◌<◌, ◌≤◌, false, ◌==◌, if◌then◌else◌, List, [], ◌∷◌, length, All}
use Rattle.ir_ast.specs.Program.{ModuleView}
use Rattle.ir_layout.specs.declared.object.Object.{Object}
use Rattle.spec_tree.specs.Plain.{Transition, Spec}
use Rattle.hk_cnf.specs.Literal.{IsLiteral}
use Rattle.hk_lrat.specs.Log.{has_both}
use Rattle.hk_lrat.specs.declared.log.LratRow.{LratRow}
use Rattle.hk_lrat.specs.declared.log.LratRow.TheVariants.{Add, Delete}
use Rattle.hk_inst.specs.declared.instance.Instance.{Instance}
use Rattle.hk_inst.specs.declared.instance.Instance.TheVariants.{Pair, Tuple}
use Rattle.hk_proof.specs.declared.Proof.{Proof}
use Rattle.hk_proof.specs.declared.Proof.TheVariants.{Refuted, AllCases}
use Rattle.hk_case.specs.declared.Obligation.{Obligation}
use Rattle.hk_case.specs.Obligations.{obligations_of, IsObligation, IsCase, case_bits}
use Rattle.hk_cert_text.specs.declared.entry.Entry.{Entry}
use Rattle.hk_cert_text.specs.declared.entry.Entry.TheVariants.{Accept, Reject, Unknown, Memory}
use Rattle.hk_cert_text.specs.Certificate.{entry_text}

-- ---- what is written

-- a number of 64 bits
abbrev pub IsNumber : ℕ → Type 0
IsNumber n = n < 2 ^ 64

-- two reads, or a quantifier with an index for each of its variables, of which there is one at least
abbrev pub IsInstance : Instance → Type 0
IsInstance (Pair a b) = IsNumber a × IsNumber b
IsInstance (Tuple quantifier indices) = IsNumber quantifier × (0 < length indices) × All IsNumber indices

-- an id that a row names: 0 would end the row
abbrev pub IsId : ℕ → Type 0
IsId id = (0 < id) × (id < 2 ^ 63)

-- a row that the format admits: no literal stands together with its negation
abbrev pub IsRow : LratRow → Type 0
IsRow (Add id clause hints) = (id < 2 ^ 63) × All IsLiteral clause × (has_both clause ≡ false) × All IsId hints
IsRow (Delete ids) = All IsId ids

-- all cases are tried of obligations of at most 16 case bits
abbrev pub IsProof : List Object → Spec → Transition → Obligation → Proof → Type 0
IsProof objects s t o (Refuted instances log) = All IsInstance instances × All IsRow log × IsNumber (length log)
IsProof objects s t o AllCases = case_bits objects s t o ≤ 16

-- one proof for each obligation
abbrev pub AreProofs : List Object → Spec → Transition → List Obligation → List Proof → Type 0
AreProofs objects s t [] proofs = proofs ≡ []
AreProofs objects s t (o ∷ obligations) [] = ⊥
AreProofs objects s t (o ∷ obligations) (proof ∷ proofs) = IsProof objects s t o proof × AreProofs objects s t obligations proofs

-- ---- lines

-- how many lines a text ends
abbrev pub newlines : List ℕ → ℕ
newlines [] = 0
newlines (b ∷ text) = if b == 10 then suc (newlines text) else newlines text

-- an entry whose first line has this number: an acceptance keeps it
abbrev pub on_line : ℕ → Entry → Entry
on_line n (Accept at proofs) = Accept n proofs
on_line n e = e

-- entries of these handlers, of which the first begins on the line with this number
abbrev pub on_lines : ModuleView → Spec → ℕ → List Transition → List Entry → List Entry
on_lines m s n [] entries = []
on_lines m s n (t ∷ transitions) [] = []
on_lines m s n (t ∷ transitions) (e ∷ entries) = on_line n e ∷ on_lines m s (n + newlines (entry_text m s t e)) transitions entries

-- ---- entries

-- an entry of a handler that is written as it is: with one proof for each of its obligations; with a case of one of them, of its kind and
-- shape, and no more parameters than 64 bits count; or about one of them
abbrev pub IsWritten : List Object → Spec → Transition → Entry → Type 0
IsWritten objects s t (Accept at proofs) = AreProofs objects s t (obligations_of s t) proofs
IsWritten objects s t (Reject o case) = IsObligation s t o × IsCase objects s t o case × IsNumber (length t.widths)
IsWritten objects s t (Unknown o) = IsObligation s t o
IsWritten objects s t Memory = Unit {0}

-- one entry for each handler
abbrev pub AreWritten : List Object → Spec → List Transition → List Entry → Type 0
AreWritten objects s [] entries = entries ≡ []
AreWritten objects s (t ∷ transitions) [] = ⊥
AreWritten objects s (t ∷ transitions) (e ∷ entries) = IsWritten objects s t e × AreWritten objects s transitions entries
