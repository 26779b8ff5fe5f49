-- The text of a certificate: what was decided of each handler, in the order of the specification, with what shows it. A rejection has
-- the lines of the report.
use Rattle.std.specs.Prelude.{ℕ, List, [], ◌∷◌, ◌++◌, length, slice_get, codes}
use Rattle.std.specs.List.{flat_map, zip}
use Rattle.std.specs.Fmt.{decimal}
use Rattle.ir_ast.specs.Program.{ModuleView}
use Rattle.spec_tree.specs.Plain.{Transition, Spec}
use Rattle.hk_case.specs.declared.Obligation.{Obligation}
use Rattle.hk_case.specs.declared.Obligation.TheVariants.{Undefined, Invariant, State, ResultValue, Property}
use Rattle.hk_case.specs.Obligations.{obligations_of}
use Rattle.hk_proof.specs.declared.Proof.{Proof}
use Rattle.hk_proof.specs.declared.Proof.TheVariants.{Refuted, AllCases}
use Rattle.hk_rows.specs.Texts.{line}
use Rattle.hk_verdict.specs.declared.verdict.Verdict.{Verdict}
use Rattle.hk_verdict.specs.declared.verdict.Verdict.TheVariants as verdict
use Rattle.hk_verdict.specs.Report.{named_text, field_name, two_texts, rejection_line, case_text}
use Rattle.hk_cert_text.specs.declared.entry.Entry.{Entry}
use Rattle.hk_cert_text.specs.declared.entry.Entry.TheVariants.{Accept, Reject, Unknown, Memory}
use Rattle.hk_cert_text.specs.Rows.{instance_line, row_line}

-- the word of an obligation, and the name of what it speaks of
abbrev pub kind_of : Obligation → List ℕ
kind_of Undefined = codes "undefined"
kind_of (Invariant i) = codes "invariant "
kind_of (State f) = codes "state "
kind_of ResultValue = codes "result"
kind_of (Property p) = codes "property "

abbrev pub subject_of : Spec → Obligation → List ℕ
subject_of s Undefined = []
subject_of s (Invariant i) = named_text (slice_get s.invariants i)
subject_of s (State f) = field_name (slice_get s.fields f)
subject_of s ResultValue = []
subject_of s (Property p) = named_text (slice_get s.properties p)

-- the line that an obligation's proof begins with
abbrev pub prove_line : Spec → Obligation → List ℕ
prove_line s o = line (codes "prove " ∷ kind_of o ∷ subject_of s o ∷ [])

-- what shows that no case violates an obligation: all cases, or instances in the order in which they were added and a log
abbrev pub proof_text : Proof → List ℕ
proof_text (Refuted instances log) =
    flat_map instance_line instances ++ (two_texts (codes "log ") (decimal (length log)) ++ flat_map row_line log)
proof_text AllCases = line (codes "cases" ∷ [])

abbrev pub proved_text : Spec → Obligation → Proof → List ℕ
proved_text s o proof = prove_line s o ++ proof_text proof

-- the obligations in their order, each with its proof
abbrev pub proofs_text : Spec → List Obligation → List Proof → List ℕ
proofs_text s obligations proofs = flat_map (λ e. proved_text s e.0 e.1) (zip obligations proofs)

-- the line of a handler for which no case was found that violates this obligation, and no proof that there is none
abbrev pub unknown_line : Spec → Transition → Obligation → List ℕ
unknown_line s t o = line (codes "unknown " ∷ t.name ∷ codes " " ∷ kind_of o ∷ subject_of s o ∷ [])

-- the lines of a handler
abbrev pub entry_text : ModuleView → Spec → Transition → Entry → List ℕ
entry_text m s t (Accept at proofs) = two_texts (codes "accept ") t.name ++ proofs_text s (obligations_of s t) proofs
entry_text m s t (Reject o case) = rejection_line s t o ++ case_text m s case
entry_text m s t (Unknown o) = unknown_line s t o
entry_text m s t Memory = two_texts (codes "memory ") t.name

-- the handlers in the order of the specification
abbrev pub entries_text : ModuleView → Spec → List Entry → List ℕ
entries_text m s entries = flat_map (λ e. entry_text m s e.0 e.1) (zip s.transitions entries)

-- the whole text
abbrev pub certificate_text : ModuleView → Spec → List Entry → List ℕ
certificate_text m s entries = line (codes "hkv certificate 1" ∷ []) ++ (entries_text m s entries ++ line (codes "end" ∷ []))

-- what the certificate says of a handler with this verdict; the line of an acceptance is that of the text
abbrev pub entry_of : Verdict → Entry
entry_of (verdict.Accepted proofs) = Accept 0 proofs
entry_of (verdict.Rejected o case) = Reject o case
entry_of (verdict.Unknown o instances clauses log) = Unknown o
entry_of verdict.Memory = Memory
