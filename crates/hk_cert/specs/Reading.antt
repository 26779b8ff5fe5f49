-- The certificate that a text spells for a kernel and its specification, or the first line that fails with its least reason.
use Rattle.std.specs.Prelude.{ℕ, zero, suc, ◌+◌, nat_lt, Bool, true, false, if◌then◌else◌, List, [], ◌∷◌, ◌++◌, map, Result, Ok, Err, codes, bytes_eq}
use Rattle.ir_ast.specs.Program.{ModuleView}
use Rattle.ir_layout.specs.declared.object.Object.{Object}
use Rattle.spec_tree.specs.Plain.{Transition, Spec}
use Rattle.hk_cnf.specs.Text.{lines_of, words_of}
use Rattle.hk_lrat.specs.declared.log.LratRow.{LratRow}
use Rattle.hk_lrat.specs.declared.log.RowReason.{RowReason}
use Rattle.hk_lrat.specs.LogText.{row_of}
use Rattle.hk_inst.specs.declared.instance.Instance.{Instance}
use Rattle.hk_proof.specs.declared.Proof.{Proof}
use Rattle.hk_proof.specs.declared.Proof.TheVariants.{Refuted, AllCases}
use Rattle.hk_case.specs.declared.Obligation.{Obligation}
use Rattle.hk_case.specs.Obligations.{obligations_of, case_bits}
use Rattle.hk_cert_text.specs.declared.entry.Entry.{Entry}
use Rattle.hk_cert_text.specs.declared.entry.Entry.TheVariants as entry
use Rattle.hk_cert_lines.specs.declared.reason.CertReason.{CertReason}
use Rattle.hk_cert_lines.specs.declared.reason.CertReason.TheVariants.{Q1}
use Rattle.hk_cert_lines.specs.declared.handlers.Claim.{Claim}
use Rattle.hk_cert_lines.specs.declared.handlers.Claim.TheVariants as claim
use Rattle.hk_cert_lines.specs.declared.shown.Shown.{Shown}
use Rattle.hk_cert_lines.specs.declared.shown.Shown.TheVariants.{Cases, Log, Added}
use Rattle.hk_cert_lines.specs.Handlers.{claim_at, prove_at}
use Rattle.hk_cert_lines.specs.Shown.{shown_at}
use Rattle.hk_cert.specs.declared.fault.CertFault.{CertFault}
use Rattle.hk_cert.specs.Steps.{Place, Reading, fault, and_then, line_at}
use Rattle.hk_cert.specs.States.{case_at}

-- ---- logs

abbrev pub at_log_row : {A : Type 0} → ℕ → Result LratRow RowReason → (LratRow → Reading A) → Reading A
at_log_row n (Ok row) next = next row
at_log_row n (Err reason) next = Err (fault n Q1)

-- so many rows of a log, a line each
abbrev pub log_from : ℕ → List LratRow → ℕ → List (List ℕ) → Reading (List LratRow)
log_from zero log n lines = Ok (log, record { next = n; lines = lines })
log_from (suc count) log n [] = Err (fault n Q1)
log_from (suc count) log n (line ∷ behind) = at_log_row n (row_of (words_of false line)) (λ row. log_from count (log ++ row ∷ []) (n + 1) behind)

-- ---- proofs

abbrev pub is_first : List Instance → Bool
is_first [] = true
is_first (i ∷ is) = false

abbrev pub refuted : List Instance → Reading (List LratRow) → Reading Proof
refuted instances (Ok p) = Ok (Refuted instances p.0, p.1)
refuted instances (Err f) = Err f

-- what follows what a line says
abbrev pub at_shown : ℕ → List (List ℕ) → List Instance → Result Shown CertReason → (Instance → Reading Proof) → Reading Proof
at_shown n behind instances (Ok Cases) next = Ok (AllCases, record { next = n + 1; lines = behind })
at_shown n behind instances (Ok (Log count)) next = refuted instances (log_from count [] (n + 1) behind)
at_shown n behind instances (Ok (Added i)) next = next i
at_shown n behind instances (Err reason) next = Err (fault n reason)

-- the proof of an obligation behind its line, of which these instances were read
abbrev pub proof_from : Bool → List Instance → ℕ → List (List ℕ) → Reading Proof
proof_from wide instances n [] = Err (fault n Q1)
proof_from wide instances n (line ∷ behind) =
    at_shown n behind instances (shown_at (is_first instances) wide line) (λ i. proof_from wide (instances ++ i ∷ []) (n + 1) behind)

-- all cases are tried of obligations of at most 16 case bits
abbrev pub is_wide : List Object → Spec → Transition → Obligation → Bool
is_wide objects s t o = nat_lt 16 (case_bits objects s t o)

abbrev pub proved_at : List Object → Spec → Transition → Obligation → Place → Reading Proof
proved_at objects s t o p = and_then (line_at (prove_at s o) p) (λ _ q. proof_from (is_wide objects s t o) [] q.next q.lines)

-- the obligations in their order, each with its proof
abbrev pub proofs_from : List Object → Spec → Transition → List Proof → List Obligation → Place → Reading (List Proof)
proofs_from objects s t proofs [] p = Ok (proofs, p)
proofs_from objects s t proofs (o ∷ obligations) p =
    and_then (proved_at objects s t o p) (λ proof q. proofs_from objects s t (proofs ++ proof ∷ []) obligations q)

-- ---- entries

-- what follows the line of a handler, which has this number
abbrev pub entry_by : ModuleView → List Object → Spec → Transition → ℕ → Claim → Place → Reading Entry
entry_by m objects s t n claim.Accept p = and_then (proofs_from objects s t [] (obligations_of s t) p) (λ proofs q. Ok (entry.Accept n proofs, q))
entry_by m objects s t n (claim.Reject o) p = and_then (case_at m (map (λ x. x.bytes) objects) s t o p) (λ case q. Ok (entry.Reject o case, q))
entry_by m objects s t n (claim.Unknown o) p = Ok (entry.Unknown o, p)
entry_by m objects s t n claim.Memory p = Ok (entry.Memory, p)

abbrev pub entry_at : ModuleView → List Object → Spec → Transition → Place → Reading Entry
entry_at m objects s t p = and_then (line_at (claim_at s t (obligations_of s t)) p) (λ claim q. entry_by m objects s t p.next claim q)

-- the handlers in the order of the specification
abbrev pub entries_from : ModuleView → List Object → Spec → List Entry → List Transition → Place → Reading (List Entry)
entries_from m objects s entries [] p = Ok (entries, p)
entries_from m objects s entries (t ∷ transitions) p = and_then (entry_at m objects s t p) (λ e q. entries_from m objects s (entries ++ e ∷ []) transitions q)

-- ---- the whole

-- a line of this text alone
abbrev pub is_line : List ℕ → List ℕ → Result (Unit {0}) CertReason
is_line text line = if bytes_eq line text then Ok tt else Err Q1

-- no line follows
abbrev pub ended : List Entry → ℕ → List (List ℕ) → Result (List Entry) CertFault
ended entries n [] = Ok entries
ended entries n (line ∷ behind) = Err (fault n Q1)

abbrev pub whole : Reading (List Entry) → Result (List Entry) CertFault
whole (Ok p) = ended p.0 p.1.next p.1.lines
whole (Err f) = Err f

abbrev pub with_end : List Entry → Place → Reading (List Entry)
with_end entries p = and_then (line_at (is_line (codes "end")) p) (λ _ q. Ok (entries, q))

abbrev pub text_at : ModuleView → List Object → Spec → Place → Reading (List Entry)
text_at m objects s p =
    and_then (line_at (is_line (codes "hkv certificate 1")) p) (λ _ q. and_then (entries_from m objects s [] s.transitions q) (λ entries r. with_end entries r))

-- the entries that a text spells, one for each handler, or the first line that fails with its least reason
abbrev pub certificate_of : ModuleView → List Object → Spec → List ℕ → Result (List Entry) CertFault
certificate_of m objects s text = whole (text_at m objects s (record { next = 1; lines = lines_of text }))
