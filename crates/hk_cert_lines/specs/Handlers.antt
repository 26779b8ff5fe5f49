-- The lines of handlers and of proofs: what each says where it is due, or the least reason against it.
use Rattle.std.specs.Prelude.{ℕ, Bool, true, false, ◌||◌, if◌then◌else◌, List, [], ◌∷◌, Option, Some, None, Result, Ok, Err, codes, bytes_eq, slice_get}
use Rattle.std.specs.List.{find}
use Rattle.std.specs.Cmp.Lexicographic.{pointwise}
use Rattle.hk_cnf.specs.Text.{words_of}
use Rattle.spec_tree.specs.Plain.{Transition, Spec}
use Rattle.hk_case.specs.declared.Obligation.{Obligation}
use Rattle.hk_case.specs.declared.Obligation.TheVariants.{Undefined, Invariant, State, ResultValue, Property}
use Rattle.hk_verdict.specs.Report.{named_text, field_name}
use Rattle.hk_cert_lines.specs.declared.reason.CertReason.{CertReason}
use Rattle.hk_cert_lines.specs.declared.reason.CertReason.TheVariants.{Q1, Q2, Q3}
use Rattle.hk_cert_lines.specs.declared.handlers.Claim.{Claim}
use Rattle.hk_cert_lines.specs.declared.handlers.Claim.TheVariants.{Accept, Reject, Unknown, Memory}
use Rattle.hk_cert_lines.specs.Words.{is_spaced, is_word, is_name, is_handler_name}

-- ---- obligations

-- the words of an obligation
abbrev pub words_for : Spec → Obligation → List (List ℕ)
words_for s Undefined = codes "undefined" ∷ []
words_for s (Invariant i) = codes "invariant" ∷ named_text (slice_get s.invariants i) ∷ []
words_for s (State f) = codes "state" ∷ field_name (slice_get s.fields f) ∷ []
words_for s ResultValue = codes "result" ∷ []
words_for s (Property p) = codes "property" ∷ named_text (slice_get s.properties p) ∷ []

-- words that spell an obligation of some specification
abbrev pub is_lone : List ℕ → Bool
is_lone kind = bytes_eq kind (codes "undefined") || bytes_eq kind (codes "result")

abbrev pub is_pair : List ℕ → List ℕ → Bool
is_pair kind name = if bytes_eq kind (codes "state") then is_name name else (if bytes_eq kind (codes "invariant") || bytes_eq kind (codes "property") then is_word name else false)

abbrev pub is_obligation : List (List ℕ) → Bool
is_obligation [] = false
is_obligation (kind ∷ []) = is_lone kind
is_obligation (kind ∷ name ∷ []) = is_pair kind name
is_obligation (kind ∷ name ∷ other ∷ words) = false

abbrev pub are_words_for : Spec → List (List ℕ) → Obligation → Bool
are_words_for s words o = pointwise bytes_eq words (words_for s o)

abbrev pub owed : Option Obligation → Result Obligation CertReason
owed None = Err Q3
owed (Some o) = Ok o

-- the obligation among these that words spell: words that spell none are Q1, and one that is not among these is Q3
abbrev pub obligation_in : Spec → List Obligation → List (List ℕ) → Result Obligation CertReason
obligation_in s obligations words = if is_obligation words then owed (find (are_words_for s words) obligations) else Err Q1

-- ---- the line of a handler

abbrev pub of_handler : Bool → Claim → Result Claim CertReason
of_handler same claim = if same then Ok claim else Err Q3

-- a claim with no words behind the handler's name
abbrev pub alone : Bool → Claim → List (List ℕ) → Result Claim CertReason
alone same claim [] = of_handler same claim
alone same claim (w ∷ words) = Err Q1

-- a claim on an obligation
abbrev pub about : Bool → (Obligation → Claim) → Result Obligation CertReason → Result Claim CertReason
about same claim (Ok o) = of_handler same (claim o)
about same claim (Err Q1) = Err Q1
about same claim (Err Q2) = Err Q2
about same claim (Err Q3) = Err Q3

-- by the first word, with the handler's name behind it: a name that is not the next handler's is Q3, once the line is spelled
abbrev pub claimed : Spec → List Obligation → Bool → List ℕ → List (List ℕ) → Result Claim CertReason
claimed s obligations same verb words =
    if bytes_eq verb (codes "accept") then alone same Accept words
    else (if bytes_eq verb (codes "memory") then alone same Memory words
    else (if bytes_eq verb (codes "reject") then about same Reject (obligation_in s obligations words)
    else (if bytes_eq verb (codes "unknown") then about same Unknown (obligation_in s obligations words)
    else Err Q1)))

abbrev pub named_claim : Spec → Transition → List Obligation → List ℕ → List (List ℕ) → Result Claim CertReason
named_claim s t obligations verb [] = Err Q1
named_claim s t obligations verb (name ∷ words) =
    if is_handler_name name then claimed s obligations (bytes_eq name t.name) verb words else Err Q1

abbrev pub claim_of : Spec → Transition → List Obligation → List (List ℕ) → Result Claim CertReason
claim_of s t obligations [] = Err Q1
claim_of s t obligations (verb ∷ words) = named_claim s t obligations verb words

-- what a line says where a handler with these obligations is due
abbrev pub claim_at : Spec → Transition → List Obligation → List ℕ → Result Claim CertReason
claim_at s t obligations line = if is_spaced true line then claim_of s t obligations (words_of false line) else Err Q1

-- ---- the line that the proof of an obligation begins with

abbrev pub next_proved : Bool → Bool → Result (Unit {0}) CertReason
next_proved spelled same = if spelled then (if same then Ok tt else Err Q3) else Err Q1

abbrev pub proving : Spec → Obligation → List (List ℕ) → Result (Unit {0}) CertReason
proving s o [] = Err Q1
proving s o (verb ∷ words) = if bytes_eq verb (codes "prove") then next_proved (is_obligation words) (are_words_for s words o) else Err Q1

abbrev pub prove_at : Spec → Obligation → List ℕ → Result (Unit {0}) CertReason
prove_at s o line = if is_spaced true line then proving s o (words_of false line) else Err Q1
