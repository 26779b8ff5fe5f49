-- The readers of entries, over a test of how wide the cases of an obligation are and the initial bytes of the objects.
use Rattle.std.specs.Prelude.{ℕ, Bool, List, [], Ok}
use Rattle.ir_ast.specs.Program.{ModuleView}
use Rattle.spec_tree.specs.Plain.{Transition, Spec}
use Rattle.hk_case.specs.declared.Obligation.{Obligation}
use Rattle.hk_case.specs.Obligations.{obligations_of}
use Rattle.hk_cert_text.specs.declared.entry.Entry.{Entry}
use Rattle.hk_cert_text.specs.declared.entry.Entry.TheVariants.{Accept, Reject, Unknown, Memory}
use Rattle.hk_cert_lines.specs.declared.handlers.Claim.{Claim}
use Rattle.hk_cert_lines.specs.declared.handlers.Claim.TheVariants as claim
use Rattle.hk_cert_lines.specs.Handlers.{claim_at}
use Rattle.hk_cert.specs.Steps.{Place, Reading, and_then, line_at}
use Rattle.hk_cert.specs.States.{case_at}
use Rattle.hk_cert_read.specs.Proving.{proofs_by}

abbrev pub accepted_by : (Obligation → Bool) → Spec → List Obligation → ℕ → Place → Reading Entry
accepted_by wide s owed n p = and_then (proofs_by wide s [] owed p) (λ proofs q. Ok (Accept n proofs, q))

abbrev pub rejected_by : ModuleView → List (List ℕ) → Spec → Transition → Obligation → Place → Reading Entry
rejected_by m initial s t o p = and_then (case_at m initial s t o p) (λ case q. Ok (Reject o case, q))

-- what follows the line of a handler, which has this number
abbrev pub claimed_by : ModuleView → List (List ℕ) → (Obligation → Bool) → Spec → Transition → List Obligation → ℕ → Claim → Place → Reading Entry
claimed_by m initial wide s t owed n claim.Accept p = accepted_by wide s owed n p
claimed_by m initial wide s t owed n (claim.Reject o) p = rejected_by m initial s t o p
claimed_by m initial wide s t owed n (claim.Unknown o) p = Ok (Unknown o, p)
claimed_by m initial wide s t owed n claim.Memory p = Ok (Memory, p)

abbrev pub entry_by : ModuleView → List (List ℕ) → (Obligation → Bool) → Spec → Transition → Place → Reading Entry
entry_by m initial wide s t p =
    and_then (line_at (claim_at s t (obligations_of s t)) p) (λ claim q. claimed_by m initial wide s t (obligations_of s t) p.next claim q)
