-- The readers of proofs, over a test of how wide the cases of an obligation are.
use Rattle.std.specs.Prelude.{◌≡◌, ◌<◌, ℕ, Bool, List, [], ◌∷◌, ◌++◌, length, Ok}
use Rattle.hk_cnf.specs.Text.{lines_of}
use Rattle.spec_tree.specs.Plain.{Spec}
use Rattle.hk_inst.specs.declared.instance.Instance.{Instance}
use Rattle.hk_proof.specs.declared.Proof.{Proof}
use Rattle.hk_proof.specs.declared.Proof.TheVariants.{AllCases}
use Rattle.hk_case.specs.declared.Obligation.{Obligation}
use Rattle.hk_cert_lines.specs.Handlers.{prove_at}
use Rattle.hk_cert.specs.Steps.{Place, Reading, and_then, line_at, place_of}
use Rattle.hk_cert.specs.Reading.{log_from, proof_from, refuted}
use Rattle.hk_cert_read.specs.declared.proving.Last.{Last}
use Rattle.hk_cert_read.specs.declared.proving.Last.TheVariants.{Cases, Log}
use Rattle.hk_cert_read.specs.declared.proving.Step.{Step}
use Rattle.hk_cert_read.specs.declared.proving.Step.TheVariants.{Added, Ended}

-- a proof whose last line was read, behind these instances
abbrev pub ended_by : Last → List Instance → Place → Reading Proof
ended_by Cases instances p = Ok (AllCases, p)
ended_by (Log count) instances p = refuted instances (log_from count [] p.next p.lines)

-- the reader goes on behind a line as from it
abbrev pub Goes : Bool → List Instance → List Instance → ℕ → List (List ℕ) → Step → Type 0
Goes wide old new n lines (Added after) = proof_from wide old n lines ≡ proof_from wide new after.line (lines_of after.text.now)
Goes wide old new n lines (Ended last after) = proof_from wide old n lines ≡ ended_by last new (place_of after)

abbrev pub IsShorter : List ℕ → Step → Type 0
IsShorter text (Added after) = length after.text.now < length text
IsShorter text (Ended last after) = Unit {0}

-- the obligations with their proofs, where this test says of which the cases are too wide to be tried
abbrev pub proved_by : (Obligation → Bool) → Spec → Obligation → Place → Reading Proof
proved_by wide s o p = and_then (line_at (prove_at s o) p) (λ _ q. proof_from (wide o) [] q.next q.lines)

abbrev pub proofs_by : (Obligation → Bool) → Spec → List Proof → List Obligation → Place → Reading (List Proof)
proofs_by wide s proofs [] p = Ok (proofs, p)
proofs_by wide s proofs (o ∷ obligations) p =
    and_then (proved_by wide s o p) (λ proof q. proofs_by wide s (proofs ++ proof ∷ []) obligations q)
