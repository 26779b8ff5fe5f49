-- What an entry of a certificate must be to be checked or replayed: what the reader of certificates gives is so.
use Rattle.std.specs.Prelude.{◌≡◌, ℕ, ◌+◌, List, [], ◌∷◌, length, take}
use Rattle.std.specs.List.{AllZip}
use Rattle.ir_layout.specs.declared.object.Object.{Object}
use Rattle.spec_tree.specs.Plain.{Transition, Spec}
use Rattle.hk_case.specs.Obligations.{obligations_of, IsObligation, IsCase}
use Rattle.hk_proof.specs.declared.Proof.{Proof}
use Rattle.hk_proof.specs.declared.Proof.TheVariants.{Refuted, AllCases}
use Rattle.hk_cert_text.specs.declared.entry.Entry.{Entry}
use Rattle.hk_cert_text.specs.declared.entry.Entry.TheVariants.{Accept, Reject, Unknown, Memory}
use Rattle.hk_check.specs.Told.{AreFew}

-- an acceptance has one proof for each obligation, and all cases stand at obligations of few cases alone; a rejection has an obligation of
-- the handler and a case of its kind and shape
abbrev pub Fits : List Object → Spec → Transition → Entry → Type 0
Fits objects s t (Accept at proofs) = (length proofs ≡ length (obligations_of s t)) × AreFew objects s t proofs
Fits objects s t (Reject o case) = IsObligation s t o × IsCase objects s t o case
Fits objects s t (Unknown o) = Unit {0}
Fits objects s t Memory = Unit {0}

-- an entry for each handler, in the order of the specification
abbrev pub AllFit : List Object → Spec → List Entry → Type 0
AllFit objects s entries = AllZip (Fits objects s) s.transitions entries

-- ---- lines

-- how many lines a proof takes, with that of its obligation
abbrev pub lines_of_proof : Proof → ℕ
lines_of_proof (Refuted instances log) = length instances + length log + 2
lines_of_proof AllCases = 2

abbrev pub lines_of_proofs : List Proof → ℕ
lines_of_proofs [] = 0
lines_of_proofs (p ∷ ps) = lines_of_proof p + lines_of_proofs ps

-- the line of an instance: behind the line of the acceptance, the proofs before its own, and the line of its obligation
abbrev pub line_of_instance : ℕ → List Proof → ℕ → ℕ → ℕ
line_of_instance at proofs place instance = at + lines_of_proofs (take place proofs) + instance + 2
