-- The lines of `check` and `replay`.
use Rattle.std.specs.Prelude.{ℕ, List, [], ◌∷◌, codes}
use Rattle.std.specs.Fmt.{decimal}
use Rattle.spec_tree.specs.Plain.{Transition, Spec}
use Rattle.hk_case.specs.declared.Obligation.{Obligation}
use Rattle.hk_lrat.specs.declared.log.RowReason.{RowReason}
use Rattle.hk_lrat.specs.declared.log.RowReason.TheVariants.{L1, L2, L3, L4, L5, L6, L7}
use Rattle.hk_rows.specs.Texts.{line}
use Rattle.hk_verdict.specs.Report.{two_texts}
use Rattle.hk_cert_text.specs.Certificate.{kind_of, subject_of}

-- a reason against a row, as it is printed
abbrev pub row_code : RowReason → List ℕ
row_code L1 = codes "L1"
row_code L2 = codes "L2"
row_code L3 = codes "L3"
row_code L4 = codes "L4"
row_code L5 = codes "L5"
row_code L6 = codes "L6"
row_code L7 = codes "L7"

-- the proofs of a handler were checked, and they hold
abbrev pub checked_line : Transition → List ℕ
checked_line t = two_texts (codes "checked ") t.name

-- the certificate has no acceptance for a handler
abbrev pub unclaimed_line : Transition → List ℕ
unclaimed_line t = two_texts (codes "not claimed ") t.name

-- the first obligation of a handler whose proof is refused, with the row of the log that fails first and its reason
abbrev pub refused_line : Spec → Transition → Obligation → ℕ → RowReason → List ℕ
refused_line s t o row reason =
    line (codes "refused " ∷ t.name ∷ codes " " ∷ kind_of o ∷ subject_of s o ∷ codes " " ∷ decimal row ∷ codes " " ∷ row_code reason ∷ [])

-- a line of a text, a handler and one of its obligations
abbrev pub told_line : List ℕ → Spec → Transition → Obligation → List ℕ
told_line text s t o = line (text ∷ t.name ∷ codes " " ∷ kind_of o ∷ subject_of s o ∷ [])

-- the case of a rejection violates its obligation
abbrev pub confirmed_line : Spec → Transition → Obligation → List ℕ
confirmed_line s t o = told_line (codes "confirmed ") s t o

-- it does not
abbrev pub unconfirmed_line : Spec → Transition → Obligation → List ℕ
unconfirmed_line s t o = told_line (codes "not confirmed ") s t o
