-- The obligation that the line of a handler names is one of the handler's.
use Rattle.std.proofs.Common.{◌≡◌, inl, inr, ℕ, Bool, true, false, if◌then◌else◌, List, [], ◌∷◌, Option, Some, None, Result, Ok, Err, sym, ◌∙◌}
use Rattle.std.specs.Prelude.{bytes_eq, codes, slice_get}
use Rattle.std.specs.List.{find, position_or_len}
use Rattle.std.proofs.lemmas.List.Folds.{find_at}
use Rattle.spec_tree.specs.Plain.{Transition, Spec}
use Rattle.hk_cnf.specs.Text.{words_of}
use Rattle.hk_case.specs.declared.Obligation.{Obligation}
use Rattle.hk_cert_lines.specs.declared.reason.CertReason.{CertReason}
use Rattle.hk_cert_lines.specs.declared.reason.CertReason.TheVariants.{Q1, Q2, Q3}
use Rattle.hk_cert_lines.specs.declared.handlers.Claim.{Claim}
use Rattle.hk_cert_lines.specs.declared.handlers.Claim.TheVariants.{Accept, Reject, Unknown, Memory}
use Rattle.hk_cert_lines.specs.Words.{is_spaced, is_handler_name}
use Rattle.hk_cert_lines.specs.Handlers.{is_obligation, are_words_for, owed, obligation_in, of_handler, alone, about, claimed, named_claim, claim_of, claim_at}
use Rattle.hk_claims.proofs.Followed.{guarded, either_of}

-- it stands among these
abbrev pub Among : List Obligation → Obligation → Type 0
Among obligations o = (place : ℕ) × (slice_get obligations place ≡ Some o)

owed_was : (found : Option Obligation) (o : Obligation) → owed found ≡ Ok o → found ≡ Some o
owed_was None o h = cc
owed_was (Some x) o h = cc

named_was : (s : Spec) (obligations : List Obligation) (words : List (List ℕ)) (o : Obligation) → obligation_in s obligations words ≡ Ok o → Among obligations o
named_was s obligations words o h =
    let g = guarded (is_obligation words) (owed (find (are_words_for s words) obligations)) Q1 o h in
    (position_or_len (are_words_for s words) obligations, sym (find_at (are_words_for s words) obligations) ∙ owed_was (find (are_words_for s words) obligations) o g.1)

same_claim : (same : Bool) (claim : Claim) (y : Claim) → of_handler same claim ≡ Ok y → claim ≡ y
same_claim true claim y h = cc
same_claim false claim y h = cc

not_alone : (same : Bool) (claim : Claim) (words : List (List ℕ)) (o : Obligation) → (claim ≡ Reject o → ⊥) → alone same claim words ≡ Ok (Reject o) → ⊥
not_alone same claim [] o other h = other (same_claim same claim (Reject o) h)
not_alone same claim (w ∷ words) o other h = cc

about_reject : (same : Bool) (r : Result Obligation CertReason) (o : Obligation) → about same Reject r ≡ Ok (Reject o) → r ≡ Ok o
about_reject same (Ok x) o h = let e = same_claim same (Reject x) (Reject o) h in cc
about_reject same (Err Q1) o h = cc
about_reject same (Err Q2) o h = cc
about_reject same (Err Q3) o h = cc

about_unknown : (same : Bool) (r : Result Obligation CertReason) (o : Obligation) → about same Unknown r ≡ Ok (Reject o) → ⊥
about_unknown same (Ok x) o h = let e = same_claim same (Unknown x) (Reject o) h in cc
about_unknown same (Err Q1) o h = cc
about_unknown same (Err Q2) o h = cc
about_unknown same (Err Q3) o h = cc

claimed_was : (s : Spec) (obligations : List Obligation) (same : Bool) (verb : List ℕ) (words : List (List ℕ)) (o : Obligation) → claimed s obligations same verb words ≡ Ok (Reject o) → Among obligations o
claimed_was s obligations same verb words o h =
    elim (either_of (bytes_eq verb (codes "accept")) (alone same Accept words) (if bytes_eq verb (codes "memory") then alone same Memory words else (if bytes_eq verb (codes "reject") then about same Reject (obligation_in s obligations words) else (if bytes_eq verb (codes "unknown") then about same Unknown (obligation_in s obligations words) else Err Q1))) (Ok (Reject o)) h) [
      | inl a ↦ absurd (not_alone same Accept words o (λ e. cc) a)
      | inr a ↦ elim (either_of (bytes_eq verb (codes "memory")) (alone same Memory words) (if bytes_eq verb (codes "reject") then about same Reject (obligation_in s obligations words) else (if bytes_eq verb (codes "unknown") then about same Unknown (obligation_in s obligations words) else Err Q1)) (Ok (Reject o)) a) [
        | inl b ↦ absurd (not_alone same Memory words o (λ e. cc) b)
        | inr b ↦ elim (either_of (bytes_eq verb (codes "reject")) (about same Reject (obligation_in s obligations words)) (if bytes_eq verb (codes "unknown") then about same Unknown (obligation_in s obligations words) else Err Q1) (Ok (Reject o)) b) [
          | inl c ↦ named_was s obligations words o (about_reject same (obligation_in s obligations words) o c)
          | inr c ↦ absurd (about_unknown same (obligation_in s obligations words) o (guarded (bytes_eq verb (codes "unknown")) (about same Unknown (obligation_in s obligations words)) Q1 (Reject o) c).1)
        ]
      ]
    ]

named_claim_was : (s : Spec) (t : Transition) (obligations : List Obligation) (verb : List ℕ) (words : List (List ℕ)) (o : Obligation) → named_claim s t obligations verb words ≡ Ok (Reject o) → Among obligations o
named_claim_was s t obligations verb [] o h = cc
named_claim_was s t obligations verb (name ∷ words) o h =
    claimed_was s obligations (bytes_eq name t.name) verb words o (guarded (is_handler_name name) (claimed s obligations (bytes_eq name t.name) verb words) Q1 (Reject o) h).1

claim_was : (s : Spec) (t : Transition) (obligations : List Obligation) (words : List (List ℕ)) (o : Obligation) → claim_of s t obligations words ≡ Ok (Reject o) → Among obligations o
claim_was s t obligations [] o h = cc
claim_was s t obligations (verb ∷ words) o h = named_claim_was s t obligations verb words o h

pub rejected : (s : Spec) (t : Transition) (obligations : List Obligation) (line : List ℕ) (o : Obligation) → claim_at s t obligations line ≡ Ok (Reject o) → Among obligations o
rejected s t obligations line o h =
    claim_was s t obligations (words_of false line) o (guarded (is_spaced true line) (claim_of s t obligations (words_of false line)) Q1 (Reject o) h).1
