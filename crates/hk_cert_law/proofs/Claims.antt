-- The line of a handler, and the line of an obligation's proof, say what was written.
use Rattle.std.proofs.Common.{◌≡◌, ℕ, true, false, List, [], ◌∷◌, ◌++◌, Ok, Err, refl, sym, ◌∙◌, ap, subst}
use Rattle.std.proofs.lemmas.Bool.{cond-true}
use Rattle.std.specs.Prelude.{codes, bytes_eq, Result}
use Rattle.hk_cnf.specs.Text.{words_of}
use Rattle.spec_tree.specs.Plain.{Transition, Spec}
use Rattle.hk_case.specs.declared.Obligation.{Obligation}
use Rattle.hk_case.specs.declared.Obligation.TheVariants.{Undefined, Invariant, State, ResultValue, Property}
use Rattle.hk_case.specs.Obligations.{obligations_of, IsObligation}
use Rattle.hk_rows.specs.Texts.{line}
use Rattle.hk_verdict.specs.Report.{two_texts, rejection_line}
use Rattle.hk_cert_text.specs.Certificate.{kind_of, subject_of, prove_line, unknown_line}
use Rattle.hk_cert_lines.specs.declared.reason.CertReason.{CertReason}
use Rattle.hk_cert_lines.specs.declared.reason.CertReason.TheVariants.{Q1}
use Rattle.hk_cert_lines.specs.declared.handlers.Claim.{Claim}
use Rattle.hk_cert_lines.specs.declared.handlers.Claim.TheVariants as claim
use Rattle.hk_cert_lines.specs.Words.{is_spaced, is_handler_name}
use Rattle.hk_cert_lines.specs.Handlers.{words_for, are_words_for, about, claimed, claim_of, claim_at, next_proved, proving, prove_at}
use Rattle.hk_cert_law.specs.Names.{HasNames}
use Rattle.hk_cert_law.proofs.Lines.{Says, says_line}
use Rattle.hk_cert_law.proofs.Words.{Spells, spells_put}
use Rattle.hk_cert_law.proofs.Showing.{ends}
use Rattle.hk_cert_law.proofs.Naming.{IsNamed, is_named, handler_token, obligation_spells, are_obligation, own_words, same_bytes, obligation_found}

-- ---- the line of an obligation's proof

pub prove_says : (s : Spec) (o : Obligation) → IsNamed s o → Says (prove_line s o) (prove_at s o) (Ok tt)
prove_says s o h =
    let text = codes "prove" ++ 32 ∷ (kind_of o ++ (subject_of s o ++ [])) in
    let words = codes "prove" ∷ words_for s o in
    let spelled = spells_put (codes "prove") (kind_of o ++ (subject_of s o ++ [])) (words_for s o) refl (obligation_spells s o h) in
    says_line (codes "prove " ∷ kind_of o ∷ subject_of s o ∷ []) (prove_at s o) (Ok tt) spelled.inner
    (cond-true (is_spaced true text) (proving s o (words_of false text)) (Err Q1) spelled.spaced ∙ ap (proving s o) spelled.words
    ∙ ap (λ b. next_proved b (are_words_for s (words_for s o) o)) (are_obligation s o h)
    ∙ ap (next_proved true) (own_words s o))

-- ---- the line of a handler

-- the line of a rejection, by the words of its obligation
rejected : (s : Spec) (t : Transition) (o : Obligation) → rejection_line s t o ≡ line (codes "reject " ∷ t.name ∷ codes " " ∷ kind_of o ∷ subject_of s o ∷ [])
rejected s t Undefined = refl
rejected s t (Invariant i) = refl
rejected s t (State f) = refl
rejected s t ResultValue = refl
rejected s t (Property p) = refl

module _ (s : Spec) (t : Transition) (handler : is_handler_name t.name ≡ true) where
  abbrev claims : List ℕ → Result Claim CertReason
  claims = claim_at s t (obligations_of s t)

  claim_words : (line : List ℕ) (words : List (List ℕ)) → Spells line words → claims line ≡ claim_of s t (obligations_of s t) words
  claim_words line words spelled =
      cond-true (is_spaced true line) (claim_of s t (obligations_of s t) (words_of false line)) (Err Q1) spelled.spaced ∙ ap (claim_of s t (obligations_of s t)) spelled.words

  -- the name is the handler's
  claim_named : (verb : List ℕ) (words : List (List ℕ)) → claim_of s t (obligations_of s t) (verb ∷ t.name ∷ words) ≡ claimed s (obligations_of s t) true verb words
  claim_named verb words =
      cond-true (is_handler_name t.name) (claimed s (obligations_of s t) (bytes_eq t.name t.name) verb words) (Err Q1) handler
      ∙ ap (λ b. claimed s (obligations_of s t) b verb words) (same_bytes t.name)

  pub accept_says : Says (two_texts (codes "accept ") t.name) claims (Ok claim.Accept)
  accept_says =
      let text = codes "accept" ++ 32 ∷ (t.name ++ []) in
      let spelled = spells_put (codes "accept") (t.name ++ []) (t.name ∷ []) refl (ends t.name (handler_token t.name handler)) in
      says_line (codes "accept " ∷ t.name ∷ []) claims (Ok claim.Accept) spelled.inner
      (claim_words text (codes "accept" ∷ t.name ∷ []) spelled ∙ claim_named (codes "accept") [])

  pub memory_says : Says (two_texts (codes "memory ") t.name) claims (Ok claim.Memory)
  memory_says =
      let text = codes "memory" ++ 32 ∷ (t.name ++ []) in
      let spelled = spells_put (codes "memory") (t.name ++ []) (t.name ∷ []) refl (ends t.name (handler_token t.name handler)) in
      says_line (codes "memory " ∷ t.name ∷ []) claims (Ok claim.Memory) spelled.inner
      (claim_words text (codes "memory" ∷ t.name ∷ []) spelled ∙ claim_named (codes "memory") [])

  module _ (names : HasNames s) (o : Obligation) (place : IsObligation s t o) where
    abbrev behind : List ℕ
    behind = t.name ++ 32 ∷ (kind_of o ++ (subject_of s o ++ []))

    spelled_behind : Spells behind (t.name ∷ words_for s o)
    spelled_behind = spells_put t.name (kind_of o ++ (subject_of s o ++ [])) (words_for s o) (handler_token t.name handler) (obligation_spells s o (is_named s names t o place))

    pub unknown_says : Says (unknown_line s t o) claims (Ok (claim.Unknown o))
    unknown_says =
        let spelled = spells_put (codes "unknown") behind (t.name ∷ words_for s o) refl spelled_behind in
        says_line (codes "unknown " ∷ t.name ∷ codes " " ∷ kind_of o ∷ subject_of s o ∷ []) claims (Ok (claim.Unknown o)) spelled.inner
        (claim_words (codes "unknown" ++ 32 ∷ behind) (codes "unknown" ∷ t.name ∷ words_for s o) spelled
        ∙ claim_named (codes "unknown") (words_for s o)
        ∙ ap (about true claim.Unknown) (obligation_found s names t o place))

    reject_written : Says (line (codes "reject " ∷ t.name ∷ codes " " ∷ kind_of o ∷ subject_of s o ∷ [])) claims (Ok (claim.Reject o))
    reject_written =
        let spelled = spells_put (codes "reject") behind (t.name ∷ words_for s o) refl spelled_behind in
        says_line (codes "reject " ∷ t.name ∷ codes " " ∷ kind_of o ∷ subject_of s o ∷ []) claims (Ok (claim.Reject o)) spelled.inner
        (claim_words (codes "reject" ++ 32 ∷ behind) (codes "reject" ∷ t.name ∷ words_for s o) spelled
        ∙ claim_named (codes "reject") (words_for s o)
        ∙ ap (about true claim.Reject) (obligation_found s names t o place))

    pub reject_says : Says (rejection_line s t o) claims (Ok (claim.Reject o))
    reject_says = subst (λ text. Says text claims (Ok (claim.Reject o))) (sym (rejected s t o)) reject_written
