-- What stands of a handler is read back, and so is the whole text.
use Rattle.std.proofs.Common.{◌≡◌, ℕ, ◌+◌, true, List, [], ◌∷◌, ◌++◌, Ok, refl, sym, ◌∙◌, ap, arith}
use Rattle.std.proofs.lemmas.List.{append_assoc, append-nil}
use Rattle.std.proofs.lemmas.List.Elements.{All-head, All-tail}
use Rattle.std.specs.Prelude.{codes, Result}
use Rattle.std.specs.List.{All, zip, flat_map}
use Rattle.hk_cnf.specs.Text.{lines_of}
use Rattle.ir_ast.specs.Program.{ModuleView}
use Rattle.ir_layout.specs.declared.object.Object.{Object}
use Rattle.spec_tree.specs.Plain.{Transition, Spec}
use Rattle.spec_tree.specs.Sorted.{IsWidth, IsTransition, IsWellSorted}
use Rattle.hk_case.specs.declared.Obligation.{Obligation}
use Rattle.hk_case.specs.declared.Obligation.TheVariants.{Undefined, Invariant, State, ResultValue, Property}
use Rattle.hk_case.specs.Obligations.{obligations_of}
use Rattle.hk_rows.specs.Texts.{line}
use Rattle.hk_verdict.specs.Report.{two_texts, rejection_line, case_text}
use Rattle.hk_cert_text.specs.declared.entry.Entry.{Entry}
use Rattle.hk_cert_text.specs.declared.entry.Entry.TheVariants as entry
use Rattle.hk_cert_text.specs.Certificate.{proofs_text, unknown_line, entry_text, certificate_text}
use Rattle.hk_cert_lines.specs.declared.reason.CertReason.{CertReason}
use Rattle.hk_cert_lines.specs.declared.handlers.Claim.{Claim}
use Rattle.hk_cert_lines.specs.declared.handlers.Claim.TheVariants as claim
use Rattle.hk_cert_lines.specs.Handlers.{claim_at}
use Rattle.hk_cert_lines.specs.Words.{is_handler_name}
use Rattle.hk_cert.specs.States.{case_at}
use Rattle.hk_cert.specs.Reading.{proofs_from, entry_by, entry_at, entries_from, with_end, whole, certificate_of}
use Rattle.hk_cert.specs.Steps.{Place, and_then, line_at}
use Rattle.hk_cert_law.specs.Entries.{IsWritten, AreWritten, newlines, on_line, on_lines}
use Rattle.hk_cert_law.specs.Names.{HasNames}
use Rattle.hk_cert_law.proofs.Placed.{IsPlaced}
use Rattle.hk_cert_law.proofs.Cases.{initial_of, case_take}
use Rattle.hk_cert_law.proofs.Lines.{newlines_append}
use Rattle.hk_cert_law.proofs.Rests.{is_outer}
use Rattle.hk_cert_law.proofs.States.{IsOuter}
use Rattle.hk_cert_law.proofs.Takes.{AnyText, line_takes, then_takes, with_value}
use Rattle.hk_cert_law.proofs.Naming.{all_named}
use Rattle.hk_cert_law.proofs.Claims.{accept_says, memory_says, unknown_says, reject_says}
use Rattle.hk_cert_law.proofs.Proving.{proofs_take}

-- ---- the text of an entry begins with no blank

reject_outer : (s : Spec) (t : Transition) (o : Obligation) (rest : List ℕ) → is_outer (rejection_line s t o ++ rest) ≡ true
reject_outer s t Undefined rest = refl
reject_outer s t (Invariant i) rest = refl
reject_outer s t (State f) rest = refl
reject_outer s t ResultValue rest = refl
reject_outer s t (Property p) rest = refl

entry_outer : (m : ModuleView) (s : Spec) (t : Transition) (e : Entry) (rest : List ℕ) → is_outer (entry_text m s t e ++ rest) ≡ true
entry_outer m s t (entry.Accept at proofs) rest = refl
entry_outer m s t (entry.Reject o case) rest = ap is_outer (append_assoc (rejection_line s t o) (case_text m s case) rest) ∙ reject_outer s t o (case_text m s case ++ rest)
entry_outer m s t (entry.Unknown o) rest = refl
entry_outer m s t entry.Memory rest = refl

module _ (m : ModuleView) (objects : List Object) (s : Spec) (placed : IsPlaced m objects) (sorted : IsWellSorted s) (names : HasNames s) where
  -- the lines of entries
  abbrev lines_for : List Transition → List Entry → List ℕ
  lines_for ts es = flat_map (λ e. entry_text m s e.0 e.1) (zip ts es)

  entries_outer : (ts : List Transition) (es : List Entry) (rest : List ℕ) → IsOuter rest → is_outer (lines_for ts es ++ rest) ≡ true
  entries_outer [] es rest outer = outer
  entries_outer (t ∷ ts) [] rest outer = outer
  entries_outer (t ∷ ts) (e ∷ es) rest outer =
      ap is_outer (append_assoc (entry_text m s t e) (lines_for ts es) rest) ∙ entry_outer m s t e (lines_for ts es ++ rest)

  module _ (t : Transition) (handler : is_handler_name t.name ≡ true) (widths : All IsWidth t.widths) where
    abbrev says_claim : List ℕ → Result Claim CertReason
    says_claim = claim_at s t (obligations_of s t)

    entry_taken : (e : Entry) → IsWritten objects s t e → (n : ℕ) (rest : List ℕ) → IsOuter rest
        → entry_at m objects s t (record { next = n; lines = lines_of (entry_text m s t e ++ rest) }) ≡ Ok (on_line n e, record { next = n + newlines (entry_text m s t e); lines = lines_of rest })
    entry_taken (entry.Accept at proofs) h n rest outer =
        let front = two_texts (codes "accept ") t.name in
        let text = proofs_text s (obligations_of s t) proofs in
        let next = with_value AnyText text (proofs_from objects s t [] (obligations_of s t)) (entry.Accept n) proofs (proofs_take objects s t (obligations_of s t) proofs [] (all_named s names t) h) in
        (then_takes AnyText AnyText front text (line_at says_claim) (entry_by m objects s t n) claim.Accept (entry.Accept n proofs)
        (line_takes AnyText front says_claim claim.Accept (accept_says s t handler)) next (λ rest ahead. tt)).takes n rest tt
    entry_taken (entry.Reject o case) h n rest outer =
        let front = rejection_line s t o in
        let text = case_text m s case in
        let next = with_value IsOuter text (case_at m (initial_of objects) s t o) (entry.Reject o) case (case_take m objects s placed names sorted t widths h.2 o case h.1) in
        (then_takes AnyText IsOuter front text (line_at says_claim) (entry_by m objects s t n) (claim.Reject o) (entry.Reject o case)
        (line_takes AnyText front says_claim (claim.Reject o) (reject_says s t handler names o h.0)) next (λ rest ahead. tt)).takes n rest outer
    entry_taken (entry.Unknown o) h n rest outer =
        ap (λ r. and_then r (entry_by m objects s t n)) ((line_takes AnyText (unknown_line s t o) says_claim (claim.Unknown o) (unknown_says s t handler names o h)).takes n rest tt)
    entry_taken entry.Memory h n rest outer =
        ap (λ r. and_then r (entry_by m objects s t n)) ((line_takes AnyText (two_texts (codes "memory ") t.name) says_claim claim.Memory (memory_says s t handler)).takes n rest tt)

  entries_taken : (ts : List Transition) (es before : List Entry) → All (λ t. is_handler_name t.name ≡ true) ts → All (IsTransition s) ts → AreWritten objects s ts es → (n : ℕ) (rest : List ℕ) → IsOuter rest
      → entries_from m objects s before ts (record { next = n; lines = lines_of (lines_for ts es ++ rest) }) ≡ Ok (before ++ on_lines m s n ts es, record { next = n + newlines (lines_for ts es); lines = lines_of rest })
  entries_taken [] es before handlers sound h n rest outer =
      let count : n ≡ n + 0 = omega arith in
      ap (λ b. Ok (b, record { next = n; lines = lines_of rest })) (sym (append-nil before))
      ∙ ap (λ k. Ok (before ++ [], record { next = k; lines = lines_of rest })) count
  entries_taken (t ∷ ts) [] before handlers sound h n rest outer = absurd h
  entries_taken (t ∷ ts) (e ∷ es) before handlers sound h n rest outer =
      let handler = All-head (λ t. is_handler_name t.name ≡ true) t ts handlers in
      let widths = (All-head (IsTransition s) t ts sound).widths in
      let text = entry_text m s t e in
      let others = lines_for ts es in
      let k = n + newlines text in
      let count : k + newlines others ≡ n + newlines (text ++ others) = omega (arith, newlines_append text others) in
      let next = λ (e : Entry) (q : Place). entries_from m objects s (before ++ e ∷ []) ts q in
      ap (λ whole. entries_from m objects s before (t ∷ ts) (record { next = n; lines = lines_of whole })) (append_assoc text others rest)
      ∙ ap (λ r. and_then r next) (entry_taken t handler widths e h.0 n (others ++ rest) (entries_outer ts es rest outer))
      ∙ entries_taken ts es (before ++ on_line n e ∷ []) (All-tail (λ t. is_handler_name t.name ≡ true) t ts handlers) (All-tail (IsTransition s) t ts sound) h.1 k rest outer
      ∙ ap (λ b. Ok (b, record { next = k + newlines others; lines = lines_of rest })) (append_assoc before (on_line n e ∷ []) (on_lines m s k ts es))
      ∙ ap (λ j. Ok (before ++ on_line n e ∷ on_lines m s k ts es, record { next = j; lines = lines_of rest })) count

  -- the whole text
  pub certificate_read : (es : List Entry) → AreWritten objects s s.transitions es → certificate_of m objects s (certificate_text m s es) ≡ Ok (on_lines m s 2 s.transitions es)
  certificate_read es h =
      let last = line (codes "end" ∷ []) in
      ap (λ r. whole (and_then r with_end)) (entries_taken s.transitions es [] names.handlers sorted.transitions h 2 last refl)
