-- The proof of an obligation is read back: `cases`, or instances and a log.
use Rattle.std.proofs.Common.{◌≡◌, ℕ, ◌+◌, ◌-◌, ◌^◌, Bool, true, false, ◌&&◌, List, [], ◌∷◌, ◌++◌, map, length, Some, Ok, Err, refl, sym, ◌∙◌, ap, subst, arith}
use Rattle.std.proofs.lemmas.Bool.{cond-true, cond-false, and_from}
use Rattle.std.proofs.lemmas.List.{append_assoc, append-nil}
use Rattle.std.proofs.lemmas.List.Elements.{All-head, All-tail}
use Rattle.std.specs.Prelude.{codes}
use Rattle.std.specs.List.{All, flat_map, list_all}
use Rattle.std.specs.Fmt.{decimal}
use Rattle.hk_cnf.specs.Text.{lines_of, words_of}
use Rattle.hk_lrat.specs.declared.log.LratRow.{LratRow}
use Rattle.hk_inst.specs.declared.instance.Instance.{Instance}
use Rattle.hk_inst.specs.declared.instance.Instance.TheVariants.{Pair, Tuple}
use Rattle.hk_proof.specs.declared.Proof.TheVariants.{Refuted, AllCases}
use Rattle.hk_rows.specs.Texts.{line, numbered}
use Rattle.hk_verdict.specs.Report.{two_texts}
use Rattle.hk_cert_text.specs.Rows.{instance_line, row_line}
use Rattle.hk_cert_text.specs.Certificate.{proof_text}
use Rattle.hk_cert_lines.specs.declared.reason.CertReason.TheVariants.{Q1, Q2}
use Rattle.hk_cert_lines.specs.declared.shown.Shown.TheVariants.{Cases, Log, Added}
use Rattle.hk_cert_lines.specs.Words.{is_spaced, is_decimal, in_range}
use Rattle.hk_cert_lines.specs.Shown.{number_in, pair_in, with_number, numbers_in, tuple_in, with_count, shown_of, shown_at}
use Rattle.hk_cert.specs.Reading.{is_first, refuted, at_shown, proof_from}
use Rattle.hk_cert.specs.Steps.{Reading}
use Rattle.hk_cert_law.specs.Entries.{IsNumber, IsInstance, IsRow, newlines}
use Rattle.hk_cert_law.proofs.Lines.{newlines_append, Says, says_line, says_first, says_one}
use Rattle.hk_cert_law.proofs.Words.{is_token, Spells, spells_last, spells_put}
use Rattle.hk_cert_law.proofs.Numbers.{number_token, number_decimal, number_read}
use Rattle.hk_cert_law.proofs.Logs.{log_read}

-- ---- lines

-- a last word
pub ends : (word : List ℕ) → is_token word ≡ true → Spells (word ++ []) (word ∷ [])
ends word h = subst (λ w. Spells w (word ∷ [])) (sym (append-nil word)) (spells_last word h)

shown_words : (first wide : Bool) (line : List ℕ) (words : List (List ℕ)) → Spells line words → shown_at first wide line ≡ shown_of first wide words
shown_words first wide line words s =
    cond-true (is_spaced true line) (shown_of first wide (words_of false line)) (Err Q1) s.spaced ∙ ap (shown_of first wide) s.words

-- numbers with a blank before each, behind a word
numbers_spell : (word : List ℕ) (ns : List ℕ) → is_token word ≡ true → All IsNumber ns → Spells (word ++ (flat_map (numbered (codes " ")) ns ++ [])) (word ∷ map decimal ns)
numbers_spell word [] h all = ends word h
numbers_spell word (n ∷ ns) h all =
    let rest = numbers_spell (decimal n) ns (number_token n (All-head IsNumber n ns all)) (All-tail IsNumber n ns all) in
    subst (λ t. Spells (word ++ 32 ∷ t) (word ∷ decimal n ∷ map decimal ns)) (sym (append_assoc (decimal n) (flat_map (numbered (codes " ")) ns) []))
    (spells_put word (decimal n ++ (flat_map (numbered (codes " ")) ns ++ [])) (decimal n ∷ map decimal ns) h rest)

number_found : (n : ℕ) → IsNumber n → number_in (decimal n) ≡ Some n
number_found n h = number_read (2 ^ 64 - 1) n (omega (arith, h)) h

numbers_found : (ns : List ℕ) → All IsNumber ns → numbers_in (map decimal ns) ≡ Some ns
numbers_found [] all = refl
numbers_found (n ∷ ns) all =
    ap (λ o. with_number o (numbers_in (map decimal ns))) (number_found n (All-head IsNumber n ns all))
    ∙ ap (with_number (Some n)) (numbers_found ns (All-tail IsNumber n ns all))

decimals : (ns : List ℕ) → All IsNumber ns → list_all is_decimal (map decimal ns) ≡ true
decimals [] all = refl
decimals (n ∷ ns) all = and_from (is_decimal (decimal n)) (list_all is_decimal (map decimal ns)) (number_decimal n (All-head IsNumber n ns all)) (decimals ns (All-tail IsNumber n ns all))

module _ (first wide : Bool) where
  pub instance_says : (i : Instance) → IsInstance i → Says (instance_line i) (shown_at first wide) (Ok (Added i))
  instance_says (Pair a b) h =
      let text = codes "pair" ++ 32 ∷ (decimal a ++ 32 ∷ (decimal b ++ [])) in
      let s = spells_put (codes "pair") (decimal a ++ 32 ∷ (decimal b ++ [])) (decimal a ∷ decimal b ∷ []) refl
      (spells_put (decimal a) (decimal b ++ []) (decimal b ∷ []) (number_token a h.0) (ends (decimal b) (number_token b h.1))) in
      says_line (codes "pair " ∷ decimal a ∷ codes " " ∷ decimal b ∷ []) (shown_at first wide) (Ok (Added (Pair a b))) s.inner
      (shown_words first wide text (codes "pair" ∷ decimal a ∷ decimal b ∷ []) s
      ∙ cond-true (is_decimal (decimal a) && is_decimal (decimal b)) (pair_in (number_in (decimal a)) (number_in (decimal b))) (Err Q1)
      (and_from (is_decimal (decimal a)) (is_decimal (decimal b)) (number_decimal a h.0) (number_decimal b h.1))
      ∙ ap (λ o. pair_in o (number_in (decimal b))) (number_found a h.0)
      ∙ ap (pair_in (Some a)) (number_found b h.1))
  instance_says (Tuple quantifier []) h = absurd (omega (arith, h.1))
  instance_says (Tuple quantifier (i ∷ is)) h =
      let text = codes "tuple" ++ 32 ∷ (decimal quantifier ++ (flat_map (numbered (codes " ")) (i ∷ is) ++ [])) in
      let words = decimal quantifier ∷ map decimal (i ∷ is) in
      let s = spells_put (codes "tuple") (decimal quantifier ++ (flat_map (numbered (codes " ")) (i ∷ is) ++ [])) words refl
      (numbers_spell (decimal quantifier) (i ∷ is) (number_token quantifier h.0) h.2) in
      says_line (codes "tuple " ∷ decimal quantifier ∷ flat_map (numbered (codes " ")) (i ∷ is) ∷ []) (shown_at first wide) (Ok (Added (Tuple quantifier (i ∷ is)))) s.inner
      (shown_words first wide text (codes "tuple" ∷ words) s
      ∙ cond-true (is_decimal (decimal quantifier) && list_all is_decimal (map decimal (i ∷ is))) (tuple_in (number_in (decimal quantifier)) (numbers_in (map decimal (i ∷ is)))) (Err Q1)
      (and_from (is_decimal (decimal quantifier)) (list_all is_decimal (map decimal (i ∷ is))) (number_decimal quantifier h.0) (decimals (i ∷ is) h.2))
      ∙ ap (λ o. tuple_in o (numbers_in (map decimal (i ∷ is)))) (number_found quantifier h.0)
      ∙ ap (tuple_in (Some quantifier)) (numbers_found (i ∷ is) h.2))

  pub log_says : (n : ℕ) → IsNumber n → Says (two_texts (codes "log ") (decimal n)) (shown_at first wide) (Ok (Log n))
  log_says n h =
      let text = codes "log" ++ 32 ∷ (decimal n ++ []) in
      let s = spells_put (codes "log") (decimal n ++ []) (decimal n ∷ []) refl (ends (decimal n) (number_token n h)) in
      says_line (codes "log " ∷ decimal n ∷ []) (shown_at first wide) (Ok (Log n)) s.inner
      (shown_words first wide text (codes "log" ∷ decimal n ∷ []) s
      ∙ ap with_count (cond-true (is_decimal (decimal n)) (in_range (number_in (decimal n))) (Err Q1) (number_decimal n h) ∙ ap in_range (number_found n h)))

pub cases_says : (wide : Bool) → wide ≡ false → Says (line (codes "cases" ∷ [])) (shown_at true wide) (Ok Cases)
cases_says wide narrow =
    says_line (codes "cases" ∷ []) (shown_at true wide) (Ok Cases) refl (cond-false wide (Err Q2) (Ok Cases) narrow)

-- ---- proofs

-- the numbers of a count
counted : {A : Type 0} (x : A) (m k : ℕ) (rest : List ℕ) → m ≡ k → ◌≡◌ {A = Reading A} (Ok (x, record { next = m; lines = lines_of rest })) (Ok (x, record { next = k; lines = lines_of rest }))
counted x m k rest e = ap (λ j. Ok (x, record { next = j; lines = lines_of rest })) e

module _ (wide : Bool) (log : List LratRow) (rows : All IsRow log) (few : IsNumber (length log)) where
  abbrev log_line : List ℕ
  log_line = two_texts (codes "log ") (decimal (length log))

  log_taken : (before : List Instance) (n : ℕ) (rest : List ℕ)
      → proof_from wide before n (lines_of ((log_line ++ flat_map row_line log) ++ rest)) ≡ Ok (Refuted before log, record { next = n + newlines (log_line ++ flat_map row_line log); lines = lines_of rest })
  log_taken before n rest =
      let s = log_says (is_first before) wide (length log) few in
      let behind = lines_of (flat_map row_line log ++ rest) in
      let count : (n + 1) + newlines (flat_map row_line log) ≡ n + newlines (log_line ++ flat_map row_line log) = omega (arith, newlines_append log_line (flat_map row_line log), says_one s) in
      ap (λ t. proof_from wide before n (lines_of t)) (append_assoc log_line (flat_map row_line log) rest)
      ∙ ap (proof_from wide before n) (says_first s (flat_map row_line log ++ rest))
      ∙ ap (λ r. at_shown n behind before r (λ i. proof_from wide (before ++ i ∷ []) (n + 1) behind)) s.answers
      ∙ ap (refuted before) (log_read log [] (n + 1) rest rows)
      ∙ counted (Refuted before log) ((n + 1) + newlines (flat_map row_line log)) (n + newlines (log_line ++ flat_map row_line log)) rest count

  pub refuted_taken : (instances before : List Instance) (n : ℕ) (rest : List ℕ) → All IsInstance instances
      → proof_from wide before n (lines_of (proof_text (Refuted instances log) ++ rest)) ≡ Ok (Refuted (before ++ instances) log, record { next = n + newlines (proof_text (Refuted instances log)); lines = lines_of rest })
  refuted_taken [] before n rest all =
      log_taken before n rest ∙ ap (λ is. Ok (Refuted is log, record { next = n + newlines (log_line ++ flat_map row_line log); lines = lines_of rest })) (sym (append-nil before))
  refuted_taken (i ∷ instances) before n rest all =
      let s = instance_says (is_first before) wide i (All-head IsInstance i instances all) in
      let text = proof_text (Refuted instances log) in
      let behind = lines_of (text ++ rest) in
      let shape : proof_text (Refuted (i ∷ instances) log) ≡ instance_line i ++ text = append_assoc (instance_line i) (flat_map instance_line instances) (log_line ++ flat_map row_line log) in
      let count : (n + 1) + newlines text ≡ n + newlines (proof_text (Refuted (i ∷ instances) log)) = omega (arith, ap newlines shape, newlines_append (instance_line i) text, says_one s) in
      ap (λ t. proof_from wide before n (lines_of (t ++ rest))) shape
      ∙ ap (λ t. proof_from wide before n (lines_of t)) (append_assoc (instance_line i) text rest)
      ∙ ap (proof_from wide before n) (says_first s (text ++ rest))
      ∙ ap (λ r. at_shown n behind before r (λ i. proof_from wide (before ++ i ∷ []) (n + 1) behind)) s.answers
      ∙ refuted_taken instances (before ++ i ∷ []) (n + 1) rest (All-tail IsInstance i instances all)
      ∙ ap (λ is. Ok (Refuted is log, record { next = (n + 1) + newlines text; lines = lines_of rest })) (append_assoc before (i ∷ []) instances)
      ∙ counted (Refuted (before ++ i ∷ instances) log) ((n + 1) + newlines text) (n + newlines (proof_text (Refuted (i ∷ instances) log))) rest count

pub cases_taken : (wide : Bool) (n : ℕ) (rest : List ℕ) → wide ≡ false
    → proof_from wide [] n (lines_of (proof_text AllCases ++ rest)) ≡ Ok (AllCases, record { next = n + newlines (proof_text AllCases); lines = lines_of rest })
cases_taken wide n rest narrow =
    let s = cases_says wide narrow in
    let behind = lines_of rest in
    ap (proof_from wide [] n) (says_first s rest)
    ∙ ap (λ r. at_shown n behind [] r (λ i. proof_from wide (i ∷ []) (n + 1) behind)) s.answers
