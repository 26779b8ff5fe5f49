-- The rows of a log are read back.
use Rattle.std.proofs.Common.{◌≡◌, ℕ, zero, suc, ◌+◌, ◌-◌, ◌^◌, ◌<◌, true, false, cond, eqb, List, [], ◌∷◌, ◌++◌, map, length, get_or, ℤ, pos, negsuc, nat_abs, Option, Some, Ok, Err, refl, sym, ◌∙◌, ap, arith}
use Rattle.std.proofs.lemmas.Bool.{cond-false, and_parts, and_from, ne_eqb}
use Rattle.std.proofs.lemmas.Fmt.{decimal_nonempty, decimal_digit, first_decimal}
use Rattle.std.proofs.lemmas.List.{append_assoc, append-nil}
use Rattle.std.proofs.lemmas.List.Elements.{All-head, All-tail}
use Rattle.std.specs.Char.{is_ascii_digit}
use Rattle.std.specs.List.{All, flat_map, list_all, list_any}
use Rattle.std.specs.Fmt.{decimal, signed_decimal}
use Rattle.hk_cnf.specs.DimacsText.{literal_text}
use Rattle.hk_cnf.specs.Literal.{IsLiteral, is_negation}
use Rattle.hk_cnf.specs.Text.{lines_of, words_of, is_minus, unsigned, with_sign, number_in, natural_of}
use Rattle.hk_lrat.specs.Log.{has_both}
use Rattle.hk_lrat.specs.LogText.{id_of, hint_in, literal_in, nonzero, is_end, is_deletion, with_item, part, deletion_of, hints_of, addition_of, with_id, row_of}
use Rattle.hk_lrat.specs.declared.log.LratRow.{LratRow}
use Rattle.hk_lrat.specs.declared.log.LratRow.TheVariants.{Add, Delete}
use Rattle.hk_lrat.specs.declared.log.RowReason.TheVariants.{L1, L6}
use Rattle.hk_cert_text.specs.Rows.{id_text, row_line}
use Rattle.hk_cert.specs.Reading.{at_log_row, log_from}
use Rattle.hk_cert_law.specs.Entries.{IsId, IsRow, newlines}
use Rattle.hk_cert_law.proofs.Lines.{is_inner, is_one_line, all_append, newlines_append, Says, says_line, says_first, says_one}
use Rattle.hk_cert_law.proofs.Words.{is_token, token_inner, word_put, words_apart, inner_apart}
use Rattle.hk_cert_law.proofs.Numbers.{digits, number_token, number_read}

-- ---- words of a row

-- what is read of the words of a list up to the word that ends it
part_read : {X A : Type 0} (item : List ℕ → Option A) (text : X → List ℕ) (value : X → A) (P : X → Type 0)
    → ((x : X) → P x → is_end (text x) ≡ false) → ((x : X) → P x → item (text x) ≡ Some (value x))
    → (xs : List X) (rest : List (List ℕ)) → All P xs → part item (map text xs ++ (48 ∷ []) ∷ rest) ≡ Some (map value xs, rest)
part_read item text value P goes_on is [] rest all = refl
part_read item text value P goes_on is (x ∷ xs) rest all =
    let one : P x = All-head P x xs all in
    let words = map text xs ++ (48 ∷ []) ∷ rest in
    cond-false (is_end (text x)) (Some ([], words)) (with_item (item (text x)) (part item words)) (goes_on x one)
    ∙ ap (λ o. with_item o (part item words)) (is x one)
    ∙ ap (with_item (Some (value x))) (part_read item text value P goes_on is xs rest (All-tail P x xs all))

not_end : (ds : List ℕ) → 48 < get_or ds 0 0 → is_end ds ≡ false
not_end [] h = refl
not_end (b ∷ ds) h = let n : eqb b 48 ≡ false = ne_eqb b 48 (λ e. omega (arith, h, e)) in rw n

positive : (n : ℕ) → 0 < n → n < 2 ^ 64 → is_end (decimal n) ≡ false
positive n some h = not_end (decimal n) (first_decimal n some h)

-- ---- ids

id_end : (n : ℕ) → IsId n → is_end (decimal n) ≡ false
id_end n h = positive n h.0 (omega (arith, h.1))

id_read : (n : ℕ) → n < 2 ^ 63 → id_of (decimal n) ≡ Some n
id_read n h = number_read (2 ^ 63 - 1) n (omega (arith, h)) (omega (arith, h))

-- ---- literals and hints

unsigned_digits : (ds : List ℕ) → 0 < length ds → list_all is_ascii_digit ds ≡ true → (is_minus ds ≡ false) × (unsigned ds ≡ ds)
unsigned_digits [] some h = absurd (omega (arith, some))
unsigned_digits (b ∷ ds) some h =
    let e : eqb b 45 ≡ false = not_minus b (and_parts (is_ascii_digit b) (list_all is_ascii_digit ds) h).0 in
    (e, cond-false (eqb b 45) ds (b ∷ ds) e)
  where
    not_minus : (b : ℕ) → is_ascii_digit b ≡ true → eqb b 45 ≡ false
    not_minus b d = ne_eqb b 45 (λ e. absurd (cc d))

plain_read : (n : ℕ) → n < 2 ^ 63 → number_in (2 ^ 63 - 1) (decimal n) ≡ Some (pos n)
plain_read n h =
    let small : n < 2 ^ 64 = omega (arith, h) in
    let u = unsigned_digits (decimal n) (decimal_nonempty n small) (digits n small) in
    ap (λ m. with_sign m (natural_of (2 ^ 63 - 1) (unsigned (decimal n)))) u.0
    ∙ ap (λ w. with_sign false (natural_of (2 ^ 63 - 1) w)) u.1
    ∙ ap (with_sign false) (number_read (2 ^ 63 - 1) n (omega (arith, h)) small)

hint_read : (n : ℕ) → IsId n → hint_in (decimal n) ≡ Some (pos n)
hint_read n h = plain_read n h.1

literal_end : (l : ℤ) → IsLiteral l → is_end (signed_decimal l) ≡ false
literal_end (pos zero) h = absurd (h.nonzero refl)
literal_end (pos (suc n)) h = let s : suc n < 2 ^ 63 = h.small in positive (suc n) (omega arith) (omega (arith, s))
literal_end (negsuc n) h = refl

literal_read : (l : ℤ) → IsLiteral l → literal_in (signed_decimal l) ≡ Some l
literal_read (pos zero) h = absurd (h.nonzero refl)
literal_read (pos (suc n)) h = ap nonzero (plain_read (suc n) h.small)
literal_read (negsuc n) h =
    let s : suc n < 2 ^ 63 = h.small in
    ap (λ o. nonzero (with_sign true o)) (number_read (2 ^ 63 - 1) (suc n) (omega (arith, s)) (omega (arith, s)))

literal_token : (l : ℤ) → IsLiteral l → is_token (signed_decimal l) ≡ true
literal_token (pos n) h = let s : n < 2 ^ 63 = h.small in number_token n (omega (arith, s))
literal_token (negsuc n) h = let s : suc n < 2 ^ 63 = h.small in minus (decimal (suc n)) (number_token (suc n) (omega (arith, s)))
  where
    minus : (word : List ℕ) → is_token word ≡ true → is_token (45 ∷ word) ≡ true
    minus [] h = absurd (cc h)
    minus (b ∷ word) h = h

-- the first word behind the id tells no deletion
no_deletion : (l : ℤ) → IsLiteral l → is_deletion (signed_decimal l) ≡ false
no_deletion (pos n) h = let s : n < 2 ^ 63 = h.small in digit_first (decimal n) (digits n (omega (arith, s)))
  where
    digit_first : (ds : List ℕ) → list_all is_ascii_digit ds ≡ true → is_deletion ds ≡ false
    digit_first [] h = refl
    digit_first (b ∷ ds) h =
        let d = (and_parts (is_ascii_digit b) (list_all is_ascii_digit ds) h).0 in
        let n : eqb b 100 ≡ false = ne_eqb b 100 (λ e. absurd (cc d)) in rw n
no_deletion (negsuc n) h = refl

-- ---- rows

all_tokens : {X : Type 0} (f : X → List ℕ) (P : X → Type 0) → ((x : X) → P x → is_token (f x) ≡ true) → (xs : List X) → All P xs → list_all (λ x. is_token (f x)) xs ≡ true
all_tokens f P is [] all = refl
all_tokens f P is (x ∷ xs) all =
    and_from (is_token (f x)) (list_all (λ x. is_token (f x)) xs) (is x (All-head P x xs all)) (all_tokens f P is xs (All-tail P x xs all))

id_token : (n : ℕ) → IsId n → is_token (decimal n) ≡ true
id_token n h = number_token n (omega (arith, h.1))

-- the words behind the id of an addition
abbrev behind_id : List ℤ → List ℕ → List (List ℕ)
behind_id clause hints = map signed_decimal clause ++ (48 ∷ []) ∷ (map decimal hints ++ (48 ∷ []) ∷ [])

ids_words : (ids : List ℕ) → All IsId ids → words_of false (flat_map id_text ids ++ 48 ∷ []) ≡ map decimal ids ++ (48 ∷ []) ∷ []
ids_words ids all = words_apart decimal ids (48 ∷ []) (all_tokens decimal IsId id_token ids all)

addition_words : (id : ℕ) (clause : List ℤ) (hints : List ℕ) → id < 2 ^ 63 → All IsLiteral clause → All IsId hints
    → words_of false (id_text id ++ (flat_map literal_text clause ++ 48 ∷ 32 ∷ (flat_map id_text hints ++ 48 ∷ []))) ≡ decimal id ∷ behind_id clause hints
addition_words id clause hints small literals ids =
    ap (words_of false) (append_assoc (decimal id) (32 ∷ []) (flat_map literal_text clause ++ 48 ∷ 32 ∷ (flat_map id_text hints ++ 48 ∷ [])))
    ∙ word_put (decimal id) (flat_map literal_text clause ++ 48 ∷ 32 ∷ (flat_map id_text hints ++ 48 ∷ [])) (number_token id (omega (arith, small)))
    ∙ ap (λ ws. decimal id ∷ ws) (words_apart signed_decimal clause (48 ∷ 32 ∷ (flat_map id_text hints ++ 48 ∷ [])) (all_tokens signed_decimal IsLiteral literal_token clause literals))
    ∙ ap (λ ws. decimal id ∷ (map signed_decimal clause ++ (48 ∷ []) ∷ ws)) (ids_words hints ids)

no_negations : (hints : List ℕ) → list_any is_negation (map pos hints) ≡ false
no_negations [] = refl
no_negations (h ∷ hints) = no_negations hints

sizes : (hints : List ℕ) → map nat_abs (map pos hints) ≡ hints
sizes [] = refl
sizes (h ∷ hints) = ap (λ hs. h ∷ hs) (sizes hints)

map_id : {X : Type 0} (xs : List X) → map (λ (x : X). x) xs ≡ xs
map_id [] = refl
map_id (x ∷ xs) = ap (λ ys. x ∷ ys) (map_id xs)

module _ (id : ℕ) (clause : List ℤ) (hints : List ℕ) (literals : All IsLiteral clause) (one : has_both clause ≡ false) (ids : All IsId hints) where
  hints_read : hints_of id clause (part hint_in (map decimal hints ++ (48 ∷ []) ∷ [])) ≡ Ok (Add id clause hints)
  hints_read =
      ap (hints_of id clause) (part_read hint_in decimal pos IsId id_end hint_read hints [] ids)
      ∙ cond-false (has_both clause) (Err L1) (cond (list_any is_negation (map pos hints)) (Err L6) (Ok (Add id clause (map nat_abs (map pos hints))))) one
      ∙ cond-false (list_any is_negation (map pos hints)) (Err L6) (Ok (Add id clause (map nat_abs (map pos hints)))) (no_negations hints)
      ∙ ap (λ hs. Ok (Add id clause hs)) (sizes hints)

  addition_read : addition_of id (part literal_in (behind_id clause hints)) ≡ Ok (Add id clause hints)
  addition_read =
      ap (addition_of id) (part_read literal_in signed_decimal (λ l. l) IsLiteral literal_end literal_read clause (map decimal hints ++ (48 ∷ []) ∷ []) literals)
      ∙ ap (λ c. hints_of id c (part hint_in (map decimal hints ++ (48 ∷ []) ∷ []))) (map_id clause)
      ∙ hints_read

first_literal : (id : ℕ) (clause : List ℤ) (hints : List ℕ) → All IsLiteral clause → with_id (Some id) (behind_id clause hints) ≡ addition_of id (part literal_in (behind_id clause hints))
first_literal id [] hints all = refl
first_literal id (l ∷ clause) hints all =
    cond-false (is_deletion (signed_decimal l)) (deletion_of (part id_of (behind_id clause hints))) (addition_of id (part literal_in (behind_id (l ∷ clause) hints))) (no_deletion l (All-head IsLiteral l clause all))

ids_inner : (ids : List ℕ) → All IsId ids → is_one_line (flat_map id_text ids ++ 48 ∷ []) ≡ true
ids_inner ids all = all_append is_inner (flat_map id_text ids) (48 ∷ []) (inner_apart decimal ids (all_tokens decimal IsId id_token ids all)) refl

-- a row that the format admits is read from its line
pub row_says : (row : LratRow) → IsRow row → Says (row_line row) (λ line. row_of (words_of false line)) (Ok row)
row_says (Add id clause hints) h =
    let rest = flat_map id_text hints ++ 48 ∷ [] in
    let inner : is_one_line (id_text id ++ (flat_map literal_text clause ++ 48 ∷ 32 ∷ rest)) ≡ true =
    all_append is_inner (id_text id) (flat_map literal_text clause ++ 48 ∷ 32 ∷ rest)
    (all_append is_inner (decimal id) (32 ∷ []) (token_inner (decimal id) (number_token id (omega (arith, h.0)))) refl)
    (all_append is_inner (flat_map literal_text clause) (48 ∷ 32 ∷ rest) (inner_apart signed_decimal clause (all_tokens signed_decimal IsLiteral literal_token clause h.1)) (ids_inner hints h.3)) in
    says_line (id_text id ∷ flat_map literal_text clause ∷ (48 ∷ 32 ∷ []) ∷ flat_map id_text hints ∷ (48 ∷ []) ∷ []) (λ line. row_of (words_of false line)) (Ok (Add id clause hints)) inner
    (ap row_of (addition_words id clause hints h.0 h.1 h.3)
    ∙ ap (λ o. with_id o (behind_id clause hints)) (id_read id h.0)
    ∙ first_literal id clause hints h.1
    ∙ addition_read id clause hints h.1 h.2 h.3)
row_says (Delete ids) h =
    let inner : is_one_line (48 ∷ 32 ∷ 100 ∷ 32 ∷ (flat_map id_text ids ++ 48 ∷ [])) ≡ true = ids_inner ids h in
    let zero_read : id_of (48 ∷ []) ≡ Some 0 = ap id_of (sym (decimal_digit 0 (omega arith))) ∙ id_read 0 (omega arith) in
    says_line ((48 ∷ 32 ∷ 100 ∷ 32 ∷ []) ∷ flat_map id_text ids ∷ (48 ∷ []) ∷ []) (λ line. row_of (words_of false line)) (Ok (Delete ids)) inner
    (ap (λ ws. row_of ((48 ∷ []) ∷ (100 ∷ []) ∷ ws)) (ids_words ids h)
    ∙ ap (λ o. with_id o ((100 ∷ []) ∷ (map decimal ids ++ (48 ∷ []) ∷ []))) zero_read
    ∙ ap deletion_of (part_read id_of decimal (λ n. n) IsId id_end (λ n p. id_read n p.1) ids [] h)
    ∙ ap (λ ns. Ok (Delete ns)) (map_id ids))

-- ---- logs

pub log_read : (log before : List LratRow) (n : ℕ) (rest : List ℕ) → All IsRow log
    → log_from (length log) before n (lines_of (flat_map row_line log ++ rest)) ≡ Ok (before ++ log, record { next = n + newlines (flat_map row_line log); lines = lines_of rest })
log_read [] before n rest all =
    ap (λ l. Ok (l, record { next = n; lines = lines_of rest })) (sym (append-nil before))
    ∙ ap (λ k. Ok (before ++ [], record { next = k; lines = lines_of rest })) (omega arith)
log_read (row ∷ log) before n rest all =
    let s = row_says row (All-head IsRow row log all) in
    let behind = lines_of (flat_map row_line log ++ rest) in
    let count : (n + 1) + newlines (flat_map row_line log) ≡ n + newlines (row_line row ++ flat_map row_line log) = omega (arith, newlines_append (row_line row) (flat_map row_line log), says_one s) in
    ap (λ t. log_from (suc (length log)) before n (lines_of t)) (append_assoc (row_line row) (flat_map row_line log) rest)
    ∙ ap (log_from (suc (length log)) before n) (says_first s (flat_map row_line log ++ rest))
    ∙ ap (λ r. at_log_row n r (λ row. log_from (length log) (before ++ row ∷ []) (n + 1) behind)) s.answers
    ∙ log_read log (before ++ row ∷ []) (n + 1) rest (All-tail IsRow row log all)
    ∙ ap (λ l. Ok (l, record { next = (n + 1) + newlines (flat_map row_line log); lines = lines_of rest })) (append_assoc before (row ∷ []) log)
    ∙ ap (λ k. Ok (before ++ row ∷ log, record { next = k; lines = lines_of rest })) count
