-- The rows of an object are read back.
use Rattle.std.proofs.Common.{◌≡◌, ℕ, zero, suc, ◌+◌, ◌-◌, ◌*◌, ◌%◌, ◌^◌, ◌<◌, ◌≤◌, min, true, false, not, ◌&&◌, cond, eqb, ltb, List, [], ◌∷◌, ◌++◌, length, drop, replicate, Some, None, Ok, Err, refl, sym, ◌∙◌, ap, arith}
use Rattle.std.proofs.lemmas.Bool.{cond-true, cond-false, cond_both, and_from, and_parts, eqb-true, eq-eqb, lt-ltb, le-ltb, not_from_false, false_from_ne_true}
use Rattle.std.proofs.lemmas.List.{append_assoc, append-nil, length-append, length-take, length-drop, take-append-drop, drop-drop, length-replicate, replicate-append-replicate, drop_all}
use Rattle.std.proofs.lemmas.List.Elements.{All-take, All-drop}
use Rattle.std.specs.Prelude.{codes}
use Rattle.std.specs.List.{All, flat_map, list_all, range_with_len}
use Rattle.std.specs.Fmt.{decimal}
use Rattle.hk_cnf.specs.Text.{lines_of, natural_of}
use Rattle.hk_rows.specs.Texts.{name_text, hex_text}
use Rattle.hk_rows.specs.Rows.{row_line, row_text, row_of}
use Rattle.hk_cert_lines.specs.declared.reason.CertReason.TheVariants.{Q1, Q2}
use Rattle.hk_cert_lines.specs.Words.{is_decimal, behind}
use Rattle.hk_cert_lines.specs.Blocks.{behind_in, behind_digits, row_front, is_hex, is_row, is_placed, row_placed, row_with, row_at, hex_bytes}
use Rattle.hk_cert.specs.States.{zeros, padded, with_row, at_row, while_front, rows_from}
use Rattle.hk_cert_law.specs.Entries.{newlines}
use Rattle.hk_cert_law.proofs.Lines.{is_inner, is_one_line, all_append, newlines_append, Says, says_line, says_first, says_one}
use Rattle.hk_cert_law.proofs.Numbers.{number_decimal, number_read}
use Rattle.hk_cert_law.proofs.Arguments.{number_inner}
use Rattle.hk_cert_law.proofs.Digits.{IsByte, hex_long, hex_inner, hex_zeros, hex_read, hex_is}
use Rattle.hk_cert_law.proofs.Entries.{zeros_next}
use Rattle.hk_cert_law.proofs.Indices.{Stops, digits_read, digits_left}
use Rattle.hk_cert_law.proofs.Fronts.{behind_put, behind_next, other_front}
use Rattle.hk_cert_law.proofs.Rests.{IsNot}
use Rattle.hk_cert_law.proofs.Shown.{is_shown, shown_line, name_shown}

-- ---- zeros

zeros_are : (n : ℕ) → zeros n ≡ replicate n 0
zeros_are zero = refl
zeros_are (suc n) = zeros_next n ∙ ap (λ (l : List ℕ). 0 ∷ l) (zeros_are n)

zeros_long : (n : ℕ) → length (zeros n) ≡ n
zeros_long n = ap (λ (l : List ℕ). length l) (zeros_are n) ∙ length-replicate n 0

zeros_more : (a b : ℕ) → zeros a ++ zeros b ≡ zeros (a + b)
zeros_more a b = ap (λ l. l ++ zeros b) (zeros_are a) ∙ ap (λ l. replicate a 0 ++ l) (zeros_are b) ∙ replicate-append-replicate a b 0 ∙ sym (zeros_are (a + b))

all_zeros : (row : List ℕ) → list_all (λ b. eqb b 0) row ≡ true → row ≡ zeros (length row)
all_zeros [] h = refl
all_zeros (b ∷ row) h =
    let parts = and_parts (eqb b 0) (list_all (λ b. eqb b 0) row) h in
    ap (λ x. x ∷ row) (eqb-true b 0 parts.0) ∙ ap (λ l. 0 ∷ l) (all_zeros row parts.1) ∙ sym (zeros_next (length row))

-- ---- the line of a row

abbrev row_rest : ℕ → List ℕ → List ℕ
row_rest offset row = decimal offset ++ (codes ": " ++ (hex_text row ++ []))

rest_stops : (row : List ℕ) → Stops (codes ": " ++ (hex_text row ++ []))
rest_stops row = record { byte = 58; rest = 32 ∷ (hex_text row ++ []); is = refl; outside = refl }

module _ (name : List ℕ) (offset : ℕ) (row : List ℕ) (small : offset < 2 ^ 64) (bytes : All IsByte row) where
  abbrev row_behind : List ℕ
  row_behind = codes "+" ++ row_rest offset row

  row_inner : is_one_line (codes "  @" ++ (name_text name ++ row_behind)) ≡ true
  row_inner =
      all_append is_inner (name_text name) row_behind (shown_line (name_text name) (name_shown name))
      (all_append is_inner (decimal offset) (codes ": " ++ (hex_text row ++ [])) (number_inner offset small) (ap is_one_line (append-nil (hex_text row)) ∙ hex_inner row bytes))

  pub row_says : Says (row_line name offset row) (row_front (name_text name)) (Some (row_rest offset row))
  row_says =
      says_line (codes "  @" ∷ name_text name ∷ codes "+" ∷ decimal offset ∷ codes ": " ∷ hex_text row ∷ []) (row_front (name_text name)) (Some (row_rest offset row)) row_inner
      (behind_next (codes "+") (row_rest offset row) (behind_in (name_text name) (behind (codes "  @") (codes "  @" ++ (name_text name ++ row_behind))))
      (behind_next (name_text name) row_behind (behind (codes "  @") (codes "  @" ++ (name_text name ++ row_behind))) (behind_put (codes "  @") (name_text name ++ row_behind))))

  -- it is a row of no other global
  pub other_row : (other : List ℕ) → list_all is_shown other ≡ true → (other ≡ name_text name → ⊥) → Says (row_line name offset row) (row_front other) None
  other_row other shown differ =
      says_line (codes "  @" ∷ name_text name ∷ codes "+" ∷ decimal offset ∷ codes ": " ∷ hex_text row ∷ []) (row_front other) None row_inner
      (ap (λ o. behind_in (codes "+") (behind_in other o)) (behind_put (codes "  @") (name_text name ++ row_behind))
      ∙ other_front is_shown 43 [] refl 43 (row_rest offset row) refl other (name_text name) shown (name_shown name) differ)

  module _ (next size : ℕ) (low : next ≤ offset) (aligned : offset % 16 ≡ 0) (within : offset < size) (long : length row ≡ min 16 (size - offset)) (some : list_all (λ b. eqb b 0) row ≡ false) where
    abbrev hex : List ℕ
    hex = hex_text row

    not_zeros : list_all (λ b. eqb b 48) hex ≡ false
    not_zeros = false_from_ne_true (list_all (λ b. eqb b 48) hex) (λ e. let z = hex_zeros row bytes e in absurd (cc (z, some)))

    row_is : is_row (decimal offset) hex ≡ true
    row_is =
        and_from (is_decimal (decimal offset)) (is_hex hex && not (list_all (λ b. eqb b 48) hex)) (number_decimal offset small)
        (and_from (is_hex hex) (not (list_all (λ b. eqb b 48) hex)) (hex_is row bytes (omega (arith, long, within))) (not_from_false (list_all (λ b. eqb b 48) hex) not_zeros))

    placed : is_placed size offset hex ≡ true
    placed =
        and_from (eqb (offset % 16) 0) (ltb offset size && eqb (length hex) (2 * min 16 (size - offset))) (eq-eqb (offset % 16) 0 aligned)
        (and_from (ltb offset size) (eqb (length hex) (2 * min 16 (size - offset))) (lt-ltb offset size within)
        (eq-eqb (length hex) (2 * min 16 (size - offset)) (hex_long row ∙ ap (λ n. 2 * n) long)))

    pub row_read : row_at next size (row_rest offset row) ≡ Ok (offset, hex)
    row_read =
        let text = codes ": " ++ (hex ++ []) in
        ap (λ w. row_with next size w (behind (codes ": ") (behind_digits (decimal offset ++ text)))) (digits_read offset small text (rest_stops row))
        ∙ ap (λ t. row_with next size (decimal offset) (behind (codes ": ") t)) (digits_left offset small text (rest_stops row))
        ∙ ap (row_with next size (decimal offset)) (behind_put (codes ": ") (hex ++ []))
        ∙ ap (λ h. row_with next size (decimal offset) (Some h)) (append-nil hex)
        ∙ cond-true (is_row (decimal offset) hex) (row_placed next size hex (natural_of (2 ^ 64 - 1) (decimal offset))) (Err Q1) row_is
        ∙ ap (row_placed next size hex) (number_read (2 ^ 64 - 1) offset (omega (arith, small)) small)
        ∙ cond-false (ltb offset next) (Err Q1) (cond (is_placed size offset hex) (Ok (offset, hex)) (Err Q2)) (le-ltb offset next low)
        ∙ cond-true (is_placed size offset hex) (Ok (offset, hex)) (Err Q2) placed

-- ---- the rows of an object

module _ (name : List ℕ) (bytes : List ℕ) (small : All IsByte bytes) (few : length bytes < 2 ^ 64) where
  abbrev size : ℕ
  size = length bytes

  abbrev pub one_row : ℕ → List ℕ
  one_row k = row_text name (16 * k) (row_of bytes k)

  rows_stop : (done : List ℕ) (n : ℕ) (lines : List (List ℕ)) → IsNot (row_front (name_text name)) lines → rows_from (name_text name) size done n lines ≡ Ok (padded size done, record { next = n; lines = lines })
  rows_stop done n [] is = refl
  rows_stop done n (line ∷ lines) is =
      ap (λ o. while_front o (Ok (padded size done, record { next = n; lines = line ∷ lines })) (λ rest. at_row n (row_at (length done) size rest) (λ row. rows_from (name_text name) size (with_row done row) (n + 1) lines))) is

  -- these bytes, zeros, and what stands from a row on are all
  pub record IsSplit (done : List ℕ) (gap k : ℕ) : Type 0 where
    pub joined : done ++ (zeros gap ++ drop (16 * k) bytes) ≡ bytes

  split_long : (done : List ℕ) (gap k : ℕ) → IsSplit done gap k → (length done + gap) + (size - 16 * k) ≡ size
  split_long done gap k s =
      let a = length-append done (zeros gap ++ drop (16 * k) bytes) in
      let b = length-append (zeros gap) (drop (16 * k) bytes) in
      let c = zeros_long gap in
      let d = length-drop (16 * k) bytes in
      let e = ap (λ (l : List ℕ). length l) s.joined in
      omega (arith, a, b, c, d, e)

  -- a row, and what stands behind it
  row_behind_is : (k : ℕ) → row_of bytes k ++ drop (16 * (k + 1)) bytes ≡ drop (16 * k) bytes
  row_behind_is k =
      let e : 16 * (k + 1) ≡ 16 * k + 16 = omega arith in
      ap (λ n. row_of bytes k ++ drop n bytes) e ∙ ap (λ l. row_of bytes k ++ l) (sym (drop-drop 16 (16 * k) bytes)) ∙ take-append-drop 16 (drop (16 * k) bytes)

  row_bytes : (k : ℕ) → All IsByte (row_of bytes k)
  row_bytes k = All-take IsByte 16 (drop (16 * k) bytes) (All-drop IsByte (16 * k) bytes small)

  row_long : (k : ℕ) → length (row_of bytes k) ≡ min 16 (size - 16 * k)
  row_long k = length-take 16 (drop (16 * k) bytes) ∙ ap (min 16) (length-drop (16 * k) bytes)

  split_zeros : (done : List ℕ) (gap k : ℕ) → IsSplit done gap k → list_all (λ b. eqb b 0) (row_of bytes k) ≡ true → IsSplit done (gap + length (row_of bytes k)) (k + 1)
  split_zeros done gap k s h = record {
    joined =
        let row = row_of bytes k in
        let others = drop (16 * (k + 1)) bytes in
        ap (λ l. done ++ (l ++ others)) (sym (zeros_more gap (length row)))
        ∙ ap (λ l. done ++ l) (append_assoc (zeros gap) (zeros (length row)) others)
        ∙ ap (λ l. done ++ (zeros gap ++ (l ++ others))) (sym (all_zeros row h))
        ∙ ap (λ l. done ++ (zeros gap ++ l)) (row_behind_is k)
        ∙ s.joined;
  }

  split_row : (done : List ℕ) (gap k : ℕ) → IsSplit done gap k → IsSplit ((done ++ zeros gap) ++ row_of bytes k) 0 (k + 1)
  split_row done gap k s = record {
    joined =
        let row = row_of bytes k in
        let others = drop (16 * (k + 1)) bytes in
        append_assoc (done ++ zeros gap) row others
        ∙ append_assoc done (zeros gap) (row ++ others)
        ∙ ap (λ l. done ++ (zeros gap ++ l)) (row_behind_is k)
        ∙ s.joined;
  }

  pub rows_walk : (m k gap n : ℕ) (done rest : List ℕ) → IsSplit done gap k → size ≤ 16 * (k + m) → 16 * (k + m) < size + 16 → IsNot (row_front (name_text name)) (lines_of rest)
      → rows_from (name_text name) size done n (lines_of (flat_map one_row (range_with_len k m) ++ rest))
      ≡ Ok (bytes, record { next = n + newlines (flat_map one_row (range_with_len k m)); lines = lines_of rest })
  rows_walk zero k gap n done rest s most least ahead =
      let past : size ≤ 16 * k = omega (arith, most) in
      let count : n ≡ n + 0 = omega arith in
      let long = split_long done gap k s in
      let left : size - length done ≡ gap = omega (arith, long, past) in
      let none : drop (16 * k) bytes ≡ [] = drop_all (16 * k) bytes past in
      rows_stop done n (lines_of rest) ahead
      ∙ ap (λ g. Ok (done ++ zeros g, record { next = n; lines = lines_of rest })) left
      ∙ ap (λ l. Ok (done ++ l, record { next = n; lines = lines_of rest })) (sym (append-nil (zeros gap)) ∙ ap (λ l. zeros gap ++ l) (sym none))
      ∙ ap (λ l. Ok (l, record { next = n; lines = lines_of rest })) s.joined
      ∙ ap (λ j. Ok (bytes, record { next = j; lines = lines_of rest })) count
  rows_walk (suc m) k gap n done rest s most least ahead =
      let row = row_of bytes k in
      let offset = 16 * k in
      let others = flat_map one_row (range_with_len (k + 1) m) in
      let behind_lines = lines_of (others ++ rest) in
      let within : offset < size = omega (arith, least) in
      let upper : size ≤ 16 * ((k + 1) + m) = omega (arith, most) in
      let lower : 16 * ((k + 1) + m) < size + 16 = omega (arith, least) in
      let long = split_long done gap k s in
      let here : length done + gap ≡ offset = omega (arith, long, within) in
      cond_both (list_all (λ b. eqb b 0) row) [] (row_line name offset row)
      (λ text. rows_from (name_text name) size done n (lines_of ((text ++ others) ++ rest)) ≡ Ok (bytes, record { next = n + newlines (text ++ others); lines = lines_of rest }))
      (λ zero_is. rows_walk m (k + 1) (gap + length row) n done rest (split_zeros done gap k s zero_is) upper lower ahead)
      (λ some_is.
      let text = row_line name offset row in
      let in_range : offset < 2 ^ 64 = omega (arith, within, few) in
      let aligned : offset % 16 ≡ 0 = omega arith in
      let low : length done ≤ offset = omega (arith, here) in
      let says = row_says name offset row in_range (row_bytes k) in
      let gap_is : offset - length done ≡ gap = omega (arith, here) in
      let count : (n + 1) + newlines others ≡ n + newlines (text ++ others) = omega (arith, newlines_append text others, says_one says) in
      let next = λ (r : ℕ × List ℕ). rows_from (name_text name) size (with_row done r) (n + 1) behind_lines in
      ap (λ t. rows_from (name_text name) size done n (lines_of t)) (append_assoc text others rest)
      ∙ ap (rows_from (name_text name) size done n) (says_first says (others ++ rest))
      ∙ ap (λ o. while_front o (Ok (padded size done, record { next = n; lines = says.line ∷ behind_lines })) (λ rest. at_row n (row_at (length done) size rest) next)) says.answers
      ∙ ap (λ r. at_row n r next) (row_read name offset row in_range (row_bytes k) (length done) size low aligned within (row_long k) some_is)
      ∙ ap (λ g. rows_from (name_text name) size ((done ++ zeros g) ++ hex_bytes (hex_text row)) (n + 1) behind_lines) gap_is
      ∙ ap (λ l. rows_from (name_text name) size ((done ++ zeros gap) ++ l) (n + 1) behind_lines) (hex_read row (row_bytes k))
      ∙ rows_walk m (k + 1) 0 (n + 1) ((done ++ zeros gap) ++ row) rest (split_row done gap k s) upper lower ahead
      ∙ ap (λ j. Ok (bytes, record { next = j; lines = lines_of rest })) count)
