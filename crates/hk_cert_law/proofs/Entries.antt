-- The entries of an abstract state are read back.
use Rattle.std.proofs.Common.{◌≡◌, ℕ, zero, suc, ◌+◌, ◌^◌, ◌<◌, ◌≤◌, Bool, true, false, not, eqb, ltb, List, [], ◌∷◌, ◌++◌, length, map, get_or, Option, Some, None, Ok, Err, refl, sym, ◌∙◌, ap, arith}
use Rattle.std.proofs.lemmas.Bool.{cond-true, cond-false, cond_both, and_from, eqb-true, le-ltb, not_from_false}
use Rattle.std.proofs.lemmas.Fmt.{first_decimal}
use Rattle.std.proofs.lemmas.List.{append_assoc, append-nil}
use Rattle.std.proofs.lemmas.List.Elements.{All-head, All-tail}
use Rattle.std.proofs.lemmas.Slice.Eq.{bytes_eq-Decides}
use Rattle.std.specs.Prelude.{codes, bytes_eq, slice_set}
use Rattle.std.specs.List.{All, enumerate_from, flat_map, list_all, range_with_len}
use Rattle.std.specs.Fmt.{decimal}
use Rattle.hk_cnf.specs.Text.{lines_of}
use Rattle.spec_tree.specs.Plain.{Key, Field}
use Rattle.spec_tree.specs.Sorted.{IsFieldSort, IsWidth, sort_of, product, key_sizes}
use Rattle.spec_tree.specs.Value.{tuple_at, place_behind}
use Rattle.spec_tree.proofs.Entries.{place_of_tuple}
use Rattle.hk_rows.specs.Texts.{indices_text}
use Rattle.hk_verdict.specs.Entries.{entry_line, entry_text}
use Rattle.hk_cert_lines.specs.declared.reason.CertReason.TheVariants.{Q1}
use Rattle.hk_cert_lines.specs.Words.{is_word_byte, is_word, is_name, is_decimal, behind, number_of_width}
use Rattle.hk_cert_lines.specs.Blocks.{behind_in, mark_of, entry_front, entry_parts, is_entry, with_place, entry_placed, entry_with, entry_at}
use Rattle.hk_cert.specs.States.{zeros, while_front, at_entry, entries_from}
use Rattle.hk_cert_law.specs.Entries.{IsNumber, newlines}
use Rattle.hk_cert_law.proofs.Lines.{is_inner, is_one_line, all_append, newlines_append, Says, says_line, says_first, says_one}
use Rattle.hk_cert_law.proofs.Words.{token_inner}
use Rattle.hk_cert_law.proofs.Numbers.{number_decimal}
use Rattle.hk_cert_law.proofs.Arguments.{narrow_number, width_read, last_inner}
use Rattle.hk_cert_law.proofs.Indices.{parts_text, parts_read, parts_inner, marked, tuple_long, tuple_small}
use Rattle.hk_cert_law.proofs.Fronts.{behind_put, behind_next, other_front}
use Rattle.hk_cert_law.proofs.Rests.{IsNot}
use Rattle.hk_cert_law.proofs.Each.{Each}
use Rattle.hk_cert_law.proofs.Naming.{word_token, name_word}

-- ---- names

word_bytes : (word : List ℕ) → is_word word ≡ true → list_all is_word_byte word ≡ true
word_bytes [] h = absurd (cc h)
word_bytes (b ∷ word) h = h

pub name_bytes : (name : List ℕ) → is_name name ≡ true → list_all is_word_byte name ≡ true
name_bytes name h = word_bytes name (name_word name h)

name_inner : (name : List ℕ) → is_name name ≡ true → is_one_line name ≡ true
name_inner name h = token_inner name (word_token name (name_word name h))

-- ---- the line of an entry

-- what is written behind the mark
abbrev entry_rest : List ℕ → ℕ → List ℕ
entry_rest indices n = parts_text indices (decimal n ++ [])

module _ (name : List ℕ) (keys : List Key) (named : is_name name ≡ true) (indices : List ℕ) (same : length indices ≡ length keys) (small : Each IsNumber indices) (n : ℕ) (fits : n < 2 ^ 64) where
  shape : codes "  " ++ (name ++ (indices_text indices ++ (codes " = " ++ (decimal n ++ [])))) ≡ codes "  " ++ (name ++ (mark_of keys ++ entry_rest indices n))
  shape = ap (λ t. codes "  " ++ (name ++ t)) (marked keys indices (decimal n ++ []) same)

  mark_inner : (keys : List Key) → is_one_line (mark_of keys) ≡ true
  mark_inner [] = refl
  mark_inner (k ∷ keys) = refl

  line_inner : is_one_line (codes "  " ++ (name ++ (indices_text indices ++ (codes " = " ++ (decimal n ++ []))))) ≡ true
  line_inner =
      ap is_one_line shape
      ∙ all_append is_inner name (mark_of keys ++ entry_rest indices n) (name_inner name named)
      (all_append is_inner (mark_of keys) (entry_rest indices n) (mark_inner keys) (parts_inner indices (decimal n ++ []) small (last_inner n fits)))

  -- the line is one of this field
  front_says : Says (entry_line [] name indices n) (entry_front name keys) (Some (entry_rest indices n))
  front_says =
      let rest = mark_of keys ++ entry_rest indices n in
      says_line (codes "  " ∷ [] ∷ name ∷ indices_text indices ∷ codes " = " ∷ decimal n ∷ []) (entry_front name keys) (Some (entry_rest indices n)) line_inner
      (ap (entry_front name keys) shape
      ∙ behind_next (mark_of keys) (entry_rest indices n) (behind_in name (behind (codes "  ") (codes "  " ++ (name ++ rest))))
      (behind_next name rest (behind (codes "  ") (codes "  " ++ (name ++ rest))) (behind_put (codes "  ") (name ++ rest))))

  -- and of no other
  module _ (other : List ℕ) (others : List Key) (spelled : is_name other ≡ true) (differ : other ≡ name → ⊥) where
    by_marks : (keys others : List Key) (rest : List ℕ) → behind_in (mark_of others) (behind other (name ++ (mark_of keys ++ rest))) ≡ None
    by_marks [] [] rest = other_front is_word_byte 32 (codes "= ") refl 32 (codes "= " ++ rest) refl other name (name_bytes other spelled) (name_bytes name named) differ
    by_marks [] (o ∷ others) rest = other_front is_word_byte 91 [] refl 32 (codes "= " ++ rest) refl other name (name_bytes other spelled) (name_bytes name named) differ
    by_marks (k ∷ keys) [] rest = other_front is_word_byte 32 (codes "= ") refl 91 rest refl other name (name_bytes other spelled) (name_bytes name named) differ
    by_marks (k ∷ keys) (o ∷ others) rest = other_front is_word_byte 91 [] refl 91 rest refl other name (name_bytes other spelled) (name_bytes name named) differ

    pub other_says : Says (entry_line [] name indices n) (entry_front other others) None
    other_says =
        let rest = mark_of keys ++ entry_rest indices n in
        says_line (codes "  " ∷ [] ∷ name ∷ indices_text indices ∷ codes " = " ∷ decimal n ∷ []) (entry_front other others) None line_inner
        (ap (entry_front other others) shape
        ∙ ap (λ o. behind_in (mark_of others) (behind_in other o)) (behind_put (codes "  ") (name ++ rest))
        ∙ by_marks keys others (entry_rest indices n))

-- ---- the number of an entry

not_zero : (n : ℕ) → 0 < n → n < 2 ^ 64 → bytes_eq (decimal n) (codes "0") ≡ false
not_zero n some small = by (bytes_eq (decimal n) (codes "0")) refl
  where
    by : (t : Bool) → bytes_eq (decimal n) (codes "0") ≡ t → t ≡ false
    by true e =
        let same : decimal n ≡ codes "0" = (bytes_eq-Decides (decimal n) (codes "0")).0 e in
        let first : get_or (decimal n) 0 0 ≡ 48 = ap (λ ds. get_or ds 0 0) same in
        let above : 48 < get_or (decimal n) 0 0 = first_decimal n some small in
        absurd (omega (arith, first, above))
    by false e = refl

module _ (keys : List Key) (width place low n : ℕ) (wide : IsWidth width) (within : place < product (key_sizes keys)) (few : product (key_sizes keys) ≤ 2 ^ 20) (behind_low : low ≤ place) (some : 0 < n) (small : n < 2 ^ width) where
  number_is : is_entry (decimal n) ≡ true
  number_is =
      let fits : n < 2 ^ 64 = narrow_number width n wide small in
      and_from (is_decimal (decimal n)) (not (bytes_eq (decimal n) (codes "0"))) (number_decimal n fits) (not_from_false (bytes_eq (decimal n) (codes "0")) (not_zero n some fits))

  pub tuple_numbers : Each IsNumber (tuple_at (key_sizes keys) place)
  tuple_numbers = tuple_small (key_sizes keys) place (omega (arith, within, few))

  pub entry_read : entry_at low keys width (entry_rest (tuple_at (key_sizes keys) place) n) ≡ Ok (place, n)
  entry_read =
      let indices = tuple_at (key_sizes keys) place in
      ap (λ w. entry_with low keys width (entry_parts keys (parts_text indices w))) (append-nil (decimal n))
      ∙ ap (entry_with low keys width) (parts_read keys indices (decimal n) (tuple_long keys place) tuple_numbers)
      ∙ cond-true (is_entry (decimal n)) (entry_placed low width (decimal n) (place_behind 0 keys indices)) (Err Q1) number_is
      ∙ ap (entry_placed low width (decimal n)) (place_of_tuple keys place within)
      ∙ cond-false (ltb place low) (Err Q1) (with_place place (number_of_width width (decimal n))) (le-ltb place low behind_low)
      ∙ ap (with_place place) (width_read width n wide small)

-- ---- the entries of a field

zeros_at : (a b n : ℕ) → map {B = ℕ} (λ (k : ℕ). 0) (range_with_len a n) ≡ map (λ (k : ℕ). 0) (range_with_len b n)
zeros_at a b zero = refl
zeros_at a b (suc n) = ap (λ (ns : List ℕ). 0 ∷ ns) (zeros_at (a + 1) (b + 1) n)

pub zeros_next : (n : ℕ) → zeros (suc n) ≡ 0 ∷ zeros n
zeros_next n = ap (λ (ns : List ℕ). 0 ∷ ns) (zeros_at 1 0 n)

set_at : (done : List ℕ) (x n : ℕ) (rest : List ℕ) (place : ℕ) → place ≡ length done → slice_set (done ++ x ∷ rest) place n ≡ done ++ n ∷ rest
set_at done x n rest place is = ap (λ p. slice_set (done ++ x ∷ rest) p n) is ∙ there done
  where
    there : (done : List ℕ) → slice_set (done ++ x ∷ rest) (length done) n ≡ done ++ n ∷ rest
    there [] = refl
    there (d ∷ done) = ap (λ l. d ∷ l) (there done)

pub positive_by : (n : ℕ) → eqb n 0 ≡ false → 0 < n
positive_by zero e = absurd (cc e)
positive_by (suc n) e = omega arith

module _ (f : Field) (sort : IsFieldSort (sort_of f)) (named : is_name f.name ≡ true) where
  abbrev front : List ℕ → Option (List ℕ)
  front = entry_front f.name f.keys

  abbrev pub one_text : ℕ × ℕ → List ℕ
  one_text e = entry_text [] f.name (tuple_at (key_sizes f.keys) e.0) e.1

  entries_stop : (entries : List ℕ) (low n : ℕ) (lines : List (List ℕ)) → IsNot front lines → entries_from f entries low n lines ≡ Ok (entries, record { next = n; lines = lines })
  entries_stop entries low n [] is = refl
  entries_stop entries low n (line ∷ lines) is =
      ap (λ o. while_front o (Ok (entries, record { next = n; lines = line ∷ lines })) (λ rest. at_entry n (entry_at low f.keys f.width rest) (λ e. entries_from f (slice_set entries e.0 e.1) (e.0 + 1) (n + 1) lines))) is

  pub entries_walk : (xs done : List ℕ) (place low n : ℕ) (rest : List ℕ) → place ≡ length done → place + length xs ≤ product (key_sizes f.keys) → All (λ x. x < 2 ^ f.width) xs → low ≤ place → IsNot front (lines_of rest)
      → entries_from f (done ++ zeros (length xs)) low n (lines_of (flat_map one_text (enumerate_from place xs) ++ rest))
      ≡ Ok (done ++ xs, record { next = n + newlines (flat_map one_text (enumerate_from place xs)); lines = lines_of rest })
  entries_walk [] done place low n rest is within small behind_low ahead =
      let count : n ≡ n + 0 = omega arith in
      entries_stop (done ++ []) low n (lines_of rest) ahead ∙ ap (λ k. Ok (done ++ [], record { next = k; lines = lines_of rest })) count
  entries_walk (x ∷ xs) done place low n rest is within small behind_low ahead =
      let p = place + 1 in
      let others = flat_map one_text (enumerate_from p xs) in
      let here : p ≡ length (done ++ x ∷ []) = ap (λ k. k + 1) is ∙ sym (longer done x) in
      let left : p + length xs ≤ product (key_sizes f.keys) = omega (arith, within) in
      let rest_small = All-tail (λ x. x < 2 ^ f.width) x xs small in
      cond_both (eqb x 0) [] (entry_line [] f.name (tuple_at (key_sizes f.keys) place) x)
      (λ text. entries_from f (done ++ zeros (length (x ∷ xs))) low n (lines_of ((text ++ others) ++ rest)) ≡ Ok (done ++ x ∷ xs, record { next = n + newlines (text ++ others); lines = lines_of rest }))
      (λ zero_is.
      let e : x ≡ 0 = eqb-true x 0 zero_is in
      ap (λ l. entries_from f l low n (lines_of (others ++ rest))) (ap (λ l. done ++ l) (zeros_next (length xs)) ∙ ap (λ k. done ++ k ∷ zeros (length xs)) (sym e) ∙ sym (append_assoc done (x ∷ []) (zeros (length xs))))
      ∙ entries_walk xs (done ++ x ∷ []) p low n rest here left rest_small (omega (arith, behind_low)) ahead
      ∙ ap (λ l. Ok (l, record { next = n + newlines others; lines = lines_of rest })) (append_assoc done (x ∷ []) xs))
      (λ some_is.
      let some : 0 < x = positive_by x some_is in
      let fits = All-head (λ x. x < 2 ^ f.width) x xs small in
      let inside : place < product (key_sizes f.keys) = omega (arith, within) in
      let indices = tuple_at (key_sizes f.keys) place in
      let numbers = tuple_numbers f.keys f.width place low x sort.wide inside sort.small behind_low some fits in
      let text = entry_line [] f.name indices x in
      let says = front_says f.name f.keys named indices (tuple_long f.keys place) numbers x (narrow_number f.width x sort.wide fits) in
      let count : (n + 1) + newlines others ≡ n + newlines (text ++ others) = omega (arith, newlines_append text others, says_one says) in
      let behind_lines = lines_of (others ++ rest) in
      let old = done ++ zeros (suc (length xs)) in
      let next = λ (e : ℕ × ℕ). entries_from f (slice_set old e.0 e.1) (e.0 + 1) (n + 1) behind_lines in
      ap (λ t. entries_from f old low n (lines_of t)) (append_assoc text others rest)
      ∙ ap (entries_from f old low n) (says_first says (others ++ rest))
      ∙ ap (λ o. while_front o (Ok (old, record { next = n; lines = says.line ∷ behind_lines })) (λ rest. at_entry n (entry_at low f.keys f.width rest) next)) says.answers
      ∙ ap (λ r. at_entry n r next) (entry_read f.keys f.width place low x sort.wide inside sort.small behind_low some fits)
      ∙ ap (λ l. entries_from f l p (n + 1) behind_lines) (ap (λ l. slice_set (done ++ l) place x) (zeros_next (length xs)) ∙ set_at done 0 x (zeros (length xs)) place is ∙ sym (append_assoc done (x ∷ []) (zeros (length xs))))
      ∙ entries_walk xs (done ++ x ∷ []) p p (n + 1) rest here left rest_small (omega arith) ahead
      ∙ ap (λ l. Ok (l, record { next = (n + 1) + newlines others; lines = lines_of rest })) (append_assoc done (x ∷ []) xs)
      ∙ ap (λ k. Ok (done ++ x ∷ xs, record { next = k; lines = lines_of rest })) count)
    where
      longer : (done : List ℕ) (x : ℕ) → length (done ++ x ∷ []) ≡ length done + 1
      longer [] x = refl
      longer (d ∷ done) x = let e = longer done x in omega (arith, e)
