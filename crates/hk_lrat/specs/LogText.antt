-- The text of a log: LRAT, a row a line.
use Rattle.std.specs.Prelude.{◌≡◌, ℕ, zero, suc, ◌+◌, ◌-◌, ◌^◌, Bool, false, ◌||◌, nat_eq, if◌then◌else◌, List, [], ◌∷◌, ◌++◌, map, ℤ, pos, negsuc, nat_abs, Option, Some, None, Result, Ok, Err}
use Rattle.std.specs.List.{list_any}
use Rattle.std.specs.Cmp.Lexicographic.{pointwise}
use Rattle.hk_cnf.specs.Literal.{is_negation}
use Rattle.hk_cnf.specs.Text.{lines_of, words_of, natural_of, number_in}
use Rattle.hk_cnf.specs.Dimacs.{is_comment, is_nil}
use Rattle.hk_lrat.specs.declared.log.LratRow.{LratRow}
use Rattle.hk_lrat.specs.declared.log.LratRow.TheVariants.{Add, Delete}
use Rattle.hk_lrat.specs.declared.log.RowReason.{RowReason}
use Rattle.hk_lrat.specs.declared.log.RowReason.TheVariants.{L1, L6}
use Rattle.hk_lrat.specs.declared.log.RefuteStop.{RefuteStop}
use Rattle.hk_lrat.specs.declared.log.RefuteStop.TheVariants.{Row, Memory}
use Rattle.hk_lrat.specs.declared.log_read.RowStop.{RowStop}
use Rattle.hk_lrat.specs.declared.log_read.RowStop.TheVariants.{Reason, Memory as RowMemory}
use Rattle.hk_lrat.specs.Log.{has_both, Fault}

-- lines that begin with `c` and lines of blanks alone are no rows
abbrev pub is_skipped : List ℕ → Bool
is_skipped line = is_comment line || is_nil (words_of false line)

-- ids and hints are below 2^63, and literals are not zero
abbrev pub id_of : List ℕ → Option ℕ
id_of word = natural_of (2 ^ 63 - 1) word

abbrev pub hint_in : List ℕ → Option ℤ
hint_in word = number_in (2 ^ 63 - 1) word

abbrev pub nonzero : Option ℤ → Option ℤ
nonzero None = None
nonzero (Some (pos zero)) = None
nonzero (Some (pos (suc n))) = Some (pos (suc n))
nonzero (Some (negsuc n)) = Some (negsuc n)

abbrev pub literal_in : List ℕ → Option ℤ
literal_in word = nonzero (number_in (2 ^ 63 - 1) word)

-- the token that ends a part, and the one that tells a deletion
abbrev pub is_end : List ℕ → Bool
is_end word = pointwise nat_eq word (48 ∷ [])

abbrev pub is_deletion : List ℕ → Bool
is_deletion word = pointwise nat_eq word (100 ∷ [])

abbrev pub with_item : {A : Type 0} → Option A → Option (List A × List (List ℕ)) → Option (List A × List (List ℕ))
with_item (Some x) (Some p) = Some (x ∷ p.0, p.1)
with_item x p = None

-- what the words up to the token `0` spell, and the words behind it
abbrev pub part : {A : Type 0} → (List ℕ → Option A) → List (List ℕ) → Option (List A × List (List ℕ))
part item [] = None
part item (w ∷ ws) = if is_end w then Some ([], ws) else with_item (item w) (part item ws)

-- the row of a line: not spelled is L1, and so is a literal together with its negation; a negative hint is L6
abbrev pub deletion_of : Option (List ℕ × List (List ℕ)) → Result LratRow RowReason
deletion_of (Some (ids, [])) = Ok (Delete ids)
deletion_of p = Err L1

abbrev pub hints_of : ℕ → List ℤ → Option (List ℤ × List (List ℕ)) → Result LratRow RowReason
hints_of id c (Some (hints, [])) =
    if has_both c then Err L1 else (if list_any is_negation hints then Err L6 else Ok (Add id c (map nat_abs hints)))
hints_of id c p = Err L1

abbrev pub addition_of : ℕ → Option (List ℤ × List (List ℕ)) → Result LratRow RowReason
addition_of id (Some (c, words)) = hints_of id c (part hint_in words)
addition_of id None = Err L1

abbrev pub with_id : Option ℕ → List (List ℕ) → Result LratRow RowReason
with_id None words = Err L1
with_id (Some id) [] = Err L1
with_id (Some id) (w ∷ ws) = if is_deletion w then deletion_of (part id_of ws) else addition_of id (part literal_in (w ∷ ws))

abbrev pub row_of : List (List ℕ) → Result LratRow RowReason
row_of [] = Err L1
row_of (id ∷ words) = with_id (id_of id) words

abbrev pub at_row : ℕ → Result LratRow RowReason → (LratRow → Result (List LratRow) Fault) → Result (List LratRow) Fault
at_row n (Ok row) next = next row
at_row n (Err reason) next = Err (n, reason)

-- the rows of the lines, after these rows
abbrev pub rows_from : ℕ → List LratRow → List (List ℕ) → Result (List LratRow) Fault
rows_from n rows [] = Ok rows
rows_from n rows (line ∷ lines) =
    if is_skipped line then rows_from n rows lines
    else at_row (n + 1) (row_of (words_of false line)) (λ row. rows_from (n + 1) (rows ++ row ∷ []) lines)

-- the log that the text spells, or the first row that fails with its reason
abbrev pub log_of : List ℕ → Result (List LratRow) Fault
log_of text = rows_from 0 [] (lines_of text)

-- the answer is that of the definition, or want of memory
abbrev pub Reads : Result (List LratRow) RefuteStop → Result (List LratRow) Fault → Type 0
Reads (Ok log) answer = answer ≡ Ok log
Reads (Err (Row n reason)) answer = answer ≡ Err (n, reason)
Reads (Err Memory) answer = Unit {0}

-- the same of a line
abbrev pub StopsWith : {A : Type 0} → RowStop → Result A RowReason → Type 0
StopsWith (Reason reason) answer = answer ≡ Err reason
StopsWith RowMemory answer = Unit {0}

-- a part was read: what was there before, and then its items
abbrev pub IsPart : {A : Type 0} → RowStop → Option (List A × List (List ℕ)) → Type 0
IsPart (Reason reason) p = (reason ≡ L1) × (p ≡ None)
IsPart RowMemory p = Unit {0}

abbrev pub after_items : {A : Type 0} → List A → Option (List A × List (List ℕ)) → Option (List A × List (List ℕ))
after_items xs None = None
after_items xs (Some p) = Some (xs ++ p.0, p.1)

abbrev pub stop_at : ℕ → RowStop → RefuteStop
stop_at n (Reason reason) = Row n reason
stop_at n RowMemory = Memory
