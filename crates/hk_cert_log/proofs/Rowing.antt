-- Lines none of which is skipped, read as rows: by the reader of logs, and one for one.
use Rattle.std.proofs.Common.{◌≡◌, ◌<◌, ◌≤◌, ℕ, zero, suc, ◌+◌, ◌-◌, Bool, true, false, not, ◌||◌, cond, eqb, List, [], ◌∷◌, ◌++◌, length, take, drop, Result, Ok, Err, refl, sym, ◌∙◌, ap, subst, arith}
use Rattle.std.proofs.lemmas.Bool.{and_parts, false≢true, eqb-true}
use Rattle.std.specs.List.{list_all}
use Rattle.hk_cnf.specs.Text.{with_first, is_blank, lines_of, words_of}
use Rattle.hk_cnf.specs.Dimacs.{is_nil}
use Rattle.hk_lrat.specs.declared.log.LratRow.{LratRow}
use Rattle.hk_lrat.specs.declared.log.RowReason.{RowReason}
use Rattle.hk_lrat.specs.declared.log.RowReason.TheVariants.{L1}
use Rattle.hk_lrat.specs.Log.{Fault}
use Rattle.hk_lrat.specs.LogText as log
use Rattle.hk_lrat.specs.LogText.{is_skipped, row_of, log_of}
use Rattle.hk_cert_log.specs.declared.rows.LogStop.{LogStop}
use Rattle.hk_cert_log.specs.declared.rows.LogStop.TheVariants.{NoRow, Memory}
use Rattle.hk_cert_log.specs.Rows.{Reads, at_row, rows_from}
use Rattle.hk_cert_log.specs.Logs.{FailsBehind, IsRead}
use Rattle.hk_cert_log.specs.Extents.{IsOver, IsExtent}

-- ---- lines that are skipped are no rows

record IsNoRow (words : List (List ℕ)) : Type 0 where
  reason : RowReason
  is : row_of words ≡ Err reason

comment-words : (words : List (List ℕ)) → IsNoRow (with_first 99 words)
comment-words [] = record { reason = L1; is = refl }
comment-words (word ∷ words) = record { reason = L1; is = refl }

comment-line : (line : List ℕ) → IsNoRow (words_of false (99 ∷ line))
comment-line [] = record { reason = L1; is = refl }
comment-line (b ∷ line) = pick (is_blank false b)
  where
    pick : (s : Bool) → IsNoRow (cond s ((99 ∷ []) ∷ words_of false (b ∷ line)) (with_first 99 (words_of false (b ∷ line))))
    pick true = record { reason = L1; is = refl }
    pick false = comment-words (words_of false (b ∷ line))

words-none : (words : List (List ℕ)) → is_nil words ≡ true → IsNoRow words
words-none [] h = record { reason = L1; is = refl }
words-none (word ∷ words) h =
    let wrong : false ≡ true = h in
    absurd (false≢true wrong)

skipped-row : (line : List ℕ) → is_skipped line ≡ true → IsNoRow (words_of false line)
skipped-row [] h = record { reason = L1; is = refl }
skipped-row (b ∷ line) h = pick (eqb b 99) refl h
  where
    pick : (s : Bool) → eqb b 99 ≡ s → s || is_nil (words_of false (b ∷ line)) ≡ true → IsNoRow (words_of false (b ∷ line))
    pick true e h = subst (λ b. IsNoRow (words_of false (b ∷ line))) (sym (eqb-true b 99 e)) (comment-line line)
    pick false e h = words-none (words_of false (b ∷ line)) h

-- ---- as many rows as lines

abbrev none_skipped : List (List ℕ) → Bool
none_skipped lines = list_all (λ line. not (is_skipped line)) lines

not-true : (s : Bool) → not s ≡ true → s ≡ false
not-true true h = absurd (false≢true h)
not-true false h = refl

-- the first line of these, for the reader of logs
log-step : (n : ℕ) (rows : List LratRow) (line : List ℕ) (lines : List (List ℕ)) → is_skipped line ≡ false
    → log.rows_from n rows (line ∷ lines) ≡ log.at_row (n + 1) (row_of (words_of false line)) (λ row. log.rows_from (n + 1) (rows ++ row ∷ []) lines)
log-step n rows line lines kept =
    ap (λ s. cond s (log.rows_from n rows lines) (log.at_row (n + 1) (row_of (words_of false line)) (λ row. log.rows_from (n + 1) (rows ++ row ∷ []) lines))) kept

-- the log of so many lines, and what is due behind them
pub rows-found : (lines more : List (List ℕ)) (due left n : ℕ) (rows found : List LratRow) → none_skipped lines ≡ true → due ≡ length lines + left
    → log.rows_from n rows lines ≡ Ok found → rows_from due rows n (lines ++ more) ≡ rows_from left found (n + length lines) more
rows-found [] more due left n rows found kept is e =
    let same : rows ≡ found = ok-same rows found e in
    let number : n + 0 ≡ n = omega arith in
    let count : due ≡ left = omega (arith, is) in
    rw (count, number, same) refl
  where
    ok-same : (a b : List LratRow) → ◌≡◌ {A = Result (List LratRow) Fault} (Ok a) (Ok b) → a ≡ b
    ok-same a b h = cc
rows-found (line ∷ lines) more zero left n rows found kept is e = absurd (omega (arith, is))
rows-found (line ∷ lines) more (suc due) left n rows found kept is e =
    let parts = and_parts (not (is_skipped line)) (none_skipped lines) kept in
    let count : due ≡ length lines + left = omega (arith, is) in
    go (row_of (words_of false line)) (λ row read. rows-found lines more due left (n + 1) (rows ++ row ∷ []) found parts.1 count read)
    (sym (log-step n rows line lines (not-true (is_skipped line) parts.0)) ∙ e)
  where
    go : (r : Result LratRow RowReason)
        → ((row : LratRow) → log.rows_from (n + 1) (rows ++ row ∷ []) lines ≡ Ok found → rows_from due (rows ++ row ∷ []) (n + 1) (lines ++ more) ≡ rows_from left found (n + 1 + length lines) more)
        → log.at_row (n + 1) r (λ row. log.rows_from (n + 1) (rows ++ row ∷ []) lines) ≡ Ok found
        → at_row n r (λ row. rows_from due (rows ++ row ∷ []) (n + 1) (lines ++ more)) ≡ rows_from left found (n + length (line ∷ lines)) more
    go (Ok row) next e = next row e ∙ ap (λ k. rows_from left found k more) (omega arith)
    go (Err reason) next e =
        let wrong : ◌≡◌ {A = Result (List LratRow) Fault} (Err (n + 1, reason)) (Ok found) = e in
        absurd (err-ok (n + 1, reason) found wrong)
      where
        err-ok : (f : Fault) (a : List LratRow) → ◌≡◌ {A = Result (List LratRow) Fault} (Err f) (Ok a) → ⊥
        err-ok f a h = cc

-- the first of them that is no row
pub rows-failed : (lines more : List (List ℕ)) (due n : ℕ) (rows : List LratRow) (f : Fault) → none_skipped lines ≡ true → length lines ≤ due
    → log.rows_from n rows lines ≡ Err f → rows_from due rows n (lines ++ more) ≡ Err (f.0 - 1)
rows-failed [] more due n rows f kept few e =
    let wrong : ◌≡◌ {A = Result (List LratRow) Fault} (Ok rows) (Err f) = e in
    absurd (ok-err rows f wrong)
  where
    ok-err : (a : List LratRow) (f : Fault) → ◌≡◌ {A = Result (List LratRow) Fault} (Ok a) (Err f) → ⊥
    ok-err a f h = cc
rows-failed (line ∷ lines) more zero n rows f kept few e = absurd (omega (arith, few))
rows-failed (line ∷ lines) more (suc due) n rows f kept few e =
    let parts = and_parts (not (is_skipped line)) (none_skipped lines) kept in
    let count : length lines ≤ due = omega (arith, few) in
    go (row_of (words_of false line)) (λ row read. rows-failed lines more due (n + 1) (rows ++ row ∷ []) f parts.1 count read)
    (sym (log-step n rows line lines (not-true (is_skipped line) parts.0)) ∙ e)
  where
    go : (r : Result LratRow RowReason)
        → ((row : LratRow) → log.rows_from (n + 1) (rows ++ row ∷ []) lines ≡ Err f → rows_from due (rows ++ row ∷ []) (n + 1) (lines ++ more) ≡ Err (f.0 - 1))
        → log.at_row (n + 1) r (λ row. log.rows_from (n + 1) (rows ++ row ∷ []) lines) ≡ Err f
        → at_row n r (λ row. rows_from due (rows ++ row ∷ []) (n + 1) (lines ++ more)) ≡ Err (f.0 - 1)
    go (Ok row) next e = next row e
    go (Err reason) next e =
        let same : (n + 1, reason) ≡ f = err-same (n + 1, reason) f e in
        let number : n + 1 ≡ f.0 = ap (λ f. f.0) same in
        ap Err (omega (arith, number))
      where
        err-same : (f g : Fault) → ◌≡◌ {A = Result (List LratRow) Fault} (Err f) (Err g) → f ≡ g
        err-same f g h = cc

-- no more lines, or one that is skipped, where a row is due
pub rows-over : (lines : List (List ℕ)) (left n : ℕ) (rows : List LratRow) → 0 < left → IsOver lines → rows_from left rows n lines ≡ Err n
rows-over lines zero n rows some over = absurd (omega (arith, some))
rows-over [] (suc left) n rows some over = refl
rows-over (line ∷ lines) (suc left) n rows some over =
    let none = skipped-row line over in
    ap (λ r. at_row n r (λ row. rows_from left (rows ++ row ∷ []) (n + 1) lines)) none.is

-- ---- what is read of an extent

pub extent-all : (due : ℕ) (text front rest : List ℕ) (rows end : ℕ) (found : List LratRow) → IsExtent due text rows end → due ≤ rows → front ≡ take end text → rest ≡ drop end text
    → log_of front ≡ Ok found → rows_from due [] 0 (lines_of text) ≡ Ok (found, lines_of rest)
extent-all due text front rest rows end found e full f r read =
    let lines = e.lines in
    let count : due ≡ length (lines_of (take end text)) + 0 = omega (arith, lines.count, e.few, full) in
    ap (rows_from due [] 0) lines.parts
    ∙ (rows-found (lines_of (take end text)) (lines_of (drop end text)) due 0 0 [] found lines.kept count (ap log_of (sym f) ∙ read)
    ∙ ap (λ t. Ok (found, lines_of t)) (sym r))

pub extent-few : (due : ℕ) (text front : List ℕ) (rows end : ℕ) (found : List LratRow) → IsExtent due text rows end → rows < due → front ≡ take end text
    → log_of front ≡ Ok found → rows_from due [] 0 (lines_of text) ≡ Err rows
extent-few due text front rows end found e few f read =
    let lines = e.lines in
    let count : due ≡ length (lines_of (take end text)) + (due - rows) = omega (arith, lines.count, few) in
    ap (rows_from due [] 0) lines.parts
    ∙ (rows-found (lines_of (take end text)) (lines_of (drop end text)) due (due - rows) 0 [] found lines.kept count (ap log_of (sym f) ∙ read)
    ∙ (rows-over (lines_of (drop end text)) (due - rows) (0 + length (lines_of (take end text))) found (omega (arith, few)) (e.over few)
    ∙ ap Err (omega (arith, lines.count))))

pub extent-failed : (due : ℕ) (text front : List ℕ) (rows end : ℕ) (f : Fault) → IsExtent due text rows end → front ≡ take end text
    → log_of front ≡ Err f → rows_from due [] 0 (lines_of text) ≡ Err (f.0 - 1)
extent-failed due text front rows end fault e f read =
    let lines = e.lines in
    ap (rows_from due [] 0) lines.parts
    ∙ rows-failed (lines_of (take end text)) (lines_of (drop end text)) due 0 [] fault lines.kept (omega (arith, lines.count, e.few)) (ap log_of (sym f) ∙ read)

pub extent-stopped : {A : Type 0} (view : A → List LratRow × List (List ℕ)) (stop : LogStop) (due : ℕ) (text front : List ℕ) (rows end : ℕ) → IsExtent due text rows end → front ≡ take end text
    → IsRead (Err stop) (log_of front) → Reads view (Err stop) (rows_from due [] 0 (lines_of text))
extent-stopped view (NoRow n) due text front rows end e f read = pick (log_of front) refl read
  where
    pick : (r : Result (List LratRow) Fault) → log_of front ≡ r → FailsBehind n r → rows_from due [] 0 (lines_of text) ≡ Err n
    pick (Ok log) is h = absurd h
    pick (Err fault) is h = extent-failed due text front rows end fault e f is ∙ ap Err (sym h)
extent-stopped view Memory due text front rows end e f read = tt
