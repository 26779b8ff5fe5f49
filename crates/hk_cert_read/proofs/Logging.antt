-- The rows of a log behind the lines of a text: numbered from its first line, and from the log's own.
use Rattle.std.proofs.Common.{◌≡◌, ℕ, zero, suc, ◌+◌, false, List, [], ◌∷◌, ◌++◌, Result, Ok, Err, refl, sym, ◌∙◌, ap, arith}
use Rattle.hk_cnf.specs.Text.{words_of}
use Rattle.hk_lrat.specs.declared.log.LratRow.{LratRow}
use Rattle.hk_lrat.specs.declared.log.RowReason.{RowReason}
use Rattle.hk_lrat.specs.LogText.{row_of}
use Rattle.hk_cert_lines.specs.declared.reason.CertReason.TheVariants.{Q1}
use Rattle.hk_cert_log.specs.Rows as rows
use Rattle.hk_cert.specs.Steps.{Reading, fault}
use Rattle.hk_cert.specs.Reading.{at_log_row, log_from}
use Rattle.hk_cert.proofs.Taking.{place}

abbrev placed : ℕ → ℕ → rows.Reading → Reading (List LratRow)
placed n count (Ok p) = Ok (p.0, place (n + count) p.1)
placed n count (Err k) = Err (fault (n + k) Q1)

log_rows : (count : ℕ) (log : List LratRow) (n k : ℕ) (lines : List (List ℕ)) → log_from count log (n + k) lines ≡ placed n (k + count) (rows.rows_from count log k lines)
log_rows zero log n k lines =
    let same : n + k ≡ n + (k + 0) = omega arith in
    ap (λ j. Ok (log, place j lines)) same
log_rows (suc count) log n k [] = refl
log_rows (suc count) log n k (line ∷ lines) = go (row_of (words_of false line)) (λ row. log_rows count (log ++ row ∷ []) n (k + 1) lines)
  where
    go : (r : Result LratRow RowReason)
        → ((row : LratRow) → log_from count (log ++ row ∷ []) (n + (k + 1)) lines ≡ placed n (k + 1 + count) (rows.rows_from count (log ++ row ∷ []) (k + 1) lines))
        → at_log_row (n + k) r (λ row. log_from count (log ++ row ∷ []) (n + k + 1) lines) ≡ placed n (k + suc count) (rows.at_row k r (λ row. rows.rows_from count (log ++ row ∷ []) (k + 1) lines))
    go (Ok row) next =
        let first : n + k + 1 ≡ n + (k + 1) = omega arith in
        let last : k + 1 + count ≡ k + suc count = omega arith in
        ap (λ j. log_from count (log ++ row ∷ []) j lines) first ∙ (next row ∙ ap (λ j. placed n j (rows.rows_from count (log ++ row ∷ []) (k + 1) lines)) last)
    go (Err reason) next = refl

from_first : (count n : ℕ) (lines : List (List ℕ)) → log_from count [] n lines ≡ placed n count (rows.rows_from count [] 0 lines)
from_first count n lines =
    let first : n ≡ n + 0 = omega arith in
    let last : 0 + count ≡ count = omega arith in
    ap (λ j. log_from count [] j lines) first ∙ (log_rows count [] n 0 lines ∙ ap (λ j. placed n j (rows.rows_from count [] 0 lines)) last)

pub log_found : (count n next : ℕ) (lines rest : List (List ℕ)) (log : List LratRow) → next ≡ n + count → rows.rows_from count [] 0 lines ≡ Ok (log, rest)
    → log_from count [] n lines ≡ Ok (log, place next rest)
log_found count n next lines rest log is read =
    from_first count n lines ∙ (ap (placed n count) read ∙ ap (λ j. Ok (log, place j rest)) (sym is))

pub log_failed : (count n next k : ℕ) (lines : List (List ℕ)) → next ≡ n + k → rows.rows_from count [] 0 lines ≡ Err k
    → log_from count [] n lines ≡ Err (fault next Q1)
log_failed count n next k lines is read =
    from_first count n lines ∙ (ap (placed n count) read ∙ ap (λ j. Err (fault j Q1)) (sym is))
