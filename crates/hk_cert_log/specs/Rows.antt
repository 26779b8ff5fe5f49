-- So many rows of a log, a line each: LRAT (Cruz-Filipe et al. 2017).
use Rattle.std.specs.Prelude.{◌≡◌, ℕ, zero, suc, ◌+◌, false, List, [], ◌∷◌, ◌++◌, Result, Ok, Err}
use Rattle.hk_cnf.specs.Text.{words_of}
use Rattle.hk_lrat.specs.declared.log.LratRow.{LratRow}
use Rattle.hk_lrat.specs.declared.log.RowReason.{RowReason}
use Rattle.hk_lrat.specs.LogText.{row_of}
use Rattle.hk_cert_log.specs.declared.rows.LogStop.{LogStop}
use Rattle.hk_cert_log.specs.declared.rows.LogStop.TheVariants.{NoRow, Memory}

-- rows and the lines behind them, or how many lines stand before the first that is no row
abbrev pub Reading : Type 0
Reading = Result (List LratRow × List (List ℕ)) ℕ

-- what follows a line that n lines stand before
abbrev pub at_row : ℕ → Result LratRow RowReason → (LratRow → Reading) → Reading
at_row n (Ok row) next = next row
at_row n (Err reason) next = Err n

-- so many rows behind these rows and n lines: each line is a row, and none of them is skipped
abbrev pub rows_from : ℕ → List LratRow → ℕ → List (List ℕ) → Reading
rows_from zero rows n lines = Ok (rows, lines)
rows_from (suc count) rows n [] = Err n
rows_from (suc count) rows n (line ∷ lines) = at_row n (row_of (words_of false line)) (λ row. rows_from count (rows ++ row ∷ []) (n + 1) lines)

-- the answer is that of the definition, or want of memory
abbrev pub Reads : {A : Type 0} → (A → List LratRow × List (List ℕ)) → Result A LogStop → Reading → Type 0
Reads view (Ok x) reading = reading ≡ Ok (view x)
Reads view (Err (NoRow n)) reading = reading ≡ Err n
Reads view (Err Memory) reading = Unit {0}
