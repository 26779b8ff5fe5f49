-- What the reader of logs answers to lines none of which it skips.
use Rattle.std.specs.Prelude.{◌≡◌, ℕ, ◌-◌, List, Result, Ok, Err}
use Rattle.hk_lrat.specs.declared.log.LratRow.{LratRow}
use Rattle.hk_lrat.specs.Log.{Fault}
use Rattle.hk_cert_log.specs.declared.rows.LogStop.{LogStop}
use Rattle.hk_cert_log.specs.declared.rows.LogStop.TheVariants.{NoRow, Memory}

-- so many rows stand before the one that fails
abbrev pub FailsBehind : ℕ → Result (List LratRow) Fault → Type 0
FailsBehind n (Ok log) = ⊥
FailsBehind n (Err fault) = n ≡ fault.0 - 1

abbrev pub IsRead : Result (List LratRow) LogStop → Result (List LratRow) Fault → Type 0
IsRead (Ok log) answer = answer ≡ Ok log
IsRead (Err (NoRow n)) answer = FailsBehind n answer
IsRead (Err Memory) answer = Unit {0}
