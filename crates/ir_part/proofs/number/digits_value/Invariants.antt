use Rattle.std.proofs.Common.{◌≡◌, ◌≤◌, ◌^◌, min, drop}
use Rattle.ir_lex.specs.Decimal.{digits_from}
use Rattle.ir_part.proofs.number.digits_value.Given as goal

abbrev pub invariant-loop-digit : goal.invariant-loop-digit
invariant-loop-digit l = record { small : l.number ≤ 2 ^ 64; same : min (2 ^ 64) (digits_from l.number (drop l.digit-index l.digits)) ≡ min (2 ^ 64) (digits_from 0 l.digits) }
