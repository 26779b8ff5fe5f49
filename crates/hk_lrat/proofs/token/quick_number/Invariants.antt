use Rattle.std.proofs.Common.{◌≡◌, ◌-◌, ◌≤◌, ◌^◌, true, length, take}
use Rattle.std.specs.Str.{all_ascii_digits}
use Rattle.std.specs.Str.Parse.{digits_value}
use Rattle.hk_lrat.proofs.token.quick_number.Given as goal

abbrev pub invariant-loop-read : goal.invariant-loop-read
invariant-loop-read l =
    (l.read ≤ length l.line)
    × (all_ascii_digits (take l.read l.line) ≡ true)
    × (l.value ≡ digits_value 10 (take l.read l.line))
    × (l.value ≤ 2 ^ 63 - 1)

abbrev pub decreases-loop-read : goal.decreases-loop-read
decreases-loop-read l = length l.line - l.read
