use Rattle.std.proofs.Common.{◌≡◌, ◌%◌, ◌^◌, map}
use Rattle.std.specs.List.{range_with_len}
use Rattle.hk_term.specs.Tables.{entry_at}
use Rattle.hk_oblig.proofs.numbers.entries.Given as goal

abbrev pub invariant-each : goal.invariant-each
invariant-each l = l.numbers.items ≡ map (λ k. entry_at l.arrays l.array k % 2 ^ l.width) (range_with_len 0 l.k)
