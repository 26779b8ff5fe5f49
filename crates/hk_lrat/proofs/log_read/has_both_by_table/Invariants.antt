use Rattle.std.proofs.Common.{◌≡◌, ℤ, false, take}
use Rattle.std.specs.List.{list_any}
use Rattle.std.specs.Ordering.{int_eq}
use Rattle.hk_cnf.specs.Literal.{has}
use Rattle.hk_lrat.specs.Log.{has_both}
use Rattle.hk_lrat.proofs.log_read.has_both_by_table.Given as goal

abbrev pub invariant-loop-lit : goal.invariant-loop-lit
invariant-loop-lit l =
    ((k : ℤ) → list_any (int_eq k) l.seen.keys ≡ has (take l.lit-index l.clause) k)
    × (has_both (take l.lit-index l.clause) ≡ false)
