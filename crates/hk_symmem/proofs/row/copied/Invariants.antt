use Rattle.std.proofs.Common.{◌≡◌, take}
use Rattle.std.specs.Prelude.{map}
use Rattle.hk_symmem.proofs.row.copied.Given as goal

abbrev pub invariant-loop-row : goal.invariant-loop-row
invariant-loop-row l = record {
  sizes : map (λ r. r.size) l.copies.items ≡ take l.row-index (map (λ r. r.size) l.rows);
  writes : map (λ r. r.writes.items) l.copies.items ≡ take l.row-index (map (λ r. r.writes.items) l.rows);
}
