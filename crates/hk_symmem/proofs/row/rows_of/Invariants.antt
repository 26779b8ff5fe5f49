use Rattle.std.proofs.Common.{◌≡◌, [], take}
use Rattle.std.specs.Prelude.{map, replicate}
use Rattle.hk_symmem.proofs.row.rows_of.Given as goal

abbrev pub invariant-loop-object : goal.invariant-loop-object
invariant-loop-object l = record {
  sizes : map (λ r. r.size) l.rows.items ≡ take l.object (map (λ o. o.size) l.layout.objects);
  writes : map (λ r. r.writes.items) l.rows.items ≡ replicate l.object [];
}
