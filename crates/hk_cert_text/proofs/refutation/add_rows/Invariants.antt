use Rattle.std.proofs.Common.{◌≡◌, ◌++◌, take}
use Rattle.std.specs.List.{flat_map}
use Rattle.hk_cert_text.specs.Rows.{row_line}
use Rattle.hk_cert_text.proofs.refutation.add_rows.Given as goal

abbrev pub invariant-loop-row : goal.invariant-loop-row
invariant-loop-row l = l.out.bytes.items ≡ l.initial.out.bytes.items ++ flat_map row_line (take l.row-index l.rows)
