use Rattle.std.proofs.Common.{◌≡◌, ◌++◌, take}
use Rattle.std.specs.List.{flat_map}
use Rattle.hk_cert_text.specs.Rows.{id_text}
use Rattle.hk_cert_text.proofs.refutation.add_ids.Given as goal

abbrev pub invariant-loop-id : goal.invariant-loop-id
invariant-loop-id l = l.out.bytes.items ≡ l.initial.out.bytes.items ++ flat_map id_text (take l.id-index l.ids)
