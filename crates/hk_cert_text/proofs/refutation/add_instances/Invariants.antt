use Rattle.std.proofs.Common.{◌≡◌, ◌++◌, take}
use Rattle.std.specs.List.{flat_map}
use Rattle.hk_cert_text.specs.Rows.{instance_line}
use Rattle.hk_cert_text.proofs.refutation.add_instances.Given as goal

abbrev pub invariant-loop-instance : goal.invariant-loop-instance
invariant-loop-instance l = l.out.bytes.items ≡ l.initial.out.bytes.items ++ flat_map instance_line (take l.instance-index l.instances)
