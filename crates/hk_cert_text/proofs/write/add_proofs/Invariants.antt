use Rattle.std.proofs.Common.{◌≡◌, ◌++◌, take, length}
use Rattle.std.specs.List.{flat_map, zip}
use Rattle.spec_tree.specs.View.{view_spec}
use Rattle.hk_cert_text.specs.Certificate.{proved_text}
use Rattle.hk_cert_text.proofs.write.add_proofs.Given as goal

abbrev pub invariant-loop-obligation : goal.invariant-loop-obligation
invariant-loop-obligation l =
    l.out.bytes.items ≡ l.initial.out.bytes.items ++ flat_map (λ e. proved_text (view_spec l.spec) e.0 e.1) (take (length l.yielded) (zip l.obligations l.proofs))
