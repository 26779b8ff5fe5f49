use Rattle.std.proofs.Common.{◌≡◌, ◌++◌, take, length, map}
use Rattle.std.specs.List.{flat_map, zip}
use Rattle.ir_ast.specs.ProgramView.{view_module}
use Rattle.spec_tree.specs.View.{view_spec, view_transition}
use Rattle.hk_cert_text.specs.Certificate.{entry_of, entry_text}
use Rattle.hk_cert_text.proofs.write.add_all.Given as goal

abbrev pub invariant-loop-transition : goal.invariant-loop-transition
invariant-loop-transition l =
    l.out.bytes.items ≡ l.initial.out.bytes.items
    ++ flat_map (λ e. entry_text (view_module l.kernel) (view_spec l.spec) e.0 (entry_of e.1)) (take (length l.yielded) (zip (map view_transition l.spec.transitions) l.verdicts))
