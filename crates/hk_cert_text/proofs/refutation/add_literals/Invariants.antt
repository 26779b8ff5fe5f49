use Rattle.std.proofs.Common.{◌≡◌, ◌++◌, take}
use Rattle.std.specs.List.{flat_map}
use Rattle.hk_cnf.specs.DimacsText.{literal_text}
use Rattle.hk_cert_text.proofs.refutation.add_literals.Given as goal

abbrev pub invariant-loop-literal : goal.invariant-loop-literal
invariant-loop-literal l = l.out.bytes.items ≡ l.initial.out.bytes.items ++ flat_map literal_text (take l.literal-index l.literals)
