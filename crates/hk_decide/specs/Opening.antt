-- The opening of a kernel and a specification.
use Rattle.std.specs.Prelude.{◌≡◌}
use Rattle.ir_ast.specs.Program.{ModuleView}
use Rattle.ir_layout.specs.Initial.{initial_memory}
use Rattle.spec_tree.specs.Plain.{Spec}
use Rattle.spec_tree.specs.Meaning.{opening, fails_invariant, fails_property, opens}
use Rattle.hk_verdict.specs.declared.verdict.InitVerdict.{InitVerdict}
use Rattle.hk_verdict.specs.declared.verdict.InitVerdict.TheVariants.{NotRun, Holds, FailsInvariant, FailsProperty}

-- the first invariant that is false in the initial memory, else the first property that is false in its abstraction, else it holds
abbrev pub IsOpening : ModuleView → Spec → InitVerdict → Type 0
IsOpening m s NotRun = ⊥
IsOpening m s Holds = opening s (initial_memory m) ≡ opens
IsOpening m s (FailsInvariant i) = opening s (initial_memory m) ≡ fails_invariant i
IsOpening m s (FailsProperty p) = opening s (initial_memory m) ≡ fails_property p
