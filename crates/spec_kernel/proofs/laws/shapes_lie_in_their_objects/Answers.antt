use Rattle.std.proofs.lemmas.List.Elements.{All-map}
use Rattle.std.proofs.Common.{get_or}
use Rattle.ir_type.specs.Whole.{meant}
use Rattle.spec_names.specs.Kernel as plain
use Rattle.spec_names.specs.Room.{HasLeaves, Lies}
use Rattle.spec_kernel.specs.View.{global_of}
use Rattle.spec_kernel.proofs.ShapeLaws.{leaves, lies}
use Rattle.spec_kernel.proofs.laws.shapes_lie_in_their_objects.Goals as goal

pub returns-clause-leaves : goal.returns-clause-leaves
returns-clause-leaves c =
    λ m. All-map (λ (g : plain.Global). HasLeaves g.shape) (global_of m.types) m.globals (λ k d l. leaves (meant m.types (get_or m.globals k d).1.over))

pub returns-clause-lies : goal.returns-clause-lies
returns-clause-lies c =
    λ m. All-map (λ (g : plain.Global). Lies g.shape g.size) (global_of m.types) m.globals (λ k d l. lies (meant m.types (get_or m.globals k d).1.over))
