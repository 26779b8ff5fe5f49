use Rattle.std.proofs.Common.{◌++◌, ◌∙◌, sym, ap}
use Rattle.std.specs.Prelude.{flat_map}
use Rattle.ir_ast.specs.Plain.{Indices}
use Rattle.ir_ast.specs.Table.{names_of}
use Rattle.ir_ast.specs.View.{view_indices}
use Rattle.ir_type.specs.Names.{local_name, index_leaves_of}
use Rattle.ir_check.specs.Graphs.{places_among}
use Rattle.ir_check.proofs.IndexViews.{indices_are}
use Rattle.ir_check.proofs.used.+locals.Goals as goal

pub add_indices-each-init : goal.add_indices-each-init
add_indices-each-init t c =
    ap (λ (is : Indices). c.args.places.now.items ++ places_among (names_of c.args.sites.now) (flat_map local_name (index_leaves_of is)))
    (ap view_indices c.as_slice-items.ensures.value ∙ sym (indices_are c.args.indices.now))
