use Rattle.std.proofs.Common.{◌≡◌, ◌∙◌, sym, subst, ℕ, List}
use Rattle.ir_ast.specs.Program.{TypeView}
use Rattle.ir_ast.specs.View.{view_type}
use Rattle.ir_ast.specs.ProgramView.{view_type_entry}
use Rattle.ir_type.proofs.Places.{same_second}
use Rattle.ir_type.proofs.NameWalks.{entry_viewed}
use Rattle.ir_layout.specs.Facts.{look_in, fact_by, node_fact}
use Rattle.ir_layout.proofs.FactSteps.{node_at}
use Rattle.ir_layout.proofs.types.fact_at.Goals as goal

pub returns-clause-fact : goal.returns-clause-fact
returns-clause-fact c over x there =
    let e = entry_viewed view_type_entry c.args.types.now c.args.place c.at-entry.result.now c.at-entry.ensures in
    let same : view_type_entry c.at-entry.result.now ≡ over = same_second {A = List ℕ} {B = TypeView} (e.0, view_type_entry c.at-entry.result.now) (x, over) (sym e.1 ∙ there) in
    subst (λ v. c.into_named.result ≡ node_fact c.args.cyclic v.over (fact_by (look_in c.args.types.now c.args.facts.now) v.over)) same
    (node_at c.args.cyclic (view_type c.at-entry.result.now.over) (look_in c.args.types.now c.args.facts.now) c.into_named.result c.fact_in.result c.is_opaque.result
    c.if-cyclic.false c.into_named.ensures.fact c.is_opaque.ensures c.fact_in.ensures.fact)
