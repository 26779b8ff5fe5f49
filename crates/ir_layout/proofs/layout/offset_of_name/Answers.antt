use Rattle.std.proofs.Common.{ap, sym, ◌∙◌}
use Rattle.std.specs.Prelude.{slice_index}
use Rattle.ir_layout.proofs.Laid.{fields_there, no_fields_there}
use Rattle.ir_layout.proofs.layout.offset_of_name.Goals as goal

pub returns-in-Some : goal.returns-in-Some
returns-in-Some c =
    c.offset_at_root.ensures
    ∙ ap (λ xs. slice_index xs c.args.field)
    (fields_there c.args.fields.now c.args.names.now c.args.name.now c.in-Some.place c.at.result.now (sym c.get.ensures.place ∙ c.in-Some.is) c.at.ensures)

pub returns-in-None : goal.returns-in-None
returns-in-None c = ap (λ xs. slice_index xs c.args.field) (no_fields_there c.args.fields.now c.args.names.now c.args.name.now (sym c.get.ensures.place ∙ c.in-None.is))
