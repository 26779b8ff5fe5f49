use Rattle.spec_lines.proofs.FieldTurns.{head_of_place, sorted_at}
use Rattle.spec_lines.proofs.fields.next_field.Goals as goal

pub returns : goal.returns
returns c = λ d there.
    c.field_made.ensures d (head_of_place c.args.table.now c.args.heads.now c.args.place d c.head_at.result.now c.requires.are c.head_at.ensures there)
    (sorted_at c.args.table.now c.args.place d there c.sort_at.ensures)
