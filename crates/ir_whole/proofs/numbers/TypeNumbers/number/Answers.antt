use Rattle.std.proofs.Common.{length}
use Rattle.ir_ast.specs.View.{view_type}
use Rattle.ir_ast.specs.ProgramView.{view_entries, view_type_entry}
use Rattle.ir_type.specs.Whole.{whole, stands_for}
use Rattle.ir_whole.specs.Heads.{types_by, Stands}
use Rattle.ir_whole.proofs.NameNumbers.{first_type, first_grown, stands_meant, named_grown, looks_all, grown_on, types_on, types_longer, types_keep, number_within}
use Rattle.ir_whole.proofs.numbers.TypeNumbers.number.Goals as goal

pub returns-in_err-number-clause-grows : goal.returns-in_err-number-clause-grows
returns-in_err-number-clause-grows c = types_on c.args.self.now.heads c.number_in.new.heads c.number_in.ensures.grows

pub returns-in_err-number-clause-types : goal.returns-in_err-number-clause-types
returns-in_err-number-clause-types c =
    named_grown (view_entries view_type_entry c.args.types.now) c.args.self.now.heads c.number_in.new.heads c.args.self.now.named.items
    (grown_on c.args.self.now.heads c.number_in.new.heads c.number_in.ensures.grows) c.requires.types

stands : (c : goal.In_ok-number) → Stands (types_by c.number_in.new.heads) c.in_ok-number.number (whole (view_entries view_type_entry c.args.types.now) (view_type c.args.over.now))
stands c =
    c.in_ok-number.ensures.number (stands_for (length (view_entries view_type_entry c.args.types.now)) (view_entries view_type_entry c.args.types.now))
    (looks_all view_type_entry c.args.types.now c.args.self.now.heads c.args.self.now.named.items c.deref.result.now c.deref.ensures.value c.requires.types)

pub returns-clause-number : goal.returns-clause-number
returns-clause-number c =
    stands_meant (types_by c.number_in.new.heads) c.in_ok-number.number (whole (view_entries view_type_entry c.args.types.now) (view_type c.args.over.now))
    (first_type c.number_in.new.heads (first_grown c.args.self.now.heads c.number_in.new.heads (grown_on c.args.self.now.heads c.number_in.new.heads c.number_in.ensures.grows) c.requires.types.first))
    (stands c)

pub returns-clause-stands : goal.returns-clause-stands
returns-clause-stands c = stands c

pub returns-clause-grows : goal.returns-clause-grows
returns-clause-grows c = types_on c.args.self.now.heads c.number_in.new.heads c.number_in.ensures.grows

pub returns-clause-types : goal.returns-clause-types
returns-clause-types c =
    named_grown (view_entries view_type_entry c.args.types.now) c.args.self.now.heads c.number_in.new.heads c.args.self.now.named.items
    (grown_on c.args.self.now.heads c.number_in.new.heads c.number_in.ensures.grows) c.requires.types

pub returns-in_err-number-clause-longer : goal.returns-in_err-number-clause-longer
returns-in_err-number-clause-longer c = types_longer c.args.self.now.heads c.number_in.new.heads c.number_in.ensures.grows

pub returns-in_err-number-clause-keeps : goal.returns-in_err-number-clause-keeps
returns-in_err-number-clause-keeps c = types_keep c.args.self.now.heads c.number_in.new.heads c.number_in.ensures.grows

pub returns-clause-within : goal.returns-clause-within
returns-clause-within c = number_within c.number_in.new.heads c.in_ok-number.number c.in_ok-number.ensures.within

pub returns-clause-longer : goal.returns-clause-longer
returns-clause-longer c = types_longer c.args.self.now.heads c.number_in.new.heads c.number_in.ensures.grows

pub returns-clause-keeps : goal.returns-clause-keeps
returns-clause-keeps c = types_keep c.args.self.now.heads c.number_in.new.heads c.number_in.ensures.grows
