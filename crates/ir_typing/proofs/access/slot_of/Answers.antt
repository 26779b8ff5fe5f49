use Rattle.std.proofs.Common.{Some, option_map, sym, ◌∙◌, ap}
use Rattle.ir_whole.specs.Numbers.{types_of}
use Rattle.ir_typing.specs.Fits.{slot_kind}
use Rattle.ir_typing.specs.Kinds.{kind_at}
use Rattle.ir_typing.proofs.Typing.{held_told, of_value, of_slot, of_pair, of_none}
use Rattle.ir_typing.proofs.access.slot_of.Goals as goal

pub returns-in-Some-Value-clause-slot : goal.returns-in-Some-Value-clause-slot
returns-in-Some-Value-clause-slot c = sym (ap slot_kind (of_value (types_of c.args.numbers.now) c.held.result _ (ap (option_map (kind_at (types_of c.args.numbers.now))) c.held.ensures ∙ held_told c.args.numbers.now c.args.scope.now c.args.name.now c.requires) c.in-Some-Value.field-0-0 (c.in-Some-Value.is ∙ ap Some c.in-Some-Value.field-0-is)).is)

pub returns-in-Some-Slot-clause-slot : goal.returns-in-Some-Slot-clause-slot
returns-in-Some-Slot-clause-slot c = sym (ap slot_kind (of_slot (types_of c.args.numbers.now) c.held.result _ (ap (option_map (kind_at (types_of c.args.numbers.now))) c.held.ensures ∙ held_told c.args.numbers.now c.args.scope.now c.args.name.now c.requires) c.in-Some-Slot.number (c.in-Some-Slot.is ∙ ap Some c.in-Some-Slot.field-0-is)).is)

pub returns-in-Some-Slot-clause-within : goal.returns-in-Some-Slot-clause-within
returns-in-Some-Slot-clause-within c = (of_slot (types_of c.args.numbers.now) c.held.result _ (ap (option_map (kind_at (types_of c.args.numbers.now))) c.held.ensures ∙ held_told c.args.numbers.now c.args.scope.now c.args.name.now c.requires) c.in-Some-Slot.number (c.in-Some-Slot.is ∙ ap Some c.in-Some-Slot.field-0-is)).within

pub returns-in-Some-Pair-clause-slot : goal.returns-in-Some-Pair-clause-slot
returns-in-Some-Pair-clause-slot c = sym (ap slot_kind (of_pair (types_of c.args.numbers.now) c.held.result _ (ap (option_map (kind_at (types_of c.args.numbers.now))) c.held.ensures ∙ held_told c.args.numbers.now c.args.scope.now c.args.name.now c.requires) c.in-Some-Pair.field-0-0 (c.in-Some-Pair.is ∙ ap Some c.in-Some-Pair.field-0-is)).is)

pub returns-in-None-clause-slot : goal.returns-in-None-clause-slot
returns-in-None-clause-slot c = sym (ap slot_kind (of_none (types_of c.args.numbers.now) c.held.result _ (ap (option_map (kind_at (types_of c.args.numbers.now))) c.held.ensures ∙ held_told c.args.numbers.now c.args.scope.now c.args.name.now c.requires) c.in-None.is))
