use Rattle.std.proofs.Common.{Some, option_map, sym, ◌∙◌, ap}
use Rattle.ir_whole.specs.Numbers.{types_of}
use Rattle.ir_typing.specs.Kinds.{kind_at}
use Rattle.ir_typing.specs.Pairs.{pair_kind}
use Rattle.ir_typing.proofs.Typing.{held_told, of_value, of_slot, of_pair, of_none}
use Rattle.ir_typing.proofs.pairs.pair_of.Goals as goal

pub returns-in-Some-Value-clause-pair : goal.returns-in-Some-Value-clause-pair
returns-in-Some-Value-clause-pair c = sym (ap pair_kind (of_value (types_of c.args.numbers.now) c.held.result _ (ap (option_map (kind_at (types_of c.args.numbers.now))) c.held.ensures ∙ held_told c.args.numbers.now c.args.scope.now c.args.name.now c.requires) c.in-Some-Value.field-0-0 (c.in-Some-Value.is ∙ ap Some c.in-Some-Value.field-0-is)).is)

pub returns-in-Some-Slot-clause-pair : goal.returns-in-Some-Slot-clause-pair
returns-in-Some-Slot-clause-pair c = sym (ap pair_kind (of_slot (types_of c.args.numbers.now) c.held.result _ (ap (option_map (kind_at (types_of c.args.numbers.now))) c.held.ensures ∙ held_told c.args.numbers.now c.args.scope.now c.args.name.now c.requires) c.in-Some-Slot.field-0-0 (c.in-Some-Slot.is ∙ ap Some c.in-Some-Slot.field-0-is)).is)

pub returns-in-Some-Pair-clause-pair : goal.returns-in-Some-Pair-clause-pair
returns-in-Some-Pair-clause-pair c = sym (ap pair_kind (of_pair (types_of c.args.numbers.now) c.held.result _ (ap (option_map (kind_at (types_of c.args.numbers.now))) c.held.ensures ∙ held_told c.args.numbers.now c.args.scope.now c.args.name.now c.requires) c.in-Some-Pair.number (c.in-Some-Pair.is ∙ ap Some c.in-Some-Pair.field-0-is)).is)

pub returns-in-Some-Pair-clause-within : goal.returns-in-Some-Pair-clause-within
returns-in-Some-Pair-clause-within c = (of_pair (types_of c.args.numbers.now) c.held.result _ (ap (option_map (kind_at (types_of c.args.numbers.now))) c.held.ensures ∙ held_told c.args.numbers.now c.args.scope.now c.args.name.now c.requires) c.in-Some-Pair.number (c.in-Some-Pair.is ∙ ap Some c.in-Some-Pair.field-0-is)).within

pub returns-in-None-clause-pair : goal.returns-in-None-clause-pair
returns-in-None-clause-pair c = sym (ap pair_kind (of_none (types_of c.args.numbers.now) c.held.result _ (ap (option_map (kind_at (types_of c.args.numbers.now))) c.held.ensures ∙ held_told c.args.numbers.now c.args.scope.now c.args.name.now c.requires) c.in-None.is))
