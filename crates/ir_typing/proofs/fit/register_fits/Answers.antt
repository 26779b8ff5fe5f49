use Rattle.std.proofs.Common.{Some, option_map, sym, ◌∙◌, ap}
use Rattle.ir_type.specs.Names.{entry_of}
use Rattle.ir_whole.specs.Heads.{type_at}
use Rattle.ir_whole.specs.Numbers.{types_of}
use Rattle.ir_typing.specs.Fits.{fits_kind}
use Rattle.ir_typing.specs.Kinds.{kind_at}
use Rattle.ir_typing.specs.Scoped.{scope_in}
use Rattle.ir_typing.proofs.Typing.{held_told, of_value, of_slot, of_pair, of_none, fits_value}
use Rattle.ir_typing.proofs.fit.register_fits.Goals as goal

pub is_same-requires-clause-a : goal.is_same-requires-clause-a
is_same-requires-clause-a c =
    (of_value (types_of c.args.numbers.now) c.held.result _ (ap (option_map (kind_at (types_of c.args.numbers.now))) c.held.ensures ∙ held_told c.args.numbers.now c.args.scope.now c.args.name.now c.requires.typed)
    c.in-Some-Value.number (c.in-Some-Value.is ∙ ap Some c.in-Some-Value.field-0-is)).within

pub returns-then-is_scalar : goal.returns-then-is_scalar
returns-then-is_scalar c =
    let told = of_value (types_of c.args.numbers.now) c.held.result _ (ap (option_map (kind_at (types_of c.args.numbers.now))) c.held.ensures ∙ held_told c.args.numbers.now c.args.scope.now c.args.name.now c.requires.typed)
    c.in-Some-Value.number (c.in-Some-Value.is ∙ ap Some c.in-Some-Value.field-0-is) in
    fits_value (entry_of c.args.name.now (scope_in c.args.scope.now).registers) (type_at (types_of c.args.numbers.now) c.args.over) (type_at (types_of c.args.numbers.now) c.in-Some-Value.number) c.is_same.result
    told.is c.if-is_scalar.ensures c.is_same.ensures.same

pub returns-in-Some-Slot : goal.returns-in-Some-Slot
returns-in-Some-Slot c =
    let told = of_slot (types_of c.args.numbers.now) c.held.result _ (ap (option_map (kind_at (types_of c.args.numbers.now))) c.held.ensures ∙ held_told c.args.numbers.now c.args.scope.now c.args.name.now c.requires.typed)
    c.in-Some-Slot.field-0-0 (c.in-Some-Slot.is ∙ ap Some c.in-Some-Slot.field-0-is) in
    sym (ap (fits_kind (type_at (types_of c.args.numbers.now) c.args.over)) told.is)

pub returns-in-Some-Pair : goal.returns-in-Some-Pair
returns-in-Some-Pair c =
    let told = of_pair (types_of c.args.numbers.now) c.held.result _ (ap (option_map (kind_at (types_of c.args.numbers.now))) c.held.ensures ∙ held_told c.args.numbers.now c.args.scope.now c.args.name.now c.requires.typed)
    c.in-Some-Pair.field-0-0 (c.in-Some-Pair.is ∙ ap Some c.in-Some-Pair.field-0-is) in
    sym (ap (fits_kind (type_at (types_of c.args.numbers.now) c.args.over)) told.is)

pub returns-in-None : goal.returns-in-None
returns-in-None c =
    let none = of_none (types_of c.args.numbers.now) c.held.result _ (ap (option_map (kind_at (types_of c.args.numbers.now))) c.held.ensures ∙ held_told c.args.numbers.now c.args.scope.now c.args.name.now c.requires.typed) c.in-None.is in
    sym (ap (fits_kind (type_at (types_of c.args.numbers.now) c.args.over)) none)
