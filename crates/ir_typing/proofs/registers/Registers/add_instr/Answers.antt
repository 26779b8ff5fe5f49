use Rattle.std.proofs.Common.{sym, subst}
use Rattle.ir_ast.specs.ProgramView.{view_entries, view_type_entry, view_instr}
use Rattle.ir_whole.specs.Numbers.{types_of}
use Rattle.ir_typing.specs.Registers.{kind_of}
use Rattle.ir_typing.specs.Kinds.{IsKindOf}
use Rattle.ir_typing.proofs.KindSteps.{grows_none}
use Rattle.ir_typing.proofs.Keeping.{adds_one, adds_none, adds_as, set_some, set_none}
use Rattle.ir_typing.proofs.registers.Registers.add_instr.Goals as goal

pub returns-in-Some-2-clause-adds : goal.returns-in-Some-2-clause-adds
returns-in-Some-2-clause-adds c =
    let set = set_some (view_entries view_type_entry c.args.types.now) (types_of c.kind_set.new.numbers) (view_instr c.args.instr.now) c.in-Some.name c.in-Some-2.held c.in-Some.is
    (subst (IsKindOf (view_entries view_type_entry c.args.types.now) (types_of c.kind_set.new.numbers) (kind_of (view_instr c.args.instr.now).act)) c.in-Some-2.is c.in_ok-held.ensures.kind) in
    adds_as (view_entries view_type_entry c.args.types.now) (types_of c.args.numbers.now) (types_of c.kind_set.new.numbers) _ _ c.args.self.now c.add.new.self (sym set.set)
    (adds_one (view_entries view_type_entry c.args.types.now) (types_of c.args.numbers.now) (types_of c.kind_set.new.numbers) c.in-Some.name set.kind c.in-Some-2.held c.args.self.now c.add.new.self
    (c.kind_set.ensures.grows (types_of c.args.numbers.now) (grows_none (types_of c.args.numbers.now))) set.told c.in_ok-add.ensures.places c.in_ok-add.ensures.kinds c.in_ok-add.ensures.small)

pub returns-clause-adds : goal.returns-clause-adds
returns-clause-adds c =
    let none = set_none (view_entries view_type_entry c.args.types.now) (types_of c.kind_set.new.numbers) (view_instr c.args.instr.now) c.in-Some.name c.in-Some.is
    (subst (IsKindOf (view_entries view_type_entry c.args.types.now) (types_of c.kind_set.new.numbers) (kind_of (view_instr c.args.instr.now).act)) c.in_default-2.is c.in_ok-held.ensures.kind) in
    adds_as (view_entries view_type_entry c.args.types.now) (types_of c.args.numbers.now) (types_of c.kind_set.new.numbers) _ _ c.args.self.now c.args.self.now (sym none)
    (adds_none (view_entries view_type_entry c.args.types.now) (types_of c.args.numbers.now) (types_of c.kind_set.new.numbers) c.args.self.now (c.kind_set.ensures.grows (types_of c.args.numbers.now) (grows_none (types_of c.args.numbers.now))))
