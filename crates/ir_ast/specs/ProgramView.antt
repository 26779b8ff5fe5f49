-- What the instructions, functions and modules of the code mean: the plain data with the same parts.
use Rattle.std.specs.Prelude.{ℕ, option_map, List, map}
use Rattle.ir_ast.specs.Plain.{Ty, Val}
use Rattle.ir_ast.specs.View.{view_type, view_operand, view_gep, view_init}
use Rattle.ir_ast.specs.Program as plain
use Rattle.ir_ast.specs.Program.{Act, InstrView, BlockView, FunctionView, TypeView, GlobalView, RangeView, LineView, ModuleView}
use Rattle.ir_ast.specs.declared.types.IrType.{IrType}
use Rattle.ir_ast.specs.declared.operand.Operand.{Operand}
use Rattle.ir_ast.specs.declared.instr.Op.{Op}
use Rattle.ir_ast.specs.declared.instr.Op.TheVariants.{Binary, Compare, Select, Convert, Freeze, Phi, Slot, Load, Store, Offset, Call, Extract, Goto, Branch, Switch, Return, Unreachable}
use Rattle.ir_ast.specs.declared.instr.Instr.{Instr}
use Rattle.ir_ast.specs.declared.instr.Block.{Block}
use Rattle.ir_ast.specs.declared.instr.BlockList.{BlockList}
use Rattle.ir_ast.specs.declared.instr.Function.{Function}
use Rattle.ir_ast.specs.declared.global.TypeEntry.{TypeEntry}
use Rattle.ir_ast.specs.declared.global.GlobalItem.{GlobalItem}
use Rattle.ir_ast.specs.declared.global.RangeEntry.{RangeEntry}
use Rattle.ir_ast.specs.declared.global.LineText.{LineText}
use Rattle.ir_ast.specs.declared.module.Module.{Module}

abbrev pub view_typed : List (IrType × Operand) → List (Ty × Val)
view_typed pairs = map (λ p. (view_type p.0, view_operand p.1)) pairs

abbrev pub view_arms : List (Operand × List ℕ) → List (Val × List ℕ)
view_arms arms = map (λ arm. (view_operand arm.0, arm.1)) arms

abbrev pub view_op : Op → Act
view_op (Binary kind flags width a b) = plain.binary kind flags width (view_operand a) (view_operand b)
view_op (Compare samesign predicate over a b) = plain.compare samesign predicate (view_type over) (view_operand a) (view_operand b)
view_op (Select condition over a b) = plain.select (view_operand condition) (view_type over) (view_operand a) (view_operand b)
view_op (Convert kind flags from to a) = plain.convert kind flags from to (view_operand a)
view_op (Freeze over a) = plain.freeze (view_type over) (view_operand a)
view_op (Phi over arms) = plain.phi (view_type over) (view_arms arms.items.items)
view_op (Slot over align) = plain.slot (view_type over) align
view_op (Load over address align range) = plain.load (view_type over) (view_operand address) align range
view_op (Store over value address align) = plain.store (view_type over) (view_operand value) (view_operand address) align
view_op (Offset gep) = plain.offset (view_gep gep)
view_op (Call result callee arguments) = plain.call (view_type result) callee (view_typed arguments.items.items)
view_op (Extract width from part) = plain.extract width (view_operand from) part
view_op (Goto target) = plain.goto target
view_op (Branch condition taken other) = plain.branch (view_operand condition) taken other
view_op (Switch width on default cases) = plain.switch width (view_operand on) default cases.items.items
view_op (Return over value) = plain.give (view_type over) (option_map view_operand value)
view_op Unreachable = plain.unreachable

abbrev pub view_instr : Instr → InstrView
view_instr i = record { line = i.line; result = i.result; act = view_op i.op }

abbrev pub view_block : Block → BlockView
view_block b = record { line = b.line; name = b.name; instrs = map view_instr b.instrs.items.items }

abbrev pub view_blocks : BlockList → List BlockView
view_blocks l = map view_block l.items.items

abbrev pub view_function : Function → FunctionView
view_function f = record {
  line = f.line;
  name = f.name;
  result = view_type f.result;
  parameters = map (λ p. (view_type p.0, p.1)) f.parameters.items.items;
  body = option_map view_blocks f.body;
}

abbrev pub view_type_entry : TypeEntry → TypeView
view_type_entry e = record { line = e.line; over = view_type e.over }

abbrev pub view_global : GlobalItem → GlobalView
view_global g = record { line = g.line; name = g.name; constant = g.constant; over = view_type g.over; init = view_init g.init; align = g.align }

abbrev pub view_range : RangeEntry → RangeView
view_range r = record { line = r.line; numbers = map (λ n. (view_type n.0, n.1)) r.numbers.items.items }

abbrev pub view_line : LineText → LineView
view_line l = record { line = l.line; bytes = l.bytes.items.items }

-- the entries of a table, each with its name
abbrev pub view_entries : {E V : Type 0} → (E → V) → List (List ℕ × E) → List (List ℕ × V)
view_entries view entries = map (λ entry. (entry.0, view entry.1)) entries

abbrev pub view_module : Module → ModuleView
view_module m = record {
  layout_text = option_map view_line m.layout_text;
  types = view_entries view_type_entry m.types;
  globals = view_entries view_global m.globals;
  functions = view_entries view_function m.functions;
  ranges = view_entries view_range m.ranges;
}
