-- Instructions, functions and modules as plain data.
use Rattle.std.specs.Prelude.{ℕ, ℤ, Bool, Option, List}
use Rattle.ir_ast.specs.Plain.{Ty, Val, Form, Ini}
use Rattle.ir_ast.specs.declared.operand.Flags.{Flags}
use Rattle.ir_ast.specs.declared.instr.BinaryKind.{BinaryKind}
use Rattle.ir_ast.specs.declared.instr.Predicate.{Predicate}
use Rattle.ir_ast.specs.declared.instr.ConvertKind.{ConvertKind}

-- what an instruction does; an alignment of 0 is an absent one
pub data Act : Type 0 where
  binary : BinaryKind → Flags → ℕ → Val → Val → Act
  -- with `samesign` or not
  compare : Bool → Predicate → Ty → Val → Val → Act
  select : Val → Ty → Val → Val → Act
  convert : ConvertKind → Flags → ℕ → ℕ → Val → Act
  freeze : Ty → Val → Act
  phi : Ty → List (Val × List ℕ) → Act
  slot : Ty → ℕ → Act
  load : Ty → Val → ℕ → Option (List ℕ) → Act
  store : Ty → Val → Val → ℕ → Act
  offset : Form → Act
  call : Ty → List ℕ → List (Ty × Val) → Act
  extract : ℕ → Val → ℕ → Act
  goto : List ℕ → Act
  branch : Val → List ℕ → List ℕ → Act
  switch : ℕ → Val → List ℕ → List (ℤ × List ℕ) → Act
  give : Ty → Option Val → Act
  unreachable : Act

pub record InstrView : Type 0 where
  pub line : ℕ
  pub result : Option (List ℕ)
  pub act : Act

pub record BlockView : Type 0 where
  pub line : ℕ
  pub name : List ℕ
  pub instrs : List InstrView

pub record FunctionView : Type 0 where
  pub line : ℕ
  pub name : List ℕ
  pub result : Ty
  pub parameters : List (Ty × List ℕ)
  pub body : Option (List BlockView)

pub record TypeView : Type 0 where
  pub line : ℕ
  pub over : Ty

pub record GlobalView : Type 0 where
  pub line : ℕ
  pub name : List ℕ
  pub constant : Bool
  pub over : Ty
  pub init : Ini
  pub align : Option ℕ

pub record RangeView : Type 0 where
  pub line : ℕ
  pub numbers : List (Ty × ℤ)

pub record LineView : Type 0 where
  pub line : ℕ
  pub bytes : List ℕ

pub record ModuleView : Type 0 where
  pub layout_text : Option LineView
  pub types : List (List ℕ × TypeView)
  pub globals : List (List ℕ × GlobalView)
  pub functions : List (List ℕ × FunctionView)
  pub ranges : List (List ℕ × RangeView)
