-- Types, operands and initialisers as plain data, with no pointers and no room: what definitions speak of.
use Rattle.std.specs.Prelude.{ℕ, ℤ, Bool, List}
use Rattle.ir_ast.specs.declared.operand.Flags.{Flags}

mutual
  pub data Ty : Type 0 where
    nothing : Ty
    integer : ℕ → Ty
    pointer : Ty
    array : ℕ → Ty → Ty
    structure : Tys → Ty
    packed : Tys → Ty
    named : List ℕ → Ty
    opaque : Ty

  pub data Tys : Type 0 where
    no_types : Tys
    type_and : Ty → Tys → Tys

mutual
  pub data Val : Type 0 where
    local : List ℕ → Val
    global : List ℕ → Val
    number : ℤ → Val
    null : Val
    poison : Val
    address : Form → Val

  -- `getelementptr` with its flags, its type, its base and its indices
  pub data Form : Type 0 where
    form : Flags → Ty → Val → Indices → Form

  pub data Indices : Type 0 where
    no_indices : Indices
    index_and : Ty → Val → Indices → Indices

mutual
  pub data Ini : Type 0 where
    zero_init : Ini
    number_init : ℤ → Ini
    truth_init : Bool → Ini
    bytes_init : List ℕ → Ini
    array_init : Inis → Ini
    structure_init : Inis → Ini
    packed_init : Inis → Ini
    pointer_init : Ini

  pub data Inis : Type 0 where
    no_inits : Inis
    init_and : Ty → Ini → Inis → Inis
