-- Types and operands compared part by part, as the code goes over them.
use Rattle.std.specs.Prelude.{ℕ, ℤ, Bool, true, false, ◌&&◌, ◌==◌, Option, Some, None, bytes_eq}
use Rattle.std.specs.Bool.{beq}
use Rattle.std.specs.Ordering.{int_eq}
use Rattle.ir_ast.specs.Plain.{Ty, Tys, nothing, integer, pointer, array, structure, packed, named, opaque, no_types, type_and, Val, Form, Indices, local, global, number, null, poison, address, form, no_indices, index_and}
use Rattle.ir_ast.specs.declared.operand.Flags.{Flags}
use Rattle.ir_type.specs.Whole.{Types, meant}
use Rattle.ir_whole.specs.Questions.{width_of}
use Rattle.ir_typing.specs.Fits.{modulo}

-- types as they are spelled
abbrev mutual
  pub same_type : Ty → Ty → Bool
  same_type nothing nothing = true
  same_type (integer v) (integer w) = v == w
  same_type pointer pointer = true
  same_type (array m t) (array n u) = (m == n) && same_type t u
  same_type (structure ts) (structure us) = same_types ts us
  same_type (packed ts) (packed us) = same_types ts us
  same_type (named x) (named y) = bytes_eq x y
  same_type opaque opaque = true
  same_type _ _ = false

  pub same_types : Tys → Tys → Bool
  same_types no_types no_types = true
  same_types (type_and t ts) (type_and u us) = same_type t u && same_types ts us
  same_types _ _ = false

abbrev pub same_flags : Flags → Flags → Bool
same_flags f g =
    beq f.nuw g.nuw && beq f.nsw g.nsw && beq f.exact g.exact && beq f.disjoint g.disjoint && beq f.nneg g.nneg && beq f.inbounds g.inbounds

-- two numbers at a place of this width, in bits: without one, as they are
abbrev pub same_number : Option ℕ → ℤ → ℤ → Bool
same_number None m n = int_eq m n
same_number (Some w) m n = modulo w m == modulo w n

-- operands at a place of this width
abbrev mutual
  pub same_operand : Types → Option ℕ → Val → Val → Bool
  same_operand types width (local x) (local y) = bytes_eq x y
  same_operand types width (global x) (global y) = bytes_eq x y
  same_operand types width (number m) (number n) = same_number width m n
  same_operand types width null null = true
  same_operand types width poison poison = true
  same_operand types width (address f) (address g) = same_form types f g
  same_operand types width _ _ = false

  pub same_form : Types → Form → Form → Bool
  same_form types (form flags over base is) (form others t b js) =
      same_flags flags others && same_type over t && same_operand types None base b && same_indices types is js

  pub same_indices : Types → Indices → Indices → Bool
  same_indices types no_indices no_indices = true
  same_indices types (index_and t v is) (index_and u w js) = same_type t u && same_operand types (width_of (meant types t)) v w && same_indices types is js
  same_indices types _ _ = false
