-- Whole types that, with all their parts, have at most 2^32 bytes: the types of globals of a module that was laid out.
use Rattle.std.specs.Prelude.{◌≤◌}
use Rattle.ir_ast.specs.Plain.{Ty, Tys, array, structure, packed, no_types, type_and}
use Rattle.ir_layout.specs.Sizes.{size_of}

abbrev mutual
  pub IsBounded : Ty → Type 0
  IsBounded (array n t) = (size_of (array n t) ≤ 4294967296) × IsBounded t
  IsBounded (structure ts) = (size_of (structure ts) ≤ 4294967296) × AreBounded ts
  IsBounded (packed ts) = (size_of (packed ts) ≤ 4294967296) × AreBounded ts
  IsBounded t = size_of t ≤ 4294967296

  pub AreBounded : Tys → Type 0
  AreBounded no_types = Unit {0}
  AreBounded (type_and t ts) = IsBounded t × AreBounded ts
