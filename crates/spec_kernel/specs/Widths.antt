-- Integers of functions that have 1 to 64 bits.
use Rattle.std.specs.Prelude.{ℕ, Bool, true, ◌&&◌, nat_le, Option, Some, None}
use Rattle.std.specs.List.{All, list_all}
use Rattle.spec_tree.specs.Sorted.{IsWidth}
use Rattle.spec_names.specs.Kernel.{ValueType, number, address, Function, Kernel}

abbrev pub IsValueWidth : ValueType → Type 0
IsValueWidth (number w) = IsWidth w
IsValueWidth address = Unit {0}

-- void has no width
abbrev pub IsResultWidth : Option ValueType → Type 0
IsResultWidth None = Unit {0}
IsResultWidth (Some t) = IsValueWidth t

abbrev pub HasWidths : Function → Type 0
HasWidths f = All IsValueWidth f.parameters × IsResultWidth f.result

-- the integers that functions take and give have 1 to 64 bits
abbrev pub HaveWidths : Kernel → Type 0
HaveWidths k = All HasWidths k.functions

-- ---- the same as tests

abbrev pub is_width : ℕ → Bool
is_width w = nat_le 1 w && nat_le w 64

abbrev pub is_value_width : ValueType → Bool
is_value_width (number w) = is_width w
is_value_width address = true

abbrev pub is_result_width : Option ValueType → Bool
is_result_width None = true
is_result_width (Some t) = is_value_width t

abbrev pub has_widths : Function → Bool
has_widths f = list_all is_value_width f.parameters && is_result_width f.result
