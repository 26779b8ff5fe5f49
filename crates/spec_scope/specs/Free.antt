-- Expressions of numbers and constants alone, which have no width of their own.
use Rattle.std.specs.Prelude.{Bool, true, false, ◌&&◌, Option, Some}
use Rattle.spec_ast.specs.declared.kind.UnKind.{UnKind}
use Rattle.spec_ast.specs.declared.kind.UnKind.TheVariants.{Not}
use Rattle.spec_ast.specs.Raw.{Tree, literal, named, unary, binary, choose}
use Rattle.spec_tree.specs.Sorted.{Class, arithmetic, class_of}
use Rattle.spec_scope.specs.declared.meaning.Meaning.{Meaning}
use Rattle.spec_scope.specs.declared.meaning.Meaning.TheVariants.{Constant}
use Rattle.spec_scope.specs.Scope.{Scope, meaning}

abbrev pub is_constant : Option Meaning → Bool
is_constant (Some (Constant n)) = true
is_constant _ = false

abbrev pub is_number_un : UnKind → Bool
is_number_un Not = false
is_number_un _ = true

abbrev pub is_arithmetic : Class → Bool
is_arithmetic arithmetic = true
is_arithmetic _ = false

abbrev pub is_free : Scope → Tree → Bool
is_free s (literal n) = true
is_free s (named x) = is_constant (meaning s x)
is_free s (unary op a) = is_number_un op && is_free s a
is_free s (binary op a c) = is_arithmetic (class_of op) && (is_free s a && is_free s c)
is_free s (choose c a d) = is_free s a && is_free s d
is_free s _ = false
