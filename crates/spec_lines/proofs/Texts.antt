-- Small texts, with the first line that fails and its reason, or none. A text that stands has a specification.
use Rattle.std.proofs.Common.{◌≡◌, ℕ, pos, neg_ℤ, true, false, Some, None, is_some, option_map, List, [], ◌∷◌, map, refl}
use Rattle.std.specs.Prelude.{codes, bytes_eq, Bool, false}
use Rattle.spec_ast.specs.declared.kind.UnKind.TheVariants.{Minus, Not}
use Rattle.spec_ast.specs.declared.kind.BinKind.TheVariants.{Add, Eq, Ne, Ult}
use Rattle.spec_ast.specs.declared.raw.RawResize.TheVariants.{ZeroExt, Extract}
use Rattle.spec_ast.specs.declared.raw.RawSort.TheVariants.{Named, Bits, Index}
use Rattle.spec_ast.specs.declared.fault.SpecReason.TheVariants.{S5, S6, S7, S8, S9, S10, S11, S12, S13, S14, S15}
use Rattle.spec_ast.specs.Raw.{literal, truth, named, read, read_at, path, unary, binary, all_of, any_of, choose, resize, sized, for_all, exists, no_trees, tree_and, element, member, no_steps, step_and, Item, Line, sort_line, constant_line, hook_line, class_line, field_line, def_line, var_line, let_line, copy_line, write_line, return_line, end_line}
use Rattle.spec_names.specs.Kernel.{Name, Kernel, word, row, fields, no_parts, part_and, number, address}
use Rattle.spec_tree.specs.declared.expr.ResizeKind.TheVariants as resized
use Rattle.spec_tree.specs.declared.expr.StateName.TheVariants.{Old}
use Rattle.spec_tree.specs.Plain as tree
use Rattle.spec_lines.specs.Behind.{begin}
use Rattle.spec_lines.specs.Faults.{Text, fault_of}
use Rattle.spec_lines.specs.Whole.{first_fault, spec_of}

abbrev at : ℕ → Item → Line
at n item = record { line = n; item = item }

abbrev no_strays : Name → Bool
no_strays x = false

abbrev f_strays : Name → Bool
f_strays x = bytes_eq x (codes "f")

-- a byte, and a function that counts in it
abbrev ka : Kernel
ka = record {
  globals = record { name = codes "ticks"; size = 1; shape = word 1 } ∷ [];
  functions = record { name = codes "tick"; parameters = []; result = None; defined = true; calls = [] } ∷ [];
}

-- three structs of two integers each
abbrev kb : Kernel
kb = record {
  globals =
      record { name = codes "procs"; size = 24; shape = row 3 8 (fields (part_and 0 (word 4) (part_and 4 (word 4) no_parts))) } ∷ [];
  functions =
      record { name = codes "s0"; parameters = number 32 ∷ number 32 ∷ []; result = Some (number 32); defined = true; calls = [] } ∷ [];
}

-- a function that calls a declared one
abbrev kc : Kernel
kc = record {
  globals = [];
  functions =
      record { name = codes "flush"; parameters = []; result = None; defined = false; calls = [] }
      ∷ record { name = codes "f"; parameters = []; result = None; defined = true; calls = codes "flush" ∷ [] } ∷ [];
}

-- a function that takes a pointer
abbrev kf : Kernel
kf = record {
  globals = [];
  functions = record { name = codes "f"; parameters = address ∷ []; result = None; defined = true; calls = [] } ∷ [];
}

-- a function of two numbers that gives one
abbrev kt : Kernel
kt = record {
  globals = [];
  functions = record { name = codes "t"; parameters = number 8 ∷ number 32 ∷ []; result = Some (number 32); defined = true; calls = [] } ∷ [];
}

abbrev raw_tick : List Line
raw_tick =
    at 1 (class_line (codes "State"))
    ∷ at 2 (field_line (codes "ticks") [] (Bits 8))
    ∷ at 4 (def_line (codes "equiv") ((codes "kernel") ∷ (codes "state") ∷ []))
    ∷ at 5 (return_line (binary Eq (read (codes "state") (codes "ticks")) (path (codes "ticks") no_steps)))
    ∷ at 7 (def_line (codes "tick") ((codes "state") ∷ []))
    ∷ at 8 (copy_line (codes "new") (codes "state"))
    ∷ at 9 (write_line (codes "new") (codes "ticks") None (binary Add (read (codes "state") (codes "ticks")) (literal 1)))
    ∷ at 10 (end_line (truth true) (codes "new") None) ∷ []

is_tick : first_fault no_strays ka raw_tick ≡ None
is_tick = refl

has_tick : is_some (spec_of ka raw_tick) ≡ true
has_tick = refl

abbrev raw_tock : List Line
raw_tock =
    at 1 (class_line (codes "State"))
    ∷ at 2 (field_line (codes "ticks") [] (Bits 8))
    ∷ at 4 (def_line (codes "equiv") ((codes "kernel") ∷ (codes "state") ∷ []))
    ∷ at 5 (return_line (binary Eq (read (codes "state") (codes "ticks")) (path (codes "ticks") no_steps)))
    ∷ at 7 (def_line (codes "tock") ((codes "state") ∷ []))
    ∷ at 8 (copy_line (codes "new") (codes "state"))
    ∷ at 9 (write_line (codes "new") (codes "ticks") None (binary Add (read (codes "state") (codes "ticks")) (literal 1)))
    ∷ at 10 (end_line (truth true) (codes "new") None) ∷ []

is_tock : first_fault no_strays ka raw_tock ≡ Some (7, S10)
is_tock = refl

abbrev raw_s5 : List Line
raw_s5 =
    at 1 (class_line (codes "S"))
    ∷ at 2 (field_line (codes "a") [] (Named (codes "Nope"))) ∷ []

is_s5 : first_fault no_strays ka raw_s5 ≡ Some (2, S5)
is_s5 = refl

abbrev raw_s6 : List Line
raw_s6 =
    at 1 (sort_line (codes "A") (Bits 8))
    ∷ at 2 (sort_line (codes "A") (Bits 8)) ∷ []

is_s6 : first_fault no_strays ka raw_s6 ≡ Some (2, S6)
is_s6 = refl

abbrev raw_s7 : List Line
raw_s7 =
    at 1 (sort_line (codes "A") (Bits 65)) ∷ []

is_s7 : first_fault no_strays ka raw_s7 ≡ Some (1, S7)
is_s7 = refl

abbrev raw_s8 : List Line
raw_s8 =
    at 1 (def_line (codes "inv_a") ((codes "kernel") ∷ []))
    ∷ at 2 (return_line (binary Eq (path (codes "procs") no_steps) (literal 0))) ∷ []

is_s8 : first_fault no_strays kb raw_s8 ≡ Some (2, S8)
is_s8 = refl

abbrev raw_s9 : List Line
raw_s9 =
    at 1 (class_line (codes "S"))
    ∷ at 2 (field_line (codes "a") [] (Bits 8)) ∷ []

is_s9 : first_fault no_strays ka raw_s9 ≡ Some (2, S9)
is_s9 = refl

abbrev raw_s11 : List Line
raw_s11 =
    at 1 (def_line (codes "tick") ((codes "state") ∷ []))
    ∷ at 2 (end_line (truth true) (codes "state") (Some (literal 0))) ∷ []

is_s11 : first_fault no_strays ka raw_s11 ≡ Some (2, S11)
is_s11 = refl

abbrev raw_s12 : List Line
raw_s12 =
    at 1 (sort_line (codes "A") (Index 32 65536))
    ∷ at 2 (def_line (codes "inv_a") ((codes "kernel") ∷ []))
    ∷ at 3 (var_line (codes "p") (Named (codes "A")))
    ∷ at 4 (var_line (codes "q") (Named (codes "A")))
    ∷ at 5 (return_line (for_all ((codes "p") ∷ (codes "q") ∷ []) (binary Eq (named (codes "p")) (named (codes "q"))))) ∷ []

is_s12 : first_fault no_strays ka raw_s12 ≡ Some (5, S12)
is_s12 = refl

abbrev raw_s14 : List Line
raw_s14 =
    at 1 (def_line (codes "f") ((codes "state") ∷ (codes "p") ∷ []))
    ∷ at 2 (end_line (truth true) (codes "state") None) ∷ []

is_s14 : first_fault no_strays kf raw_s14 ≡ Some (1, S14)
is_s14 = refl

abbrev raw_s15 : List Line
raw_s15 =
    at 1 (def_line (codes "f") ((codes "state") ∷ []))
    ∷ at 2 (end_line (truth true) (codes "state") None) ∷ []

is_s15 : first_fault f_strays kc raw_s15 ≡ Some (1, S15)
is_s15 = refl

abbrev raw_s15_hook : List Line
raw_s15_hook =
    at 1 (hook_line (codes "flush"))
    ∷ at 2 (def_line (codes "f") ((codes "state") ∷ []))
    ∷ at 3 (end_line (truth true) (codes "state") None) ∷ []

is_s15_hook : first_fault no_strays kc raw_s15_hook ≡ None
is_s15_hook = refl

has_s15_hook : is_some (spec_of kc raw_s15_hook) ≡ true
has_s15_hook = refl

abbrev raw_hook_unknown : List Line
raw_hook_unknown =
    at 1 (hook_line (codes "flash")) ∷ []

is_hook_unknown : first_fault no_strays kc raw_hook_unknown ≡ Some (1, S5)
is_hook_unknown = refl

abbrev raw_hook_defined : List Line
raw_hook_defined =
    at 1 (hook_line (codes "f")) ∷ []

is_hook_defined : first_fault no_strays kc raw_hook_defined ≡ Some (1, S5)
is_hook_defined = refl

abbrev raw_procs : List Line
raw_procs =
    at 1 (sort_line (codes "PidT") (Index 32 3))
    ∷ at 2 (class_line (codes "S"))
    ∷ at 3 (field_line (codes "a") ((Named (codes "PidT")) ∷ []) (Bits 32))
    ∷ at 4 (field_line (codes "b") ((Named (codes "PidT")) ∷ []) (Bits 32))
    ∷ at 5 (def_line (codes "equiv") ((codes "kernel") ∷ (codes "state") ∷ []))
    ∷ at 6 (var_line (codes "p") (Named (codes "PidT")))
    ∷ at 7 (return_line (all_of (tree_and (for_all ((codes "p") ∷ []) (binary Eq (read_at (codes "state") (codes "a") (tree_and (named (codes "p")) no_trees)) (path (codes "procs") (step_and (element (named (codes "p"))) (step_and (member 0) no_steps))))) (tree_and (for_all ((codes "p") ∷ []) (binary Eq (read_at (codes "state") (codes "b") (tree_and (named (codes "p")) no_trees)) (path (codes "procs") (step_and (element (named (codes "p"))) (step_and (member 1) no_steps))))) no_trees))))
    ∷ at 8 (def_line (codes "s0") ((codes "state") ∷ (codes "pid") ∷ (codes "x") ∷ []))
    ∷ at 9 (copy_line (codes "new") (codes "state"))
    ∷ at 10 (write_line (codes "new") (codes "a") (Some (tree_and (named (codes "pid")) no_trees)) (binary Add (read_at (codes "state") (codes "a") (tree_and (named (codes "pid")) no_trees)) (named (codes "x"))))
    ∷ at 11 (end_line (binary Ult (named (codes "pid")) (literal 3)) (codes "new") None) ∷ []

is_procs : first_fault no_strays kb raw_procs ≡ None
is_procs = refl

has_procs : is_some (spec_of kb raw_procs) ≡ true
has_procs = refl

abbrev raw_procs_index : List Line
raw_procs_index =
    at 1 (sort_line (codes "PidT") (Index 32 3))
    ∷ at 2 (class_line (codes "S"))
    ∷ at 3 (field_line (codes "a") ((Named (codes "PidT")) ∷ []) (Bits 32))
    ∷ at 4 (field_line (codes "b") ((Named (codes "PidT")) ∷ []) (Bits 32))
    ∷ at 5 (def_line (codes "equiv") ((codes "kernel") ∷ (codes "state") ∷ []))
    ∷ at 6 (var_line (codes "p") (Named (codes "PidT")))
    ∷ at 7 (return_line (all_of (tree_and (for_all ((codes "p") ∷ []) (binary Eq (read_at (codes "state") (codes "a") (tree_and (named (codes "p")) no_trees)) (path (codes "procs") (step_and (element (named (codes "p"))) (step_and (member 2) no_steps))))) (tree_and (for_all ((codes "p") ∷ []) (binary Eq (read_at (codes "state") (codes "b") (tree_and (named (codes "p")) no_trees)) (path (codes "procs") (step_and (element (named (codes "p"))) (step_and (member 1) no_steps))))) no_trees))))
    ∷ at 8 (def_line (codes "s0") ((codes "state") ∷ (codes "pid") ∷ (codes "x") ∷ []))
    ∷ at 9 (copy_line (codes "new") (codes "state"))
    ∷ at 10 (write_line (codes "new") (codes "a") (Some (tree_and (named (codes "pid")) no_trees)) (binary Add (read_at (codes "state") (codes "a") (tree_and (named (codes "pid")) no_trees)) (named (codes "x"))))
    ∷ at 11 (end_line (binary Ult (named (codes "pid")) (literal 3)) (codes "new") None) ∷ []

is_procs_index : first_fault no_strays kb raw_procs_index ≡ Some (7, S8)
is_procs_index = refl

abbrev raw_procs_order : List Line
raw_procs_order =
    at 1 (sort_line (codes "PidT") (Index 32 3))
    ∷ at 2 (class_line (codes "S"))
    ∷ at 3 (field_line (codes "a") ((Named (codes "PidT")) ∷ []) (Bits 32))
    ∷ at 4 (field_line (codes "b") ((Named (codes "PidT")) ∷ []) (Bits 32))
    ∷ at 5 (def_line (codes "equiv") ((codes "kernel") ∷ (codes "state") ∷ []))
    ∷ at 6 (var_line (codes "p") (Named (codes "PidT")))
    ∷ at 7 (return_line (all_of (tree_and (for_all ((codes "p") ∷ []) (binary Eq (read_at (codes "state") (codes "a") (tree_and (named (codes "p")) no_trees)) (path (codes "procs") (step_and (element (named (codes "p"))) (step_and (member 0) no_steps))))) (tree_and (for_all ((codes "p") ∷ []) (binary Eq (read_at (codes "state") (codes "a") (tree_and (named (codes "p")) no_trees)) (path (codes "procs") (step_and (element (named (codes "p"))) (step_and (member 1) no_steps))))) no_trees))))
    ∷ at 8 (def_line (codes "s0") ((codes "state") ∷ (codes "pid") ∷ (codes "x") ∷ []))
    ∷ at 9 (copy_line (codes "new") (codes "state"))
    ∷ at 10 (write_line (codes "new") (codes "a") (Some (tree_and (named (codes "pid")) no_trees)) (binary Add (read_at (codes "state") (codes "a") (tree_and (named (codes "pid")) no_trees)) (named (codes "x"))))
    ∷ at 11 (end_line (binary Ult (named (codes "pid")) (literal 3)) (codes "new") None) ∷ []

is_procs_order : first_fault no_strays kb raw_procs_order ≡ Some (3, S9)
is_procs_order = refl

abbrev raw_second_class : List Line
raw_second_class =
    at 1 (class_line (codes "S"))
    ∷ at 2 (class_line (codes "T")) ∷ []

is_second_class : first_fault no_strays ka raw_second_class ≡ Some (2, S6)
is_second_class = refl

abbrev raw_second_field : List Line
raw_second_field =
    at 1 (class_line (codes "State"))
    ∷ at 2 (field_line (codes "ticks") [] (Bits 8))
    ∷ at 3 (field_line (codes "ticks") [] (Bits 8))
    ∷ at 5 (def_line (codes "equiv") ((codes "kernel") ∷ (codes "state") ∷ []))
    ∷ at 6 (return_line (binary Eq (read (codes "state") (codes "ticks")) (path (codes "ticks") no_steps))) ∷ []

is_second_field : first_fault no_strays ka raw_second_field ≡ Some (3, S6)
is_second_field = refl

abbrev raw_second_class_fields : List Line
raw_second_class_fields =
    at 1 (class_line (codes "State"))
    ∷ at 2 (field_line (codes "ticks") [] (Bits 8))
    ∷ at 4 (def_line (codes "equiv") ((codes "kernel") ∷ (codes "state") ∷ []))
    ∷ at 5 (return_line (binary Eq (read (codes "state") (codes "ticks")) (path (codes "ticks") no_steps)))
    ∷ at 7 (class_line (codes "T"))
    ∷ at 8 (field_line (codes "a") [] (Bits 8)) ∷ []

is_second_class_fields : first_fault no_strays ka raw_second_class_fields ≡ Some (7, S6)
is_second_class_fields = refl

abbrev raw_def_name_of_constant : List Line
raw_def_name_of_constant =
    at 1 (constant_line (codes "tick") (pos 3))
    ∷ at 2 (def_line (codes "tick") ((codes "state") ∷ []))
    ∷ at 3 (copy_line (codes "new") (codes "state"))
    ∷ at 4 (write_line (codes "new") (codes "ticks") None (binary Add (read (codes "state") (codes "ticks")) (literal 1)))
    ∷ at 5 (end_line (truth true) (codes "new") None) ∷ []

is_def_name_of_constant : first_fault no_strays ka raw_def_name_of_constant ≡ Some (2, S6)
is_def_name_of_constant = refl

abbrev raw_constant_as_sort : List Line
raw_constant_as_sort =
    at 1 (constant_line (codes "N") (pos 3))
    ∷ at 2 (class_line (codes "S"))
    ∷ at 3 (field_line (codes "a") [] (Named (codes "N"))) ∷ []

is_constant_as_sort : first_fault no_strays ka raw_constant_as_sort ≡ Some (3, S5)
is_constant_as_sort = refl

abbrev raw_sort_behind : List Line
raw_sort_behind =
    at 1 (class_line (codes "S"))
    ∷ at 2 (field_line (codes "a") [] (Named (codes "A")))
    ∷ at 3 (sort_line (codes "A") (Bits 8)) ∷ []

is_sort_behind : first_fault no_strays ka raw_sort_behind ≡ Some (2, S5)
is_sort_behind = refl

abbrev raw_parameter_hides_constant : List Line
raw_parameter_hides_constant =
    at 1 (constant_line (codes "x") (pos 7))
    ∷ at 2 (sort_line (codes "I") (Index 8 4))
    ∷ at 3 (class_line (codes "S"))
    ∷ at 4 (field_line (codes "a") [] (Bits 8))
    ∷ at 5 (field_line (codes "m") ((Named (codes "I")) ∷ []) (Bits 32))
    ∷ at 6 (def_line (codes "equiv") ((codes "kernel") ∷ (codes "state") ∷ []))
    ∷ at 7 (var_line (codes "i") (Named (codes "I")))
    ∷ at 8 (return_line (all_of (tree_and (binary Eq (read (codes "state") (codes "a")) (literal 0)) (tree_and (for_all ((codes "i") ∷ []) (binary Eq (read_at (codes "state") (codes "m") (tree_and (named (codes "i")) no_trees)) (literal 0))) no_trees))))
    ∷ at 9 (def_line (codes "t") ((codes "state") ∷ (codes "x") ∷ (codes "y") ∷ []))
    ∷ at 10 (end_line (binary Eq (named (codes "x")) (literal 3)) (codes "state") (Some (literal 0))) ∷ []

is_parameter_hides_constant : first_fault no_strays kt raw_parameter_hides_constant ≡ None
is_parameter_hides_constant = refl

has_parameter_hides_constant : is_some (spec_of kt raw_parameter_hides_constant) ≡ true
has_parameter_hides_constant = refl

abbrev raw_parameter_twice : List Line
raw_parameter_twice =
    at 1 (sort_line (codes "I") (Index 8 4))
    ∷ at 2 (class_line (codes "S"))
    ∷ at 3 (field_line (codes "a") [] (Bits 8))
    ∷ at 4 (field_line (codes "m") ((Named (codes "I")) ∷ []) (Bits 32))
    ∷ at 5 (def_line (codes "equiv") ((codes "kernel") ∷ (codes "state") ∷ []))
    ∷ at 6 (var_line (codes "i") (Named (codes "I")))
    ∷ at 7 (return_line (all_of (tree_and (binary Eq (read (codes "state") (codes "a")) (literal 0)) (tree_and (for_all ((codes "i") ∷ []) (binary Eq (read_at (codes "state") (codes "m") (tree_and (named (codes "i")) no_trees)) (literal 0))) no_trees))))
    ∷ at 8 (def_line (codes "t") ((codes "state") ∷ (codes "x") ∷ (codes "x") ∷ []))
    ∷ at 9 (end_line (truth true) (codes "state") None) ∷ []

is_parameter_twice : first_fault no_strays kt raw_parameter_twice ≡ Some (8, S6)
is_parameter_twice = refl

abbrev raw_bound_only : List Line
raw_bound_only =
    at 1 (sort_line (codes "A") (Index 32 65536))
    ∷ at 2 (sort_line (codes "B") (Index 8 16))
    ∷ at 3 (def_line (codes "inv_a") ((codes "kernel") ∷ []))
    ∷ at 4 (var_line (codes "p") (Named (codes "A")))
    ∷ at 5 (var_line (codes "q") (Named (codes "A")))
    ∷ at 6 (var_line (codes "r") (Named (codes "B")))
    ∷ at 7 (return_line (binary Eq (named (codes "p")) (named (codes "p")))) ∷ []

is_bound_only : first_fault no_strays ka raw_bound_only ≡ Some (7, S5)
is_bound_only = refl

abbrev raw_bound_in_let : List Line
raw_bound_in_let =
    at 1 (sort_line (codes "A") (Index 32 65536))
    ∷ at 2 (sort_line (codes "B") (Index 8 16))
    ∷ at 3 (def_line (codes "inv_a") ((codes "kernel") ∷ []))
    ∷ at 4 (var_line (codes "p") (Named (codes "A")))
    ∷ at 5 (var_line (codes "q") (Named (codes "A")))
    ∷ at 6 (var_line (codes "r") (Named (codes "B")))
    ∷ at 7 (let_line (codes "e") (binary Eq (named (codes "p")) (named (codes "p"))))
    ∷ at 8 (return_line (truth true)) ∷ []

is_bound_in_let : first_fault no_strays ka raw_bound_in_let ≡ Some (7, S5)
is_bound_in_let = refl

abbrev raw_rebound : List Line
raw_rebound =
    at 1 (sort_line (codes "A") (Index 32 65536))
    ∷ at 2 (sort_line (codes "B") (Index 8 16))
    ∷ at 3 (def_line (codes "inv_a") ((codes "kernel") ∷ []))
    ∷ at 4 (var_line (codes "p") (Named (codes "A")))
    ∷ at 5 (var_line (codes "q") (Named (codes "A")))
    ∷ at 6 (var_line (codes "r") (Named (codes "B")))
    ∷ at 7 (return_line (for_all ((codes "r") ∷ []) (exists ((codes "r") ∷ []) (binary Eq (named (codes "r")) (named (codes "r")))))) ∷ []

is_rebound : first_fault no_strays ka raw_rebound ≡ Some (7, S6)
is_rebound = refl

abbrev raw_twice_in_list : List Line
raw_twice_in_list =
    at 1 (sort_line (codes "A") (Index 32 65536))
    ∷ at 2 (sort_line (codes "B") (Index 8 16))
    ∷ at 3 (def_line (codes "inv_a") ((codes "kernel") ∷ []))
    ∷ at 4 (var_line (codes "p") (Named (codes "A")))
    ∷ at 5 (var_line (codes "q") (Named (codes "A")))
    ∷ at 6 (var_line (codes "r") (Named (codes "B")))
    ∷ at 7 (return_line (for_all ((codes "r") ∷ (codes "r") ∷ []) (binary Eq (named (codes "r")) (named (codes "r"))))) ∷ []

is_twice_in_list : first_fault no_strays ka raw_twice_in_list ≡ Some (7, S6)
is_twice_in_list = refl

abbrev raw_unknown_in_list : List Line
raw_unknown_in_list =
    at 1 (sort_line (codes "A") (Index 32 65536))
    ∷ at 2 (sort_line (codes "B") (Index 8 16))
    ∷ at 3 (def_line (codes "inv_a") ((codes "kernel") ∷ []))
    ∷ at 4 (var_line (codes "p") (Named (codes "A")))
    ∷ at 5 (var_line (codes "q") (Named (codes "A")))
    ∷ at 6 (var_line (codes "r") (Named (codes "B")))
    ∷ at 7 (return_line (for_all ((codes "z") ∷ []) (truth true))) ∷ []

is_unknown_in_list : first_fault no_strays ka raw_unknown_in_list ≡ Some (7, S5)
is_unknown_in_list = refl

abbrev raw_two_nests : List Line
raw_two_nests =
    at 1 (sort_line (codes "A") (Index 32 65536))
    ∷ at 2 (sort_line (codes "B") (Index 8 16))
    ∷ at 3 (def_line (codes "inv_a") ((codes "kernel") ∷ []))
    ∷ at 4 (var_line (codes "p") (Named (codes "A")))
    ∷ at 5 (var_line (codes "q") (Named (codes "A")))
    ∷ at 6 (var_line (codes "r") (Named (codes "B")))
    ∷ at 7 (return_line (all_of (tree_and (for_all ((codes "p") ∷ (codes "r") ∷ []) (binary Eq (named (codes "p")) (literal 1))) (tree_and (for_all ((codes "q") ∷ (codes "r") ∷ []) (binary Eq (named (codes "q")) (literal 1))) no_trees)))) ∷ []

is_two_nests : first_fault no_strays ka raw_two_nests ≡ None
is_two_nests = refl

has_two_nests : is_some (spec_of ka raw_two_nests) ≡ true
has_two_nests = refl

abbrev raw_inner_nest : List Line
raw_inner_nest =
    at 1 (sort_line (codes "A") (Index 32 65536))
    ∷ at 2 (sort_line (codes "B") (Index 8 16))
    ∷ at 3 (def_line (codes "inv_a") ((codes "kernel") ∷ []))
    ∷ at 4 (var_line (codes "p") (Named (codes "A")))
    ∷ at 5 (var_line (codes "q") (Named (codes "A")))
    ∷ at 6 (var_line (codes "r") (Named (codes "B")))
    ∷ at 7 (return_line (for_all ((codes "p") ∷ (codes "r") ∷ []) (exists ((codes "q") ∷ []) (binary Eq (named (codes "p")) (named (codes "q")))))) ∷ []

is_inner_nest : first_fault no_strays ka raw_inner_nest ≡ Some (7, S12)
is_inner_nest = refl

abbrev raw_s8_hides_s7 : List Line
raw_s8_hides_s7 =
    at 1 (def_line (codes "inv_a") ((codes "kernel") ∷ []))
    ∷ at 2 (return_line (all_of (tree_and (binary Eq (path (codes "procs") no_steps) (literal 0)) (tree_and (literal 1) no_trees)))) ∷ []

is_s8_hides_s7 : first_fault no_strays kb raw_s8_hides_s7 ≡ Some (2, S8)
is_s8_hides_s7 = refl

abbrev raw_s6_before_s8 : List Line
raw_s6_before_s8 =
    at 1 (def_line (codes "inv_a") ((codes "kernel") ∷ []))
    ∷ at 2 (let_line (codes "a") (truth true))
    ∷ at 3 (let_line (codes "a") (binary Eq (path (codes "procs") no_steps) (literal 0)))
    ∷ at 4 (return_line (truth true)) ∷ []

is_s6_before_s8 : first_fault no_strays kb raw_s6_before_s8 ≡ Some (3, S6)
is_s6_before_s8 = refl

abbrev raw_state_in_invariant : List Line
raw_state_in_invariant =
    at 1 (class_line (codes "State"))
    ∷ at 2 (field_line (codes "ticks") [] (Bits 8))
    ∷ at 4 (def_line (codes "equiv") ((codes "kernel") ∷ (codes "state") ∷ []))
    ∷ at 5 (return_line (binary Eq (read (codes "state") (codes "ticks")) (path (codes "ticks") no_steps)))
    ∷ at 7 (def_line (codes "inv_a") ((codes "kernel") ∷ []))
    ∷ at 8 (return_line (binary Eq (read (codes "state") (codes "ticks")) (literal 0))) ∷ []

is_state_in_invariant : first_fault no_strays ka raw_state_in_invariant ≡ Some (8, S5)
is_state_in_invariant = refl

abbrev raw_kernel_in_property : List Line
raw_kernel_in_property =
    at 1 (class_line (codes "State"))
    ∷ at 2 (field_line (codes "ticks") [] (Bits 8))
    ∷ at 4 (def_line (codes "equiv") ((codes "kernel") ∷ (codes "state") ∷ []))
    ∷ at 5 (return_line (binary Eq (read (codes "state") (codes "ticks")) (path (codes "ticks") no_steps)))
    ∷ at 7 (def_line (codes "prop_a") ((codes "state") ∷ []))
    ∷ at 8 (return_line (binary Eq (path (codes "ticks") no_steps) (literal 0))) ∷ []

is_kernel_in_property : first_fault no_strays ka raw_kernel_in_property ≡ Some (8, S5)
is_kernel_in_property = refl

abbrev raw_property : List Line
raw_property =
    at 1 (class_line (codes "State"))
    ∷ at 2 (field_line (codes "ticks") [] (Bits 8))
    ∷ at 4 (def_line (codes "equiv") ((codes "kernel") ∷ (codes "state") ∷ []))
    ∷ at 5 (return_line (binary Eq (read (codes "state") (codes "ticks")) (path (codes "ticks") no_steps)))
    ∷ at 7 (def_line (codes "prop_a") ((codes "state") ∷ []))
    ∷ at 8 (let_line (codes "a") (binary Add (read (codes "state") (codes "ticks")) (literal 1)))
    ∷ at 9 (return_line (any_of (tree_and (binary Eq (named (codes "a")) (literal 0)) (tree_and (binary Ult (named (codes "a")) (literal 200)) no_trees)))) ∷ []

is_property : first_fault no_strays ka raw_property ≡ None
is_property = refl

has_property : is_some (spec_of ka raw_property) ≡ true
has_property = refl

abbrev raw_global_unknown : List Line
raw_global_unknown =
    at 1 (def_line (codes "inv_a") ((codes "kernel") ∷ []))
    ∷ at 2 (return_line (binary Eq (path (codes "tocks") no_steps) (literal 0))) ∷ []

is_global_unknown : first_fault no_strays ka raw_global_unknown ≡ Some (2, S5)
is_global_unknown = refl

abbrev raw_literal_fits : List Line
raw_literal_fits =
    at 1 (def_line (codes "inv_a") ((codes "kernel") ∷ []))
    ∷ at 2 (return_line (binary Eq (path (codes "ticks") no_steps) (literal 255))) ∷ []

is_literal_fits : first_fault no_strays ka raw_literal_fits ≡ None
is_literal_fits = refl

has_literal_fits : is_some (spec_of ka raw_literal_fits) ≡ true
has_literal_fits = refl

abbrev raw_literal_too_wide : List Line
raw_literal_too_wide =
    at 1 (def_line (codes "inv_a") ((codes "kernel") ∷ []))
    ∷ at 2 (return_line (binary Eq (path (codes "ticks") no_steps) (literal 256))) ∷ []

is_literal_too_wide : first_fault no_strays ka raw_literal_too_wide ≡ Some (2, S7)
is_literal_too_wide = refl

abbrev raw_minus_literal : List Line
raw_minus_literal =
    at 1 (def_line (codes "inv_a") ((codes "kernel") ∷ []))
    ∷ at 2 (return_line (binary Eq (path (codes "ticks") no_steps) (unary Minus (literal 200)))) ∷ []

is_minus_literal : first_fault no_strays ka raw_minus_literal ≡ None
is_minus_literal = refl

has_minus_literal : is_some (spec_of ka raw_minus_literal) ≡ true
has_minus_literal = refl

abbrev raw_constant_below : List Line
raw_constant_below =
    at 1 (constant_line (codes "N") (neg_ℤ (pos 129)))
    ∷ at 2 (def_line (codes "inv_a") ((codes "kernel") ∷ []))
    ∷ at 3 (return_line (binary Eq (path (codes "ticks") no_steps) (named (codes "N")))) ∷ []

is_constant_below : first_fault no_strays ka raw_constant_below ≡ Some (3, S7)
is_constant_below = refl

abbrev raw_constant_least : List Line
raw_constant_least =
    at 1 (constant_line (codes "N") (neg_ℤ (pos 128)))
    ∷ at 2 (def_line (codes "inv_a") ((codes "kernel") ∷ []))
    ∷ at 3 (return_line (binary Eq (path (codes "ticks") no_steps) (named (codes "N")))) ∷ []

is_constant_least : first_fault no_strays ka raw_constant_least ≡ None
is_constant_least = refl

has_constant_least : is_some (spec_of ka raw_constant_least) ≡ true
has_constant_least = refl

abbrev raw_no_width : List Line
raw_no_width =
    at 1 (def_line (codes "inv_a") ((codes "kernel") ∷ []))
    ∷ at 2 (return_line (binary Eq (literal 1) (literal 1))) ∷ []

is_no_width : first_fault no_strays ka raw_no_width ≡ Some (2, S7)
is_no_width = refl

abbrev raw_let_no_width : List Line
raw_let_no_width =
    at 1 (def_line (codes "inv_a") ((codes "kernel") ∷ []))
    ∷ at 2 (let_line (codes "a") (binary Add (literal 1) (literal 2)))
    ∷ at 3 (return_line (truth true)) ∷ []

is_let_no_width : first_fault no_strays ka raw_let_no_width ≡ Some (2, S7)
is_let_no_width = refl

abbrev raw_bool_eq : List Line
raw_bool_eq =
    at 1 (def_line (codes "inv_a") ((codes "kernel") ∷ []))
    ∷ at 2 (return_line (binary Eq (truth true) (unary Not (truth false)))) ∷ []

is_bool_eq : first_fault no_strays ka raw_bool_eq ≡ None
is_bool_eq = refl

has_bool_eq : is_some (spec_of ka raw_bool_eq) ≡ true
has_bool_eq = refl

abbrev raw_bool_is_no_number : List Line
raw_bool_is_no_number =
    at 1 (def_line (codes "inv_a") ((codes "kernel") ∷ []))
    ∷ at 2 (return_line (sized 1 1)) ∷ []

is_bool_is_no_number : first_fault no_strays ka raw_bool_is_no_number ≡ Some (2, S7)
is_bool_is_no_number = refl

abbrev raw_if_of_booleans : List Line
raw_if_of_booleans =
    at 1 (def_line (codes "inv_a") ((codes "kernel") ∷ []))
    ∷ at 2 (return_line (choose (truth true) (truth true) (truth false))) ∷ []

is_if_of_booleans : first_fault no_strays ka raw_if_of_booleans ≡ Some (2, S7)
is_if_of_booleans = refl

abbrev raw_wide_let : List Line
raw_wide_let =
    at 1 (def_line (codes "inv_a") ((codes "kernel") ∷ []))
    ∷ at 2 (let_line (codes "a") (resize (ZeroExt 57) (path (codes "ticks") no_steps)))
    ∷ at 3 (return_line (truth true)) ∷ []

is_wide_let : first_fault no_strays ka raw_wide_let ≡ Some (2, S7)
is_wide_let = refl

abbrev raw_wide_let_fits : List Line
raw_wide_let_fits =
    at 1 (def_line (codes "inv_a") ((codes "kernel") ∷ []))
    ∷ at 2 (let_line (codes "a") (resize (ZeroExt 56) (path (codes "ticks") no_steps)))
    ∷ at 3 (return_line (binary Eq (named (codes "a")) (literal 0))) ∷ []

is_wide_let_fits : first_fault no_strays ka raw_wide_let_fits ≡ None
is_wide_let_fits = refl

has_wide_let_fits : is_some (spec_of ka raw_wide_let_fits) ≡ true
has_wide_let_fits = refl

abbrev raw_extract : List Line
raw_extract =
    at 1 (def_line (codes "inv_a") ((codes "kernel") ∷ []))
    ∷ at 2 (let_line (codes "a") (resize (Extract 3 1) (path (codes "ticks") no_steps)))
    ∷ at 3 (return_line (binary Eq (named (codes "a")) (literal 7))) ∷ []

is_extract : first_fault no_strays ka raw_extract ≡ None
is_extract = refl

has_extract : is_some (spec_of ka raw_extract) ≡ true
has_extract = refl

abbrev raw_extract_high : List Line
raw_extract_high =
    at 1 (def_line (codes "inv_a") ((codes "kernel") ∷ []))
    ∷ at 2 (let_line (codes "a") (resize (Extract 8 1) (path (codes "ticks") no_steps)))
    ∷ at 3 (return_line (binary Eq (named (codes "a")) (literal 7))) ∷ []

is_extract_high : first_fault no_strays ka raw_extract_high ≡ Some (2, S7)
is_extract_high = refl

abbrev raw_variable_of_bits : List Line
raw_variable_of_bits =
    at 1 (sort_line (codes "B") (Bits 8))
    ∷ at 2 (def_line (codes "inv_a") ((codes "kernel") ∷ []))
    ∷ at 3 (var_line (codes "p") (Named (codes "B")))
    ∷ at 4 (return_line (truth true)) ∷ []

is_variable_of_bits : first_fault no_strays ka raw_variable_of_bits ≡ Some (3, S7)
is_variable_of_bits = refl

abbrev raw_index_over_width : List Line
raw_index_over_width =
    at 1 (sort_line (codes "B") (Index 3 9)) ∷ []

is_index_over_width : first_fault no_strays ka raw_index_over_width ≡ Some (1, S7)
is_index_over_width = refl

abbrev raw_index_of_nothing : List Line
raw_index_of_nothing =
    at 1 (sort_line (codes "B") (Index 3 0)) ∷ []

is_index_of_nothing : first_fault no_strays ka raw_index_of_nothing ≡ Some (1, S7)
is_index_of_nothing = refl

abbrev raw_key_of_bits : List Line
raw_key_of_bits =
    at 1 (class_line (codes "S"))
    ∷ at 2 (field_line (codes "a") ((Bits 8) ∷ []) (Bits 8)) ∷ []

is_key_of_bits : first_fault no_strays ka raw_key_of_bits ≡ Some (2, S7)
is_key_of_bits = refl

abbrev raw_map_without_arguments : List Line
raw_map_without_arguments =
    at 1 (sort_line (codes "I") (Index 8 4))
    ∷ at 2 (class_line (codes "S"))
    ∷ at 3 (field_line (codes "a") [] (Bits 8))
    ∷ at 4 (field_line (codes "m") ((Named (codes "I")) ∷ []) (Bits 32))
    ∷ at 5 (def_line (codes "equiv") ((codes "kernel") ∷ (codes "state") ∷ []))
    ∷ at 6 (var_line (codes "i") (Named (codes "I")))
    ∷ at 7 (return_line (all_of (tree_and (binary Eq (read (codes "state") (codes "a")) (literal 0)) (tree_and (for_all ((codes "i") ∷ []) (binary Eq (read_at (codes "state") (codes "m") (tree_and (named (codes "i")) no_trees)) (literal 0))) no_trees))))
    ∷ at 8 (def_line (codes "t") ((codes "state") ∷ (codes "x") ∷ (codes "y") ∷ []))
    ∷ at 9 (let_line (codes "a") (binary Eq (read (codes "state") (codes "m")) (literal 0)))
    ∷ at 10 (end_line (truth true) (codes "state") None) ∷ []

is_map_without_arguments : first_fault no_strays kt raw_map_without_arguments ≡ Some (9, S7)
is_map_without_arguments = refl

abbrev raw_scalar_with_arguments : List Line
raw_scalar_with_arguments =
    at 1 (sort_line (codes "I") (Index 8 4))
    ∷ at 2 (class_line (codes "S"))
    ∷ at 3 (field_line (codes "a") [] (Bits 8))
    ∷ at 4 (field_line (codes "m") ((Named (codes "I")) ∷ []) (Bits 32))
    ∷ at 5 (def_line (codes "equiv") ((codes "kernel") ∷ (codes "state") ∷ []))
    ∷ at 6 (var_line (codes "i") (Named (codes "I")))
    ∷ at 7 (return_line (all_of (tree_and (binary Eq (read (codes "state") (codes "a")) (literal 0)) (tree_and (for_all ((codes "i") ∷ []) (binary Eq (read_at (codes "state") (codes "m") (tree_and (named (codes "i")) no_trees)) (literal 0))) no_trees))))
    ∷ at 8 (def_line (codes "t") ((codes "state") ∷ (codes "x") ∷ (codes "y") ∷ []))
    ∷ at 9 (let_line (codes "a") (binary Eq (read_at (codes "state") (codes "a") (tree_and (named (codes "x")) no_trees)) (literal 0)))
    ∷ at 10 (end_line (truth true) (codes "state") None) ∷ []

is_scalar_with_arguments : first_fault no_strays kt raw_scalar_with_arguments ≡ Some (9, S7)
is_scalar_with_arguments = refl

abbrev raw_field_unknown : List Line
raw_field_unknown =
    at 1 (sort_line (codes "I") (Index 8 4))
    ∷ at 2 (class_line (codes "S"))
    ∷ at 3 (field_line (codes "a") [] (Bits 8))
    ∷ at 4 (field_line (codes "m") ((Named (codes "I")) ∷ []) (Bits 32))
    ∷ at 5 (def_line (codes "equiv") ((codes "kernel") ∷ (codes "state") ∷ []))
    ∷ at 6 (var_line (codes "i") (Named (codes "I")))
    ∷ at 7 (return_line (all_of (tree_and (binary Eq (read (codes "state") (codes "a")) (literal 0)) (tree_and (for_all ((codes "i") ∷ []) (binary Eq (read_at (codes "state") (codes "m") (tree_and (named (codes "i")) no_trees)) (literal 0))) no_trees))))
    ∷ at 8 (def_line (codes "t") ((codes "state") ∷ (codes "x") ∷ (codes "y") ∷ []))
    ∷ at 9 (let_line (codes "a") (binary Eq (read (codes "state") (codes "b")) (literal 0)))
    ∷ at 10 (end_line (truth true) (codes "state") None) ∷ []

is_field_unknown : first_fault no_strays kt raw_field_unknown ≡ Some (9, S5)
is_field_unknown = refl

abbrev raw_key_width : List Line
raw_key_width =
    at 1 (sort_line (codes "I") (Index 8 4))
    ∷ at 2 (class_line (codes "S"))
    ∷ at 3 (field_line (codes "a") [] (Bits 8))
    ∷ at 4 (field_line (codes "m") ((Named (codes "I")) ∷ []) (Bits 32))
    ∷ at 5 (def_line (codes "equiv") ((codes "kernel") ∷ (codes "state") ∷ []))
    ∷ at 6 (var_line (codes "i") (Named (codes "I")))
    ∷ at 7 (return_line (all_of (tree_and (binary Eq (read (codes "state") (codes "a")) (literal 0)) (tree_and (for_all ((codes "i") ∷ []) (binary Eq (read_at (codes "state") (codes "m") (tree_and (named (codes "i")) no_trees)) (literal 0))) no_trees))))
    ∷ at 8 (def_line (codes "t") ((codes "state") ∷ (codes "x") ∷ (codes "y") ∷ []))
    ∷ at 9 (let_line (codes "a") (read_at (codes "state") (codes "m") (tree_and (named (codes "y")) no_trees)))
    ∷ at 10 (end_line (truth true) (codes "state") None) ∷ []

is_key_width : first_fault no_strays kt raw_key_width ≡ Some (9, S7)
is_key_width = refl

abbrev raw_read : List Line
raw_read =
    at 1 (sort_line (codes "I") (Index 8 4))
    ∷ at 2 (class_line (codes "S"))
    ∷ at 3 (field_line (codes "a") [] (Bits 8))
    ∷ at 4 (field_line (codes "m") ((Named (codes "I")) ∷ []) (Bits 32))
    ∷ at 5 (def_line (codes "equiv") ((codes "kernel") ∷ (codes "state") ∷ []))
    ∷ at 6 (var_line (codes "i") (Named (codes "I")))
    ∷ at 7 (return_line (all_of (tree_and (binary Eq (read (codes "state") (codes "a")) (literal 0)) (tree_and (for_all ((codes "i") ∷ []) (binary Eq (read_at (codes "state") (codes "m") (tree_and (named (codes "i")) no_trees)) (literal 0))) no_trees))))
    ∷ at 8 (def_line (codes "t") ((codes "state") ∷ (codes "x") ∷ (codes "y") ∷ []))
    ∷ at 9 (let_line (codes "a") (read_at (codes "state") (codes "m") (tree_and (named (codes "x")) no_trees)))
    ∷ at 10 (end_line (binary Eq (named (codes "a")) (named (codes "y"))) (codes "state") (Some (named (codes "a")))) ∷ []

is_read : first_fault no_strays kt raw_read ≡ None
is_read = refl

has_read : is_some (spec_of kt raw_read) ≡ true
has_read = refl

abbrev raw_write : List Line
raw_write =
    at 1 (sort_line (codes "I") (Index 8 4))
    ∷ at 2 (class_line (codes "S"))
    ∷ at 3 (field_line (codes "a") [] (Bits 8))
    ∷ at 4 (field_line (codes "m") ((Named (codes "I")) ∷ []) (Bits 32))
    ∷ at 5 (def_line (codes "equiv") ((codes "kernel") ∷ (codes "state") ∷ []))
    ∷ at 6 (var_line (codes "i") (Named (codes "I")))
    ∷ at 7 (return_line (all_of (tree_and (binary Eq (read (codes "state") (codes "a")) (literal 0)) (tree_and (for_all ((codes "i") ∷ []) (binary Eq (read_at (codes "state") (codes "m") (tree_and (named (codes "i")) no_trees)) (literal 0))) no_trees))))
    ∷ at 8 (def_line (codes "t") ((codes "state") ∷ (codes "x") ∷ (codes "y") ∷ []))
    ∷ at 9 (copy_line (codes "n") (codes "state"))
    ∷ at 10 (write_line (codes "n") (codes "m") (Some (tree_and (named (codes "x")) no_trees)) (named (codes "y")))
    ∷ at 11 (write_line (codes "n") (codes "a") None (binary Add (read (codes "n") (codes "a")) (named (codes "x"))))
    ∷ at 12 (end_line (binary Ult (named (codes "x")) (literal 4)) (codes "n") (Some (read_at (codes "n") (codes "m") (tree_and (named (codes "x")) no_trees)))) ∷ []

is_write : first_fault no_strays kt raw_write ≡ None
is_write = refl

has_write : is_some (spec_of kt raw_write) ≡ true
has_write = refl

abbrev raw_write_to_old : List Line
raw_write_to_old =
    at 1 (sort_line (codes "I") (Index 8 4))
    ∷ at 2 (class_line (codes "S"))
    ∷ at 3 (field_line (codes "a") [] (Bits 8))
    ∷ at 4 (field_line (codes "m") ((Named (codes "I")) ∷ []) (Bits 32))
    ∷ at 5 (def_line (codes "equiv") ((codes "kernel") ∷ (codes "state") ∷ []))
    ∷ at 6 (var_line (codes "i") (Named (codes "I")))
    ∷ at 7 (return_line (all_of (tree_and (binary Eq (read (codes "state") (codes "a")) (literal 0)) (tree_and (for_all ((codes "i") ∷ []) (binary Eq (read_at (codes "state") (codes "m") (tree_and (named (codes "i")) no_trees)) (literal 0))) no_trees))))
    ∷ at 8 (def_line (codes "t") ((codes "state") ∷ (codes "x") ∷ (codes "y") ∷ []))
    ∷ at 9 (copy_line (codes "n") (codes "state"))
    ∷ at 10 (write_line (codes "state") (codes "m") (Some (tree_and (named (codes "x")) no_trees)) (named (codes "y")))
    ∷ at 11 (end_line (truth true) (codes "n") (Some (literal 0))) ∷ []

is_write_to_old : first_fault no_strays kt raw_write_to_old ≡ Some (10, S5)
is_write_to_old = refl

abbrev raw_write_width : List Line
raw_write_width =
    at 1 (sort_line (codes "I") (Index 8 4))
    ∷ at 2 (class_line (codes "S"))
    ∷ at 3 (field_line (codes "a") [] (Bits 8))
    ∷ at 4 (field_line (codes "m") ((Named (codes "I")) ∷ []) (Bits 32))
    ∷ at 5 (def_line (codes "equiv") ((codes "kernel") ∷ (codes "state") ∷ []))
    ∷ at 6 (var_line (codes "i") (Named (codes "I")))
    ∷ at 7 (return_line (all_of (tree_and (binary Eq (read (codes "state") (codes "a")) (literal 0)) (tree_and (for_all ((codes "i") ∷ []) (binary Eq (read_at (codes "state") (codes "m") (tree_and (named (codes "i")) no_trees)) (literal 0))) no_trees))))
    ∷ at 8 (def_line (codes "t") ((codes "state") ∷ (codes "x") ∷ (codes "y") ∷ []))
    ∷ at 9 (copy_line (codes "n") (codes "state"))
    ∷ at 10 (write_line (codes "n") (codes "m") (Some (tree_and (named (codes "x")) no_trees)) (named (codes "x")))
    ∷ at 11 (end_line (truth true) (codes "n") (Some (literal 0))) ∷ []

is_write_width : first_fault no_strays kt raw_write_width ≡ Some (10, S7)
is_write_width = refl

abbrev raw_write_no_index : List Line
raw_write_no_index =
    at 1 (sort_line (codes "I") (Index 8 4))
    ∷ at 2 (class_line (codes "S"))
    ∷ at 3 (field_line (codes "a") [] (Bits 8))
    ∷ at 4 (field_line (codes "m") ((Named (codes "I")) ∷ []) (Bits 32))
    ∷ at 5 (def_line (codes "equiv") ((codes "kernel") ∷ (codes "state") ∷ []))
    ∷ at 6 (var_line (codes "i") (Named (codes "I")))
    ∷ at 7 (return_line (all_of (tree_and (binary Eq (read (codes "state") (codes "a")) (literal 0)) (tree_and (for_all ((codes "i") ∷ []) (binary Eq (read_at (codes "state") (codes "m") (tree_and (named (codes "i")) no_trees)) (literal 0))) no_trees))))
    ∷ at 8 (def_line (codes "t") ((codes "state") ∷ (codes "x") ∷ (codes "y") ∷ []))
    ∷ at 9 (copy_line (codes "n") (codes "state"))
    ∷ at 10 (write_line (codes "n") (codes "m") None (named (codes "y")))
    ∷ at 11 (end_line (truth true) (codes "n") (Some (literal 0))) ∷ []

is_write_no_index : first_fault no_strays kt raw_write_no_index ≡ Some (10, S7)
is_write_no_index = refl

abbrev raw_copy_twice : List Line
raw_copy_twice =
    at 1 (sort_line (codes "I") (Index 8 4))
    ∷ at 2 (class_line (codes "S"))
    ∷ at 3 (field_line (codes "a") [] (Bits 8))
    ∷ at 4 (field_line (codes "m") ((Named (codes "I")) ∷ []) (Bits 32))
    ∷ at 5 (def_line (codes "equiv") ((codes "kernel") ∷ (codes "state") ∷ []))
    ∷ at 6 (var_line (codes "i") (Named (codes "I")))
    ∷ at 7 (return_line (all_of (tree_and (binary Eq (read (codes "state") (codes "a")) (literal 0)) (tree_and (for_all ((codes "i") ∷ []) (binary Eq (read_at (codes "state") (codes "m") (tree_and (named (codes "i")) no_trees)) (literal 0))) no_trees))))
    ∷ at 8 (def_line (codes "t") ((codes "state") ∷ (codes "x") ∷ (codes "y") ∷ []))
    ∷ at 9 (copy_line (codes "n") (codes "state"))
    ∷ at 10 (copy_line (codes "m") (codes "state"))
    ∷ at 11 (end_line (truth true) (codes "n") (Some (literal 0))) ∷ []

is_copy_twice : first_fault no_strays kt raw_copy_twice ≡ Some (10, S6)
is_copy_twice = refl

abbrev raw_copy_of_copy : List Line
raw_copy_of_copy =
    at 1 (sort_line (codes "I") (Index 8 4))
    ∷ at 2 (class_line (codes "S"))
    ∷ at 3 (field_line (codes "a") [] (Bits 8))
    ∷ at 4 (field_line (codes "m") ((Named (codes "I")) ∷ []) (Bits 32))
    ∷ at 5 (def_line (codes "equiv") ((codes "kernel") ∷ (codes "state") ∷ []))
    ∷ at 6 (var_line (codes "i") (Named (codes "I")))
    ∷ at 7 (return_line (all_of (tree_and (binary Eq (read (codes "state") (codes "a")) (literal 0)) (tree_and (for_all ((codes "i") ∷ []) (binary Eq (read_at (codes "state") (codes "m") (tree_and (named (codes "i")) no_trees)) (literal 0))) no_trees))))
    ∷ at 8 (def_line (codes "t") ((codes "state") ∷ (codes "x") ∷ (codes "y") ∷ []))
    ∷ at 9 (copy_line (codes "n") (codes "state"))
    ∷ at 10 (copy_line (codes "m") (codes "n"))
    ∷ at 11 (end_line (truth true) (codes "n") (Some (literal 0))) ∷ []

is_copy_of_copy : first_fault no_strays kt raw_copy_of_copy ≡ Some (10, S5)
is_copy_of_copy = refl

abbrev raw_return_of_nothing : List Line
raw_return_of_nothing =
    at 1 (sort_line (codes "I") (Index 8 4))
    ∷ at 2 (class_line (codes "S"))
    ∷ at 3 (field_line (codes "a") [] (Bits 8))
    ∷ at 4 (field_line (codes "m") ((Named (codes "I")) ∷ []) (Bits 32))
    ∷ at 5 (def_line (codes "equiv") ((codes "kernel") ∷ (codes "state") ∷ []))
    ∷ at 6 (var_line (codes "i") (Named (codes "I")))
    ∷ at 7 (return_line (all_of (tree_and (binary Eq (read (codes "state") (codes "a")) (literal 0)) (tree_and (for_all ((codes "i") ∷ []) (binary Eq (read_at (codes "state") (codes "m") (tree_and (named (codes "i")) no_trees)) (literal 0))) no_trees))))
    ∷ at 8 (def_line (codes "t") ((codes "state") ∷ (codes "x") ∷ (codes "y") ∷ []))
    ∷ at 9 (end_line (truth true) (codes "x") None) ∷ []

is_return_of_nothing : first_fault no_strays kt raw_return_of_nothing ≡ Some (9, S5)
is_return_of_nothing = refl

abbrev raw_result_width : List Line
raw_result_width =
    at 1 (sort_line (codes "I") (Index 8 4))
    ∷ at 2 (class_line (codes "S"))
    ∷ at 3 (field_line (codes "a") [] (Bits 8))
    ∷ at 4 (field_line (codes "m") ((Named (codes "I")) ∷ []) (Bits 32))
    ∷ at 5 (def_line (codes "equiv") ((codes "kernel") ∷ (codes "state") ∷ []))
    ∷ at 6 (var_line (codes "i") (Named (codes "I")))
    ∷ at 7 (return_line (all_of (tree_and (binary Eq (read (codes "state") (codes "a")) (literal 0)) (tree_and (for_all ((codes "i") ∷ []) (binary Eq (read_at (codes "state") (codes "m") (tree_and (named (codes "i")) no_trees)) (literal 0))) no_trees))))
    ∷ at 8 (def_line (codes "t") ((codes "state") ∷ (codes "x") ∷ (codes "y") ∷ []))
    ∷ at 9 (end_line (truth true) (codes "state") (Some (named (codes "x")))) ∷ []

is_result_width : first_fault no_strays kt raw_result_width ≡ Some (9, S7)
is_result_width = refl

abbrev raw_no_result : List Line
raw_no_result =
    at 1 (sort_line (codes "I") (Index 8 4))
    ∷ at 2 (class_line (codes "S"))
    ∷ at 3 (field_line (codes "a") [] (Bits 8))
    ∷ at 4 (field_line (codes "m") ((Named (codes "I")) ∷ []) (Bits 32))
    ∷ at 5 (def_line (codes "equiv") ((codes "kernel") ∷ (codes "state") ∷ []))
    ∷ at 6 (var_line (codes "i") (Named (codes "I")))
    ∷ at 7 (return_line (all_of (tree_and (binary Eq (read (codes "state") (codes "a")) (literal 0)) (tree_and (for_all ((codes "i") ∷ []) (binary Eq (read_at (codes "state") (codes "m") (tree_and (named (codes "i")) no_trees)) (literal 0))) no_trees))))
    ∷ at 8 (def_line (codes "t") ((codes "state") ∷ (codes "x") ∷ (codes "y") ∷ []))
    ∷ at 9 (end_line (truth true) (codes "state") None) ∷ []

is_no_result : first_fault no_strays kt raw_no_result ≡ None
is_no_result = refl

has_no_result : is_some (spec_of kt raw_no_result) ≡ true
has_no_result = refl

abbrev raw_valid_is_a_number : List Line
raw_valid_is_a_number =
    at 1 (sort_line (codes "I") (Index 8 4))
    ∷ at 2 (class_line (codes "S"))
    ∷ at 3 (field_line (codes "a") [] (Bits 8))
    ∷ at 4 (field_line (codes "m") ((Named (codes "I")) ∷ []) (Bits 32))
    ∷ at 5 (def_line (codes "equiv") ((codes "kernel") ∷ (codes "state") ∷ []))
    ∷ at 6 (var_line (codes "i") (Named (codes "I")))
    ∷ at 7 (return_line (all_of (tree_and (binary Eq (read (codes "state") (codes "a")) (literal 0)) (tree_and (for_all ((codes "i") ∷ []) (binary Eq (read_at (codes "state") (codes "m") (tree_and (named (codes "i")) no_trees)) (literal 0))) no_trees))))
    ∷ at 8 (def_line (codes "t") ((codes "state") ∷ (codes "x") ∷ (codes "y") ∷ []))
    ∷ at 9 (end_line (named (codes "x")) (codes "state") None) ∷ []

is_valid_is_a_number : first_fault no_strays kt raw_valid_is_a_number ≡ Some (9, S7)
is_valid_is_a_number = refl

abbrev raw_void_result_unfit : List Line
raw_void_result_unfit =
    at 1 (def_line (codes "tick") ((codes "state") ∷ []))
    ∷ at 2 (end_line (truth true) (codes "state") (Some (binary Add (truth true) (literal 1)))) ∷ []

is_void_result_unfit : first_fault no_strays ka raw_void_result_unfit ≡ Some (2, S7)
is_void_result_unfit = refl

abbrev raw_void_result_any : List Line
raw_void_result_any =
    at 1 (def_line (codes "tick") ((codes "state") ∷ []))
    ∷ at 2 (end_line (truth true) (codes "state") (Some (truth true))) ∷ []

is_void_result_any : first_fault no_strays ka raw_void_result_any ≡ Some (2, S11)
is_void_result_any = refl

-- constants that no width holds, where nothing is asked
abbrev raw_void_constant : List Line
raw_void_constant =
    at 1 (constant_line (codes "N") (neg_ℤ (pos 18446744073709551615)))
    ∷ at 2 (def_line (codes "tick") ((codes "state") ∷ []))
    ∷ at 3 (end_line (truth true) (codes "state") (Some (named (codes "N")))) ∷ []

is_void_constant : first_fault no_strays ka raw_void_constant ≡ Some (3, S11)
is_void_constant = refl

abbrev raw_void_sum : List Line
raw_void_sum =
    at 1 (constant_line (codes "N") (neg_ℤ (pos 9223372036854775809)))
    ∷ at 2 (def_line (codes "tick") ((codes "state") ∷ []))
    ∷ at 3 (end_line (truth true) (codes "state") (Some (binary Add (literal 1) (unary Minus (named (codes "N")))))) ∷ []

is_void_sum : first_fault no_strays ka raw_void_sum ≡ Some (3, S11)
is_void_sum = refl

abbrev raw_void_choice : List Line
raw_void_choice =
    at 1 (constant_line (codes "N") (neg_ℤ (pos 9223372036854775809)))
    ∷ at 2 (def_line (codes "tick") ((codes "state") ∷ []))
    ∷ at 3 (end_line (truth true) (codes "state") (Some (choose (truth true) (named (codes "N")) (literal 2)))) ∷ []

is_void_choice : first_fault no_strays ka raw_void_choice ≡ Some (3, S11)
is_void_choice = refl

abbrev raw_void_choice_unfit : List Line
raw_void_choice_unfit =
    at 1 (constant_line (codes "N") (neg_ℤ (pos 9223372036854775809)))
    ∷ at 2 (def_line (codes "tick") ((codes "state") ∷ []))
    ∷ at 3 (end_line (truth true) (codes "state") (Some (choose (literal 1) (named (codes "N")) (literal 2)))) ∷ []

is_void_choice_unfit : first_fault no_strays ka raw_void_choice_unfit ≡ Some (3, S7)
is_void_choice_unfit = refl

abbrev raw_void_resized : List Line
raw_void_resized =
    at 1 (def_line (codes "tick") ((codes "state") ∷ []))
    ∷ at 2 (end_line (truth true) (codes "state") (Some (binary Add (literal 1) (resize (ZeroExt 8) (literal 1))))) ∷ []

is_void_resized : first_fault no_strays ka raw_void_resized ≡ Some (2, S7)
is_void_resized = refl

abbrev raw_fields_behind : List Line
raw_fields_behind =
    at 1 (def_line (codes "equiv") ((codes "kernel") ∷ (codes "state") ∷ []))
    ∷ at 2 (return_line (binary Eq (read (codes "state") (codes "ticks")) (path (codes "ticks") no_steps)))
    ∷ at 3 (class_line (codes "State"))
    ∷ at 4 (field_line (codes "ticks") [] (Bits 8)) ∷ []

is_fields_behind : first_fault no_strays ka raw_fields_behind ≡ None
is_fields_behind = refl

has_fields_behind : is_some (spec_of ka raw_fields_behind) ≡ true
has_fields_behind = refl

abbrev raw_conjunct_no_equation : List Line
raw_conjunct_no_equation =
    at 1 (class_line (codes "State"))
    ∷ at 2 (field_line (codes "ticks") [] (Bits 8))
    ∷ at 4 (def_line (codes "equiv") ((codes "kernel") ∷ (codes "state") ∷ []))
    ∷ at 5 (return_line (binary Ne (read (codes "state") (codes "ticks")) (path (codes "ticks") no_steps))) ∷ []

is_conjunct_no_equation : first_fault no_strays ka raw_conjunct_no_equation ≡ Some (2, S9)
is_conjunct_no_equation = refl

abbrev raw_extra_conjunct : List Line
raw_extra_conjunct =
    at 1 (class_line (codes "State"))
    ∷ at 2 (field_line (codes "ticks") [] (Bits 8))
    ∷ at 4 (def_line (codes "equiv") ((codes "kernel") ∷ (codes "state") ∷ []))
    ∷ at 5 (return_line (all_of (tree_and (binary Eq (read (codes "state") (codes "ticks")) (path (codes "ticks") no_steps)) (tree_and (truth true) no_trees)))) ∷ []

is_extra_conjunct : first_fault no_strays ka raw_extra_conjunct ≡ Some (5, S9)
is_extra_conjunct = refl

abbrev raw_equation_twice : List Line
raw_equation_twice =
    at 1 (class_line (codes "State"))
    ∷ at 2 (field_line (codes "ticks") [] (Bits 8))
    ∷ at 4 (def_line (codes "equiv") ((codes "kernel") ∷ (codes "state") ∷ []))
    ∷ at 5 (return_line (all_of (tree_and (binary Eq (read (codes "state") (codes "ticks")) (path (codes "ticks") no_steps)) (tree_and (binary Eq (read (codes "state") (codes "ticks")) (literal 0)) no_trees)))) ∷ []

is_equation_twice : first_fault no_strays ka raw_equation_twice ≡ Some (2, S9)
is_equation_twice = refl

abbrev raw_equation_right_unfit : List Line
raw_equation_right_unfit =
    at 1 (class_line (codes "State"))
    ∷ at 2 (field_line (codes "ticks") [] (Bits 8))
    ∷ at 4 (def_line (codes "equiv") ((codes "kernel") ∷ (codes "state") ∷ []))
    ∷ at 5 (return_line (binary Eq (read (codes "state") (codes "ticks")) (literal 256))) ∷ []

is_equation_right_unfit : first_fault no_strays ka raw_equation_right_unfit ≡ Some (5, S7)
is_equation_right_unfit = refl

abbrev raw_equation_reads_state : List Line
raw_equation_reads_state =
    at 1 (class_line (codes "State"))
    ∷ at 2 (field_line (codes "ticks") [] (Bits 8))
    ∷ at 4 (def_line (codes "equiv") ((codes "kernel") ∷ (codes "state") ∷ []))
    ∷ at 5 (return_line (binary Eq (read (codes "state") (codes "ticks")) (read (codes "state") (codes "ticks")))) ∷ []

is_equation_reads_state : first_fault no_strays ka raw_equation_reads_state ≡ Some (2, S9)
is_equation_reads_state = refl

abbrev raw_equation_local : List Line
raw_equation_local =
    at 1 (class_line (codes "State"))
    ∷ at 2 (field_line (codes "ticks") [] (Bits 8))
    ∷ at 4 (def_line (codes "equiv") ((codes "kernel") ∷ (codes "state") ∷ []))
    ∷ at 5 (let_line (codes "a") (binary Add (path (codes "ticks") no_steps) (literal 1)))
    ∷ at 6 (return_line (binary Eq (read (codes "state") (codes "ticks")) (named (codes "a")))) ∷ []

is_equation_local : first_fault no_strays ka raw_equation_local ≡ None
is_equation_local = refl

has_equation_local : is_some (spec_of ka raw_equation_local) ≡ true
has_equation_local = refl

abbrev raw_equation_local_reads : List Line
raw_equation_local_reads =
    at 1 (class_line (codes "State"))
    ∷ at 2 (field_line (codes "ticks") [] (Bits 8))
    ∷ at 4 (def_line (codes "equiv") ((codes "kernel") ∷ (codes "state") ∷ []))
    ∷ at 5 (let_line (codes "a") (binary Add (read (codes "state") (codes "ticks")) (literal 1)))
    ∷ at 6 (return_line (binary Eq (read (codes "state") (codes "ticks")) (named (codes "a")))) ∷ []

is_equation_local_reads : first_fault no_strays ka raw_equation_local_reads ≡ Some (2, S9)
is_equation_local_reads = refl

abbrev raw_two_keys : List Line
raw_two_keys =
    at 1 (sort_line (codes "I") (Index 8 4))
    ∷ at 2 (sort_line (codes "J") (Index 8 5))
    ∷ at 3 (class_line (codes "S"))
    ∷ at 4 (field_line (codes "m") ((Named (codes "I")) ∷ (Named (codes "J")) ∷ []) (Bits 32))
    ∷ at 5 (def_line (codes "equiv") ((codes "kernel") ∷ (codes "state") ∷ []))
    ∷ at 6 (var_line (codes "i") (Named (codes "I")))
    ∷ at 7 (var_line (codes "j") (Named (codes "J")))
    ∷ at 8 (return_line (for_all ((codes "j") ∷ (codes "i") ∷ []) (binary Eq (read_at (codes "state") (codes "m") (tree_and (named (codes "i")) (tree_and (named (codes "j")) no_trees))) (binary Add (path (codes "procs") (step_and (element (named (codes "i"))) (step_and (member 1) no_steps))) (resize (ZeroExt 24) (named (codes "j"))))))) ∷ []

is_two_keys : first_fault no_strays kb raw_two_keys ≡ None
is_two_keys = refl

has_two_keys : is_some (spec_of kb raw_two_keys) ≡ true
has_two_keys = refl

abbrev raw_keys_swapped : List Line
raw_keys_swapped =
    at 1 (sort_line (codes "I") (Index 8 4))
    ∷ at 2 (sort_line (codes "J") (Index 8 5))
    ∷ at 3 (class_line (codes "S"))
    ∷ at 4 (field_line (codes "m") ((Named (codes "I")) ∷ (Named (codes "J")) ∷ []) (Bits 32))
    ∷ at 5 (def_line (codes "equiv") ((codes "kernel") ∷ (codes "state") ∷ []))
    ∷ at 6 (var_line (codes "i") (Named (codes "I")))
    ∷ at 7 (var_line (codes "j") (Named (codes "J")))
    ∷ at 8 (return_line (for_all ((codes "j") ∷ (codes "i") ∷ []) (binary Eq (read_at (codes "state") (codes "m") (tree_and (named (codes "j")) (tree_and (named (codes "i")) no_trees))) (literal 0)))) ∷ []

is_keys_swapped : first_fault no_strays kb raw_keys_swapped ≡ Some (4, S9)
is_keys_swapped = refl

abbrev raw_key_left_out : List Line
raw_key_left_out =
    at 1 (sort_line (codes "I") (Index 8 4))
    ∷ at 2 (class_line (codes "S"))
    ∷ at 3 (field_line (codes "m") ((Named (codes "I")) ∷ []) (Bits 32))
    ∷ at 4 (def_line (codes "equiv") ((codes "kernel") ∷ (codes "state") ∷ []))
    ∷ at 5 (var_line (codes "i") (Named (codes "I")))
    ∷ at 6 (var_line (codes "j") (Named (codes "I")))
    ∷ at 7 (return_line (for_all ((codes "j") ∷ (codes "i") ∷ []) (binary Eq (read_at (codes "state") (codes "m") (tree_and (named (codes "i")) no_trees)) (literal 0)))) ∷ []

is_key_left_out : first_fault no_strays kb raw_key_left_out ≡ Some (3, S9)
is_key_left_out = refl

abbrev raw_key_of_other_size : List Line
raw_key_of_other_size =
    at 1 (sort_line (codes "I") (Index 8 4))
    ∷ at 2 (sort_line (codes "J") (Index 8 5))
    ∷ at 3 (class_line (codes "S"))
    ∷ at 4 (field_line (codes "m") ((Named (codes "I")) ∷ []) (Bits 32))
    ∷ at 5 (def_line (codes "equiv") ((codes "kernel") ∷ (codes "state") ∷ []))
    ∷ at 6 (var_line (codes "i") (Named (codes "J")))
    ∷ at 7 (return_line (for_all ((codes "i") ∷ []) (binary Eq (read_at (codes "state") (codes "m") (tree_and (named (codes "i")) no_trees)) (literal 0)))) ∷ []

is_key_of_other_size : first_fault no_strays kb raw_key_of_other_size ≡ Some (4, S9)
is_key_of_other_size = refl

abbrev raw_equation_and_unknown : List Line
raw_equation_and_unknown =
    at 1 (sort_line (codes "I") (Index 8 4))
    ∷ at 2 (class_line (codes "S"))
    ∷ at 3 (field_line (codes "m") ((Named (codes "I")) ∷ []) (Bits 32))
    ∷ at 4 (def_line (codes "equiv") ((codes "kernel") ∷ (codes "state") ∷ []))
    ∷ at 5 (var_line (codes "i") (Named (codes "I")))
    ∷ at 6 (return_line (for_all ((codes "i") ∷ []) (binary Eq (read_at (codes "state") (codes "m") (tree_and (named (codes "i")) no_trees)) (path (codes "nope") no_steps)))) ∷ []

is_equation_and_unknown : first_fault no_strays kb raw_equation_and_unknown ≡ Some (6, S5)
is_equation_and_unknown = refl

abbrev raw_entries : List Line
raw_entries =
    at 1 (class_line (codes "S"))
    ∷ at 2 (field_line (codes "m") ((Index 16 65536) ∷ (Index 8 17) ∷ []) (Bits 8))
    ∷ at 3 (def_line (codes "equiv") ((codes "kernel") ∷ (codes "state") ∷ []))
    ∷ at 4 (var_line (codes "i") (Index 16 65536))
    ∷ at 5 (var_line (codes "j") (Index 8 17))
    ∷ at 6 (return_line (for_all ((codes "i") ∷ (codes "j") ∷ []) (binary Eq (read_at (codes "state") (codes "m") (tree_and (named (codes "i")) (tree_and (named (codes "j")) no_trees))) (literal 0)))) ∷ []

is_entries : first_fault no_strays ka raw_entries ≡ Some (2, S12)
is_entries = refl

abbrev raw_entries_fit : List Line
raw_entries_fit =
    at 1 (class_line (codes "S"))
    ∷ at 2 (field_line (codes "m") ((Index 16 65536) ∷ (Index 8 16) ∷ []) (Bits 8))
    ∷ at 3 (def_line (codes "equiv") ((codes "kernel") ∷ (codes "state") ∷ []))
    ∷ at 4 (var_line (codes "i") (Index 16 65536))
    ∷ at 5 (var_line (codes "j") (Index 8 16))
    ∷ at 6 (return_line (for_all ((codes "i") ∷ (codes "j") ∷ []) (binary Eq (read_at (codes "state") (codes "m") (tree_and (named (codes "i")) (tree_and (named (codes "j")) no_trees))) (literal 0)))) ∷ []

is_entries_fit : first_fault no_strays ka raw_entries_fit ≡ None
is_entries_fit = refl

has_entries_fit : is_some (spec_of ka raw_entries_fit) ≡ true
has_entries_fit = refl

abbrev raw_all_entries : List Line
raw_all_entries =
    at 1 (sort_line (codes "I") (Index 16 65536))
    ∷ at 2 (sort_line (codes "J") (Index 8 16))
    ∷ at 3 (class_line (codes "S"))
    ∷ at 4 (field_line (codes "a") ((Named (codes "I")) ∷ (Named (codes "J")) ∷ []) (Bits 8))
    ∷ at 5 (field_line (codes "b") ((Named (codes "I")) ∷ (Named (codes "J")) ∷ []) (Bits 8))
    ∷ at 6 (field_line (codes "c") ((Named (codes "I")) ∷ (Named (codes "J")) ∷ []) (Bits 8))
    ∷ at 7 (field_line (codes "d") ((Named (codes "I")) ∷ (Named (codes "J")) ∷ []) (Bits 8))
    ∷ at 8 (field_line (codes "e") [] (Bits 8))
    ∷ at 9 (def_line (codes "equiv") ((codes "kernel") ∷ (codes "state") ∷ []))
    ∷ at 10 (var_line (codes "i") (Named (codes "I")))
    ∷ at 11 (var_line (codes "j") (Named (codes "J")))
    ∷ at 12 (return_line (all_of (tree_and (for_all ((codes "i") ∷ (codes "j") ∷ []) (binary Eq (read_at (codes "state") (codes "a") (tree_and (named (codes "i")) (tree_and (named (codes "j")) no_trees))) (literal 0))) (tree_and (for_all ((codes "i") ∷ (codes "j") ∷ []) (binary Eq (read_at (codes "state") (codes "b") (tree_and (named (codes "i")) (tree_and (named (codes "j")) no_trees))) (literal 0))) (tree_and (for_all ((codes "i") ∷ (codes "j") ∷ []) (binary Eq (read_at (codes "state") (codes "c") (tree_and (named (codes "i")) (tree_and (named (codes "j")) no_trees))) (literal 0))) (tree_and (for_all ((codes "i") ∷ (codes "j") ∷ []) (binary Eq (read_at (codes "state") (codes "d") (tree_and (named (codes "i")) (tree_and (named (codes "j")) no_trees))) (literal 0))) (tree_and (binary Eq (read (codes "state") (codes "e")) (literal 0)) no_trees))))))) ∷ []

is_all_entries : first_fault no_strays ka raw_all_entries ≡ Some (8, S12)
is_all_entries = refl

abbrev raw_local_ends : List Line
raw_local_ends =
    at 1 (def_line (codes "inv_a") ((codes "kernel") ∷ []))
    ∷ at 2 (let_line (codes "a") (path (codes "ticks") no_steps))
    ∷ at 3 (return_line (binary Eq (named (codes "a")) (literal 0)))
    ∷ at 4 (def_line (codes "inv_b") ((codes "kernel") ∷ []))
    ∷ at 5 (return_line (binary Eq (named (codes "a")) (literal 0))) ∷ []

is_local_ends : first_fault no_strays ka raw_local_ends ≡ Some (5, S5)
is_local_ends = refl

abbrev raw_hidden_sort : List Line
raw_hidden_sort =
    at 1 (sort_line (codes "T") (Index 8 4))
    ∷ at 2 (def_line (codes "inv_a") ((codes "kernel") ∷ []))
    ∷ at 3 (var_line (codes "T") (Named (codes "T")))
    ∷ at 4 (var_line (codes "u") (Named (codes "T")))
    ∷ at 5 (return_line (truth true)) ∷ []

is_hidden_sort : first_fault no_strays ka raw_hidden_sort ≡ Some (4, S5)
is_hidden_sort = refl

abbrev raw_index_literal : List Line
raw_index_literal =
    at 1 (def_line (codes "inv_a") ((codes "kernel") ∷ []))
    ∷ at 2 (return_line (binary Eq (path (codes "procs") (step_and (element (literal 4294967296)) (step_and (member 0) no_steps))) (literal 0))) ∷ []

is_index_literal : first_fault no_strays kb raw_index_literal ≡ None
is_index_literal = refl

has_index_literal : is_some (spec_of kb raw_index_literal) ≡ true
has_index_literal = refl

abbrev raw_handler_and_kernel : List Line
raw_handler_and_kernel =
    at 1 (class_line (codes "State"))
    ∷ at 2 (field_line (codes "ticks") [] (Bits 8))
    ∷ at 4 (def_line (codes "equiv") ((codes "kernel") ∷ (codes "state") ∷ []))
    ∷ at 5 (return_line (binary Eq (read (codes "state") (codes "ticks")) (path (codes "ticks") no_steps)))
    ∷ at 7 (def_line (codes "tick") ((codes "state") ∷ []))
    ∷ at 8 (copy_line (codes "new") (codes "state"))
    ∷ at 9 (write_line (codes "new") (codes "ticks") None (path (codes "ticks") no_steps))
    ∷ at 10 (end_line (truth true) (codes "new") None) ∷ []

is_handler_and_kernel : first_fault no_strays ka raw_handler_and_kernel ≡ Some (9, S5)
is_handler_and_kernel = refl

abbrev raw_parameters : List Line
raw_parameters =
    at 1 (class_line (codes "State"))
    ∷ at 2 (field_line (codes "ticks") [] (Bits 8))
    ∷ at 4 (def_line (codes "equiv") ((codes "kernel") ∷ (codes "state") ∷ []))
    ∷ at 5 (return_line (binary Eq (read (codes "state") (codes "ticks")) (path (codes "ticks") no_steps)))
    ∷ at 7 (def_line (codes "tick") ((codes "state") ∷ (codes "x") ∷ []))
    ∷ at 8 (copy_line (codes "new") (codes "state"))
    ∷ at 9 (write_line (codes "new") (codes "ticks") None (binary Add (read (codes "state") (codes "ticks")) (literal 1)))
    ∷ at 10 (end_line (truth true) (codes "new") None) ∷ []

is_parameters : first_fault no_strays ka raw_parameters ≡ Some (7, S10)
is_parameters = refl

abbrev raw_declared : List Line
raw_declared =
    at 1 (def_line (codes "flush") ((codes "state") ∷ []))
    ∷ at 2 (end_line (truth true) (codes "state") None) ∷ []

is_declared : first_fault no_strays kc raw_declared ≡ Some (1, S10)
is_declared = refl

-- ---- whole specifications

the_tick : spec_of ka raw_tick
    ≡ Some (record {
      fields = record { line = 2; name = codes "ticks"; keys = []; width = 8; value = tree.path 0 0 tree.no_steps 1 } ∷ [];
      equation_locals = [];
      invariants = [];
      properties = [];
      transitions = record {
        line = 7;
        name = codes "tick";
        function = 0;
        widths = [];
        lines = tree.write_line 0 tree.no_trees (tree.binary Add (tree.entry Old 0 tree.no_trees) (tree.constant 8 1)) ∷ [];
        valid = tree.constant 1 1;
        returns_new = true;
        result = None;
        result_width = 0;
      } ∷ [];
      objects = 1 ∷ [];
    })
the_tick = refl

-- the variables are those of the keys, in their order, and not those of the list
the_two_keys : option_map (λ s. s.fields) (spec_of kb raw_two_keys)
    ≡ Some (record {
      line = 4;
      name = codes "m";
      keys = record { width = 8; size = 4 } ∷ record { width = 8; size = 5 } ∷ [];
      width = 32;
      value =
          tree.binary Add (tree.path 0 4 (tree.step_and 3 8 (tree.bound 0 8) tree.no_steps) 4)
          (tree.resize (resized.ZeroExt 24) (tree.bound 1 8));
    } ∷ [])
the_two_keys = refl

-- a local name that reads the kernel, with its place
the_equation_local : option_map (λ s. s.equation_locals) (spec_of ka raw_equation_local)
    ≡ Some (tree.binary Add (tree.path 0 0 tree.no_steps 1) (tree.constant 8 1) ∷ [])
the_equation_local = refl

its_value : option_map (λ s. map (λ f. f.value) s.fields) (spec_of ka raw_equation_local) ≡ Some (tree.local 0 ∷ [])
its_value = refl

the_property : option_map (λ s. s.properties) (spec_of ka raw_property)
    ≡ Some (record {
      name = codes "a";
      locals = tree.binary Add (tree.entry Old 0 tree.no_trees) (tree.constant 8 1) ∷ [];
      value =
          tree.any_of
          (tree.tree_and (tree.binary Eq (tree.local 0) (tree.constant 8 0))
          (tree.tree_and (tree.binary Ult (tree.local 0) (tree.constant 8 200)) tree.no_trees));
    } ∷ [])
the_property = refl

-- ---- the 257th transition

abbrev no_text : Text
no_text = record { strays = no_strays; equated = [] }

is_the_last : fault_of no_text (record (begin ka []) { handlers = 255 }) (def_line (codes "tick") (codes "state" ∷ [])) ≡ None
is_the_last = refl

is_one_more : fault_of no_text (record (begin ka []) { handlers = 256 }) (def_line (codes "tick") (codes "state" ∷ [])) ≡ Some S13
is_one_more = refl
