-- A variable's line.
use Rattle.std.proofs.Common.{ℕ, Bool, true, false, Option, Some, None, List}
use Rattle.spec_tree.specs.Plain as tree
use Rattle.spec_tree.specs.Plain.{Key}
use Rattle.spec_tree.specs.Sorted.{Context, FieldSort, with_locals, lets_of}
use Rattle.spec_names.specs.Kernel.{Name, Kernel}
use Rattle.spec_read.specs.Places.{Function, equivalence, invariant, property, handler}
use Rattle.spec_scope.specs.Scope.{Names, with_name}
use Rattle.spec_lines.specs.Sorts.{variable_meaning}
use Rattle.spec_lines.specs.Behind.{Head}
use Rattle.spec_sound.proofs.Meanings.{Means, named}
use Rattle.spec_sound.proofs.Bodies.{kernel_over, state_over, step_over, InBody, InHead, widths_of}

variable_means : (reading : Bool) (c : Context) (o : Option Key) → Means reading c (variable_meaning o)
variable_means reading c None = tt
variable_means reading c (Some key) = tt

body_variable : (F : List FieldSort) (O : List ℕ) (function : Option Function) (widths : List ℕ) (result : Option ℕ) (inner : Names) (lets : ℕ) (locals : List tree.Tree)
    (lines : List tree.Line) (x : Name) (v : Option Key) → InBody F O function widths result inner lets locals lines
    → InBody F O function widths result (with_name inner x (variable_meaning v)) lets locals lines
body_variable F O (Some equivalence) widths result inner lets locals lines x v is =
    let c = with_locals (kernel_over F O) locals in
    record { names = named (Means false c) inner x (variable_meaning v) is.names (variable_means false c v); counted = is.counted; sorted = is.sorted }
body_variable F O (Some (invariant z)) widths result inner lets locals lines x v is =
    let c = with_locals (kernel_over F O) locals in
    record { names = named (Means true c) inner x (variable_meaning v) is.names (variable_means true c v); counted = is.counted; sorted = is.sorted }
body_variable F O (Some (property z)) widths result inner lets locals lines x v is =
    let c = with_locals (state_over F O) locals in
    record { names = named (Means true c) inner x (variable_meaning v) is.names (variable_means true c v); counted = is.counted; sorted = is.sorted }
body_variable F O (Some handler) widths result inner lets locals lines x v is =
    let c = with_locals (step_over F O widths) (lets_of lines) in
    record {
      are_widths = is.are_widths;
      has_width = is.has_width;
      in_lines = record {
        names = named (Means true c) inner x (variable_meaning v) is.in_lines.names (variable_means true c v);
        counted = is.in_lines.counted;
        sorted = is.in_lines.sorted;
      };
    }
body_variable F O None widths result inner lets locals lines x v is = tt

pub head_variable : (F : List FieldSort) (O : List ℕ) (k : Kernel) (head : Option Head) (result : Option ℕ) (inner : Names) (lets : ℕ) (locals : List tree.Tree)
    (lines : List tree.Line) (x : Name) (v : Option Key) → InHead F O k head result inner lets locals lines
    → InHead F O k head result (with_name inner x (variable_meaning v)) lets locals lines
head_variable F O k None result inner lets locals lines x v is = tt
head_variable F O k (Some head) result inner lets locals lines x v is = body_variable F O head.kind (widths_of k head.name) result inner lets locals lines x v is
