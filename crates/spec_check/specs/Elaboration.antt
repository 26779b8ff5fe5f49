-- What the raw lines of a specification come to over a kernel: a specification, or the first line that fails with its least reason.
use Rattle.std.specs.Prelude.{◌≡◌, ℕ, Bool, Option, Some, None, List, Result, Ok, Err}
use Rattle.spec_ast.specs.declared.fault.SpecReason.{SpecReason}
use Rattle.spec_ast.specs.declared.fault.SpecStop.{SpecStop}
use Rattle.spec_ast.specs.declared.fault.SpecStop.TheVariants.{Refused, Memory}
use Rattle.spec_ast.specs.Raw.{Line}
use Rattle.spec_tree.specs.Plain as plain
use Rattle.spec_tree.specs.View.{view_spec}
use Rattle.spec_tree.specs.declared.spec.Spec.{Spec}
use Rattle.spec_names.specs.Kernel.{Name, Kernel}
use Rattle.spec_lines.specs.Whole.{hooks_of, AreStrays, first_fault, spec_of}

-- the specification that raw lines stand for: no line has a fault
pub record IsElaborated (k : Kernel) (raw : List Line) (spec : plain.Spec) : Type 0 where
  pub strays : Name → Bool
  pub are_strays : AreStrays k (hooks_of raw) strays
  pub stand : first_fault strays k raw ≡ None
  pub made : spec_of k raw ≡ Some spec

-- this is the first line with a fault, and this is its least one
pub record IsRefused (k : Kernel) (raw : List Line) (line : ℕ) (reason : SpecReason) : Type 0 where
  pub strays : Name → Bool
  pub are_strays : AreStrays k (hooks_of raw) strays
  pub told : first_fault strays k raw ≡ Some (line, reason)

-- want of memory says nothing of the lines
abbrev pub IsStopped : Kernel → List Line → SpecStop → Type 0
IsStopped k raw (Refused f) = IsRefused k raw f.line f.reason
IsStopped k raw Memory = Unit {0}

abbrev pub ElaboratesTo : Kernel → List Line → Result Spec SpecStop → Type 0
ElaboratesTo k raw (Ok spec) = IsElaborated k raw (view_spec spec)
ElaboratesTo k raw (Err why) = IsStopped k raw why
