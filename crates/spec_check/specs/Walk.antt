-- What the walk over the lines answers.
use Rattle.std.specs.Prelude.{◌≡◌, ℕ, Bool, true, Option, Some, None, List, ◌∷◌, length, Result, Ok, Err}
use Rattle.spec_ast.specs.declared.fault.SpecReason.{SpecReason}
use Rattle.spec_ast.specs.declared.fault.SpecStop.{SpecStop}
use Rattle.spec_ast.specs.declared.fault.SpecStop.TheVariants.{Refused, Memory}
use Rattle.spec_ast.specs.Raw.{Line}
use Rattle.spec_names.specs.Kernel.{Name, Kernel}
use Rattle.spec_lines.specs.Behind.{Here, fields_of, begin}
use Rattle.spec_lines.specs.Faults.{Text}
use Rattle.spec_lines.specs.Whole.{AreStrays, Made, nothing_made, hooks_of, first_fault, first_from, made_from}
use Rattle.spec_sound.specs.Limits.{copies_stand}

-- the first fault of lines, and what they give
pub record End : Type 0 where
  pub fault : Option (ℕ × SpecReason)
  pub made : Option Made

abbrev pub end_of : Text → Here → Made → List Line → End
end_of t h m ls = record { fault = first_from t h ls; made = made_from h m ls }

-- the first fault is told
abbrev pub Tells : SpecStop → Option (ℕ × SpecReason) → Type 0
Tells (Refused f) fault = fault ≡ Some (f.line, f.reason)
Tells Memory fault = Unit {0}

-- no line fails, and they give this; or the first fault is told
abbrev pub Ends : {A : Type 0} → Result A SpecStop → Made → End → Type 0
Ends (Ok done) made end = (end.fault ≡ None) × (end.made ≡ Some made)
Ends (Err why) made end = Tells why end.fault

-- a line stands, and what is left goes on from the next place; or its fault is the first
abbrev pub Steps : {A : Type 0} → Result A SpecStop → Text → Here → Made → Here → Made → Line → Type 0
Steps (Ok done) t h m next made l = (rest : List Line) → end_of t h m (l ∷ rest) ≡ end_of t next made rest
Steps (Err why) t h m next made l = (rest : List Line) → Tells why (first_from t h (l ∷ rest))

-- no line of the text fails, and they make this; so many fields are declared
pub record IsMade (k : Kernel) (raw : List Line) (made : Made) (count : ℕ) : Type 0 where
  pub strays : Name → Bool
  pub are_strays : AreStrays k (hooks_of raw) strays
  pub stand : first_fault strays k raw ≡ None
  pub gives : made_from (begin k raw) nothing_made raw ≡ Some made
  pub copies : copies_stand (begin k raw) raw ≡ true
  pub counted : count ≡ length (fields_of k raw)
