-- What the calls that take expressions answer.
use Rattle.std.specs.Prelude.{◌≡◌, Option, Some, None, Result, Ok, Err}
use Rattle.spec_scope.specs.declared.typed.TakeStop.{TakeStop}
use Rattle.spec_scope.specs.declared.typed.TakeStop.TheVariants.{Unfit, Memory}

-- a refusal comes exactly where nothing is given. Want of memory says nothing of an expression
abbrev pub Fails : {B : Type 0} → TakeStop → Option B → Type 0
Fails Unfit o = o ≡ None
Fails Memory o = Unit {0}

-- an answer is what is given
abbrev pub Gives : {A B : Type 0} → (A → B) → Result A TakeStop → Option B → Type 0
Gives view (Ok x) o = o ≡ Some (view x)
Gives view (Err why) o = Fails why o
