-- Exits of calls that take expressions.
use Rattle.std.proofs.Common.{Option}
use Rattle.std.specs.Prelude.{Result, Ok, Err}
use Rattle.spec_scope.specs.declared.typed.TakeStop.{TakeStop}
use Rattle.spec_scope.specs.declared.typed.TakeStop.TheVariants.{Unfit, Memory}
use Rattle.spec_scope.specs.Answers as scope
use Rattle.spec_take.specs.Answers.{Gives}

pub given_is : {A B : Type 0} (view : A → B) (r : Result A TakeStop) (o : Option B) → scope.Gives view r o → Gives view r o
given_is view (Ok x) o h = h
given_is view (Err Unfit) o h = h
given_is view (Err Memory) o h = tt
