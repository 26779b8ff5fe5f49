-- What a call that changes what it is lent answers.
use Rattle.std.specs.Prelude.{◌≡◌, false, true, Option, Some, None, Result, Ok, Err, List}
use Rattle.ir_ast.specs.declared.fault.KernelStop.{KernelStop}
use Rattle.ir_ast.specs.declared.fault.KernelStop.TheVariants.{Refused as TextRefused, Memory as NoMemory}
use Rattle.ir_read.specs.State.{State, BodyState, at_start}
use Rattle.ir_read.specs.Spelling.{FailsFrom}
use Rattle.ir_read.specs.View.{state_of}
use Rattle.ir_lex.specs.Cut.{Cut}
use Rattle.ir_read.specs.Ahead.{holds_close}
use Rattle.ir_read.specs.declared.body.Body.{Body}
use Rattle.ir_read.specs.declared.whole.Whole.{Whole}
use Rattle.ir_read.specs.Steps.{Out, is_symbol}
use Rattle.ir_read.specs.declared.stop.Stop.{Stop}
use Rattle.ir_read.specs.declared.stop.Stop.TheVariants.{Refused, Memory}

-- what was lent becomes what comes out, seen through this, or the call answers why not; memory may be refused at anything
abbrev pub Becomes : {A B : Type 0} → (A → B) → Result (Unit {0}) Stop → A → Out B → Type 0
Becomes view (Ok done) new out = out ≡ Ok (view new)
Becomes view (Err (Refused reason)) new out = out ≡ Err reason
Becomes view (Err Memory) new out = Unit {0}

-- the same, for the body that goes on and what is whole; what comes out has this property
abbrev pub Comes : Result (Option Body) Stop → Whole → (Out State → Type 0) → Type 0
Comes (Ok body) new P = P (Ok (state_of new body))
Comes (Err (Refused reason)) new P = P (Err reason)
Comes (Err Memory) new P = Unit {0}

-- the name of a function whose body goes on is that of nothing that is whole
abbrev pub IsNewBody : Option BodyState → State → Type 0
IsNewBody None s = Unit {0}
IsNewBody (Some b) s = is_symbol b.head.name s.whole ≡ false

abbrev pub IsNew : State → Type 0
IsNew s = IsNewBody s.body s

-- a body that goes on is closed by one of these items
abbrev pub IsPendingBody : Option BodyState → List Cut → Type 0
IsPendingBody None cuts = Unit {0}
IsPendingBody (Some b) cuts = holds_close cuts ≡ true

abbrev pub IsPending : State → List Cut → Type 0
IsPending s cuts = IsPendingBody s.body cuts

-- a refusal names the first of the items that fails
abbrev pub IsItemStop : List Cut → KernelStop → Type 0
IsItemStop cuts (TextRefused fault) = FailsFrom at_start cuts fault.line fault.reason
IsItemStop cuts NoMemory = Unit {0}
