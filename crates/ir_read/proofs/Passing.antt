-- What comes of an item, from what it is read as.
use Rattle.std.proofs.Common.{◌≡◌, Bool, true, false, Option, Some, None, is_some, Result, Ok, Err, List, refl}
use Rattle.ir_lex.specs.Cut.{Cut}
use Rattle.ir_read.specs.State.{State, is_inside}
use Rattle.ir_read.specs.Reads.{Reading, Reads}
use Rattle.ir_read.specs.Steps.{Out, after_reading}
use Rattle.ir_read.specs.Spelling.{Passes}
use Rattle.ir_read.specs.View.{state_of}
use Rattle.ir_read.specs.Answers.{Comes}
use Rattle.ir_read.specs.declared.stop.Stop.{Stop}
use Rattle.ir_read.specs.declared.stop.Stop.TheVariants.{Refused, Memory}
use Rattle.ir_read.specs.declared.body.Body.{Body}
use Rattle.ir_read.specs.declared.whole.Whole.{Whole}

pub inside_is : (w : Whole) (b : Option Body) → is_some b ≡ is_inside (state_of w b)
inside_is w None = refl
inside_is w (Some b) = refl

passes_by : (closed : Bool) (s : State) (c : Cut) (cs : List Cut) (r : Reading) (out : Out State) → closed ≡ true → Reads (is_inside s) r c.lexemes → out ≡ after_reading r c.line cs s → Passes closed s c cs out
passes_by true s c cs r out h read is = (r, read, is)
passes_by false s c cs r out h read is = absurd cc

pub comes_passes : (result : Result (Option Body) Stop) (new : Whole) (closed : Bool) (s : State) (c : Cut) (cs : List Cut) (r : Reading) → closed ≡ true → Reads (is_inside s) r c.lexemes
    → Comes result new (λ out. out ≡ after_reading r c.line cs s) → Comes result new (Passes closed s c cs)
comes_passes (Ok body) new closed s c cs r h read is = passes_by closed s c cs r (Ok (state_of new body)) h read is
comes_passes (Err (Refused reason)) new closed s c cs r h read is = passes_by closed s c cs r (Err reason) h read is
comes_passes (Err Memory) new closed s c cs r h read is = tt
