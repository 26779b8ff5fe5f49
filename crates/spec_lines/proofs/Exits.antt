-- Exits of a loop over expressions that are taken.
use Rattle.std.proofs.Common.{◌≡◌, Option, ap, subst}
use Rattle.spec_scope.specs.declared.typed.TakeStop.{TakeStop}
use Rattle.spec_scope.specs.declared.typed.TakeStop.TheVariants.{Unfit, Memory}
use Rattle.spec_scope.specs.Taking.{chain}
use Rattle.spec_take.specs.Answers.{Fails}

fails_chain : {A B : Type 0} (why : TakeStop) (o : Option A) (f : A → Option B) → Fails why o → Fails why (chain o f)
fails_chain Unfit o f h = ap (λ p. chain p f) h
fails_chain Memory o f h = tt

-- what goes on with what is not given gives nothing
pub fails_behind : {A B : Type 0} (why : TakeStop) (o : Option A) (f : A → Option B) (total : Option B) → Fails why o → chain o f ≡ total → Fails why total
fails_behind why o f total h is = subst (Fails why) is (fails_chain why o f h)
