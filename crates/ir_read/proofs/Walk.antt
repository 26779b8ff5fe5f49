-- The items of a text one by one: what is left gives what the whole gives.
use Rattle.std.proofs.Common.{◌≡◌, ◌+◌, ◌<◌, ◌≤◌, ℕ, inl, inr, Option, Some, None, Err, List, [], ◌∷◌, length, drop, get_or, refl, ap, subst}
use Rattle.std.proofs.lemmas.List.{drop_more, drop_all}
use Rattle.ir_ast.specs.Program.{ModuleView}
use Rattle.ir_ast.specs.declared.fault.KernelReason.{KernelReason}
use Rattle.ir_lex.specs.Cut.{Cut, cut_of, cuts_of}
use Rattle.ir_lex.specs.declared.cut.Item.{Item}
use Rattle.ir_read.specs.Ahead.{ends}
use Rattle.ir_read.specs.State.{BodyState, State, at_start}
use Rattle.ir_read.specs.Spelling.{Leads, Fails, SpellsFrom, FailsFrom}
use Rattle.ir_read.specs.Spelling.{Passes}
use Rattle.ir_read.specs.View.{stop_at}
use Rattle.ir_read.specs.Answers.{IsPendingBody, IsItemStop, Comes}
use Rattle.ir_read.specs.declared.stop.Stop.{Stop}
use Rattle.ir_read.specs.declared.stop.Stop.TheVariants.{Refused, Memory}
use Rattle.ir_read.specs.declared.whole.Whole.{Whole}
use Rattle.ir_read.proofs.Kept.{Holds, still_holds}

pub record SoFar (s : State) (rest all : List Cut) : Type 0 where
  pub holds : Holds s rest
  pub spelled : (m : ModuleView) → SpellsFrom s rest m → SpellsFrom at_start all m
  pub failed : (line : ℕ) → (reason : KernelReason) → FailsFrom s rest line reason → FailsFrom at_start all line reason

pub at_first : (all : List Cut) → SoFar at_start all all
at_first all = record { holds = record { new = tt; pending = tt }; spelled = λ m h. h; failed = λ line reason h. h }

pub on_leads : (s next : State) (c : Cut) (rest after all : List Cut) → rest ≡ c ∷ after → Leads s c after next → SoFar s rest all → SoFar next after all
on_leads s next c rest after all is leads h =
    let here : SoFar s (c ∷ after) all = subst (λ cs. SoFar s cs all) is h in
    record {
      holds = still_holds s c after next here.holds leads;
      spelled = λ m later. here.spelled m (next, leads, later);
      failed = λ line reason later. here.failed line reason (inr (next, leads, later));
    }

pub on_fails : (s : State) (c : Cut) (rest after all : List Cut) (reason : KernelReason) → rest ≡ c ∷ after → Fails s c after reason → SoFar s rest all → FailsFrom at_start all c.line reason
on_fails s c rest after all reason is fails h =
    let here : SoFar s (c ∷ after) all = subst (λ cs. SoFar s cs all) is h in
    here.failed c.line reason (inl (refl, fails))

no_body : (b : Option BodyState) → IsPendingBody b [] → b ≡ None
no_body None h = refl
no_body (Some b) h = absurd cc

pub on_end : (s : State) (rest all : List Cut) → rest ≡ [] → SoFar s rest all → SpellsFrom at_start all s.whole
on_end s rest all is h =
    let here : SoFar s [] all = subst (λ cs. SoFar s cs all) is h in
    here.spelled s.whole (no_body s.body here.holds.pending, refl)

pub cuts_step : (items : List Item) (i : ℕ) (d : Item) → i < length items → cuts_of (drop i items) ≡ cut_of (get_or items i d) ∷ cuts_of (drop (i + 1) items)
cuts_step items i d h = ap cuts_of (drop_more items i d h)

pub cuts_end : (items : List Item) (i : ℕ) → length items ≤ i → cuts_of (drop i items) ≡ []
cuts_end items i h = ap cuts_of (drop_all i items h)

pub on_stop : (stop : Stop) (new : Whole) (s : State) (c : Cut) (rest after all : List Cut) → rest ≡ c ∷ after → Comes (Err stop) new (Passes (ends c after) s c after) → SoFar s rest all → IsItemStop all (stop_at c.line stop)
on_stop (Refused reason) new s c rest after all is fails h = on_fails s c rest after all reason is fails h
on_stop Memory new s c rest after all is fails h = tt
