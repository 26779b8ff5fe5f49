-- What a right verdict says of the shape of its case, and of places in lists.

use Rattle.std.proofs.Common.{ℕ, ◌≡◌, ◌<◌, List, Some, length, map, slice_get, subst}
use Rattle.std.proofs.lemmas.List.{length-map}
use Rattle.std.proofs.lemmas.Option.{slice_get_within}
use Rattle.ir_ast.specs.Program.{ModuleView}
use Rattle.ir_layout.specs.declared.object.Object.{Object}
use Rattle.spec_tree.specs.Plain.{Spec, Transition}
use Rattle.spec_tree.specs.View.{view_transition}
use Rattle.spec_tree.specs.declared.spec.Transition.{Transition as Handler}
use Rattle.hk_case.specs.declared.Obligation.{Obligation}
use Rattle.hk_case.specs.declared.Obligation.TheVariants.{Undefined, Invariant, State, ResultValue, Property}
use Rattle.hk_case.specs.declared.Case.{Case}
use Rattle.hk_case.specs.declared.Case.TheVariants.{Machine, Abstract}
use Rattle.hk_case.specs.Obligations.{IsCase}
use Rattle.hk_verdict.specs.declared.verdict.Verdict.{Verdict}
use Rattle.hk_verdict.specs.declared.verdict.Verdict.TheVariants.{Accepted, Rejected, Unknown, Memory}
use Rattle.hk_verdict.specs.Report.{IsShown, IsShownVerdict}
use Rattle.hk_decide.specs.Right.{IsRight}

-- The case of an obligation can be shown.
of_case : (objects : List Object) (s : Spec) (t : Transition) (o : Obligation) (c : Case) → IsCase objects s t o c → IsShown s c
of_case objects s t (Property p) (Abstract state args) h = h.0
of_case objects s t (Property p) (Machine memory args) h = tt
of_case objects s t Undefined (Machine memory args) h = tt
of_case objects s t (Invariant i) (Machine memory args) h = tt
of_case objects s t (State f) (Machine memory args) h = tt
of_case objects s t ResultValue (Machine memory args) h = tt
of_case objects s t Undefined (Abstract state args) h = absurd h
of_case objects s t (Invariant i) (Abstract state args) h = absurd h
of_case objects s t (State f) (Abstract state args) h = absurd h
of_case objects s t ResultValue (Abstract state args) h = absurd h

-- A right verdict can be shown.
pub can_be_shown : (budget : ℕ) (m : ModuleView) (objects : List Object) (s : Spec) (t : Transition) (v : Verdict) → IsRight budget m objects s t v → IsShownVerdict s v
can_be_shown budget m objects s t (Accepted proofs) right = tt
can_be_shown budget m objects s t (Rejected o c) right = of_case objects s t o c right.shape
can_be_shown budget m objects s t (Unknown o instances clauses log) right = tt
can_be_shown budget m objects s t Memory right = tt

-- A handler that is there stands among those of the code.
pub within_at : (ts : List Handler) (i : ℕ) (t : Transition) → slice_get (map view_transition ts) i ≡ Some t → i < length ts
within_at ts i t there = subst (λ n. i < n) (length-map ts view_transition) (slice_get_within (map view_transition ts) i t there)
