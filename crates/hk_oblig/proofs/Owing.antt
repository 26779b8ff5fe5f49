-- What a handler owes is of its parts: each obligation has what it speaks of, and the parts have its goal.
use Rattle.std.proofs.Common.{◌≡◌, ◌+◌, ◌<◌, ℕ, zero, suc, Bool, true, false, nat_eq, if◌then◌else◌, Option, Some, None, List, [], ◌∷◌, ◌++◌, map, length, get_or, refl, sym, ap, ◌∙◌, subst, arith}
use Rattle.std.specs.Prelude.{All, slice_get}
use Rattle.std.proofs.lemmas.Bool.{eq-eqb}
use Rattle.std.proofs.lemmas.List.FromFn.{get_or-range_with_len, length-range_with_len}
use Rattle.std.proofs.lemmas.List.Elements.{All-nil, All-cons, All-head, All-tail, All-map, All-append}
use Rattle.hk_term.specs.Shape.{width}
use Rattle.hk_term.specs.declared.node.Node.{Node}
use Rattle.hk_symresult.specs.Results as results
use Rattle.spec_tree.specs.Plain.{Tree, Transition, Spec}
use Rattle.hk_symspec.specs.Steps.{IsTermFor, IsResultTerm}
use Rattle.hk_case.specs.declared.Obligation.{Obligation}
use Rattle.hk_case.specs.declared.Obligation.TheVariants.{Undefined, Invariant, State, ResultValue, Property}
use Rattle.hk_case.specs.Obligations.{places, obligations_of, result_owed, IsObligation}
use Rattle.hk_oblig.specs.declared.parts.RunParts.{RunParts}
use Rattle.hk_oblig.specs.declared.parts.StepParts.{StepParts}
use Rattle.hk_oblig.specs.declared.parts.Parts.TheVariants.{Run, Step}
use Rattle.hk_oblig.specs.GoalTruths.{HasGoal, HasResult, IsWanted}
use Rattle.hk_oblig.specs.Asking.{IsOfRun, IsTermOf}

-- what an obligation speaks of is there
abbrev pub IsOwed : Spec → Transition → Obligation → Type 0
IsOwed s t Undefined = Unit {0}
IsOwed s t (Invariant i) = i < length s.invariants
IsOwed s t (State f) = f < length s.fields
IsOwed s t ResultValue = nat_eq t.result_width 0 ≡ false
IsOwed s t (Property p) = p < length s.properties

all_places : {X : Type 0} (xs : List X) → All (λ k. k < length xs) (places xs)
all_places xs k d low =
    let within : k < length xs = omega (arith, low, length-range_with_len 0 (length xs)) in
    let e : get_or (places xs) k d ≡ 0 + k = get_or-range_with_len 0 (length xs) k d within in
    omega (arith, within, e)

result_fits : (s : Spec) (t : Transition) → All (IsOwed s t) (result_owed t.result_width)
result_fits s t = by (nat_eq t.result_width 0) refl
  where
    by : (b : Bool) → nat_eq t.result_width 0 ≡ b → All (IsOwed s t) (if b then [] else ResultValue ∷ [])
    by true e = All-nil (IsOwed s t)
    by false e = All-cons (IsOwed s t) ResultValue [] e (All-nil (IsOwed s t))

all_owed : (s : Spec) (t : Transition) → All (IsOwed s t) (obligations_of s t)
all_owed s t =
    let P = IsOwed s t in
    let i : All P (map Invariant (places s.invariants)) = All-map P Invariant (places s.invariants) (all_places s.invariants) in
    let f : All P (map State (places s.fields)) = All-map P State (places s.fields) (all_places s.fields) in
    let p : All P (map Property (places s.properties)) = All-map P Property (places s.properties) (all_places s.properties) in
    All-append P (Undefined ∷ map Invariant (places s.invariants) ++ map State (places s.fields) ++ result_owed t.result_width) (map Property (places s.properties))
    (All-append P (Undefined ∷ map Invariant (places s.invariants) ++ map State (places s.fields)) (result_owed t.result_width)
    (All-append P (Undefined ∷ map Invariant (places s.invariants)) (map State (places s.fields)) (All-cons P Undefined (map Invariant (places s.invariants)) tt i) f)
    (result_fits s t)) p

pub all_there : {X : Type 0} (P : X → Type 0) (xs : List X) (k : ℕ) (x : X) → slice_get xs k ≡ Some x → All P xs → P x
all_there P [] zero x g h = cc
all_there P [] (suc k) x g h = cc
all_there P (y ∷ xs) zero x g h = let e : y ≡ x = cc in subst P e (All-head P y xs h)
all_there P (y ∷ xs) (suc k) x g h = all_there P xs k x g (All-tail P y xs h)

owed_so : (s : Spec) (t : Transition) (o : Obligation) → IsObligation s t o → IsOwed s t o
owed_so s t o h = all_there (IsOwed s t) (obligations_of s t) h.0 o h.1 (all_owed s t)

-- ---- goals

wanted_fits : (nodes : List Node) (r w : ℕ) (e : Option Tree) (wanted : Option ℕ) → width nodes r ≡ w → IsTermFor nodes w e wanted → IsWanted nodes r wanted
wanted_fits nodes r w None None is h = tt
wanted_fits nodes r w None (Some k) is h = cc
wanted_fits nodes r w (Some e) None is h = tt
wanted_fits nodes r w (Some e) (Some k) is h = (h.0, is ∙ sym h.1)

result_there : (nodes : List Node) (t : Transition) (result wanted : Option ℕ) → nat_eq t.result_width 0 ≡ false → results.IsResultTerm nodes t.result_width result → IsResultTerm nodes t wanted → HasResult nodes result wanted
result_there nodes t None wanted e r w = let z : true ≡ false = sym (eq-eqb t.result_width 0 r) ∙ e in cc
result_there nodes t (Some r) wanted e h w = (h.1.0, wanted_fits nodes r t.result_width t.result wanted h.1.1 w)

pub run_goals : (nodes : List Node) (s : Spec) (t : Transition) (p : RunParts) (o : Obligation) → length p.kept ≡ length s.invariants → length p.agree ≡ length s.fields
    → results.IsResultTerm nodes t.result_width p.result → IsResultTerm nodes t p.wanted → IsOfRun o → IsObligation s t o → HasGoal nodes (Run p) o
run_goals nodes s t p Undefined k f r w run h = tt
run_goals nodes s t p (Invariant i) k f r w run h = let low : i < length s.invariants = owed_so s t (Invariant i) h in omega (arith, low, k)
run_goals nodes s t p (State g) k f r w run h = let low : g < length s.fields = owed_so s t (State g) h in omega (arith, low, f)
run_goals nodes s t p ResultValue k f r w run h = result_there nodes t p.result p.wanted (owed_so s t ResultValue h) r w
run_goals nodes s t p (Property i) k f r w run h = absurd run

pub step_goals : (nodes : List Node) (s : Spec) (t : Transition) (p : StepParts) (k : ℕ) → length p.behind ≡ length s.properties → IsObligation s t (Property k) → HasGoal nodes (Step p) (Property k)
step_goals nodes s t p k e h = let low : k < length s.properties = owed_so s t (Property k) h in omega (arith, low, e)

-- ---- results stand in the list

pub result_listed : (nodes : List Node) (w : ℕ) (r : Option ℕ) → results.IsResultTerm nodes w r → IsTermOf nodes r
result_listed nodes w None h = tt
result_listed nodes w (Some r) h = h.1.0

pub wanted_listed : (nodes : List Node) (t : Transition) (w : Option ℕ) → IsResultTerm nodes t w → IsTermOf nodes w
wanted_listed nodes t w h = by t.result w h
  where
    by : (e : Option Tree) (k : Option ℕ) → IsTermFor nodes t.result_width e k → IsTermOf nodes k
    by None None g = tt
    by None (Some k) g = cc
    by (Some e) None g = tt
    by (Some e) (Some k) g = g.0

-- ---- the transition at a place

pub some_there : {X Y : Type 0} (f : X → Y) (xs : List X) (k : ℕ) → k < length xs → (y : Y) × (slice_get (map f xs) k ≡ Some y)
some_there f [] k low = absurd (omega (arith, low))
some_there f (x ∷ xs) zero low = (f x, refl)
some_there f (x ∷ xs) (suc k) low = some_there f xs k (omega (arith, low))

pub many : {X Y : Type 0} (f : X → Y) (xs : List X) → length xs ≡ length (map f xs)
many f [] = refl
many f (x ∷ xs) = ap suc (many f xs)
