-- Where the parts of a goal tell what they mean for a case, the goal is true exactly where the case violates the obligation.
use Rattle.std.proofs.Common.{◌≡◌, ◌<◌, ◌&&◌, ◌↔◌, ℕ, zero, suc, Bool, true, false, not, Option, Some, None, List, [], ◌∷◌, length, refl, sym, ap, ◌∙◌, subst, arith}
use Rattle.std.specs.Prelude.{slice_get, slice_index}
use Rattle.std.proofs.lemmas.Bool.{eq-eqb, eqb-true}
use Rattle.hk_term.specs.Meaning.{Reading, value}
use Rattle.hk_term.specs.declared.node.Node.{Node}
use Rattle.hk_symvalue.specs.Meaning.{is_true}
use Rattle.ir_ast.specs.Program.{ModuleView}
use Rattle.ir_kernel.specs.declared.ends.RunEnd.{RunEnd}
use Rattle.ir_kernel.specs.declared.ends.RunEnd.TheVariants.{Returned, Stuck, Lost}
use Rattle.ir_kernel.specs.Ends.{IsEndOfRun}
use Rattle.spec_tree.specs.Plain.{Named, Transition, Spec}
use Rattle.spec_tree.specs.Meaning as meaning
use Rattle.spec_tree.specs.Meaning.{invariant_holds, property_holds, meets_result}
use Rattle.hk_case.specs.declared.Obligation.{Obligation}
use Rattle.hk_case.specs.declared.Obligation.TheVariants as owed
use Rattle.hk_case.specs.declared.Case.{Case}
use Rattle.hk_case.specs.declared.Case.TheVariants.{Machine, Abstract}
use Rattle.hk_case.specs.Violation.{IsStuck, Breaks, Misses, HaveProperties, Fails, Violates, specified}
use Rattle.hk_oblig.specs.declared.parts.RunParts.{RunParts}
use Rattle.hk_oblig.specs.declared.parts.StepParts.{StepParts}
use Rattle.hk_oblig.specs.declared.parts.Parts.{Parts}
use Rattle.hk_oblig.specs.declared.parts.Parts.TheVariants.{Run, Step}
use Rattle.hk_oblig.specs.GoalTruths.{HasGoal, HasResult, missed, is_met, goal_is, number_of}
use Rattle.hk_symresult.specs.Results.{TellsResult}
use Rattle.hk_oblig.specs.Telling.{TellEach, TellsReturn, TellsEnd, TellsRun, TellsStep, Tells}

-- ---- truths

both : (a b : Bool) → (a && b) ≡ true → (a ≡ true) × (b ≡ true)
both true b e = (refl, e)
both false b e = cc

joined : (a b : Bool) → a ≡ true → b ≡ true → (a && b) ≡ true
joined true b e f = f
joined false b e f = cc

denied : (b : Bool) → not b ≡ true → b ≡ false
denied true e = cc
denied false e = refl

is_false : (b : Bool) (P : Type 0) → (b ≡ true → P) → (P → ⊥) → b ≡ false
is_false true P h n = absurd (n (h refl))
is_false false P h n = refl

some_there : {X : Type 0} (xs : List X) (i : ℕ) → i < length xs → (x : X) × (slice_get xs i ≡ Some x)
some_there [] i low = absurd (omega (arith, low))
some_there (x ∷ xs) zero low = (x, refl)
some_there (x ∷ xs) (suc i) low = some_there xs i (omega (arith, low))

-- one that is false where its term is, and only there
each_false : (nodes : List Node) (v : Reading) (terms : List ℕ) (named : List Named) (holds : Named → Bool) (k : ℕ) → TellEach nodes v terms named holds → k < length terms
    → (is_true nodes (slice_index terms k) v ≡ false) ↔ ((n : Named) × (slice_get named k ≡ Some n) × (holds n ≡ false))
each_false nodes v terms named holds k h low =
    let x = some_there named k (omega (arith, low, h.count)) in
    ((λ e. (x.0, x.1, sym (h.each k x.0 x.1) ∙ e)), (λ b. h.each k b.0 b.1 ∙ b.2))

-- ---- runs

stuck_end : (nodes : List Node) (v : Reading) (p : RunParts) (s : Spec) (t : Transition) (memory : List (List ℕ)) (args : List ℕ) (end : RunEnd)
    → TellsEnd nodes v p s t memory args end → (is_true nodes p.undefined v ≡ true) ↔ IsStuck end
stuck_end nodes v p s t memory args (Returned returned after) h = ((λ e. let f : false ≡ true = sym h.defined ∙ e in cc), (λ i. absurd i))
stuck_end nodes v p s t memory args (Stuck reason line) h = ((λ e. tt), (λ i. h))
stuck_end nodes v p s t memory args Lost h = absurd h

undefined_told : (m : ModuleView) (nodes : List Node) (v : Reading) (p : RunParts) (s : Spec) (t : Transition) (memory : List (List ℕ)) (args : List ℕ)
    → TellsRun m nodes v p s t memory args
    → ((is_true nodes p.invariants v && is_true nodes p.undefined v) ≡ true) ↔ (meaning.Invariant s memory × (end : RunEnd) × IsEndOfRun m t.function args memory end × IsStuck end)
undefined_told m nodes v p s t memory args x =
    let end = x.ends.0 in
    let told : TellsEnd nodes v p s t memory args end = x.end end x.ends.1 in (
      (λ e.
          let b = both (is_true nodes p.invariants v) (is_true nodes p.undefined v) e in
          (x.invariants.0 b.0, end, x.ends.1, (stuck_end nodes v p s t memory args end told).0 b.1)),
      (λ f. joined (is_true nodes p.invariants v) (is_true nodes p.undefined v) (x.invariants.1 f.0) ((stuck_end nodes v p s t memory args f.1 (x.end f.1 f.2)).1 f.3)),
    )

-- what a run that comes back misses, and no other
record IsMissed (nodes : List Node) (v : Reading) (p : RunParts) (s : Spec) (t : Transition) (memory : List (List ℕ)) (args : List ℕ) (met : Bool) (Miss : RunEnd → Type 0) : Type 0 where
  returned : (value : Option ℕ) (after : List (List ℕ)) → TellsReturn nodes v p s t memory args value after → (met ≡ false) ↔ Miss (Returned value after)
  stuck : (end : RunEnd) → IsStuck end → Miss end → ⊥

missed_end : (nodes : List Node) (v : Reading) (p : RunParts) (s : Spec) (t : Transition) (memory : List (List ℕ)) (args : List ℕ) (met : Bool) (Miss : RunEnd → Type 0) (end : RunEnd)
    → IsMissed nodes v p s t memory args met Miss → TellsEnd nodes v p s t memory args end → ((is_true nodes p.undefined v ≡ false) × (met ≡ false)) ↔ Miss end
missed_end nodes v p s t memory args met Miss (Returned value after) h told = ((λ e. (h.returned value after told).0 e.1), (λ k. (told.defined, (h.returned value after told).1 k)))
missed_end nodes v p s t memory args met Miss (Stuck reason line) h told = ((λ e. let f : true ≡ false = sym told ∙ e.0 in cc), (λ k. absurd (h.stuck (Stuck reason line) tt k)))
missed_end nodes v p s t memory args met Miss Lost h told = absurd told

missed_told : (m : ModuleView) (nodes : List Node) (v : Reading) (p : RunParts) (s : Spec) (t : Transition) (memory : List (List ℕ)) (args : List ℕ) (met : Bool) (Miss : RunEnd → Type 0)
    → IsMissed nodes v p s t memory args met Miss → TellsRun m nodes v p s t memory args
    → (missed nodes p v met ≡ true) ↔ (meaning.Invariant s memory × (end : RunEnd) × IsEndOfRun m t.function args memory end × Miss end)
missed_told m nodes v p s t memory args met Miss h x =
    let i = is_true nodes p.invariants v in
    let u = is_true nodes p.undefined v in
    let end = x.ends.0 in (
      (λ e.
          let b = both i (not u && not met) e in
          let c = both (not u) (not met) b.1 in
          (x.invariants.0 b.0, end, x.ends.1, (missed_end nodes v p s t memory args met Miss end h (x.end end x.ends.1)).0 (denied u c.0, denied met c.1))),
      (λ f.
          let g = (missed_end nodes v p s t memory args met Miss f.1 h (x.end f.1 f.2)).1 f.3 in
          joined i (not u && not met) (x.invariants.1 f.0) (joined (not u) (not met) (ap not g.0) (ap not g.1))),
    )

-- the term of the result is a number that is returned
number_told : (nodes : List Node) (v : Reading) (result wanted returned : Option ℕ) → HasResult nodes result wanted → TellsResult nodes v result returned
    → (n : ℕ) × (returned ≡ Some n) × (number_of nodes result v ≡ n)
number_told nodes v None wanted returned h t = absurd h
number_told nodes v (Some r) wanted None h t = absurd t
number_told nodes v (Some r) wanted (Some n) h t = (n, refl, t)

-- the same of a specified result and validity
same_meeting : (a b : Option ℕ) (c d : Bool) (k n : ℕ) → a ≡ b → c ≡ d → k ≡ n → meets_result a c k ≡ meets_result b d n
same_meeting a b c d k n e f g = λ i. meets_result (e i) (f i) (g i)

run_missed : (m : ModuleView) (nodes : List Node) (v : Reading) (p : RunParts) (s : Spec) (t : Transition) (memory : List (List ℕ)) (args : List ℕ) → TellsRun m nodes v p s t memory args → (i : ℕ) → i < length p.kept
    → IsMissed nodes v p s t memory args (is_true nodes (slice_index p.kept i) v) (Misses s t memory args (owed.Invariant i))
run_missed m nodes v p s t memory args x i low = record { returned = back; stuck = none }
  where
    back : (value : Option ℕ) (after : List (List ℕ)) → TellsReturn nodes v p s t memory args value after → (is_true nodes (slice_index p.kept i) v ≡ false) ↔ Breaks s after i
    back value after r = each_false nodes v p.kept s.invariants (λ n. invariant_holds s n after) i r.kept low

    none : (end : RunEnd) → IsStuck end → Misses s t memory args (owed.Invariant i) end → ⊥
    none (Returned value after) k h = k
    none (Stuck reason line) k h = h
    none Lost k h = h

field_missed : (nodes : List Node) (v : Reading) (p : RunParts) (s : Spec) (t : Transition) (memory : List (List ℕ)) (args : List ℕ) (f : ℕ) → f < length p.agree
    → IsMissed nodes v p s t memory args (is_true nodes (slice_index p.agree f) v) (Misses s t memory args (owed.State f))
field_missed nodes v p s t memory args f low = record { returned = back; stuck = none }
  where
    back : (value : Option ℕ) (after : List (List ℕ)) → TellsReturn nodes v p s t memory args value after
        → (is_true nodes (slice_index p.agree f) v ≡ false) ↔ Misses s t memory args (owed.State f) (Returned value after)
    back value after r =
        let a = r.agree.each f (omega (arith, low, r.agree.count)) in
        ((λ e same. let k : true ≡ false = sym (a.1 same) ∙ e in cc), (λ d. is_false (is_true nodes (slice_index p.agree f) v) _ a.0 d))

    none : (end : RunEnd) → IsStuck end → Misses s t memory args (owed.State f) end → ⊥
    none (Returned value after) k h = k
    none (Stuck reason line) k h = h
    none Lost k h = h

result_missed : (m : ModuleView) (nodes : List Node) (v : Reading) (p : RunParts) (s : Spec) (t : Transition) (memory : List (List ℕ)) (args : List ℕ) → TellsRun m nodes v p s t memory args → HasResult nodes p.result p.wanted
    → IsMissed nodes v p s t memory args (is_met nodes p v) (Misses s t memory args owed.ResultValue)
result_missed m nodes v p s t memory args x there = record { returned = back; stuck = none }
  where
    back : (value : Option ℕ) (after : List (List ℕ)) → TellsReturn nodes v p s t memory args value after
        → (is_met nodes p v ≡ false) ↔ Misses s t memory args owed.ResultValue (Returned value after)
    back returned after r =
        let n = number_told nodes v p.result p.wanted returned there r.result in
        let same : is_met nodes p v ≡ meets_result (specified s t memory args).result (specified s t memory args).valid n.0 = same_meeting _ _ _ _ _ _ x.wanted x.valid n.2 in (
          (λ e. subst (λ (k : Option ℕ). Misses s t memory args owed.ResultValue (Returned k after)) (sym n.1) (sym same ∙ e)),
          (λ k. same ∙ subst (λ (l : Option ℕ). Misses s t memory args owed.ResultValue (Returned l after)) n.1 k),
        )

    none : (end : RunEnd) → IsStuck end → Misses s t memory args owed.ResultValue end → ⊥
    none (Returned value after) k h = k
    none (Stuck reason line) k h = h
    none Lost k h = h

-- ---- transitions

step_told : (nodes : List Node) (v : Reading) (p : StepParts) (s : Spec) (t : Transition) (state : List (List ℕ)) (args : List ℕ) (k : ℕ) → TellsStep nodes v p s t state args → k < length p.behind
    → ((is_true nodes p.properties v && not (is_true nodes (slice_index p.behind k) v)) ≡ true) ↔ (HaveProperties s state × Fails s (meaning.transition s t state args).state k)
step_told nodes v p s t state args k x low =
    let a = is_true nodes p.properties v in
    let b = is_true nodes (slice_index p.behind k) v in
    let f = each_false nodes v p.behind s.properties (λ n. property_holds s n (meaning.transition s t state args).state) k x.behind low in (
      (λ e. let c = both a (not b) e in (x.properties.0 c.0, f.0 (denied b c.1))),
      (λ g. joined a (not b) (x.properties.1 g.0) (ap not (f.1 g.1))),
    )

-- ---- goals

pub goal_told : (m : ModuleView) (nodes : List Node) (v : Reading) (parts : Parts) (s : Spec) (t : Transition) (o : Obligation) (c : Case) → HasGoal nodes parts o → Tells m nodes v parts s t c
    → (goal_is nodes parts o v ≡ true) ↔ Violates m s t o c
goal_told m nodes v (Run p) s t owed.Undefined (Machine memory args) h x = undefined_told m nodes v p s t memory args x
goal_told m nodes v (Run p) s t (owed.Invariant i) (Machine memory args) h x =
    missed_told m nodes v p s t memory args (is_true nodes (slice_index p.kept i) v) (Misses s t memory args (owed.Invariant i)) (run_missed m nodes v p s t memory args x i h) x
goal_told m nodes v (Run p) s t (owed.State f) (Machine memory args) h x =
    missed_told m nodes v p s t memory args (is_true nodes (slice_index p.agree f) v) (Misses s t memory args (owed.State f)) (field_missed nodes v p s t memory args f h) x
goal_told m nodes v (Run p) s t owed.ResultValue (Machine memory args) h x =
    missed_told m nodes v p s t memory args (is_met nodes p v) (Misses s t memory args owed.ResultValue) (result_missed m nodes v p s t memory args x h) x
goal_told m nodes v (Run p) s t (owed.Property k) (Machine memory args) h x = absurd h
goal_told m nodes v (Run p) s t o (Abstract state args) h x = absurd x
goal_told m nodes v (Step p) s t o (Machine memory args) h x = absurd x
goal_told m nodes v (Step p) s t owed.Undefined (Abstract state args) h x = absurd h
goal_told m nodes v (Step p) s t (owed.Invariant i) (Abstract state args) h x = absurd h
goal_told m nodes v (Step p) s t (owed.State f) (Abstract state args) h x = absurd h
goal_told m nodes v (Step p) s t owed.ResultValue (Abstract state args) h x = absurd h
goal_told m nodes v (Step p) s t (owed.Property k) (Abstract state args) h x = step_told nodes v p s t state args k x h

-- the same of the goal's value
pub value_told : (m : ModuleView) (nodes after : List Node) (v : Reading) (parts : Parts) (s : Spec) (t : Transition) (o : Obligation) (c : Case) (r : ℕ) → is_true after r v ≡ goal_is nodes parts o v
    → HasGoal nodes parts o → Tells m nodes v parts s t c → (value after r v ≡ 1) ↔ Violates m s t o c
value_told m nodes after v parts s t o c r e h x =
    let g = goal_told m nodes v parts s t o c h x in
    ((λ one. g.0 (sym e ∙ eq-eqb (value after r v) 1 one)), (λ f. eqb-true (value after r v) 1 (e ∙ g.1 f)))
