-- A handler stays ready as the lists of its parts grow.
use Rattle.std.proofs.Common.{◌≡◌, ◌<◌, ℕ, true, false, Option, Some, None, List, length, refl, sym, ◌∙◌, subst, arith}
use Rattle.hk_term.specs.Meaning.{Reading}
use Rattle.hk_term.specs.declared.node.Node.{Node}
use Rattle.ir_ast.specs.Program.{ModuleView}
use Rattle.ir_kernel.specs.declared.ends.RunEnd.{RunEnd}
use Rattle.ir_kernel.specs.declared.ends.RunEnd.TheVariants.{Returned, Stuck, Lost}
use Rattle.hk_symmem.specs.Origins.{Origin}
use Rattle.hk_symvalue.specs.Growth.{Extends}
use Rattle.spec_tree.specs.Plain.{Transition, Spec}
use Rattle.spec_tree.specs.Meaning.{Memory, abstraction, invariant_holds, property_holds, transition}
use Rattle.hk_case.specs.declared.Obligation.{Obligation}
use Rattle.hk_case.specs.declared.Obligation.TheVariants as owed
use Rattle.hk_case.specs.declared.Case.{Case}
use Rattle.hk_case.specs.declared.Case.TheVariants.{Machine, Abstract}
use Rattle.hk_case.specs.Violation.{specified}
use Rattle.hk_oblig.specs.declared.parts.RunParts.{RunParts}
use Rattle.hk_oblig.specs.declared.parts.Parts.{Parts}
use Rattle.hk_oblig.specs.declared.parts.Parts.TheVariants.{Run, Step}
use Rattle.hk_oblig.specs.declared.listed.Listed.{Listed}
use Rattle.hk_oblig.specs.Cases.{case_at}
use Rattle.hk_oblig.specs.GoalTruths.{AreRunParts, AreParts, HasGoal, HasResult, IsWanted}
use Rattle.hk_oblig.specs.Telling.{TellsEnd, Tells}
use Rattle.hk_oblig.specs.Asking.{AreListed, HaveResults, IsPrepared, IsOfRun, IsReady, IsTermOf, PreparedView, is_property, listed_for}
use Rattle.hk_oblig.proofs.Growing.{truth_stays, true_stays, truths_stay, term_stays, number_stays, each_stays, fields_stay, result_stays}

module _ (old new : List Node) (grown : Extends old new) where
  parts_stay : (p : Parts) → AreParts old p → AreParts new p
  parts_stay (Run p) h = record {
    invariants = truth_stays old new grown p.invariants h.invariants;
    undefined = truth_stays old new grown p.undefined h.undefined;
    kept = truths_stay old new grown p.kept h.kept;
    agree = truths_stay old new grown p.agree h.agree;
    valid = truth_stays old new grown p.valid h.valid;
  }
  parts_stay (Step p) h = record { properties = truth_stays old new grown p.properties h.properties; behind = truths_stay old new grown p.behind h.behind }

  results_stay : (p : Parts) → HaveResults old p → HaveResults new p
  results_stay (Run p) h = (term_stays old new grown p.result h.0, term_stays old new grown p.wanted h.1)
  results_stay (Step p) h = tt

  wanted_there : (r : ℕ) (w : Option ℕ) → r < length old → IsWanted old r w → IsWanted new r w
  wanted_there r None low h = tt
  wanted_there r (Some w) low h = (omega (arith, h.0, grown.longer), grown.widths r low ∙ h.1 ∙ sym (grown.widths w h.0))

  result_there : (r w : Option ℕ) → HasResult old r w → HasResult new r w
  result_there None w h = absurd h
  result_there (Some r) w h = (omega (arith, h.0, grown.longer), wanted_there r w h.0 h.1)

  goal_stays : (p : Parts) (o : Obligation) → HasGoal old p o → HasGoal new p o
  goal_stays (Run p) owed.Undefined h = tt
  goal_stays (Run p) (owed.Invariant i) h = h
  goal_stays (Run p) (owed.State f) h = h
  goal_stays (Run p) owed.ResultValue h = result_there p.result p.wanted h
  goal_stays (Run p) (owed.Property k) h = absurd h
  goal_stays (Step p) owed.Undefined h = absurd h
  goal_stays (Step p) (owed.Invariant i) h = absurd h
  goal_stays (Step p) (owed.State f) h = absurd h
  goal_stays (Step p) owed.ResultValue h = absurd h
  goal_stays (Step p) (owed.Property k) h = h

  told_end_stays : (v : Reading) (p : RunParts) (s : Spec) (t : Transition) (memory : Memory) (args : List ℕ) (end : RunEnd) → AreRunParts old p → IsTermOf old p.result
      → TellsEnd old v p s t memory args end → TellsEnd new v p s t memory args end
  told_end_stays v p s t memory args (Returned returned after) a r h = record {
    defined = true_stays old new grown p.undefined a.undefined v ∙ h.defined;
    kept = each_stays old new grown v p.kept s.invariants (λ n. invariant_holds s n after) a.kept h.kept;
    agree = fields_stay old new grown v p.agree s (abstraction s after) (specified s t memory args).state a.agree h.agree;
    result = result_stays old new grown v p.result returned r h.result;
  }
  told_end_stays v p s t memory args (Stuck reason line) a r h = true_stays old new grown p.undefined a.undefined v ∙ h
  told_end_stays v p s t memory args Lost a r h = h

  told_stays : (m : ModuleView) (v : Reading) (p : Parts) (s : Spec) (t : Transition) (c : Case) → AreParts old p → HaveResults old p → Tells m old v p s t c → Tells m new v p s t c
  told_stays m v (Run p) s t (Machine memory args) a r h =
      let same = true_stays old new grown p.invariants a.invariants v in
      record {
        invariants = (λ e. h.invariants.0 (sym same ∙ e), λ i. same ∙ h.invariants.1 i);
        ends = h.ends;
        end = λ e is. told_end_stays v p s t memory args e a r.0 (h.end e is);
        valid = true_stays old new grown p.valid a.valid v ∙ h.valid;
        wanted = number_stays old new grown p.wanted r.1 v ∙ h.wanted;
      }
  told_stays m v (Run p) s t (Abstract state args) a r h = absurd h
  told_stays m v (Step p) s t (Machine memory args) a r h = absurd h
  told_stays m v (Step p) s t (Abstract state args) a r h =
      let same = true_stays old new grown p.properties a.properties v in
      record {
        properties = (λ e. h.properties.0 (sym same ∙ e), λ i. same ∙ h.properties.1 i);
        behind = each_stays old new grown v p.behind s.properties (λ n. property_holds s n (transition s t state args).state) a.behind h.behind;
      }

-- ---- parts with their list

listed_stay : (a b : Listed) → Extends a.terms b.terms → b.parts ≡ a.parts → AreListed a → AreListed b
listed_stay a b grown same h = record {
  parts = subst (AreParts b.terms) (sym same) (parts_stay a.terms b.terms grown a.parts h.parts);
  results = subst (HaveResults b.terms) (sym same) (results_stay a.terms b.terms grown a.parts h.results);
}

ready_stays : (m : ModuleView) (xs : List Origin) (s : Spec) (t : Transition) (a b : Listed) (o : Obligation) → Extends a.terms b.terms → b.parts ≡ a.parts → AreListed a → IsReady m xs s t a o → IsReady m xs s t b o
ready_stays m xs s t a b o grown same l h = record {
  goal = λ is. subst (λ p. HasGoal b.terms p o) (sym same) (goal_stays a.terms b.terms grown a.parts o (h.goal is));
  told = λ v. subst (λ p. Tells m b.terms v p s t (case_at xs s t o v)) (sym same) (told_stays a.terms b.terms grown m v a.parts s t (case_at xs s t o v) l.parts l.results (h.told v));
}

-- ---- handlers

pub step_for : (p : PreparedView) (o : Obligation) → is_property o ≡ true → listed_for p o ≡ p.step
step_for p (owed.Property k) e = refl
step_for p owed.Undefined e = cc
step_for p (owed.Invariant i) e = cc
step_for p (owed.State f) e = cc
step_for p owed.ResultValue e = cc

pub run_for : (p : PreparedView) (o : Obligation) → is_property o ≡ false → listed_for p o ≡ p.run
run_for p (owed.Property k) e = cc
run_for p owed.Undefined e = refl
run_for p (owed.Invariant i) e = refl
run_for p (owed.State f) e = refl
run_for p owed.ResultValue e = refl

pub step_grown : (m : ModuleView) (s : Spec) (t : Transition) (p : PreparedView) (l : Listed) → Extends p.step.terms l.terms → l.parts ≡ p.step.parts → IsPrepared m s t p
    → IsPrepared m s t (record { origins = p.origins; run = p.run; step = l })
step_grown m s t p l grown same h = record { run = h.run; step = listed_stay p.step l grown same h.step; ready = each }
  where
    each : (o : Obligation) → IsReady m p.origins s t (listed_for (record { origins = p.origins; run = p.run; step = l }) o) o
    each (owed.Property k) = ready_stays m p.origins s t p.step l (owed.Property k) grown same h.step (h.ready (owed.Property k))
    each owed.Undefined = h.ready owed.Undefined
    each (owed.Invariant i) = h.ready (owed.Invariant i)
    each (owed.State f) = h.ready (owed.State f)
    each owed.ResultValue = h.ready owed.ResultValue

pub run_grown : (m : ModuleView) (s : Spec) (t : Transition) (p : PreparedView) (l : Listed) → Extends p.run.terms l.terms → l.parts ≡ p.run.parts → IsPrepared m s t p
    → IsPrepared m s t (record { origins = p.origins; run = l; step = p.step })
run_grown m s t p l grown same h = record { run = listed_stay p.run l grown same h.run; step = h.step; ready = each }
  where
    each : (o : Obligation) → IsReady m p.origins s t (listed_for (record { origins = p.origins; run = l; step = p.step }) o) o
    each (owed.Property k) = h.ready (owed.Property k)
    each owed.Undefined = ready_stays m p.origins s t p.run l owed.Undefined grown same h.run (h.ready owed.Undefined)
    each (owed.Invariant i) = ready_stays m p.origins s t p.run l (owed.Invariant i) grown same h.run (h.ready (owed.Invariant i))
    each (owed.State f) = ready_stays m p.origins s t p.run l (owed.State f) grown same h.run (h.ready (owed.State f))
    each owed.ResultValue = ready_stays m p.origins s t p.run l owed.ResultValue grown same h.run (h.ready owed.ResultValue)

pub prepared_so : (m : ModuleView) (s : Spec) (t : Transition) (xs : List Origin) (run step : Listed) → AreListed run → AreListed step → ((o : Obligation) → IsOfRun o → IsReady m xs s t run o)
    → ((k : ℕ) → IsReady m xs s t step (owed.Property k)) → IsPrepared m s t (record { origins = xs; run = run; step = step })
prepared_so m s t xs run step r p runs steps = record { run = r; step = p; ready = each }
  where
    each : (o : Obligation) → IsReady m xs s t (listed_for (record { origins = xs; run = run; step = step }) o) o
    each (owed.Property k) = steps k
    each owed.Undefined = runs owed.Undefined tt
    each (owed.Invariant i) = runs (owed.Invariant i) tt
    each (owed.State f) = runs (owed.State f) tt
    each owed.ResultValue = runs owed.ResultValue tt
