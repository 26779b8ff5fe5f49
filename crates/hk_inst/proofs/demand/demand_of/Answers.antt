use Rattle.std.proofs.Common.{ℕ, List, map, subst}
use Rattle.std.specs.Prelude.{IfOk}
use Rattle.hk_term.specs.declared.bounds.Bound.{Bound}
use Rattle.hk_copy.specs.declared.stand.Stand.TheVariants.{Number}
use Rattle.hk_copy.specs.Stands.{standing}
use Rattle.hk_copy.specs.Copies.{Copies}
use Rattle.hk_copy.proofs.StepLaws.{grows-refl}
use Rattle.hk_inst.specs.Demanded.{IsImplication}
use Rattle.hk_inst.proofs.Subjects.{pair-demand, tuple-demand}
use Rattle.hk_inst.proofs.demand.demand_of.Goals as goal

pub returns-in-Reads-clause-demand : goal.returns-in-Reads-clause-demand
returns-in-Reads-clause-demand c =
    pair-demand c.agreement.result c.args.terms.now c.agreement.new.terms c.args.instance.now c.args.subject.now _ _ c.in-Reads.first c.in-Reads.second c.in-Reads.place c.in-Reads.other_place c.in-Pair.is c.in-Reads.is (c.agreement.ensures.grows c.args.terms.now (grows-refl c.args.terms.now)) c.agreement.ensures.agrees

pub returns-in-Quantifier-subject-clause-demand : goal.returns-in-Quantifier-subject-clause-demand
returns-in-Quantifier-subject-clause-demand c =
    tuple-demand c.tuple_demand.result c.args.terms.now c.tuple_demand.new.terms c.args.instance.now c.args.subject.now _ _ c.in-Quantifier-subject.term _ c.in-Quantifier-subject.body c.in-Tuple.is c.in-Quantifier-subject.is c.tuple_demand.ensures.grows
    (subst (λ (z : List Bound × List ℕ). IfOk c.tuple_demand.result (λ d. (b : ℕ) × (Copies c.tuple_demand.new.terms (standing z.0 (map Number z.1)) c.in-Quantifier-subject.body b) × (IsImplication c.tuple_demand.new.terms c.in-Quantifier-subject.term b d)))
    (λ n. (c.as_slice.ensures n, c.as_slice-in-Quantifier-subject.ensures n)) c.tuple_demand.ensures.demand)
