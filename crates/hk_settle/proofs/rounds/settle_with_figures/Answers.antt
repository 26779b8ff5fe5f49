use Rattle.std.proofs.Common.{◌≡◌, sym, subst, rules}
use Rattle.hk_term.specs.Meaning.{Reading, value}
use Rattle.hk_settle.specs.Answers.{IsRefuted, IfRefuted}
use Rattle.hk_settle.proofs.Refutations.{parted, refuted-at, none-at}
use Rattle.hk_settle.proofs.rounds.settle_with_figures.Goals as goal
use Rattle.hk_settle.proofs.rounds.settle_with_figures.Goals.{in-Refuted, in-True, in-Spent}

pub returns-clause-refuted : goal.returns-clause-refuted
returns-clause-refuted c = elim c.match-end.branch [
  | in-Refuted w ↦
      subst (IfRefuted (IsRefuted c.args.question)) (sym w.settled-is)
      (refuted-at c.args.question c.into_parts-instances.result.0 w.in-Refuted.log
      (parted c.args.question c.decide-ended.new.question c.decide-ended.ensures.goal c.into_parts-instances.result.0 c.into_parts-instances.result.1 c.into_parts-instances.ensures.exact c.into_parts-instances.ensures.clauses c.in_ok-end.end w.in-Refuted.log w.in-Refuted.is c.in_ok-end.ensures.refuted))
  | in-True w ↦ search rules
  | in-Spent w ↦ search rules
]

pub returns-clause-none : goal.returns-clause-none
returns-clause-none c = elim c.match-end.branch [
  | in-Refuted w ↦
      subst (IfRefuted (λ _ _. (v : Reading) → value c.args.question.nodes c.args.question.goal v ≡ 1 → ⊥)) (sym w.settled-is)
      (none-at c.args.question c.into_parts-instances.result.0 w.in-Refuted.log
      (parted c.args.question c.decide-ended.new.question c.decide-ended.ensures.goal c.into_parts-instances.result.0 c.into_parts-instances.result.1 c.into_parts-instances.ensures.exact c.into_parts-instances.ensures.clauses c.in_ok-end.end w.in-Refuted.log w.in-Refuted.is c.in_ok-end.ensures.refuted))
  | in-True w ↦ search rules
  | in-Spent w ↦ search rules
]
