use Rattle.hk_lrat.proofs.Refuted.{unsatisfiable, refuted, not_refuted}
use Rattle.hk_lrat.proofs.refutation.refutes.Goals as goal

pub returns-clause-unsatisfiable : goal.returns-clause-unsatisfiable
returns-clause-unsatisfiable c = unsatisfiable c.args.list.now c.args.log.now c.try_log.result c.try_log.ensures

pub returns-clause-refuted : goal.returns-clause-refuted
returns-clause-refuted c = refuted c.args.list.now c.args.log.now c.try_log.result c.try_log.ensures

pub returns-clause-not_refuted : goal.returns-clause-not_refuted
returns-clause-not_refuted c = not_refuted c.args.list.now c.args.log.now c.try_log.result c.try_log.ensures
