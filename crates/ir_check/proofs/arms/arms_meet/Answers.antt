use Rattle.ir_ast.specs.View.{view_type}
use Rattle.ir_ast.specs.ProgramView.{view_entries, view_type_entry}
use Rattle.ir_check.proofs.ArmOperands.{meets_say, counts_refute}
use Rattle.ir_check.proofs.arms.arms_meet.Goals as goal

pub returns-clause-meet : goal.returns-clause-meet
returns-clause-meet c = λ f b p is there rows known.
    meets_say (view_entries view_type_entry c.args.types.now) f b p (view_type c.args.over.now) c.args.arms.now c.args.index.now c.in_ok-places.places c.args.sources.now c.same_counts.result c.in_ok-same.same
    c.len.ensures.distinct is there rows known c.in_ok-places.ensures c.same_counts.ensures c.if-not-same_counts.false c.in_ok-same.ensures.same

pub returns-then-not-same_counts-clause-meet : goal.returns-then-not-same_counts-clause-meet
returns-then-not-same_counts-clause-meet c = λ f b p is there rows known.
    counts_refute (view_entries view_type_entry c.args.types.now) f b p (view_type c.args.over.now) c.args.arms.now c.args.index.now c.in_ok-places.places c.args.sources.now c.same_counts.result
    c.len.ensures.distinct is there rows known c.in_ok-places.ensures c.same_counts.ensures c.if-not-same_counts.true
