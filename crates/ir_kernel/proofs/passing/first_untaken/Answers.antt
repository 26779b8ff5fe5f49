use Rattle.std.proofs.Common.{map}
use Rattle.ir_ast.specs.View.{view_type}
use Rattle.ir_ast.specs.ProgramView.{view_entries, view_type_entry}
use Rattle.ir_kernel.proofs.PassingLaws.{untaken_more, untaken_here}
use Rattle.ir_kernel.proofs.passing.first_untaken.Goals as goal

pub returns-then-not-branch-clause-first : goal.returns-then-not-branch-clause-first
returns-then-not-branch-clause-first c =
    untaken_here (view_entries view_type_entry c.args.types.now) (map (λ p. (view_type p.0, p.1)) c.args.parameters.now) c.args.arguments.now c.loop-place.place (view_type c.parameter_at-over.result.now) c.argument_at-number.result
    c.in_ok-type_takes.field-0 _ c.parameter_at-over.ensures c.argument_at-number.ensures c.in_ok-type_takes.ensures.takes c.if-not-branch.true c.loop-place.invariant.rest

pub loop-place-preserved : goal.loop-place-preserved
loop-place-preserved c = record {
  rest = untaken_more (view_entries view_type_entry c.args.types.now) (map (λ p. (view_type p.0, p.1)) c.args.parameters.now) c.args.arguments.now c.loop-place.place (view_type c.parameter_at-over.result.now) c.argument_at-number.result
      c.in_ok-type_takes.field-0 _ c.parameter_at-over.ensures c.argument_at-number.ensures c.in_ok-type_takes.ensures.takes c.if-not-branch.false c.loop-place.invariant.rest;
  own = c.type_takes.ensures.own;
}
