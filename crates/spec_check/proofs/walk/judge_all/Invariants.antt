use Rattle.std.proofs.Common.{◌≡◌, drop}
use Rattle.spec_ast.specs.View.{view_lines}
use Rattle.spec_kernel.specs.Seen.{kernel_in}
use Rattle.spec_lines.specs.View.{view_here, view_text, AreHeadsOf}
use Rattle.spec_lines.specs.MadeView.{view_made}
use Rattle.spec_sound.specs.Limits.{copies_stand}
use Rattle.spec_check.specs.Walk.{end_of}
use Rattle.spec_check.proofs.walk.judge_all.Given as goal

abbrev pub invariant-each : goal.invariant-each
invariant-each l = record {
  heads : AreHeadsOf l.here.scope.fields l.heads;
  kernel : kernel_in l.here.scope.kernel.now ≡ kernel_in l.initial.here.scope.kernel.now;
  ends :
      end_of (view_text l.initial.here.scope.kernel.now l.text) (view_here l.here) (view_made l.made) (view_lines (drop l.line-index l.lines))
      ≡ end_of (view_text l.initial.here.scope.kernel.now l.text) (view_here l.initial.here) (view_made l.initial.made) (view_lines l.lines);
  copies : copies_stand (view_here l.here) (view_lines (drop l.line-index l.lines)) ≡ copies_stand (view_here l.initial.here) (view_lines l.lines);
}
