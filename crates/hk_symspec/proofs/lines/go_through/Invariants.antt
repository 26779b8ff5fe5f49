use Rattle.std.proofs.Common.{◌≡◌, drop, map}
use Rattle.hk_term.specs.Meaning.{Reading}
use Rattle.spec_tree.specs.Sorted.{AreLines, lets_of, with_locals}
use Rattle.spec_tree.specs.Value.{Env}
use Rattle.spec_tree.specs.View.{view_line, view_spec}
use Rattle.spec_tree.specs.Meaning.{after_lines}
use Rattle.hk_symexpr.specs.Sources.{Keeps}
use Rattle.hk_symspec.specs.Lines.{IsPoint, LineReads, line_context}
use Rattle.hk_symspec.proofs.LineLaws.{LeadsOn}
use Rattle.hk_symspec.proofs.lines.go_through.Given as goal

-- what is left ends as the whole does
abbrev pub invariant-each : goal.invariant-each
invariant-each g l = record {
  point : IsPoint (view_spec l.setting.spec.now) l.t l.setting.state.now l.setting.args.now l.setting.known.now l.locals.items l.writes.items;
  sorted : AreLines (line_context (view_spec l.setting.spec.now) l.setting.args.now l.locals.items) (map view_line (drop l.line-index l.lines));
  context : with_locals (line_context (view_spec l.setting.spec.now) l.setting.args.now l.locals.items) (lets_of (map view_line (drop l.line-index l.lines)))
      ≡ with_locals (line_context (view_spec l.setting.spec.now) l.setting.args.now l.initial.locals.items) (lets_of (map view_line l.lines));
  reads : (v : Reading) (env : Env) → LineReads (view_spec l.setting.spec.now) l.initial.t l.setting.state.now l.setting.args.now l.setting.known.now l.initial.locals.items l.initial.writes.items v env
      → LeadsOn (view_spec l.setting.spec.now) l.t l.setting.state.now l.setting.args.now l.setting.known.now l.locals.items l.writes.items (map view_line (drop l.line-index l.lines)) v
      (after_lines (line_context (view_spec l.setting.spec.now) l.setting.args.now l.initial.locals.items) env (map view_line l.lines));
  keeps : Keeps l.initial.t l.t;
}
