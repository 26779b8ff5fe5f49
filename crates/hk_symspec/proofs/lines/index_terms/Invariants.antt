use Rattle.std.proofs.Common.{◌≡◌, ◌<◌, ◌++◌, length, drop, map}
use Rattle.std.specs.Prelude.{All}
use Rattle.hk_term.specs.Shape.{width}
use Rattle.hk_term.specs.Meaning.{Reading}
use Rattle.spec_tree.specs.Value.{Env, values}
use Rattle.spec_tree.specs.View.{view_expr_list, view_exprs, view_spec}
use Rattle.hk_symexpr.specs.Sources.{Keeps}
use Rattle.hk_symspec.specs.States.{numbers_at}
use Rattle.hk_symspec.specs.Lines.{AreSorted, IsPoint, LineReads, line_context, widths_of}
use Rattle.hk_symspec.proofs.lines.index_terms.Given as goal

-- what was put, and what is still to come, is the whole
abbrev pub invariant-each : goal.invariant-each
invariant-each g l = record {
  point : IsPoint (view_spec l.setting.spec.now) l.t l.setting.state.now l.setting.args.now l.setting.known.now l.locals l.writes;
  sorted : AreSorted (line_context (view_spec l.setting.spec.now) l.setting.args.now l.locals) (view_exprs (drop l.e-index l.items));
  within : All (λ k. k < length l.t) l.terms.items;
  widths : map (width l.t) l.terms.items ++ widths_of (line_context (view_spec l.setting.spec.now) l.setting.args.now l.locals) (view_exprs (drop l.e-index l.items))
      ≡ widths_of (line_context (view_spec l.setting.spec.now) l.setting.args.now l.locals) (view_expr_list l.at);
  numbers : (v : Reading) (env : Env) → LineReads (view_spec l.setting.spec.now) l.initial.t l.setting.state.now l.setting.args.now l.setting.known.now l.locals l.writes v env
      → numbers_at l.t l.terms.items v ++ values (line_context (view_spec l.setting.spec.now) l.setting.args.now l.locals) env (view_exprs (drop l.e-index l.items))
      ≡ values (line_context (view_spec l.setting.spec.now) l.setting.args.now l.locals) env (view_expr_list l.at);
  reads : (v : Reading) (env : Env) → LineReads (view_spec l.setting.spec.now) l.initial.t l.setting.state.now l.setting.args.now l.setting.known.now l.locals l.writes v env
      → LineReads (view_spec l.setting.spec.now) l.t l.setting.state.now l.setting.args.now l.setting.known.now l.locals l.writes v env;
  keeps : Keeps l.initial.t l.t;
}
