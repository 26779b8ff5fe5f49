use Rattle.std.proofs.Common.{◌≡◌, ℕ, ◌<◌, ◌≤◌, length, map, drop}
use Rattle.hk_term.specs.Shape.{width, Grows}
use Rattle.hk_term.specs.Meaning.{Reading, value}
use Rattle.spec_tree.specs.Sorted.{AreLocals, with_locals}
use Rattle.spec_tree.specs.Value.{Env}
use Rattle.spec_tree.specs.View.{view_expr, view_locals}
use Rattle.spec_tree.specs.Meaning.{with_values}
use Rattle.hk_symspec.specs.Formulas.{IsFormula, Reads, formula_context}
use Rattle.hk_symspec.proofs.NameLaws.{Leads}
use Rattle.hk_symspec.proofs.names.put_names.Given as goal

-- what is left ends as the whole does
abbrev pub invariant-each : goal.invariant-each
invariant-each g l = record {
  over : g.R.SymReads.is_over l.reads l.t;
  formula : IsFormula (g.R.SymReads.named l.reads) (g.R.SymReads.limit l.reads) l.t l.args l.locals.items l.base;
  sorted : AreLocals (formula_context (g.R.SymReads.named l.reads) l.args l.locals.items l.base) (map view_expr (drop l.e-index l.e-items));
  context : with_locals (formula_context (g.R.SymReads.named l.reads) l.args l.locals.items l.base) (map view_expr (drop l.e-index l.e-items))
      ≡ with_locals (formula_context (g.R.SymReads.named l.reads) l.args l.initial.locals.items l.base) (view_locals l.names);
  leads : (v : Reading) (env : Env) → Reads (g.R.SymReads.source l.reads l.initial.t) (g.R.SymReads.named l.reads) l.initial.t l.args l.initial.locals.items l.base v env
      → Leads (g.R.SymReads.source l.reads l.t) (g.R.SymReads.named l.reads) l.t l.args l.locals.items l.base (map view_expr (drop l.e-index l.e-items)) v
      (with_values (formula_context (g.R.SymReads.named l.reads) l.args l.initial.locals.items l.base) env (view_locals l.names));
  keeps_widths : (k : ℕ) → k < length l.initial.t → width l.t k ≡ width l.initial.t k;
  keeps_values : (k : ℕ) → k < length l.initial.t → (v : Reading) → value l.t k v ≡ value l.initial.t k v;
  longer : length l.initial.t ≤ length l.t;
  grows : Grows l.initial.t l.t;
  source : (v : Reading) → g.R.SymReads.source l.reads l.t v ≡ g.R.SymReads.source l.reads l.initial.t v;
}
