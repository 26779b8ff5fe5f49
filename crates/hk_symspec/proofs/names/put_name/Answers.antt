use Rattle.std.proofs.Common.{◌≡◌, List, sym, subst}
use Rattle.hk_term.specs.Meaning as term
use Rattle.hk_term.specs.Meaning.{Reading}
use Rattle.spec_tree.specs.Plain.{Tree}
use Rattle.spec_tree.specs.Sorted.{Context}
use Rattle.spec_tree.specs.Value.{Env, value}
use Rattle.spec_tree.specs.View.{view_expr}
use Rattle.spec_tree.specs.Meaning.{with_value}
use Rattle.hk_symexpr.specs.Sources.{Source}
use Rattle.hk_symexpr.specs.declared.names.NamedTerm.{NamedTerm}
use Rattle.hk_symspec.specs.Formulas.{Reads, formula_context}
use Rattle.hk_symspec.proofs.NameLaws.{reads_more}
use Rattle.hk_symspec.proofs.names.put_name.Goals as goal

pub returns-clause-reads : goal.returns-clause-reads
returns-clause-reads g c = λ v env s.
    let source : Reading → Source = g.R.SymReads.source c.args.reads.now c.args.t.now in
    let named : Context = g.R.SymReads.named c.args.reads.now in
    let e : Tree = view_expr c.args.e.now in
    let n : NamedTerm = record { term = c.in_ok-term.term; width = c.width-width.result } in
    let Q : List NamedTerm → Type 0 = λ l. (w : Reading) (x : Env) → Reads source named c.args.t.now c.args.args.now l c.args.base w x
    → term.value c.formula_term.new.t c.in_ok-term.term w ≡ value (formula_context named c.args.args.now l c.args.base) x e in
    let P : List NamedTerm → Type 0 = λ l. Reads (g.R.SymReads.source c.args.reads.now c.formula_term.new.t) named c.formula_term.new.t c.args.args.now l c.args.base v
    (with_value (formula_context named c.args.args.now c.args.locals.now.items c.args.base) env e) in
    subst P (sym c.in_ok-push.ensures.items)
    (reads_more source (g.R.SymReads.source c.args.reads.now c.formula_term.new.t) named
    c.args.t.now c.formula_term.new.t c.args.args.now c.args.locals.now.items c.args.base e n
    c.in_ok-term.ensures.keeps_values c.in_ok-term.ensures.source c.requires.formula.names.args c.requires.formula.names.locals
    (subst Q c.as_slice.ensures.value c.in_ok-term.ensures.value) v env s)
