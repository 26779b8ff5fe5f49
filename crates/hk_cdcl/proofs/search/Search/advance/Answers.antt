use Rattle.std.proofs.Common.{sym, ◌∙◌, subst}
use Rattle.hk_cnf.specs.Clauses.{AreWithin}
use Rattle.hk_cdcl.specs.Path.{AreTruths, AreSet}
use Rattle.hk_cdcl.specs.Solved.{Satisfies}
use Rattle.hk_cdcl.proofs.Satisfying.{quiet-satisfies}
use Rattle.hk_cdcl.proofs.search.Search.advance.Goals as goal

pub returns-in_ok-values-in-None-clause-advanced : goal.returns-in_ok-values-in-None-clause-advanced
returns-in_ok-values-in-None-clause-advanced c =
    let t : AreTruths c.args.self.now.trail.lits c.args.self.now.trail.vars c.in_ok-values-in-None.values.items = c.in_ok-values-in-None.ensures in
    let s : AreSet c.args.self.now.trail.lits c.args.self.now.trail.vars = c.in-None.ensures in
    subst (Satisfies c.args.self.now.clauses) (sym c.new.ensures) (record {
      each = t.each ∙ c.requires.leveled.0.vars;
      holds = quiet-satisfies c.args.self.now.trail.lits c.args.self.now.trail.vars c.in_ok-values-in-None.values.items c.args.self.now.clauses.clauses s t
          (subst (λ n. AreWithin n c.args.self.now.clauses.clauses) (sym c.requires.leveled.0.vars) c.len-within.ensures.within) c.requires.quiet;
    })
