use Rattle.std.proofs.Common.{◌≡◌, ◌∷◌, [], ◌++◌, List, ℕ, length, refl, sym, ◌∙◌, ap, subst}
use Rattle.hk_cdcl.specs.Path.{Path, with_step}
use Rattle.hk_cdcl.specs.Searching.{IsLeveled}
use Rattle.hk_cdcl.proofs.Leveling.{leveled-decision}
use Rattle.hk_cdcl.proofs.search.Search.decide.Goals as goal

pub returns-clause-decided : goal.returns-clause-decided
returns-clause-decided c =
    let levels : List ℕ = c.args.self.now.levels.items in
    let grown : c.push.new.self.items ≡ levels ++ length c.args.self.now.trail.lits ∷ [] = c.in_ok-push.ensures.items ∙ ap (λ n. levels ++ n ∷ []) c.len-len.ensures.value in
    let step : c.push-2.new.self ≡ with_step c.args.self.now.trail c.literal_of-lit.result 0 = c.push-2.ensures in
    record {
      leveled = (
        subst (λ t. IsLeveled c.args.self.now.clauses t c.push.new.self.items) (sym step)
            (subst (IsLeveled c.args.self.now.clauses (with_step c.args.self.now.trail c.literal_of-lit.result 0)) (sym grown)
            (leveled-decision c.args.self.now.clauses c.args.self.now.trail levels c.literal_of-lit.result c.len-len.ensures.path c.requires.leveled.0 c.requires.quiet)),
        c.requires.leveled.1 ∙ sym (ap (λ (p : Path). p.vars) step),
      );
      clauses = refl;
      left = refl;
      vars = ap (λ (p : Path). p.vars) step;
      literal = c.literal_of-lit.result;
      lits = ap (λ (p : Path). p.lits) step;
      count = c.len-count.ensures.path.count;
    }
