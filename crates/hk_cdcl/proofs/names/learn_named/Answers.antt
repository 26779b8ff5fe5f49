use Rattle.std.proofs.Common.{◌++◌, ◌∷◌, [], ◌+◌, take, map, length, sym, ◌∙◌, ap, subst}
use Rattle.std.specs.List.{All}
use Rattle.hk_cnf.specs.Literal.{IsWithin}
use Rattle.hk_cnf.specs.Clauses.{Clauses}
use Rattle.hk_cdcl.specs.Names.{named, AreNames}
use Rattle.hk_cdcl.proofs.Naming.{names-learned}
use Rattle.hk_cdcl.proofs.Segmenting.{learns-row}
use Rattle.hk_cdcl.proofs.names.learn_named.Goals as goal

pub returns-in_err-push-clause-learns : goal.returns-in_err-push-clause-learns
returns-in_err-push-clause-learns c =
    learns-row c.args.whole.now (record c.args.whole.now { clauses = c.add_row.new.clauses; log = c.add_row.new.log }) c.args.part.now.clauses c.args.names.now.items c.args.place c.args.row.now c.in_ok-clause.clause.items c.in_ok-hints.hints
    c.requires.derived c.requires.names (c.in_ok-clause.ensures.items ∙ c.clause.ensures.same)
    (c.in_ok-hints.ensures ∙ (ap (λ ns. map (named ns) c.ids_of.result.now) c.as_slice.ensures.value ∙ ap (map (named c.args.names.now.items)) c.ids_of.ensures))
    (subst (λ v. All (IsWithin v) c.in_ok-clause.clause.items) c.requires.vars (subst (All (IsWithin c.args.part.now.vars)) (sym c.in_ok-clause.ensures.items) c.clause.ensures.within))
    c.in_ok-add_row.ensures.clauses c.in_ok-add_row.ensures.log

pub returns-clause-learns : goal.returns-clause-learns
returns-clause-learns c =
    learns-row c.args.whole.now (record c.args.whole.now { clauses = c.add_row.new.clauses; log = c.add_row.new.log }) c.args.part.now.clauses c.args.names.now.items c.args.place c.args.row.now c.in_ok-clause.clause.items c.in_ok-hints.hints
    c.requires.derived c.requires.names (c.in_ok-clause.ensures.items ∙ c.clause.ensures.same)
    (c.in_ok-hints.ensures ∙ (ap (λ ns. map (named ns) c.ids_of.result.now) c.as_slice.ensures.value ∙ ap (map (named c.args.names.now.items)) c.ids_of.ensures))
    (subst (λ v. All (IsWithin v) c.in_ok-clause.clause.items) c.requires.vars (subst (All (IsWithin c.args.part.now.vars)) (sym c.in_ok-clause.ensures.items) c.clause.ensures.within))
    c.in_ok-add_row.ensures.clauses c.in_ok-add_row.ensures.log

pub returns-clause-names : goal.returns-clause-names
returns-clause-names c =
    subst (AreNames (take (c.args.place + 1) c.args.part.now.clauses) c.add_row.new.clauses.clauses) (sym c.in_ok-push.ensures.items)
    (subst (λ (k : Clauses). AreNames (take (c.args.place + 1) c.args.part.now.clauses) k.clauses (c.args.names.now.items ++ c.len.result ∷ [])) (sym c.in_ok-add_row.ensures.clauses)
    (names-learned c.args.part.now.clauses c.args.whole.now.clauses.clauses c.args.names.now.items c.args.place c.len.result c.in_ok-clause.clause.items c.requires.names c.requires.inside (c.in_ok-clause.ensures.items ∙ c.clause.ensures.same)
    (c.len.ensures.value ∙ ap (λ (k : Clauses). length k.clauses) c.in_ok-add_row.ensures.clauses)))
