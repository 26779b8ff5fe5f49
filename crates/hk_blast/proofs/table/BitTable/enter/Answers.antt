use Rattle.std.proofs.Common.{◌∙◌, ◌++◌, ◌∷◌, [], ap, nat_eq}
use Rattle.std.specs.Map.{lookup}
use Rattle.indexmap.proofs.CallerLemmas.{insert_entry-new}
use Rattle.hk_term.specs.contracts.node.TermIdPartialEq.TheImpl.{eq-value}
use Rattle.hk_blast.proofs.table.BitTable.enter.Goals as goal

pub returns-clause-ok : goal.returns-clause-ok
returns-clause-ok c =
    c.in_ok-insert.ensures.entries
    ∙ (insert_entry-new eq-value.it c.self.inside.words c.args.t c.args.word.items (ap (lookup (nat_eq c.args.t)) c.self.view_is ∙ c.requires)
    ∙ ap (λ es. es ++ (c.args.t, c.args.word.items) ∷ []) c.self.view_is)
