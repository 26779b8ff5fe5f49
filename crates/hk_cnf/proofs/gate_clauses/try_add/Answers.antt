use Rattle.std.proofs.Common.{◌≡◌, ◌∙◌, ◌++◌, ◌∷◌, [], length}
use Rattle.indexmap.proofs.CallerLemmas.{insert_entry-new}
use Rattle.hk_cnf.specs.contracts.operation.OperationPartialEq.TheImpl.{eq-value}
use Rattle.hk_cnf.proofs.Keys.{lookup-key}
use Rattle.hk_cnf.proofs.gate_clauses.try_add.Goals as goal

pub returns-clause-gates : goal.returns-clause-gates
returns-clause-gates c =
    let vars : c.vars-output.result ≡ c.args.list.now.vars = c.vars-output.ensures.value in
    let clauses : c.len-clause.result ≡ length c.args.list.now.clauses = c.len-clause.ensures.value in
    c.in_ok-insert.ensures.entries
    ∙ (insert_entry-new eq-value.it c.args.gates.now c.args.op (record { output = c.vars-output.result; clause = c.len-clause.result })
    (lookup-key c.args.op c.args.gates.now.entries ∙ c.requires.absent)
    ∙ (λ i. c.args.gates.now.entries ++ (c.args.op, record { output = vars i; clause = clauses i }) ∷ []))
