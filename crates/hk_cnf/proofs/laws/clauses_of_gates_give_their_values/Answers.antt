use Rattle.hk_cnf.proofs.OwnClauses.{gate_value-own}
use Rattle.hk_cnf.proofs.laws.clauses_of_gates_give_their_values.Goals as goal

pub returns : goal.returns
returns c = λ d h a s l. gate_value-own d a h s l
