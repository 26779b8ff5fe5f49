use Rattle.hk_cnf.proofs.OwnClauses.{gate_value-own}
use Rattle.hk_circuit.proofs.WordNumbers.{number-below}
use Rattle.hk_blast.proofs.BlastedLaws.{word_number-is, word_number-below, have-values}
use Rattle.hk_blast.proofs.laws.words_have_their_numbers.Goals as goal

pub returns : goal.returns
returns c = record {
  below = word_number-below;
  gates_below = number-below;
  same = λ d h a s word. word_number-is d a (gate_value-own d a h s) word;
  values = λ nodes d table h b a s. have-values nodes d table a b (gate_value-own d a h s);
}
