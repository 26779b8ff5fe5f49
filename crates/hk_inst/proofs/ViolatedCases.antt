-- Where nothing is violated, the goal is true in the completed case.
use Rattle.std.proofs.Common.{◌≡◌, ◌<◌, ℕ, true, false, List, [], ◌∷◌, Bool, length, refl, arith}
use Rattle.std.proofs.lemmas.Option.{slice_get_within}
use Rattle.std.specs.List.{All}
use Rattle.hk_term.specs.Meaning.{value}
use Rattle.hk_cnf.specs.Clauses.{clauses_value}
use Rattle.hk_inst.specs.declared.instance.Instance.{Instance}
use Rattle.hk_inst.specs.declared.instance.Instance.TheVariants.{Pair, Tuple}
use Rattle.hk_inst.specs.Inputs.{number_in, completed}
use Rattle.hk_inst.specs.Truths.{IsTrue, is_among}
use Rattle.hk_inst.specs.Questions.{Asked, IsQuestion}
use Rattle.hk_inst.specs.Violations.{AgreesWithFirst}
use Rattle.hk_inst.proofs.FirstReads.{pair-agrees}
use Rattle.hk_inst.proofs.ToCase.{goal-is-true}

pub none-violated : (q : Asked) (h : IsQuestion q) (a : List Bool) → clauses_value a q.circuit.clauses ≡ true → All (AgreesWithFirst q.nodes (number_in q.table.words a) q.table.reads) q.table.reads
    → ((k : ℕ) → k < length q.table.quantifiers → (ks : List ℕ) → is_among q.instances (Tuple k ks) ≡ false → IsTrue q.nodes q.table (number_in q.table.words a) (completed q.nodes q.table (number_in q.table.words a)) (Tuple k ks))
    → value q.nodes q.goal (completed q.nodes q.table (number_in q.table.words a)) ≡ 1
none-violated q h a s agree tuples = goal-is-true q h a s each
  where
    each : (i : Instance) → is_among q.instances i ≡ false → IsTrue q.nodes q.table (number_in q.table.words a) (completed q.nodes q.table (number_in q.table.words a)) i
    each (Pair i j) out = pair-agrees q.nodes q.table (number_in q.table.words a) (completed q.nodes q.table (number_in q.table.words a)) agree i j
    each (Tuple k ks) out = λ p. tuples k (slice_get_within q.table.quantifiers k p.term p.at) ks out p

-- a list of no elements
pub none-found : (l : List Instance) → length l ≡ 0 → l ≡ []
none-found [] e = refl
none-found (i ∷ is) e = absurd (omega (arith, e))
