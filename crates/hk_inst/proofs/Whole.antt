-- The clauses of a question are exact for its goal and its instances.
use Rattle.std.proofs.Common.{◌≡◌, ℕ, ◌%◌, ◌^◌, nat_eq, List, Some, refl, sym, ◌∙◌, subst, arith}
use Rattle.std.specs.Prelude.{slice_get}
use Rattle.std.proofs.lemmas.Bool.{eqb-true, eq-eqb}
use Rattle.hk_term.specs.Meaning.{Reading, every_tuple, value}
use Rattle.hk_term.proofs.TermLists.{holds}
use Rattle.hk_copy.specs.Stands.{with_tuple}
use Rattle.hk_cnf.specs.Required.{required_of}
use Rattle.hk_cnf.proofs.Determination.{IsDetermined-circuit, Mixes-required}
use Rattle.hk_blast.proofs.Unfixed.{inputs-unfixed}
use Rattle.hk_blast.specs.Blasted.{HasWord}
use Rattle.hk_inst.specs.declared.instance.Instance.TheVariants.{Pair, Tuple}
use Rattle.hk_inst.specs.Inputs.{is_select}
use Rattle.hk_inst.specs.Truths.{PairOf, TupleOf}
use Rattle.hk_inst.specs.Exactness.{AreSound, Exact}
use Rattle.hk_inst.proofs.Tuples.{tuple-at}
use Rattle.hk_inst.proofs.Members.{numbered-are, member-at}
use Rattle.hk_inst.proofs.RequiredTerms.{bit-true}
use Rattle.hk_inst.specs.Questions.{Asked, IsQuestion}
use Rattle.hk_inst.proofs.ToCase.{goal-is-true}
use Rattle.hk_inst.proofs.FromCase.{case-extends}

-- every instance is true in each case
pair-sound : (q : Asked) → IsQuestion q → (v : Reading) (a b : ℕ) (p : PairOf q.nodes q.table a b) → value q.nodes p.place v ≡ value q.nodes p.other_place v → value q.nodes p.first v ≡ value q.nodes p.second v
pair-sound q h v a b p e =
    (holds q.nodes p.first _ h.fit p.first_is).value_is v ∙ (λ i. v.entry p.array (e i) % 2 ^ sizes i) ∙ sym ((holds q.nodes p.second _ h.fit p.second_is).value_is v)
  where
    known : (k t : ℕ) → slice_get q.table.reads k ≡ Some t → HasWord q.table.words t
    known k t at = subst (λ ws. HasWord ws t) (sym h.table.steps_are) (numbered-are q.nodes is_select h.table.reads t (member-at q.table.reads k t at))

    sizes : p.size ≡ p.other_size
    sizes = h.one_size p.first p.second p.array p.size p.other_size p.place p.other_place (known a p.first p.first_at) (known b p.second p.second_at) p.first_is p.second_is

tuple-sound : (q : Asked) → IsQuestion q → (v : Reading) (k : ℕ) (ks : List ℕ) (p : TupleOf q.nodes q.table k ks) → value q.nodes p.term v ≡ 1 → value q.nodes p.body (with_tuple p.bound ks v) ≡ 1
tuple-sound q h v k ks p e =
    eqb-true (value q.nodes p.body (with_tuple p.bound ks v)) 1
    (tuple-at p.bound (λ x. nat_eq (value q.nodes p.body x) 1) v
    (bit-true (every_tuple p.bound (λ x. nat_eq (value q.nodes p.body x) 1) v) (sym ((holds q.nodes p.term _ h.fit p.is).value_is v) ∙ e)) ks p.fits)

sound : (q : Asked) → IsQuestion q → AreSound q.nodes q.table
sound q h v (Pair a b) = pair-sound q h v a b
sound q h v (Tuple k ks) = tuple-sound q h v k ks

pub exact : (q : Asked) → IsQuestion q → Exact (λ v. nat_eq (value q.nodes q.goal v) 1) q.instances (record { vars = q.circuit.vars; clauses = q.circuit.clauses })
exact q h = record {
  nodes = q.nodes;
  goal = q.goal;
  means = λ v. refl;
  table = q.table;
  is_table = h.table;
  sound = sound q h;
  from_case = λ v e. case-extends q h v (eqb-true (value q.nodes q.goal v) 1 e);
  to_case = λ a l s others. eq-eqb _ 1 (goal-is-true q h a s others);
  determined = record {
    circuit = q.circuit;
    vars = refl;
    required = required_of q.circuit;
    mixes = Mixes-required q.circuit h.circuit;
    few = omega (arith, h.count);
    determined = IsDetermined-circuit q.circuit h.circuit;
    free = inputs-unfixed q.nodes q.circuit q.table.words h.circuit h.blasted;
    only = h.only;
  };
}
