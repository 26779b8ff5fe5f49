-- Pairs that were added are true under an assignment that satisfies the clauses.
use Rattle.std.proofs.Common.{◌≡◌, ℕ, true, List, sym, ◌∙◌, ap, Bool}
use Rattle.std.specs.Prelude.{slice_get}
use Rattle.std.proofs.lemmas.Option.{same_Some}
use Rattle.hk_term.specs.Meaning.{Reading}
use Rattle.hk_cnf.specs.Clauses.{clauses_value}
use Rattle.hk_blast.specs.Blasted.{HasWord}
use Rattle.hk_inst.specs.declared.instance.Instance.TheVariants.{Pair}
use Rattle.hk_inst.specs.Inputs.{number_in}
use Rattle.hk_inst.specs.Truths.{IsTrue, is_among}
use Rattle.hk_inst.specs.Questions.{Asked, IsQuestion}
use Rattle.hk_inst.proofs.Members.{index_of, among-contains}
use Rattle.hk_inst.proofs.RequiredTerms.{agreement-says}
use Rattle.hk_inst.proofs.QuestionFacts.{gates-hold, all-hold, local, demand-one}

pub added-pair : (q : Asked) (h : IsQuestion q) (a : List Bool) → clauses_value a q.circuit.clauses ≡ true → (i j : ℕ) (r : Reading) → is_among q.instances (Pair i j) ≡ true → IsTrue q.nodes q.table (number_in q.table.words a) r (Pair i j)
added-pair q h a s i j r among p e =
    let (d, (its, agrees), known, one) = demand-one q h a (all-hold q h a s) (Pair i j) (among-contains q.instances (Pair i j) among) in
    let f : ℕ → ℕ = number_in q.table.words a in
    let first : its.first ≡ p.first = same_Some its.first p.first (sym its.first_at ∙ p.first_at) in
    let second : its.second ≡ p.second = same_Some its.second p.second (sym its.second_at ∙ p.second_at) in
    let place : its.place ≡ p.place = ap index_of (sym its.first_is ∙ ap (slice_get q.nodes) first ∙ p.first_is) in
    let other_place : its.other_place ≡ p.other_place = ap index_of (sym its.second_is ∙ ap (slice_get q.nodes) second ∙ p.second_is) in
    sym (ap f first) ∙ agreement-says q.nodes (HasWord q.table.words) f (local q h a (gates-hold q h a s)) its.first its.second its.place its.other_place d agrees known one (ap f place ∙ e ∙ sym (ap f other_place)) ∙ ap f second
