use Rattle.std.proofs.Common.{◌≡◌, ◌∙◌, ◌<◌, ℕ, length, List, Bool, [], false, sym, subst, ap}
use Rattle.std.specs.List.{All}
use Rattle.std.proofs.lemmas.Bool.{eqb-true}
use Rattle.hk_term.specs.Meaning.{Reading, value}
use Rattle.hk_cnf.specs.Literal.{IsWithin}
use Rattle.hk_blast.specs.Blasted.{word_in}
use Rattle.hk_blast.proofs.BlastedLaws.{words-within}
use Rattle.hk_inst.specs.Inputs.{number_in, completed, entry_number}
use Rattle.hk_inst.specs.Truths.{IsTrue, is_among}
use Rattle.hk_inst.specs.declared.instance.Instance.TheVariants.{Pair, Tuple}
use Rattle.hk_inst.specs.States.{asked_of}
use Rattle.hk_inst.specs.Violations.{IsViolated, AgreesWithFirst}
use Rattle.hk_inst.proofs.AddedPairs.{added-pair}
use Rattle.hk_inst.proofs.Beginning.{question-of}
use Rattle.hk_inst.proofs.KeptQuestions.{reads-within, quantifiers-within, goal-within}
use Rattle.hk_inst.proofs.SetNumbers.{words-short}
use Rattle.hk_inst.proofs.ViolatedCases.{none-violated, none-found}
use Rattle.hk_inst.proofs.violation.violated_in.Goals as goal

pub value_with-requires-clause-term : goal.value_with-requires-clause-term
value_with-requires-clause-term c = goal-within c.args.s.now c.requires.kept

pub clashes-requires-clause-there : goal.clashes-requires-clause-there
clashes-requires-clause-there c = reads-within c.args.s.now c.requires.kept

pub clashes-requires-clause-short : goal.clashes-requires-clause-short
clashes-requires-clause-short c = words-short c.args.s.now.terms c.args.s.now.gates c.args.s.now.bits c.requires.kept.growing.base.blasted

pub clashes-requires-clause-within : goal.clashes-requires-clause-within
clashes-requires-clause-within c = λ k.
    subst (λ n. All (IsWithin n) (word_in c.args.s.now.bits k)) (sym (ap length c.as_slice-values.ensures ∙ c.requires.size))
    (words-within c.args.s.now.terms c.args.s.now.gates c.args.s.now.bits c.requires.kept.growing.base.blasted k)

pub clashes-requires-clause-arrays : goal.clashes-requires-clause-arrays
clashes-requires-clause-arrays c = λ array place.
    ap (λ (r : Reading). r.entry array place) c.requires.case
    ∙ ap (λ values. entry_number c.args.s.now.terms (number_in c.args.s.now.bits values) c.args.s.now.reads.items array place) (sym c.as_slice-values.ensures)

pub clashes-requires-clause-added : goal.clashes-requires-clause-added
clashes-requires-clause-added c = λ i j r among.
    let k = c.requires.kept in
    let q = asked_of c.args.s.now in
    subst (λ values. IsTrue q.nodes q.table (number_in c.args.s.now.bits values) r (Pair i j)) (sym c.as_slice-values.ensures)
    (added-pair q (question-of q c.args.s.now.first c.args.s.now.next k.growing k.stepped) c.args.a.now c.requires.satisfied i j r among)

pub search_all-requires-clause-there : goal.search_all-requires-clause-there
search_all-requires-clause-there c = quantifiers-within c.args.s.now c.requires.kept

pub search_all-requires-clause-short : goal.search_all-requires-clause-short
search_all-requires-clause-short c = words-short c.args.s.now.terms c.args.s.now.gates c.args.s.now.bits c.requires.kept.growing.base.blasted

pub search_all-requires-clause-within : goal.search_all-requires-clause-within
search_all-requires-clause-within c = λ k.
    subst (λ n. All (IsWithin n) (word_in c.args.s.now.bits k)) (sym (ap length c.as_slice-values.ensures ∙ c.requires.size))
    (words-within c.args.s.now.terms c.args.s.now.gates c.args.s.now.bits c.requires.kept.growing.base.blasted k)

pub returns-then-value_with-eq1-clause-empty : goal.returns-then-value_with-eq1-clause-empty
returns-then-value_with-eq1-clause-empty c = λ e. ap (λ r. value c.args.s.now.terms c.args.s.now.goal r) (sym c.requires.case) ∙ sym c.value_with.ensures.value ∙ c.if-value_with-eq1.true

pub returns-then-not-is_empty-clause-holds : goal.returns-then-not-is_empty-clause-holds
returns-then-not-is_empty-clause-holds c = λ e. absurd (c.if-value_with-eq1.false (c.value_with.ensures.value ∙ ap (λ r. value c.args.s.now.terms c.args.s.now.goal r) c.requires.case ∙ e))

pub returns-then-not-is_empty-clause-each : goal.returns-then-not-is_empty-clause-each
returns-then-not-is_empty-clause-each c =
    let q = asked_of c.args.s.now in
    let r = completed q.nodes q.table (number_in q.table.words c.args.a.now) in
    subst (λ values. All (IsViolated q (number_in q.table.words values) r) c.in_ok-pairs.pairs) c.as_slice-values.ensures (c.in_ok-pairs.ensures.found r)

pub returns-clause-empty : goal.returns-clause-empty
returns-clause-empty c = λ e.
    let k = c.requires.kept in
    let q = asked_of c.args.s.now in
    let r = completed q.nodes q.table (number_in q.table.words c.args.a.now) in
    let none : c.in_ok-pairs.pairs ≡ [] = sym c.as_slice.ensures ∙ none-found c.as_slice.result.now (eqb-true (length c.as_slice.result.now) 0 (sym c.is_empty.ensures ∙ c.if-not-is_empty.false)) in
    none-violated q (question-of q c.args.s.now.first c.args.s.now.next k.growing k.stepped) c.args.a.now c.requires.satisfied
    (subst (λ values. All (AgreesWithFirst q.nodes (number_in q.table.words values) q.table.reads) q.table.reads) c.as_slice-values.ensures (c.in_ok-pairs.ensures.none none))
    (subst (λ (z : List Bool × Reading). (k : ℕ) → k < length q.table.quantifiers → (ks : List ℕ) → is_among q.instances (Tuple k ks) ≡ false → IsTrue q.nodes q.table (number_in q.table.words z.0) z.1 (Tuple k ks)) (λ i. (c.as_slice-values.ensures i, c.requires.case i)) (c.in_ok-tuples.ensures.tried e))

pub returns-clause-holds : goal.returns-clause-holds
returns-clause-holds c = λ e. absurd (c.if-value_with-eq1.false (c.value_with.ensures.value ∙ ap (λ r. value c.args.s.now.terms c.args.s.now.goal r) c.requires.case ∙ e))

pub returns-clause-each : goal.returns-clause-each
returns-clause-each c =
    let q = asked_of c.args.s.now in
    subst (λ (z : List Bool × Reading). All (IsViolated q (number_in q.table.words z.0) z.1) c.in_ok-tuples.tuples) (λ i. (c.as_slice-values.ensures i, c.requires.case i)) c.in_ok-tuples.ensures.found
