use Rattle.std.proofs.Common.{◌≡◌, ◌∙◌, ℕ, ◌≤◌, Some, length, map, arith, sym, subst, ap}
use Rattle.std.specs.List.{All}
use Rattle.std.specs.Prelude.{slice_get}
use Rattle.std.proofs.lemmas.Option.{slice_get-get_or}
use Rattle.hk_inst.specs.Inputs.{number_in, entry_number}
use Rattle.hk_inst.specs.States.{asked_of}
use Rattle.hk_inst.specs.Violations.{AgreesWithFirst}
use Rattle.hk_inst.specs.ReadNumbers.{numbers_at}
use Rattle.hk_inst.proofs.FirstReads.{pair-violated, agree-more, agree-all}
use Rattle.hk_inst.proofs.clash.clashes.Goals as goal

pub loop-k-preserved : goal.loop-k-preserved
loop-k-preserved c =
    let q = asked_of c.args.s.now in
    let f : ℕ → ℕ = number_in c.args.s.now.bits c.args.values.now in
    let entry : slice_get c.as_slice-reads.result.now c.loop-k.k ≡ Some c.at.result = slice_get-get_or c.as_slice-reads.result.now c.loop-k.k 0 c.loop-k-test.true ∙ ap (λ t. Some t) (sym c.at.ensures) in
    let at : slice_get q.table.reads c.loop-k.k ≡ Some c.at.result = ap (λ l. slice_get l c.loop-k.k) (sym c.as_slice-reads.ensures.value) ∙ entry in
    record {
      found = λ r. c.in_ok-push_pair.ensures.found q f r (pair-violated q f r c.clash-first.result c.loop-k.k c.at.result at (λ j. c.requires.added j c.loop-k.k r) c.clash-first.ensures.differs) (c.loop-k.invariant.found r);
      none = λ e. agree-more (AgreesWithFirst q.nodes f q.table.reads) c.as_slice-reads.result.now c.loop-k.k c.at.result c.clash-first.result entry (c.loop-k.invariant.none (c.in_ok-push_pair.ensures.none e).0) c.clash-first.ensures.agrees (c.in_ok-push_pair.ensures.none e).1;
    }

pub returns-clause-none : goal.returns-clause-none
returns-clause-none c = λ e.
    let q = asked_of c.args.s.now in
    let f : ℕ → ℕ = number_in c.args.s.now.bits c.args.values.now in
    let past : length c.as_slice-reads.result.now ≤ c.loop-k.k = omega (arith, c.loop-k-test.false) in
    subst (All (AgreesWithFirst q.nodes f q.table.reads)) c.as_slice-reads.ensures.value
    (agree-all (AgreesWithFirst q.nodes f q.table.reads) c.as_slice-reads.result.now c.loop-k.k past (c.loop-k.invariant.none e))

pub returns-then-all_agree-clause-none : goal.returns-then-all_agree-clause-none
returns-then-all_agree-clause-none c = λ e.
    let f : ℕ → ℕ = number_in c.args.s.now.bits c.args.values.now in
    let reads = c.as_slice-reads.result.now in
    subst (All (AgreesWithFirst c.args.s.now.terms f c.args.s.now.reads.items)) c.as_slice-reads.ensures.value
    (subst (λ rs. All (AgreesWithFirst c.args.s.now.terms f rs) reads) c.as_slice-reads.ensures.value
    (c.all_agree.ensures c.if-all_agree.true f (c.requires.numbers ∙ ap (map (numbers_at c.args.s.now.terms f)) (sym c.as_slice-reads.ensures.value))
    (λ array place. c.requires.arrays array place ∙ ap (λ rs. entry_number c.args.s.now.terms f rs array place) (sym c.as_slice-reads.ensures.value))))
