-- What an answer to `bench N` means: where its lines are shown or cut, for the number of the words, and that it hides no fault of the
-- outside.

use Rattle.std.proofs.Common.{ℕ, true, false, ◌≡◌, List, Option, Some, None, Result, Ok, Err, OnOk, OnErr, ap, sym, ◌∙◌, subst}
use Rattle.std.specs.Result.{is_err}
use Rattle.hk_io.specs.Faults.{Rose}
use Rattle.hk_io.specs.Shown.{shown_with, ShowsPrefix}
use Rattle.hk_verdict.specs.declared.verdict.Verdict.{Verdict}
use Rattle.hk_verify.specs.declared.kinds.Counts.{Counts}
use Rattle.hk_verify.specs.declared.answer.Answer.{Answer}
use Rattle.hk_verify.specs.declared.answer.TopFault.{TopFault}
use Rattle.hk_verify.specs.declared.answer.TopFault.TheVariants.{Usage, Read, Long, Kernel as OfKernel, Spec as OfSpec, Cert as OfCert, Cnf as OfCnf, Call as OfCall, Memory, Write}
use Rattle.hk_verify.specs.Words.{IsBench}
use Rattle.hk_verify.specs.Inputs.{ShelfView, CountsLoads}
use Rattle.hk_verify.specs.Answers.{SinkView, HidesNone}
use Rattle.hk_verify.specs.Bench.{CountsWith, HasBenchCause, IsCounted, IsUncounted, MeansBench, bench_status, counts_of, counts_text}
use Rattle.hk_verify.proofs.NumberWords.{one_size}
use Rattle.hk_verify.proofs.Whole.{where_ok}

-- What holds on Err holds where there is an error.
where_err : {T E : Type 0} (r : Result T E) (P : Type 0) → is_err r ≡ true → OnErr r P → P
where_err (Ok x) P wrong p = cc
where_err (Err e) P wrong p = p

-- The lines of the verdicts are shown.
pub counted : {T E : Type 0} (sink : SinkView) (answer : Answer) (verdicts first second : List Verdict) (counts : Counts) (r : Result T E) → is_err r ≡ false → first ≡ verdicts → second ≡ verdicts
    → counts ≡ counts_of first → answer.verdicts ≡ verdicts → answer.status ≡ bench_status second → OnOk r (sink.faults' ≡ sink.faults) → OnOk r (sink.shown' ≡ shown_with sink.shown (counts_text counts))
    → IsCounted sink answer
counted sink answer verdicts first second counts r fine one other are made status still shown = record {
  says = where_ok r (sink.shown' ≡ shown_with sink.shown (counts_text counts)) fine shown ∙ ap (λ n. shown_with sink.shown (counts_text n)) (are ∙ ap counts_of (one ∙ sym made));
  still = where_ok r (sink.faults' ≡ sink.faults) fine still;
  status = status ∙ ap bench_status (other ∙ sym made);
}

-- The put of one of them failed.
pub uncounted : {T E : Type 0} (sink : SinkView) (answer : Answer) (verdicts first : List Verdict) (counts : Counts) (r : Result T E) → is_err r ≡ true → first ≡ verdicts → counts ≡ counts_of first
    → answer.verdicts ≡ verdicts → answer.fault ≡ Some Write → answer.status ≡ 6 → OnErr r (Rose sink.faults sink.faults') → OnErr r (ShowsPrefix sink.shown sink.shown' (counts_text counts))
    → CountsWith sink answer answer.fault
uncounted sink answer verdicts first counts r wrong one are made is status failed cut =
    let behind : ShowsPrefix sink.shown sink.shown' (counts_text counts) = where_err r _ wrong cut in
    let left : IsUncounted sink answer = record {
      failed = where_err r (Rose sink.faults sink.faults') wrong failed;
      cut = subst (λ n. ShowsPrefix sink.shown sink.shown' (counts_text n)) (are ∙ ap counts_of (one ∙ sym made)) behind;
      status = status;
    } in
    subst (λ fault. CountsWith sink answer fault) (sym is) left

-- What an answer means for the number of the words it means for any that the words give.
pub means_for : (sink : SinkView) (words : List (List ℕ)) (n m : ℕ) (answer : Answer) → IsBench words n → IsBench words m → MeansBench sink words n answer → MeansBench sink words m answer
means_for sink words n m answer one other means = subst (λ k. MeansBench sink words k answer) (one_size words n m one other) means

-- No load is told of a shelf that was not asked.
no_loads : (sink : SinkView) (answer : Answer) (fault : Option TopFault) (before after : ℕ) → after ≡ before → CountsWith sink answer fault → CountsLoads fault before after
no_loads sink answer None before after still counts = still
no_loads sink answer (Some Write) before after still counts = still
no_loads sink answer (Some Usage) before after still counts = absurd counts
no_loads sink answer (Some (Read w)) before after still counts = absurd counts
no_loads sink answer (Some (Long w)) before after still counts = absurd counts
no_loads sink answer (Some (OfKernel f)) before after still counts = absurd counts
no_loads sink answer (Some (OfSpec f)) before after still counts = absurd counts
no_loads sink answer (Some (OfCert f)) before after still counts = absurd counts
no_loads sink answer (Some (OfCnf f)) before after still counts = absurd counts
no_loads sink answer (Some (OfCall f)) before after still counts = absurd counts
no_loads sink answer (Some Memory) before after still counts = absurd counts

puts_of : (sink : SinkView) (answer : Answer) (fault : Option TopFault) → CountsWith sink answer fault → fault ≡ None → sink.faults' ≡ sink.faults
puts_of sink answer None counts none = counts.still
puts_of sink answer (Some fault) counts none = cc

loads_of : (n : ℕ) (fault : TopFault) (before after : ℕ) → after ≡ before → HasBenchCause n fault → CountsLoads (Some fault) before after
loads_of n Usage before after still cause = still
loads_of n (Read w) before after still cause = absurd cause
loads_of n (Long w) before after still cause = still
loads_of n (OfKernel f) before after still cause = still
loads_of n (OfSpec f) before after still cause = still
loads_of n (OfCert f) before after still cause = still
loads_of n (OfCnf f) before after still cause = still
loads_of n (OfCall f) before after still cause = still
loads_of n Memory before after still cause = still
loads_of n Write before after still cause = still

none_and_some : (o : Option TopFault) (fault : TopFault) → o ≡ Some fault → o ≡ None → ⊥
none_and_some o fault is none = cc

pub hides_counts : (view : ShelfView) (sink : SinkView) (answer : Answer) → view.after ≡ view.before → CountsWith sink answer answer.fault → HidesNone view sink answer
hides_counts view sink answer still counts = record {
  loads = no_loads sink answer answer.fault view.before view.after still counts;
  puts = puts_of sink answer answer.fault counts;
}

pub hides_fault : (view : ShelfView) (sink : SinkView) (answer : Answer) (n : ℕ) (fault : TopFault) → view.after ≡ view.before → answer.fault ≡ Some fault → HasBenchCause n fault → HidesNone view sink answer
hides_fault view sink answer n fault still is cause = record {
  loads = subst (λ f. CountsLoads f view.before view.after) (sym is) (loads_of n fault view.before view.after still cause);
  puts = λ none. absurd (none_and_some answer.fault fault is none);
}
