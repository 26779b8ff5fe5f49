use Rattle.hk_verify.specs.Words.{bytes_of}
use Rattle.hk_verify.proofs.Benched.{means_for}
use Rattle.hk_verify.proofs.NumberWords.{has_form}
use Rattle.hk_verify.proofs.top.run_words.Goals as goal

pub returns-in-Some-behind_run-clause-usage : goal.returns-in-Some-behind_run-clause-usage
returns-in-Some-behind_run-clause-usage g c = λ none. absurd (has_form (bytes_of c.args.words.now) (bytes_of c.in-Some-behind_run.arguments.now) c.in-Some-behind_run.kernel.now c.in-Some-behind_run.function.now
    c.in-Some-behind_run.ensures.form c.in-Some-behind_run.ensures.numbers none)

pub returns-in-None-clause-ran : goal.returns-in-None-clause-ran
returns-in-None-clause-ran g c = λ kernel function arguments is. absurd (c.in-None.ensures.none kernel function arguments is)

pub returns-in-None-clause-meaning : goal.returns-in-None-clause-meaning
returns-in-None-clause-meaning g c = λ kernel spec budget is. absurd (c.in_default-behind_verify.ensures.none kernel spec budget is)

pub returns-in-None-clause-certified : goal.returns-in-None-clause-certified
returns-in-None-clause-certified g c = λ kernel spec budget cert is. absurd (c.in_default.ensures.none kernel spec budget cert is)

pub returns-in-Some-behind_run-clause-counted : goal.returns-in-Some-behind_run-clause-counted
returns-in-Some-behind_run-clause-counted g c = λ n is. absurd (c.in_default-behind_bench.ensures.none n is)

pub returns-in-None-clause-counted : goal.returns-in-None-clause-counted
returns-in-None-clause-counted g c = λ n is. absurd (c.in_default-behind_bench.ensures.none n is)

pub returns-in-Some-behind_bench-clause-counted : goal.returns-in-Some-behind_bench-clause-counted
returns-in-Some-behind_bench-clause-counted g c = λ number is. means_for _ _ _ _ _ c.in-Some-behind_bench.ensures.form is c.bench.ensures.meaning
