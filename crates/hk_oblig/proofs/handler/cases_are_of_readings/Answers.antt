use Rattle.hk_oblig.proofs.CaseLaws.{case_given}
use Rattle.hk_oblig.proofs.handler.cases_are_of_readings.Goals as goal

pub returns : goal.returns
returns c = record { any = λ objects origins s t o x a h. case_given objects s t o origins x a h }
