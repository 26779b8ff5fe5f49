use Rattle.hk_verify.proofs.Benched.{hides_counts, hides_fault}
use Rattle.hk_verify.proofs.benchmark.bench.Goals as goal

pub returns-in-Ok-clause-unhidden : goal.returns-in-Ok-clause-unhidden
returns-in-Ok-clause-unhidden g c = λ view still. hides_counts view _ c.report.result still c.report.ensures.counts

pub returns-in-Err-clause-unhidden : goal.returns-in-Err-clause-unhidden
returns-in-Err-clause-unhidden g c = λ view still. hides_fault view _ c.refuse.result c.args.n c.in-Err.fault still c.refuse.ensures.fault c.in-Err.ensures.fault
