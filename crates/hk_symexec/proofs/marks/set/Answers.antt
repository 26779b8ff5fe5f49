use Rattle.hk_symexec.proofs.Kept.{seen_with_file}
use Rattle.hk_symexec.proofs.marks.set.Goals as goal

pub returns-clause-seen : goal.returns-clause-seen
returns-clause-seen c = λ v. seen_with_file c.args.t.now c.set.new.t c.set.ensures.frame c.args.x c.set.new.file c.requires.state v
