use Rattle.hk_cdcl.proofs.Stamping.{all-older}
use Rattle.hk_cdcl.proofs.seen.Seen.clear.Goals as goal

pub returns-clause-cleared : goal.returns-clause-cleared
returns-clause-cleared c = all-older c.next_stamp-self-inside.new.stamps.items c.next_stamp-self-inside.result c.next_stamp-self-inside.ensures.later
