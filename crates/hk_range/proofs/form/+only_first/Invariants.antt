use Rattle.std.proofs.Common.{length}
use Rattle.hk_range.proofs.form.+only_first.Given as goal

abbrev pub decreases-only_first : goal.decreases-only_first
decreases-only_first l = length l.items.now
