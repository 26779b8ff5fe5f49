use Rattle.std.proofs.Common.{◌∙◌, sym}
use Rattle.hk_range.proofs.ItemLaws.{none_second}
use Rattle.hk_range.proofs.form.are_single.Goals as goal

pub returns : goal.returns
returns c = λ yes f. none_second f c.args.items.now (sym c.only_first.ensures ∙ yes)
