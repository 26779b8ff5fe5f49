use Rattle.std.proofs.Common.{◌∙◌, ap, sym}
use Rattle.ir_check.specs.Tallies.{times_at}
use Rattle.ir_check.proofs.TallyLaws.{counted_none}
use Rattle.ir_check.proofs.tally.Tally.count.Goals as goal

pub returns-in-None : goal.returns-in-None
returns-in-None c = counted_none c.self.inside.places.items c.args.place (sym (sym c.in-None.is ∙ c.seen_at.ensures ∙ c.self.invariant.each c.args.place)) ∙ ap (λ ps. times_at ps c.args.place) c.self.view_is
