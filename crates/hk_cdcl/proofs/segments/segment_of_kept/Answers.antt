use Rattle.hk_cdcl.proofs.Segmenting.{begun-same, searched}
use Rattle.hk_cdcl.proofs.segments.segment_of_kept.Goals as goal

pub take_over-requires : goal.take_over-requires
take_over-requires c =
    searched c.args.given c.run_part.new.whole c.begin.new.active c.run_part.new.active c.in_ok-names.names.items
    (begun-same c.args.given c.args.whole.now c.run_part.new.whole c.begin.new.active c.in_ok-names.names.items c.run_part.ensures.clauses c.in_ok-names.ensures)
    c.run_part.ensures.grows
