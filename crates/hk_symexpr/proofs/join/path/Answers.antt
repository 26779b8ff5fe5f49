use Rattle.hk_symexpr.specs.Scope.{scope_of}
use Rattle.hk_symexpr.proofs.Joins.{path_is, object_within, word_small}
use Rattle.hk_symexpr.proofs.join.path.Goals as goal

pub load_at-requires-clause-object : goal.load_at-requires-clause-object
load_at-requires-clause-object g c = object_within (g.R.SymReads.named c.args.reads.now).objects c.args.place.now.object c.requires.sorted.1 c.requires.sorted.2

pub returns-clause-term : goal.returns-clause-term
returns-clause-term g c =
    λ first old lasts limits.
    path_is first (g.R.SymReads.source c.args.reads.now c.args.t.now) (g.R.SymReads.source c.args.reads.now c.lead_of.new.t) (g.R.SymReads.named c.args.reads.now) (scope_of c.args.names.now) old c.args.t.now c.lead_of.new.t c.load_at.new.t c.args.place.now.object c.args.place.now.base c.args.place.now.bytes
    c.in_ok-lead.lead.inside c.in_ok-lead.lead.offset c.in_ok-made.made _ c.args.index.now c.requires.ready.objects c.requires.sorted lasts limits
    (c.lasting.ensures.lasts c.lead_of.new.t c.lead_of.ensures.keeps _ _ c.lasting.ensures.here).same
    c.in_ok-lead.ensures.value
    (word_small c.lead_of.new.t c.in_ok-lead.lead.offset c.sized-offset.result c.sized-offset.ensures.width c.in_ok-lead.ensures.address c.sized-offset.ensures.below)
    c.in_ok-made.ensures.within c.in_ok-made.ensures.width c.in_ok-made.ensures.value
