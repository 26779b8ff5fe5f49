use Rattle.std.proofs.Common.{rules}
use Rattle.ir_check.proofs.TallyLaws.{stepped}
use Rattle.ir_check.proofs.tally.Tally.add.Goals as goal

pub invariant_of-self : goal.invariant_of-self
invariant_of-self c =
    let e = c.put_place.ensures in
    stepped c.put_place.result c.self.inside.seen c.put_place.new.seen c.self.inside.places.items c.put_place.new.places.items c.args.place c.in_ok-more.more c.seen_at-found.result c.self.invariant
    c.seen_at-found.ensures (search (rules, c.in_ok-more.ensures, c.len.ensures)) e.puts e.added e.kept e.places
