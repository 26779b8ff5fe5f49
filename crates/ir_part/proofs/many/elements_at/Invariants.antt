use Rattle.std.proofs.Common.{◌≡◌, ◌-◌, map}
use Rattle.ir_part.specs.Reader.{seen}
use Rattle.ir_part.specs.Many.{many_from, some, with_front}
use Rattle.ir_part.proofs.many.elements_at.Given as goal

-- those so far stand before those of what is left
abbrev pub invariant-more : goal.invariant-more
invariant-more g l =
    with_front (map g.E.Element.view l.elements.items) (many_from (g.E.Element.stops l.element) (g.E.Element.reads l.element) (l.most - l.counter) (seen l.rest))
    ≡ some (g.E.Element.stops l.element) (g.E.Element.first_reads l.element) (g.E.Element.reads l.element) (seen l.tokens)
