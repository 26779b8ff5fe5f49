use Rattle.std.proofs.Common.{◌≡◌, ◌≤◌, length, ◌∙◌, ap, sym, arith}
use Rattle.std.specs.Vec.{with_items}
use Rattle.std.proofs.lemmas.List.{with_items_is}
use Rattle.hk_term.proofs.KeptNumbers.{length-known_numbers, begun_for, lent_for}
use Rattle.hk_term.proofs.room.ValueRoom.begin.Goals as goal

pub returns-clause-size : goal.returns-clause-size
returns-clause-size c =
    let n = c.fresh_stamp-stamp in
    let marks : (with_items c.self.inside.marks n.new.marks).items ≡ n.new.marks = with_items_is c.self.inside.marks n.new.marks (n.auto.marks ∙ c.deref_mut.ensures.len) in
    let many : length (with_items c.self.inside.marks n.new.marks).items ≡ length c.self.inside.marks.items = ap length marks ∙ n.auto.marks ∙ ap length c.deref_mut.ensures.value in
    length-known_numbers n.result c.self.inside.values.items (with_items c.self.inside.marks n.new.marks).items (omega (arith, many, c.self.invariant.each)) ∙ many
    ∙ sym (length-known_numbers c.self.inside.stamp c.self.inside.values.items c.self.inside.marks.items c.self.invariant.each) ∙ ap length c.self.view_is

pub returns-clause-begun : goal.returns-clause-begun
returns-clause-begun c = λ nodes r e.
    let n = c.fresh_stamp-stamp in
    let many : length n.new.marks ≡ length c.self.inside.marks.items = n.auto.marks ∙ ap length c.deref_mut.ensures.value in
    let size : length c.self.inside.marks.items ≡ length nodes = sym (length-known_numbers c.self.inside.stamp c.self.inside.values.items c.self.inside.marks.items c.self.invariant.each) ∙ ap length c.self.view_is ∙ e in
    lent_for nodes r n.result c.self.inside.values.items n.new.marks c.self.inside.values.items _ (λ i. c.self.inside.values.items)
    (with_items_is c.self.inside.marks n.new.marks (n.auto.marks ∙ c.deref_mut.ensures.len))
    (begun_for nodes r n.result c.self.inside.values.items n.new.marks (omega (arith, many, c.self.invariant.each)) (many ∙ size) n.ensures.fresh)
