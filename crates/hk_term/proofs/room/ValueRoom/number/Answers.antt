use Rattle.std.proofs.Common.{◌≡◌, ◌≤◌, length, slice_index, ◌∙◌, ap, sym, subst, arith}
use Rattle.std.proofs.lemmas.List.{with_items_is}
use Rattle.hk_term.specs.Meaning.{reading_of, value}
use Rattle.hk_term.specs.Walk.{scoped, Known}
use Rattle.hk_term.specs.Room.{IsFor, known_numbers}
use Rattle.hk_term.proofs.KeptNumbers.{known_of, size_of, for_of, lent_for}
use Rattle.hk_term.proofs.room.ValueRoom.number.Goals as goal

pub known_or_computed-requires-clause-size : goal.known_or_computed-requires-clause-size
known_or_computed-requires-clause-size c =
    let room = subst (IsFor c.args.terms.now (reading_of c.args.v.now)) (sym c.self.view_is) c.requires.room in
    ap length c.deref_mut-2.ensures.value
    ∙ size_of c.args.terms.now (reading_of c.args.v.now) c.self.inside.stamp c.self.inside.clock c.self.inside.values.items c.self.inside.marks.items c.self.invariant room

pub known_or_computed-requires-clause-known : goal.known_or_computed-requires-clause-known
known_or_computed-requires-clause-known c =
    let room = subst (IsFor c.args.terms.now (reading_of c.args.v.now)) (sym c.self.view_is) c.requires.room in
    let known = known_of c.args.terms.now (reading_of c.args.v.now) c.self.inside.stamp c.self.inside.clock c.self.inside.values.items c.self.inside.marks.items c.self.invariant room in
    λ k e. ap (λ l. slice_index l k) c.deref_mut.ensures.value ∙ known k (sym (ap (λ l. slice_index l k) c.deref_mut-2.ensures.value) ∙ e)
    ∙ ap (λ z. value c.args.terms.now k (scoped (reading_of c.args.v.now) z)) (sym c.new-scope.ensures)

pub returns-clause-room : goal.returns-clause-room
returns-clause-room c =
    let n = c.known_or_computed in
    let room = subst (IsFor c.args.terms.now (reading_of c.args.v.now)) (sym c.self.view_is) c.requires.room in
    let size : length n.new.marks ≡ length c.args.terms.now = n.auto.marks ∙ ap length c.deref_mut-2.ensures.value ∙ size_of c.args.terms.now (reading_of c.args.v.now) c.self.inside.stamp c.self.inside.clock c.self.inside.values.items c.self.inside.marks.items c.self.invariant room in
    lent_for c.args.terms.now (reading_of c.args.v.now) c.self.inside.stamp n.new.values n.new.marks _ _
    (with_items_is c.self.inside.values n.new.values (n.auto.values ∙ c.deref_mut.ensures.len))
    (with_items_is c.self.inside.marks n.new.marks (n.auto.marks ∙ c.deref_mut-2.ensures.len)) (
    for_of c.args.terms.now (reading_of c.args.v.now) c.self.inside.stamp n.new.values n.new.marks n.ensures.room.each size
    (subst (λ z. Known c.args.terms.now (scoped (reading_of c.args.v.now) z) c.self.inside.stamp n.new.values n.new.marks) c.new-scope.ensures n.ensures.known)
    )
