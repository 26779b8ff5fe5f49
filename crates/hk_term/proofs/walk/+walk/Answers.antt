use Rattle.std.proofs.Common.{◌≡◌, ◌<◌, ◌∙◌, ℕ, Bool, false, nat_eq, get_or, take, drop, ◌-◌, ap, sym, slice_index, slice_set, length, arith}
use Rattle.std.proofs.Math.ListN.{length-set}
use Rattle.hk_term.specs.declared.bounds.Bound.{Bound}
use Rattle.hk_term.specs.Meaning.{Reading, reading_of, with_var, value, every_tuple}
use Rattle.hk_term.specs.Walk.{scoped, Standing}
use Rattle.hk_term.proofs.Walking.{wrote, start-standing, write-keeps, push-standing, push-weight, pop-standing, pop-weight, further, done_more, standing-open}
use Rattle.hk_term.proofs.QuantifierLemmas.{not_every, bool_byte-bit, quantifier-value}
use Rattle.hk_term.proofs.walk.+walk.Goals as goal

pub compute-going-init : goal.compute-going-init
compute-going-init t c =
    let r = scoped (reading_of c.args.context.now.v.now) c.args.context.now.scope.now in
    let number = wrote c.args.values.now c.args.t c.args.t (omega arith) in
    let mark = wrote c.args.marks.now c.args.t 0 (omega arith) in (
      start-standing c.args.context.now.terms.now r c.args.context.now.stamp c.args.t c.requires.some c.args.values.now c.args.marks.now _ _ c.args.clock.now c.requires.known c.requires.timed c.requires.past number mark,
      write-keeps c.args.context.now.terms.now r c.args.context.now.stamp c.args.t c.requires.some c.args.values.now c.args.marks.now _ _ c.args.t c.args.t (omega arith) number mark,
    )

pub advance-returns-in-Some-clause-standing : goal.advance-returns-in-Some-clause-standing
advance-returns-in-Some-clause-standing t c =
    let s = c.requires.standing in
    let less = c.in-Some.ensures.waits.0 in
    push-standing c.args.context.now.terms.now _ c.args.context.now.stamp c.args.t c.requires.some c.args.values.now c.args.marks.now _ _ c.args.clock.now c.args.at c.in-Some.part s c.requires.going less
    (wrote c.args.values.now c.in-Some.part c.args.at (omega (arith, s.at_most, less))) (wrote c.args.marks.now c.in-Some.part 0 (omega (arith, s.at_most, less)))

stepped : {t : ℕ} (c : goal.advance-After-slice_known-in-None-3-1 t) → Standing c.args.context.now.terms.now (scoped (reading_of c.args.context.now.v.now) c.args.context.now.scope.now) c.args.context.now.stamp c.args.t (slice_set c.number_of-number.new.values c.args.at c.number_of-number.result) (slice_set c.number_of-number.new.marks c.args.at c.args.context.now.stamp) c.number_of-number.new.clock (slice_index c.number_of-number.new.values c.args.at)
stepped c =
    let n = c.number_of-number in
    let s = c.requires.standing in
    let within : c.args.at < length n.new.values = omega (arith, n.auto.values, s.at_most) in
    let marked : c.args.at < length n.new.marks = omega (arith, n.auto.marks, s.at_most) in
    pop-standing c.args.context.now.terms.now (scoped (reading_of c.args.context.now.v.now) c.args.context.now.scope.now) c.args.context.now.stamp c.args.t c.requires.some c.args.values.now c.args.marks.now n.new.values n.new.marks _ _ c.args.clock.now n.new.clock c.args.at n.result s c.requires.going n.ensures.keeps n.ensures.timed n.ensures.past n.ensures.value
    (wrote n.new.values c.args.at n.result within) (wrote n.new.marks c.args.at c.args.context.now.stamp marked)

pub advance-returns-in-Some-clause-smaller : goal.advance-returns-in-Some-clause-smaller
advance-returns-in-Some-clause-smaller t c =
    let s = c.requires.standing in
    let part = c.in-Some.ensures.waits in
    let mark = wrote c.args.marks.now c.in-Some.part 0 (omega (arith, s.at_most, part.0)) in
    further _ _ c.args.t c.args.at c.in-Some.part
    (push-weight c.args.context.now.terms.now (scoped (reading_of c.args.context.now.v.now) c.args.context.now.scope.now) c.args.context.now.stamp c.args.t c.requires.some c.args.values.now c.args.marks.now c.args.values.now _ c.in-Some.part (length-set c.args.marks.now c.in-Some.part 0) part.1 mark)
    part.0

pub advance-returns-in-None-clause-standing : goal.advance-returns-in-None-clause-standing
advance-returns-in-None-clause-standing t c = stepped c

pub advance-returns-in-None-clause-smaller : goal.advance-returns-in-None-clause-smaller
advance-returns-in-None-clause-smaller t c =
    let n = c.number_of-number in
    let s = c.requires.standing in
    let r = scoped (reading_of c.args.context.now.v.now) c.args.context.now.scope.now in
    let marked : c.args.at < length n.new.marks = omega (arith, n.auto.marks, s.at_most) in
    let before : c.args.at < length c.args.marks.now = omega (arith, s.at_most) in
    let waits = standing-open c.args.context.now.terms.now r c.args.context.now.stamp c.args.t c.args.values.now c.args.marks.now c.args.clock.now c.args.at c.requires.some s c.requires.going in
    done_more _ _ c.args.t c.args.at (slice_index n.new.values c.args.at)
    (pop-weight c.args.context.now.terms.now r c.args.context.now.stamp c.args.t c.requires.some c.args.values.now c.args.marks.now n.new.values n.new.marks n.new.values _ c.args.at (length-set n.new.marks c.args.at c.args.context.now.stamp ∙ n.auto.marks) before waits n.ensures.keeps (wrote n.new.marks c.args.at c.args.context.now.stamp marked))
    (stepped c).at_most

pub every-returns-then-not-every-clause-value : goal.every-returns-then-not-every-clause-value
every-returns-then-not-every-clause-value t c =
    let p : Reading → Bool = λ u. nat_eq (value c.args.context.now.terms.now c.args.body u) 1 in
    let base = reading_of c.args.context.now.v.now in
    let d : Bound = record { id = 0; size = 0 } in
    let rest = take (length c.args.bound.now - 1) (drop 1 c.args.bound.now) in
    let here : every_tuple rest p (with_var (scoped base c.args.context.now.scope.now) (get_or c.args.bound.now 0 d).id c.loop-k.k) ≡ false =
    ap (λ s. every_tuple rest p (scoped base s)) (sym c.with-inner.ensures) ∙ sym c.every.ensures.value ∙ c.if-not-every.true in
    not_every c.args.bound.now d p (scoped base c.args.context.now.scope.now) c.loop-k.k (omega (arith, c.in-len1-up.len_at_least)) c.loop-k-test.true here

pub number_of-returns-in-ForAll-clause-value : goal.number_of-returns-in-ForAll-clause-value
number_of-returns-in-ForAll-clause-value t c =
    quantifier-value c.args.context.now.terms.now c.args.at c.args.node.now c.in-ForAll.bound _ c.in-ForAll.body _ (scoped (reading_of c.args.context.now.v.now) c.args.context.now.scope.now) c.every.result c.from.result c.requires.holds c.in-ForAll.is c.as_slice.ensures c.place.ensures c.every.ensures.value (c.from.ensures ∙ bool_byte-bit c.every.result)
