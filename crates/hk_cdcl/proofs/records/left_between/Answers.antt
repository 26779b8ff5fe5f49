use Rattle.std.proofs.Common.{◌≡◌, ◌⊎◌, ◌<◌, ◌≤◌, true, map, length, neg_ℤ, pos, sym, ◌∙◌, ap, subst, arith}
use Rattle.std.proofs.lemmas.List.{get_or-map, length-map}
use Rattle.hk_cnf.specs.Literal.{IsWithin, has}
use Rattle.hk_cdcl.specs.Path.{lit_at}
use Rattle.hk_cdcl.specs.Records.{lit_of}
use Rattle.hk_cdcl.proofs.Blocking.{false-more, false-until}
use Rattle.hk_cdcl.proofs.records.left_between.Goals as goal

pub is_left-requires : goal.is_left-requires
is_left-requires c =
    let le : c.args.to ≤ length c.args.codes.now = c.requires.inside in
    let lt : c.loop-place.place < c.args.to = c.loop-place-test.true in
    let at : lit_at (map lit_of c.args.codes.now) c.loop-place.place ≡ lit_of c.word_at.result = get_or-map lit_of c.args.codes.now c.loop-place.place 0 (pos 0) (omega (arith, le, lt)) ∙ ap lit_of (sym c.word_at.ensures) in
    let n : length (map lit_of c.args.codes.now) ≡ length c.args.codes.now = length-map c.args.codes.now lit_of in
    subst (IsWithin c.args.trail.now.vars) at (c.requires.within c.loop-place.place (pos 0) (omega (arith, le, lt, n)))

pub loop-place-init : goal.loop-place-init
loop-place-init c = λ n a b. absurd (omega (arith, a, b))

pub loop-place-preserved : goal.loop-place-preserved
loop-place-preserved c =
    let le : c.args.to ≤ length c.args.codes.now = c.requires.inside in
    let lt : c.loop-place.place < c.args.to = c.loop-place-test.true in
    let at : lit_at (map lit_of c.args.codes.now) c.loop-place.place ≡ lit_of c.word_at.result = get_or-map lit_of c.args.codes.now c.loop-place.place 0 (pos 0) (omega (arith, le, lt)) ∙ ap lit_of (sym c.word_at.ensures) in
    false-more c.args.trail.now.lits (map lit_of c.args.codes.now) (lit_of c.args.other) c.args.from c.loop-place.place c.loop-place.invariant
    (subst (λ x. (lit_of c.args.other ≡ x) ⊎ (has c.args.trail.now.lits (neg_ℤ x) ≡ true)) (sym at) (c.is_left.ensures.none c.if-is_left.false))

pub returns : goal.returns
returns c = false-until c.args.trail.now.lits (map lit_of c.args.codes.now) (lit_of c.args.other) c.args.from c.loop-place.place c.args.to c.loop-place.invariant c.loop-place-test.false

pub returns-then-is_left : goal.returns-then-is_left
returns-then-is_left c =
    let le : c.args.to ≤ length c.args.codes.now = c.requires.inside in
    let lt : c.loop-place.place < c.args.to = c.loop-place-test.true in
    let at : lit_at (map lit_of c.args.codes.now) c.loop-place.place ≡ lit_of c.word_at.result = get_or-map lit_of c.args.codes.now c.loop-place.place 0 (pos 0) (omega (arith, le, lt)) ∙ ap lit_of (sym c.word_at.ensures) in
    let n : length (map lit_of c.args.codes.now) ≡ length c.args.codes.now = length-map c.args.codes.now lit_of in
    record {
      inside = omega (arith, le, lt, n);
      left = ap (λ x. has c.args.trail.now.lits (neg_ℤ x)) at ∙ c.is_left.ensures.left c.if-is_left.true;
      other = λ e. c.is_left.ensures.apart c.if-is_left.true (e ∙ at);
    }
