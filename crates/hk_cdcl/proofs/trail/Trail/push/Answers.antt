use Rattle.std.proofs.Common.{◌≡◌, ◌<◌, ◌≤◌, true, false, length, set, neg_ℤ, refl, sym, ◌∙◌, ap, subst, arith}
use Rattle.std.specs.Vec.{vec_len, vec_capacity}
use Rattle.std.proofs.lemmas.Grind.{common_steps}
use Rattle.hk_cnf.specs.Literal.{IsWithin, code_of, place_of, has}
use Rattle.hk_cdcl.proofs.Stepping.{room, pushed}
use Rattle.hk_cdcl.proofs.trail.Trail.push.Goals as goal

pub push_reserved-requires : goal.push_reserved-requires
push_reserved-requires c =
    let w : IsWithin c.self.inside.vars c.args.lit = subst (λ p. IsWithin p.vars c.args.lit) (sym c.self.view_is) c.requires.within in
    let a : has c.self.inside.lits.items c.args.lit ≡ false = ap (λ p. has p.lits c.args.lit) c.self.view_is ∙ c.requires.not_true in
    let b : has c.self.inside.lits.items (neg_ℤ c.args.lit) ≡ false = ap (λ p. has p.lits (neg_ℤ c.args.lit)) c.self.view_is ∙ c.requires.not_false in
    let h : length c.self.inside.lits.items < c.self.inside.vars = room c.self.inside c.args.lit c.self.invariant w a b in
    let k : c.self.inside.vars ≤ vec_capacity c.self.inside.lits = c.self.invariant.lit_room in
    let n : vec_len c.self.inside.lits ≡ length c.self.inside.lits.items = grind (arith, common_steps) in
    omega (arith, h, k, n)

pub push_reserved-requires-2 : goal.push_reserved-requires-2
push_reserved-requires-2 c =
    let w : IsWithin c.self.inside.vars c.args.lit = subst (λ p. IsWithin p.vars c.args.lit) (sym c.self.view_is) c.requires.within in
    let a : has c.self.inside.lits.items c.args.lit ≡ false = ap (λ p. has p.lits c.args.lit) c.self.view_is ∙ c.requires.not_true in
    let b : has c.self.inside.lits.items (neg_ℤ c.args.lit) ≡ false = ap (λ p. has p.lits (neg_ℤ c.args.lit)) c.self.view_is ∙ c.requires.not_false in
    let h : length c.self.inside.lits.items < c.self.inside.vars = room c.self.inside c.args.lit c.self.invariant w a b in
    let k : c.self.inside.vars ≤ vec_capacity c.self.inside.reasons = c.self.invariant.reason_room in
    let t : length c.self.inside.reasons.items ≡ length c.self.inside.lits.items = c.self.invariant.together in
    let n : vec_len c.self.inside.reasons ≡ length c.self.inside.reasons.items = grind (arith, common_steps) in
    omega (arith, h, k, n, t)

pub invariant_of-self : goal.invariant_of-self
invariant_of-self c =
    let w : IsWithin c.self.inside.vars c.args.lit = subst (λ p. IsWithin p.vars c.args.lit) (sym c.self.view_is) c.requires.within in
    let a : has c.self.inside.lits.items c.args.lit ≡ false = ap (λ p. has p.lits c.args.lit) c.self.view_is ∙ c.requires.not_true in
    let b : has c.self.inside.lits.items (neg_ℤ c.args.lit) ≡ false = ap (λ p. has p.lits (neg_ℤ c.args.lit)) c.self.view_is ∙ c.requires.not_false in
    let n : vec_len c.self.inside.lits ≡ length c.self.inside.lits.items = grind (arith, common_steps) in
    let ev : set c.self.inside.values.items c.code.result true ≡ set c.self.inside.values.items (code_of c.args.lit) true = ap (λ i. set c.self.inside.values.items i true) c.code.ensures.value in
    let ep : set c.self.inside.places.items c.place.result c.len-place.result ≡ set c.self.inside.places.items (place_of c.args.lit) (length c.self.inside.lits.items) = ap (λ i. set c.self.inside.places.items i c.len-place.result) c.place.ensures.value ∙ ap (set c.self.inside.places.items (place_of c.args.lit)) (c.len-place.ensures ∙ n) in
    let lr : c.self.inside.vars ≤ vec_capacity c.push_reserved.new.self = let k : c.self.inside.vars ≤ vec_capacity c.self.inside.lits = c.self.invariant.lit_room in let e : vec_capacity c.push_reserved.new.self ≡ vec_capacity c.self.inside.lits = c.push_reserved.ensures.capacity in omega (arith, k, e) in
    let rr : c.self.inside.vars ≤ vec_capacity c.push_reserved-2.new.self = let k : c.self.inside.vars ≤ vec_capacity c.self.inside.reasons = c.self.invariant.reason_room in let e : vec_capacity c.push_reserved-2.new.self ≡ vec_capacity c.self.inside.reasons = c.push_reserved-2.ensures.capacity in omega (arith, k, e) in
    pushed c.self.inside _ c.args.lit c.args.reason c.self.invariant w a b refl c.push_reserved.ensures.items c.push_reserved-2.ensures.items ev ep lr rr
