use Rattle.std.proofs.Common.{◌≡◌, ◌<◌, ◌≤◌, ◌+◌, ◌-◌, false, length, set, pos, refl, sym, ◌∙◌, ap, subst, arith}
use Rattle.std.specs.Vec.{vec_len, vec_capacity}
use Rattle.std.proofs.lemmas.Grind.{common_steps}
use Rattle.std.proofs.lemmas.List.{get_or_default}
use Rattle.hk_cnf.specs.Literal.{code_of}
use Rattle.hk_cdcl.specs.Path.{lit_at}
use Rattle.hk_cdcl.proofs.Stepping.{popped}
use Rattle.hk_cdcl.proofs.trail.Trail.pop.Goals as goal

pub invariant_of-self : goal.invariant_of-self
invariant_of-self c =
    let n : vec_len c.self.inside.lits ≡ length c.self.inside.lits.items = grind (arith, common_steps) in
    let some : 0 < length c.self.inside.lits.items = subst (λ p. 0 < length p.lits) (sym c.self.view_is) c.requires in
    let l : c.len-last.result ≡ vec_len c.self.inside.lits = c.len-last.ensures in
    let last : (c.len-last.result - 1) + 1 ≡ length c.self.inside.lits.items = omega (arith, n, some, l) in
    let is : c.index-lit.result.now ≡ lit_at c.self.inside.lits.items (c.len-last.result - 1) = c.index-lit.ensures ∙ get_or_default c.self.inside.lits.items (c.len-last.result - 1) c.index-lit.result.now (pos 0) (omega (arith, last)) in
    let ev : set c.self.inside.values.items c.code.result false ≡ set c.self.inside.values.items (code_of c.index-lit.result.now) false = ap (λ i. set c.self.inside.values.items i false) c.code.ensures.value in
    let lr : c.self.inside.vars ≤ vec_capacity c.truncate.new.self = let k : c.self.inside.vars ≤ vec_capacity c.self.inside.lits = c.self.invariant.lit_room in let e : vec_capacity c.truncate.new.self ≡ vec_capacity c.self.inside.lits = c.truncate.ensures.capacity in omega (arith, k, e) in
    let rr : c.self.inside.vars ≤ vec_capacity c.truncate-2.new.self = let k : c.self.inside.vars ≤ vec_capacity c.self.inside.reasons = c.self.invariant.reason_room in let e : vec_capacity c.truncate-2.new.self ≡ vec_capacity c.self.inside.reasons = c.truncate-2.ensures.capacity in omega (arith, k, e) in
    popped c.self.inside _ (c.len-last.result - 1) c.index-lit.result.now c.self.invariant last is refl c.truncate.ensures.items c.truncate-2.ensures.items ev refl lr rr
