use Rattle.std.proofs.Common.{ℕ, ◌-◌, ◌+◌, ◌/◌, ◌^◌, ◌∷◌, replicate, ap, sym, ◌∙◌}
use Rattle.hk_exhaust.specs.Enumeration.{numbers_of, behind}
use Rattle.spec_state.proofs.Turns.{put_one}
use Rattle.hk_exhaust.proofs.Parts.{fewer}
use Rattle.hk_exhaust.proofs.numbers.take_bytes.Goals as goal

pub each-preserved : goal.each-preserved
each-preserved c =
    let w : ℕ = 8 in
    let r = c.each.rest in
    let ws = replicate (c.args.count - (c.each.k + 1)) w in
    let is = fewer c.args.count c.each.k w c.each-test.true in
    record {
      bytes = put_one c.each.bytes.items _ c.low_byte.result _ _ _ c.in_ok-push.ensures.items
          (ap (λ l. numbers_of l r) is ∙ ap (λ x. x ∷ numbers_of ws (r / 2 ^ w)) (sym c.low_byte.ensures) ∙ ap (λ n. c.low_byte.result ∷ numbers_of ws n) (sym c.high.ensures)) c.each.invariant.bytes;
      behind = ap (behind ws) c.high.ensures ∙ ap (λ l. behind l r) (sym is) ∙ c.each.invariant.behind;
    }
