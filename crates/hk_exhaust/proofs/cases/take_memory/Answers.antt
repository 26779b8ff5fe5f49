use Rattle.std.proofs.Common.{rules, ◌+◌, ◌<◌, ◌∷◌, length, drop, get_or, ap, sym, ◌∙◌}
use Rattle.hk_exhaust.specs.Enumeration.{object_widths, memory_at, behind, behind_memory}
use Rattle.spec_state.proofs.Turns.{put_one}
use Rattle.hk_exhaust.proofs.Parts.{at_place, no_object}
use Rattle.hk_exhaust.proofs.cases.take_memory.Goals as goal

pub each-preserved : goal.each-preserved
each-preserved c =
    let os = c.args.layout.now.objects in
    let low : c.each.k < length os = search rules in
    let o = get_or os c.each.k no_object in
    let r = c.each.rest in
    let rest = drop (c.each.k + 1) os in
    let is = at_place os c.each.k no_object low in
    record {
      memory = put_one c.each.objects.items _ c.in_ok-object.object _ _ _ c.in_ok-push.ensures.items
          (ap (λ l. memory_at l r) is ∙ ap (λ x. x ∷ memory_at rest (behind (object_widths o) r)) (sym (c.in_ok-object.ensures.bytes no_object)) ∙ ap (λ n. c.in_ok-object.object ∷ memory_at rest n) (sym (c.in_ok-object.ensures.behind no_object))) c.each.invariant.memory;
      behind = ap (behind_memory rest) (c.in_ok-object.ensures.behind no_object) ∙ ap (λ l. behind_memory l r) (sym is) ∙ c.each.invariant.behind;
    }
