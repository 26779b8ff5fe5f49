use Rattle.std.proofs.Common.{◌≡◌, ◌+◌, ◌*◌, ◌/◌, ◌^◌, max, min, ◌∙◌, ap}
use Rattle.std.specs.Prelude.{unsigned_abs}
use Rattle.std.proofs.lemmas.Int.{to_z-of_z}
use Rattle.std.specs.Int.{w64, cast_unsigned}
use Rattle.hk_cnf.specs.Spread.{weighed}
use Rattle.hk_cnf.proofs.operation.spread_and.Goals as goal

pub returns : goal.returns
returns c =
    let first : c.cast_unsigned.result ≡ cast_unsigned w64 c.args.a = c.cast_unsigned.ensures ∙ ap (cast_unsigned w64) (to_z-of_z w64 c.args.a c.ranges.a) in
    let second : c.cast_unsigned-2.result ≡ cast_unsigned w64 c.args.b = c.cast_unsigned-2.ensures ∙ ap (cast_unsigned w64) (to_z-of_z w64 c.args.b c.ranges.b) in
    let tag : c.weighed-tag.result ≡ weighed (cast_unsigned w64 c.args.a) (cast_unsigned w64 c.args.b) =
    c.weighed-tag.ensures ∙ (λ i. weighed (first i) (second i)) in
    let a : c.unsigned_abs-first.result ≡ unsigned_abs c.args.a = c.unsigned_abs-first.ensures.value ∙ ap unsigned_abs (to_z-of_z w64 c.args.a c.ranges.a) in
    let b : c.unsigned_abs-second.result ≡ unsigned_abs c.args.b = c.unsigned_abs-second.ensures.value ∙ ap unsigned_abs (to_z-of_z w64 c.args.b c.ranges.b) in
    let greater : c.max.result ≡ max (unsigned_abs c.args.a) (unsigned_abs c.args.b) = c.max.ensures ∙ (λ i. max (a i) (b i)) in
    let lesser : c.min.result ≡ min (unsigned_abs c.args.a) (unsigned_abs c.args.b) = c.min.ensures ∙ (λ i. min (a i) (b i)) in
    let home : c.weighed-home.result ≡ weighed (max (unsigned_abs c.args.a) (unsigned_abs c.args.b) / 16) (min (unsigned_abs c.args.a) (unsigned_abs c.args.b) / 16) =
    c.weighed-home.ensures ∙ (λ i. weighed (greater i / 16) (lesser i / 16)) in
    λ i. tag i / 2 ^ 56 * 2 ^ 24 + home i / 2 ^ 40
