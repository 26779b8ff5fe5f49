use Rattle.std.proofs.Common.{rules, ◌≡◌, ℕ, ◌+◌, ◌-◌, ◌*◌, ◌/◌, ◌%◌, ◌^◌, ◌≤◌, length, ap, subst, arith, ◌∙◌}
use Rattle.std.specs.Prelude.{if◌then◌else◌, nat_eq}
use Rattle.std.proofs.Math.Nat.{mod-eq_of_lt}
use Rattle.std.proofs.Math.Pow.{pow_mono}
use Rattle.hk_term.specs.Meaning.{value}
use Rattle.ir_layout.specs.Bytes.{object_of, number_at}
use Rattle.hk_symmem.proofs.StateLaws.{some_bytes}
use Rattle.hk_symmem.proofs.Picks.{low_alone, chosen}
use Rattle.hk_symmem.proofs.constants.+pick.Goals as goal

half : (k : ℕ) → k ≤ 63 → 1 * 2 ^ k % 18446744073709551616 ≡ 2 ^ k
half k l = ap (λ n. n % 18446744073709551616) (one (2 ^ k)) ∙ mod-eq_of_lt (omega (arith, pow_mono l))
  where
    one : (n : ℕ) → 1 * n ≡ n
    one n = omega arith

pub returns-then-next-constant_len-clause-value : goal.returns-then-next-constant_len-clause-value
returns-then-next-constant_len-clause-value t c = λ v.
    let next : ℕ = c.args.base + 1 * 2 ^ (c.args.level - 1) % 18446744073709551616 in
    low_alone (value c.args.t.now c.args.offset v) c.args.level c.args.base next c.args.bytes _ (object_of c.args.m.now 0) (omega (arith, c.if-level-eq0.false)) (some_bytes c.args.bytes c.requires.bytes)
    (ap (λ h. c.args.base + h) (half (c.args.level - 1) (omega (arith, c.requires.level)))) (subst (λ n. n ≤ next) c.constant_len.ensures.len c.if-next-constant_len.true) (c.in_ok-low.ensures.value v)

pub returns-clause-value : goal.returns-clause-value
returns-clause-value t c = λ v.
    let next : ℕ = c.args.base + 1 * 2 ^ (c.args.level - 1) % 18446744073709551616 in
    let xe : value c.pick.new.t c.args.offset v ≡ value c.args.t.now c.args.offset v = c.pick.ensures.keeps_values c.args.offset c.requires.offset v in
    let ye : value c.pick-2.new.t c.args.offset v ≡ value c.args.t.now c.args.offset v = search rules in
    let le : value c.pick-2.new.t c.in_ok-low.low v ≡ value c.pick.new.t c.in_ok-low.low v = search rules in
    chosen (value c.args.t.now c.args.offset v) c.args.level c.args.base next c.args.bytes (value c.pick.new.t c.in_ok-low.low v) (value c.pick-2.new.t c.in_ok-high.high v) _ (object_of c.args.m.now 0) (omega (arith, c.if-level-eq0.false))
    (ap (λ h. c.args.base + h) (half (c.args.level - 1) (omega (arith, c.requires.level)))) (c.in_ok-low.ensures.value v)
    (subst (λ x. next + x % 2 ^ (c.args.level - 1) + c.args.bytes ≤ length (object_of c.args.m.now 0) → value c.pick-2.new.t c.in_ok-high.high v ≡ number_at c.args.bytes (next + x % 2 ^ (c.args.level - 1)) (object_of c.args.m.now 0)) xe (c.in_ok-high.ensures.value v))
    (c.in_ok-made-2.ensures.value v ∙ (λ i. if nat_eq (ye i / 2 ^ (c.args.level - 1) % 2) 1 then value c.pick-2.new.t c.in_ok-high.high v else le i))
