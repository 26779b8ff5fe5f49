use Rattle.std.proofs.Common.{rules, ◌≡◌, ℕ, ◌+◌, ◌*◌, ◌%◌, ◌^◌, ◌<◌, ◌≤◌, ap, sym, arith, add-one, ◌∙◌}
use Rattle.std.specs.Prelude.{slice_index}
use Rattle.std.proofs.Math.Nat.{mod-eq_of_lt}
use Rattle.hk_term.specs.Meaning.{value}
use Rattle.hk_simplify.proofs.FormLaws.{grows-trans}
use Rattle.ir_layout.specs.Bytes.{number_at}
use Rattle.hk_symmem.specs.Origins.{cells, object_from}
use Rattle.hk_symmem.proofs.SourceLaws.{byte_there}
use Rattle.hk_symmem.proofs.Numbers.{number_more}
use Rattle.hk_symmem.proofs.StateLaws.{some_bytes}
use Rattle.hk_symmem.proofs.array_bytes.array_number.Goals as goal

first : (p p' m size new : ℕ) (a : ℕ → ℕ) → 0 < m → p' ≡ p → p + m ≤ size → new ≡ a p' % 256 → new ≡ number_at 1 p (object_from (cells size 1) a)
first p p' m size new a some e there is =
    is ∙ ap (λ q. a q % 256) e ∙ sym (byte_there a size p (omega (arith, some, there))) ∙ one (slice_index (object_from (cells size 1) a) p)
  where
    one : (x : ℕ) → x ≡ x + 256 * 0
    one x = omega arith

next : (p p' m k size made new : ℕ) (a : ℕ → ℕ) → k < m → p' ≡ p → size < 2 ^ 64 → p + m ≤ size → made ≡ number_at k p (object_from (cells size 1) a)
    → new ≡ a ((p' + k) % 2 ^ 64) % 256 * 256 ^ k + made → new ≡ number_at (k + 1) p (object_from (cells size 1) a)
next p p' m k size made new a l e room there rest is =
    is ∙ (λ i. a (at i) % 256 * 256 ^ k + rest i)
    ∙ ap (λ b. b * 256 ^ k + number_at k p (object_from (cells size 1) a)) (sym (byte_there a size (p + k) (omega (arith, l, there))))
    ∙ sym (number_more k p (object_from (cells size 1) a)) ∙ ap (λ j. number_at j p (object_from (cells size 1) a)) (sym (add-one k))
  where
    at : (p' + k) % 2 ^ 64 ≡ p + k
    at = ap (λ q. (q + k) % 2 ^ 64) e ∙ mod-eq_of_lt (omega (arith, l, room, there))

pub loop-byte-init : goal.loop-byte-init
loop-byte-init c = record {
  within = search rules;
  bits = search rules;
  is = λ v there. first (value c.args.t.now c.args.offset v) _ c.args.bytes c.args.size _ (v.entry c.args.array) (some_bytes c.args.bytes c.requires.bytes) (λ i. value c.args.t.now c.args.offset v) there (c.in_ok-made.ensures.value v);
  keeps_widths = search rules;
  keeps_values = search rules;
  longer = search rules;
  grows = search rules;
}

pub loop-byte-preserved : goal.loop-byte-preserved
loop-byte-preserved c = record {
  within = search rules;
  bits = search rules;
  is = λ v there. next (value c.args.t.now c.args.offset v) (value c.loop-byte.t c.args.offset v) c.args.bytes c.loop-byte.byte c.args.size (value c.loop-byte.t c.loop-byte.made v) _ (v.entry c.args.array)
      c.loop-byte-test.true (c.loop-byte.invariant.keeps_values c.args.offset c.requires.offset v) c.ranges.size.fits there (c.loop-byte.invariant.is v there) (c.in_ok-made-2.ensures.value v);
  keeps_widths = search rules;
  keeps_values = search rules;
  longer = search rules;
  grows = grows-trans _ _ _ c.loop-byte.invariant.grows c.next_byte.ensures.grows;
}

pub returns-clause-value : goal.returns-clause-value
returns-clause-value c =
    let e : c.loop-byte.byte ≡ c.args.bytes = omega (arith, some_bytes c.args.bytes c.requires.bytes, c.loop-byte-test.false, c.loop-byte.auto.byte-end) in
    λ v there. c.loop-byte.invariant.is v there ∙ ap (λ j. number_at j (value c.args.t.now c.args.offset v) (object_from (cells c.args.size 1) (v.entry c.args.array))) e
