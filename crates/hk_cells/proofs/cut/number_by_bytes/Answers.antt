use Rattle.std.proofs.Common.{◌≡◌, ℕ, ◌+◌, ◌*◌, ap, subst, arith, ◌∙◌}
use Rattle.hk_term.specs.Meaning.{value}
use Rattle.ir_layout.specs.Bytes.{number_at}
use Rattle.hk_symmem.specs.Origins.{cells, object_from}
use Rattle.hk_symmem.proofs.StateLaws.{some_bytes}
use Rattle.hk_cells.specs.Growth.{IsWord}
use Rattle.hk_cells.proofs.CutLaws.{first, next}
use Rattle.hk_cells.proofs.Frames.{followed}
use Rattle.hk_cells.proofs.cut.number_by_bytes.Goals as goal

more : (k : ℕ) → 8 * k + 8 ≡ 8 * (k + 1)
more k = omega arith

pub loop-byte-init : goal.loop-byte-init
loop-byte-init c = record {
  frame = c.byte_at.ensures.frame;
  word = c.in_ok-made.ensures.word;
  is = λ v there. first c.args.cell (value c.args.t.now c.args.offset v) _ c.args.bytes c.args.size _ (v.entry c.args.array) (some_bytes c.args.bytes c.requires.bytes) (λ i. value c.args.t.now c.args.offset v) there (c.in_ok-made.ensures.value v);
}

pub loop-byte-preserved : goal.loop-byte-preserved
loop-byte-preserved c = record {
  frame = followed _ _ _ c.loop-byte.invariant.frame c.next_byte.ensures.frame;
  word = subst (λ w. IsWord c.next_byte.new.t w c.in_ok-made-2.made) (more c.loop-byte.byte) c.in_ok-made-2.ensures.word;
  is = λ v there. next c.args.cell (value c.args.t.now c.args.offset v) (value c.loop-byte.t c.args.offset v) c.args.bytes c.loop-byte.byte c.args.size (value c.loop-byte.t c.loop-byte.made v) _ (v.entry c.args.array)
      c.loop-byte-test.true (c.loop-byte.invariant.frame.values c.args.offset c.requires.offset.0 v) c.ranges.size.fits there (c.loop-byte.invariant.is v there) (c.in_ok-made-2.ensures.value v);
}

pub returns-clause-value : goal.returns-clause-value
returns-clause-value c =
    let e : c.loop-byte.byte ≡ c.args.bytes = omega (arith, some_bytes c.args.bytes c.requires.bytes, c.loop-byte-test.false, c.loop-byte.auto.byte-end) in
    λ v there. c.loop-byte.invariant.is v there ∙ ap (λ j. number_at j (value c.args.t.now c.args.offset v) (object_from (cells c.args.size c.args.cell) (v.entry c.args.array))) e

pub returns-clause-word : goal.returns-clause-word
returns-clause-word c =
    let e : c.loop-byte.byte ≡ c.args.bytes = omega (arith, some_bytes c.args.bytes c.requires.bytes, c.loop-byte-test.false, c.loop-byte.auto.byte-end) in
    subst (λ k. IsWord c.loop-byte.t (8 * k) c.loop-byte.made) e c.loop-byte.invariant.word
