use Rattle.std.proofs.Common.{◌≡◌, ℕ, ◌+◌, ◌*◌, ◌/◌, ap, subst, arith, ◌∙◌}
use Rattle.hk_term.specs.Meaning.{value}
use Rattle.ir_layout.specs.Bytes.{number_at}
use Rattle.hk_symmem.specs.Origins.{cells, object_from}
use Rattle.hk_cells.specs.Growth.{IsWord}
use Rattle.hk_cells.proofs.WholeLaws.{first_cell, next_cell, room_for, all_cells, one_cell, at_least_cell}
use Rattle.hk_cells.proofs.Frames.{followed, word_kept}
use Rattle.hk_cells.proofs.wholes.number_by_cells.Goals as goal

once : (c : ℕ) → 8 * c ≡ 8 * (c * 1)
once c = omega arith

more : (c k : ℕ) → 8 * c + 8 * (c * k) ≡ 8 * (c * (k + 1))
more c k = grind arith

pub loop-k-init : goal.loop-k-init
loop-k-init c = record {
  frame = followed _ _ _ c.cell_at.ensures.frame c.entry.ensures.frame;
  few = omega (arith, c.cell_at.ensures.few, c.entry.ensures.few);
  word = subst (λ w. IsWord c.entry.new.t w c.in_ok-made.made) (once c.args.cell) c.in_ok-made.ensures.word;
  index = word_kept _ _ 64 c.in_ok-index.index c.entry.ensures.frame c.in_ok-index.ensures.word;
  at = λ v. c.entry.ensures.frame.values c.in_ok-index.index c.in_ok-index.ensures.word.0 v ∙ c.in_ok-index.ensures.value v;
  is = λ v multiple there. first_cell c.args.cell c.args.bytes c.args.size (value c.args.t.now c.args.offset v) (value c.args.t.now c.args.offset v) (value c.cell_at.new.t c.in_ok-index.index v) _ (v.entry c.args.array)
      c.requires.cell (c.in_ok-index.ensures.value v) (λ i. value c.args.t.now c.args.offset v) multiple (at_least_cell c.args.cell c.args.bytes c.requires.cell c.requires.bytes c.requires.whole) there (c.in_ok-made.ensures.value v);
}

pub next_cell-requires-clause-room : goal.next_cell-requires-clause-room
next_cell-requires-clause-room c = room_for c.args.cell c.args.bytes c.loop-k.k c.requires.cell c.requires.bytes c.loop-k-test.true

pub loop-k-preserved : goal.loop-k-preserved
loop-k-preserved c = record {
  frame = followed _ _ _ c.loop-k.invariant.frame c.next_cell.ensures.frame;
  few = omega (arith, c.loop-k.invariant.few, c.next_cell.ensures.few);
  word = subst (λ w. IsWord c.next_cell.new.t w c.in_ok-made-2.made) (more c.args.cell c.loop-k.k) c.in_ok-made-2.ensures.word;
  index = word_kept _ _ 64 c.in_ok-index.index c.next_cell.ensures.frame c.loop-k.invariant.index;
  at = λ v. c.next_cell.ensures.frame.values c.in_ok-index.index c.loop-k.invariant.index.0 v ∙ c.loop-k.invariant.at v;
  is = λ v multiple there. next_cell c.args.cell c.args.bytes c.args.size (value c.args.t.now c.args.offset v) c.loop-k.k (value c.loop-k.t c.in_ok-index.index v) (value c.loop-k.t c.loop-k.made v) _ (v.entry c.args.array)
      c.requires.cell c.loop-k-test.true c.ranges.size.fits multiple there (c.loop-k.invariant.at v) (c.loop-k.invariant.is v multiple there) (c.in_ok-made-2.ensures.value v);
}

pub returns-clause-value : goal.returns-clause-value
returns-clause-value c =
    let last : c.loop-k.k ≡ c.args.bytes / c.args.cell = omega (arith, one_cell c.args.cell c.args.bytes c.requires.cell c.requires.bytes c.requires.whole, c.loop-k-test.false, c.loop-k.auto.k-end) in
    let e : c.args.cell * c.loop-k.k ≡ c.args.bytes = all_cells c.args.cell c.args.bytes c.loop-k.k c.requires.cell c.requires.whole last in
    λ v multiple there. c.loop-k.invariant.is v multiple there ∙ ap (λ j. number_at j (value c.args.t.now c.args.offset v) (object_from (cells c.args.size c.args.cell) (v.entry c.args.array))) e

pub returns-clause-word : goal.returns-clause-word
returns-clause-word c =
    let last : c.loop-k.k ≡ c.args.bytes / c.args.cell = omega (arith, one_cell c.args.cell c.args.bytes c.requires.cell c.requires.bytes c.requires.whole, c.loop-k-test.false, c.loop-k.auto.k-end) in
    let e : c.args.cell * c.loop-k.k ≡ c.args.bytes = all_cells c.args.cell c.args.bytes c.loop-k.k c.requires.cell c.requires.whole last in
    subst (λ k. IsWord c.loop-k.t (8 * k) c.loop-k.made) e c.loop-k.invariant.word
