use Rattle.std.proofs.Common.{rules, ◌≡◌, ℕ, suc, ◌+◌, ◌*◌, ◌/◌, ◌%◌, ◌^◌, ◌<◌, ◌≤◌, List, length, ap, sym, subst, arith, add-one, ◌∙◌}
use Rattle.std.specs.Prelude.{slice_index}
use Rattle.hk_term.specs.Meaning.{value}
use Rattle.hk_simplify.proofs.FormLaws.{grows-trans}
use Rattle.ir_layout.specs.Bytes.{number_at}
use Rattle.hk_symmem.specs.Guarded.{after_write, Keeps}
use Rattle.hk_symmem.specs.Reading.{IsRead}
use Rattle.hk_symmem.proofs.Laws.{after_write_kept}
use Rattle.hk_symmem.proofs.Numbers.{byte_of_number}
use Rattle.hk_symmem.proofs.StateLaws.{some_bytes}
use Rattle.hk_symmem.proofs.overlay.number_behind.Goals as goal

first : (p p' m f low new : ℕ) (b ys ys' : List ℕ) → 0 < m → p' ≡ p → ys' ≡ ys → low ≡ f / 256 ^ 0 % 256 → IsRead p m b f
    → (p' < length b → low ≡ slice_index b p' → new ≡ slice_index ys' p') → new ≡ number_at 1 p ys
first p p' m f low new b ys ys' some ep ey is read h =
    h (omega (arith, some, ep, read.there)) (is ∙ ap (λ n. n / 256 ^ 0 % 256) read.is ∙ byte_of_number m p 0 b read.small some ∙ ap (slice_index b) (none p ∙ sym ep))
    ∙ (λ i. slice_index (ey i) (ep i)) ∙ one (slice_index ys p)
  where
    none : (p : ℕ) → p + 0 ≡ p
    none p = omega arith

    one : (x : ℕ) → x ≡ x + 256 * 0
    one x = omega arith

next : (p p' m f f' made new k : ℕ) (b ys ys' : List ℕ) → p' ≡ p → f' ≡ f → ys' ≡ ys
    → (IsRead p' m b f' → made ≡ number_at k p' ys' → new ≡ number_at (suc k) p' ys') → IsRead p m b f → made ≡ number_at k p ys → new ≡ number_at (k + 1) p ys
next p p' m f f' made new k b ys ys' ep ef ey h read is =
    h (record { there = subst (λ q. q + m ≤ length b) (sym ep) read.there; room = read.room; small = read.small; is = ef ∙ read.is ∙ ap (λ q. number_at m q b) (sym ep) })
    (is ∙ (λ i. number_at k (sym ep i) (sym ey i)))
    ∙ (λ i. number_at (suc k) (ep i) (ey i)) ∙ ap (λ j. number_at j p ys) (sym (add-one k))

pub loop-byte-init : goal.loop-byte-init
loop-byte-init c =
    let keeps : Keeps c.args.t.now c.byte_of.new.t = record { longer = search rules; widths = search rules; values = search rules } in
    record {
      within = search rules;
      size = search rules;
      is = λ v b read. first (value c.args.t.now c.args.offset v) (value c.byte_of.new.t c.args.offset v) c.args.bytes (value c.args.t.now c.args.found v)
          (value c.byte_of.new.t c.in_ok-low.low v) (value c.byte_behind.new.t c.in_ok-made.made v) b
          (after_write c.args.t.now v c.args.w.now b) (after_write c.byte_of.new.t v c.args.w.now b)
          (some_bytes c.args.bytes c.requires.bytes) (c.byte_of.ensures.keeps_values c.args.offset c.requires.offset v)
          (after_write_kept c.args.t.now c.byte_of.new.t v c.args.w.now b keeps c.requires.write) (c.in_ok-low.ensures.value v) read
          (c.in_ok-made.ensures.value v b);
      keeps_widths = search rules;
      keeps_values = search rules;
      longer = search rules;
      grows = grows-trans _ _ _ c.byte_of.ensures.grows c.byte_behind.ensures.grows;
    }

pub loop-byte-preserved : goal.loop-byte-preserved
loop-byte-preserved c =
    let keeps : Keeps c.args.t.now c.loop-byte.t = record { longer = search rules; widths = search rules; values = search rules } in
    record {
      within = search rules;
      size = search rules;
      is = λ v b read. next (value c.args.t.now c.args.offset v) (value c.loop-byte.t c.args.offset v) c.args.bytes (value c.args.t.now c.args.found v)
          (value c.loop-byte.t c.args.found v) (value c.loop-byte.t c.loop-byte.made v) _ c.loop-byte.byte b
          (after_write c.args.t.now v c.args.w.now b) (after_write c.loop-byte.t v c.args.w.now b)
          (keeps.values c.args.offset c.requires.offset v) (keeps.values c.args.found c.requires.found v)
          (after_write_kept c.args.t.now c.loop-byte.t v c.args.w.now b keeps c.requires.write)
          (c.in_ok-made-2.ensures.value v b) read (c.loop-byte.invariant.is v b read);
      keeps_widths = search rules;
      keeps_values = search rules;
      longer = search rules;
      grows = grows-trans _ _ _ c.loop-byte.invariant.grows c.one_more.ensures.grows;
    }

pub returns-clause-value : goal.returns-clause-value
returns-clause-value c =
    let e : c.loop-byte.byte ≡ c.args.bytes = omega (arith, some_bytes c.args.bytes c.requires.bytes, c.loop-byte-test.false, c.loop-byte.auto.byte-end) in
    λ v b read. c.loop-byte.invariant.is v b read ∙ ap (λ j. number_at j (value c.args.t.now c.args.offset v) (after_write c.args.t.now v c.args.w.now b)) e
