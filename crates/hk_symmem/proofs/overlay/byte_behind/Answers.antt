use Rattle.std.proofs.Common.{rules, ◌≡◌, ℕ, ◌+◌, ◌/◌, ◌%◌, ◌^◌, ◌<◌, List, length, ap, sym, subst, add-one, ◌∙◌}
use Rattle.std.specs.Prelude.{if◌then◌else◌, nat_eq, slice_index, slice_set}
use Rattle.hk_term.specs.Meaning.{value}
use Rattle.hk_simplify.proofs.FormLaws.{grows-trans}
use Rattle.hk_symmem.specs.Guarded.{with_bytes}
use Rattle.hk_symmem.proofs.Numbers.{bytes_length, written_more}
use Rattle.hk_symmem.proofs.overlay.byte_behind.Goals as goal

step : (g g' o o' x x' p p' made new j : ℕ) (bytes : List ℕ) → g' ≡ g → o' ≡ o → x' ≡ x → p' ≡ p
    → ((ys : List ℕ) (before : ℕ) → p' < length ys → made ≡ (if nat_eq g' 1 then slice_index ys p' else before)
    → new ≡ (if nat_eq g' 1 then slice_index (slice_set ys ((o' + j) % 2 ^ 64) (x' / 256 ^ j % 256)) p' else before))
    → p < length bytes → made ≡ (if nat_eq g 1 then slice_index (with_bytes j o x bytes) p else slice_index bytes p)
    → new ≡ (if nat_eq g 1 then slice_index (with_bytes (j + 1) o x bytes) p else slice_index bytes p)
step g g' o o' x x' p p' made new j bytes eg eo ex ep h there is =
    h (with_bytes j o x bytes) (slice_index bytes p) (subst (λ q. q < length (with_bytes j o x bytes)) (sym ep) (subst (λ n. p < n) (sym (bytes_length j o x bytes)) there))
    (is ∙ (λ i. if nat_eq (sym eg i) 1 then slice_index (with_bytes j o x bytes) (sym ep i) else slice_index bytes p))
    ∙ (λ i. if nat_eq (eg i) 1 then slice_index (slice_set (with_bytes j o x bytes) ((eo i + j) % 2 ^ 64) (ex i / 256 ^ j % 256)) (ep i) else slice_index bytes p)
    ∙ ap (λ ys. if nat_eq g 1 then slice_index ys p else slice_index bytes p) (sym (written_more j o x bytes))
    ∙ ap (λ k. if nat_eq g 1 then slice_index (with_bytes k o x bytes) p else slice_index bytes p) (sym (add-one j))

pub loop-byte-preserved : goal.loop-byte-preserved
loop-byte-preserved c = record {
  within = search rules;
  size = search rules;
  is = λ v bytes there is. step (value c.args.t.now c.args.w.now.guard v) (value c.loop-byte.t c.args.w.now.guard v)
      (value c.args.t.now c.args.w.now.offset v) (value c.loop-byte.t c.args.w.now.offset v)
      (value c.args.t.now c.args.w.now.value v) (value c.loop-byte.t c.args.w.now.value v)
      (value c.args.t.now c.args.place v) (value c.loop-byte.t c.args.place v)
      _ _ c.loop-byte.byte bytes
      (c.loop-byte.invariant.keeps_values c.args.w.now.guard c.requires.write.guard v)
      (c.loop-byte.invariant.keeps_values c.args.w.now.offset c.requires.write.offset v)
      (c.loop-byte.invariant.keeps_values c.args.w.now.value c.requires.write.value v)
      (c.loop-byte.invariant.keeps_values c.args.place c.requires.place v)
      (λ ys before. c.in_ok-made.ensures.value v ys before) there (c.loop-byte.invariant.is v bytes there is);
  keeps_widths = search rules;
  keeps_values = search rules;
  longer = search rules;
  grows = grows-trans _ _ _ c.loop-byte.invariant.grows c.behind_byte.ensures.grows;
}
