use Rattle.std.proofs.Common.{rules, ◌≡◌, ℕ, suc, ◌+◌, ◌*◌, ◌/◌, ◌^◌, ◌<◌, ◌%◌, List, length, ap, sym, arith, ◌∙◌}
use Rattle.std.specs.Prelude.{slice_index}
use Rattle.std.proofs.Math.Nat.{mod-eq_of_lt}
use Rattle.hk_term.specs.Meaning.{Reading, value}
use Rattle.ir_layout.specs.Bytes.{number_at}
use Rattle.hk_symmem.specs.Guarded.{after_write, Keeps}
use Rattle.hk_symmem.specs.Reading.{IsRead}
use Rattle.hk_symmem.proofs.Laws.{after_write_kept}
use Rattle.hk_symmem.proofs.Numbers.{byte_of_number, number_more}
use Rattle.hk_symmem.proofs.overlay.one_more.Goals as goal

-- the byte at the next place is that of the number
next_byte : (p k m n place byte : ℕ) (b : List ℕ) → IsRead p m b n → k < m → place ≡ (p + k) % 2 ^ 64 → byte ≡ n / 256 ^ k % 256
    → (place ≡ p + k) × (place < length b) × (byte ≡ slice_index b place)
next_byte p k m n place byte b read l at is =
    let whole : place ≡ p + k = at ∙ mod-eq_of_lt (omega (arith, l, read.there, read.room)) in (
      whole,
      omega (arith, whole, l, read.there),
      is ∙ ap (λ x. x / 256 ^ k % 256) read.is ∙ byte_of_number m p k b read.small l ∙ sym (ap (slice_index b) whole),
    )

joined : (p k place high made whole : ℕ) (ys : List ℕ) → place ≡ p + k → high ≡ slice_index ys place → made ≡ number_at k p ys → whole ≡ high * 256 ^ k + made → whole ≡ number_at (suc k) p ys
joined p k place high made whole ys at is rest e =
    e ∙ (λ i. is i * 256 ^ k + rest i) ∙ ap (λ q. slice_index ys q * 256 ^ k + number_at k p ys) at ∙ sym (number_more k p ys)

pub returns-clause-value : goal.returns-clause-value
returns-clause-value c = λ v b read made.
    let keeps : Keeps c.args.t.now c.byte_of.new.t = record { longer = search rules; widths = search rules; values = search rules } in
    let p : ℕ = value c.args.t.now c.args.before.now.offset v in
    let kept_made : (v : Reading) → value c.byte_behind.new.t c.args.made v ≡ value c.args.t.now c.args.made v = search rules in
    let n = next_byte p c.args.byte c.args.before.now.bytes (value c.args.t.now c.args.before.now.found v)
    (value c.byte_of.new.t c.in_ok-place.place v) (value c.byte_of.new.t c.in_ok-part.part v) b read c.requires.byte
    (c.byte_of.ensures.keeps_values c.in_ok-place.place c.in_ok-place.ensures.within v ∙ c.in_ok-place.ensures.value v)
    (c.in_ok-part.ensures.value v ∙ ap (λ x. x / 256 ^ c.args.byte % 256) (c.place_behind.ensures.keeps_values c.args.before.now.found c.requires.found v)) in
    joined p c.args.byte (value c.byte_of.new.t c.in_ok-place.place v) (value c.byte_behind.new.t c.in_ok-high.high v)
    (value c.byte_behind.new.t c.args.made v) (value c.above.new.t c.in_ok-whole.whole v) (after_write c.args.t.now v c.args.w.now b)
    n.0
    (c.in_ok-high.ensures.value v b n.1 n.2 ∙ ap (λ ys. slice_index ys (value c.byte_of.new.t c.in_ok-place.place v)) (after_write_kept c.args.t.now c.byte_of.new.t v c.args.w.now b keeps c.requires.write))
    (kept_made v ∙ made)
    (c.in_ok-whole.ensures.value v)
