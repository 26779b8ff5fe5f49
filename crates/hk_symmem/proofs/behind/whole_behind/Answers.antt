use Rattle.std.proofs.Common.{rules, ◌≡◌, ℕ, ◌*◌, ◌^◌, ◌<◌, ap, subst, sym, ◌∙◌}
use Rattle.std.specs.Prelude.{if◌then◌else◌, nat_eq, bit_and}
use Rattle.hk_term.specs.Operations.{bit}
use Rattle.hk_term.specs.Meaning.{value}
use Rattle.ir_layout.specs.Bytes.{IsWidth}
use Rattle.hk_symmem.specs.Guarded.{after_write}
use Rattle.hk_symmem.specs.Reading.{IsRead}
use Rattle.hk_symmem.proofs.Numbers.{bits_of_bytes}
use Rattle.hk_symmem.proofs.Wholes.{whole_chosen}
use Rattle.hk_symmem.proofs.behind.whole_behind.Goals as goal

pub returns-clause-value : goal.returns-clause-value
returns-clause-value c = λ v b read.
    let g : ℕ = value c.args.t.now c.args.w.now.guard v in
    let p : ℕ = value c.args.t.now c.args.offset v in
    let o : ℕ = value c.args.t.now c.args.w.now.offset v in
    let x : ℕ = value c.args.t.now c.args.w.now.value v in
    let n : ℕ = value c.args.t.now c.args.found v in
    let ge : value c.eq.new.t c.args.w.now.guard v ≡ value c.args.t.now c.args.w.now.guard v = search rules in
    let xe : value c.and.new.t c.args.w.now.value v ≡ value c.args.t.now c.args.w.now.value v = search rules in
    let ne : value c.and.new.t c.args.found v ≡ value c.args.t.now c.args.found v = search rules in
    let he : value c.and.new.t c.in_ok-hit.hit v ≡ bit_and g (bit (nat_eq p o)) =
    c.in_ok-hit.ensures.value v ∙ (λ i. bit_and (ge i) (c.in_ok-same.ensures.value v i)) in
    let e : value c.choose.new.t c.in_ok-made.made v ≡ (if nat_eq (bit_and g (bit (nat_eq p o))) 1 then x else n) =
    c.in_ok-made.ensures.value v ∙ (λ i. if nat_eq (he i) 1 then xe i else ne i) in
    let truth : g < 2 = subst (λ w. g < 2 ^ w) c.requires.write.truth (c.node-guard.ensures.holds.below v) in
    let below : o < 2 ^ 64 = subst (λ w. o < 2 ^ w) c.requires.write.address (c.node-place.ensures.holds.below v) in
    let small : x < 256 ^ c.args.bytes =
    subst (λ q. x < q) (bits_of_bytes c.args.bytes) (subst (λ w. x < 2 ^ w) (c.requires.write.number ∙ ap (λ k. 8 * k) c.requires.same) (c.node-number.ensures.holds.below v)) in
    subst (IsRead p c.args.bytes (after_write c.args.t.now v c.args.w.now b)) (sym e)
    (whole_chosen g p o x n c.args.bytes c.args.w.now.bytes b c.requires.same (subst IsWidth c.requires.same c.requires.write.bytes) truth below small (c.requires.first v) (c.requires.second v) read)
