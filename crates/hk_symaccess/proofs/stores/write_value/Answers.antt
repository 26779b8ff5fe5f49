use Rattle.std.proofs.Common.{rules, ◌≡◌, ◌%◌, ◌^◌, ◌*◌, ◌∙◌, ap, sym, length, nat_eq, nat_le}
use Rattle.hk_term.specs.Meaning.{value}
use Rattle.hk_symvalue.specs.Growth.{Extends}
use Rattle.hk_symvalue.specs.Meaning.{is_true}
use Rattle.hk_symmem.specs.Guarded.{memory_at}
use Rattle.hk_symaccess.specs.Accesses.{written_up_to}
use Rattle.hk_symaccess.proofs.Kept.{memory_kept}
use Rattle.hk_symaccess.proofs.Storing.{may_write}
use Rattle.hk_symaccess.proofs.stores.write_value.Goals as goal

pub write_number-requires-clause-lies : goal.write_number-requires-clause-lies
write_number-requires-clause-lies g c = λ v e o.
    let first = c.args.t.now in
    let third = c.at_width.new.t in
    let m = c.args.memory.now in
    let there : Extends first third = search rules in
    let go : is_true third c.args.store.now.guard v ≡ is_true first c.args.store.now.guard v = ap (λ n. nat_eq n 1) (there.values c.args.store.now.guard c.requires.go.0 v) in
    let base : value third c.args.store.now.access.address.base v ≡ value first c.args.store.now.access.address.base v = there.values c.args.store.now.access.address.base c.requires.base.0 v in
    let place : value third c.in_ok-offset.offset v ≡ value first c.args.store.now.access.address.bits v = search rules in
    let same : memory_at third m v ≡ memory_at first m v = memory_kept first third m there c.requires.over v in
    may_write (memory_at first m v) (memory_at third m v) c.args.objects.now _ _ _ _ c.args.store.now.access.bytes same base place
    (c.requires.lies v (sym go ∙ e) (ap (λ n. nat_le n 1) (sym base) ∙ o))

pub returns-clause-value : goal.returns-clause-value
returns-clause-value g c = λ v.
    let first = c.args.t.now in
    let third = c.at_width.new.t in
    let m = c.args.memory.now in
    let there : Extends first third = search rules in
    let go : is_true third c.args.store.now.guard v ≡ is_true first c.args.store.now.guard v = ap (λ n. nat_eq n 1) (there.values c.args.store.now.guard c.requires.go.0 v) in
    let base : value third c.args.store.now.access.address.base v ≡ value first c.args.store.now.access.address.base v = there.values c.args.store.now.access.address.base c.requires.base.0 v in
    let place : value third c.in_ok-offset.offset v ≡ value first c.args.store.now.access.address.bits v = search rules in
    let start : value c.offset_of.new.t c.args.store.now.value.bits v ≡ value first c.args.store.now.value.bits v = c.in_ok-offset.ensures.frame.values c.args.store.now.value.bits c.requires.number v in
    let number : value third c.in_ok-number.number v ≡ value first c.args.store.now.value.bits v % 2 ^ (8 * c.args.store.now.access.bytes) = c.in_ok-number.ensures.value v ∙ ap (λ n. n % 2 ^ (8 * c.args.store.now.access.bytes)) start in
    let same : memory_at third m v ≡ memory_at first m v = memory_kept first third m there c.requires.over v in
    c.in_ok-write_number.ensures.value v ∙ (λ i. written_up_to (length c.args.layout.now.objects) (go i) (same i) (base i) (place i) c.args.store.now.access.bytes (number i))
