use Rattle.std.proofs.Common.{rules, ◌≡◌, ◌%◌, ◌^◌, ◌*◌, ◌&&◌, ◌∙◌, ap, sym, subst, length, not, true, false, nat_eq, nat_le}
use Rattle.std.specs.Prelude.{Some}
use Rattle.hk_term.specs.Meaning.{value}
use Rattle.ir_machine.specs.Step.{stored}
use Rattle.hk_symvalue.specs.Growth.{Extends}
use Rattle.hk_symvalue.specs.Meaning.{is_true, meaning}
use Rattle.hk_symmem.specs.Guarded.{memory_at}
use Rattle.hk_symaccess.specs.Accesses.{Stores, written_up_to}
use Rattle.hk_symaccess.proofs.Kept.{memory_kept}
use Rattle.hk_symaccess.proofs.Sizes.{memory_count}
use Rattle.hk_symaccess.proofs.Storing.{store_writes, may_write}
use Rattle.hk_symaccess.proofs.Writing.{both_true, not_true}
use Rattle.hk_symaccess.proofs.stores.stored.Goals as goal

pub write_value-requires-clause-lies : goal.write_value-requires-clause-lies
write_value-requires-clause-lies g c = λ v e o.
    let first = c.args.t.now in
    let second = c.store_sticks.new.t in
    let third = c.goes_on.new.t in
    let m = c.args.memory.now in
    let there : Extends first third = search rules in
    let base : value third c.args.store.now.access.address.base v ≡ value first c.args.store.now.access.address.base v = there.values c.args.store.now.access.address.base c.requires.address.base.0 v in
    let place : value third c.args.store.now.access.address.bits v ≡ value first c.args.store.now.access.address.bits v = there.values c.args.store.now.access.address.bits c.requires.address.bits v in
    let same : memory_at third m v ≡ memory_at first m v = memory_kept first third m there c.requires.over v in
    let both = both_true (is_true second c.args.store.now.guard v) (not (is_true second c.in_ok-stuck.stuck v)) (sym (c.in_ok-go.ensures.value v) ∙ e) in
    may_write (memory_at first m v) (memory_at third m v) c.args.objects.now _ _ _ _ c.args.store.now.access.bytes same base place
    (c.in_ok-stuck.ensures.lies v (not_true _ both.1) (ap (λ n. nat_le n 1) (sym base) ∙ o))

pub returns-clause-away : goal.returns-clause-away
returns-clause-away g c = λ v e.
    let first = c.args.t.now in
    let second = c.store_sticks.new.t in
    let third = c.goes_on.new.t in
    let m = c.args.memory.now in
    let there : Extends first third = search rules in
    let guard : is_true second c.args.store.now.guard v ≡ is_true first c.args.store.now.guard v = ap (λ n. nat_eq n 1) (c.in_ok-stuck.ensures.frame.values c.args.store.now.guard c.requires.guard.0 v) in
    let go : is_true third c.in_ok-go.go v ≡ false = c.in_ok-go.ensures.value v ∙ (λ i. (guard ∙ e) i && not (is_true second c.in_ok-stuck.stuck v)) in
    let same : memory_at third m v ≡ memory_at first m v = memory_kept first third m there c.requires.over v in
    c.in_ok-write_value.ensures.value v
    ∙ (λ i. written_up_to (length c.args.layout.now.objects) (go i) (same i) (value third c.args.store.now.access.address.base v) (value third c.args.store.now.access.address.bits v) c.args.store.now.access.bytes (value third c.args.store.now.value.bits v % 2 ^ (8 * c.args.store.now.access.bytes)))

pub returns-clause-here : goal.returns-clause-here
returns-clause-here g c = λ v e.
    let first = c.args.t.now in
    let second = c.store_sticks.new.t in
    let third = c.goes_on.new.t in
    let last = c.write_value.new.t in
    let m = c.args.memory.now in
    let there : Extends first third = search rules in
    let s = is_true second c.in_ok-stuck.stuck v in
    let stuck : is_true last c.in_ok-stuck.stuck v ≡ s = search rules in
    let guard : is_true second c.args.store.now.guard v ≡ is_true first c.args.store.now.guard v = ap (λ n. nat_eq n 1) (c.in_ok-stuck.ensures.frame.values c.args.store.now.guard c.requires.guard.0 v) in
    let go : is_true third c.in_ok-go.go v ≡ (true && not s) = c.in_ok-go.ensures.value v ∙ (λ i. (guard ∙ e) i && not s) in
    let same : memory_at third m v ≡ memory_at first m v = memory_kept first third m there c.requires.over v in
    let base : value third c.args.store.now.access.address.base v ≡ value first c.args.store.now.access.address.base v = there.values c.args.store.now.access.address.base c.requires.address.base.0 v in
    let place : value third c.args.store.now.access.address.bits v ≡ value first c.args.store.now.access.address.bits v = there.values c.args.store.now.access.address.bits c.requires.address.bits v in
    let number : value third c.args.store.now.value.bits v ≡ value first c.args.store.now.value.bits v = there.values c.args.store.now.value.bits c.requires.value.bits v in
    let new = memory_at last c.write_value.new.memory v in
    let is : new ≡ written_up_to (length c.args.layout.now.objects) (true && not s) (memory_at first m v) (value first c.args.store.now.access.address.base v) (value first c.args.store.now.access.address.bits v) c.args.store.now.access.bytes (value first c.args.store.now.value.bits v % 2 ^ (8 * c.args.store.now.access.bytes)) =
    c.in_ok-write_value.ensures.value v ∙ (λ i. written_up_to (length c.args.layout.now.objects) (go i) (same i) (base i) (place i) c.args.store.now.access.bytes (number i % 2 ^ (8 * c.args.store.now.access.bytes))) in
    subst (λ t. Stores t new (memory_at first m v) c.args.store.now.access.bytes (stored (memory_at first m v) c.args.objects.now c.args.store.now.access.bytes c.args.store.now.access.align (Some (meaning first c.args.store.now.value v)) (Some (meaning first c.args.store.now.access.address v)))) (sym stuck)
    (store_writes (memory_at first m v) c.args.objects.now c.args.store.now.access.bytes c.args.store.now.access.align (value first c.args.store.now.access.address.base v) (value first c.args.store.now.access.address.bits v)
    s (is_true first c.args.store.now.access.address.poison v) (is_true first c.args.store.now.value.poison v) (value first c.args.store.now.value.base v) (value first c.args.store.now.value.bits v) (length c.args.layout.now.objects) new
    (memory_count c.args.layout.now.objects first m v c.requires.fits.origins c.requires.fits.whole) (c.in_ok-stuck.ensures.refuses v) (c.in_ok-stuck.ensures.lies v) is)
