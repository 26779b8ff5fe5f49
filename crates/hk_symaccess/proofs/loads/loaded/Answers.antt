use Rattle.std.proofs.Common.{rules, ◌≡◌, ◌∙◌, sym, subst}
use Rattle.hk_term.specs.Meaning.{value}
use Rattle.ir_machine.specs.Values.{reached}
use Rattle.hk_symvalue.specs.Growth.{Extends}
use Rattle.hk_symvalue.specs.Meaning.{is_true, meaning}
use Rattle.hk_symvalue.specs.Rows.{Reaches}
use Rattle.hk_symmem.specs.Guarded.{memory_at}
use Rattle.hk_symaccess.proofs.Kept.{memory_kept}
use Rattle.hk_symaccess.proofs.Sizes.{origins_count}
use Rattle.hk_symaccess.proofs.Reaching.{load_answers, loaded_there}
use Rattle.hk_symaccess.proofs.loads.loaded.Goals as goal

pub load_number-requires-clause-count : goal.load_number-requires-clause-count
load_number-requires-clause-count g c = c.objects-count.ensures.count ∙ origins_count c.args.layout.now.objects c.args.memory.now.origins c.requires.fits.origins

pub returns-clause-answers : goal.returns-clause-answers
returns-clause-answers g c = λ v.
    let first = c.args.t.now in
    let second = c.access_sticks.new.t in
    let third = c.offset_of.new.t in
    let last = c.of_term.new.t in
    let m = c.args.memory.now in
    let b = value first c.args.access.now.address.base v in
    let x = value first c.args.access.now.address.bits v in
    let there : Extends first third = search rules in
    let stuck : is_true last c.in_ok-stuck.stuck v ≡ is_true second c.in_ok-stuck.stuck v = search rules in
    let base : value third c.args.access.now.address.base v ≡ b = there.values c.args.access.now.address.base c.requires.address.base.0 v in
    let place : value third c.in_ok-offset.offset v ≡ x = search rules in
    let same : memory_at third m v ≡ memory_at first m v = memory_kept first third m there c.requires.over v in
    let reaches : Reaches (is_true last c.in_ok-stuck.stuck v) (reached (memory_at first m v) c.args.objects.now c.args.access.now.bytes c.args.access.now.align (meaning first c.args.access.now.address v)) =
    subst (λ s. Reaches s (reached (memory_at first m v) c.args.objects.now c.args.access.now.bytes c.args.access.now.align (meaning first c.args.access.now.address v))) (sym stuck) (c.in_ok-stuck.ensures.reaches v) in
    load_answers (memory_at first m v) c.args.objects.now c.args.access.now.bytes c.args.access.now.align b x (is_true last c.in_ok-stuck.stuck v) (is_true first c.args.access.now.address.poison v) _
    (meaning last c.in_ok-value.value v) c.requires.bytes reaches
    (loaded_there (memory_at first m v) (memory_at third m v) b (value third c.args.access.now.address.base v) x (value third c.in_ok-offset.offset v) c.args.access.now.bytes _ same base place (c.in_ok-number.ensures.value v))
    (c.in_ok-value.ensures.value v)
