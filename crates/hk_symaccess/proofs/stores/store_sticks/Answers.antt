use Rattle.std.proofs.Common.{rules, ◌≡◌, ◌≤◌, ◌||◌, ◌∙◌, arith}
use Rattle.std.proofs.lemmas.Bool.{le-leb}
use Rattle.hk_term.specs.Meaning.{value}
use Rattle.hk_symvalue.specs.Meaning.{is_true}
use Rattle.hk_symmem.specs.Guarded.{memory_at}
use Rattle.hk_symaccess.specs.Accesses.{is_fixed}
use Rattle.hk_symaccess.proofs.Storing.{store_refuses, store_lies}
use Rattle.hk_symaccess.proofs.stores.store_sticks.Goals as goal

pub returns-clause-refuses : goal.returns-clause-refuses
returns-clause-refuses g c = λ v.
    let first = c.args.t.now in
    let second = c.access_sticks.new.t in
    let third = c.is_fixed.new.t in
    let last = c.or-2.new.t in
    let q = is_true second c.in_ok-nowhere.nowhere v in
    let k = is_true third c.in_ok-fixed.fixed v in
    let pv = is_true first c.args.given.poison v in
    let base : value second c.args.access.now.address.base v ≡ value first c.args.access.now.address.base v = search rules in
    let fixed : k ≡ is_fixed c.args.objects.now (value first c.args.access.now.address.base v) = c.in_ok-fixed.ensures.value v ∙ (λ i. is_fixed c.args.objects.now (base i)) in
    let whole : is_true last c.in_ok-stuck.stuck v ≡ (q || (k || pv)) = search rules in
    store_refuses (memory_at first c.args.memory.now v) c.args.objects.now c.args.access.now.bytes c.args.access.now.align (value first c.args.access.now.address.base v) (value first c.args.access.now.address.bits v)
    (is_true last c.in_ok-stuck.stuck v) q (is_true first c.args.access.now.address.poison v) k pv (value first c.args.given.base v) (value first c.args.given.bits v)
    c.requires.bytes (c.in_ok-nowhere.ensures.reaches v) fixed whole

pub returns-clause-lies : goal.returns-clause-lies
returns-clause-lies g c = λ v e o.
    let first = c.args.t.now in
    let second = c.access_sticks.new.t in
    let third = c.is_fixed.new.t in
    let last = c.or-2.new.t in
    let q = is_true second c.in_ok-nowhere.nowhere v in
    let k = is_true third c.in_ok-fixed.fixed v in
    let pv = is_true first c.args.given.poison v in
    let base : value second c.args.access.now.address.base v ≡ value first c.args.access.now.address.base v = search rules in
    let fixed : k ≡ is_fixed c.args.objects.now (value first c.args.access.now.address.base v) = c.in_ok-fixed.ensures.value v ∙ (λ i. is_fixed c.args.objects.now (base i)) in
    let whole : is_true last c.in_ok-stuck.stuck v ≡ (q || (k || pv)) = search rules in
    let some : 1 ≤ c.args.access.now.align = omega (arith, c.requires.align) in
    store_lies (memory_at first c.args.memory.now v) c.args.objects.now c.args.access.now.bytes c.args.access.now.align (value first c.args.access.now.address.base v) (value first c.args.access.now.address.bits v)
    (is_true last c.in_ok-stuck.stuck v) q (is_true first c.args.access.now.address.poison v) k pv c.requires.bytes (le-leb 1 c.args.access.now.align some) (c.in_ok-nowhere.ensures.reaches v) fixed whole e o
