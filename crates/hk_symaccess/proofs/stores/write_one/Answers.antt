use Rattle.std.proofs.Common.{rules, ◌≡◌, ◌+◌, ◌≤◌, ◌&&◌, ◌∙◌, ap, sym, arith, length, if◌then◌else◌, nat_eq}
use Rattle.std.proofs.lemmas.Bool.{true≢false}
use Rattle.hk_term.specs.Meaning.{value}
use Rattle.ir_layout.specs.Bytes.{object_of}
use Rattle.ir_code.specs.declared.program.Object.{Object}
use Rattle.ir_machine.specs.Step.{write_to}
use Rattle.hk_symvalue.specs.Growth.{Extends}
use Rattle.hk_symvalue.specs.Meaning.{is_true}
use Rattle.hk_symmem.specs.Guarded.{memory_at}
use Rattle.hk_symaccess.proofs.Kept.{memory_kept}
use Rattle.hk_symaccess.proofs.Writing.{both_true, no_write}
use Rattle.hk_symaccess.proofs.stores.write_one.Goals as goal

pub write_where-requires-clause-inside : goal.write_where-requires-clause-inside
write_where-requires-clause-inside g c = λ v e.
    let first = c.args.t.now in
    let mid = c.is_base.new.t in
    let next = c.and.new.t in
    let m = c.args.memory.now in
    let whole : Extends first next = search rules in
    let both = both_true (is_true mid c.args.write.now.go v) (is_true mid c.in_ok-test.test v) (sym (c.in_ok-both.ensures.value v) ∙ e) in
    let go : is_true mid c.args.write.now.go v ≡ is_true first c.args.write.now.go v = ap (λ n. nat_eq n 1) (c.in_ok-test.ensures.frame.values c.args.write.now.go c.requires.go.0 v) in
    let same : memory_at next m v ≡ memory_at first m v = memory_kept first next m whole c.requires.over v in
    let place : value next c.args.write.now.at.offset v ≡ value first c.args.write.now.at.offset v = whole.values c.args.write.now.at.offset c.requires.offset.0 v in
    let size : length (object_of (memory_at next m v) c.args.object) ≡ length (object_of (memory_at first m v) c.args.object) = ap (λ z. length (object_of z c.args.object)) same in
    let inside : value first c.args.write.now.at.offset v + c.args.write.now.at.bytes ≤ length (object_of (memory_at first m v) c.args.object) =
    c.requires.inside v (sym go ∙ both.0) (sym (c.in_ok-test.ensures.value v) ∙ both.1) in
    omega (arith, inside, place, size)

pub returns-then-object_at-clause-value : goal.returns-then-object_at-clause-value
returns-then-object_at-clause-value g c = λ v.
    let first = c.args.t.now in
    let next = c.and.new.t in
    let whole : Extends first next = search rules in
    memory_kept first next c.args.memory.now whole c.requires.over v
    ∙ no_write (is_true first c.args.write.now.go v) (nat_eq (value first c.args.write.now.at.base v) (c.args.object + 2)) _ _
    (λ p q. true≢false (sym c.if-object_at.true ∙ ap (λ (o : Object). o.constant) c.object_at.ensures ∙ c.requires.mutable v p q))

pub returns-in_ok-write_where-clause-value : goal.returns-in_ok-write_where-clause-value
returns-in_ok-write_where-clause-value g c = λ v.
    let first = c.args.t.now in
    let mid = c.is_base.new.t in
    let next = c.and.new.t in
    let m = c.args.memory.now in
    let whole : Extends first next = search rules in
    let go : is_true mid c.args.write.now.go v ≡ is_true first c.args.write.now.go v = ap (λ n. nat_eq n 1) (c.in_ok-test.ensures.frame.values c.args.write.now.go c.requires.go.0 v) in
    let both : is_true next c.in_ok-both.both v ≡ (is_true first c.args.write.now.go v && nat_eq (value first c.args.write.now.at.base v) (c.args.object + 2)) =
    c.in_ok-both.ensures.value v ∙ (λ i. go i && c.in_ok-test.ensures.value v i) in
    let same : memory_at next m v ≡ memory_at first m v = memory_kept first next m whole c.requires.over v in
    let place : value next c.args.write.now.at.offset v ≡ value first c.args.write.now.at.offset v = whole.values c.args.write.now.at.offset c.requires.offset.0 v in
    let number : value next c.args.write.now.number v ≡ value first c.args.write.now.number v = whole.values c.args.write.now.number c.requires.number.0 v in
    c.in_ok-write_where.ensures.value v ∙ (λ i. if both i then write_to (same i) c.args.write.now.at.bytes c.args.object (place i) (number i) else same i)
