use Rattle.std.proofs.Common.{◌≡◌, ◌+◌, ◌-◌, ◌∙◌, arith, length}
use Rattle.std.proofs.lemmas.Bool.{eqb-true, lt-leb}
use Rattle.hk_term.specs.Meaning.{value}
use Rattle.ir_layout.specs.Bytes.{object_of}
use Rattle.ir_machine.specs.Values.{object_at}
use Rattle.hk_symvalue.specs.Meaning.{is_true}
use Rattle.hk_symmem.specs.Guarded.{memory_at}
use Rattle.hk_symaccess.specs.Accesses.{MayWrite}
use Rattle.hk_symaccess.proofs.Writing.{known_written, none_written}
use Rattle.hk_symaccess.proofs.stores.write_known.Goals as goal

pub write_one-requires-clause-inside : goal.write_one-requires-clause-inside
write_one-requires-clause-inside g c = λ v e f.
    let first = c.args.t.now in
    let object = c.in-Some.object in
    let old = memory_at first c.args.memory.now v in
    let b = value first c.args.write.now.at.base v in
    let is : b ≡ object + 2 = eqb-true _ _ f in
    let at : object ≡ b - 2 = omega (arith, is) in
    let may : MayWrite old c.args.objects.now b (value first c.args.write.now.at.offset v) c.args.write.now.at.bytes = c.requires.lies v e (lt-leb b 1 (omega (arith, is))) in
    let size : length (object_of old object) ≡ length (object_of old (b - 2)) = λ i. length (object_of old (at i)) in
    omega (arith, may.lies.inside, size)

pub write_one-requires-clause-mutable : goal.write_one-requires-clause-mutable
write_one-requires-clause-mutable g c = λ v e f.
    let first = c.args.t.now in
    let object = c.in-Some.object in
    let old = memory_at first c.args.memory.now v in
    let b = value first c.args.write.now.at.base v in
    let is : b ≡ object + 2 = eqb-true _ _ f in
    let at : object ≡ b - 2 = omega (arith, is) in
    let may : MayWrite old c.args.objects.now b (value first c.args.write.now.at.offset v) c.args.write.now.at.bytes = c.requires.lies v e (lt-leb b 1 (omega (arith, is))) in
    (λ i. (object_at c.args.objects.now (at i)).constant) ∙ may.free

pub returns-in_ok-write_one-in-Some-clause-value : goal.returns-in_ok-write_one-in-Some-clause-value
returns-in_ok-write_one-in-Some-clause-value g c = λ v.
    let first = c.args.t.now in
    c.in_ok-write_one-in-Some.ensures.value v
    ∙ known_written (memory_at first c.args.memory.now v) (value first c.args.write.now.at.base v) (value first c.args.write.now.at.offset v) c.args.write.now.at.bytes (value first c.args.write.now.number v) c.in-Some.object (is_true first c.args.write.now.go v)
    (length c.args.layout.now.objects) (c.requires.known v ∙ c.in-Some.ensures.some.0) (omega (arith, c.in-Some.ensures.some.1, c.objects.ensures.count))

pub returns-in-None-clause-value : goal.returns-in-None-clause-value
returns-in-None-clause-value g c = λ v.
    let first = c.args.t.now in
    none_written (memory_at first c.args.memory.now v) (value first c.args.write.now.at.base v) (value first c.args.write.now.at.offset v) c.args.write.now.at.bytes (value first c.args.write.now.number v) 0 (is_true first c.args.write.now.go v)
    (length c.args.layout.now.objects) (λ p q. c.in-None.ensures.none (omega (arith, p, c.requires.known v)) (omega (arith, q, c.requires.known v, c.objects.ensures.count)))
