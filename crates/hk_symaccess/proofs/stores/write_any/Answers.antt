use Rattle.std.proofs.Common.{rules, ◌≡◌, ◌+◌, ◌-◌, ◌&&◌, ◌∙◌, ap, sym, subst, arith, length, if◌then◌else◌, nat_eq}
use Rattle.std.proofs.lemmas.Bool.{eqb-true, lt-leb}
use Rattle.hk_term.specs.Meaning.{value}
use Rattle.ir_layout.specs.Bytes.{object_of}
use Rattle.ir_machine.specs.Values.{object_at}
use Rattle.ir_machine.specs.Step.{write_to}
use Rattle.hk_symvalue.specs.Meaning.{is_true}
use Rattle.hk_symmem.specs.Origins.{AreOriginsOf}
use Rattle.hk_symmem.specs.Guarded.{memory_at}
use Rattle.hk_symaccess.specs.Accesses.{MayWrite}
use Rattle.hk_symaccess.proofs.Writing.{not_yet, one_written}
use Rattle.hk_symaccess.proofs.stores.write_any.Goals as goal

pub write_one-requires-clause-fits : goal.write_one-requires-clause-fits
write_one-requires-clause-fits g c = record {
  origins = subst (AreOriginsOf c.args.layout.now.objects) (sym c.loop-object.invariant.origins) c.requires.fits.origins;
  whole = c.requires.fits.whole;
  program = c.requires.fits.program;
}

pub write_one-requires-clause-inside : goal.write_one-requires-clause-inside
write_one-requires-clause-inside g c = λ v e f.
    let first = c.args.t.now in
    let turn = c.loop-object.t in
    let object = c.loop-object.object in
    let grown = c.loop-object.invariant.frame in
    let old = memory_at first c.args.memory.now v in
    let b = value first c.args.write.now.at.base v in
    let base : value turn c.args.write.now.at.base v ≡ b = grown.values c.args.write.now.at.base c.requires.base.0 v in
    let place : value turn c.args.write.now.at.offset v ≡ value first c.args.write.now.at.offset v = grown.values c.args.write.now.at.offset c.requires.offset.0 v in
    let go : is_true turn c.args.write.now.go v ≡ is_true first c.args.write.now.go v = ap (λ n. nat_eq n 1) (grown.values c.args.write.now.go c.requires.go.0 v) in
    let is : b ≡ object + 2 = sym base ∙ eqb-true _ _ f in
    let at : object ≡ b - 2 = omega (arith, is) in
    let may : MayWrite old c.args.objects.now b (value first c.args.write.now.at.offset v) c.args.write.now.at.bytes = c.requires.lies v (sym go ∙ e) (lt-leb b 1 (omega (arith, is))) in
    let same : memory_at turn c.loop-object.memory v ≡ old = c.loop-object.invariant.is v ∙ not_yet old b (value first c.args.write.now.at.offset v) c.args.write.now.at.bytes (value first c.args.write.now.number v) object (is_true first c.args.write.now.go v) is in
    let size : length (object_of (memory_at turn c.loop-object.memory v) object) ≡ length (object_of old (b - 2)) = λ i. length (object_of (same i) (at i)) in
    omega (arith, may.lies.inside, place, size)

pub write_one-requires-clause-mutable : goal.write_one-requires-clause-mutable
write_one-requires-clause-mutable g c = λ v e f.
    let first = c.args.t.now in
    let turn = c.loop-object.t in
    let object = c.loop-object.object in
    let grown = c.loop-object.invariant.frame in
    let old = memory_at first c.args.memory.now v in
    let b = value first c.args.write.now.at.base v in
    let base : value turn c.args.write.now.at.base v ≡ b = grown.values c.args.write.now.at.base c.requires.base.0 v in
    let go : is_true turn c.args.write.now.go v ≡ is_true first c.args.write.now.go v = ap (λ n. nat_eq n 1) (grown.values c.args.write.now.go c.requires.go.0 v) in
    let is : b ≡ object + 2 = sym base ∙ eqb-true _ _ f in
    let at : object ≡ b - 2 = omega (arith, is) in
    let may : MayWrite old c.args.objects.now b (value first c.args.write.now.at.offset v) c.args.write.now.at.bytes = c.requires.lies v (sym go ∙ e) (lt-leb b 1 (omega (arith, is))) in
    (λ i. (object_at c.args.objects.now (at i)).constant) ∙ may.free

pub loop-object-preserved : goal.loop-object-preserved
loop-object-preserved g c =
    let first = c.args.t.now in
    let turn = c.loop-object.t in
    let object = c.loop-object.object in
    let grown = c.loop-object.invariant.frame in
    let now = c.loop-object.memory in
    record {
      frame = search rules;
      origins = c.in_ok-write_one.ensures.origins ∙ c.loop-object.invariant.origins;
      over = c.in_ok-write_one.ensures.over;
      is = λ v.
          let base : value turn c.args.write.now.at.base v ≡ value first c.args.write.now.at.base v = grown.values c.args.write.now.at.base c.requires.base.0 v in
          let place : value turn c.args.write.now.at.offset v ≡ value first c.args.write.now.at.offset v = grown.values c.args.write.now.at.offset c.requires.offset.0 v in
          let number : value turn c.args.write.now.number v ≡ value first c.args.write.now.number v = grown.values c.args.write.now.number c.requires.number.0 v in
          let go : is_true turn c.args.write.now.go v ≡ is_true first c.args.write.now.go v = ap (λ n. nat_eq n 1) (grown.values c.args.write.now.go c.requires.go.0 v) in
          c.in_ok-write_one.ensures.value v
          ∙ (λ i. if go i && nat_eq (base i) (object + 2) then write_to (memory_at turn now v) c.args.write.now.at.bytes object (place i) (number i) else memory_at turn now v)
          ∙ one_written (memory_at first c.args.memory.now v) (value first c.args.write.now.at.base v) (value first c.args.write.now.at.offset v) c.args.write.now.at.bytes (value first c.args.write.now.number v) object (is_true first c.args.write.now.go v)
          (memory_at turn now v) (c.loop-object.invariant.is v);
    }
