use Rattle.std.proofs.Common.{◌≡◌, ◌+◌, ◌≤◌, length, subst, sym}
use Rattle.std.proofs.lemmas.List.FromFn.{length-map-range_with_len}
use Rattle.hk_term.specs.Meaning.{value}
use Rattle.ir_layout.specs.Bytes.{number_at}
use Rattle.hk_symmem.specs.Origins.{object_from, cell_byte}
use Rattle.hk_symmem.specs.Sources.{origin_of}
use Rattle.hk_symmem.proofs.given.number_from.Goals as goal

pub returns-in_ok-made-in-Bytes-clause-value : goal.returns-in_ok-made-in-Bytes-clause-value
returns-in_ok-made-in-Bytes-clause-value c = λ v.
    subst (λ s. value c.args.t.now c.args.offset v + c.args.bytes ≤ length (object_from (origin_of s) (v.entry c.args.object))
    → value c.array_number.new.t c.in_ok-made-in-Bytes.made v ≡ number_at c.args.bytes (value c.args.t.now c.args.offset v) (object_from (origin_of s) (v.entry c.args.object)))
    (sym c.in-Bytes.is)
    (λ there. c.in_ok-made-in-Bytes.ensures.value v (subst (λ n. value c.args.t.now c.args.offset v + c.args.bytes ≤ n) (length-map-range_with_len (cell_byte 1 (v.entry c.args.object)) 0 _) there))
