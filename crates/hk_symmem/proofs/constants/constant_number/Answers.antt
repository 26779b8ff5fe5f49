use Rattle.hk_term.specs.Meaning.{value}
use Rattle.ir_layout.specs.Bytes.{object_of}
use Rattle.hk_symmem.proofs.StateLaws.{some_bytes}
use Rattle.hk_symmem.proofs.Picks.{whole_offset}
use Rattle.hk_symmem.proofs.constants.constant_number.Goals as goal

pub returns-clause-value : goal.returns-clause-value
returns-clause-value c = λ v.
    whole_offset (value c.args.t.now c.args.offset v) c.level_of-level.result c.args.bytes _ c.constant_len.result (object_of c.args.m.now 0) (some_bytes c.args.bytes c.requires.bytes)
    c.constant_len.ensures.len c.level_of-level.ensures.enough (c.in_ok-made.ensures.value v)
