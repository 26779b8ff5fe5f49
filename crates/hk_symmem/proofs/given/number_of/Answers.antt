use Rattle.std.proofs.Common.{◌≡◌, ◌+◌, ◌≤◌, length, subst, sym}
use Rattle.hk_term.specs.Meaning.{value}
use Rattle.ir_layout.specs.Bytes.{number_at}
use Rattle.hk_symmem.proofs.SourceLaws.{object_seen}
use Rattle.hk_symmem.proofs.given.number_of.Goals as goal

pub returns-clause-value : goal.returns-clause-value
returns-clause-value c = λ v.
    subst (λ b. value c.args.t.now c.args.offset v + c.args.bytes ≤ length b → value c.number_from.new.t c.in_ok-made.made v ≡ number_at c.args.bytes (value c.args.t.now c.args.offset v) b)
    (sym (object_seen c.args.sources.now v.entry c.args.object c.source_at-source.result.now c.source_at-source.ensures)) (c.in_ok-made.ensures.value v)
