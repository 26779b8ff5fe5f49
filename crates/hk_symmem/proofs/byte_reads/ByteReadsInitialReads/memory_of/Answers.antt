use Rattle.std.proofs.Common.{length, ap, sym, ◌∙◌}
use Rattle.hk_symmem.specs.Sources.{origin_of}
use Rattle.hk_symmem.proofs.RowLaws.{map_count}
use Rattle.hk_symmem.proofs.SourceLaws.{origins_count}
use Rattle.hk_symmem.proofs.StateLaws.{state_is_given}
use Rattle.hk_symmem.proofs.byte_reads.ByteReadsInitialReads.memory_of.Goals as goal

pub memory_by-requires : goal.memory_by-requires
memory_by-requires c =
    c.objects.ensures.count ∙ origins_count c.args.layout.now.objects c.args.self.now c.requires
    ∙ ap length (sym c.self.view_is) ∙ map_count origin_of c.self.inside.sources.items ∙ ap length (sym c.deref.ensures.value)

pub returns-in_err-memory-clause-any : goal.returns-in_err-memory-clause-any
returns-in_err-memory-clause-any c = λ m s. state_is_given _ _ m c.requires s

pub returns-clause-any : goal.returns-clause-any
returns-clause-any c = λ m s. state_is_given _ _ m c.requires s
