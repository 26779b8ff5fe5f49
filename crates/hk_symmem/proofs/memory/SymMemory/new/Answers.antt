use Rattle.std.proofs.Common.{length, ap, ◌∙◌}
use Rattle.hk_symmem.specs.Guarded.{written}
use Rattle.hk_symmem.specs.Origins.{start_memory}
use Rattle.hk_symmem.proofs.RowLaws.{are_rows, none_written}
use Rattle.hk_symmem.proofs.memory.SymMemory.new.Goals as goal

pub invariant_of-result : goal.invariant_of-result
invariant_of-result g c = are_rows c.args.layout.now.objects _ c.in_ok-rows.rows.items c.requires c.in_ok-rows.ensures.sizes c.in_ok-rows.ensures.writes

pub returns-clause-value : goal.returns-clause-value
returns-clause-value g c = λ nodes v.
    ap (λ rows. written nodes v rows (start_memory (g.R.InitialReads.origins c.args.reads) v.entry)) c.in_ok-rows.ensures.writes
    ∙ none_written nodes v (length c.args.layout.now.objects) (start_memory (g.R.InitialReads.origins c.args.reads) v.entry)
