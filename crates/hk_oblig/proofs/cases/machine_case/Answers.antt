use Rattle.std.proofs.Common.{length, sym, ap, ◌∙◌}
use Rattle.hk_term.specs.Meaning.{reading_of}
use Rattle.hk_oblig.proofs.CaseLaws.{many_objects}
use Rattle.hk_oblig.proofs.cases.machine_case.Goals as goal

pub holds_bytes-requires : goal.holds_bytes-requires
holds_bytes-requires g c =
    c.objects.ensures.count
    ∙ many_objects c.args.layout.now.objects _ 0 (reading_of c.args.v.now).entry c.requires
    ∙ ap length (sym c.in_ok-memory.ensures.memory)
