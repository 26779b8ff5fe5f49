use Rattle.std.proofs.Common.{subst}
use Rattle.spec_lines.specs.Behind.{begin}
use Rattle.spec_lines.specs.Laws.{Tells}
use Rattle.spec_lines.specs.Whole.{text_of}
use Rattle.hk_cert_law.proofs.Elaborated.{names_hold}
use Rattle.hk_cert_law.proofs.Tokens.{text_spelled}
use Rattle.hk_cert_law.proofs.laws.elaborated_have_names.Goals as goal

pub returns-clause-names : goal.returns-clause-names
returns-clause-names c = λ k strays raw spec none made spelled.
    let t = text_of strays k raw in
    let stand = subst (Tells t (begin k raw) raw) none (c.first_faults_are_told.ensures.told t (begin k raw) raw) in
    names_hold t k raw spec stand spelled made

pub returns-clause-spelled : goal.returns-clause-spelled
returns-clause-spelled c = text_spelled
