use Rattle.std.proofs.Common.{sym, ◌∙◌}
use Rattle.hk_oblig.proofs.asked.ask.Goals as goal

pub returns-clause-violates : goal.returns-clause-violates
returns-clause-violates c = λ m s u x v told.
    let same = c.in_ok-question.ensures.goal v in
    let h = c.in_ok-goal.ensures.violates m s u x v told in
    ((λ e. h.0 (sym same ∙ e)), (λ d. same ∙ h.1 d))
