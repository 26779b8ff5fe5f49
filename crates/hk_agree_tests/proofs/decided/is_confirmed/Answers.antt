use Rattle.hk_agree_tests.proofs.decided.is_confirmed.Goals as goal

pub violates-requires-clause-obligation : goal.violates-requires-clause-obligation
violates-requires-clause-obligation c = λ t found.
    let r = c.requires.refuted c.layout-layout.result.now t c.layout-layout.ensures found in
    (r.place, r.owed)

pub violates-requires-clause-case : goal.violates-requires-clause-case
violates-requires-clause-case c = λ l t laid found. (c.requires.refuted l t laid found).shape
