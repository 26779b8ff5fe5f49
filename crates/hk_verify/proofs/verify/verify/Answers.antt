use Rattle.std.proofs.Common.{inl}
use Rattle.hk_verify.proofs.Certainty.{accepts, means_for, rejects, spends}
use Rattle.hk_verify.proofs.verify.verify.Goals as goal

pub returns-clause-accepted : goal.returns-clause-accepted
returns-clause-accepted g c = accepts _ _ _ _ _ _ _ (inl c.requires.form) c.load_and_report.ensures.meaning

pub returns-clause-rejected : goal.returns-clause-rejected
returns-clause-rejected g c = rejects _ _ _ _ _ _ _ (inl c.requires.form) c.load_and_report.ensures.meaning

pub returns-clause-unknown : goal.returns-clause-unknown
returns-clause-unknown g c = spends _ _ _ _ _ _ _ (inl c.requires.form) c.load_and_report.ensures.meaning

pub returns-clause-meaning : goal.returns-clause-meaning
returns-clause-meaning g c = λ kernel_name spec_name conflicts is. means_for _ _ _ _ _ _ _ _ _ _ c.requires.form is c.load_and_report.ensures.meaning
