use Rattle.std.proofs.Common.{inr}
use Rattle.hk_verify.proofs.Certainty.{accepts_with, means_with, rejects_with, spends_with}
use Rattle.hk_verify.proofs.certify.certify.Goals as goal

pub returns-clause-accepted : goal.returns-clause-accepted
returns-clause-accepted g c = accepts_with _ _ _ _ _ _ c.args.asked.now.cert.now _ (inr (c.args.asked.now.cert.now, c.requires.form)) c.load_and_certify.ensures

pub returns-clause-rejected : goal.returns-clause-rejected
returns-clause-rejected g c = rejects_with _ _ _ _ _ _ c.args.asked.now.cert.now _ (inr (c.args.asked.now.cert.now, c.requires.form)) c.load_and_certify.ensures

pub returns-clause-unknown : goal.returns-clause-unknown
returns-clause-unknown g c = spends_with _ _ _ _ _ _ c.args.asked.now.cert.now _ (inr (c.args.asked.now.cert.now, c.requires.form)) c.load_and_certify.ensures

pub returns-clause-certified : goal.returns-clause-certified
returns-clause-certified g c = λ kernel_name spec_name conflicts cert_name is. means_with _ _ _ _ _ _ _ _ _ _ _ _ c.requires.form is c.load_and_certify.ensures
