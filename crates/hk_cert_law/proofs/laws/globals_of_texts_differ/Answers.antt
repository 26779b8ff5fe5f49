use Rattle.hk_cert_law.proofs.Symbols.{globals_differ}
use Rattle.hk_cert_law.proofs.laws.globals_of_texts_differ.Goals as goal

pub returns : goal.returns
returns c = globals_differ
