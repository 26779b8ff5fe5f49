use Rattle.hk_cert_law.proofs.Handlers.{certificate_read}
use Rattle.hk_cert_law.proofs.Placed.{placed}
use Rattle.hk_cert_law.proofs.laws.certificates_are_read_as_written.Goals as goal

pub returns : goal.returns
returns c = λ m l s entries layout globals sorted names written. certificate_read m l.objects s (placed m l layout globals) sorted names entries written
