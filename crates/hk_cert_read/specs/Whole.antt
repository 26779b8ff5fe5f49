-- What the reader of certificates answers.
use Rattle.std.specs.Prelude.{◌≡◌, List, Result, Ok, Err}
use Rattle.hk_cert_text.specs.declared.entry.Entry.{Entry}
use Rattle.hk_cert.specs.declared.fault.CertFault.{CertFault}
use Rattle.hk_cert.specs.declared.fault.CertStop.{CertStop}
use Rattle.hk_cert.specs.declared.fault.CertStop.TheVariants.{Refused, Memory}
use Rattle.hk_cert_read.specs.declared.certificate.Certificate.{Certificate}

-- the answer is that of the definition, or want of memory
abbrev pub Reads : Result Certificate CertStop → Result (List Entry) CertFault → Type 0
Reads (Ok certificate) answer = answer ≡ Ok certificate.entries
Reads (Err (Refused f)) answer = answer ≡ Err f
Reads (Err Memory) answer = Unit {0}
