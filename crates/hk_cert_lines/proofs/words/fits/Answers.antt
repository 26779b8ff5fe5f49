use Rattle.std.proofs.Common.{arith}
use Rattle.hk_cert_lines.proofs.Fitting.{fits-wide}
use Rattle.hk_cert_lines.proofs.words.fits.Goals as goal

pub returns-then-width-ge64 : goal.returns-then-width-ge64
returns-then-width-ge64 c = fits-wide c.args.number c.args.width (omega (arith, c.ranges.number)) c.if-width-ge64.true
