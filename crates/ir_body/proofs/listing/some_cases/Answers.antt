use Rattle.ir_part.specs.Reader.{seen}
use Rattle.ir_body.proofs.Seen.{same_read}
use Rattle.ir_body.proofs.listing.some_cases.Goals as goal

pub returns : goal.returns
returns c = same_read (λ x. x.0.items) (λ x. seen x.1.now) c.elements_at.result _ c.elements_at.ensures
