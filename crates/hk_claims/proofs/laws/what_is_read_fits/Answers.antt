use Rattle.hk_claims.proofs.Fits.{read_fits, read_within, read_small}
use Rattle.hk_claims.proofs.laws.what_is_read_fits.Goals as goal

pub returns : goal.returns
returns c = record {
  fit = λ m l s text entries laid below read. read_fits m l s text entries laid below read;
  within = λ m objects s text entries read. read_within m objects s text entries read;
  small = λ m objects s text entries read. read_small m objects s text entries read;
}
