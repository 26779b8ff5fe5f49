use Rattle.hk_symaccess.proofs.Sizes.{sizes_kept}
use Rattle.hk_symaccess.proofs.laws.objects_keep_their_sizes.Goals as goal

pub returns : goal.returns
returns c = λ layout nodes m a w v. sizes_kept layout nodes m v a w
