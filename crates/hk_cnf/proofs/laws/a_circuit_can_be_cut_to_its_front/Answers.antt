use Rattle.hk_cnf.proofs.FrontLaws.{IsFront-grown, IsFront-refl, IsFront-trans, can-cut-at}
use Rattle.hk_cnf.proofs.laws.a_circuit_can_be_cut_to_its_front.Goals as goal

pub returns : goal.returns
returns c = record { grown = IsFront-grown; same = IsFront-refl; joins = IsFront-trans; cut = can-cut-at }
