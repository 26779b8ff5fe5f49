use Rattle.std.proofs.Common.{sym}
use Rattle.hk_unroll.proofs.RegisterLaws.{found_setting}
use Rattle.hk_unroll.proofs.registers.setting_of.Goals as goal

pub returns-in-Some : goal.returns-in-Some
returns-in-Some c = found_setting c.args.registers.now c.args.name.now c.in-Some.place c.at.result.now (sym c.in-Some.ensures.place) c.at.ensures
