use Rattle.hk_symspec.proofs.Bytes.{bits_of_power}
use Rattle.hk_symspec.proofs.unread.no_load.Goals as goal

pub constant-requires-clause-width : goal.constant-requires-clause-width
constant-requires-clause-width c = bits_of_power c.args.bytes c.requires.0 c.requires.1 c.requires.2
