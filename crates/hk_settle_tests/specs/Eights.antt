-- Lists of terms in which each variable and each read has eight bits.
use Rattle.std.specs.Prelude.{true, nat_eq}
use Rattle.hk_copy.specs.Reach.{Tests}

abbrev pub eights : Tests
eights = record { variable = λ size id. nat_eq size 8; read = λ array size. nat_eq size 8; quantifier = λ bound. true }
