use Rattle.std.proofs.Common.{sym, ◌∙◌}
use Rattle.std.proofs.lemmas.Fmt.{decimal_injective}
use Rattle.hk_verify.proofs.words.value_of.Goals as goal

pub returns-in-Some : goal.returns-in-Some
returns-in-Some c = λ n small spelled. decimal_injective c.in-Some.number n c.in-Some.ensures.small small (sym c.in-Some.ensures.number ∙ spelled)
