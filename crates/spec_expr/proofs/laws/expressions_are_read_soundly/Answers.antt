use Rattle.spec_expr.proofs.LevelSound.{expr_sound}
use Rattle.spec_expr.proofs.laws.expressions_are_read_soundly.Goals as goal

pub returns : goal.returns
returns c = λ most n ts g rest h. let f = expr_sound most n ts g rest h in (f.e, f.front, f.spelled, f.parts, f.grown)
