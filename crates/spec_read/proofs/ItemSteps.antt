-- The steps of readers of lines.
use Rattle.std.proofs.Common.{◌≡◌, ℕ, suc, Bool, true, false, Option, Some, None, List, [], ◌∷◌, length, refl, ap}
use Rattle.std.specs.Prelude.{if◌then◌else◌}
use Rattle.spec_lex.specs.declared.token.Token.{Token}
use Rattle.spec_ast.specs.Raw.{Tree, Item}
use Rattle.spec_expr.specs.Words.{Text}
use Rattle.spec_expr.specs.Grown.{Grown}
use Rattle.spec_expr.specs.Reading.{expr_at}
use Rattle.spec_expr.specs.Fronts.{seen, gone_on}
use Rattle.spec_expr.proofs.Steps.{past_step}
use Rattle.spec_read.specs.ItemReading.{follows, at_end, or_else, expr_end}
use Rattle.spec_read.specs.ItemParts.{ended_by}

end_by : (item : Grown Tree → Grown Item) (e : Grown Tree) (ts : List Text) → at_end (item e) ts ≡ gone_on (at_end e ts) (λ e. Some (item e))
end_by item e [] = refl
end_by item e (t ∷ ts) = refl

end_from : (item : Grown Tree → Grown Item) (o : Option (Grown Tree × List Text)) → follows o (λ e rest. at_end (item e) rest) ≡ gone_on (follows o (λ e rest. at_end e rest)) (λ e. Some (item e))
end_from item None = refl
end_from item (Some got) = end_by item got.0 got.1

pub end_step : (most n : ℕ) (item : Grown Tree → Grown Item) (ts : List Text) → expr_end most n item ts ≡ ended_by most n item ts
end_step most n item ts = end_from item (expr_at most n ts)

pub else_none : {A : Type 0} (o : Option A) → or_else o None ≡ o
else_none None = refl
else_none (Some a) = refl

pub none_either : {A : Type 0} (b : Bool) → ◌≡◌ {A = Option A} (if b then None else None) None
none_either true = refl
none_either false = refl

pub seen_length : (ts : List Token) → length (seen ts) ≡ length ts
seen_length [] = refl
seen_length (t ∷ ts) = ap (λ n. suc n) (seen_length ts)

pub ruleset line_steps = (past_step, end_step, else_none, none_either)
