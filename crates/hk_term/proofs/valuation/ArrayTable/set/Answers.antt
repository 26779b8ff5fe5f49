use Rattle.std.proofs.Common.{◌≡◌, ℕ, Bool, true, false, cond, ◌&&◌, nat_eq, Option, Some, refl, ap, ◌∙◌}
use Rattle.std.specs.Prelude.{unwrap_or}
use Rattle.std.specs.Cmp.{nat_eq_equiv}
use Rattle.hk_term.specs.Tables.{entry_at}
use Rattle.hk_term.proofs.valuation.ArrayTable.set.Goals as goal

unwrap_or-cond : (b : Bool) (n : ℕ) (o : Option ℕ) → unwrap_or (cond b (Some n) o) 0 ≡ cond b n (unwrap_or o 0)
unwrap_or-cond true n o = refl
unwrap_or-cond false n o = refl

turned : (a k x i n m : ℕ) → cond (nat_eq a k && nat_eq x i) n m ≡ cond (nat_eq k a && nat_eq i x) n m
turned a k x i n m = λ j. cond (nat_eq_equiv.symm a k j && nat_eq_equiv.symm x i j) n m

pub returns-clause-ok : goal.returns-clause-ok
returns-clause-ok c = λ k i.
    ap (λ o. unwrap_or o 0) (c.in_ok-insert.ensures.updates.0 (record { array = k; index = i }))
    ∙ unwrap_or-cond (nat_eq c.args.array k && nat_eq c.args.index i) c.args.number _
    ∙ turned c.args.array k c.args.index i c.args.number _
    ∙ ap (λ es. cond (nat_eq k c.args.array && nat_eq i c.args.index) c.args.number (entry_at es k i)) c.self.view_is
