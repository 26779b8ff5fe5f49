use Rattle.std.proofs.Common.{◌≡◌, ◌++◌, ◌∷◌, [], ◌+◌, length, refl, subst, arith, ap, sym, ◌∙◌}
use Rattle.std.proofs.lemmas.Grind.{common_steps}
use Rattle.std.specs.List.{All}
use Rattle.hk_cnf.specs.declared.clauses.ClauseList.TheInside.{Inside}
use Rattle.hk_cnf.specs.Literal.{IsWithin}
use Rattle.hk_cnf.specs.Clauses.{Clauses}
use Rattle.hk_cnf.proofs.Parts.{IsLaidOut-push, view_of-push}
use Rattle.hk_cnf.proofs.clauses.ClauseList.push.Goals as goal
use Rattle.hk_cnf.proofs.clauses.ClauseList.push.Goals.{In_ok-push}

-- the fields at the end
abbrev after : In_ok-push → Inside
after c = record { vars = c.self.inside.vars; lits = c.extend_from_slice.new.self; ends = c.push.new.self }

lits_are : (c : In_ok-push) → (after c).lits.items ≡ c.self.inside.lits.items ++ c.args.clause.now
lits_are c = c.in_ok-extend_from_slice.ensures.items

ends_are : (c : In_ok-push) → (after c).ends.items ≡ c.self.inside.ends.items ++ c.len.result ∷ []
ends_are c = c.in_ok-push.ensures.items ∙ ap (λ es. es ++ c.len.result ∷ []) c.in_ok-reserve.ensures.items

end_is : (c : In_ok-push) → c.len.result ≡ length c.self.inside.lits.items + length c.args.clause.now
end_is c = grind (arith, common_steps, lits_are c)

pub invariant_of-self-2 : goal.invariant_of-self-2
invariant_of-self-2 c =
    let within : All (IsWithin c.self.inside.vars) c.args.clause.now = subst (λ v. All (IsWithin v.vars) c.args.clause.now) (sym c.self.view_is) c.requires in
    IsLaidOut-push c.self.inside (after c) c.args.clause.now c.len.result c.self.invariant within refl (lits_are c) (ends_are c) (end_is c)

pub returns-clause-ok : goal.returns-clause-ok
returns-clause-ok c =
    let more : Clauses → Clauses = λ v. record { vars = v.vars; clauses = v.clauses ++ c.args.clause.now ∷ [] } in
    view_of-push c.self.inside (after c) c.args.clause.now c.len.result c.self.invariant refl (lits_are c) (ends_are c) (end_is c)
    ∙ ap more c.self.view_is
