use Rattle.std.proofs.Common.{◌≡◌, ◌≤◌, ◌∷◌, refl, subst, sym, ◌∙◌, ap, take, length, get_or, arith}
use Rattle.hk_cnf.specs.declared.clauses.ClauseList.TheInside.{Inside}
use Rattle.hk_cnf.specs.Clauses.{Clauses, AreWithin}
use Rattle.hk_cnf.proofs.Parts.{IsLaidOut-cut, view_of-cut, length-clauses}
use Rattle.hk_cnf.proofs.clauses.ClauseList.cut.Goals as goal
use Rattle.hk_cnf.proofs.clauses.ClauseList.cut.Goals.{After-truncate-2}

-- the fields at the end
abbrev after : After-truncate-2 → Inside
after c = record { vars = c.args.vars; lits = c.truncate.new.self; ends = c.truncate-2.new.self }

-- there are as many ends as clauses
few : (c : After-truncate-2) → c.args.clauses ≤ length c.self.inside.ends.items
few c = omega (arith, c.requires.shorter, length-clauses c.self.inside c.args.self.now c.self.view_is)

cut_at : (c : After-truncate-2) → c.start_of-end.result ≡ get_or (0 ∷ c.self.inside.ends.items) c.args.clauses 0
cut_at c = c.start_of-end.ensures ∙ ap (λ es. get_or (0 ∷ es) c.args.clauses 0) c.as_slice.ensures.value

pub start_of-end-requires : goal.start_of-end-requires
start_of-end-requires c =
    omega (arith, c.requires.shorter, length-clauses c.self.inside c.args.self.now c.self.view_is, ap length c.as_slice.ensures.value)

pub invariant_of-self : goal.invariant_of-self
invariant_of-self c =
    IsLaidOut-cut c.self.inside (after c) c.args.vars c.args.clauses c.start_of-end.result c.self.invariant
    (subst (λ v. c.args.vars ≤ v.vars) (sym c.self.view_is) c.requires.fewer)
    (subst (λ v. AreWithin c.args.vars (take c.args.clauses v.clauses)) (sym c.self.view_is) c.requires.within)
    (few c) (cut_at c) refl c.truncate.ensures.items c.truncate-2.ensures.items

pub returns : goal.returns
returns c =
    let first : Clauses → Clauses = λ v. record { vars = c.args.vars; clauses = take c.args.clauses v.clauses } in
    view_of-cut c.self.inside (after c) c.args.vars c.args.clauses c.start_of-end.result c.self.invariant (few c) (cut_at c) refl c.truncate.ensures.items c.truncate-2.ensures.items
    ∙ ap first c.self.view_is
