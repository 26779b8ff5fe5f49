use Rattle.std.proofs.Common.{◌≡◌, ◌+◌, ◌-◌, ◌++◌, ◌∷◌, [], true, not, length, List, ℤ, refl, ◌∙◌, ap, arith}
use Rattle.std.proofs.lemmas.Bool.{cond-true}
use Rattle.std.proofs.lemmas.Grind.{common_steps}
use Rattle.hk_lrat.specs.declared.table.Entry.{Entry}
use Rattle.hk_lrat.specs.Entries.{live_of}
use Rattle.hk_lrat.specs.Log.{Live}
use Rattle.hk_lrat.specs.Room.{Checked, with_clause}
use Rattle.hk_lrat.proofs.Look.{live_of-push}
use Rattle.hk_lrat.proofs.checker.Checker.push.Goals as goal

pub returns : goal.returns
returns c =
    let lits : List ℤ = c.self.inside.lits.items in
    let table : List Entry = c.self.inside.table.items in
    let entry : Entry = record { id = c.args.id; start = c.len-start.result; end = c.len.result; live = true } in
    let l : c.extend_from_slice.new.self.items ≡ lits ++ c.args.clause.now =
    c.extend_from_slice.ensures.items ∙ cond-true _ _ _ (c.is_err.ensures.negation ∙ ap not c.if-is_err.false) in
    let t : c.push.new.self.items ≡ table ++ entry ∷ [] =
    c.push.ensures.items ∙ cond-true _ _ _ (c.is_err-2.ensures.negation ∙ ap not c.if-is_err-2.false) in
    let start : c.len-start.result ≡ length lits = grind (arith, common_steps) in
    let end : c.len.result ≡ length lits + length c.args.clause.now = grind (arith, common_steps, l) in
    let live : live_of c.extend_from_slice.new.self.items c.push.new.self.items ≡ live_of lits table ++ (c.args.id, c.args.clause.now) ∷ [] =
    ap (λ ls. live_of ls c.push.new.self.items) l ∙ (ap (live_of (lits ++ c.args.clause.now)) t ∙ live_of-push lits c.args.clause.now table entry c.self.invariant.entries refl start end) in
    let f : Live → Checked = λ x. record { state = record { vars = c.self.inside.vars; last = c.args.id; live = x }; clauses_left = c.self.inside.clauses_left - 1; literals_left = c.self.inside.literals_left - length c.args.clause.now } in
    ap f live ∙ ap (λ s. with_clause s c.args.id c.args.clause.now) c.self.view_is
