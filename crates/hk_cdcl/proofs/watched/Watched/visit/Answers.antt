use Rattle.std.proofs.Common.{◌≡◌, ◌⊎◌, ◌<◌, true, length, neg_ℤ, sym, ◌∙◌, ap, subst}
use Rattle.std.specs.List.{All}
use Rattle.hk_cnf.specs.Literal.{IsWithin, has}
use Rattle.hk_cdcl.specs.Records.{lit_of}
use Rattle.hk_cdcl.specs.Watches.{clause_in}
use Rattle.hk_cdcl.specs.Watching.{clause_no}
use Rattle.hk_cdcl.proofs.Extending.{extends-refl}
use Rattle.hk_cdcl.proofs.Moving.{visited-settled, fewer-settled}
use Rattle.hk_cdcl.proofs.Looks.{Look, look-names, look-start, look-inside, look-within, look-stays, look-member, look-others}
use Rattle.hk_cdcl.proofs.watched.Watched.visit.Goals as goal

pub holds_code-requires : goal.holds_code-requires
holds_code-requires c =
    let h : Look c.args.clauses.now.clauses c.args.clauses.now.vars c.args.self.now c.args.trail.now c.args.head c.args.code c.args.place c.watch-slot.result = record { turning = c.requires.turning; listed = c.requires.place; is = c.watch-slot.ensures; equal = c.requires.vars; within = c.len-within.ensures.within; pairs = sym c.clauses-count.ensures.pairs ∙ c.clauses-count.ensures.starts; texts = sym c.clauses-count.ensures.texts ∙ c.clauses-count.ensures.starts } in
    look-within c.args.clauses.now.clauses c.args.clauses.now.vars c.args.self.now c.args.trail.now c.args.head c.args.code c.args.place c.watch-slot.result h

pub returns-then-holds_code-clause-extends : goal.returns-then-holds_code-clause-extends
returns-then-holds_code-clause-extends c =
    extends-refl c.args.clauses.now.clauses c.args.trail.now

pub returns-then-holds_code-clause-visited : goal.returns-then-holds_code-clause-visited
returns-then-holds_code-clause-visited c =
    let h : Look c.args.clauses.now.clauses c.args.clauses.now.vars c.args.self.now c.args.trail.now c.args.head c.args.code c.args.place c.watch-slot.result = record { turning = c.requires.turning; listed = c.requires.place; is = c.watch-slot.ensures; equal = c.requires.vars; within = c.len-within.ensures.within; pairs = sym c.clauses-count.ensures.pairs ∙ c.clauses-count.ensures.starts; texts = sym c.clauses-count.ensures.texts ∙ c.clauses-count.ensures.starts } in
    look-stays c.args.clauses.now.clauses c.args.clauses.now.vars c.args.self.now c.args.trail.now c.args.head c.args.code c.args.place c.watch-slot.result h (sym c.holds_code.ensures ∙ c.if-holds_code.true)

pub clause-clause-requires : goal.clause-clause-requires
clause-clause-requires c =
    let h : Look c.args.clauses.now.clauses c.args.clauses.now.vars c.args.self.now c.args.trail.now c.args.head c.args.code c.args.place c.watch-slot.result = record { turning = c.requires.turning; listed = c.requires.place; is = c.watch-slot.ensures; equal = c.requires.vars; within = c.len-within.ensures.within; pairs = sym c.clauses-count.ensures.pairs ∙ c.clauses-count.ensures.starts; texts = sym c.clauses-count.ensures.texts ∙ c.clauses-count.ensures.starts } in
    look-start c.args.clauses.now.clauses c.args.clauses.now.vars c.args.self.now c.args.trail.now c.args.head c.args.code c.args.place c.watch-slot.result h

pub settle-requires-clause-inside : goal.settle-requires-clause-inside
settle-requires-clause-inside c =
    let h : Look c.args.clauses.now.clauses c.args.clauses.now.vars c.args.self.now c.args.trail.now c.args.head c.args.code c.args.place c.watch-slot.result = record { turning = c.requires.turning; listed = c.requires.place; is = c.watch-slot.ensures; equal = c.requires.vars; within = c.len-within.ensures.within; pairs = sym c.clauses-count.ensures.pairs ∙ c.clauses-count.ensures.starts; texts = sym c.clauses-count.ensures.texts ∙ c.clauses-count.ensures.starts } in
    subst (λ k. k < length c.args.clauses.now.clauses) (sym c.clause-clause.ensures) (look-inside c.args.clauses.now.clauses c.args.clauses.now.vars c.args.self.now c.args.trail.now c.args.head c.args.code c.args.place c.watch-slot.result h)

pub settle-requires-clause-within : goal.settle-requires-clause-within
settle-requires-clause-within c =
    let h : Look c.args.clauses.now.clauses c.args.clauses.now.vars c.args.self.now c.args.trail.now c.args.head c.args.code c.args.place c.watch-slot.result = record { turning = c.requires.turning; listed = c.requires.place; is = c.watch-slot.ensures; equal = c.requires.vars; within = c.len-within.ensures.within; pairs = sym c.clauses-count.ensures.pairs ∙ c.clauses-count.ensures.starts; texts = sym c.clauses-count.ensures.texts ∙ c.clauses-count.ensures.starts } in
    subst (IsWithin c.args.trail.now.vars) (sym c.literal.ensures) (look-within c.args.clauses.now.clauses c.args.clauses.now.vars c.args.self.now c.args.trail.now c.args.head c.args.code c.args.place c.watch-slot.result h)

pub settle-requires-clause-member : goal.settle-requires-clause-member
settle-requires-clause-member c =
    let h : Look c.args.clauses.now.clauses c.args.clauses.now.vars c.args.self.now c.args.trail.now c.args.head c.args.code c.args.place c.watch-slot.result = record { turning = c.requires.turning; listed = c.requires.place; is = c.watch-slot.ensures; equal = c.requires.vars; within = c.len-within.ensures.within; pairs = sym c.clauses-count.ensures.pairs ∙ c.clauses-count.ensures.starts; texts = sym c.clauses-count.ensures.texts ∙ c.clauses-count.ensures.starts } in
    ap (λ k. has (clause_no c.args.clauses.now.clauses k) c.literal.result) c.clause-clause.ensures ∙ (ap (has (clause_no c.args.clauses.now.clauses (clause_in c.args.self.now.watches.starts c.watch-slot.result.target))) c.literal.ensures ∙ look-member c.args.clauses.now.clauses c.args.clauses.now.vars c.args.self.now c.args.trail.now c.args.head c.args.code c.args.place c.watch-slot.result h)

pub settle-requires-clause-others : goal.settle-requires-clause-others
settle-requires-clause-others c =
    let h : Look c.args.clauses.now.clauses c.args.clauses.now.vars c.args.self.now c.args.trail.now c.args.head c.args.code c.args.place c.watch-slot.result = record { turning = c.requires.turning; listed = c.requires.place; is = c.watch-slot.ensures; equal = c.requires.vars; within = c.len-within.ensures.within; pairs = sym c.clauses-count.ensures.pairs ∙ c.clauses-count.ensures.starts; texts = sym c.clauses-count.ensures.texts ∙ c.clauses-count.ensures.starts } in
    subst (λ l. All (λ x. (l ≡ x) ⊎ (has c.args.trail.now.lits (neg_ℤ x) ≡ true)) (clause_no c.args.clauses.now.clauses c.clause-clause.result)) (sym c.literal.ensures)
    (subst (λ k. All (λ x. (lit_of c.watch-slot.result.blocker ≡ x) ⊎ (has c.args.trail.now.lits (neg_ℤ x) ≡ true)) (clause_no c.args.clauses.now.clauses k)) (sym c.clause-clause.ensures) (look-others c.args.clauses.now.clauses c.args.clauses.now.vars c.args.self.now c.args.trail.now c.args.head c.args.code c.args.place c.watch-slot.result h (sym c.is_binary.ensures ∙ c.if-is_binary.true)))

pub returns-then-is_binary-clause-visited : goal.returns-then-is_binary-clause-visited
returns-then-is_binary-clause-visited c =
    let h : Look c.args.clauses.now.clauses c.args.clauses.now.vars c.args.self.now c.args.trail.now c.args.head c.args.code c.args.place c.watch-slot.result = record { turning = c.requires.turning; listed = c.requires.place; is = c.watch-slot.ensures; equal = c.requires.vars; within = c.len-within.ensures.within; pairs = sym c.clauses-count.ensures.pairs ∙ c.clauses-count.ensures.starts; texts = sym c.clauses-count.ensures.texts ∙ c.clauses-count.ensures.starts } in
    visited-settled c.args.clauses.now.clauses c.args.self.now c.args.trail.now c.settle.new.trail c.args.head (lit_of c.args.code) c.args.place c.clause-clause.result c.settle.result c.requires.turning c.settle.ensures.extends (look-names c.args.clauses.now.clauses c.args.clauses.now.vars c.args.self.now c.args.trail.now c.args.head c.args.code c.args.place c.watch-slot.result h ∙ sym c.clause-clause.ensures) c.settle.ensures.settled

pub returns-then-is_binary-clause-fewer : goal.returns-then-is_binary-clause-fewer
returns-then-is_binary-clause-fewer c =
    fewer-settled c.args.clauses.now.clauses c.args.self.now.watches.lists c.settle.new.trail.lits (lit_of c.args.code) c.clause-clause.result c.settle.result c.settle.ensures.settled

pub visit_clause-requires-clause-long : goal.visit_clause-requires-clause-long
visit_clause-requires-clause-long c =
    sym c.is_binary.ensures ∙ c.if-is_binary.false
