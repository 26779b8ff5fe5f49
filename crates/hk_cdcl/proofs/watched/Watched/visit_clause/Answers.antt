use Rattle.std.proofs.Common.{◌≡◌, ◌⊎◌, ◌<◌, true, length, neg_ℤ, sym, ◌∙◌, ap, subst}
use Rattle.std.specs.List.{All}
use Rattle.hk_cnf.specs.Literal.{IsWithin, has}
use Rattle.hk_cdcl.specs.Looking.{IsOther}
use Rattle.hk_cdcl.specs.Records.{lit_of, text_at}
use Rattle.hk_cdcl.specs.Watches.{Plain, clause_in, plain_of}
use Rattle.hk_cdcl.specs.Watching.{clause_no}
use Rattle.hk_cdcl.proofs.Extending.{extends-refl}
use Rattle.hk_cdcl.proofs.Moving.{visited-settled, fewer-settled}
use Rattle.hk_cdcl.proofs.Blocking.{Blocked, turning-blocked, clause-blocked, stays-blocked, length-blocked, fewer-blocked}
use Rattle.hk_cdcl.proofs.Looks.{Look, look-start, look-inside, look-text, look-lits, other-member, other-in, look-blocked, blocked-inside, look-moves}
use Rattle.hk_cdcl.proofs.watched.Watched.visit_clause.Goals as goal

pub other-requires-clause-inside : goal.other-requires-clause-inside
other-requires-clause-inside c =
    let h : Look c.args.clauses.now.clauses c.args.clauses.now.vars c.args.self.now c.args.trail.now c.args.head c.args.code c.args.place c.args.slot = record { turning = c.requires.turning; listed = c.requires.place; is = c.requires.slot; equal = c.requires.vars; within = c.len-within.ensures.within; pairs = sym c.clauses-count.ensures.pairs ∙ c.clauses-count.ensures.starts; texts = sym c.clauses-count.ensures.texts ∙ c.clauses-count.ensures.starts } in
    look-start c.args.clauses.now.clauses c.args.clauses.now.vars c.args.self.now c.args.trail.now c.args.head c.args.code c.args.place c.args.slot h

pub returns-in_default-clause-extends : goal.returns-in_default-clause-extends
returns-in_default-clause-extends c =
    extends-refl c.args.clauses.now.clauses c.args.trail.now

pub holds_code-requires : goal.holds_code-requires
holds_code-requires c =
    let h : Look c.args.clauses.now.clauses c.args.clauses.now.vars c.args.self.now c.args.trail.now c.args.head c.args.code c.args.place c.args.slot = record { turning = c.requires.turning; listed = c.requires.place; is = c.requires.slot; equal = c.requires.vars; within = c.len-within.ensures.within; pairs = sym c.clauses-count.ensures.pairs ∙ c.clauses-count.ensures.starts; texts = sym c.clauses-count.ensures.texts ∙ c.clauses-count.ensures.starts } in
    other-in c.args.clauses.now.clauses c.args.clauses.now.vars c.args.self.now c.args.trail.now c.args.head c.args.code c.args.place c.args.slot c.in-Some.other h c.in-Some.ensures

pub returns-then-holds_code-clause-extends : goal.returns-then-holds_code-clause-extends
returns-then-holds_code-clause-extends c =
    extends-refl c.args.clauses.now.clauses c.args.trail.now

pub returns-then-holds_code-clause-visited : goal.returns-then-holds_code-clause-visited
returns-then-holds_code-clause-visited c =
    let h : Look c.args.clauses.now.clauses c.args.clauses.now.vars c.args.self.now c.args.trail.now c.args.head c.args.code c.args.place c.args.slot = record { turning = c.requires.turning; listed = c.requires.place; is = c.requires.slot; equal = c.requires.vars; within = c.len-within.ensures.within; pairs = sym c.clauses-count.ensures.pairs ∙ c.clauses-count.ensures.starts; texts = sym c.clauses-count.ensures.texts ∙ c.clauses-count.ensures.starts } in
    stays-blocked c.args.clauses.now.clauses c.args.clauses.now.vars c.args.self.now c.block.new.self c.args.trail.now c.args.head (lit_of c.args.code) c.args.place (clause_in c.args.self.now.watches.starts c.args.slot.target) (plain_of c.args.self.now.watches.starts (record { blocker = c.in-Some.other; target = c.args.slot.target })) c.len-within.ensures.within c.requires.turning (look-blocked c.args.clauses.now.clauses c.args.clauses.now.vars c.args.self.now c.block.new.self c.args.trail.now c.args.head c.args.code c.args.place c.args.slot c.in-Some.other c.len-path.ensures.path h c.requires.long c.in-Some.ensures c.block.ensures.ends c.block.ensures.pairs c.block.ensures.texts c.block.ensures.lists) (sym c.holds_code.ensures ∙ c.if-holds_code.true)

pub returns-then-holds_code-clause-fewer : goal.returns-then-holds_code-clause-fewer
returns-then-holds_code-clause-fewer c =
    let h : Look c.args.clauses.now.clauses c.args.clauses.now.vars c.args.self.now c.args.trail.now c.args.head c.args.code c.args.place c.args.slot = record { turning = c.requires.turning; listed = c.requires.place; is = c.requires.slot; equal = c.requires.vars; within = c.len-within.ensures.within; pairs = sym c.clauses-count.ensures.pairs ∙ c.clauses-count.ensures.starts; texts = sym c.clauses-count.ensures.texts ∙ c.clauses-count.ensures.starts } in
    length-blocked c.args.clauses.now.clauses c.args.self.now c.block.new.self (lit_of c.args.code) c.args.place (clause_in c.args.self.now.watches.starts c.args.slot.target) (plain_of c.args.self.now.watches.starts (record { blocker = c.in-Some.other; target = c.args.slot.target })) (look-blocked c.args.clauses.now.clauses c.args.clauses.now.vars c.args.self.now c.block.new.self c.args.trail.now c.args.head c.args.code c.args.place c.args.slot c.in-Some.other c.len-path.ensures.path h c.requires.long c.in-Some.ensures c.block.ensures.ends c.block.ensures.pairs c.block.ensures.texts c.block.ensures.lists)

pub left-requires-clause-inside : goal.left-requires-clause-inside
left-requires-clause-inside c =
    let h : Look c.args.clauses.now.clauses c.args.clauses.now.vars c.args.self.now c.args.trail.now c.args.head c.args.code c.args.place c.args.slot = record { turning = c.requires.turning; listed = c.requires.place; is = c.requires.slot; equal = c.requires.vars; within = c.len-within.ensures.within; pairs = sym c.clauses-count.ensures.pairs ∙ c.clauses-count.ensures.starts; texts = sym c.clauses-count.ensures.texts ∙ c.clauses-count.ensures.starts } in
    subst (λ ss. clause_in ss c.args.slot.target < length ss) (sym c.block.ensures.starts) (look-start c.args.clauses.now.clauses c.args.clauses.now.vars c.args.self.now c.args.trail.now c.args.head c.args.code c.args.place c.args.slot h)

pub left-requires-clause-within : goal.left-requires-clause-within
left-requires-clause-within c =
    let h : Look c.args.clauses.now.clauses c.args.clauses.now.vars c.args.self.now c.args.trail.now c.args.head c.args.code c.args.place c.args.slot = record { turning = c.requires.turning; listed = c.requires.place; is = c.requires.slot; equal = c.requires.vars; within = c.len-within.ensures.within; pairs = sym c.clauses-count.ensures.pairs ∙ c.clauses-count.ensures.starts; texts = sym c.clauses-count.ensures.texts ∙ c.clauses-count.ensures.starts } in
    subst (All (IsWithin c.args.trail.now.vars)) (sym (ap (λ ts. text_at ts (clause_in c.block.new.self.watches.starts c.args.slot.target)) c.block.ensures.texts ∙ ap (λ ss. text_at c.args.self.now.watches.texts (clause_in ss c.args.slot.target)) c.block.ensures.starts)) (look-lits c.args.clauses.now.clauses c.args.clauses.now.vars c.args.self.now c.args.trail.now c.args.head c.args.code c.args.place c.args.slot h)

pub clause-clause-requires : goal.clause-clause-requires
clause-clause-requires c =
    let h : Look c.args.clauses.now.clauses c.args.clauses.now.vars c.args.self.now c.args.trail.now c.args.head c.args.code c.args.place c.args.slot = record { turning = c.requires.turning; listed = c.requires.place; is = c.requires.slot; equal = c.requires.vars; within = c.len-within.ensures.within; pairs = sym c.clauses-count.ensures.pairs ∙ c.clauses-count.ensures.starts; texts = sym c.clauses-count.ensures.texts ∙ c.clauses-count.ensures.starts } in
    subst (λ ss. clause_in ss c.args.slot.target < length ss) (sym (ap (λ (x : Plain). x.starts) c.left.ensures.same ∙ c.block.ensures.starts)) (look-start c.args.clauses.now.clauses c.args.clauses.now.vars c.args.self.now c.args.trail.now c.args.head c.args.code c.args.place c.args.slot h)

pub settle-requires-clause-inside : goal.settle-requires-clause-inside
settle-requires-clause-inside c =
    let h : Look c.args.clauses.now.clauses c.args.clauses.now.vars c.args.self.now c.args.trail.now c.args.head c.args.code c.args.place c.args.slot = record { turning = c.requires.turning; listed = c.requires.place; is = c.requires.slot; equal = c.requires.vars; within = c.len-within.ensures.within; pairs = sym c.clauses-count.ensures.pairs ∙ c.clauses-count.ensures.starts; texts = sym c.clauses-count.ensures.texts ∙ c.clauses-count.ensures.starts } in
    let es : c.left.new.self.starts ≡ c.args.self.now.watches.starts = ap (λ (x : Plain). x.starts) c.left.ensures.same ∙ c.block.ensures.starts in
    let k : c.clause-clause.result ≡ (clause_in c.args.self.now.watches.starts c.args.slot.target) = c.clause-clause.ensures ∙ ap (λ ss. clause_in ss c.args.slot.target) es in
    subst (λ i. i < length c.args.clauses.now.clauses) (sym k) (look-inside c.args.clauses.now.clauses c.args.clauses.now.vars c.args.self.now c.args.trail.now c.args.head c.args.code c.args.place c.args.slot h)

pub settle-requires-clause-within : goal.settle-requires-clause-within
settle-requires-clause-within c =
    let h : Look c.args.clauses.now.clauses c.args.clauses.now.vars c.args.self.now c.args.trail.now c.args.head c.args.code c.args.place c.args.slot = record { turning = c.requires.turning; listed = c.requires.place; is = c.requires.slot; equal = c.requires.vars; within = c.len-within.ensures.within; pairs = sym c.clauses-count.ensures.pairs ∙ c.clauses-count.ensures.starts; texts = sym c.clauses-count.ensures.texts ∙ c.clauses-count.ensures.starts } in
    subst (IsWithin c.args.trail.now.vars) (sym c.literal.ensures) (other-in c.args.clauses.now.clauses c.args.clauses.now.vars c.args.self.now c.args.trail.now c.args.head c.args.code c.args.place c.args.slot c.in-Some.other h c.in-Some.ensures)

pub settle-requires-clause-member : goal.settle-requires-clause-member
settle-requires-clause-member c =
    let h : Look c.args.clauses.now.clauses c.args.clauses.now.vars c.args.self.now c.args.trail.now c.args.head c.args.code c.args.place c.args.slot = record { turning = c.requires.turning; listed = c.requires.place; is = c.requires.slot; equal = c.requires.vars; within = c.len-within.ensures.within; pairs = sym c.clauses-count.ensures.pairs ∙ c.clauses-count.ensures.starts; texts = sym c.clauses-count.ensures.texts ∙ c.clauses-count.ensures.starts } in
    let es : c.left.new.self.starts ≡ c.args.self.now.watches.starts = ap (λ (x : Plain). x.starts) c.left.ensures.same ∙ c.block.ensures.starts in
    let k : c.clause-clause.result ≡ (clause_in c.args.self.now.watches.starts c.args.slot.target) = c.clause-clause.ensures ∙ ap (λ ss. clause_in ss c.args.slot.target) es in
    ap (λ i. has (clause_no c.args.clauses.now.clauses i) c.literal.result) k ∙ (ap (has (clause_no c.args.clauses.now.clauses (clause_in c.args.self.now.watches.starts c.args.slot.target))) c.literal.ensures ∙ other-member c.args.clauses.now.clauses c.args.clauses.now.vars c.args.self.now c.args.trail.now c.args.head c.args.code c.args.place c.args.slot c.in-Some.other h c.in-Some.ensures)

pub settle-requires-clause-others : goal.settle-requires-clause-others
settle-requires-clause-others c =
    let h : Look c.args.clauses.now.clauses c.args.clauses.now.vars c.args.self.now c.args.trail.now c.args.head c.args.code c.args.place c.args.slot = record { turning = c.requires.turning; listed = c.requires.place; is = c.requires.slot; equal = c.requires.vars; within = c.len-within.ensures.within; pairs = sym c.clauses-count.ensures.pairs ∙ c.clauses-count.ensures.starts; texts = sym c.clauses-count.ensures.texts ∙ c.clauses-count.ensures.starts } in
    let es : c.left.new.self.starts ≡ c.args.self.now.watches.starts = ap (λ (x : Plain). x.starts) c.left.ensures.same ∙ c.block.ensures.starts in
    let k : c.clause-clause.result ≡ (clause_in c.args.self.now.watches.starts c.args.slot.target) = c.clause-clause.ensures ∙ ap (λ ss. clause_in ss c.args.slot.target) es in
    subst (λ l. All (λ x. (l ≡ x) ⊎ (has c.args.trail.now.lits (neg_ℤ x) ≡ true)) (clause_no c.args.clauses.now.clauses c.clause-clause.result)) (sym c.literal.ensures)
    (subst (λ i. All (λ x. (lit_of c.in-Some.other ≡ x) ⊎ (has c.args.trail.now.lits (neg_ℤ x) ≡ true)) (clause_no c.args.clauses.now.clauses i)) (sym k)
    (subst (All (λ x. (lit_of c.in-Some.other ≡ x) ⊎ (has c.args.trail.now.lits (neg_ℤ x) ≡ true))) ((ap (λ ts. text_at ts (clause_in c.block.new.self.watches.starts c.args.slot.target)) c.block.ensures.texts ∙ ap (λ ss. text_at c.args.self.now.watches.texts (clause_in ss c.args.slot.target)) c.block.ensures.starts) ∙ look-text c.args.clauses.now.clauses c.args.clauses.now.vars c.args.self.now c.args.trail.now c.args.head c.args.code c.args.place c.args.slot h) c.in_default-left.ensures.left))

pub returns-in_default-left-clause-visited : goal.returns-in_default-left-clause-visited
returns-in_default-left-clause-visited c =
    let h : Look c.args.clauses.now.clauses c.args.clauses.now.vars c.args.self.now c.args.trail.now c.args.head c.args.code c.args.place c.args.slot = record { turning = c.requires.turning; listed = c.requires.place; is = c.requires.slot; equal = c.requires.vars; within = c.len-within.ensures.within; pairs = sym c.clauses-count.ensures.pairs ∙ c.clauses-count.ensures.starts; texts = sym c.clauses-count.ensures.texts ∙ c.clauses-count.ensures.starts } in
    let es : c.left.new.self.starts ≡ c.args.self.now.watches.starts = ap (λ (x : Plain). x.starts) c.left.ensures.same ∙ c.block.ensures.starts in
    let b : Blocked c.args.clauses.now.clauses c.args.self.now (record c.block.new.self { watches = c.left.new.self }) (lit_of c.args.code) c.args.place (clause_in c.args.self.now.watches.starts c.args.slot.target) (plain_of c.args.self.now.watches.starts (record { blocker = c.in-Some.other; target = c.args.slot.target })) =
    look-blocked c.args.clauses.now.clauses c.args.clauses.now.vars c.args.self.now (record c.block.new.self { watches = c.left.new.self }) c.args.trail.now c.args.head c.args.code c.args.place c.args.slot c.in-Some.other c.len-path.ensures.path h c.requires.long c.in-Some.ensures c.block.ensures.ends (ap (λ (x : Plain). x.pairs) c.left.ensures.same ∙ c.block.ensures.pairs) (ap (λ (x : Plain). x.texts) c.left.ensures.same ∙ c.block.ensures.texts) (ap (λ (x : Plain). x.lists) c.left.ensures.same ∙ c.block.ensures.lists) in
    let k : c.clause-clause.result ≡ (clause_in c.args.self.now.watches.starts c.args.slot.target) = c.clause-clause.ensures ∙ ap (λ ss. clause_in ss c.args.slot.target) es in
    visited-settled c.args.clauses.now.clauses (record c.block.new.self { watches = c.left.new.self }) c.args.trail.now c.settle.new.trail c.args.head (lit_of c.args.code) c.args.place c.clause-clause.result c.settle.result (turning-blocked c.args.clauses.now.clauses c.args.clauses.now.vars c.args.self.now (record c.block.new.self { watches = c.left.new.self }) c.args.trail.now c.args.head (lit_of c.args.code) c.args.place (clause_in c.args.self.now.watches.starts c.args.slot.target) (plain_of c.args.self.now.watches.starts (record { blocker = c.in-Some.other; target = c.args.slot.target })) c.len-within.ensures.within c.requires.turning b) c.settle.ensures.extends (clause-blocked c.args.clauses.now.clauses c.args.self.now (record c.block.new.self { watches = c.left.new.self }) (lit_of c.args.code) c.args.place (clause_in c.args.self.now.watches.starts c.args.slot.target) (plain_of c.args.self.now.watches.starts (record { blocker = c.in-Some.other; target = c.args.slot.target })) b ∙ sym k) c.settle.ensures.settled

pub returns-in_default-left-clause-fewer : goal.returns-in_default-left-clause-fewer
returns-in_default-left-clause-fewer c =
    let h : Look c.args.clauses.now.clauses c.args.clauses.now.vars c.args.self.now c.args.trail.now c.args.head c.args.code c.args.place c.args.slot = record { turning = c.requires.turning; listed = c.requires.place; is = c.requires.slot; equal = c.requires.vars; within = c.len-within.ensures.within; pairs = sym c.clauses-count.ensures.pairs ∙ c.clauses-count.ensures.starts; texts = sym c.clauses-count.ensures.texts ∙ c.clauses-count.ensures.starts } in
    let es : c.left.new.self.starts ≡ c.args.self.now.watches.starts = ap (λ (x : Plain). x.starts) c.left.ensures.same ∙ c.block.ensures.starts in
    let b : Blocked c.args.clauses.now.clauses c.args.self.now (record c.block.new.self { watches = c.left.new.self }) (lit_of c.args.code) c.args.place (clause_in c.args.self.now.watches.starts c.args.slot.target) (plain_of c.args.self.now.watches.starts (record { blocker = c.in-Some.other; target = c.args.slot.target })) =
    look-blocked c.args.clauses.now.clauses c.args.clauses.now.vars c.args.self.now (record c.block.new.self { watches = c.left.new.self }) c.args.trail.now c.args.head c.args.code c.args.place c.args.slot c.in-Some.other c.len-path.ensures.path h c.requires.long c.in-Some.ensures c.block.ensures.ends (ap (λ (x : Plain). x.pairs) c.left.ensures.same ∙ c.block.ensures.pairs) (ap (λ (x : Plain). x.texts) c.left.ensures.same ∙ c.block.ensures.texts) (ap (λ (x : Plain). x.lists) c.left.ensures.same ∙ c.block.ensures.lists) in
    fewer-blocked c.args.clauses.now.clauses c.args.self.now (record c.block.new.self { watches = c.left.new.self }) c.left.new.self.lists (lit_of c.args.code) c.args.place (clause_in c.args.self.now.watches.starts c.args.slot.target) (plain_of c.args.self.now.watches.starts (record { blocker = c.in-Some.other; target = c.args.slot.target })) c.settle.result b (fewer-settled c.args.clauses.now.clauses c.left.new.self.lists c.settle.new.trail.lits (lit_of c.args.code) c.clause-clause.result c.settle.result c.settle.ensures.settled)

pub go_on-requires-clause-turning : goal.go_on-requires-clause-turning
go_on-requires-clause-turning c =
    let h : Look c.args.clauses.now.clauses c.args.clauses.now.vars c.args.self.now c.args.trail.now c.args.head c.args.code c.args.place c.args.slot = record { turning = c.requires.turning; listed = c.requires.place; is = c.requires.slot; equal = c.requires.vars; within = c.len-within.ensures.within; pairs = sym c.clauses-count.ensures.pairs ∙ c.clauses-count.ensures.starts; texts = sym c.clauses-count.ensures.texts ∙ c.clauses-count.ensures.starts } in
    let es : c.left.new.self.starts ≡ c.args.self.now.watches.starts = ap (λ (x : Plain). x.starts) c.left.ensures.same ∙ c.block.ensures.starts in
    let b : Blocked c.args.clauses.now.clauses c.args.self.now (record c.block.new.self { watches = c.left.new.self }) (lit_of c.args.code) c.args.place (clause_in c.args.self.now.watches.starts c.args.slot.target) (plain_of c.args.self.now.watches.starts (record { blocker = c.in-Some.other; target = c.args.slot.target })) =
    look-blocked c.args.clauses.now.clauses c.args.clauses.now.vars c.args.self.now (record c.block.new.self { watches = c.left.new.self }) c.args.trail.now c.args.head c.args.code c.args.place c.args.slot c.in-Some.other c.len-path.ensures.path h c.requires.long c.in-Some.ensures c.block.ensures.ends (ap (λ (x : Plain). x.pairs) c.left.ensures.same ∙ c.block.ensures.pairs) (ap (λ (x : Plain). x.texts) c.left.ensures.same ∙ c.block.ensures.texts) (ap (λ (x : Plain). x.lists) c.left.ensures.same ∙ c.block.ensures.lists) in
    turning-blocked c.args.clauses.now.clauses c.args.clauses.now.vars c.args.self.now (record c.block.new.self { watches = c.left.new.self }) c.args.trail.now c.args.head (lit_of c.args.code) c.args.place (clause_in c.args.self.now.watches.starts c.args.slot.target) (plain_of c.args.self.now.watches.starts (record { blocker = c.in-Some.other; target = c.args.slot.target })) c.len-within.ensures.within c.requires.turning b

pub go_on-requires-clause-inside : goal.go_on-requires-clause-inside
go_on-requires-clause-inside c =
    let h : Look c.args.clauses.now.clauses c.args.clauses.now.vars c.args.self.now c.args.trail.now c.args.head c.args.code c.args.place c.args.slot = record { turning = c.requires.turning; listed = c.requires.place; is = c.requires.slot; equal = c.requires.vars; within = c.len-within.ensures.within; pairs = sym c.clauses-count.ensures.pairs ∙ c.clauses-count.ensures.starts; texts = sym c.clauses-count.ensures.texts ∙ c.clauses-count.ensures.starts } in
    let es : c.left.new.self.starts ≡ c.args.self.now.watches.starts = ap (λ (x : Plain). x.starts) c.left.ensures.same ∙ c.block.ensures.starts in
    let b : Blocked c.args.clauses.now.clauses c.args.self.now (record c.block.new.self { watches = c.left.new.self }) (lit_of c.args.code) c.args.place (clause_in c.args.self.now.watches.starts c.args.slot.target) (plain_of c.args.self.now.watches.starts (record { blocker = c.in-Some.other; target = c.args.slot.target })) =
    look-blocked c.args.clauses.now.clauses c.args.clauses.now.vars c.args.self.now (record c.block.new.self { watches = c.left.new.self }) c.args.trail.now c.args.head c.args.code c.args.place c.args.slot c.in-Some.other c.len-path.ensures.path h c.requires.long c.in-Some.ensures c.block.ensures.ends (ap (λ (x : Plain). x.pairs) c.left.ensures.same ∙ c.block.ensures.pairs) (ap (λ (x : Plain). x.texts) c.left.ensures.same ∙ c.block.ensures.texts) (ap (λ (x : Plain). x.lists) c.left.ensures.same ∙ c.block.ensures.lists) in
    blocked-inside c.args.clauses.now.clauses c.args.self.now (record c.block.new.self { watches = c.left.new.self }) c.args.code c.args.place (clause_in c.args.self.now.watches.starts c.args.slot.target) (plain_of c.args.self.now.watches.starts (record { blocker = c.in-Some.other; target = c.args.slot.target })) b c.requires.inside

pub go_on-requires-clause-moves : goal.go_on-requires-clause-moves
go_on-requires-clause-moves c =
    let h : Look c.args.clauses.now.clauses c.args.clauses.now.vars c.args.self.now c.args.trail.now c.args.head c.args.code c.args.place c.args.slot = record { turning = c.requires.turning; listed = c.requires.place; is = c.requires.slot; equal = c.requires.vars; within = c.len-within.ensures.within; pairs = sym c.clauses-count.ensures.pairs ∙ c.clauses-count.ensures.starts; texts = sym c.clauses-count.ensures.texts ∙ c.clauses-count.ensures.starts } in
    let es : c.left.new.self.starts ≡ c.args.self.now.watches.starts = ap (λ (x : Plain). x.starts) c.left.ensures.same ∙ c.block.ensures.starts in
    let b : Blocked c.args.clauses.now.clauses c.args.self.now (record c.block.new.self { watches = c.left.new.self }) (lit_of c.args.code) c.args.place (clause_in c.args.self.now.watches.starts c.args.slot.target) (plain_of c.args.self.now.watches.starts (record { blocker = c.in-Some.other; target = c.args.slot.target })) =
    look-blocked c.args.clauses.now.clauses c.args.clauses.now.vars c.args.self.now (record c.block.new.self { watches = c.left.new.self }) c.args.trail.now c.args.head c.args.code c.args.place c.args.slot c.in-Some.other c.len-path.ensures.path h c.requires.long c.in-Some.ensures c.block.ensures.ends (ap (λ (x : Plain). x.pairs) c.left.ensures.same ∙ c.block.ensures.pairs) (ap (λ (x : Plain). x.texts) c.left.ensures.same ∙ c.block.ensures.texts) (ap (λ (x : Plain). x.lists) c.left.ensures.same ∙ c.block.ensures.lists) in
    look-moves c.args.clauses.now.clauses c.args.clauses.now.vars c.args.self.now (record c.block.new.self { watches = c.left.new.self }) c.args.trail.now c.args.head c.args.code c.args.place c.args.slot c.in-Some.other c.in-Some-left.next h c.requires.long c.in-Some.ensures b es
    (subst (λ t. IsOther c.args.trail.now.lits t (lit_of c.in-Some.other) (lit_of c.in-Some-left.next)) (ap (λ ts. text_at ts (clause_in c.block.new.self.watches.starts c.args.slot.target)) c.block.ensures.texts ∙ ap (λ ss. text_at c.args.self.now.watches.texts (clause_in ss c.args.slot.target)) c.block.ensures.starts) c.in-Some-left.ensures.left)

pub returns-clause-extends : goal.returns-clause-extends
returns-clause-extends c =
    extends-refl c.args.clauses.now.clauses c.args.trail.now

pub returns-clause-fewer : goal.returns-clause-fewer
returns-clause-fewer c =
    let h : Look c.args.clauses.now.clauses c.args.clauses.now.vars c.args.self.now c.args.trail.now c.args.head c.args.code c.args.place c.args.slot = record { turning = c.requires.turning; listed = c.requires.place; is = c.requires.slot; equal = c.requires.vars; within = c.len-within.ensures.within; pairs = sym c.clauses-count.ensures.pairs ∙ c.clauses-count.ensures.starts; texts = sym c.clauses-count.ensures.texts ∙ c.clauses-count.ensures.starts } in
    let es : c.left.new.self.starts ≡ c.args.self.now.watches.starts = ap (λ (x : Plain). x.starts) c.left.ensures.same ∙ c.block.ensures.starts in
    let b : Blocked c.args.clauses.now.clauses c.args.self.now (record c.block.new.self { watches = c.left.new.self }) (lit_of c.args.code) c.args.place (clause_in c.args.self.now.watches.starts c.args.slot.target) (plain_of c.args.self.now.watches.starts (record { blocker = c.in-Some.other; target = c.args.slot.target })) =
    look-blocked c.args.clauses.now.clauses c.args.clauses.now.vars c.args.self.now (record c.block.new.self { watches = c.left.new.self }) c.args.trail.now c.args.head c.args.code c.args.place c.args.slot c.in-Some.other c.len-path.ensures.path h c.requires.long c.in-Some.ensures c.block.ensures.ends (ap (λ (x : Plain). x.pairs) c.left.ensures.same ∙ c.block.ensures.pairs) (ap (λ (x : Plain). x.texts) c.left.ensures.same ∙ c.block.ensures.texts) (ap (λ (x : Plain). x.lists) c.left.ensures.same ∙ c.block.ensures.lists) in
    fewer-blocked c.args.clauses.now.clauses c.args.self.now (record c.block.new.self { watches = c.left.new.self }) c.go_on.new.self.watches.lists (lit_of c.args.code) c.args.place (clause_in c.args.self.now.watches.starts c.args.slot.target) (plain_of c.args.self.now.watches.starts (record { blocker = c.in-Some.other; target = c.args.slot.target })) c.go_on.result b c.go_on.ensures.fewer
