use Rattle.std.proofs.Common.{◌≡◌, ◌*◌, ◌<◌, ◌≤◌, length, refl, sym, ◌∙◌, arith}
use Rattle.hk_cdcl.specs.Records.{lit_of}
use Rattle.hk_cdcl.specs.Watches.{clause_in, plain_of}
use Rattle.hk_cdcl.proofs.Moving.{other-within, turning-goes}
use Rattle.hk_cdcl.proofs.Blocking.{moves-inside, blocked-of, stays-blocked, length-blocked}
use Rattle.hk_cdcl.proofs.Codes.{code-below}
use Rattle.hk_cdcl.proofs.watched.Watched.go_on.Goals as goal

pub holds_code-requires : goal.holds_code-requires
holds_code-requires c =
    other-within c.args.clauses.now.clauses c.args.clauses.now.vars (clause_in c.args.self.now.watches.starts c.args.slot.target) c.args.trail.now (lit_of c.args.next) c.requires.vars c.len-within.ensures.within (moves-inside c.args.clauses.now.clauses c.args.self.now c.args.trail.now c.args.turn.head (lit_of c.args.turn.code) c.args.turn.place (clause_in c.args.self.now.watches.starts c.args.slot.target) (lit_of c.args.next) (lit_of c.args.slot.blocker) (plain_of c.args.self.now.watches.starts c.args.slot) c.requires.turning c.requires.moves) c.requires.moves.found.member

pub returns-then-holds_code-clause-visited : goal.returns-then-holds_code-clause-visited
returns-then-holds_code-clause-visited c =
    stays-blocked c.args.clauses.now.clauses c.args.clauses.now.vars c.args.self.now c.block.new.self c.args.trail.now c.args.turn.head (lit_of c.args.turn.code) c.args.turn.place (clause_in c.args.self.now.watches.starts c.args.slot.target) (plain_of c.args.self.now.watches.starts (record { blocker = c.args.next; target = c.args.slot.target })) c.len-within.ensures.within c.requires.turning (blocked-of c.args.clauses.now.clauses c.args.self.now c.block.new.self c.args.trail.now c.args.turn.head (lit_of c.args.turn.code) c.args.turn.place (plain_of c.args.self.now.watches.starts (record { blocker = c.args.next; target = c.args.slot.target })) c.len-path.ensures.path c.requires.turning c.requires.moves.place c.requires.moves.clause c.requires.long c.requires.moves.found.member c.block.ensures.ends c.block.ensures.pairs c.block.ensures.texts c.block.ensures.lists) (sym c.holds_code.ensures ∙ c.if-holds_code.true)

pub returns-then-holds_code-clause-fewer : goal.returns-then-holds_code-clause-fewer
returns-then-holds_code-clause-fewer c =
    length-blocked c.args.clauses.now.clauses c.args.self.now c.block.new.self (lit_of c.args.turn.code) c.args.turn.place (clause_in c.args.self.now.watches.starts c.args.slot.target) (plain_of c.args.self.now.watches.starts (record { blocker = c.args.next; target = c.args.slot.target })) (blocked-of c.args.clauses.now.clauses c.args.self.now c.block.new.self c.args.trail.now c.args.turn.head (lit_of c.args.turn.code) c.args.turn.place (plain_of c.args.self.now.watches.starts (record { blocker = c.args.next; target = c.args.slot.target })) c.len-path.ensures.path c.requires.turning c.requires.moves.place c.requires.moves.clause c.requires.long c.requires.moves.found.member c.block.ensures.ends c.block.ensures.pairs c.block.ensures.texts c.block.ensures.lists)

pub rewatch-requires-clause-next : goal.rewatch-requires-clause-next
rewatch-requires-clause-next c =
    let b : c.args.next < 2 * c.args.trail.now.vars = code-below c.args.trail.now.vars c.args.next (other-within c.args.clauses.now.clauses c.args.clauses.now.vars (clause_in c.args.self.now.watches.starts c.args.slot.target) c.args.trail.now (lit_of c.args.next) c.requires.vars c.len-within.ensures.within (moves-inside c.args.clauses.now.clauses c.args.self.now c.args.trail.now c.args.turn.head (lit_of c.args.turn.code) c.args.turn.place (clause_in c.args.self.now.watches.starts c.args.slot.target) (lit_of c.args.next) (lit_of c.args.slot.blocker) (plain_of c.args.self.now.watches.starts c.args.slot) c.requires.turning c.requires.moves) c.requires.moves.found.member) in
    let s : 2 * c.args.trail.now.vars ≤ length c.args.self.now.watches.lists = c.requires.turning.propagating.sized in
    omega (arith, b, s)

pub rewatch-requires-clause-inside : goal.rewatch-requires-clause-inside
rewatch-requires-clause-inside c =
    let i : (clause_in c.args.self.now.watches.starts c.args.slot.target) < length c.args.self.now.watches.pairs = c.requires.moves.inside in
    let p : c.clauses-count.result ≡ length c.args.self.now.watches.pairs = c.clauses-count.ensures.pairs in
    let s : c.clauses-count.result ≡ length c.args.self.now.watches.starts = c.clauses-count.ensures.starts in
    omega (arith, i, p, s)

pub returns-then-rewatch-clause-visited : goal.returns-then-rewatch-clause-visited
returns-then-rewatch-clause-visited c =
    turning-goes c.args.clauses.now.clauses c.args.clauses.now.vars c.args.self.now _ c.args.trail.now c.args.turn.head (lit_of c.args.turn.code) c.args.turn.place (clause_in c.args.self.now.watches.starts c.args.slot.target) (lit_of c.args.next) (lit_of c.args.slot.blocker) (plain_of c.args.self.now.watches.starts c.args.slot) c.len-within.ensures.within c.requires.turning refl (c.rewatch.ensures.pairs c.if-rewatch.true) (c.rewatch.ensures.count c.if-rewatch.true) c.rewatch.ensures.texts (c.rewatch.ensures.lists c.if-rewatch.true) c.requires.moves
