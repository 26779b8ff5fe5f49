-- A look at a watch, as it is kept.
use Rattle.std.proofs.Common.{◌≡◌, ◌≢◌, ◌⊎◌, ℕ, ◌+◌, ◌<◌, ◌^◌, Bool, true, false, List, [], length, set, ℤ, pos, neg_ℤ, sym, ◌∙◌, ap, subst, arith}
use Rattle.std.specs.Prelude.{nat_le}
use Rattle.std.proofs.Math.ListN.{length-set}
use Rattle.std.specs.List.{All}
use Rattle.hk_cnf.specs.Literal.{IsWithin, code_of, has}
use Rattle.hk_cnf.specs.Clauses.{AreWithin}
use Rattle.hk_cdcl.specs.declared.lists.Slot.{Slot}
use Rattle.hk_cdcl.specs.declared.watched.Watched.{Watched}
use Rattle.hk_cdcl.specs.Looking.{IsOther, IsOtherOf}
use Rattle.hk_cdcl.specs.Path.{Path, IsPath}
use Rattle.hk_cdcl.specs.Records.{lit_of, pair_at, text_at}
use Rattle.hk_cdcl.specs.Watches.{Watch, clause_in, plain_of, watches_of, watch_at}
use Rattle.hk_cdcl.specs.Watching.{clause_no, Moves, Propagating, Turning}
use Rattle.hk_cdcl.proofs.Attaching.{text-is}
use Rattle.hk_cdcl.proofs.Blocking.{written, Blocked, blocked-of, other-read-member, moves-blocked}
use Rattle.hk_cdcl.proofs.Moving.{read-within, read-stays, read-others, read-inside, read-inside-all, other-within}

pub record Look (clauses : List (List ℤ)) (vars : ℕ) (w : Watched) (p : Path) (head code place : ℕ) (slot : Slot) : Type 0 where
  pub turning : Turning clauses w p head (lit_of code) place
  pub listed : place < length (watches_of w.watches.lists (lit_of code))
  pub is : plain_of w.watches.starts slot ≡ watch_at (watches_of w.watches.lists (lit_of code)) place
  pub equal : p.vars ≡ vars
  pub within : AreWithin vars clauses
  pub pairs : length w.watches.pairs ≡ length w.watches.starts
  pub texts : length w.watches.texts ≡ length w.watches.starts

-- the clause of the watch
pub look-names : (clauses : List (List ℤ)) (vars : ℕ) (w : Watched) (p : Path) (head code place : ℕ) (slot : Slot) → Look clauses vars w p head code place slot → (watch_at (watches_of w.watches.lists (lit_of code)) place).clause ≡ clause_in w.watches.starts slot.target
look-names clauses vars w p head code place slot h = sym (ap (λ (x : Watch). x.clause) h.is)

pub look-pair : (clauses : List (List ℤ)) (vars : ℕ) (w : Watched) (p : Path) (head code place : ℕ) (slot : Slot) → Look clauses vars w p head code place slot → clause_in w.watches.starts slot.target < length w.watches.pairs
look-pair clauses vars w p head code place slot h = read-inside clauses w p head (lit_of code) place (clause_in w.watches.starts slot.target) h.turning h.listed (look-names clauses vars w p head code place slot h)

pub look-start : (clauses : List (List ℤ)) (vars : ℕ) (w : Watched) (p : Path) (head code place : ℕ) (slot : Slot) → Look clauses vars w p head code place slot → clause_in w.watches.starts slot.target < length w.watches.starts
look-start clauses vars w p head code place slot h = subst (λ n. clause_in w.watches.starts slot.target < n) h.pairs (look-pair clauses vars w p head code place slot h)

pub look-inside : (clauses : List (List ℤ)) (vars : ℕ) (w : Watched) (p : Path) (head code place : ℕ) (slot : Slot) → Look clauses vars w p head code place slot → clause_in w.watches.starts slot.target < length clauses
look-inside clauses vars w p head code place slot h = read-inside-all clauses w p head (lit_of code) place (clause_in w.watches.starts slot.target) h.turning h.listed (look-names clauses vars w p head code place slot h)

-- the literal that blocks
pub look-within : (clauses : List (List ℤ)) (vars : ℕ) (w : Watched) (p : Path) (head code place : ℕ) (slot : Slot) → Look clauses vars w p head code place slot → IsWithin p.vars (lit_of slot.blocker)
look-within clauses vars w p head code place slot h = read-within clauses vars w p head (lit_of code) place (plain_of w.watches.starts slot) h.turning h.listed h.equal h.within h.is

pub look-stays : (clauses : List (List ℤ)) (vars : ℕ) (w : Watched) (p : Path) (head code place : ℕ) (slot : Slot) → Look clauses vars w p head code place slot → has p.lits (lit_of slot.blocker) ≡ true → Turning clauses w p head (lit_of code) (place + 1)
look-stays clauses vars w p head code place slot h t = read-stays clauses w p head (lit_of code) place (plain_of w.watches.starts slot) h.turning h.listed h.is t

pub look-member : (clauses : List (List ℤ)) (vars : ℕ) (w : Watched) (p : Path) (head code place : ℕ) (slot : Slot) → Look clauses vars w p head code place slot → has (clause_no clauses (clause_in w.watches.starts slot.target)) (lit_of slot.blocker) ≡ true
look-member clauses vars w p head code place slot h =
    subst (λ (x : Watch). has (clause_no clauses x.clause) x.blocker ≡ true) (sym h.is)
    (h.turning.propagating.watching.watched.watches (lit_of code) h.turning.at.nonzero place (record { blocker = pos 0; clause = 0; binary = false }) h.listed).member

pub look-others : (clauses : List (List ℤ)) (vars : ℕ) (w : Watched) (p : Path) (head code place : ℕ) (slot : Slot) → Look clauses vars w p head code place slot → nat_le (2 ^ 31) slot.target ≡ true → All (λ y. (lit_of slot.blocker ≡ y) ⊎ (has p.lits (neg_ℤ y) ≡ true)) (clause_no clauses (clause_in w.watches.starts slot.target))
look-others clauses vars w p head code place slot h b = read-others clauses w p head (lit_of code) place (plain_of w.watches.starts slot) h.turning h.listed h.is b

-- the literals of the clause
pub look-text : (clauses : List (List ℤ)) (vars : ℕ) (w : Watched) (p : Path) (head code place : ℕ) (slot : Slot) → Look clauses vars w p head code place slot → text_at w.watches.texts (clause_in w.watches.starts slot.target) ≡ clause_no clauses (clause_in w.watches.starts slot.target)
look-text clauses vars w p head code place slot h =
    text-is clauses w.watches.texts (clause_in w.watches.starts slot.target) (subst (λ n. clause_in w.watches.starts slot.target < n) (sym h.texts) (look-start clauses vars w p head code place slot h)) h.turning.propagating.watching.texts

pub look-lits : (clauses : List (List ℤ)) (vars : ℕ) (w : Watched) (p : Path) (head code place : ℕ) (slot : Slot) → Look clauses vars w p head code place slot → All (IsWithin p.vars) (text_at w.watches.texts (clause_in w.watches.starts slot.target))
look-lits clauses vars w p head code place slot h =
    subst (All (IsWithin p.vars)) (sym (look-text clauses vars w p head code place slot h))
    (subst (λ n. All (IsWithin n) (clause_no clauses (clause_in w.watches.starts slot.target))) (sym h.equal) (h.within (clause_in w.watches.starts slot.target) [] (look-inside clauses vars w p head code place slot h)))

-- the other watched literal
pub other-member : (clauses : List (List ℤ)) (vars : ℕ) (w : Watched) (p : Path) (head code place : ℕ) (slot : Slot) (other : ℕ) → Look clauses vars w p head code place slot → IsOtherOf (pair_at w.watches.pairs (clause_in w.watches.starts slot.target)) (lit_of code) (lit_of other) → has (clause_no clauses (clause_in w.watches.starts slot.target)) (lit_of other) ≡ true
other-member clauses vars w p head code place slot other h o =
    other-read-member clauses w p head (lit_of code) place (clause_in w.watches.starts slot.target) (lit_of other) h.turning h.listed (look-names clauses vars w p head code place slot h) o

pub other-in : (clauses : List (List ℤ)) (vars : ℕ) (w : Watched) (p : Path) (head code place : ℕ) (slot : Slot) (other : ℕ) → Look clauses vars w p head code place slot → IsOtherOf (pair_at w.watches.pairs (clause_in w.watches.starts slot.target)) (lit_of code) (lit_of other) → IsWithin p.vars (lit_of other)
other-in clauses vars w p head code place slot other h o =
    other-within clauses vars (clause_in w.watches.starts slot.target) p (lit_of other) h.equal h.within (look-inside clauses vars w p head code place slot h) (other-member clauses vars w p head code place slot other h o)

-- the watch with that literal
abbrev pub with_blocker : Slot → ℕ → Slot
with_blocker slot other = record { blocker = other; target = slot.target }

pub look-blocked : (clauses : List (List ℤ)) (vars : ℕ) (w u : Watched) (p : Path) (head code place : ℕ) (slot : Slot) (other : ℕ) → IsPath p → Look clauses vars w p head code place slot → nat_le (2 ^ 31) slot.target ≡ false → IsOtherOf (pair_at w.watches.pairs (clause_in w.watches.starts slot.target)) (lit_of code) (lit_of other) → u.ends ≡ w.ends → u.watches.pairs ≡ w.watches.pairs → u.watches.texts ≡ w.watches.texts → u.watches.lists ≡ written w.watches.lists (lit_of code) place (plain_of w.watches.starts (record { blocker = other; target = slot.target })) → Blocked clauses w u (lit_of code) place (clause_in w.watches.starts slot.target) (plain_of w.watches.starts (record { blocker = other; target = slot.target }))
look-blocked clauses vars w u p head code place slot other path h long o ee ep et ew =
    blocked-of clauses w u p head (lit_of code) place (plain_of w.watches.starts (with_blocker slot other)) path h.turning h.listed (look-names clauses vars w p head code place slot h) long (other-member clauses vars w p head code place slot other h o) ee ep et ew

-- the list is as long as before
pub blocked-inside : (clauses : List (List ℤ)) (w u : Watched) (code place k : ℕ) (x : Watch) → Blocked clauses w u (lit_of code) place k x → code < length w.watches.lists → code < length u.watches.lists
blocked-inside clauses w u code place k x b lt =
    let n : length u.watches.lists ≡ length w.watches.lists = ap (λ (ls : List (List Watch)). length ls) b.watches ∙ length-set w.watches.lists (code_of (lit_of code)) (set (watches_of w.watches.lists (lit_of code)) place x) in omega (arith, lt, n)

abbrev made-watch : ℤ → Bool → ℕ → Watch
made-watch blocker binary clause = record { blocker = blocker; clause = clause; binary = binary }

-- what goes on
pub look-moves : (clauses : List (List ℤ)) (vars : ℕ) (w u : Watched) (p : Path) (head code place : ℕ) (slot : Slot) (other next : ℕ) → Look clauses vars w p head code place slot → nat_le (2 ^ 31) slot.target ≡ false → IsOtherOf (pair_at w.watches.pairs (clause_in w.watches.starts slot.target)) (lit_of code) (lit_of other) → Blocked clauses w u (lit_of code) place (clause_in w.watches.starts slot.target) (plain_of w.watches.starts (record { blocker = other; target = slot.target })) → u.watches.starts ≡ w.watches.starts → IsOther p.lits (text_at w.watches.texts (clause_in w.watches.starts slot.target)) (lit_of other) (lit_of next) → Moves clauses u.watches.lists u.watches.pairs p.lits (lit_of code) place (plain_of u.watches.starts (record { blocker = other; target = slot.target })).clause (lit_of next) (plain_of u.watches.starts (record { blocker = other; target = slot.target })).blocker (plain_of u.watches.starts (record { blocker = other; target = slot.target }))
look-moves clauses vars w u p head code place slot other next h long o b es f =
    moves-blocked clauses vars w u p head (lit_of code) place (clause_in w.watches.starts slot.target) (lit_of next) (lit_of other) (plain_of w.watches.starts (with_blocker slot other)) (plain_of u.watches.starts (with_blocker slot other)) h.within h.equal h.turning b o
    (subst (λ (c : List ℤ). IsOther p.lits c (lit_of other) (lit_of next)) (look-text clauses vars w p head code place slot h) f)
    (ap (made-watch (lit_of other) (nat_le (2 ^ 31) slot.target)) (ap (λ ss. clause_in ss slot.target) es) ∙ ap (λ t. made-watch (lit_of other) t (clause_in w.watches.starts slot.target)) long)

-- all watches are of clauses that are watched
pub named-of : (clauses : List (List ℤ)) (w : Watched) (p : Path) (head : ℕ) → Propagating clauses w p head → (l : ℤ) → l ≢ pos 0 → All (λ (x : Watch). x.clause < length w.watches.pairs) (watches_of w.watches.lists l)
named-of clauses w p head h l nz = λ k d lt. (h.watching.watched.watches l nz k d lt).inside
