use Rattle.std.proofs.Common.{◌≡◌, ℕ, ◌+◌, ◌*◌, ◌<◌, ◌++◌, ◌∷◌, [], length}
use Rattle.std.specs.List.{All}
use Rattle.hk_term.specs.Meaning.{Reading, reading_of, with_var}
use Rattle.hk_inst.specs.States.{asked_of}
use Rattle.hk_inst.specs.Violations.{IsViolated, IsSearch, AllTried}
use Rattle.hk_inst.proofs.search.+searching.Given as goal

abbrev pub decreases-search : goal.decreases-search
decreases-search l = 3 * length l.bound.now

abbrev pub decreases-each_number : goal.decreases-each_number
decreases-each_number l = 3 * length l.bounds.now.rest.now + 2

abbrev pub decreases-at_number : goal.decreases-at_number
decreases-at_number l = 3 * length l.bounds.now.rest.now + 1

abbrev pub invariant-each_number-loop-number : goal.invariant-each_number-loop-number
invariant-each_number-loop-number l = record {
  room : length l.room ≡ length l.wanted.s.now.terms;
  case : reading_of l.case ≡ reading_of l.fn.case;
  tuple : l.progress.tuple.items ≡ l.fn.progress.tuple.items;
  kept : l.progress.found ≡ [] → l.fn.progress.found ≡ [];
  tried : l.progress.found ≡ [] → (n : ℕ) → n < l.number → AllTried l.wanted.s.now.terms l.wanted.s.now.instances l.wanted.quantifier l.wanted.body l.bounds.rest.now (l.fn.progress.tuple.items ++ n ∷ []) (with_var (reading_of l.fn.case) l.bounds.first.now.id n);
  found : (f : ℕ → ℕ) (r : Reading) → IsSearch (asked_of l.wanted.s.now) f r l.wanted.quantifier l.wanted.body (l.bounds.first.now ∷ l.bounds.rest.now) l.fn.progress.tuple.items (reading_of l.fn.case) → All (IsViolated (asked_of l.wanted.s.now) f r) l.fn.progress.found → All (IsViolated (asked_of l.wanted.s.now) f r) l.progress.found;
}
