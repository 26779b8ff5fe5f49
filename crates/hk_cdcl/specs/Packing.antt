-- How records are kept: the codes of both watched literals, the place in the clause where the last search ended, the number
-- of literals, the clause's place in its list, and the codes of its literals.
use Rattle.std.specs.Prelude.{◌≡◌, ℕ, ◌+◌, ◌<◌, ◌≤◌, List, ℤ, map, length, take, drop, slice_index_or}
use Rattle.hk_cdcl.specs.declared.records.Records.TheInside.{Inside}
use Rattle.hk_cdcl.specs.Records.{lit_of, Pair, Recorded}

abbrev pub word : List ℕ → ℕ → ℕ
word words i = slice_index_or words i 0

abbrev pub pair_of : List ℕ → ℕ → Pair
pair_of words s = record { first = lit_of (word words s); second = lit_of (word words (s + 1)) }

-- the codes of a record's literals
abbrev pub codes_of : List ℕ → ℕ → List ℕ
codes_of words s = take (word words (s + 3)) (drop (s + 5) words)

abbrev pub text_of : List ℕ → ℕ → List ℤ
text_of words s = map lit_of (codes_of words s)

abbrev pub view_of : Inside → Recorded
view_of r = record {
  starts = r.starts.items;
  pairs = map (pair_of r.words.items) r.starts.items;
  texts = map (text_of r.words.items) r.starts.items;
}

-- the record that begins there, of the clause at the place k
pub record IsRecord (words : List ℕ) (s k : ℕ) : Type 0 where
  pub resume : word words (s + 2) ≤ word words (s + 3)
  pub inside : s + 5 + word words (s + 3) ≤ length words
  pub clause : word words (s + 4) ≡ k

-- records stand behind one another
pub record ArePacked (words starts : List ℕ) : Type 0 where
  pub each : (k : ℕ) → k < length starts → IsRecord words (word starts k) k
  pub apart : (j k : ℕ) → j < k → k < length starts → word starts j + 5 + word words (word starts j + 3) ≤ word starts k

abbrev pub IsPacked : Inside → Type 0
IsPacked r = ArePacked r.words.items r.starts.items
