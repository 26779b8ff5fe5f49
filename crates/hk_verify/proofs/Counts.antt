-- Lines of counts, put one after another.

use Rattle.std.proofs.Common.{ℕ, ◌≡◌, List, [], ◌∷◌, Option, codes}
use Rattle.std.specs.List.{flat_map}
use Rattle.hk_io.specs.Shown.{shown_with, ShowsPrefix}
use Rattle.hk_io.proofs.Prefixes.{prefix_append, prefix_behind}
use Rattle.hk_verify.specs.declared.kinds.Counts.{Counts}
use Rattle.hk_verify.specs.Bench.{count_line, counts_text}

-- Words and numbers.
abbrev Lines : Type 0
Lines = List (List ℕ × ℕ)

-- A line that is cut is a cut of the lines from there on.
here : (x : List ℕ × ℕ) (xs : Lines) (a s : Option (List ℕ)) → ShowsPrefix a s (count_line x) → ShowsPrefix a s (flat_map count_line (x ∷ xs))
here x xs a s cut = prefix_append a s (count_line x) (flat_map count_line xs) cut

-- So is one behind a line that is shown.
behind : (x : List ℕ × ℕ) (xs : Lines) (a b s : Option (List ℕ)) → b ≡ shown_with a (count_line x) → ShowsPrefix b s (flat_map count_line xs) → ShowsPrefix a s (flat_map count_line (x ∷ xs))
behind x xs a b s shown cut = prefix_behind a b s (count_line x) (flat_map count_line xs) shown cut

-- The lines from one on.
abbrev from_memory : Counts → Lines
from_memory n = (codes "memory ", n.memory) ∷ []

abbrev from_unknown : Counts → Lines
from_unknown n = (codes "unknown ", n.unknown) ∷ from_memory n

abbrev from_reject : Counts → Lines
from_reject n = (codes "reject ", n.rejected) ∷ from_unknown n

abbrev from_accept : Counts → Lines
from_accept n = (codes "accept ", n.accepted) ∷ from_reject n

-- The put of one line failed, and those before it are shown.
pub cut_at_handlers : (n : Counts) (a s : Option (List ℕ)) → ShowsPrefix a s (count_line (codes "handlers ", n.handlers)) → ShowsPrefix a s (counts_text n)
cut_at_handlers n a s cut = here (codes "handlers ", n.handlers) (from_accept n) a s cut

pub cut_at_accept : (n : Counts) (a b s : Option (List ℕ)) → b ≡ shown_with a (count_line (codes "handlers ", n.handlers))
    → ShowsPrefix b s (count_line (codes "accept ", n.accepted)) → ShowsPrefix a s (counts_text n)
cut_at_accept n a b s first cut =
    behind (codes "handlers ", n.handlers) (from_accept n) a b s first
    (here (codes "accept ", n.accepted) (from_reject n) b s cut)

pub cut_at_reject : (n : Counts) (a b c s : Option (List ℕ)) → b ≡ shown_with a (count_line (codes "handlers ", n.handlers)) → c ≡ shown_with b (count_line (codes "accept ", n.accepted))
    → ShowsPrefix c s (count_line (codes "reject ", n.rejected)) → ShowsPrefix a s (counts_text n)
cut_at_reject n a b c s first second cut =
    behind (codes "handlers ", n.handlers) (from_accept n) a b s first
    (behind (codes "accept ", n.accepted) (from_reject n) b c s second
    (here (codes "reject ", n.rejected) (from_unknown n) c s cut))

pub cut_at_unknown : (n : Counts) (a b c d s : Option (List ℕ)) → b ≡ shown_with a (count_line (codes "handlers ", n.handlers)) → c ≡ shown_with b (count_line (codes "accept ", n.accepted))
    → d ≡ shown_with c (count_line (codes "reject ", n.rejected)) → ShowsPrefix d s (count_line (codes "unknown ", n.unknown)) → ShowsPrefix a s (counts_text n)
cut_at_unknown n a b c d s first second third cut =
    behind (codes "handlers ", n.handlers) (from_accept n) a b s first
    (behind (codes "accept ", n.accepted) (from_reject n) b c s second
    (behind (codes "reject ", n.rejected) (from_unknown n) c d s third
    (here (codes "unknown ", n.unknown) (from_memory n) d s cut)))

pub cut_at_memory : (n : Counts) (a b c d e s : Option (List ℕ)) → b ≡ shown_with a (count_line (codes "handlers ", n.handlers)) → c ≡ shown_with b (count_line (codes "accept ", n.accepted))
    → d ≡ shown_with c (count_line (codes "reject ", n.rejected)) → e ≡ shown_with d (count_line (codes "unknown ", n.unknown)) → ShowsPrefix e s (count_line (codes "memory ", n.memory))
    → ShowsPrefix a s (counts_text n)
cut_at_memory n a b c d e s first second third fourth cut =
    behind (codes "handlers ", n.handlers) (from_accept n) a b s first
    (behind (codes "accept ", n.accepted) (from_reject n) b c s second
    (behind (codes "reject ", n.rejected) (from_unknown n) c d s third
    (behind (codes "unknown ", n.unknown) (from_memory n) d e s fourth
    (here (codes "memory ", n.memory) [] e s cut))))
