-- Terms that are seen to be multiples of a number: constant multiples, sums, differences and choices of two that are seen so, and
-- products and left shifts by constants that make them so.
use Rattle.std.specs.Prelude.{◌≡◌, ℕ, zero, suc, ◌%◌, ◌^◌, Bool, true, false, ◌&&◌, ◌||◌, nat_eq, nat_le, Option, Some, List, slice_get}
use Rattle.hk_term.specs.declared.node.Node.{Node}
use Rattle.hk_term.specs.declared.node.Node.TheVariants.{Const, Binary, Choose}
use Rattle.hk_term.specs.declared.node.TermKind.{TermKind}
use Rattle.hk_term.specs.declared.node.TermKind.TheVariants.{Add, Sub, Mul, Shl}

-- a constant multiple
abbrev pub is_constant : ℕ → Option Node → Bool
is_constant s (Some (Const width n)) = nat_eq (n % s) 0
is_constant s _ = false

-- a left shift by the number makes multiples of 1, 2, 4 or 8
abbrev pub makes_multiples : ℕ → ℕ → Bool
makes_multiples s n = nat_le 3 n || nat_eq (2 ^ n % s) 0

abbrev pub is_shift : ℕ → Option Node → Bool
is_shift s (Some (Const width n)) = makes_multiples s n
is_shift s _ = false

abbrev pub is_seen_operation : (ℕ → Bool) → List Node → ℕ → TermKind → ℕ → ℕ → Bool
is_seen_operation seen nodes s Add a b = seen a && seen b
is_seen_operation seen nodes s Sub a b = seen a && seen b
is_seen_operation seen nodes s Mul a b = is_constant s (slice_get nodes a) || is_constant s (slice_get nodes b)
is_seen_operation seen nodes s Shl a b = is_shift s (slice_get nodes b)
is_seen_operation seen nodes s _ a b = false

abbrev pub is_seen_node : (ℕ → Bool) → List Node → ℕ → Option Node → Bool
is_seen_node seen nodes s (Some (Const width n)) = nat_eq (n % s) 0
is_seen_node seen nodes s (Some (Binary kind a b)) = is_seen_operation seen nodes s kind a b
is_seen_node seen nodes s (Some (Choose condition a b)) = seen a && seen b
is_seen_node seen nodes s _ = false

-- a term is looked into so many steps deep
abbrev pub is_seen : List Node → ℕ → ℕ → ℕ → Bool
is_seen nodes s zero a = false
is_seen nodes s (suc depth) a = is_seen_node (is_seen nodes s depth) nodes s (slice_get nodes a)

-- a term is seen to be a multiple of s
abbrev pub IsSeenMultiple : List Node → ℕ → ℕ → Type 0
IsSeenMultiple nodes s a = is_seen nodes s 10 a ≡ true
