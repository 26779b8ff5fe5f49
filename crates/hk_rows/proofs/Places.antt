-- Where the rows of a global, and the globals of a module, stand in their lists.

use Rattle.std.proofs.Common.{ℕ, ◌≡◌, ◌≤◌, ◌<◌, ◌+◌, Option, None, Some, List, length, get_or, ap, sym, ◌∙◌, arith, zero-add}
use Rattle.std.proofs.lemmas.List.FromFn.{get_or-enumerate_from, length-enumerate_from, get_or-range_with_len, length-range_with_len}
use Rattle.std.proofs.lemmas.List.{length-map}
use Rattle.std.proofs.lemmas.Option.{get_or_from_slice_get, slice_get_within, slice_get-map}
use Rattle.std.specs.Prelude.{option_map, slice_get, unwrap_or}
use Rattle.std.specs.List.{enumerate_from, range_with_len}
use Rattle.ir_ast.specs.Program.{GlobalView}
use Rattle.ir_ast.specs.ProgramView.{view_entries, view_global}
use Rattle.ir_ast.specs.declared.global.GlobalItem.{GlobalItem}

-- Row k is the k-th.
pub row_within : (n m k : ℕ) → n ≡ m → k < n → k < length (range_with_len 0 m)
row_within n m k is within = omega (arith, is, within, length-range_with_len 0 m)

pub rows_end : (n m k : ℕ) → n ≡ m → n ≤ k → length (range_with_len 0 m) ≤ k
rows_end n m k is past = omega (arith, is, past, length-range_with_len 0 m)

pub row_at : (n m k : ℕ) → n ≡ m → k < n → k ≡ get_or (range_with_len 0 m) k 0
row_at n m k is within = sym (get_or-range_with_len 0 m k 0 (omega (arith, is, within)) ∙ zero-add k)

-- Globals are counted from the first.
pub entry_within : {X : Type 0} (xs : List X) (n i : ℕ) → n ≡ length xs → i < n → i < length (enumerate_from 0 xs)
entry_within xs n i is within = omega (arith, is, within, length-enumerate_from 0 xs)

pub entries_end : {X : Type 0} (xs : List X) (n i : ℕ) → n ≡ length xs → n ≤ i → length (enumerate_from 0 xs) ≤ i
entries_end xs n i is past = omega (arith, is, past, length-enumerate_from 0 xs)

pub entry_at : {X : Type 0} (xs : List X) (i : ℕ) (x : X) → slice_get xs i ≡ Some x → (i, x) ≡ get_or (enumerate_from 0 xs) i (i, x)
entry_at xs i x there =
    let is = get_or_from_slice_get xs i x x there in
    let within = slice_get_within xs i x there in
    sym (get_or-enumerate_from 0 xs i (i, x) within ∙ ap (λ n. (n, get_or xs i x)) (zero-add i) ∙ ap (λ y. (i, y)) is)

-- The global of a table at a place, as it is seen.
seen_at : (o : Option (List ℕ × GlobalItem)) (g : GlobalItem) → option_map (λ e. e.1) o ≡ Some g → (x : List ℕ) × (option_map {U = List ℕ × GlobalView} (λ e. (e.0, view_global e.1)) o ≡ Some (x, view_global g))
seen_at None g h = absurd (cc h)
seen_at (Some e) g h = (e.0, ap (λ y. Some (e.0, view_global y)) (ap (λ o. unwrap_or o e.1) h))

pub global_there : (globals : List (List ℕ × GlobalItem)) (i : ℕ) (g : GlobalItem) → option_map (λ e. e.1) (slice_get globals i) ≡ Some g
    → (x : List ℕ) × (slice_get (view_entries view_global globals) i ≡ Some (x, view_global g))
global_there globals i g h =
    let seen = seen_at (slice_get globals i) g h in
    (seen.0, slice_get-map (λ (e : List ℕ × GlobalItem). (e.0, view_global e.1)) globals i ∙ seen.1)

pub as_many : (globals : List (List ℕ × GlobalItem)) (n : ℕ) → n ≡ length globals → n ≡ length (view_entries view_global globals)
as_many globals n is = is ∙ sym (length-map globals (λ (e : List ℕ × GlobalItem). (e.0, view_global e.1)))
