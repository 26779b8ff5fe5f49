-- The numbers that are read have their widths: arguments, and entries of an abstract state.
use Rattle.std.proofs.Common.{◌≡◌, ◌<◌, ℕ, ◌+◌, ◌-◌, ◌^◌, Bool, true, false, if◌then◌else◌, List, [], ◌∷◌, ◌++◌, length, map, Option, Some, None, Result, Ok, Err, refl, sym, ◌∙◌, subst, append_assoc, append-nil, arith}
use Rattle.std.specs.Prelude.{nat_lt, slice_set, All, codes}
use Rattle.std.specs.List.{range_with_len}
use Rattle.std.specs.Fmt.{decimal}
use Rattle.std.proofs.lemmas.Bool.{ltb-true}
use Rattle.std.proofs.lemmas.Nat.{pow_pos}
use Rattle.std.proofs.lemmas.List.{length-set, length-map}
use Rattle.std.proofs.lemmas.List.FromFn.{length-range_with_len}
use Rattle.std.proofs.lemmas.List.Elements.{All-nil, All-cons, All-map, All-set}
use Rattle.spec_tree.specs.Plain.{Key, Field}
use Rattle.spec_tree.specs.Sorted.{key_sizes, product, sort_of}
use Rattle.spec_tree.specs.Shapes.{AreNumbers, IsState}
use Rattle.spec_tree.specs.Value.{place_behind}
use Rattle.hk_cnf.specs.Text.{natural_of}
use Rattle.hk_cert_lines.specs.declared.reason.CertReason.{CertReason}
use Rattle.hk_cert_lines.specs.declared.reason.CertReason.TheVariants.{Q1, Q2}
use Rattle.hk_cert_lines.specs.Words.{behind, is_decimal, narrow, number_of_width}
use Rattle.hk_cert_lines.specs.Blocks.{behind_in, arg_number, arg_at, entry_front, entry_parts, is_entry, with_place, entry_placed, entry_with, entry_at}
use Rattle.hk_cert.specs.Steps.{Place, Reading, line_at}
use Rattle.hk_cert.specs.States.{args_from, zeros, while_front, at_entry, entries_from, field_at, state_from}
use Rattle.hk_claims.proofs.Followed.{place, ok_is, guarded, followed, total, line_was}

-- ---- numbers

narrow_was : (width : ℕ) (found : Option ℕ) (n : ℕ) → narrow width found ≡ Ok n → n < 2 ^ width
narrow_was width None n h = cc
narrow_was width (Some k) n h = within width k n (nat_lt k (2 ^ width)) refl h
  where
    within : (width k n : ℕ) (b : Bool) → nat_lt k (2 ^ width) ≡ b → (if b then Ok k else Err Q2) ≡ Ok n → n < 2 ^ width
    within width k n true e h = let is : k ≡ n = cc in subst (λ x. x < 2 ^ width) is (ltb-true k (2 ^ width) e)
    within width k n false e h = cc

number_was : (width : ℕ) (word : List ℕ) (n : ℕ) → number_of_width width word ≡ Ok n → n < 2 ^ width
number_was width word n h = narrow_was width (natural_of (2 ^ 64 - 1) word) n (guarded (is_decimal word) (narrow width (natural_of (2 ^ 64 - 1) word)) Q1 n h).1

-- ---- arguments

arg_number_was : (width : ℕ) (word : Option (List ℕ)) (n : ℕ) → arg_number width word ≡ Ok n → n < 2 ^ width
arg_number_was width None n h = cc
arg_number_was width (Some word) n h = number_was width word n h

arg_was : (k width : ℕ) (line : List ℕ) (n : ℕ) → arg_at k width line ≡ Ok n → n < 2 ^ width
arg_was k width line n h = arg_number_was width (behind_in (codes " = ") (behind_in (decimal k) (behind (codes "  arg ") line))) n h

pub record Arguments (args widths : List ℕ) (p : Place) (y : List ℕ × Place) : Type 0 where
  pub news : List ℕ
  pub are : y.0 ≡ args ++ news
  pub fit : AreNumbers widths news
  pub kept : total y.1 ≡ total p

pub args_were : (args : List ℕ) (k : ℕ) (widths : List ℕ) (p : Place) (y : List ℕ × Place) → args_from args k widths p ≡ Ok y → Arguments args widths p y
args_were args k [] p y h =
    let e : (args, p) ≡ y = ok_is (args, p) y h in
    subst (λ (z : List ℕ × Place). Arguments args [] p z) e (record { news = []; are = sym (append-nil args); fit = refl; kept = refl })
args_were args k (width ∷ widths) p y h =
    let f = followed (line_at (arg_at k width) p) (λ n q. args_from (args ++ n ∷ []) (k + 1) widths q) y h in
    let l = line_was (arg_at k width) p f.before f.first in
    let rest = args_were (args ++ f.before.0 ∷ []) (k + 1) widths f.before.1 y f.after in
    record {
      news = f.before.0 ∷ rest.news;
      are = rest.are ∙ append_assoc args (f.before.0 ∷ []) rest.news;
      fit = (arg_was k width l.line f.before.0 l.said, rest.fit);
      kept = rest.kept ∙ l.kept;
    }

-- ---- entries

with_place_was : (place width : ℕ) (r : Result ℕ CertReason) (e : ℕ × ℕ) → ((n : ℕ) → r ≡ Ok n → n < 2 ^ width) → with_place place r ≡ Ok e → e.1 < 2 ^ width
with_place_was place width (Ok n) e below h = let is : (place, n) ≡ e = cc in subst (λ (z : ℕ × ℕ). z.1 < 2 ^ width) is (below n refl)
with_place_was place width (Err reason) e below h = cc

placed_was : (next width : ℕ) (word : List ℕ) (found : Option ℕ) (e : ℕ × ℕ) → entry_placed next width word found ≡ Ok e → e.1 < 2 ^ width
placed_was next width word None e h = cc
placed_was next width word (Some place) e h = inner (nat_lt place next) h
  where
    inner : (b : Bool) → (if b then Err Q1 else with_place place (number_of_width width word)) ≡ Ok e → e.1 < 2 ^ width
    inner true h = cc
    inner false h = with_place_was place width (number_of_width width word) e (number_was width word) h

entry_with_was : (next : ℕ) (keys : List Key) (width : ℕ) (parts : Option (List ℕ × List ℕ)) (e : ℕ × ℕ) → entry_with next keys width parts ≡ Ok e → e.1 < 2 ^ width
entry_with_was next keys width None e h = cc
entry_with_was next keys width (Some p) e h =
    placed_was next width p.1 (place_behind 0 keys p.0) e (guarded (is_entry p.1) (entry_placed next width p.1 (place_behind 0 keys p.0)) Q1 e h).1

entry_was : (next : ℕ) (keys : List Key) (width : ℕ) (rest : List ℕ) (e : ℕ × ℕ) → entry_at next keys width rest ≡ Ok e → e.1 < 2 ^ width
entry_was next keys width rest e h = entry_with_was next keys width (entry_parts keys rest) e h

-- so many numbers of a width
pub record AreOf (count width : ℕ) (ns : List ℕ) : Type 0 where
  pub many : length ns ≡ count
  pub below : All (λ n. n < 2 ^ width) ns

zeros_are : (count width : ℕ) → AreOf count width (zeros count)
zeros_are count width = record {
  many = length-map (range_with_len 0 count) (λ k. 0) ∙ length-range_with_len 0 count;
  below = All-map (λ n. n < 2 ^ width) (λ k. 0) (range_with_len 0 count) (all_so (range_with_len 0 count));
}
  where
    all_so : (xs : List ℕ) → All (λ x. 0 < 2 ^ width) xs
    all_so [] = All-nil (λ x. 0 < 2 ^ width)
    all_so (x ∷ xs) = All-cons (λ x. 0 < 2 ^ width) x xs (pow_pos width) (all_so xs)

set_are : (count width : ℕ) (ns : List ℕ) (place n : ℕ) → n < 2 ^ width → AreOf count width ns → AreOf count width (slice_set ns place n)
set_are count width ns place n low are = record { many = length-set ns place n ∙ are.many; below = All-set (λ n. n < 2 ^ width) ns place n low are.below }

pub record Block (Is : List ℕ → Type 0) (n left : ℕ) (y : List ℕ × Place) : Type 0 where
  pub is : Is y.0
  pub kept : total y.1 ≡ n + left

-- one line on, where it is an entry
entry_turn : (f : Field) (n left : ℕ) (end : List ℕ × Place) (front : Option (List ℕ)) (low : ℕ) (next : ℕ × ℕ → Reading (List ℕ)) (Is : List ℕ → Type 0) (y : List ℕ × Place)
    → Block Is n left end → ((e : ℕ × ℕ) → e.1 < 2 ^ f.width → next e ≡ Ok y → Block Is n left y)
    → while_front front (Ok end) (λ rest. at_entry n (entry_at low f.keys f.width rest) next) ≡ Ok y → Block Is n left y
entry_turn f n left end None low next Is y ends more h = subst (λ (z : List ℕ × Place). Block Is n left z) (ok_is end y h) ends
entry_turn f n left end (Some rest) low next Is y ends more h = inner (entry_at low f.keys f.width rest) refl h
  where
    inner : (r : Result (ℕ × ℕ) CertReason) → entry_at low f.keys f.width rest ≡ r → at_entry n r next ≡ Ok y → Block Is n left y
    inner (Ok e) is h = more e (entry_was low f.keys f.width rest e is) h
    inner (Err reason) is h = cc

entries_were : (f : Field) (count : ℕ) (ns : List ℕ) (low n : ℕ) (lines : List (List ℕ)) (y : List ℕ × Place) → AreOf count f.width ns → entries_from f ns low n lines ≡ Ok y
    → Block (AreOf count f.width) n (length lines) y
entries_were f count ns low n [] y are h =
    subst (λ (z : List ℕ × Place). Block (AreOf count f.width) n 0 z) (ok_is (ns, place n []) y h) (record { is = are; kept = refl })
entries_were f count ns low n (line ∷ behind) y are h =
    entry_turn f n (length (line ∷ behind)) (ns, place n (line ∷ behind)) (entry_front f.name f.keys line) low (λ e. entries_from f (slice_set ns e.0 e.1) (e.0 + 1) (n + 1) behind) (AreOf count f.width) y
    (record { is = are; kept = refl })
    (λ e below is.
    let b = entries_were f count (slice_set ns e.0 e.1) (e.0 + 1) (n + 1) behind y (set_are count f.width ns e.0 e.1 below are) is in
    record { is = b.is; kept = omega (arith, b.kept) })
    h

-- ---- states

pub record States (state : List (List ℕ)) (fields : List Field) (p : Place) (y : List (List ℕ) × Place) : Type 0 where
  pub news : List (List ℕ)
  pub are : y.0 ≡ state ++ news
  pub fit : IsState (map sort_of fields) news
  pub kept : total y.1 ≡ total p

pub state_was : (state : List (List ℕ)) (fields : List Field) (p : Place) (y : List (List ℕ) × Place) → state_from state fields p ≡ Ok y → States state fields p y
state_was state [] p y h =
    subst (λ (z : List (List ℕ) × Place). States state [] p z) (ok_is (state, p) y h) (record { news = []; are = sym (append-nil state); fit = refl; kept = refl })
state_was state (f ∷ fields) p y h =
    let g = followed (field_at f p) (λ entries q. state_from (state ++ entries ∷ []) fields q) y h in
    let count = product (key_sizes f.keys) in
    let b = entries_were f count (zeros count) 0 p.next p.lines g.before (zeros_are count f.width) g.first in
    let rest = state_was (state ++ g.before.0 ∷ []) fields g.before.1 y g.after in
    record {
      news = g.before.0 ∷ rest.news;
      are = rest.are ∙ append_assoc state (g.before.0 ∷ []) rest.news;
      fit = ((b.is.many, b.is.below), rest.fit);
      kept = rest.kept ∙ b.kept;
    }
