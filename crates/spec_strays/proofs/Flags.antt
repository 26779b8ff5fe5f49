-- Flags that are set one by one.
use Rattle.std.proofs.Common.{◌≡◌, ◌<◌, ◌≤◌, ◌⊎◌, inl, inr, ℕ, Bool, true, false, List, length, sym, ◌∙◌, subst, arith, get_or-set_same, get_or-set_other}
use Rattle.std.specs.Prelude.{slice_set, replicate}
use Rattle.std.proofs.lemmas.Bool.{cases_lt, cases_eq}
use Rattle.std.proofs.lemmas.List.{get_or_past, get_or-replicate, length-replicate}
use Rattle.hk_graph.specs.Sorted.{flag_of}

pub flag_here : (flags : List Bool) (v : ℕ) → v < length flags → flag_of (slice_set flags v true) v ≡ true
flag_here flags v l = get_or-set_same flags v true false l

pub flag_kept : (flags : List Bool) (v u : ℕ) → v < length flags → flag_of flags u ≡ true → flag_of (slice_set flags v true) u ≡ true
flag_kept flags v u l e = pick (cases_eq u v)
  where
    pick : (u ≡ v) ⊎ (u ≡ v → ⊥) → flag_of (slice_set flags v true) u ≡ true
    pick (inl same) = subst (λ x. flag_of (slice_set flags v true) x ≡ true) (sym same) (flag_here flags v l)
    pick (inr ne) = get_or-set_other flags v u true false ne ∙ e

pub flag_cases : (flags : List Bool) (v u : ℕ) → flag_of (slice_set flags v true) u ≡ true → (u ≡ v) ⊎ (flag_of flags u ≡ true)
flag_cases flags v u e = pick (cases_eq u v)
  where
    pick : (u ≡ v) ⊎ (u ≡ v → ⊥) → (u ≡ v) ⊎ (flag_of flags u ≡ true)
    pick (inl same) = inl same
    pick (inr ne) = inr (sym (get_or-set_other flags v u true false ne) ∙ e)

-- where none is set no flag is
pub none_set : (n u : ℕ) → flag_of (replicate n false) u ≡ true → ⊥
none_set n u e = pick (cases_lt u n)
  where
    pick : (u < n) ⊎ (n ≤ u) → ⊥
    pick (inl l) = let f : flag_of (replicate n false) u ≡ false = get_or-replicate n u false false l in cc
    pick (inr l) = let f : flag_of (replicate n false) u ≡ false = get_or_past (replicate n false) u false (omega (arith, length-replicate n false, l)) in cc
