-- Hooks and strays of a kernel by the places of functions.
use Rattle.std.specs.Prelude.{◌≡◌, ◌<◌, ℕ, Bool, true, false, not, ◌&&◌, if◌then◌else◌, Option, Some, None, List, [], ◌∷◌, ◌++◌, slice_get, slice_set}
use Rattle.std.specs.List.{Contains}
use Rattle.hk_graph.specs.Sorted.{flag_of}
use Rattle.spec_names.specs.Kernel.{Name, Function, Kernel, function_place, is_intrinsic}

-- ---- hooks

-- the places of hooks are flagged
abbrev pub with_hook : List Bool → Option ℕ → List Bool
with_hook flags None = flags
with_hook flags (Some p) = slice_set flags p true

abbrev pub with_hooks : Kernel → List Bool → List Name → List Bool
with_hooks k flags [] = flags
with_hooks k flags (h ∷ hs) = with_hooks k (with_hook flags (function_place k h)) hs

-- the flags say at which places the first functions of the hooks' names stand
pub record AreHooks (k : Kernel) (hooks : List Name) (flags : List Bool) : Type 0 where
  pub told : (p : ℕ) → flag_of flags p ≡ true → (h : Name) × Contains hooks h × (function_place k h ≡ Some p)
  pub all : (h : Name) (p : ℕ) → Contains hooks h → function_place k h ≡ Some p → flag_of flags p ≡ true

-- ---- strays

-- a declared function that is neither a listed intrinsic nor a hook
abbrev pub is_stray : Bool → Option Function → Bool
is_stray hook None = false
is_stray hook (Some f) = not f.defined && not (is_intrinsic f.name) && not hook

-- these are the places before n where one stands, where the flags say which functions are hooks
pub record AreStrayPlaces (k : Kernel) (hooked : List Bool) (n : ℕ) (places : List ℕ) : Type 0 where
  pub told : (p : ℕ) → Contains places p → (p < n) × (is_stray (flag_of hooked p) (slice_get k.functions p) ≡ true)
  pub all : (p : ℕ) → p < n → is_stray (flag_of hooked p) (slice_get k.functions p) ≡ true → Contains places p

abbrev pub with_place : Bool → List ℕ → ℕ → List ℕ
with_place stray places p = if stray then places ++ p ∷ [] else places
