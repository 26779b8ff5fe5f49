-- Hooks and strays by their places, found one by one.
use Rattle.std.proofs.Common.{◌≡◌, ◌<◌, ◌≤◌, ◌+◌, ◌⊎◌, inl, inr, ℕ, Bool, true, false, not, ◌&&◌, List, [], ◌∷◌, ◌++◌, Option, Some, None, length, refl, sym, ◌∙◌, ap, subst, arith}
use Rattle.std.specs.Prelude.{option_map, slice_get, replicate}
use Rattle.std.specs.List.{Contains}
use Rattle.std.proofs.lemmas.Bool.{cases_lt}
use Rattle.std.proofs.lemmas.List.{length-set, length-replicate}
use Rattle.std.proofs.lemmas.List.Elements.{Contains-push, Contains-push_cases, Contains-append_left}
use Rattle.ir_layout.proofs.Anyhow.{here, behind, split}
use Rattle.hk_graph.specs.Sorted.{flag_of}
use Rattle.spec_names.specs.Kernel.{Name, Function, Kernel, function_place, is_intrinsic}
use Rattle.spec_strays.specs.Places.{with_hook, with_hooks, AreHooks, is_stray, AreStrayPlaces, with_place}
use Rattle.spec_strays.proofs.Flags.{flag_here, flag_kept, flag_cases, none_set}
use Rattle.spec_strays.proofs.Calling.{nothing, AreInside, place_inside}

-- ---- hooks

hook_count : (flags : List Bool) (o : Option ℕ) → length (with_hook flags o) ≡ length flags
hook_count flags None = refl
hook_count flags (Some p) = length-set flags p true

pub hooks_count : (k : Kernel) (flags : List Bool) (hs : List Name) → length (with_hooks k flags hs) ≡ length flags
hooks_count k flags [] = refl
hooks_count k flags (h ∷ hs) = hooks_count k (with_hook flags (function_place k h)) hs ∙ hook_count flags (function_place k h)

still : (k : Kernel) (flags : List Bool) (h : Name) → AreInside k (length flags) → AreInside k (length (with_hook flags (function_place k h)))
still k flags h inside = subst (AreInside k) (sym (hook_count flags (function_place k h))) inside

hook_cases : (k : Kernel) (flags : List Bool) (h : Name) (p : ℕ) → flag_of (with_hook flags (function_place k h)) p ≡ true → (flag_of flags p ≡ true) ⊎ (function_place k h ≡ Some p)
hook_cases k flags h p = by (function_place k h) refl
  where
    by : (o : Option ℕ) → function_place k h ≡ o → flag_of (with_hook flags o) p ≡ true → (flag_of flags p ≡ true) ⊎ (function_place k h ≡ Some p)
    by None at e = inl e
    by (Some q) at e = pick (flag_cases flags q p e)
      where
        pick : (p ≡ q) ⊎ (flag_of flags p ≡ true) → (flag_of flags p ≡ true) ⊎ (function_place k h ≡ Some p)
        pick (inl same) = inr (at ∙ ap Some (sym same))
        pick (inr f) = inl f

hook_kept : (k : Kernel) (flags : List Bool) (h : Name) → AreInside k (length flags) → (p : ℕ) → flag_of flags p ≡ true → flag_of (with_hook flags (function_place k h)) p ≡ true
hook_kept k flags h inside p e = by (function_place k h) refl
  where
    by : (o : Option ℕ) → function_place k h ≡ o → flag_of (with_hook flags o) p ≡ true
    by None at = e
    by (Some q) at = flag_kept flags q p (inside h q at) e

hook_here : (k : Kernel) (flags : List Bool) (h : Name) → AreInside k (length flags) → (p : ℕ) → function_place k h ≡ Some p → flag_of (with_hook flags (function_place k h)) p ≡ true
hook_here k flags h inside p at = subst (λ o. flag_of (with_hook flags o) p ≡ true) (sym at) (flag_here flags p (inside h p at))

hooks_cases : (k : Kernel) (flags : List Bool) (hs : List Name) (p : ℕ) → flag_of (with_hooks k flags hs) p ≡ true → (flag_of flags p ≡ true) ⊎ ((h : Name) × Contains hs h × (function_place k h ≡ Some p))
hooks_cases k flags [] p e = inl e
hooks_cases k flags (h ∷ hs) p e = pick (hooks_cases k (with_hook flags (function_place k h)) hs p e)
  where
    pick : (flag_of (with_hook flags (function_place k h)) p ≡ true) ⊎ ((x : Name) × Contains hs x × (function_place k x ≡ Some p))
        → (flag_of flags p ≡ true) ⊎ ((x : Name) × Contains (h ∷ hs) x × (function_place k x ≡ Some p))
    pick (inr (x, c, at)) = inr (x, behind h x hs c, at)
    pick (inl f) = which (hook_cases k flags h p f)
      where
        which : (flag_of flags p ≡ true) ⊎ (function_place k h ≡ Some p) → (flag_of flags p ≡ true) ⊎ ((x : Name) × Contains (h ∷ hs) x × (function_place k x ≡ Some p))
        which (inl g) = inl g
        which (inr at) = inr (h, here h hs, at)

hooks_kept : (k : Kernel) (flags : List Bool) (hs : List Name) → AreInside k (length flags) → (p : ℕ) → flag_of flags p ≡ true → flag_of (with_hooks k flags hs) p ≡ true
hooks_kept k flags [] inside p e = e
hooks_kept k flags (h ∷ hs) inside p e = hooks_kept k (with_hook flags (function_place k h)) hs (still k flags h inside) p (hook_kept k flags h inside p e)

hooks_here : (k : Kernel) (flags : List Bool) (hs : List Name) → AreInside k (length flags) → (x : Name) (p : ℕ) → Contains hs x → function_place k x ≡ Some p → flag_of (with_hooks k flags hs) p ≡ true
hooks_here k flags [] inside x p c at = absurd (nothing x c)
hooks_here k flags (h ∷ hs) inside x p c at = pick (split h x hs c) (λ d. hooks_here k (with_hook flags (function_place k h)) hs (still k flags h inside) x p d at)
  where
    pick : (h ≡ x) ⊎ Contains hs x → (Contains hs x → flag_of (with_hooks k (with_hook flags (function_place k h)) hs) p ≡ true) → flag_of (with_hooks k (with_hook flags (function_place k h)) hs) p ≡ true
    pick (inl same) rest = hooks_kept k (with_hook flags (function_place k h)) hs (still k flags h inside) p (hook_here k flags h inside p (ap (function_place k) same ∙ at))
    pick (inr d) rest = rest d

pub hooks_told : (k : Kernel) (hs : List Name) (flags : List Bool) → flags ≡ with_hooks k (replicate (length k.functions) false) hs → AreHooks k hs flags
hooks_told k hs flags is =
    subst (AreHooks k hs) (sym is)
    (record {
      told = λ p e. pick p (hooks_cases k (replicate (length k.functions) false) hs p e);
      all = λ x p c at. hooks_here k (replicate (length k.functions) false) hs (subst (AreInside k) (sym (length-replicate (length k.functions) false)) (place_inside k)) x p c at;
    })
  where
    pick : (p : ℕ) → (flag_of (replicate (length k.functions) false) p ≡ true) ⊎ ((h : Name) × Contains hs h × (function_place k h ≡ Some p)) → (h : Name) × Contains hs h × (function_place k h ≡ Some p)
    pick p (inl e) = absurd (none_set (length k.functions) p e)
    pick p (inr t) = t

-- ---- strays

pub no_places : (k : Kernel) (hooked : List Bool) (places : List ℕ) → places ≡ [] → AreStrayPlaces k hooked 0 places
no_places k hooked places is =
    subst (AreStrayPlaces k hooked 0) (sym is) (record { told = λ p c. absurd (nothing p c); all = λ p l e. absurd (omega (arith, l)) })

module _ (k : Kernel) (hooked : List Bool) (n : ℕ) (places : List ℕ) (h : AreStrayPlaces k hooked n places) where
  place_more : (b : Bool) → is_stray (flag_of hooked n) (slice_get k.functions n) ≡ b → AreStrayPlaces k hooked (n + 1) (with_place b places n)
  place_more true e =
      record {
        told = λ p c. old p (Contains-push_cases places n p c);
        all = λ p l f. new p (cases_lt p n) l f;
      }
    where
      old : (p : ℕ) → Contains places p ⊎ (n ≡ p) → (p < n + 1) × (is_stray (flag_of hooked p) (slice_get k.functions p) ≡ true)
      old p (inl c) = let t = h.told p c in (omega (arith, t.0), t.1)
      old p (inr same) = (omega (arith, same), subst (λ q. is_stray (flag_of hooked q) (slice_get k.functions q) ≡ true) same e)

      new : (p : ℕ) → (p < n) ⊎ (n ≤ p) → p < n + 1 → is_stray (flag_of hooked p) (slice_get k.functions p) ≡ true → Contains (places ++ n ∷ []) p
      new p (inl l) m f = Contains-append_left places (n ∷ []) p (h.all p l f)
      new p (inr l) m f = let same : n ≡ p = omega (arith, l, m) in subst (Contains (places ++ n ∷ [])) same (Contains-push places n)
  place_more false e =
      record {
        told = λ p c. let t = h.told p c in (omega (arith, t.0), t.1);
        all = λ p l f. new p (cases_lt p n) l f;
      }
    where
      new : (p : ℕ) → (p < n) ⊎ (n ≤ p) → p < n + 1 → is_stray (flag_of hooked p) (slice_get k.functions p) ≡ true → Contains places p
      new p (inl l) m f = h.all p l f
      new p (inr l) m f =
          let same : p ≡ n = omega (arith, l, m) in
          let yes : is_stray (flag_of hooked n) (slice_get k.functions n) ≡ true = subst (λ q. is_stray (flag_of hooked q) (slice_get k.functions q) ≡ true) same f in
          absurd cc

  pub places_more : (b : Bool) (more : List ℕ) → b ≡ is_stray (flag_of hooked n) (slice_get k.functions n) → more ≡ with_place b places n → AreStrayPlaces k hooked (n + 1) more
  places_more b more is put = subst (AreStrayPlaces k hooked (n + 1)) (sym put) (place_more b (sym is))

-- what the code asks of a function
pub is_stray_told : (hook : Bool) (o : Option Function) (d : Bool) (name : Name) → option_map (λ (x : Function). x.defined) o ≡ Some d → option_map (λ (x : Function). x.name) o ≡ Some name
    → (not d && not (is_intrinsic name) && not hook) ≡ is_stray hook o
is_stray_told hook None d name a b = absurd cc
is_stray_told hook (Some f) d name a b =
    let x : d ≡ f.defined = cc in
    let y : name ≡ f.name = cc in
    ap (λ (z : Bool). not z && not (is_intrinsic name) && not hook) x ∙ ap (λ (z : Name). not f.defined && not (is_intrinsic z) && not hook) y
