-- Functions that come to strays, by their names and by their places.
use Rattle.std.proofs.Common.{◌≡◌, ◌<◌, ◌⊎◌, inl, inr, ℕ, Bool, true, false, not, ◌&&◌, ◌||◌, List, [], ◌∷◌, ◌++◌, Option, Some, None, length, map, refl, sym, ◌∙◌, ap, arith}
use Rattle.std.specs.Prelude.{slice_get, option_map, option_and_then, bytes_eq, get_or, slice_index_or}
use Rattle.std.specs.List.{All, Contains}
use Rattle.std.proofs.lemmas.Bool.{cases_Bool, and_parts}
use Rattle.std.proofs.lemmas.List.Elements.{Contains-get_or}
use Rattle.std.proofs.lemmas.List.Quantifiers.{position-Some}
use Rattle.std.proofs.lemmas.Option.{slice_get-map, slice_get_within, get_or_from_slice_get}
use Rattle.std.proofs.lemmas.Slice.Eq.{bytes_eq-Decides}
use Rattle.ir_layout.proofs.Anyhow.{any_has, has_any}
use Rattle.hk_graph.specs.Sorted.{flag_of}
use Rattle.hk_graph.specs.Walks.{HasEdge, AreWithin}
use Rattle.spec_names.specs.Kernel.{Name, Function, Kernel, function_place, Calls, IsCallPath, is_intrinsic}
use Rattle.spec_kernel.specs.Strays.{is_among, IsStray, ReachesStray}
use Rattle.spec_lines.specs.Whole.{AreStrays}
use Rattle.spec_lines.specs.Lines.{stray_at, strays_in}
use Rattle.spec_strays.specs.Reached.{Comes, ComesBy, AreReached}
use Rattle.spec_strays.specs.Callers.{HasCall, AreCallers}
use Rattle.spec_strays.specs.Places.{AreHooks, is_stray, AreStrayPlaces}

some_same : {X : Type 0} (x y : X) → Some x ≡ Some y → x ≡ y
some_same x y e = cc

-- the first function of a name, by its place
placed : (fs : List Function) (o : Option ℕ) (f : Function) → option_and_then (slice_get fs) o ≡ Some f → (p : ℕ) × (o ≡ Some p) × (slice_get fs p ≡ Some f)
placed fs None f e = absurd cc
placed fs (Some p) f e = (p, refl, e)

name_there : (k : Kernel) (g : Name) (p : ℕ) (f : Function) → function_place k g ≡ Some p → slice_get k.functions p ≡ Some f → g ≡ f.name
name_there k g p f at there =
    let passes : bytes_eq g (get_or (map (λ (x : Function). x.name) k.functions) p []) ≡ true = (position-Some (bytes_eq g) (map (λ (x : Function). x.name) k.functions) p [] at).1 in
    let named : slice_get (map (λ (x : Function). x.name) k.functions) p ≡ Some f.name = slice_get-map (λ (x : Function). x.name) k.functions p ∙ ap (option_map (λ (x : Function). x.name)) there in
    (bytes_eq-Decides g (get_or (map (λ (x : Function). x.name) k.functions) p [])).0 passes
    ∙ get_or_from_slice_get (map (λ (x : Function). x.name) k.functions) p f.name [] named

or_parts : (a b : Bool) → (a || b) ≡ false → (a ≡ false) × (b ≡ false)
or_parts true b e = absurd cc
or_parts false b e = (refl, e)

or_false : (a b : Bool) → a ≡ false → b ≡ false → (a || b) ≡ false
or_false true b e f = absurd cc
or_false false b e f = f

all_false : (a b c : Bool) → a ≡ false → b ≡ false → c ≡ false → (not a && not b && not c) ≡ true
all_false false false false d e f = refl
all_false false false true d e f = absurd cc
all_false false true c d e f = absurd cc
all_false true b c d e f = absurd cc

not_true : (b : Bool) → not b ≡ true → b ≡ false
not_true true e = absurd cc
not_true false e = refl

module _ (k : Kernel) (hooks : List Name) (hooked : List Bool) (h : AreHooks k hooks hooked) (places : List ℕ) (s : AreStrayPlaces k hooked (length k.functions) places) where
  -- the hook that stands where g does is g
  hook_flag : (g : Name) (p : ℕ) (f : Function) → function_place k g ≡ Some p → slice_get k.functions p ≡ Some f → is_among g hooks ≡ false → flag_of hooked p ≡ false
  hook_flag g p f at there none = pick (cases_Bool (flag_of hooked p))
    where
      pick : (flag_of hooked p ≡ true) ⊎ (flag_of hooked p ≡ false) → flag_of hooked p ≡ false
      pick (inr e) = e
      pick (inl e) =
          let t = h.told p e in
          let same : g ≡ t.0 = name_there k g p f at there ∙ sym (name_there k t.0 p f t.2 there) in
          let among : is_among g hooks ≡ true = has_any (bytes_eq g) hooks t.0 t.1 ((bytes_eq-Decides g t.0).1 same) in
          absurd cc

  no_hook : (g : Name) (p : ℕ) → function_place k g ≡ Some p → flag_of hooked p ≡ false → is_among g hooks ≡ false
  no_hook g p at none = pick (cases_Bool (is_among g hooks))
    where
      pick : (is_among g hooks ≡ true) ⊎ (is_among g hooks ≡ false) → is_among g hooks ≡ false
      pick (inr e) = e
      pick (inl e) =
          let t = any_has (bytes_eq g) hooks e in
          let same : g ≡ t.0 = (bytes_eq-Decides g t.0).0 t.2 in
          let flagged : flag_of hooked p ≡ true = h.all t.0 p t.1 (ap (function_place k) (sym same) ∙ at) in
          absurd cc

  -- a stray stands among the places
  flags_stray : (g : Name) (p : ℕ) (f : Function) → function_place k g ≡ Some p → slice_get k.functions p ≡ Some f → f.defined ≡ false → (is_intrinsic g || is_among g hooks) ≡ false
      → is_stray (flag_of hooked p) (slice_get k.functions p) ≡ true
  flags_stray g p f at there declared apart =
      let two = or_parts (is_intrinsic g) (is_among g hooks) apart in
      let own : is_intrinsic f.name ≡ false = ap is_intrinsic (sym (name_there k g p f at there)) ∙ two.0 in
      ap (is_stray (flag_of hooked p)) there ∙ all_false f.defined (is_intrinsic f.name) (flag_of hooked p) declared own (hook_flag g p f at there two.1)

  pub stray_placed : (g : Name) → IsStray k hooks g → (p : ℕ) × (function_place k g ≡ Some p) × Contains places p
  stray_placed g ((f, named, declared), apart) = found (placed k.functions (function_place k g) f named)
    where
      found : (p : ℕ) × (function_place k g ≡ Some p) × (slice_get k.functions p ≡ Some f) → (p : ℕ) × (function_place k g ≡ Some p) × Contains places p
      found (p, at, there) = (p, at, s.all p (slice_get_within k.functions p f there) (flags_stray g p f at there declared apart))

  -- the first function of a name is a stray, where it stands among the places
  pub placed_stray : (g : Name) (p : ℕ) → function_place k g ≡ Some p → Contains places p → IsStray k hooks g
  placed_stray g p at c = by (slice_get k.functions p) refl (s.told p c).1
    where
      by : (o : Option Function) → slice_get k.functions p ≡ o → is_stray (flag_of hooked p) o ≡ true → IsStray k hooks g
      by None there e = absurd cc
      by (Some f) there e =
          let outer = and_parts (not f.defined && not (is_intrinsic f.name)) (not (flag_of hooked p)) e in
          let inner = and_parts (not f.defined) (not (is_intrinsic f.name)) outer.0 in
          let own : is_intrinsic g ≡ false = ap is_intrinsic (name_there k g p f at there) ∙ not_true (is_intrinsic f.name) inner.1 in (
            (f, ap (option_and_then (slice_get k.functions)) at ∙ there, not_true f.defined inner.0),
            or_false (is_intrinsic g) (is_among g hooks) own (no_hook g p at (not_true (flag_of hooked p) outer.1)),
          )

  module _ (callers : List (List ℕ)) (c : AreCallers k (length k.functions) callers) (flags : List Bool) (r : AreReached callers places flags) where
    -- a call by places is one by names
    named_call : (x : Name) (v w : ℕ) → function_place k x ≡ Some v → HasCall k v w → (g : Name) × (function_place k g ≡ Some w) × Calls k x g
    named_call x v w at (f, there, defined, g, d, to) = (g, to, (f, ap (option_and_then (slice_get k.functions)) at ∙ there, defined, d))

    from_places : (x : Name) (v : ℕ) (between : List ℕ) → function_place k x ≡ Some v → ComesBy callers places v between → ReachesStray k hooks x
    from_places x v [] at (p, d, e) = found (named_call x v p at (c.told p v e).1)
      where
        found : (g : Name) × (function_place k g ≡ Some p) × Calls k x g → ReachesStray k hooks x
        found (g, to, call) = (g, ([], (call, tt)), placed_stray g p to d)
    from_places x v (w ∷ others) at (e, d) =
        let call = named_call x v w at (c.told w v e).1 in
        let rest = from_places call.0 w others call.1 d in
        (rest.0, (call.0 ∷ rest.1.0, (call.2, rest.1.1)), rest.2)

    -- a call by names is one by places
    placed_call : (x g : Name) (w : ℕ) → Calls k x g → function_place k g ≡ Some w → (v : ℕ) × (function_place k x ≡ Some v) × HasEdge callers w v
    placed_call x g w (f, named, defined, d) to = found (placed k.functions (function_place k x) f named)
      where
        found : (v : ℕ) × (function_place k x ≡ Some v) × (slice_get k.functions v ≡ Some f) → (v : ℕ) × (function_place k x ≡ Some v) × HasEdge callers w v
        found (v, at, there) = (v, at, c.all w v (slice_get_within k.functions v f there) (f, there, defined, g, d, to))

    from_names : (x g : Name) (path : List Name) → IsCallPath k x (path ++ g ∷ []) → IsStray k hooks g → (v : ℕ) × (function_place k x ≡ Some v) × Comes callers places v
    from_names x g [] (call, end) stray = found (stray_placed g stray)
      where
        found : (p : ℕ) × (function_place k g ≡ Some p) × Contains places p → (v : ℕ) × (function_place k x ≡ Some v) × Comes callers places v
        found (p, to, d) = let q = placed_call x g p call to in (q.0, q.1, ([], (p, d, q.2)))
    from_names x g (y ∷ path) (call, rest) stray = found (from_names y g path rest stray)
      where
        found : (w : ℕ) × (function_place k y ≡ Some w) × Comes callers places w → (v : ℕ) × (function_place k x ≡ Some v) × Comes callers places v
        found (w, to, (between, d)) = let q = placed_call x y w call to in (q.0, q.1, (w ∷ between, (q.2, d)))

    told : (x : Name) (o : Option ℕ) → function_place k x ≡ o → stray_at flags o ≡ true → ReachesStray k hooks x
    told x None at e = absurd cc
    told x (Some v) at e = let m = r.told v e in from_places x v m.0 at m.1

    all : (x : Name) → ReachesStray k hooks x → strays_in k flags x ≡ true
    all x (g, (path, p), stray) = let t = from_names x g path p stray in ap (stray_at flags) t.1 ∙ r.all t.0 t.2

    pub strays_told : AreStrays k hooks (strays_in k flags)
    strays_told = record { told = λ x e. told x (function_place k x) refl e; all = all }

pub callers_within : (k : Kernel) (callers : List (List ℕ)) → AreCallers k (length k.functions) callers → AreWithin callers
callers_within k callers c p f e = let t = c.told p f e in omega (arith, t.0, c.sizes)

pub places_within : (k : Kernel) (hooked : List Bool) (places : List ℕ) (callers : List (List ℕ)) → AreStrayPlaces k hooked (length k.functions) places → AreCallers k (length k.functions) callers
    → All (λ p. p < length callers) places
places_within k hooked places callers s c = λ i d l. let t = s.told (slice_index_or places i d) (Contains-get_or places i d l) in omega (arith, t.0, c.sizes)
