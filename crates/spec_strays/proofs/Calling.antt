-- Calls by the places of functions, found one by one.
use Rattle.std.proofs.Common.{◌≡◌, ◌<◌, ◌≤◌, ◌+◌, ◌⊎◌, inl, inr, ℕ, Bool, true, false, if◌then◌else◌, List, [], ◌∷◌, ◌++◌, Option, Some, None, length, refl, sym, ◌∙◌, ap, subst, arith, get_or-set_same, get_or-set_other}
use Rattle.std.specs.Prelude.{map, option_map, slice_get, replicate, bytes_eq}
use Rattle.std.specs.List.{Contains}
use Rattle.std.proofs.lemmas.Bool.{cases_lt, cases_eq}
use Rattle.std.proofs.lemmas.List.{length-map, length-set, length-replicate, get_or-replicate, get_or_past}
use Rattle.std.proofs.lemmas.List.Elements.{Contains-push, Contains-push_cases, Contains-append_left}
use Rattle.std.proofs.lemmas.List.Quantifiers.{position-Some}
use Rattle.ir_layout.proofs.Anyhow.{here, behind, split}
use Rattle.hk_graph.specs.Walks.{HasEdge, targets_of}
use Rattle.spec_names.specs.Kernel.{Name, Function, Kernel, function_place}
use Rattle.spec_strays.specs.Callers.{HasCall, AreCallers, with_caller, with_call, with_calls, with_function}

some_same : {X : Type 0} (x y : X) → Some x ≡ Some y → x ≡ y
some_same x y e = cc

pub nothing : {X : Type 0} (x : X) → Contains [] x → ⊥
nothing x (k, l, e) = omega (arith, l)

-- ---- one call

module _ (callers : List (List ℕ)) (p f : ℕ) (inside : p < length callers) where
  targets_here : targets_of (with_caller callers p f) p ≡ targets_of callers p ++ f ∷ []
  targets_here = get_or-set_same callers p (targets_of callers p ++ f ∷ []) [] inside

  targets_other : (q : ℕ) → (q ≡ p → ⊥) → targets_of (with_caller callers p f) q ≡ targets_of callers q
  targets_other q ne = get_or-set_other callers p q (targets_of callers p ++ f ∷ []) [] ne

  caller_here : HasEdge (with_caller callers p f) p f
  caller_here = subst (λ ts. Contains ts f) (sym targets_here) (Contains-push (targets_of callers p) f)

  caller_kept : (q x : ℕ) → HasEdge callers q x → HasEdge (with_caller callers p f) q x
  caller_kept q x e = pick (cases_eq q p)
    where
      pick : (q ≡ p) ⊎ (q ≡ p → ⊥) → HasEdge (with_caller callers p f) q x
      pick (inl same) = subst (λ y. HasEdge (with_caller callers p f) y x) (sym same)
          (subst (λ ts. Contains ts x) (sym targets_here) (Contains-append_left (targets_of callers p) (f ∷ []) x (subst (λ y. HasEdge callers y x) same e)))
      pick (inr ne) = subst (λ ts. Contains ts x) (sym (targets_other q ne)) e

  caller_cases : (q x : ℕ) → HasEdge (with_caller callers p f) q x → HasEdge callers q x ⊎ ((x ≡ f) × (q ≡ p))
  caller_cases q x e = pick (cases_eq q p)
    where
      pick : (q ≡ p) ⊎ (q ≡ p → ⊥) → HasEdge callers q x ⊎ ((x ≡ f) × (q ≡ p))
      pick (inr ne) = inl (subst (λ ts. Contains ts x) (targets_other q ne) e)
      pick (inl same) = which (Contains-push_cases (targets_of callers p) f x (subst (λ ts. Contains ts x) targets_here (subst (λ y. HasEdge (with_caller callers p f) y x) same e)))
        where
          which : Contains (targets_of callers p) x ⊎ (f ≡ x) → HasEdge callers q x ⊎ ((x ≡ f) × (q ≡ p))
          which (inl d) = inl (subst (λ y. HasEdge callers y x) (sym same) d)
          which (inr at) = inr (sym at, same)

-- ---- all calls of a function

-- a name of a function has its place among them
abbrev pub AreInside : Kernel → ℕ → Type 0
AreInside k n = (g : Name) (p : ℕ) → function_place k g ≡ Some p → p < n

pub call_count : (callers : List (List ℕ)) (f : ℕ) (o : Option ℕ) → length (with_call callers f o) ≡ length callers
call_count callers f None = refl
call_count callers f (Some p) = length-set callers p (targets_of callers p ++ f ∷ [])

calls_count : (k : Kernel) (callers : List (List ℕ)) (f : ℕ) (gs : List Name) → length (with_calls k callers f gs) ≡ length callers
calls_count k callers f [] = refl
calls_count k callers f (g ∷ gs) = calls_count k (with_call callers f (function_place k g)) f gs ∙ call_count callers f (function_place k g)

-- the call of a name, by whether there is such a function
call_kept : (k : Kernel) (callers : List (List ℕ)) (f : ℕ) (g : Name) → AreInside k (length callers) → (q x : ℕ) → HasEdge callers q x → HasEdge (with_call callers f (function_place k g)) q x
call_kept k callers f g inside q x e = by (function_place k g) refl
  where
    by : (o : Option ℕ) → function_place k g ≡ o → HasEdge (with_call callers f o) q x
    by None at = e
    by (Some p) at = caller_kept callers p f (inside g p at) q x e

call_here : (k : Kernel) (callers : List (List ℕ)) (f : ℕ) (g : Name) → AreInside k (length callers) → (p : ℕ) → function_place k g ≡ Some p → HasEdge (with_call callers f (function_place k g)) p f
call_here k callers f g inside p at = subst (λ o. HasEdge (with_call callers f o) p f) (sym at) (caller_here callers p f (inside g p at))

call_cases : (k : Kernel) (callers : List (List ℕ)) (f : ℕ) (g : Name) → AreInside k (length callers) → (q x : ℕ) → HasEdge (with_call callers f (function_place k g)) q x
    → HasEdge callers q x ⊎ ((x ≡ f) × (function_place k g ≡ Some q))
call_cases k callers f g inside q x = by (function_place k g) refl
  where
    by : (o : Option ℕ) → function_place k g ≡ o → HasEdge (with_call callers f o) q x → HasEdge callers q x ⊎ ((x ≡ f) × (function_place k g ≡ Some q))
    by None at e = inl e
    by (Some p) at e = which (caller_cases callers p f (inside g p at) q x e)
      where
        which : HasEdge callers q x ⊎ ((x ≡ f) × (q ≡ p)) → HasEdge callers q x ⊎ ((x ≡ f) × (function_place k g ≡ Some q))
        which (inl d) = inl d
        which (inr (own, same)) = inr (own, at ∙ ap Some (sym same))

still : (k : Kernel) (callers : List (List ℕ)) (f : ℕ) (g : Name) → AreInside k (length callers) → AreInside k (length (with_call callers f (function_place k g)))
still k callers f g inside = subst (AreInside k) (sym (call_count callers f (function_place k g))) inside

calls_kept : (k : Kernel) (callers : List (List ℕ)) (f : ℕ) (gs : List Name) → AreInside k (length callers) → (q x : ℕ) → HasEdge callers q x → HasEdge (with_calls k callers f gs) q x
calls_kept k callers f [] inside q x e = e
calls_kept k callers f (g ∷ gs) inside q x e = calls_kept k (with_call callers f (function_place k g)) f gs (still k callers f g inside) q x (call_kept k callers f g inside q x e)

calls_here : (k : Kernel) (callers : List (List ℕ)) (f : ℕ) (gs : List Name) → AreInside k (length callers) → (g : Name) (p : ℕ) → Contains gs g → function_place k g ≡ Some p
    → HasEdge (with_calls k callers f gs) p f
calls_here k callers f [] inside g p c at = absurd (nothing g c)
calls_here k callers f (h ∷ gs) inside g p c at = pick (split h g gs c) (λ d. calls_here k (with_call callers f (function_place k h)) f gs (still k callers f h inside) g p d at)
  where
    pick : (h ≡ g) ⊎ Contains gs g → (Contains gs g → HasEdge (with_calls k (with_call callers f (function_place k h)) f gs) p f) → HasEdge (with_calls k (with_call callers f (function_place k h)) f gs) p f
    pick (inl same) rest =
        calls_kept k (with_call callers f (function_place k h)) f gs (still k callers f h inside) p f
        (call_here k callers f h inside p (ap (function_place k) same ∙ at))
    pick (inr d) rest = rest d

calls_cases : (k : Kernel) (callers : List (List ℕ)) (f : ℕ) (gs : List Name) → AreInside k (length callers) → (q x : ℕ) → HasEdge (with_calls k callers f gs) q x
    → HasEdge callers q x ⊎ ((x ≡ f) × (g : Name) × Contains gs g × (function_place k g ≡ Some q))
calls_cases k callers f [] inside q x e = inl e
calls_cases k callers f (g ∷ gs) inside q x e = pick (calls_cases k (with_call callers f (function_place k g)) f gs (still k callers f g inside) q x e)
  where
    pick : HasEdge (with_call callers f (function_place k g)) q x ⊎ ((x ≡ f) × (h : Name) × Contains gs h × (function_place k h ≡ Some q))
        → HasEdge callers q x ⊎ ((x ≡ f) × (h : Name) × Contains (g ∷ gs) h × (function_place k h ≡ Some q))
    pick (inr (own, h, c, at)) = inr (own, h, behind g h gs c, at)
    pick (inl d) = which (call_cases k callers f g inside q x d)
      where
        which : HasEdge callers q x ⊎ ((x ≡ f) × (function_place k g ≡ Some q)) → HasEdge callers q x ⊎ ((x ≡ f) × (h : Name) × Contains (g ∷ gs) h × (function_place k h ≡ Some q))
        which (inl e') = inl e'
        which (inr (own, at)) = inr (own, g, here g gs, at)

-- ---- all functions

pub place_inside : (k : Kernel) → AreInside k (length k.functions)
place_inside k g p at =
    let inside : p < length (map (λ (f : Function). f.name) k.functions) = (position-Some (bytes_eq g) (map (λ (f : Function). f.name) k.functions) p [] at).0 in
    omega (arith, inside, length-map k.functions (λ (f : Function). f.name))

pub no_callers : (k : Kernel) (callers : List (List ℕ)) → callers ≡ replicate (length k.functions) [] → AreCallers k 0 callers
no_callers k callers is =
    subst (AreCallers k 0) (sym is)
    (record {
      sizes = length-replicate (length k.functions) [];
      told = λ p f e. absurd (nothing f (subst (λ ts. Contains ts f) (none p) e));
      all = λ p f l c. absurd (omega (arith, l));
    })
  where
    none : (p : ℕ) → targets_of (replicate (length k.functions) []) p ≡ []
    none p = pick (cases_lt p (length k.functions))
      where
        pick : (p < length k.functions) ⊎ (length k.functions ≤ p) → targets_of (replicate (length k.functions) []) p ≡ []
        pick (inl l) = get_or-replicate (length k.functions) p [] [] l
        pick (inr l) =
            let long : length (replicate {A = List ℕ} (length k.functions) []) ≤ p = omega (arith, l, length-replicate {A = List ℕ} (length k.functions) []) in
            get_or_past (replicate (length k.functions) []) p [] long

module _ (k : Kernel) (n : ℕ) (callers : List (List ℕ)) (h : AreCallers k n callers) where
  inside : AreInside k (length callers)
  inside g p at = subst (λ m. p < m) (sym h.sizes) (place_inside k g p at)

  -- a function that calls nothing
  idle : ((p : ℕ) → HasCall k n p → ⊥) → AreCallers k (n + 1) callers
  idle none =
      record {
        sizes = h.sizes;
        told = λ p f e. let t = h.told p f e in (omega (arith, t.0), t.1);
        all = λ p f l c. pick p f c (cases_lt f n) l;
      }
    where
      pick : (p f : ℕ) → HasCall k f p → (f < n) ⊎ (n ≤ f) → f < n + 1 → HasEdge callers p f
      pick p f c (inl l) m = h.all p f l c
      pick p f c (inr l) m = let same : f ≡ n = omega (arith, l, m) in absurd (none p (subst (λ x. HasCall k x p) same c))

  busy : (function : Function) → slice_get k.functions n ≡ Some function → function.defined ≡ true → AreCallers k (n + 1) (with_calls k callers n function.calls)
  busy function there defined =
      record {
        sizes = calls_count k callers n function.calls ∙ h.sizes;
        told = λ p f e. old p f (calls_cases k callers n function.calls inside p f e);
        all = λ p f l c. pick p f c (cases_lt f n) l;
      }
    where
      old : (p f : ℕ) → HasEdge callers p f ⊎ ((f ≡ n) × (g : Name) × Contains function.calls g × (function_place k g ≡ Some p)) → (f < n + 1) × HasCall k f p
      old p f (inl e) = let t = h.told p f e in (omega (arith, t.0), t.1)
      old p f (inr (own, g, c, at)) = (omega (arith, own), subst (λ x. HasCall k x p) (sym own) (function, there, defined, g, c, at))

      own_calls : (other : Function) → slice_get k.functions n ≡ Some other → other.calls ≡ function.calls
      own_calls other too = ap (λ (x : Function). x.calls) (some_same other function (sym too ∙ there))

      pick : (p f : ℕ) → HasCall k f p → (f < n) ⊎ (n ≤ f) → f < n + 1 → HasEdge (with_calls k callers n function.calls) p f
      pick p f c (inl l) m = calls_kept k callers n function.calls inside p f (h.all p f l c)
      pick p f c (inr l) m =
          let same : f ≡ n = omega (arith, l, m) in
          subst (λ x. HasEdge (with_calls k callers n function.calls) p x) (sym same) (mine (subst (λ x. HasCall k x p) same c))
        where
          mine : HasCall k n p → HasEdge (with_calls k callers n function.calls) p n
          mine (other, too, has, g, d, at) = calls_here k callers n function.calls inside g p (subst (λ gs. Contains gs g) (own_calls other too) d) at

  pub function_more : AreCallers k (n + 1) (with_function k callers n (slice_get k.functions n))
  function_more = by (slice_get k.functions n) refl
    where
      by : (o : Option Function) → slice_get k.functions n ≡ o → AreCallers k (n + 1) (with_function k callers n o)
      by None there = idle (λ p c. let e : None ≡ Some c.0 = sym there ∙ c.1 in cc)
      by (Some function) there = whether function.defined refl
        where
          whether : (b : Bool) → function.defined ≡ b → AreCallers k (n + 1) (if b then with_calls k callers n function.calls else callers)
          whether true e = busy function there e
          whether false e = idle (λ p c. let same : c.0 ≡ function = some_same c.0 function (sym c.1 ∙ there) in let d : false ≡ true = sym e ∙ ap (λ (x : Function). x.defined) (sym same) ∙ c.2 in cc)

-- ---- what the code asks of a function

pub defined_calls : (k : Kernel) (callers : List (List ℕ)) (f : ℕ) (o : Option Function) (d : Bool) (calls : List Name) → option_map (λ (x : Function). x.defined) o ≡ Some d → d ≡ true
    → option_map (λ (x : Function). x.calls) o ≡ Some calls → with_function k callers f o ≡ with_calls k callers f calls
defined_calls k callers f None d calls a b c = absurd cc
defined_calls k callers f (Some function) d calls a b c =
    let yes : function.defined ≡ true = some_same function.defined d a ∙ b in
    ap (λ (x : Bool). if x then with_calls k callers f function.calls else callers) yes ∙ ap (with_calls k callers f) (some_same function.calls calls c)

pub declared_calls : (k : Kernel) (callers : List (List ℕ)) (f : ℕ) (o : Option Function) (d : Bool) → option_map (λ (x : Function). x.defined) o ≡ Some d → d ≡ false → with_function k callers f o ≡ callers
declared_calls k callers f None d a b = refl
declared_calls k callers f (Some function) d a b =
    let no : function.defined ≡ false = some_same function.defined d a ∙ b in
    ap (λ (x : Bool). if x then with_calls k callers f function.calls else callers) no
