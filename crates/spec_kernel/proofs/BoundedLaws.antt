-- The types of the globals of a module that was laid out have at most 2^32 bytes, with all their parts.
use Rattle.std.proofs.Common.{◌≡◌, ◌⊎◌, inl, inr, ℕ, zero, suc, ◌≤◌, Bool, true, false, ◌||◌, Option, Some, None, List, [], ◌∷◌, ◌++◌, length, refl, sym, ◌∙◌, ap, subst, arith}
use Rattle.std.specs.Prelude.{flat_map, Contains, unwrap_or, slice_get, is_some}
use Rattle.std.specs.List.{list_any}
use Rattle.std.proofs.lemmas.Bool.{cases_Bool}
use Rattle.std.proofs.lemmas.List.Folds.{list_any-append}
use Rattle.std.proofs.lemmas.List.Elements.{Contains-append_left, Contains-append_right}
use Rattle.ir_ast.specs.Plain.{Ty, Tys, nothing, integer, pointer, array, structure, packed, named, opaque, no_types, type_and}
use Rattle.ir_ast.specs.Program.{TypeView, GlobalView, ModuleView}
use Rattle.ir_type.specs.Names.{entry_of, names_in, all_names_in, parts_of, all_parts_of}
use Rattle.ir_type.specs.Whole.{whole_by, wholes_by, whole_entry, stands_for, whole, meant, is_odd, has_odd}
use Rattle.ir_type.specs.Items.{Item, type_item, global_item, spelled, IsItem, K5}
use Rattle.ir_ast.specs.Table.{place_of}
use Rattle.ir_type.proofs.Places.{at_place, no_place, some_same}
use Rattle.ir_layout.specs.Sizes.{size_of}
use Rattle.ir_layout.specs.Facts.{FactFits, fact_by, look_in, has_odd_within}
use Rattle.ir_layout.specs.Layouts.{LayoutView, IsLayoutOf}
use Rattle.ir_layout.specs.Rules.{IsLaidOut}
use Rattle.ir_layout.proofs.Seen.{map_some, part_some, grows_type, deeper_to}
use Rattle.ir_layout.proofs.Laid.{measured, answers}
use Rattle.spec_kernel.specs.Bounded.{IsBounded, AreBounded}

contains_at : {A : Type 0} (xs : List A) (k : ℕ) (a : A) → slice_get xs k ≡ Some a → Contains xs a
contains_at [] k a e = absurd cc
contains_at (x ∷ xs) zero a e = (0, omega arith, some_same x a e)
contains_at (x ∷ xs) (suc k) a e = Contains-append_right (x ∷ []) xs a (contains_at xs k a e)

at_entry : {E : Type 0} (entries : List (List ℕ × E)) (x : List ℕ) (e : E) → entry_of x entries ≡ Some e → Contains entries (x, e)
at_entry {E} entries x e found = pick (place_of x entries) refl
  where
    clash : None ≡ Some e → ⊥
    clash h = cc

    pick : (o : Option ℕ) → place_of x entries ≡ o → Contains entries (x, e)
    pick None h = absurd (clash (sym (no_place entries x h) ∙ found))
    pick (Some p) h =
        let s = at_place entries x p h in
        let same : s.0 ≡ e = some_same s.0 e (sym s.1.found ∙ found) in
        contains_at entries p (x, e) (s.1.there ∙ ap (λ (z : E). Some (x, z)) same)

neither : (a b : Bool) → (a || b) ≡ false → (a ≡ false) × (b ≡ false)
neither true b h = cc
neither false b h = (refl, h)

-- a type with its parts, where its parts and what its names stand for are bounded
module _ (s : List ℕ → Option Ty) where
  -- the parts that a type spells are not over the limit, where no odd integer stands in them
  abbrev AreSmall : List Ty → Type 0
  AreSmall ps = (p : Ty) → Contains ps p → (v : Ty) → whole_by s p ≡ Some v → has_odd v ≡ false → size_of v ≤ 4294967296

  abbrev Stand : List (List ℕ) → Type 0
  Stand xs = (x : List ℕ) → Contains xs x → (v : Ty) → s x ≡ Some v → has_odd v ≡ false → IsBounded v

  here : (t : Ty) (rest : List Ty) → Contains (t ∷ rest) t
  here t rest = (0, omega arith, refl)

  behind : (t : Ty) (rest : List Ty) → AreSmall (t ∷ rest) → AreSmall rest
  behind t rest small p c = small p (Contains-append_right (t ∷ []) rest p c)

  mutual
    bounded : (t : Ty) → AreSmall (parts_of t) → Stand (names_in t) → (u : Ty) → whole_by s t ≡ Some u → has_odd u ≡ false → IsBounded u
    bounded nothing small stand u e odd = subst IsBounded (the nothing u e) (omega arith)
      where
        the : (a b : Ty) → Some a ≡ Some b → a ≡ b
        the a b e = cc
    bounded (integer w) small stand u e odd = leaf (integer w) u e (small (integer w) (here (integer w) []) u e odd)
      where
        leaf : (t v : Ty) → Some (integer w) ≡ Some v → size_of v ≤ 4294967296 → IsBounded v
        leaf t v e l = let same : integer w ≡ v = cc in subst IsBounded same (subst (λ (z : Ty). size_of z ≤ 4294967296) (sym same) l)
    bounded pointer small stand u e odd = subst IsBounded (the pointer u e) (omega arith)
      where
        the : (a b : Ty) → Some a ≡ Some b → a ≡ b
        the a b e = cc
    bounded (array n t) small stand u e odd =
        let a = map_some (array n) (whole_by s t) u e in
        let size = small (array n t) (here (array n t) (parts_of t)) u e odd in
        subst IsBounded a.2 (
          subst (λ (z : Ty). size_of z ≤ 4294967296) (sym a.2) size,
          bounded t (behind (array n t) (parts_of t) small) stand a.0 a.1 (subst (λ (z : Ty). has_odd z ≡ false) (sym a.2) odd),
        )
    bounded (structure ts) small stand u e odd =
        let a = map_some structure (wholes_by s ts) u e in
        let size = small (structure ts) (here (structure ts) (all_parts_of ts)) u e odd in
        subst IsBounded a.2 (
          subst (λ (z : Ty). size_of z ≤ 4294967296) (sym a.2) size,
          all_bounded ts (behind (structure ts) (all_parts_of ts) small) stand a.0 a.1 (subst (λ (z : Ty). has_odd z ≡ false) (sym a.2) odd),
        )
    bounded (packed ts) small stand u e odd =
        let a = map_some packed (wholes_by s ts) u e in
        let size = small (packed ts) (here (packed ts) (all_parts_of ts)) u e odd in
        subst IsBounded a.2 (
          subst (λ (z : Ty). size_of z ≤ 4294967296) (sym a.2) size,
          all_bounded ts (behind (packed ts) (all_parts_of ts) small) stand a.0 a.1 (subst (λ (z : Ty). has_odd z ≡ false) (sym a.2) odd),
        )
    bounded (named x) small stand u e odd = stand x (0, omega arith, refl) u e odd
    bounded opaque small stand u e odd = absurd cc

    all_bounded : (ts : Tys) → AreSmall (all_parts_of ts) → Stand (all_names_in ts) → (us : Tys) → wholes_by s ts ≡ Some us → list_any is_odd (all_parts_of us) ≡ false → AreBounded us
    all_bounded no_types small stand us e odd = subst AreBounded (the no_types us e) tt
      where
        the : (a b : Tys) → Some a ≡ Some b → a ≡ b
        the a b e = cc
    all_bounded (type_and t ts) small stand us e odd =
        let a = part_some (whole_by s t) (wholes_by s ts) us e in
        let none = neither (list_any is_odd (parts_of a.0)) (list_any is_odd (all_parts_of a.1))
        (sym (list_any-append is_odd (parts_of a.0) (all_parts_of a.1)) ∙ subst (λ (z : Tys). list_any is_odd (all_parts_of z) ≡ false) (sym a.4) odd) in
        subst AreBounded a.4 (
          bounded t (λ p c. small p (Contains-append_left (parts_of t) (all_parts_of ts) p c)) (λ x c. stand x (Contains-append_left (names_in t) (all_names_in ts) x c)) a.0 a.2 none.0,
          all_bounded ts (λ p c. small p (Contains-append_right (parts_of t) (all_parts_of ts) p c)) (λ x c. stand x (Contains-append_right (names_in t) (all_names_in ts) x c)) a.1 a.3 none.1,
        )

-- ---- of a module

module _ (m : ModuleView) (free : IsLaidOut m) where
  -- the parts that an item spells, at any depth of names
  small_at : (d : ℕ) → d ≤ length m.types → (item : Item) → IsItem m item → (t : Ty) → Contains (spelled item) t → AreSmall (stands_for d m.types) (parts_of t)
  small_at d l item own t c p q v e odd = subst (λ (z : Ty). size_of z ≤ 4294967296) same (measured m p free (record { occurs = (item, own, within); even = ap has_odd same ∙ odd }))
    where
      seen : whole m.types p ≡ Some v
      seen = grows_type (stands_for d m.types) (stands_for (length m.types) m.types) p (λ x k u h. deeper_to m.types d (length m.types) x u l h) v e

      same : meant m.types p ≡ v
      same = ap (λ o. unwrap_or o opaque) seen

      within : Contains (flat_map parts_of (spelled item)) p
      within = among (spelled item) c
        where
          among : (ts : List Ty) → Contains ts t → Contains (flat_map parts_of ts) p
          among [] (k, n, f) = absurd (omega (arith, n))
          among (x ∷ ts) (zero, n, f) = Contains-append_left (parts_of x) (flat_map parts_of ts) p (subst (λ (z : Ty). Contains (parts_of z) p) (sym f) q)
          among (x ∷ ts) (suc k, n, f) = Contains-append_right (parts_of x) (flat_map parts_of ts) p (among ts (k, omega (arith, n), f))

  named_bounded : (d : ℕ) → d ≤ length m.types → (x : List ℕ) (v : Ty) → stands_for d m.types x ≡ Some v → has_odd v ≡ false → IsBounded v
  named_bounded zero l x v e odd = absurd cc
  named_bounded (suc d) l x v e odd = entry (λ y u f o. named_bounded d (omega (arith, l)) y u f o) (entry_of x m.types) refl e
    where
      less : d ≤ length m.types
      less = omega (arith, l)

      entry : ((y : List ℕ) (u : Ty) → stands_for d m.types y ≡ Some u → has_odd u ≡ false → IsBounded u)
          → (o : Option TypeView) → entry_of x m.types ≡ o → whole_entry (whole_by (stands_for d m.types)) o ≡ Some v → IsBounded v
      entry rest None found h = absurd cc
      entry rest (Some t) found h =
          bounded (stands_for d m.types) t.over
          (small_at d less (type_item x t) (at_entry m.types x t found) t.over (0, omega arith, refl))
          (λ y c u f o. rest y u f o) v h odd

  pub global_bounded : (before : List (List ℕ × GlobalView)) (g : GlobalView) → IsItem m (global_item before g) → has_odd (meant m.types g.over) ≡ false → IsBounded (meant m.types g.over)
  global_bounded before g own odd = pick (whole m.types g.over) refl
    where
      all : length m.types ≤ length m.types
      all = omega arith

      pick : (o : Option Ty) → whole m.types g.over ≡ o → IsBounded (meant m.types g.over)
      pick None e = subst IsBounded (sym (ap (λ o. unwrap_or o opaque) e)) (omega arith)
      pick (Some u) e =
          let same : meant m.types g.over ≡ u = ap (λ o. unwrap_or o opaque) e in
          subst IsBounded (sym same)
          (bounded (stands_for (length m.types) m.types) g.over
          (small_at (length m.types) all (global_item before g) own g.over (0, omega arith, refl))
          (λ y c v f o. named_bounded (length m.types) all y v f o) u e (subst (λ (z : Ty). has_odd z ≡ false) same odd))

split_list : {A : Type 0} (xs : List A) (k : ℕ) (a : A) → slice_get xs k ≡ Some a → (before : List A) × (after : List A) × (xs ≡ before ++ a ∷ after)
split_list [] k a e = absurd cc
split_list (x ∷ xs) zero a e = ([], xs, ap (λ z. z ∷ xs) (some_same x a e))
split_list (x ∷ xs) (suc k) a e = let s = split_list xs k a e in (x ∷ s.0, s.1, ap (λ ys. x ∷ ys) s.2)

-- the types of globals that were laid out
pub layout_bounds : (m : ModuleView) (l : LayoutView) → IsLayoutOf m l → (place : ℕ) (x : List ℕ) (g : GlobalView) → slice_get m.globals place ≡ Some (x, g) → IsBounded (meant m.types g.over)
layout_bounds m l h place x g there = global_bounded m h.laid_out s.0 g own (odd (whole m.types g.over) refl)
  where
    s : (before : List (List ℕ × GlobalView)) × (after : List (List ℕ × GlobalView)) × (m.globals ≡ before ++ (x, g) ∷ after)
    s = split_list m.globals place (x, g) there

    own : IsItem m (global_item s.0 g)
    own = (x, s.1, s.2)

    fit : FactFits m.types g.over (fact_by (look_in l.names l.facts) g.over)
    fit = answers m l h g.over

    even : (has_odd_within m.types g.over ≡ true) ⊎ (has_odd_within m.types g.over ≡ false) → has_odd_within m.types g.over ≡ false
    even (inl e) = absurd (h.laid_out (global_item s.0 g) own K5 (inr e))
    even (inr e) = e

    odd : (o : Option Ty) → whole m.types g.over ≡ o → has_odd (meant m.types g.over) ≡ false
    odd None e = ap (λ o. has_odd (unwrap_or o opaque)) e
    odd (Some u) e = sym (fit.seen (fit.known ∙ ap is_some e)) ∙ fit.odd ∙ even (cases_Bool (has_odd_within m.types g.over))
