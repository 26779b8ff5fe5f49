-- The objects of a layout: one for each global, of a size within the limit.
use Rattle.std.proofs.Common.{◌≡◌, ℕ, ◌+◌, ◌^◌, ◌<◌, ◌≤◌, Bool, true, false, List, [], ◌∷◌, ◌++◌, length, map, inl, inr, refl, sym, ◌∙◌, ap, arith}
use Rattle.std.proofs.lemmas.Bool.{cases_Bool, cases_lt}
use Rattle.std.proofs.lemmas.List.{append_assoc}
use Rattle.std.proofs.lemmas.List.Elements.{All-cons, All-nil}
use Rattle.std.specs.Prelude.{◌⊎◌, bytes_eq, if◌then◌else◌, is_some, sum, Option, Some, None, unwrap_or}
use Rattle.std.specs.List.{All, IsDistinct}
use Rattle.ir_ast.specs.Plain.{Ty, opaque}
use Rattle.ir_ast.specs.Program.{GlobalView, ModuleView}
use Rattle.ir_type.specs.Items.{IsItem, global_item, K5, K6}
use Rattle.ir_type.specs.Whole.{Types, has_odd, meant, whole}
use Rattle.ir_layout.specs.declared.fact.Fact.{Fact}
use Rattle.ir_layout.specs.declared.object.Object.{Object}
use Rattle.ir_layout.specs.Facts.{FactFits, fact_by, look_in, size_or_none}
use Rattle.ir_layout.specs.Layouts.{IsLayoutOf, LayoutView}
use Rattle.ir_layout.specs.Sizes.{object_size, size_of}
use Rattle.ir_layout.proofs.Laid.{answers}
use Rattle.hk_rows.specs.Texts.{name_text}
use Rattle.hk_cert_law.specs.Globals.{HasGlobals}
use Rattle.hk_cert_law.proofs.Escapes.{shown_distinct}

-- one object for each global, with its initial bytes and a size of 64 bits; no two globals are shown by one name
pub record IsPlaced (m : ModuleView) (objects : List Object) : Type 0 where
  pub constants : map (λ o. o.constant) objects ≡ map (λ g. g.1.constant) m.globals
  pub shapes : map (λ o. length o.bytes) objects ≡ map (λ o. o.size) objects
  pub sizes : All (λ o. o.size < 2 ^ 64) objects
  pub names : IsDistinct bytes_eq (map (λ g. name_text g.1.name) m.globals)

-- a type of which no integer of another width was seen has none
even : (types : Types) (t : Ty) (f : Fact) → FactFits types t f → f.odd ≡ false → has_odd (meant types t) ≡ false
even types t f h o = by f.known refl
  where
    unknown : (o : Option Ty) → whole types t ≡ o → is_some o ≡ false → has_odd (meant types t) ≡ false
    unknown None n e = ap (λ o. has_odd (unwrap_or o opaque)) n
    unknown (Some u) n e = absurd (cc e)

    by : (k : Bool) → f.known ≡ k → has_odd (meant types t) ≡ false
    by true e = sym (h.seen e) ∙ o
    by false e = unknown (whole types t) refl (sym h.known ∙ e)

module _ (m : ModuleView) (l : LayoutView) (h : IsLayoutOf m l) where
  -- a global's size is within the limit of all together
  within : (before after : List (List ℕ × GlobalView)) (g : List ℕ × GlobalView) → m.globals ≡ before ++ g ∷ after → object_size m.types g.1 ≤ 4194304
  within before after g parts = by (cases_lt 4194304 (sum (map (λ e. size_or_none m.types e.1.over) before) + size_or_none m.types g.1.over))
    where
      there : IsItem m (global_item before g.1)
      there = (g.0, after, parts)

      no_odd : (fact_by (look_in l.names l.facts) g.1.over).odd ≡ false
      no_odd = pick (cases_Bool (fact_by (look_in l.names l.facts) g.1.over).odd)
        where
          pick : ((fact_by (look_in l.names l.facts) g.1.over).odd ≡ true) ⊎ ((fact_by (look_in l.names l.facts) g.1.over).odd ≡ false) → (fact_by (look_in l.names l.facts) g.1.over).odd ≡ false
          pick (inl e) = absurd (h.laid_out (global_item before g.1) there K5 (inr (sym (answers m l h g.1.over).odd ∙ e)))
          pick (inr e) = e

      counted : size_or_none m.types g.1.over ≡ size_of (meant m.types g.1.over)
      counted = ap (λ b. if b then 0 else size_of (meant m.types g.1.over)) (even m.types g.1.over (fact_by (look_in l.names l.facts) g.1.over) (answers m l h g.1.over) no_odd)

      under : (a b c : ℕ) → a + b ≤ 4194304 → b ≡ c → c ≤ 4194304
      under a b c l e = omega (arith, l, e)

      by : (4194304 < sum (map (λ e. size_or_none m.types e.1.over) before) + size_or_none m.types g.1.over) ⊎ (sum (map (λ e. size_or_none m.types e.1.over) before) + size_or_none m.types g.1.over ≤ 4194304) → object_size m.types g.1 ≤ 4194304
      by (inl over) = absurd (h.laid_out (global_item before g.1) there K6 (inl over))
      by (inr few) = under (sum (map (λ e. size_or_none m.types e.1.over) before)) (size_or_none m.types g.1.over) (size_of (meant m.types g.1.over)) few counted

  all_within : (objects : List Object) (before globals : List (List ℕ × GlobalView)) → m.globals ≡ before ++ globals → map (λ o. o.size) objects ≡ map (λ g. object_size m.types g.1) globals → All (λ o. o.size < 2 ^ 64) objects
  all_within [] before globals parts sizes = All-nil (λ o. o.size < 2 ^ 64)
  all_within (o ∷ objects) before [] parts sizes = absurd (cc sizes)
  all_within (o ∷ objects) before (g ∷ globals) parts sizes =
      let most : object_size m.types g.1 ≤ 4194304 = within before globals g parts in
      let both = first o.size (object_size m.types g.1) (map (λ o. o.size) objects) (map (λ g. object_size m.types g.1) globals) sizes in
      let size = both.0 in
      All-cons (λ o. o.size < 2 ^ 64) o objects (omega (arith, most, size))
      (all_within objects (before ++ g ∷ []) globals (parts ∙ sym (append_assoc before (g ∷ []) globals)) both.1)
    where
      first : (a b : ℕ) (xs ys : List ℕ) → (a ∷ xs) ≡ (b ∷ ys) → (a ≡ b) × (xs ≡ ys)
      first a b xs ys e = (cc e, cc e)

  pub placed : HasGlobals m → IsPlaced m l.objects
  placed names = record {
    constants = h.constants;
    shapes = h.shapes;
    sizes = all_within l.objects [] m.globals refl h.sizes;
    names = shown_distinct m.globals names.bytes names.distinct;
  }
