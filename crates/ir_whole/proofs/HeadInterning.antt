-- What is known of a list of heads, as it is kept, and of one that a head was put into.
use Rattle.std.proofs.Common.{◌≡◌, ℕ, zero, suc, ◌<◌, ◌≤◌, Option, Some, None, List, [], ◌∷◌, ◌++◌, map, length, sym, ◌∙◌, ap, subst, arith}
use Rattle.std.specs.Prelude.{slice_get, option_map, nat_eq, not, ◌&&◌}
use Rattle.std.specs.List.{All}
use Rattle.std.specs.BTreeMap.{BTreeMap, get, Updates}
use Rattle.std.proofs.lemmas.List.{length-map}
use Rattle.std.proofs.lemmas.Option.{slice_get_within, slice_get-map}
use Rattle.ir_type.specs.Whole.{is_same}
use Rattle.ir_whole.specs.declared.head.Head.{Head}
use Rattle.ir_whole.specs.declared.head.Head.TheVariants.{Opaque, Void, Int, Ptr, Array, Struct, Packed}
use Rattle.ir_whole.specs.declared.node.Facts.{Facts}
use Rattle.ir_whole.specs.declared.node.Node.{Node}
use Rattle.ir_whole.specs.Heads.{type_at, type_of, types_by, RowFits, HeadFits, IsWithin, AreHeads, Stands}
use Rattle.ir_whole.specs.Kept.{head_cmp, type_facts, head_facts, heads_of, facts_of, IsKept}
use Rattle.ir_whole.proofs.HeadLaws.{some_is, type_is}
use Rattle.ir_whole.proofs.Distinct.{type_of_number, same_number}
use Rattle.ir_whole.proofs.KeptLaws.{pushed, pushed_type}

some_below : (heads : List Head) → AreHeads heads → (n : ℕ) (h : Head) → HeadFits (length heads) h → slice_get heads n ≡ Some h → 0 < n
some_below heads are zero h fits e = absurd (subst (HeadFits (length heads)) (sym (some_is Opaque h (sym are.first ∙ e))) fits)
some_below heads are (suc n) h fits e = omega arith

row_within : (k n : ℕ) (row : List ℕ) → k ≤ n → RowFits k row → All (λ p. p < n) row
row_within k n [] l f j d h = absurd (omega (arith, h))
row_within k n (p ∷ row) l f zero d h = let q = f.1 in omega (arith, q, l)
row_within k n (p ∷ row) l f (suc j) d h = row_within k n row l f.2 j d (omega (arith, h))

fits_within : (k n : ℕ) (h : Head) → k ≤ n → HeadFits k h → IsWithin n h
fits_within k n Opaque l f = tt
fits_within k n Void l f = tt
fits_within k n (Int w) l f = tt
fits_within k n Ptr l f = tt
fits_within k n (Array m e) l f = let q = f.1 in omega (arith, q, l)
fits_within k n (Struct row) l f = row_within k n row l f
fits_within k n (Packed row) l f = row_within k n row l f

module _ (nodes : List Node) (index : BTreeMap Head ℕ) (hs : List Head) (kept : IsKept nodes index) (seen : heads_of nodes ≡ hs) where
  pub are_heads : AreHeads hs
  are_heads = subst AreHeads seen kept.heads

  at : (n : ℕ) (node : Node) → slice_get nodes n ≡ Some node → slice_get hs n ≡ Some node.head
  at n node e = ap (λ l. slice_get l n) (sym seen) ∙ slice_get-map (λ x. x.head) nodes n ∙ ap (λ o. option_map (λ x. x.head) o) e

  pub head_there : (n : ℕ) (node : Node) → slice_get nodes n ≡ Some node → type_at (types_by hs) n ≡ type_of (types_by hs) node.head
  head_there n node e = type_of_number hs are_heads n node.head (at n node e)

  pub head_fits : (n : ℕ) (node : Node) → slice_get nodes n ≡ Some node → 0 < n → HeadFits n node.head
  head_fits n node e some = are_heads.fit n node.head some (at n node e)

  pub head_within : (n : ℕ) (node : Node) → slice_get nodes n ≡ Some node → IsWithin (length hs) node.head
  head_within n node e = pick n (at n node e)
    where
      pick : (n : ℕ) → slice_get hs n ≡ Some node.head → IsWithin (length hs) node.head
      pick zero f = subst (IsWithin (length hs)) (some_is Opaque node.head (sym are_heads.first ∙ f)) tt
      pick (suc n) f = fits_within (suc n) (length hs) node.head (let l = slice_get_within hs (suc n) node.head f in omega (arith, l)) (are_heads.fit (suc n) node.head (omega arith) f)

  pub facts_there : (n : ℕ) (node : Node) → slice_get nodes n ≡ Some node → node.facts ≡ type_facts (type_at (types_by hs) n)
  facts_there n node e =
      some_is node.facts (type_facts (type_at (types_by hs) n))
      (sym (slice_get-map (λ x. x.facts) nodes n ∙ ap (λ o. option_map (λ x. x.facts) o) e)
      ∙ ap (λ fs. slice_get fs n) kept.facts ∙ ap (λ l. slice_get (map type_facts (types_by l)) n) seen
      ∙ slice_get-map type_facts (types_by hs) n
      ∙ ap (λ o. option_map type_facts o) (there n node e))
    where
      there : (n : ℕ) (node : Node) → slice_get nodes n ≡ Some node → slice_get (types_by hs) n ≡ Some (type_at (types_by hs) n)
      there n node e = type_is hs are_heads n node.head (at n node e) ∙ ap Some (sym (head_there n node e))

  module _ (h : Head) (fits : HeadFits (length hs) h) where
    pub found_there : (n : ℕ) → get head_cmp index h ≡ Some n → Stands (types_by hs) n (Some (type_of (types_by hs) h))
    found_there n e =
        let there : slice_get hs n ≡ Some h = ap (λ l. slice_get l n) (sym seen) ∙ kept.found n h e in
        (some_below hs are_heads n h fits there, type_is hs are_heads n h there)

    pub found_within : (n : ℕ) → get head_cmp index h ≡ Some n → n < length hs
    found_within n e = slice_get_within hs n h (ap (λ l. slice_get l n) (sym seen) ∙ kept.found n h e)

    module _ (facts : Facts) (found : Option ℕ) (key : Head) (n : ℕ) (nodes' : List Node) (index' : BTreeMap Head ℕ) (lookup_is : found ≡ get head_cmp index h) (absent : found ≡ None)
        (key_is : key ≡ h) (facts_are : facts ≡ head_facts (facts_of nodes) h) (place : n ≡ length nodes) (grown : nodes' ≡ nodes ++ (record { head = h; facts = facts }) ∷ [])
        (updates : Updates head_cmp index index' key (Some n)) where
      longer : nodes' ≡ nodes ++ (record { head = h; facts = head_facts (facts_of nodes) h }) ∷ []
      longer = grown ∙ ap (λ f. nodes ++ (record { head = h; facts = f }) ∷ []) facts_are

      fits_nodes : HeadFits (length nodes) h
      fits_nodes = subst (λ k. HeadFits k h) (ap length (sym seen) ∙ length-map nodes (λ x. x.head)) fits

      updated : Updates head_cmp index index' h (Some (length nodes))
      updated = subst (λ k. Updates head_cmp index index' h (Some k)) place (subst (λ x. Updates head_cmp index index' x (Some n)) key_is updates)

      pub added_kept : IsKept nodes' index'
      added_kept = subst (λ l. IsKept l index') (sym longer) (pushed nodes index index' h kept fits_nodes (sym lookup_is ∙ absent) updated)

      pub added_there : Stands (types_by (heads_of nodes')) n (Some (type_of (types_by hs) h))
      added_there =
          let there : slice_get (types_by (heads_of nodes')) n ≡ Some (type_of (types_by hs) h) =
          ap (λ l. slice_get (types_by (heads_of l)) n) longer
          ∙ ap (slice_get (types_by (heads_of (nodes ++ (record { head = h; facts = head_facts (facts_of nodes) h }) ∷ [])))) place
          ∙ pushed_type nodes index index' h kept fits_nodes (sym lookup_is ∙ absent) updated
          ∙ ap (λ l. Some (type_of (types_by l) h)) seen in
          let first = slice_get_within (heads_of nodes) 0 Opaque kept.heads.first in
          (omega (arith, first, length-map nodes (λ x. x.head), place), there)

  pub same_there : (a b : ℕ) → a < length hs → b < length hs → (nat_eq a b && not (nat_eq a 0)) ≡ is_same (type_at (types_by hs) a) (type_at (types_by hs) b)
  same_there a b l k = same_number hs are_heads a b l k
