-- The index of a list of heads, and one more head.
use Rattle.std.proofs.Common.{◌≡◌, ◌⊎◌, inl, inr, ℕ, ◌<◌, ◌≤◌, true, cond, Some, None, List, [], ◌∷◌, ◌++◌, map, length, refl, sym, ◌∙◌, ap, subst, arith}
use Rattle.std.specs.Prelude.{slice_get}
use Rattle.std.specs.declared.cmp.Ordering.{Ordering}
use Rattle.std.specs.declared.cmp.Ordering.TheVariants.{Less, Equal, Greater}
use Rattle.std.specs.Ordering.{nat_cmp, ordering_then, is_eq}
use Rattle.std.specs.Cmp.{IsTotalOrder}
use Rattle.std.specs.BTreeMap.{BTreeMap, get, Updates, is_at}
use Rattle.std.specs.Map.{lookup}
use Rattle.std.proofs.lemmas.Bool.{cases_lt}
use Rattle.std.proofs.lemmas.Cmp.{tied_itself}
use Rattle.std.proofs.lemmas.List.{length-map, length-append, map-append}
use Rattle.std.proofs.lemmas.Map.Lookups.{exact_unsigned, exact_bytes}
use Rattle.std.proofs.lemmas.Option.{slice_get_within}
use Rattle.ir_whole.specs.declared.head.Head.{Head}
use Rattle.ir_whole.specs.declared.head.Head.TheVariants.{Opaque, Void, Int, Ptr, Array, Struct, Packed}
use Rattle.ir_whole.specs.declared.node.Node.{Node}
use Rattle.ir_whole.specs.contracts.head.HeadOrd.TheImpl.Laws.{total-law}
use Rattle.ir_whole.specs.Heads.{type_of, types_by, HeadFits, AreHeads, Grows}
use Rattle.ir_whole.specs.Kept.{head_cmp, type_facts, head_facts, heads_of, facts_of, IsKept}
use Rattle.ir_whole.proofs.HeadLaws.{some_is, get_front, get_seam, kept_at, types_append, count_is}
use Rattle.ir_whole.proofs.FactsOfTypes.{facts_are}

array_first : (a b : Ordering) → ordering_then a b ≡ Equal → a ≡ Equal
array_first Equal b e = refl
array_first a b e = cc

array_second : (a b : Ordering) → ordering_then a b ≡ Equal → b ≡ Equal
array_second Equal b e = e
array_second a b e = cc

-- the order of heads tells all of them apart
pub exact : (g h : Head) → head_cmp g h ≡ Equal → g ≡ h
exact Opaque Opaque e = refl
exact Void Void e = refl
exact (Int v) (Int w) e = ap Int (exact_unsigned v w e)
exact Ptr Ptr e = refl
exact (Array m p) (Array n q) e =
    let length_is = exact_unsigned m n (array_first (nat_cmp m n) (nat_cmp p q) e) in
    let element = exact_unsigned p q (array_second (nat_cmp m n) (nat_cmp p q) e) in
    λ i. Array (length_is i) (element i)
exact (Struct r) (Struct s) e = ap Struct (exact_bytes r s e)
exact (Packed r) (Packed s) e = ap Packed (exact_bytes r s e)
exact g h e = cc

head_total : IsTotalOrder head_cmp
head_total = total-law

head_cmp_itself : (h : Head) → is_eq (head_cmp h h) ≡ true
head_cmp_itself h = ap is_eq (tied_itself head_total h)

-- ---- one more head

module _ (nodes : List Node) (index more : BTreeMap Head ℕ) (h : Head) (kept : IsKept nodes index) (fits : HeadFits (length nodes) h) (absent : get head_cmp index h ≡ None)
    (updates : Updates head_cmp index more h (Some (length nodes))) where
  abbrev pub node : Node
  node = record { head = h; facts = head_facts (facts_of nodes) h }

  count : length (heads_of nodes) ≡ length nodes
  count = length-map nodes (λ n. n.head)

  heads_are : heads_of (nodes ++ node ∷ []) ≡ heads_of nodes ++ h ∷ []
  heads_are = map-append (λ n. n.head) nodes (node ∷ [])

  grown : Grows (heads_of nodes) (heads_of (nodes ++ node ∷ []))
  grown = record { more = h ∷ []; is = heads_are }

  -- a place of the longer list is one of the list, or the new one
  places : (k : ℕ) (g : Head) → slice_get (heads_of (nodes ++ node ∷ [])) k ≡ Some g → (slice_get (heads_of nodes) k ≡ Some g) ⊎ ((k ≡ length nodes) × (h ≡ g))
  places k g e = pick (cases_lt k (length nodes))
    where
      there : slice_get (heads_of nodes ++ h ∷ []) k ≡ Some g
      there = subst (λ hs. slice_get hs k ≡ Some g) heads_are e

      pick : (k < length nodes) ⊎ (length nodes ≤ k) → (slice_get (heads_of nodes) k ≡ Some g) ⊎ ((k ≡ length nodes) × (h ≡ g))
      pick (inl l) = inl (sym (get_front (heads_of nodes) (h ∷ []) k (subst (λ n. k < n) (sym count) l)) ∙ there)
      pick (inr l) =
          let within = slice_get_within (heads_of nodes ++ h ∷ []) k g there in
          let last : k ≡ length (heads_of nodes) = omega (arith, within, l, count, length-append (heads_of nodes) (h ∷ [])) in
          inr (last ∙ count, some_is h g (sym (get_seam (heads_of nodes) h []) ∙ sym (ap (slice_get (heads_of nodes ++ h ∷ [])) last) ∙ there))

  new_there : slice_get (heads_of (nodes ++ node ∷ [])) (length nodes) ≡ Some h
  new_there = ap (λ hs. slice_get hs (length nodes)) heads_are ∙ subst (λ k. slice_get (heads_of nodes ++ h ∷ []) k ≡ Some h) count (get_seam (heads_of nodes) h [])

  -- what the longer index has at a head
  looked : (g : Head) → get head_cmp more g ≡ cond (is_eq (head_cmp h g)) (Some (length nodes)) (get head_cmp index g)
  looked g = updates.0 g

  indexed : (k : ℕ) (g : Head) → slice_get (heads_of (nodes ++ node ∷ [])) k ≡ Some g → get head_cmp more g ≡ Some k
  indexed k g e = pick (places k g e)
    where
      old : slice_get (heads_of nodes) k ≡ Some g → (r : Ordering) → head_cmp h g ≡ r → cond (is_eq r) (Some (length nodes)) (get head_cmp index g) ≡ Some k
      old there Equal is = absurd (lost (sym absent ∙ ap (get head_cmp index) (exact h g is) ∙ kept.indexed k g there))
        where
          lost : None ≡ Some k → ⊥
          lost e = cc
      old there Less is = kept.indexed k g there
      old there Greater is = kept.indexed k g there

      pick : (slice_get (heads_of nodes) k ≡ Some g) ⊎ ((k ≡ length nodes) × (h ≡ g)) → get head_cmp more g ≡ Some k
      pick (inl there) = looked g ∙ old there (head_cmp h g) refl
      pick (inr (last, is)) =
          looked g ∙ ap (λ b. cond b (Some (length nodes)) (get head_cmp index g)) (ap (λ x. is_eq (head_cmp h x)) (sym is) ∙ head_cmp_itself h) ∙ ap Some (sym last)

  found : (k : ℕ) (g : Head) → get head_cmp more g ≡ Some k → slice_get (heads_of (nodes ++ node ∷ [])) k ≡ Some g
  found k g e = pick (head_cmp h g) refl (sym (looked g) ∙ e)
    where
      old : get head_cmp index g ≡ Some k → slice_get (heads_of (nodes ++ node ∷ [])) k ≡ Some g
      old e =
          let there = kept.found k g e in
          kept_at (heads_of nodes) (heads_of (nodes ++ node ∷ [])) k grown (slice_get_within (heads_of nodes) k g there) ∙ there

      pick : (r : Ordering) → head_cmp h g ≡ r → cond (is_eq r) (Some (length nodes)) (get head_cmp index g) ≡ Some k → slice_get (heads_of (nodes ++ node ∷ [])) k ≡ Some g
      pick Equal is f =
          let place : length nodes ≡ k = some_is (length nodes) k f in
          subst (λ j. slice_get (heads_of (nodes ++ node ∷ [])) j ≡ Some g) place (new_there ∙ ap Some (exact h g is))
      pick Less is f = old f
      pick Greater is f = old f

  heads_fit : AreHeads (heads_of (nodes ++ node ∷ []))
  heads_fit = record {
    first = kept_at (heads_of nodes) (heads_of (nodes ++ node ∷ [])) 0 grown (slice_get_within (heads_of nodes) 0 Opaque kept.heads.first) ∙ kept.heads.first;
    fit = λ k g some e. fit k g some (places k g e);
    once = λ i j g e f. some_is i j (sym (indexed i g e) ∙ indexed j g f);
  }
    where
      fit : (k : ℕ) (g : Head) → 0 < k → (slice_get (heads_of nodes) k ≡ Some g) ⊎ ((k ≡ length nodes) × (h ≡ g)) → HeadFits k g
      fit k g some (inl there) = kept.heads.fit k g some there
      fit k g some (inr (last, is)) = subst (λ x. HeadFits k x) is (subst (λ n. HeadFits n h) (sym last) fits)

  types_are : types_by (heads_of (nodes ++ node ∷ [])) ≡ types_by (heads_of nodes) ++ type_of (types_by (heads_of nodes)) h ∷ []
  types_are = ap types_by heads_are ∙ types_append [] (heads_of nodes) (h ∷ [])

  pub pushed : IsKept (nodes ++ node ∷ []) more
  pushed = record {
    heads = heads_fit;
    indexed = indexed;
    found = found;
    facts = map-append (λ n. n.facts) nodes (node ∷ [])
        ∙ (λ i. kept.facts i ++ head_facts (kept.facts i) h ∷ [])
        ∙ ap (λ f. map type_facts (types_by (heads_of nodes)) ++ f ∷ []) (facts_are (types_by (heads_of nodes)) h)
        ∙ sym (map-append type_facts (types_by (heads_of nodes)) (type_of (types_by (heads_of nodes)) h ∷ []))
        ∙ sym (ap (map type_facts) types_are);
  }

  pub pushed_type : slice_get (types_by (heads_of (nodes ++ node ∷ []))) (length nodes) ≡ Some (type_of (types_by (heads_of nodes)) h)
  pushed_type =
      ap (λ ts. slice_get ts (length nodes)) types_are
      ∙ subst (λ k. slice_get (types_by (heads_of nodes) ++ type_of (types_by (heads_of nodes)) h ∷ []) k ≡ Some (type_of (types_by (heads_of nodes)) h))
      (count_is (heads_of nodes) ∙ count) (get_seam (types_by (heads_of nodes)) (type_of (types_by (heads_of nodes)) h) [])

-- the same nodes, and an index with the same entries
pub kept_same : (nodes nodes' : List Node) (index index' : BTreeMap Head ℕ) → IsKept nodes index → nodes' ≡ nodes → index'.entries ≡ index.entries → IsKept nodes' index'
kept_same nodes nodes' index index' kept same entries = subst (λ l. IsKept l index') (sym same) (record {
  heads = kept.heads;
  indexed = λ k h e. looked h ∙ kept.indexed k h e;
  found = λ k h e. kept.found k h (sym (looked h) ∙ e);
  facts = kept.facts;
})
  where
    looked : (h : Head) → get head_cmp index' h ≡ get head_cmp index h
    looked h = ap (lookup (is_at (head_cmp h))) entries
