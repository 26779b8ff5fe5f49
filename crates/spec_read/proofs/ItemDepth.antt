-- A line has an expression that is too deep just where it is not built up to the depth.
use Rattle.std.proofs.Common.{◌≡◌, ℕ, zero, suc, ◌≤◌, ◌<◌, max, Bool, true, false, ◌⊎◌, inl, inr, Some, None, List, [], ◌∷◌, ◌++◌, refl, sym, subst, ◌∙◌, arith}
use Rattle.std.specs.Prelude.{Any, nat_le}
use Rattle.std.proofs.lemmas.Bool.{leb-false, leb-true}
use Rattle.spec_ast.specs.Raw.{Tree, Trees, no_trees, tree_and, Item, let_line, write_line, return_line, end_line, def_line}
use Rattle.spec_ast.specs.Depth.{depth, depths, tree_list}
use Rattle.spec_expr.specs.Grown.{built, too_deep, lift, limited}
use Rattle.spec_expr.proofs.GrownLaws.{over, bounded_lift, bounded_join}
use Rattle.spec_read.specs.Texts.{IsS4, is_def}
use Rattle.spec_read.specs.ItemReading.{same_depth, limited_item}
use Rattle.spec_read.proofs.ItemComplete.{item_depth, kept_item, built_is}

abbrev IsDeep : Tree → Type 0
IsDeep e = 101 ≤ depth e

here : (e : Tree) (es : List Tree) → IsDeep e → Any IsDeep (e ∷ es)
here e es deep = (0, e, omega arith, refl, deep)

there : (e : Tree) (es : List Tree) → Any IsDeep es → Any IsDeep (e ∷ es)
there e es (k, x, within, is, deep) = (suc k, x, omega (arith, within), is, deep)

-- the first is deep, or one of the others
first_or : (e : Tree) (es : List Tree) → Any IsDeep (e ∷ es) → IsDeep e ⊎ Any IsDeep es
first_or e es (zero, x, within, is, deep) = inl (subst IsDeep (sym is) deep)
first_or e es (suc k, x, within, is, deep) = inr (k, x, omega (arith, within), is, deep)

nothing_deep : Any IsDeep [] → ⊥
nothing_deep (k, x, within, is, deep) = absurd (omega (arith, within))

in_front : (es fs : List Tree) → Any IsDeep es → Any IsDeep (es ++ fs)
in_front [] fs any = absurd (nothing_deep any)
in_front (e ∷ es) fs any = elim (first_or e es any) [ inl deep ↦ here e (es ++ fs) deep | inr others ↦ there e (es ++ fs) (in_front es fs others) ]

behind : (es fs : List Tree) → Any IsDeep fs → Any IsDeep (es ++ fs)
behind [] fs any = any
behind (e ∷ es) fs any = there e (es ++ fs) (behind es fs any)

either : (es fs : List Tree) → Any IsDeep (es ++ fs) → Any IsDeep es ⊎ Any IsDeep fs
either [] fs any = inr any
either (e ∷ es) fs any =
    elim (first_or e (es ++ fs) any) [
      | inl deep ↦ inl (here e es deep)
      | inr others ↦ elim (either es fs others) [ inl left ↦ inl (there e es left) | inr right ↦ inr right ]
    ]

trees_by : (e : Tree) (es : Trees) (p : Bool) → nat_le 101 (depth e) ≡ p → (100 < depths es → Any IsDeep (tree_list es)) → 100 < max (depth e) (depths es) → Any IsDeep (e ∷ tree_list es)
trees_by e es true is others deep = here e (tree_list es) (leb-true 101 (depth e) is)
trees_by e es false is others deep = there e (tree_list es) (others (let low : depth e < 101 = leb-false 101 (depth e) is in omega (arith, low, deep)))

deep_trees : (es : Trees) → 100 < depths es → Any IsDeep (tree_list es)
deep_trees no_trees deep = absurd (omega (arith, deep))
deep_trees (tree_and e es) deep = trees_by e es (nat_le 101 (depth e)) refl (deep_trees es) deep

shallow_trees : (es : Trees) → depths es ≤ 100 → Any IsDeep (tree_list es) → ⊥
shallow_trees no_trees low any = nothing_deep any
shallow_trees (tree_and e es) low any =
    elim (first_or e (tree_list es) any) [
      | inl deep ↦ absurd (omega (arith, low, deep))
      | inr others ↦ shallow_trees es (omega (arith, low)) others
    ]

one_deep : (e : Tree) → 100 < depth e → Any IsDeep (e ∷ [])
one_deep e deep = here e [] (omega (arith, deep))

one_shallow : (e : Tree) → depth e ≤ 100 → Any IsDeep (e ∷ []) → ⊥
one_shallow e low any = elim (first_or e [] any) [ inl deep ↦ absurd (omega (arith, low, deep)) | inr others ↦ nothing_deep others ]

keyed_by : (es : Trees) (e : Tree) (p : Bool) → nat_le 101 (depth e) ≡ p → 100 < max (depths es) (depth e) → Any IsDeep (tree_list es ++ e ∷ [])
keyed_by es e true is deep = behind (tree_list es) (e ∷ []) (here e [] (leb-true 101 (depth e) is))
keyed_by es e false is deep = in_front (tree_list es) (e ∷ []) (deep_trees es (let low : depth e < 101 = leb-false 101 (depth e) is in omega (arith, low, deep)))

two_by : (e r : Tree) (p : Bool) → nat_le 101 (depth e) ≡ p → 100 < max (depth e) (depth r) → Any IsDeep (e ∷ r ∷ [])
two_by e r true is deep = here e (r ∷ []) (leb-true 101 (depth e) is)
two_by e r false is deep = there e (r ∷ []) (one_deep r (let low : depth e < 101 = leb-false 101 (depth e) is in omega (arith, low, deep)))

pub deep_item : (item : Item) → 100 < item_depth item → IsS4 item
deep_item (let_line x e) deep = one_deep e deep
deep_item (write_line c f None e) deep = one_deep e deep
deep_item (write_line c f (Some es) e) deep = keyed_by es e (nat_le 101 (depth e)) refl deep
deep_item (return_line e) deep = one_deep e deep
deep_item (end_line e s None) deep = one_deep e deep
deep_item (end_line e s (Some r)) deep = two_by e r (nat_le 101 (depth e)) refl deep
deep_item _ deep = absurd (omega (arith, deep))

pub shallow_item : (item : Item) → item_depth item ≤ 100 → IsS4 item → ⊥
shallow_item (let_line x e) low any = one_shallow e low any
shallow_item (write_line c f None e) low any = one_shallow e low any
shallow_item (write_line c f (Some es) e) low any =
    elim (either (tree_list es) (e ∷ []) any) [
      | inl left ↦ shallow_trees es (omega (arith, low)) left
      | inr right ↦ one_shallow e (omega (arith, low)) right
    ]
shallow_item (return_line e) low any = one_shallow e low any
shallow_item (end_line e s None) low any = one_shallow e low any
shallow_item (end_line e s (Some r)) low any =
    elim (first_or e (r ∷ []) any) [
      | inl deep ↦ absurd (omega (arith, low, deep))
      | inr others ↦ one_shallow r (omega (arith, low)) others
    ]
shallow_item _ low any = nothing_deep any

-- ---- lines that are not built

lift_deep : (most : ℕ) (f : Tree → Item) (e : Tree) → most < depth e → lift most f same_depth (limited most e) ≡ too_deep
lift_deep most f e deep = bounded_lift most f same_depth e (depth e) (omega arith) ∙ sym (over most (f e) (depth e) deep)

pub deep_limited : (most : ℕ) (item : Item) → most < item_depth item → limited_item most item ≡ too_deep
deep_limited most (let_line x e) deep = lift_deep most (let_line x) e deep
deep_limited most (write_line c f None e) deep = lift_deep most (write_line c f None) e deep
deep_limited most (write_line c f (Some es) e) deep =
    bounded_join most (λ (at : Trees) (x : Tree). write_line c f (Some at) x) max es (depths es) e (depth e) (omega arith) (omega arith)
    ∙ sym (over most (write_line c f (Some es) e) (max (depths es) (depth e)) deep)
deep_limited most (return_line e) deep = lift_deep most return_line e deep
deep_limited most (end_line e s None) deep = lift_deep most (λ x. end_line x s None) e deep
deep_limited most (end_line e s (Some r)) deep =
    bounded_join most (λ (x y : Tree). end_line x s (Some y)) max e (depth e) r (depth r) (omega arith) (omega arith)
    ∙ sym (over most (end_line e s (Some r)) (max (depth e) (depth r)) deep)
deep_limited most _ deep = absurd (omega (arith, deep))

pub deep_is_no_def : (item : Item) → too_deep ≡ limited_item 100 item → is_def item ≡ false
deep_is_no_def (def_line x xs) is = absurd cc
deep_is_no_def _ is = refl

-- what is not built has a tree that is too deep
too_deep_by : (item : Item) (p : Bool) → nat_le (item_depth item) 100 ≡ p → too_deep ≡ limited_item 100 item → IsS4 item
too_deep_by item true is deep = let both : too_deep ≡ built item (item_depth item) = deep ∙ kept_item 100 item (leb-true (item_depth item) 100 is) in absurd cc
too_deep_by item false is deep = deep_item item (leb-false (item_depth item) 100 is)

pub too_deep_is : (item : Item) → too_deep ≡ limited_item 100 item → IsS4 item
too_deep_is item deep = too_deep_by item (nat_le (item_depth item) 100) refl deep

-- what is built is the line, and no tree of it is too deep
pub record Kept (item built_item : Item) : Type 0 where
  pub same : item ≡ built_item
  pub fine : IsS4 item → ⊥

kept_by : (item other : Item) (d : ℕ) (p : Bool) → nat_le (item_depth item) 100 ≡ p → built other d ≡ limited_item 100 item → Kept item other
kept_by item other d true is whole = record {
  same = built_is item other (item_depth item) d (sym (whole ∙ kept_item 100 item (leb-true (item_depth item) 100 is)));
  fine = shallow_item item (leb-true (item_depth item) 100 is);
}
kept_by item other d false is whole =
    let both : built other d ≡ too_deep = whole ∙ deep_limited 100 item (leb-false (item_depth item) 100 is) in absurd cc

pub kept_is : (item other : Item) (d : ℕ) → built other d ≡ limited_item 100 item → Kept item other
kept_is item other d whole = kept_by item other d (nat_le (item_depth item) 100) refl whole
