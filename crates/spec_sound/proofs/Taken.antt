-- Expressions that a function's lines take, behind its local names.
use Rattle.std.proofs.Common.{◌≡◌, inl, Bool, true, false, ◌||◌, Option, Some, None, List, [], ◌∷◌, All, refl, sym, ap, subst, ◌∙◌}
use Rattle.std.specs.List.{list_any}
use Rattle.std.proofs.lemmas.List.Folds.{list_any-append}
use Rattle.spec_ast.specs.declared.fault.SpecReason.TheVariants.{S12}
use Rattle.spec_ast.specs.Raw.{Tree, Trees, no_trees, tree_and, Item, let_line, write_line, return_line, end_line}
use Rattle.spec_ast.specs.Depth.{tree_list, optional_trees}
use Rattle.spec_tree.specs.Plain as tree
use Rattle.spec_tree.specs.Plain.{Key}
use Rattle.spec_tree.specs.Sorted.{Context, FieldSort, IsFieldSort, IsWidth, AreIndices}
use Rattle.spec_names.specs.Kernel.{Name}
use Rattle.spec_scope.specs.Taking.{no_keys}
use Rattle.spec_scope.specs.Tests.{somewhere, somewhere_among, is_wide}
use Rattle.spec_lines.specs.Behind.{Here}
use Rattle.spec_lines.specs.Faults.{Text, on_line, written_at, is_large_line}
use Rattle.spec_lines.specs.Laws.{Stands}
use Rattle.spec_sorts.specs.Matching.{Matches}
use Rattle.spec_sorts.specs.Laws.{KeysAreSorted}
use Rattle.spec_sound.proofs.Parts.{neither, none_some, some_is}

-- ---- no expression of a line is wide

pub among_list : (test : List Name → Tree → Bool) (b : List Name) (es : Trees) → list_any (somewhere test b) (tree_list es) ≡ somewhere_among test b es
among_list test b no_trees = refl
among_list test b (tree_and e es) = ap (λ t. somewhere test b e || t) (among_list test b es)

pub line_narrow : (t : Text) (h : Here) (item : Item) → Stands t h item → on_line (is_wide h.scope) item ≡ false
line_narrow t h item stands = (neither (is_large_line h item) (on_line (is_wide h.scope) item) (stands S12)).1

pub let_narrow : (t : Text) (h : Here) (x : Name) (e : Tree) → Stands t h (let_line x e) → somewhere (is_wide h.scope) [] e ≡ false
let_narrow t h x e stands = (neither (somewhere (is_wide h.scope) [] e) false (line_narrow t h (let_line x e) stands)).0

pub return_narrow : (t : Text) (h : Here) (e : Tree) → Stands t h (return_line e) → somewhere (is_wide h.scope) [] e ≡ false
return_narrow t h e stands = (neither (somewhere (is_wide h.scope) [] e) false (line_narrow t h (return_line e) stands)).0

pub end_narrow : (t : Text) (h : Here) (e : Tree) (c : Name) (r : Option Tree) → Stands t h (end_line e c r) → somewhere (is_wide h.scope) [] e ≡ false
end_narrow t h e c None stands = (neither (somewhere (is_wide h.scope) [] e) false (line_narrow t h (end_line e c None) stands)).0
end_narrow t h e c (Some r) stands = (neither (somewhere (is_wide h.scope) [] e) (somewhere (is_wide h.scope) [] r || false) (line_narrow t h (end_line e c (Some r)) stands)).0

pub result_narrow : (t : Text) (h : Here) (e : Tree) (c : Name) (r : Tree) → Stands t h (end_line e c (Some r)) → somewhere (is_wide h.scope) [] r ≡ false
result_narrow t h e c r stands =
    let p = neither (somewhere (is_wide h.scope) [] e) (somewhere (is_wide h.scope) [] r || false) (line_narrow t h (end_line e c (Some r)) stands) in
    (neither (somewhere (is_wide h.scope) [] r) false p.1).0

write_parts : (t : Text) (h : Here) (c f : Name) (at : Option Trees) (e : Tree) → Stands t h (write_line c f at e)
    → (list_any (somewhere (is_wide h.scope) []) (optional_trees at) || (somewhere (is_wide h.scope) [] e || false)) ≡ false
write_parts t h c f at e stands =
    sym (list_any-append (somewhere (is_wide h.scope) []) (optional_trees at) (e ∷ [])) ∙ line_narrow t h (write_line c f at e) stands

pub number_narrow : (t : Text) (h : Here) (c f : Name) (at : Option Trees) (e : Tree) → Stands t h (write_line c f at e) → somewhere (is_wide h.scope) [] e ≡ false
number_narrow t h c f at e stands =
    let p = neither (list_any (somewhere (is_wide h.scope) []) (optional_trees at)) (somewhere (is_wide h.scope) [] e || false) (write_parts t h c f at e stands) in
    (neither (somewhere (is_wide h.scope) [] e) false p.1).0

pub indices_narrow : (t : Text) (h : Here) (c f : Name) (at : Trees) (e : Tree) → Stands t h (write_line c f (Some at) e) → somewhere_among (is_wide h.scope) [] at ≡ false
indices_narrow t h c f at e stands =
    sym (among_list (is_wide h.scope) [] at)
    ∙ (neither (list_any (somewhere (is_wide h.scope) []) (tree_list at)) (somewhere (is_wide h.scope) [] e || false) (write_parts t h c f (Some at) e stands)).0

-- ---- the indices of a write

no_keys_are : (c : Context) (keys : List Key) (xs : tree.Trees) → no_keys keys tree.no_trees ≡ Some xs → AreIndices c keys xs
no_keys_are c [] xs e = subst (AreIndices c []) (some_is tree.no_trees xs e) refl
no_keys_are c (key ∷ keys) xs e = absurd (none_some xs e)

keys_wide : (sort : FieldSort) → IsFieldSort sort → All (λ k. IsWidth k.width) sort.keys
keys_wide sort is = λ k d l. (is.keyed k d l).0

pub indices_sorted : (keyed : KeysAreSorted) (t : Text) (h : Here) (c : Name) (f : Name) (at : Option Trees) (e : Tree) (context : Context) (sort : FieldSort) (xs : tree.Trees)
    → Stands t h (write_line c f at e) → Matches true h.scope [] context → IsFieldSort sort → written_at h.scope sort.keys at ≡ Some xs → AreIndices context sort.keys xs
indices_sorted keyed t h c f None e context sort xs stands m is made = no_keys_are context sort.keys xs made
indices_sorted keyed t h c f (Some at) e context sort xs stands m is made =
    keyed true h.scope [] context sort.keys at xs m (keys_wide sort is) (indices_narrow t h c f at e stands) (inl refl) made
