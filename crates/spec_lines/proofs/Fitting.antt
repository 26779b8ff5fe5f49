-- A line fits just where its sorts are within their limits and what it adds is given.
use Rattle.std.proofs.Common.{◌≡◌, Bool, true, false, Option, Some, None, [], ◌∷◌, ◌++◌, refl, sym, ap, ◌∙◌}
use Rattle.std.specs.Prelude.{ℕ, ◌&&◌, if◌then◌else◌, is_some, option_and_then}
use Rattle.spec_ast.specs.Raw.{Tree, Trees, Item, sort_line, constant_line, hook_line, class_line, field_line, def_line, var_line, let_line, copy_line, write_line, return_line, end_line}
use Rattle.spec_tree.specs.Plain as tree
use Rattle.spec_tree.specs.Sorted.{FieldSort}
use Rattle.spec_read.specs.Places.{Function, equivalence, invariant, property, handler}
use Rattle.spec_scope.specs.declared.meaning.Kind.{Kind}
use Rattle.spec_scope.specs.declared.meaning.Kind.TheVariants.{Truth, Number}
use Rattle.spec_scope.specs.Scope.{Scope, field_place, sort_at, own}
use Rattle.spec_scope.specs.Taking.{chain, one, take}
use Rattle.spec_lines.specs.Sorts.{sort_for, key_for, field_sort_for}
use Rattle.spec_lines.specs.Behind.{Here, kind_of, is_equivalence, is_handler, let_kind, skips}
use Rattle.spec_lines.specs.Faults.{fits_let, fits_write, fits_result, fits_line, fits_own, written_at, values_of}
use Rattle.spec_lines.specs.Lines.{sorts_fit}
use Rattle.spec_lines.specs.Whole.{Made, put_let, write_at, return_made, equivalence_made, with_invariant, with_property, nothing_where, result_at, result_made, end_made, made_behind}

some_of : {A B : Type 0} (f : A → B) (o : Option A) → is_some o ≡ is_some (one f o)
some_of f None = refl
some_of f (Some x) = refl

both_of : {A B C : Type 0} (f : A → B → C) (o : Option A) (q : Option B) → (is_some o && is_some q) ≡ is_some (chain o (λ x. chain q (λ y. Some (f x y))))
both_of f None q = refl
both_of f (Some x) None = refl
both_of f (Some x) (Some y) = refl

each_of : {A B C : Type 0} (f : A → B → C) (o : Option A) (q : Option B) → (is_some o && is_some q) ≡ is_some (chain o (λ x. one (f x) q))
each_of f None q = refl
each_of f (Some x) None = refl
each_of f (Some x) (Some y) = refl

with_true : (b : Bool) → b ≡ (b && true)
with_true true = refl
with_true false = refl

let_fits : (s : Scope) (e : Tree) (f : tree.Tree → Made) (o : Option Kind) → fits_let s o e ≡ is_some (chain o (λ kind. one f (take s [] kind e)))
let_fits s e f None = refl
let_fits s e f (Some kind) = some_of f (take s [] kind e)

write_fits : (s : Scope) (m : Made) (at : Option Trees) (e : Tree) (place : Option ℕ)
    → fits_write s (option_and_then (sort_at s.fields) place) at e
    ≡ is_some (chain (option_and_then (sort_at s.fields) place)
    (λ sort. chain (written_at s sort.keys at) (λ xs. chain (take s [] (Number sort.width) e) (λ y. write_at place m xs y))))
write_fits s m at e None = refl
write_fits s m at e (Some k) = by_sort (sort_at s.fields k) where
  by_sort : (o : Option FieldSort) → fits_write s o at e
      ≡ is_some (chain o (λ sort. chain (written_at s sort.keys at) (λ xs. chain (take s [] (Number sort.width) e) (λ y. write_at (Some k) m xs y))))
  by_sort None = refl
  by_sort (Some sort) =
      both_of (λ xs y. record m { lines = m.lines ++ tree.write_line k xs y ∷ [] }) (written_at s sort.keys at) (take s [] (Number sort.width) e)

return_fits : (s : Scope) (m : Made) (e : Tree) (k : Option Function)
    → (if is_equivalence k then is_some (values_of s e) else is_some (take s [] Truth e)) ≡ is_some (return_made k s m e)
return_fits s m e None = some_of (λ y. m) (take s [] Truth e)
return_fits s m e (Some equivalence) = some_of (equivalence_made s m) (values_of s e)
return_fits s m e (Some (invariant x)) = some_of (with_invariant x m) (take s [] Truth e)
return_fits s m e (Some (property x)) = some_of (with_property x m) (take s [] Truth e)
return_fits s m e (Some handler) = some_of (λ y. m) (take s [] Truth e)

fitting : (b : Bool) → b ≡ is_some (nothing_where b)
fitting true = refl
fitting false = refl

result_at_fits : (s : Scope) (w : Option ℕ) (r : Tree) → fits_result s w (Some r) ≡ is_some (result_at s w r)
result_at_fits s None r = fitting (fits_own s (own s r) r)
result_at_fits s (Some w) r = some_of Some (take s [] (Number w) r)

result_fits : (h : Here) (r : Option Tree) → fits_result h.scope h.result r ≡ is_some (result_made h r)
result_fits h None = refl
result_fits h (Some r) = result_at_fits h.scope h.result r

pub fits_where_made : (h : Here) (m : Made) (item : Item) → fits_line h item ≡ (sorts_fit h item && is_some (made_behind h m item))
fits_where_made h m (sort_line x sort) = with_true (is_some (sort_for h.scope sort))
fits_where_made h m (constant_line x n) = refl
fits_where_made h m (hook_line x) = refl
fits_where_made h m (class_line x) = refl
fits_where_made h m (field_line x keys entry) = with_true (is_some (field_sort_for h.scope keys entry))
fits_where_made h m (def_line x parameters) = refl
fits_where_made h m (var_line x sort) = with_true (is_some (key_for h.scope sort))
fits_where_made h m (let_line x e) = let_fits h.scope e (put_let (skips h e) (is_handler (kind_of h.head)) m) (let_kind h.scope e)
fits_where_made h m (copy_line x o) = refl
fits_where_made h m (write_line c f at e) = write_fits h.scope m at e (field_place h.scope f)
fits_where_made h m (return_line e) = return_fits h.scope m e (kind_of h.head)
fits_where_made h m (end_line e c r) =
    ap (λ b. is_some (take h.scope [] Truth e) && b) (result_fits h r)
    ∙ each_of (λ valid y. end_made h m c valid y h.head) (take h.scope [] Truth e) (result_made h r)

pub fits_made : (h : Here) (m : Made) (item : Item) (sorts : Bool) → sorts ≡ sorts_fit h item → sorts ≡ true → fits_line h item ≡ is_some (made_behind h m item)
fits_made h m item sorts is holds = fits_where_made h m item ∙ ap (λ b. b && is_some (made_behind h m item)) (sym is ∙ holds)
