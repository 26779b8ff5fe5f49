-- A write's line, and a copy's.
use Rattle.std.proofs.Common.{◌≡◌, ℕ, inl, true, Option, Some, None, List, [], ◌∷◌, ◌++◌, slice_get, length, refl, sym, ap, subst, ◌∙◌}
use Rattle.spec_ast.specs.Raw.{Tree, Trees, write_line}
use Rattle.spec_tree.specs.declared.expr.StateName.TheVariants.{New}
use Rattle.spec_tree.specs.Plain as tree
use Rattle.spec_tree.specs.Sorted.{Context, FieldSort, with_locals, lets_of}
use Rattle.spec_names.specs.Kernel.{Name}
use Rattle.spec_read.specs.Places.{Function, equivalence, invariant, property, handler}
use Rattle.spec_scope.specs.declared.meaning.Kind.TheVariants.{Number}
use Rattle.spec_scope.specs.declared.meaning.Meaning.TheVariants as means
use Rattle.spec_scope.specs.Scope.{Names, with_name, Scope, field_place, field_sort}
use Rattle.spec_scope.specs.Taking.{chain, take}
use Rattle.spec_lines.specs.Behind.{Head, Here, kind_of, is_handler}
use Rattle.spec_lines.specs.Faults.{Text, written_at}
use Rattle.spec_lines.specs.Laws.{Stands}
use Rattle.spec_lines.specs.Whole.{Made, write_at, sorted_write, written}
use Rattle.spec_sorts.specs.Laws.{KeysAreSorted}
use Rattle.spec_sound.proofs.Parts.{chain_is, none_some, some_is, no}
use Rattle.spec_sound.proofs.Meanings.{Means, AllNames, named}
use Rattle.spec_sound.proofs.Contexts.{is_behind, lets_same, lines_more}
use Rattle.spec_sound.proofs.Scopes.{sort_is, sort_there}
use Rattle.spec_sound.proofs.Bodies.{step_over, InHandler, InBody, InHead, widths_of}
use Rattle.spec_sound.proofs.Lets.{Known, matching}
use Rattle.spec_sound.proofs.Taken.{number_narrow, indices_sorted}

-- the write that a line makes
pub record IsWritten (s : Scope) (m : Made) (f : Name) (at : Option Trees) (e : Tree) (n : Made) : Type 0 where
  pub sort : FieldSort
  pub place : ℕ
  pub indices : tree.Trees
  pub number : tree.Tree
  pub has_sort : field_sort s f ≡ Some sort
  pub has_place : field_place s f ≡ Some place
  pub has_indices : written_at s sort.keys at ≡ Some indices
  pub has_number : take s [] (Number sort.width) e ≡ Some number
  pub made : ◌≡◌ {A = Made} (record m { lines = m.lines ++ tree.write_line place indices number ∷ [] }) n

placed_write : (o : Option ℕ) (m n : Made) (xs : tree.Trees) (y : tree.Tree) → write_at o m xs y ≡ Some n
    → (place : ℕ) × (o ≡ Some place) × ◌≡◌ {A = Made} (record m { lines = m.lines ++ tree.write_line place xs y ∷ [] }) n
placed_write None m n xs y made = absurd (none_some n made)
placed_write (Some place) m n xs y made = (place, refl, some_is _ n made)

pub is_written : (s : Scope) (m n : Made) (f : Name) (at : Option Trees) (e : Tree) → written s m f at e ≡ Some n → IsWritten s m f at e n
is_written s m n f at e made =
    let a = chain_is (field_sort s f) (sorted_write s m f at e) n made in
    let sort = a.0 in
    let b = chain_is (written_at s sort.keys at) (λ xs. chain (take s [] (Number sort.width) e) (λ y. write_at (field_place s f) m xs y)) n a.2 in
    let c = chain_is (take s [] (Number sort.width) e) (λ y. write_at (field_place s f) m b.0 y) n b.2 in
    let d = placed_write (field_place s f) m n b.0 c.0 c.2 in
    record { sort = a.0; place = d.0; indices = b.0; number = c.0; has_sort = a.1; has_place = d.1; has_indices = b.1; has_number = c.1; made = d.2 }

module _ (F : List FieldSort) (O : List ℕ) (t : Text) (h : Here) (known : Known F O h.scope) (keyed : KeysAreSorted) (x f : Name) (at : Option Trees) (e : Tree)
    (stands : Stands t h (write_line x f at e)) (m n : Made) (w : IsWritten h.scope m f at e n) where
  handler_write : (widths : List ℕ) (result : Option ℕ) → InHandler F O widths result h.scope.inner h.lets m.lines
      → InHandler F O widths result h.scope.inner h.lets (m.lines ++ tree.write_line w.place w.indices w.number ∷ [])
  handler_write widths result is =
      let base = step_over F O widths in
      let c = with_locals base (lets_of m.lines) in
      let l = tree.write_line w.place w.indices w.number in
      let matches = matching true F O h.scope base (lets_of m.lines) known (record { fields = refl; objects = refl; bounds = refl }) is.in_lines.names in
      let sort = sort_is F O h.scope f w.sort known.fixed w.has_sort in
      let number = known.taken true h.scope [] c (Number (w.sort).width) e w.number matches sort.wide (number_narrow t h x f at e stands) (inl refl) w.has_number in
      let field : slice_get c.fields w.place ≡ Some w.sort =
      ap (λ (fs : List FieldSort). slice_get fs w.place) (is_behind base (lets_of m.lines)).fields ∙ known.fixed.fields w.place w.sort (sort_there h.scope f w.place w.sort w.has_place w.has_sort) in
      let indices = indices_sorted keyed t h x f at e c w.sort w.indices stands matches sort w.has_indices in
      let same = sym (lets_same m.lines w.place w.indices w.number) in
      record {
        are_widths = is.are_widths;
        has_width = is.has_width;
        in_lines = record {
          names = subst (λ (ls : List tree.Tree). AllNames (Means true (with_locals base ls)) h.scope.inner) same is.in_lines.names;
          counted = subst (λ (ls : List tree.Tree). h.lets ≡ length (with_locals base ls).locals) same is.in_lines.counted;
          sorted = lines_more base m.lines l is.in_lines.sorted ((w.sort, field, indices, number.0, number.1), tt);
        };
      }

  body_write : (function : Option Function) (widths : List ℕ) (result : Option ℕ) → InBody F O function widths result h.scope.inner h.lets m.locals m.lines
      → InBody F O function widths result h.scope.inner h.lets m.locals (m.lines ++ tree.write_line w.place w.indices w.number ∷ [])
  body_write (Some equivalence) widths result is = is
  body_write (Some (invariant z)) widths result is = is
  body_write (Some (property z)) widths result is = is
  body_write (Some handler) widths result is = handler_write widths result is
  body_write None widths result is = tt

  pub head_write : (head : Option Head) (result : Option ℕ) → InHead F O h.scope.kernel head result h.scope.inner h.lets m.locals m.lines
      → InHead F O h.scope.kernel head result h.scope.inner h.lets m.locals (m.lines ++ tree.write_line w.place w.indices w.number ∷ [])
  head_write None result is = tt
  head_write (Some head) result is = body_write head.kind (widths_of h.scope.kernel head.name) result is

-- ---- a copy, of a handler

new_means : (base : Context) (es : List tree.Tree) → base.new ≡ true → Means true (with_locals base es) (means.State New)
new_means base es is = λ e. (is_behind base es).new ∙ is

body_copy : (F : List FieldSort) (O : List ℕ) (function : Option Function) (widths : List ℕ) (result : Option ℕ) (inner : Names) (lets : ℕ) (locals : List tree.Tree)
    (lines : List tree.Line) (x : Name) → is_handler function ≡ true → InBody F O function widths result inner lets locals lines
    → InBody F O function widths result (with_name inner x (means.State New)) lets locals lines
body_copy F O (Some equivalence) widths result inner lets locals lines x so is = absurd (no so)
body_copy F O (Some (invariant z)) widths result inner lets locals lines x so is = absurd (no so)
body_copy F O (Some (property z)) widths result inner lets locals lines x so is = absurd (no so)
body_copy F O (Some handler) widths result inner lets locals lines x so is =
    let base = step_over F O widths in
    record {
      are_widths = is.are_widths;
      has_width = is.has_width;
      in_lines = record {
        names = named (Means true (with_locals base (lets_of lines))) inner x (means.State New) is.in_lines.names (new_means base (lets_of lines) refl);
        counted = is.in_lines.counted;
        sorted = is.in_lines.sorted;
      };
    }
body_copy F O None widths result inner lets locals lines x so is = tt

pub head_copy : (F : List FieldSort) (O : List ℕ) (s : Scope) (head : Option Head) (result : Option ℕ) (lets : ℕ) (locals : List tree.Tree) (lines : List tree.Line) (x : Name)
    → is_handler (kind_of head) ≡ true → InHead F O s.kernel head result s.inner lets locals lines
    → InHead F O s.kernel head result (with_name s.inner x (means.State New)) lets locals lines
head_copy F O s None result lets locals lines x so is = tt
head_copy F O s (Some head) result lets locals lines x so is = body_copy F O head.kind (widths_of s.kernel head.name) result s.inner lets locals lines x so is
