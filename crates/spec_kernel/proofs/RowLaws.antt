-- Rows that are added one by one.
use Rattle.std.proofs.Common.{◌≡◌, ℕ, ◌+◌, ◌<◌, ◌≤◌, List, [], ◌∷◌, ◌++◌, Option, Some, None, option_map, map, drop, length, refl, sym, ◌∙◌, ap, subst, arith}
use Rattle.std.specs.Prelude.{slice_get}
use Rattle.std.specs.List.{All}
use Rattle.std.proofs.lemmas.List.{length-map, map_push}
use Rattle.std.proofs.lemmas.List.Elements.{All-head, All-tail, All-push, All-weaker}
use Rattle.std.proofs.lemmas.Option.{slice_get-map}
use Rattle.ir_ast.specs.Program.{GlobalView, ModuleView}
use Rattle.ir_ast.specs.ProgramView.{view_entries}
use Rattle.ir_type.specs.Whole.{meant}
use Rattle.ir_type.proofs.Places.{some_same}
use Rattle.ir_layout.specs.Sizes.{object_size}
use Rattle.ir_layout.specs.Layouts.{LayoutView, IsLayoutOf}
use Rattle.ir_layout.proofs.Turns.{map_more}
use Rattle.ir_measure.specs.declared.shapes.Shapes.{Shapes}
use Rattle.ir_measure.specs.Shaped.{type_in, count_of}
use Rattle.spec_kernel.specs.declared.rows.GlobalRow.{GlobalRow}
use Rattle.spec_kernel.specs.View.{shape_of, global_of}
use Rattle.spec_kernel.specs.Bounded.{IsBounded}
use Rattle.spec_kernel.specs.Seen.{see_global, global_in, IsShape}
use Rattle.spec_kernel.proofs.BoundedLaws.{layout_bounds}

pub rows_more : {R X Y : Type 0} (h : R → Y) (f : X → Y) (xs : List X) (i : ℕ) (x : X) (out more : List R) (r : R) (whole : List Y) → slice_get xs i ≡ Some x → more ≡ out ++ r ∷ [] → h r ≡ f x
    → map h out ++ map f (drop i xs) ≡ whole → map h more ++ map f (drop (i + 1) xs) ≡ whole
rows_more h f xs i x out more r whole there added is so_far = map_more f xs i x (map h out) (map h more) (h r) whole there (ap (map h) added ∙ map_push h out r) is so_far

abbrev viewed : {E V : Type 0} → (E → V) → List ℕ → E → Option (List ℕ × V)
viewed view y f = Some (y, view f)

same_pair : {E V : Type 0} (view : E → V) (y x : List ℕ) (f e : E) → y ≡ x → f ≡ e → viewed view y f ≡ viewed view x e
same_pair view y x f e a b = ap (λ z. viewed view z f) a ∙ ap (λ z. viewed view x z) b

-- the entry at a place with its name
pub named_entry : {E V : Type 0} (view : E → V) (table : List (List ℕ × E)) (place : ℕ) (x : List ℕ) (e : E) → option_map (λ entry. entry.0) (slice_get table place) ≡ Some x
    → option_map (λ entry. entry.1) (slice_get table place) ≡ Some e → slice_get (view_entries view table) place ≡ Some (x, view e)
named_entry {E} {V} view table place x e name entry = slice_get-map (λ entry. (entry.0, view entry.1)) table place ∙ both (slice_get table place) name entry
  where
    both : (o : Option (List ℕ × E)) → option_map (λ entry. entry.0) o ≡ Some x → option_map (λ entry. entry.1) o ≡ Some e → option_map {U = List ℕ × V} (λ entry. (entry.0, view entry.1)) o ≡ viewed view x e
    both None a b = absurd cc
    both (Some p) a b = same_pair view p.0 x p.1 e (some_same p.0 x a) (some_same p.1 e b)

pub rows_count : {R X Y : Type 0} (h : R → Y) (f : X → Y) (rows : List R) (xs : List X) → map h rows ≡ map f xs → length rows ≡ length xs
rows_count h f rows xs e = sym (length-map rows h) ∙ ap length e ∙ length-map xs f

pub fused : {X Y Z : Type 0} (f : Y → Z) (g : X → Y) (xs : List X) → map f (map g xs) ≡ map (λ x. f (g x)) xs
fused f g [] = refl
fused f g (x ∷ xs) = ap (λ ys. f (g x) ∷ ys) (fused f g xs)

-- ---- globals, as types are added

module _ (a b : Shapes) (longer : count_of a ≤ count_of b) (keeps : (k : ℕ) → k < count_of a → type_in b k ≡ type_in a k) where
  rows_kept : (rows : List GlobalRow) → All (λ r. IsShape a r.shape) rows → map (λ r. global_in b (see_global r)) rows ≡ map (λ r. global_in a (see_global r)) rows
  rows_kept [] all = refl
  rows_kept (r ∷ rows) all =
      ap (λ s. record { name = r.name.now; size = r.size; shape = s } ∷ map (λ r. global_in b (see_global r)) rows) (ap shape_of (keeps r.shape (All-head (λ (r : GlobalRow). IsShape a r.shape) r rows all).0))
      ∙ ap (λ xs. global_in a (see_global r) ∷ xs) (rows_kept rows (All-tail (λ (r : GlobalRow). IsShape a r.shape) r rows all))

  known_kept : (rows : List GlobalRow) → All (λ r. IsShape a r.shape) rows → All (λ r. IsShape b r.shape) rows
  known_kept rows all =
      All-weaker (λ (r : GlobalRow). IsShape a r.shape) (λ (r : GlobalRow). IsShape b r.shape)
      (λ r h. ((let l = h.0 in omega (arith, l, longer)), subst IsBounded (sym (keeps r.shape h.0)) h.1)) rows all

  module _ (m : ModuleView) (l : LayoutView) (laid : IsLayoutOf m l) (place : ℕ) (x : List ℕ) (g : GlobalView) (there : slice_get m.globals place ≡ Some (x, g))
      (rows more : List GlobalRow) (r : GlobalRow) (n size : ℕ) (within : n < count_of b) (type_is : type_in b n ≡ meant m.types g.over)
      (sized : slice_get (map (λ g. object_size m.types g.1) m.globals) place ≡ Some size) (named : r.name.now ≡ x) (own : r.size ≡ size) (shaped : r.shape ≡ n)
      (added : more ≡ rows ++ r ∷ []) (known : All (λ r. IsShape a r.shape) rows) where
    row_is : global_in b (see_global r) ≡ global_of m.types (x, g)
    row_is =
        ap (λ y. record { name = y; size = r.size; shape = shape_of (type_in b r.shape) }) named
        ∙ ap (λ s. record { name = x; size = s; shape = shape_of (type_in b r.shape) }) (own ∙ size_is)
        ∙ ap (λ k. record { name = x; size = object_size m.types g; shape = shape_of (type_in b k) }) shaped
        ∙ ap (λ t. record { name = x; size = object_size m.types g; shape = shape_of t }) type_is
      where
        size_is : size ≡ object_size m.types g
        size_is = some_same size (object_size m.types g) (sym sized ∙ slice_get-map (λ g. object_size m.types g.1) m.globals place ∙ ap (option_map (λ g. object_size m.types g.1)) there)

    pub global_more : map (λ r. global_in a (see_global r)) rows ++ map (global_of m.types) (drop place m.globals) ≡ map (global_of m.types) m.globals
        → map (λ r. global_in b (see_global r)) more ++ map (global_of m.types) (drop (place + 1) m.globals) ≡ map (global_of m.types) m.globals
    global_more so_far =
        rows_more (λ r. global_in b (see_global r)) (global_of m.types) m.globals place (x, g) rows more r (map (global_of m.types) m.globals) there added row_is
        (ap (λ ys. ys ++ map (global_of m.types) (drop place m.globals)) (rows_kept rows known) ∙ so_far)

    pub known_more : All (λ r. IsShape b r.shape) more
    known_more =
        subst (All (λ r. IsShape b r.shape)) (sym added)
        (All-push (λ (r : GlobalRow). IsShape b r.shape) rows r (known_kept rows known)
        (subst (λ k. IsShape b k) (sym shaped) (within, subst IsBounded (sym type_is) (layout_bounds m l laid place x g there))))
