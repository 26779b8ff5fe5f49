-- The return line of a handler: what it adds is well sorted.
use Rattle.std.proofs.Common.{◌≡◌, ℕ, ◌≤◌, inl, Bool, true, false, is_none, Option, Some, None, List, [], refl, subst, arith}
use Rattle.spec_ast.specs.declared.fault.SpecReason.TheVariants.{S11}
use Rattle.spec_ast.specs.Raw.{Tree, end_line}
use Rattle.spec_tree.specs.Plain as tree
use Rattle.spec_tree.specs.Plain.{Field, Named, Transition}
use Rattle.spec_tree.specs.Sorted.{Context, FieldSort, IsSorted, IsWidth, width_of, with_locals, lets_of, IsResult}
use Rattle.spec_names.specs.Kernel.{Name}
use Rattle.spec_read.specs.Places.{Function, equivalence, invariant, property, handler}
use Rattle.spec_scope.specs.declared.meaning.Kind.TheVariants.{Truth, Number}
use Rattle.spec_scope.specs.Taking.{one, take}
use Rattle.spec_scope.specs.Tests.{somewhere, is_wide}
use Rattle.spec_lines.specs.Behind.{Head, Here, is_handler}
use Rattle.spec_lines.specs.Faults.{Text}
use Rattle.spec_lines.specs.Laws.{Stands}
use Rattle.spec_lines.specs.Whole.{Made, result_at, result_made, result_width, transition_with, with_transition, head_made, end_made, ended}
use Rattle.spec_sound.proofs.Parts.{no, not_so, chain_is, one_is, some_is}
use Rattle.spec_sound.proofs.Bodies.{step_over, HasWidth, InHandler, InBody, InHead, widths_of}
use Rattle.spec_sound.proofs.Lets.{Known, matching}
use Rattle.spec_sound.proofs.Taken.{end_narrow, result_narrow}
use Rattle.spec_sound.proofs.Sounds.{IsStep, Sound, with_one}

module _ (F : List FieldSort) (O : List ℕ) (t : Text) (h : Here) (known : Known F O h.scope) where
  given_width : (o : Option ℕ) → HasWidth o → result_width o ≤ 64
  given_width None is = omega arith
  given_width (Some w) is = is.1

  at_width : (c : Context) (e : Tree) (x : Name) (r : Tree) (w : Option ℕ) (o : Option tree.Tree) → Stands t h (end_line e x (Some r)) → is_none w ≡ false
      → HasWidth w → ((z : Tree) (y : tree.Tree) (v : ℕ) → IsWidth v → somewhere (is_wide h.scope) [] z ≡ false → take h.scope [] (Number v) z ≡ Some y → IsSorted c y × (width_of c y ≡ v))
      → result_at h.scope w r ≡ Some o → IsResult c (result_width w) o
  at_width c e x r None o stands some wide taken made = absurd (not_so some)
  at_width c e x r (Some v) o stands some wide taken made =
      let p = one_is Some (take h.scope [] (Number v) r) o made in
      let q = taken r p.0 v wide (result_narrow t h e x r stands) p.1 in
      subst (IsResult c v) p.2 (wide, q.0, q.1)

  result_sorted : (c : Context) (e : Tree) (x : Name) (r : Option Tree) (o : Option tree.Tree) → Stands t h (end_line e x r) → HasWidth h.result
      → ((z : Tree) (y : tree.Tree) (w : ℕ) → IsWidth w → somewhere (is_wide h.scope) [] z ≡ false → take h.scope [] (Number w) z ≡ Some y → IsSorted c y × (width_of c y ≡ w))
      → result_made h r ≡ Some o → IsResult c (result_width h.result) o
  result_sorted c e x None o stands wide taken made = subst (IsResult c (result_width h.result)) (some_is None o made) (given_width h.result wide)
  result_sorted c e x (Some r) o stands wide taken made = at_width c e x r h.result o stands (stands S11) wide taken made

  step_sorted : (m : Made) (e : Tree) (x : Name) (r : Option Tree) (head : Head) (place : ℕ) (valid : tree.Tree) (result : Option tree.Tree) → Stands t h (end_line e x r)
      → InHandler F O (widths_of h.scope.kernel head.name) h.result h.scope.inner h.lets m.lines → take h.scope [] Truth e ≡ Some valid → result_made h r ≡ Some result
      → IsStep F O (transition_with h m.lines x head place valid result)
  step_sorted m e x r head place valid result stands is has made =
      let base = step_over F O (widths_of h.scope.kernel head.name) in
      let c = with_locals base (lets_of m.lines) in
      let matches = matching true F O h.scope base (lets_of m.lines) known (record { fields = refl; objects = refl; bounds = refl }) is.in_lines.names in
      let p = known.taken true h.scope [] c Truth e valid matches tt (end_narrow t h e x r stands) (inl refl) has in
      record {
        widths = is.are_widths;
        lines = is.in_lines.sorted;
        valid = p.0;
        truth = p.1;
        result = result_sorted c e x r result stands is.has_width (λ z y w wide narrow taken. known.taken true h.scope [] c (Number w) z y matches wide narrow (inl refl) taken) made;
      }

  with_step : (m : Made) (x : Name) (head : Head) (place : ℕ) (valid : tree.Tree) (result : Option tree.Tree) → Sound F O m
      → IsStep F O (transition_with h m.lines x head place valid result) → Sound F O (with_transition h m x head place valid result)
  with_step m x head place valid result sound is = record {
    fields = sound.fields;
    equation_locals = sound.equation_locals;
    invariants = sound.invariants;
    properties = sound.properties;
    transitions = with_one (IsStep F O) m.transitions (transition_with h m.lines x head place valid result) sound.transitions is;
  }

  to_handler : (kind : Option Function) (widths : List ℕ) (m : Made) → is_handler kind ≡ true → InBody F O kind widths h.result h.scope.inner h.lets m.locals m.lines
      → InHandler F O widths h.result h.scope.inner h.lets m.lines
  to_handler (Some handler) widths m so is = is
  to_handler (Some equivalence) widths m so is = absurd (no so)
  to_handler (Some (invariant x)) widths m so is = absurd (no so)
  to_handler (Some (property x)) widths m so is = absurd (no so)
  to_handler None widths m so is = absurd (no so)

  placed_end : (m : Made) (e : Tree) (x : Name) (r : Option Tree) (valid : tree.Tree) (result : Option tree.Tree) (head : Head) (o : Option ℕ) → Stands t h (end_line e x r)
      → InBody F O head.kind (widths_of h.scope.kernel head.name) h.result h.scope.inner h.lets m.locals m.lines → Sound F O m → take h.scope [] Truth e ≡ Some valid
      → result_made h r ≡ Some result → (b : Bool) → is_handler head.kind ≡ b → Sound F O (head_made h m x valid result head o)
  placed_end m e x r valid result head None stands is sound has made b so = sound
  placed_end m e x r valid result head (Some place) stands is sound has made true so =
      rw so (with_step m x head place valid result sound
      (step_sorted m e x r head place valid result stands (to_handler head.kind (widths_of h.scope.kernel head.name) m so is) has made))
  placed_end m e x r valid result head (Some place) stands is sound has made false so = rw so sound

  head_end : (m : Made) (e : Tree) (x : Name) (r : Option Tree) (valid : tree.Tree) (result : Option tree.Tree) (head : Option Head) → Stands t h (end_line e x r)
      → InHead F O h.scope.kernel head h.result h.scope.inner h.lets m.locals m.lines → Sound F O m → take h.scope [] Truth e ≡ Some valid
      → result_made h r ≡ Some result → Sound F O (end_made h m x valid result head)
  head_end m e x r valid result None stands is sound has made = sound
  head_end m e x r valid result (Some head) stands is sound has made = placed_end m e x r valid result head head.place stands is sound has made (is_handler head.kind) refl

  pub end_sorted : (m n : Made) (e : Tree) (x : Name) (r : Option Tree) → Stands t h (end_line e x r)
      → InHead F O h.scope.kernel h.head h.result h.scope.inner h.lets m.locals m.lines → Sound F O m → ended h m e x r ≡ Some n → Sound F O n
  end_sorted m n e x r stands is sound made =
      let a = chain_is (take h.scope [] Truth e) (λ valid. one (λ y. end_made h m x valid y h.head) (result_made h r)) n made in
      let b = one_is (λ y. end_made h m x a.0 y h.head) (result_made h r) n a.2 in
      subst (Sound F O) b.2 (head_end m e x r a.0 b.0 h.head stands is sound a.1 b.1)
