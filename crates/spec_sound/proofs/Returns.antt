-- The return line of a function that is no handler: what it adds is well sorted.
use Rattle.std.proofs.Common.{◌≡◌, ℕ, inl, true, false, is_none, Option, Some, None, List, [], refl, ap, subst}
use Rattle.std.specs.List.{list_any}
use Rattle.std.proofs.lemmas.List.Elements.{All-nil}
use Rattle.spec_ast.specs.declared.fault.SpecReason.TheVariants.{S9}
use Rattle.spec_ast.specs.Raw.{Tree, return_line}
use Rattle.spec_tree.specs.Plain as tree
use Rattle.spec_tree.specs.Plain.{Field, Named, Transition}
use Rattle.spec_tree.specs.Sorted.{Context, FieldSort, with_locals, IsNamed}
use Rattle.spec_names.specs.Kernel.{Name}
use Rattle.spec_read.specs.Places.{Function, equivalence, invariant, property, handler}
use Rattle.spec_scope.specs.declared.meaning.Kind.TheVariants.{Truth}
use Rattle.spec_scope.specs.Taking.{take}
use Rattle.spec_lines.specs.Behind.{Here, kind_of, is_equivalence}
use Rattle.spec_lines.specs.Equations.{conjuncts, equated_by}
use Rattle.spec_lines.specs.Faults.{Text, Values, values_of}
use Rattle.spec_lines.specs.Laws.{Stands}
use Rattle.spec_lines.specs.Whole.{Made, equivalence_made, with_invariant, with_property, named_with, return_made}
use Rattle.spec_sorts.specs.Laws.{EquationIsSorted}
use Rattle.spec_sound.proofs.Parts.{behind_true, one_is}
use Rattle.spec_sound.proofs.Contexts.{is_behind}
use Rattle.spec_sound.proofs.Bodies.{kernel_over, state_over, InLocals, InBody}
use Rattle.spec_sound.proofs.Lets.{Known, matching}
use Rattle.spec_sound.proofs.Taken.{return_narrow}
use Rattle.spec_sound.proofs.Values.{IsFieldIn, values_sorted, fields_are}
use Rattle.spec_sound.proofs.Sounds.{Sound, with_one}

module _ (F : List FieldSort) (O : List ℕ) (t : Text) (h : Here) (known : Known F O h.scope) where
  named_sorted : (base : Context) (m : Made) (e : Tree) (x : Name) (y : tree.Tree) → base.fields ≡ F → base.objects ≡ O → base.bounds ≡ [] → Stands t h (return_line e)
      → InLocals true base h.scope.inner h.lets m.locals → take h.scope [] Truth e ≡ Some y → IsNamed base (named_with x m y)
  named_sorted base m e x y fields objects bounds stands is has =
      let c = with_locals base m.locals in
      let matches = matching true F O h.scope base m.locals known (record { fields = fields; objects = objects; bounds = bounds }) is.names in
      let p = known.taken true h.scope [] c Truth e y matches tt (return_narrow t h e stands) (inl refl) has in
      record { locals = is.sorted; sorted = p.0; truth = p.1 }

  equivalence_sorted : (equations : EquationIsSorted) (m : Made) (e : Tree) (values : Values) → is_equivalence (kind_of h.head) ≡ true → Stands t h (return_line e)
      → InLocals false (kernel_over F O) h.scope.inner h.lets m.locals → values_of h.scope e ≡ Some values → Sound F O m → Sound F O (equivalence_made h.scope m values)
  equivalence_sorted equations m e values so stands is has sound =
      let c = with_locals (kernel_over F O) m.locals in
      let matches = matching false F O h.scope (kernel_over F O) m.locals known (record { fields = refl; objects = refl; bounds = refl }) is.names in
      let equated = behind_true (is_equivalence (kind_of h.head)) (list_any is_none (equated_by h.scope (conjuncts e))) (stands S9) so in
      let are = values_sorted equations h.scope c matches (is_behind (kernel_over F O) m.locals).bounds e values equated (return_narrow t h e stands) has in
      record {
        fields = λ fs made. fields_are c [] fs h.scope.fields values (All-nil (IsFieldIn c)) are known.fixed.sorts made;
        equation_locals = is.sorted;
        invariants = sound.invariants;
        properties = sound.properties;
        transitions = sound.transitions;
      }

  -- the function that goes on, as its kind says
  pub return_sorted : (equations : EquationIsSorted) (m n : Made) (e : Tree) (kind : Option Function) (widths : List ℕ) → kind_of h.head ≡ kind → Stands t h (return_line e)
      → InBody F O kind widths h.result h.scope.inner h.lets m.locals m.lines → Sound F O m → return_made kind h.scope m e ≡ Some n → Sound F O n
  return_sorted equations m n e (Some equivalence) widths kind stands is sound made =
      let p = one_is (equivalence_made h.scope m) (values_of h.scope e) n made in
      subst (Sound F O) p.2 (equivalence_sorted equations m e p.0 (ap is_equivalence kind) stands is p.1 sound)
  return_sorted equations m n e (Some (invariant x)) widths kind stands is sound made =
      let p = one_is (with_invariant x m) (take h.scope [] Truth e) n made in
      subst (Sound F O) p.2 (record {
        fields = sound.fields;
        equation_locals = sound.equation_locals;
        invariants = with_one (IsNamed (kernel_over F O)) m.invariants (named_with x m p.0) sound.invariants
            (named_sorted (kernel_over F O) m e x p.0 refl refl refl stands is p.1);
        properties = sound.properties;
        transitions = sound.transitions;
      })
  return_sorted equations m n e (Some (property x)) widths kind stands is sound made =
      let p = one_is (with_property x m) (take h.scope [] Truth e) n made in
      subst (Sound F O) p.2 (record {
        fields = sound.fields;
        equation_locals = sound.equation_locals;
        invariants = sound.invariants;
        properties = with_one (IsNamed (state_over F O)) m.properties (named_with x m p.0) sound.properties
            (named_sorted (state_over F O) m e x p.0 refl refl refl stands is p.1);
        transitions = sound.transitions;
      })
  return_sorted equations m n e (Some handler) widths kind stands is sound made = subst (Sound F O) (one_is (λ y. m) (take h.scope [] Truth e) n made).2 sound
  return_sorted equations m n e None widths kind stands is sound made = subst (Sound F O) (one_is (λ y. m) (take h.scope [] Truth e) n made).2 sound
