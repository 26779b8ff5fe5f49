-- The right side of a field's equation at index terms.
use Rattle.std.proofs.Common.{◌≡◌, ◌+◌, ◌<◌, ℕ, zero, suc, Some, List, [], ◌∷◌, length, map, get_or, arith, ap, sym, ◌∙◌, subst, refl}
use Rattle.std.specs.Prelude.{All, slice_get, slice_index_or}
use Rattle.std.proofs.lemmas.List.{get_or-map, length-map}
use Rattle.std.proofs.lemmas.List.Elements.{All-cons}
use Rattle.std.proofs.lemmas.Option.{get_or_from_slice_get}
use Rattle.hk_term.specs.Meaning as term
use Rattle.hk_term.specs.Meaning.{Reading}
use Rattle.hk_term.specs.declared.node.Node.{Node}
use Rattle.hk_symmem.specs.Guarded.{MemoryView, memory_at}
use Rattle.spec_tree.specs.Plain.{Key, Tree, Field, Spec}
use Rattle.spec_tree.specs.Sorted.{Context, FieldSort, IsField, no_field, field_sorts, key_sizes, over_kernel, over_keys, product, sort_of, with_bounds, with_local, with_locals}
use Rattle.spec_tree.specs.Value.{Env, value, binding, place_behind, tuple_at}
use Rattle.spec_tree.specs.Meaning.{abstraction, entry_value, in_memory, with_value, with_values}
use Rattle.spec_tree.specs.Shapes.{AreBelow}
use Rattle.spec_tree.proofs.Entries.{place_within}
use Rattle.spec_tree.proofs.Keeping.{entry_told}
use Rattle.hk_symexpr.specs.Sources.{Agrees}
use Rattle.hk_symexpr.specs.Scope.{Scope}
use Rattle.hk_symexpr.specs.Naming.{AreIndexTerms, AreLimited, AreSteady, AreNames, Suits, bounds_at, context_of, index_values, name_values}
use Rattle.hk_symexpr.specs.declared.names.NamedTerm.{NamedTerm}
use Rattle.hk_symexpr.specs.declared.names.Limit.{Limit}
use Rattle.hk_symspec.specs.Standing.{IsEquated, IsSteadyMemory, entry_base}
use Rattle.hk_symspec.specs.Ranges.{IsEntry}
use Rattle.hk_symspec.proofs.Turning.{mapped_at}
use Rattle.hk_symspec.proofs.NameLaws.{agrees_then}
use Rattle.hk_symspec.proofs.IndexLaws.{index_length}
use Rattle.hk_symspec.proofs.PlaceLaws.{below_sizes, tuple_there}

locals_only : (c : Context) (es : List Tree) → with_locals c es ≡ record c { locals = (with_locals c es).locals }
locals_only c [] = refl
locals_only c (e ∷ es) = locals_only (with_local c e) es

values_only : (c : Context) (v : Env) (es : List Tree) → with_values c v es ≡ record v { locals = (with_values c v es).locals }
values_only c v [] = refl
values_only c v (e ∷ es) = values_only (with_local c e) (with_value c v e) es

-- the names of an equation
abbrev pub equation_scope : List NamedTerm → List Limit → List ℕ → List ℕ → Scope
equation_scope locals index keys sizes = record { args = []; locals = locals; keys = keys; sizes = sizes; known = index; base = entry_base }

pub equation_context : (s : Spec) (f : Field) (locals : List NamedTerm) (index : List Limit) (keys sizes : List ℕ)
    → map (λ a. a.width) locals ≡ (with_locals (over_kernel s) s.equation_locals).locals → sizes ≡ key_sizes f.keys
    → context_of (over_kernel s) (equation_scope locals index keys sizes) ≡ over_keys s f
equation_context s f locals index keys sizes widths same =
    (λ i. record (over_kernel s) { locals = widths i; bounds = same i }) ∙ ap (λ c. with_bounds c (key_sizes f.keys)) (sym (locals_only (over_kernel s) s.equation_locals))

-- the sort of a field at its place
pub field_sort : (s : Spec) (field : ℕ) (f : Field) (d : FieldSort) → slice_get s.fields field ≡ Some f → slice_index_or (field_sorts s) field d ≡ sort_of f
field_sort s field f d found = get_or_from_slice_get (field_sorts s) field (sort_of f) d (mapped_at sort_of s.fields field f found)

pub field_is : (s : Spec) (field : ℕ) (f : Field) → All (IsField s) s.fields → slice_get s.fields field ≡ Some f → IsField s f
field_is s field f all found = subst (IsField s) (get_or_from_slice_get s.fields field f f found) (all field f (there s.fields field found))
  where
    there : (fs : List Field) (k : ℕ) → slice_get fs k ≡ Some f → k < length fs
    there [] k e = cc
    there (x ∷ fs) zero e = omega arith
    there (x ∷ fs) (suc k) e = omega (arith, there fs k e)

-- the terms of all names stand in the list
pub equation_names : (s : Spec) (nodes : List Node) (m : MemoryView) (locals : List NamedTerm) (fkeys : List Key) (index : List Limit) (keys sizes : List ℕ)
    → IsEquated s nodes m locals → AreIndexTerms nodes fkeys index → keys ≡ map (λ i. i.term) index → AreNames nodes (equation_scope locals index keys sizes)
equation_names s nodes m locals fkeys index keys sizes over at is = record {
  args = λ k d l. absurd (omega (arith, l));
  locals = over.named;
  keys = subst (All (λ k. k < length nodes)) (sym is) (terms fkeys index at);
  known = limits fkeys index at;
}
  where
    terms : (ks : List Key) (is : List Limit) → AreIndexTerms nodes ks is → All (λ k. k < length nodes) (map (λ i. i.term) is)
    terms [] is h = λ k d l. let e : length (map (λ (i : Limit). i.term) is) ≡ 0 = ap (λ x. length (map (λ (i : Limit). i.term) x)) h in absurd (omega (arith, l, e))
    terms (k ∷ ks) [] h = absurd h
    terms (k ∷ ks) (i ∷ is) h = All-cons (λ n. n < length nodes) i.term (map (λ i. i.term) is) h.0 (terms ks is h.2)

    limits : (ks : List Key) (is : List Limit) → AreIndexTerms nodes ks is → All (λ l. l.term < length nodes) is
    limits [] is h = λ k d l. let e : length is ≡ 0 = ap length h in absurd (omega (arith, l, e))
    limits (k ∷ ks) [] h = absurd h
    limits (k ∷ ks) (i ∷ is) h = All-cons (λ l. l.term < length nodes) i is h.0 (limits ks is h.2)

bounds_are : (nodes : List Node) (ks : List Key) (index : List Limit) (id : ℕ) (u : Reading) → AreIndexTerms nodes ks index
    → bounds_at nodes (map (λ i. i.term) index) id (key_sizes ks) u ≡ index_values nodes index u
bounds_are nodes [] index id u h = ap (λ x. bounds_at nodes (map (λ i. i.term) x) id [] u) h ∙ ap (λ x. index_values nodes x u) (sym h)
bounds_are nodes (k ∷ ks) [] id u h = absurd h
bounds_are nodes (k ∷ ks) (i ∷ is) id u h = ap (λ r. term.value nodes i.term u ∷ r) (bounds_are nodes ks is (id + 1) u h.2)

limits_rest : (nodes : List Node) (index : List Limit) (v u : Reading) → index_values nodes index u ≡ index_values nodes index v → AreLimited nodes index v → AreLimited nodes index u
limits_rest nodes index v u same limited k d l =
    let f : Limit → ℕ = λ i. term.value nodes i.term u in
    let g : Limit → ℕ = λ i. term.value nodes i.term v in
    let e : f (get_or index k d) ≡ g (get_or index k d) = sym (get_or-map f index k d 0 l) ∙ ap (λ x. get_or x k 0) same ∙ get_or-map g index k d 0 l in
    omega (arith, e, limited k d l)

abbrev pub equation_env : List Node → MemoryView → List NamedTerm → List Limit → Reading → Env
equation_env nodes m locals index v =
    record { old = []; new = []; memory = memory_at nodes m v; args = []; locals = name_values nodes locals v; bounds = index_values nodes index v }

pub equation_suits : (s : Spec) (nodes : List Node) (m : MemoryView) (locals : List NamedTerm) (fkeys : List Key) (index : List Limit) (keys sizes : List ℕ) (v : Reading) (p : ℕ)
    → IsEquated s nodes m locals → AreIndexTerms nodes fkeys index → keys ≡ map (λ i. i.term) index → sizes ≡ key_sizes fkeys
    → AreLimited nodes index v → AreSteady entry_base nodes index v → IsSteadyMemory entry_base nodes (Some m) v
    → place_behind 0 fkeys (index_values nodes index v) ≡ Some p
    → Suits (λ u. record { old = []; new = []; memory = memory_at nodes m u }) (context_of (over_kernel s) (equation_scope locals index keys sizes)) nodes (equation_scope locals index keys sizes) v
    (equation_env nodes m locals index v)
equation_suits s nodes m locals fkeys index keys sizes v p over at ke se limited steady still found u a = record {
  read = λ i. record { old = []; new = []; memory = still u b i };
  memory = λ _. over.kernel.whole v;
  args = refl;
  locals = over.values v still ∙ ap (λ x. (with_values (over_kernel s) (in_memory x) s.equation_locals).locals) (sym (still u b)) ∙ sym (over.values u (λ w d. still w (agrees_then entry_base v u w b d) ∙ sym (still u b)));
  bounds = sym (steady u b) ∙ sym (bounds_are nodes fkeys index entry_base u at) ∙ (λ i. bounds_at nodes (sym ke i) entry_base (sym se i) u);
  below = subst (λ x. AreBelow x (index_values nodes index v)) (sym se) (below_sizes 0 fkeys (index_values nodes index v) p (length-map index (λ i. term.value nodes i.term v) ∙ index_length nodes fkeys index at) found);
  known = limits_rest nodes index v u (steady u b) limited;
}
  where
    b : Agrees entry_base v u
    b = record { entry = a.entry; var = λ id l. a.var id (omega (arith, l)) }

-- the number of the equation is the entry of the abstraction
pub equation_value : (s : Spec) (nodes : List Node) (m : MemoryView) (locals : List NamedTerm) (field : ℕ) (f : Field) (index : List Limit) (keys sizes : List ℕ) (v : Reading) (n : ℕ)
    → IsEquated s nodes m locals → slice_get s.fields field ≡ Some f → AreIndexTerms nodes (slice_index_or (field_sorts s) field no_field).keys index
    → keys ≡ map (λ i. i.term) index → sizes ≡ key_sizes (slice_index_or (field_sorts s) field no_field).keys
    → AreLimited nodes index v → AreSteady entry_base nodes index v → IsSteadyMemory entry_base nodes (Some m) v
    → ((env : Env) → Suits (λ u. record { old = []; new = []; memory = memory_at nodes m u }) (context_of (over_kernel s) (equation_scope locals index keys sizes)) nodes (equation_scope locals index keys sizes) v env
    → n ≡ value (context_of (over_kernel s) (equation_scope locals index keys sizes)) env f.value)
    → IsEntry (field_sorts s) field (index_values nodes index v) (abstraction s (memory_at nodes m v)) n
equation_value s nodes m locals field f index keys sizes v n over there at ke se limited steady still is p found =
    is (equation_env nodes m locals index v) (equation_suits s nodes m locals f.keys index keys sizes v p over at' ke se' limited steady still found')
    ∙ ap (λ c. value c (equation_env nodes m locals index v) f.value) (equation_context s f locals index keys sizes over.widths se')
    ∙ ap (λ e. value (over_keys s f) e f.value) (sym env)
    ∙ ap (entry_value s (memory_at nodes m v) f) (sym tuple)
    ∙ sym (entry_told s (memory_at nodes m v) field f p there low)
  where
    sort : slice_index_or (field_sorts s) field no_field ≡ sort_of f
    sort = field_sort s field f no_field there

    at' : AreIndexTerms nodes f.keys index
    at' = let P : FieldSort → Type 0 = λ x. AreIndexTerms nodes x.keys index in subst P sort at

    se' : sizes ≡ key_sizes f.keys
    se' = se ∙ ap (λ x. key_sizes x.keys) sort

    found' : place_behind 0 f.keys (index_values nodes index v) ≡ Some p
    found' = ap (λ x. place_behind 0 x.keys (index_values nodes index v)) (sym sort) ∙ found

    low : p < product (key_sizes f.keys)
    low = omega (arith, place_within f.keys (index_values nodes index v) 0 p found')

    tuple : tuple_at (key_sizes f.keys) p ≡ index_values nodes index v
    tuple = tuple_there f.keys (index_values nodes index v) p (length-map index (λ i. term.value nodes i.term v) ∙ index_length nodes f.keys index at') low found'

    env : binding (with_values (over_kernel s) (in_memory (memory_at nodes m v)) s.equation_locals) (index_values nodes index v) ≡ equation_env nodes m locals index v
    env = ap (λ e. binding e (index_values nodes index v)) (values_only (over_kernel s) (in_memory (memory_at nodes m v)) s.equation_locals)
        ∙ (λ i. record { old = []; new = []; memory = memory_at nodes m v; args = []; locals = sym (over.values v still) i; bounds = index_values nodes index v })
