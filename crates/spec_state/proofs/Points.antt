-- What is read keeps fitting what may be named, behind one local name or one line more.
use Rattle.std.proofs.Common.{◌≡◌, ◌+◌, ◌%◌, ◌<◌, ◌≤◌, ◌^◌, ℕ, zero, suc, List, [], ◌∷◌, length, map, drop, arith, refl, sym, ◌∙◌, ap, subst}
use Rattle.std.specs.Prelude.{All, slice_get, slice_index_or, Some}
use Rattle.std.proofs.lemmas.List.{get_or-map, length-map}
use Rattle.std.proofs.lemmas.List.Elements.{All-head, All-tail, All-map}
use Rattle.spec_tree.specs.Plain.{Key, Tree, Trees, no_trees, tree_and, Line, let_line, write_line, Spec}
use Rattle.spec_tree.specs.Sorted.{Context, FieldSort, IsFieldSort, IsSize, HasLimits, IsSorted, AreLocals, AreLines, AreIndices, lets_of, with_local, with_locals, over_kernel, over_state, over_step, field_sorts, sort_of, no_field, key_sizes, product}
use Rattle.spec_tree.specs.Value.{Env, value, tuples, tuple_at}
use Rattle.spec_tree.specs.Shapes.{Fits, IsMemory, IsState, AreNumbers, AreBelow}
use Rattle.spec_tree.specs.View.{view_field}
use Rattle.spec_tree.specs.declared.spec.Field.{Field}
use Rattle.spec_tree.specs.Meaning.{State, with_value, with_values, after_lines, in_memory, in_state, in_step}
use Rattle.spec_tree.proofs.Widths.{value_below, locals_have}
use Rattle.spec_tree.proofs.Entries.{how_many, all_below, tuple_is}
use Rattle.spec_tree.proofs.Keeping.{local_fits, write_fits, variables_fit}
use Rattle.spec_number.specs.Scope.{Scope, nothing_named, entered}
use Rattle.spec_number.specs.declared.reading.Reading.{Reading}
use Rattle.spec_number.specs.Evaluation.{Stands, context_of, env_of}
use Rattle.spec_state.specs.Lines.{AreSorted, IsLine, behind_line, after_line, env_with, StandsWith}
use Rattle.spec_state.proofs.Turns.{part_at, drop_end}

fits_along : (c d : Context) (v w : Env) → c ≡ d → v ≡ w → Fits c v → Fits d w
fits_along c d v w ec ev h = subst (λ x. Fits d x) ev (subst (λ x. Fits x v) ec h)

-- ---- a local name

pub name_limits : (c : Context) → HasLimits c → (e : Tree) → IsSorted c e → HasLimits (with_local c e)
name_limits c h e s = locals_have c h (e ∷ []) (s, tt)

pub name_stands : (r : Reading) (s t : Scope) (e : Tree) → Stands r s → IsSorted (context_of r s) e → context_of r t ≡ with_local (context_of r s) e → env_of r t ≡ with_value (context_of r s) (env_of r s) e → Stands r t
name_stands r s t e h sorted ec ev =
    record {
      limits = subst HasLimits (sym ec) (name_limits (context_of r s) h.limits e sorted);
      fits = fits_along (with_local (context_of r s) e) (context_of r t) (with_value (context_of r s) (env_of r s) e) (env_of r t) (sym ec) (sym ev) (local_fits (context_of r s) (env_of r s) h.fits e sorted);
    }

pub names_sorted : (c d : Context) (e : Tree) (left rest : List Tree) → left ≡ e ∷ rest → d ≡ with_local c e → AreLocals c left → IsSorted c e × AreLocals d rest
names_sorted c d e left rest is ed h =
    let split : AreLocals c (e ∷ rest) = subst (AreLocals c) is h in
    (split.0, subst (λ x. AreLocals x rest) (sym ed) split.1)

pub names_context : (c d : Context) (e : Tree) (left rest : List Tree) → left ≡ e ∷ rest → d ≡ with_local c e → with_locals d rest ≡ with_locals c left
names_context c d e left rest is ed = ap (λ x. with_locals x rest) ed ∙ ap (with_locals c) (sym is)

pub names_env : (c d : Context) (v w : Env) (e : Tree) (left rest : List Tree) → left ≡ e ∷ rest → d ≡ with_local c e → w ≡ with_value c v e → with_values d w rest ≡ with_values c v left
names_env c d v w e left rest is ed ew =
    ap (λ x. with_values x w rest) ed ∙ ap (λ x. with_values (with_local c e) x rest) ew ∙ ap (with_values c v) (sym is)

-- ---- a line

line_limits : (c : Context) (l : Line) → HasLimits c → IsLine c l → HasLimits (behind_line c l)
line_limits c (let_line e) h s = name_limits c h e s
line_limits c (write_line g at e) h s = h

line_fits : (c : Context) (v : Env) (l : Line) → Fits c v → IsLine c l → Fits (behind_line c l) (after_line c v l)
line_fits c v (let_line e) f s = local_fits c v f e s
line_fits c v (write_line g at e) f s =
    record {
      old = f.old;
      new = λ n. write_fits c.fields v.new g s.0 _ (value c v e) (f.new n) s.1 (subst (λ w. value c v e < 2 ^ w) s.4 (value_below c v f e s.3));
      memory = f.memory;
      args = f.args;
      locals = f.locals;
      bounds = f.bounds;
    }

pub line_stands : (r : Reading) (n m : State) (s t : Scope) (l : Line) → StandsWith r n s → IsLine (context_of r s) l → context_of r t ≡ behind_line (context_of r s) l → env_with r m t ≡ after_line (context_of r s) (env_with r n s) l → StandsWith r m t
line_stands r n m s t l h sorted ec ev =
    record {
      limits = subst HasLimits (sym ec) (line_limits (context_of r s) l h.limits sorted);
      fits = fits_along (behind_line (context_of r s) l) (context_of r t) (after_line (context_of r s) (env_with r n s) l) (env_with r m t) (sym ec) (sym ev) (line_fits (context_of r s) (env_with r n s) l h.fits sorted);
    }

line_sorted : (c : Context) (l : Line) (rest : List Line) → AreLines c (l ∷ rest) → IsLine c l × AreLines (behind_line c l) rest
line_sorted c (let_line e) rest h = (h.0, h.1)
line_sorted c (write_line g at e) rest h = (h.0, h.1)

line_context : (c : Context) (l : Line) (rest : List Line) → with_locals (behind_line c l) (lets_of rest) ≡ with_locals c (lets_of (l ∷ rest))
line_context c (let_line e) rest = refl
line_context c (write_line g at e) rest = refl

line_env : (c : Context) (v : Env) (l : Line) (rest : List Line) → after_lines (behind_line c l) (after_line c v l) rest ≡ after_lines c v (l ∷ rest)
line_env c v (let_line e) rest = refl
line_env c v (write_line g at e) rest = refl

pub lines_sorted : (c d : Context) (l : Line) (left rest : List Line) → left ≡ l ∷ rest → d ≡ behind_line c l → AreLines c left → IsLine c l × AreLines d rest
lines_sorted c d l left rest is ed h =
    let split = line_sorted c l rest (subst (AreLines c) is h) in
    (split.0, subst (λ x. AreLines x rest) (sym ed) split.1)

pub lines_context : (c d : Context) (l : Line) (left rest : List Line) → left ≡ l ∷ rest → d ≡ behind_line c l → with_locals d (lets_of rest) ≡ with_locals c (lets_of left)
lines_context c d l left rest is ed = ap (λ x. with_locals x (lets_of rest)) ed ∙ line_context c l rest ∙ ap (λ ls. with_locals c (lets_of ls)) (sym is)

pub lines_env : (c d : Context) (v w : Env) (l : Line) (left rest : List Line) → left ≡ l ∷ rest → d ≡ behind_line c l → w ≡ after_line c v l → after_lines d w rest ≡ after_lines c v left
lines_env c d v w l left rest is ed ew =
    ap (λ x. after_lines x w rest) ed ∙ ap (λ x. after_lines (behind_line c l) x rest) ew ∙ line_env c v l rest ∙ ap (after_lines c v) (sym is)

-- ---- where evaluation begins

pub kernel_fits : (s : Spec) (memory : State) → IsMemory s.objects memory → Fits (over_kernel s) (in_memory memory)
kernel_fits s memory h = record { old = λ e. cc; new = λ e. cc; memory = λ e. h; args = refl; locals = refl; bounds = refl }

pub state_fits : (s : Spec) (state memory : State) → IsState (field_sorts s) state → Fits (over_state s) (record (in_state state) { memory = memory })
state_fits s state memory h = record { old = λ e. h; new = λ e. cc; memory = λ e. cc; args = refl; locals = refl; bounds = refl }

pub step_fits : (s : Spec) (widths args : List ℕ) (state new memory : State) → IsState (field_sorts s) state → IsState (field_sorts s) new → AreNumbers widths args → Fits (over_step s widths) (record (in_step state args) { new = new; memory = memory })
step_fits s widths args state new memory h n a = record { old = λ e. h; new = λ e. n; memory = λ e. cc; args = a; locals = refl; bounds = refl }

pub begun_with : (r : Reading) (n : State) (s : Scope) → s ≡ nothing_named → HasLimits (context_of r nothing_named) → Fits (context_of r nothing_named) (env_with r n nothing_named) → StandsWith r n s
begun_with r n s e h f = let P : Scope → Type 0 = λ t. StandsWith r n t in subst P (sym e) (record { limits = h; fits = f })

pub begun_stands : (r : Reading) (s : Scope) → s ≡ nothing_named → HasLimits (context_of r nothing_named) → Fits (context_of r nothing_named) (env_of r nothing_named) → Stands r s
begun_stands r s e h f = let P : Scope → Type 0 = λ t. Stands r t in subst P (sym e) (record { limits = h; fits = f })

-- ---- variables

pub length_tuple : (sizes : List ℕ) (k : ℕ) → length (tuple_at sizes k) ≡ length sizes
length_tuple [] k = refl
length_tuple (n ∷ ns) k = ap suc (length_tuple ns (k % product ns))

pub entered_stands : (r : Reading) (s t : Scope) (sizes : List ℕ) (k : ℕ) → Stands r s → k < product sizes → t ≡ entered s sizes (tuple_at sizes k) → Stands r t
entered_stands r s t sizes k h low e =
    let each : AreBelow sizes (tuple_at sizes k) = subst (AreBelow sizes) (tuple_is sizes k [] low) (all_below sizes k [] (omega (arith, low, how_many sizes))) in
    subst (Stands r) (sym e)
    (record {
      limits = record { fields = h.limits.fields; args = h.limits.args; locals = h.limits.locals };
      fits = variables_fit (context_of r s) (env_of r s) h.fits sizes (tuple_at sizes k) each;
    })

-- the index tuples from a place on
pub tuples_at : (sizes : List ℕ) (k : ℕ) → k < product sizes → drop k (tuples sizes) ≡ tuple_at sizes k ∷ drop (k + 1) (tuples sizes)
tuples_at sizes k low = part_at (tuples sizes) k (tuple_at sizes k) (sym (tuple_is sizes k (tuple_at sizes k) low)) (omega (arith, low, how_many sizes))

pub tuples_end : (sizes : List ℕ) (k : ℕ) → product sizes ≤ k → drop k (tuples sizes) ≡ []
tuples_end sizes k high = drop_end (tuples sizes) k (omega (arith, high, how_many sizes))

-- ---- fields

pub sort_there : (fs : List Field) (f : ℕ) (d : Field) → f < length fs → sort_of (view_field (slice_index_or fs f d)) ≡ slice_index_or (map sort_of (map view_field fs)) f no_field
sort_there fs f d low =
    sym (get_or-map sort_of (map view_field fs) f (view_field d) no_field (omega (arith, low, length-map fs view_field))
    ∙ ap sort_of (get_or-map view_field fs f d (view_field d) low))

pub sizes_hold : (f : FieldSort) → IsFieldSort f → All IsSize (key_sizes f.keys)
sizes_hold f h = All-map IsSize (λ k. k.size) f.keys (λ k d l. (h.keyed k d l).1)

pub found_sort : (fs : List FieldSort) (f : ℕ) (sort d : FieldSort) → slice_get fs f ≡ Some sort → All IsFieldSort fs → (slice_index_or fs f d ≡ sort) × IsFieldSort sort
found_sort [] f sort d g h = cc
found_sort (a ∷ fs) zero sort d g h = let e : a ≡ sort = cc in (e, subst IsFieldSort e (All-head IsFieldSort a fs h))
found_sort (a ∷ fs) (suc f) sort d g h = found_sort fs f sort d g (All-tail IsFieldSort a fs h)

pub indices_sorted : (c : Context) (keys : List Key) (at : Trees) → AreIndices c keys at → AreSorted c at
indices_sorted c keys no_trees h = tt
indices_sorted c keys (tree_and e es) h = (h.3, indices_sorted c h.1 es h.5)
