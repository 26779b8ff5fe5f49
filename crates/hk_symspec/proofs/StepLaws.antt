-- A transition as terms: where it begins, and what it comes to behind its lines.
use Rattle.std.proofs.Common.{◌≡◌, ◌<◌, ℕ, Bool, true, false, Option, Some, None, List, [], ◌∷◌, ◌++◌, length, map, arith, refl, sym, ◌∙◌, ap, subst}
use Rattle.std.specs.Prelude.{All, ◌&&◌, if◌then◌else◌, nat_eq, option_map, slice_index_or}
use Rattle.std.proofs.lemmas.List.Elements.{All-cons, All-head, All-tail, All-append, All-map}
use Rattle.hk_term.specs.Shape.{width}
use Rattle.hk_term.specs.Meaning.{Reading, value}
use Rattle.hk_term.specs.declared.node.Node.{Node}
use Rattle.spec_tree.specs.Plain.{Tree, Line, let_line, write_line, Spec, Transition}
use Rattle.spec_tree.specs.Sorted.{Context, FieldSort, AreLines, IsResult, IsTransition, behind_lines, field_sorts, lets_of, no_field, over_step, with_local, with_locals}
use Rattle.spec_tree.specs.Value as tree
use Rattle.spec_tree.specs.Value.{Env, bit, holds, place_behind}
use Rattle.spec_tree.specs.Meaning.{Memory, State, after_lines, entry_set, in_step, transition, with_value}
use Rattle.hk_symexpr.specs.Sources.{Agrees, Keeps}
use Rattle.hk_symexpr.specs.Naming.{AreLimited, IsNamed, name_values}
use Rattle.hk_symexpr.specs.declared.names.NamedTerm.{NamedTerm}
use Rattle.hk_symexpr.specs.declared.names.Limit.{Limit}
use Rattle.hk_symspec.specs.declared.write.EntryWrite.{EntryWrite}
use Rattle.hk_symspec.specs.States.{StateView, after_write, after_writes, base_at, kernel_at, numbers_at, state_at}
use Rattle.hk_symspec.specs.Standing.{IsStateOver, IsSteady, IsWriteOver, formula_base}
use Rattle.hk_symspec.specs.KeptLaws.{kernel_at_kept}
use Rattle.hk_symspec.specs.Steps.{AreArgumentTerms, AreSteadyTerms, IsStepAt, IsTermFor}
use Rattle.hk_symspec.specs.Lines.{IsPoint, LineReads, guarded, line_context}
use Rattle.hk_symspec.proofs.BlindLaws.{blind, blind_indices, blind_name, over_memory}
use Rattle.hk_symspec.proofs.LineLaws.{agrees_then}

-- ---- arguments

pub arguments_there : (nodes : List Node) (ws ks : List ℕ) → AreArgumentTerms nodes ws ks → All (λ k. k < length nodes) ks
arguments_there nodes [] ks h = λ k d l. let e : length ks ≡ 0 = ap length h in absurd (omega (arith, l, e))
arguments_there nodes (w ∷ ws) [] h = absurd h
arguments_there nodes (w ∷ ws) (k ∷ ks) h = All-cons (λ k. k < length nodes) k ks h.0 (arguments_there nodes ws ks h.2)

pub arguments_wide : (nodes : List Node) (ws ks : List ℕ) → AreArgumentTerms nodes ws ks → map (width nodes) ks ≡ ws
arguments_wide nodes [] ks h = ap (map (width nodes)) h
arguments_wide nodes (w ∷ ws) [] h = absurd h
arguments_wide nodes (w ∷ ws) (k ∷ ks) h = λ i. h.1 i ∷ arguments_wide nodes ws ks h.2 i

arguments_are : (nodes : List Node) (named : List NamedTerm) (v : Reading) → name_values nodes named v ≡ numbers_at nodes (map (λ a. a.term) named) v
arguments_are nodes [] v = refl
arguments_are nodes (n ∷ ns) v = ap (λ l. value nodes n.term v ∷ l) (arguments_are nodes ns v)

-- ---- the begin

pub begun_point : (s : Spec) (nodes : List Node) (a : StateView) (named : List NamedTerm) (known : List Limit)
    → IsStateOver s nodes a → All (IsNamed nodes) named → All (λ l. l.term < length nodes) known → IsPoint s nodes a named known [] []
begun_point s nodes a named known over args limits = record {
  read = record { state = over; later = λ k d l. absurd (omega (arith, l)) };
  names = record { args = args; locals = λ k d l. absurd (omega (arith, l)); keys = λ k d l. absurd (omega (arith, l)); known = limits };
  done = λ k d l. absurd (omega (arith, l));
}

abbrev pub begun_env : Spec → List Node → StateView → List ℕ → Reading → Env
begun_env s nodes a args v = over_memory (in_step (state_at s nodes a v) (numbers_at nodes args v)) (kernel_at nodes a.memory v)

pub begun_reads : (s : Spec) (nodes : List Node) (a : StateView) (args : List ℕ) (named : List NamedTerm) (known : List Limit) (v : Reading)
    → map (λ n. n.term) named ≡ args → IsSteady formula_base s nodes a v → AreSteadyTerms formula_base nodes args v
    → ((u : Reading) → Agrees formula_base v u → AreLimited nodes known u)
    → LineReads s nodes a named known [] [] v (over_memory (in_step (state_at s nodes a v) (numbers_at nodes args v)) (kernel_at nodes a.memory v))
begun_reads s nodes a args named known v terms still steady limits u g = record {
  read = λ i. record { old = still.state u b i; new = still.state u b i; memory = still.memory u b i };
  memory = λ e. absurd (no_kernel e);
  args = sym (arguments_are nodes named u ∙ ap (λ l. numbers_at nodes l u) terms ∙ steady u b);
  locals = refl;
  bounds = refl;
  below = refl;
  known = limits u b;
}
  where
    b : Agrees formula_base v u
    b = record { entry = g.entry; var = λ id l. g.var id (omega (arith, l)) }

    no_kernel : false ≡ true → ⊥
    no_kernel e = cc

-- ---- where the kernel may not be read, the lines of a transition do the same over any memory

lines_blind : (c : Context) (v : Env) (m : Memory) (lines : List Line) → c.kernel ≡ false → AreLines c lines → after_lines c (over_memory v m) lines ≡ over_memory (after_lines c v lines) m
lines_blind c v m [] k s = refl
lines_blind c v m (let_line e ∷ lines) k s = ap (λ x. after_lines (with_local c e) x lines) (blind_name c v m e k s.0) ∙ lines_blind (with_local c e) (with_value c v e) m lines k s.1
lines_blind c v m (write_line f at e ∷ lines) k s =
    (λ i. after_lines c (record v { memory = m; new = entry_set v.new f (place_behind 0 (slice_index_or c.fields f no_field).keys (blind_indices c v m k s.0.0.keys at s.0.2 i)) (blind c v m k e s.0.3 i) }) lines)
    ∙ lines_blind c (record v { new = entry_set v.new f (place_behind 0 (slice_index_or c.fields f no_field).keys (tree.values c v at)) (tree.value c v e) }) m lines k s.1

kernel_stays : (c : Context) (es : List Tree) → (with_locals c es).kernel ≡ c.kernel
kernel_stays c [] = refl
kernel_stays c (e ∷ es) = kernel_stays (with_local c e) es

result_blind : (c : Context) (v : Env) (m : Memory) (w : ℕ) (e : Option Tree) → c.kernel ≡ false → IsResult c w e → option_map (tree.value c (over_memory v m)) e ≡ option_map (tree.value c v) e
result_blind c v m w None k s = refl
result_blind c v m w (Some e) k s = ap Some (blind c v m k e s.1)

-- ---- the term of a result in a longer list

pub term_kept : (old new : List Node) (w : ℕ) (e : Option Tree) (term : Option ℕ) → Keeps old new → IsTermFor old w e term → IsTermFor new w e term
term_kept old new w None term k h = h
term_kept old new w (Some e) None k h = h
term_kept old new w (Some e) (Some r) k h = let low = h.0 in (omega (arith, low, k.longer), k.widths r h.0 ∙ h.1)

pub number_kept : (old new : List Node) (w : ℕ) (e : Option Tree) (term : Option ℕ) (v : Reading) → Keeps old new → IsTermFor old w e term → option_map (λ r. value new r v) term ≡ option_map (λ r. value old r v) term
number_kept old new w None term v k h = ap (option_map (λ r. value new r v)) h ∙ sym (ap (option_map (λ r. value old r v)) h)
number_kept old new w (Some e) None v k h = absurd h
number_kept old new w (Some e) (Some r) v k h = ap Some (k.values r h.0 v)

-- ---- writes under one guard

pub guarded_over : (fields : List FieldSort) (nodes : List Node) (guard : ℕ) (ws : List EntryWrite) → guard < length nodes → width nodes guard ≡ 1 → All (IsWriteOver fields nodes) ws → All (IsWriteOver fields nodes) (map (guarded guard) ws)
guarded_over fields nodes guard ws there truth over = All-map (IsWriteOver fields nodes) (guarded guard) ws (λ k d l. let o = over k d l in record {
  field = o.field;
  index = o.index;
  guard = there;
  truth = truth;
  value = o.value;
  number = o.number;
})

both_writes : (fields : List FieldSort) (nodes : List Node) (v : Reading) (ws more : List EntryWrite) (st : State) → after_writes fields nodes v (ws ++ more) st ≡ after_writes fields nodes v more (after_writes fields nodes v ws st)
both_writes fields nodes v [] more st = refl
both_writes fields nodes v (w ∷ ws) more st = both_writes fields nodes v ws more (after_write fields nodes v w st)

write_done : (fields : List FieldSort) (nodes : List Node) (v : Reading) (w : EntryWrite) (st : State) (guard : ℕ) → value nodes guard v ≡ 1 → value nodes w.guard v ≡ 1 → after_write fields nodes v (guarded guard w) st ≡ after_write fields nodes v w st
write_done fields nodes v w st guard one done =
    λ i. if nat_eq ((one ∙ sym done) i) 1
    then entry_set st w.field (place_behind 0 (slice_index_or fields w.field no_field).keys (numbers_at nodes w.index v)) (value nodes w.value v)
    else st

writes_done : (fields : List FieldSort) (nodes : List Node) (v : Reading) (ws : List EntryWrite) (st : State) (guard : ℕ) → value nodes guard v ≡ 1 → All (λ w. (u : Reading) → value nodes w.guard u ≡ 1) ws
    → after_writes fields nodes v (map (guarded guard) ws) st ≡ after_writes fields nodes v ws st
writes_done fields nodes v [] st guard one done = refl
writes_done fields nodes v (w ∷ ws) st guard one done =
    writes_done fields nodes v ws (after_write fields nodes v (guarded guard w) st) guard one (All-tail (λ w. (u : Reading) → value nodes w.guard u ≡ 1) w ws done)
    ∙ ap (after_writes fields nodes v ws) (write_done fields nodes v w st guard one (All-head (λ w. (u : Reading) → value nodes w.guard u ≡ 1) w ws done v))

write_skipped : (fields : List FieldSort) (nodes : List Node) (v : Reading) (w : EntryWrite) (st : State) (guard : ℕ) → value nodes guard v ≡ 0 → after_write fields nodes v (guarded guard w) st ≡ st
write_skipped fields nodes v w st guard none =
    λ i. if nat_eq (none i) 1
    then entry_set st w.field (place_behind 0 (slice_index_or fields w.field no_field).keys (numbers_at nodes w.index v)) (value nodes w.value v)
    else st

writes_skipped : (fields : List FieldSort) (nodes : List Node) (v : Reading) (ws : List EntryWrite) (st : State) (guard : ℕ) → value nodes guard v ≡ 0 → after_writes fields nodes v (map (guarded guard) ws) st ≡ st
writes_skipped fields nodes v [] st guard none = refl
writes_skipped fields nodes v (w ∷ ws) st guard none = ap (after_writes fields nodes v (map (guarded guard) ws)) (write_skipped fields nodes v w st guard none) ∙ writes_skipped fields nodes v ws st guard none

-- ---- the end

pub end_over : (s : Spec) (nodes : List Node) (a end : StateView) (writes : List EntryWrite) (valid : ℕ) (returned : Bool)
    → end ≡ record a { writes = a.writes ++ (if returned then map (guarded valid) writes else []) }
    → IsStateOver s nodes a → All (IsWriteOver (field_sorts s) nodes) writes → valid < length nodes → width nodes valid ≡ 1 → IsStateOver s nodes end
end_over s nodes a end writes valid returned is over later there truth =
    subst (IsStateOver s nodes) (sym is) (record { base = over.base; writes = All-append Over a.writes (if returned then map (guarded valid) writes else []) over.writes (more returned) })
  where
    Over : EntryWrite → Type 0
    Over = IsWriteOver (field_sorts s) nodes

    more : (b : Bool) → All Over (if b then map (guarded valid) writes else [])
    more true = guarded_over (field_sorts s) nodes valid writes there truth later
    more false = λ k d l. absurd (omega (arith, l))

-- the state behind writes that are done where a truth holds
end_state_at : (s : Spec) (nodes : List Node) (a end : StateView) (writes : List EntryWrite) (valid : ℕ) (returned : Bool) (v : Reading) (b : Bool) (new : State)
    → end ≡ record a { writes = a.writes ++ (if returned then map (guarded valid) writes else []) }
    → All (λ w. (u : Reading) → value nodes w.guard u ≡ 1) writes
    → value nodes valid v ≡ bit b
    → (value nodes valid v ≡ 1 → after_writes (field_sorts s) nodes v writes (state_at s nodes a v) ≡ new)
    → state_at s nodes end v ≡ (if b && returned then new else state_at s nodes a v)
end_state_at s nodes a end writes valid returned v b new is done truth ends =
    ap (λ x. state_at s nodes x v) is
    ∙ both_writes (field_sorts s) nodes v a.writes (if returned then map (guarded valid) writes else []) (base_at s nodes a.memory a.first v)
    ∙ by_cases b returned truth
  where
    st : State
    st = state_at s nodes a v

    by_cases : (b r : Bool) → value nodes valid v ≡ bit b → after_writes (field_sorts s) nodes v (if r then map (guarded valid) writes else []) st ≡ (if b && r then new else st)
    by_cases true true e = writes_done (field_sorts s) nodes v writes st valid e done ∙ ends e
    by_cases false true e = writes_skipped (field_sorts s) nodes v writes st valid e
    by_cases true false e = refl
    by_cases false false e = refl

pub behind_is : (s : Spec) (t : Transition) (named locals : List NamedTerm) → map (λ n. n.width) named ≡ t.widths → line_context s named locals ≡ with_locals (line_context s named []) (lets_of t.lines)
    → line_context s named locals ≡ behind_lines s t
behind_is s t named locals widths context = context ∙ ap (λ ws. with_locals (over_step s ws) (lets_of t.lines)) widths

pub step_at : (s : Spec) (t : Transition) (old new : List Node) (a end : StateView) (args : List ℕ) (named locals : List NamedTerm) (writes : List EntryWrite) (valid : ℕ) (term : Option ℕ) (v : Reading)
    → IsTransition s t
    → map (λ n. n.width) named ≡ t.widths
    → line_context s named locals ≡ with_locals (line_context s named []) (lets_of t.lines)
    → value new valid v ≡ bit (holds (tree.value (line_context s named locals) (after_lines (line_context s named []) (begun_env s old a args v) t.lines) t.valid))
    → option_map (λ k. value new k v) term ≡ option_map (tree.value (line_context s named locals) (after_lines (line_context s named []) (begun_env s old a args v) t.lines)) t.result
    → end ≡ record a { writes = a.writes ++ (if t.returns_new then map (guarded valid) writes else []) }
    → All (λ w. (u : Reading) → value new w.guard u ≡ 1) writes
    → (value new valid v ≡ 1 → after_writes (field_sorts s) new v writes (state_at s new a v) ≡ (after_lines (line_context s named []) (begun_env s old a args v) t.lines).new)
    → state_at s new a v ≡ state_at s old a v
    → IsStepAt s new valid end term v (transition s t (state_at s old a v) (numbers_at old args v))
step_at s t old new a end args named locals writes valid term v sorted widths context truth number is done ends same = record {
  valid = truth ∙ ap (λ n. bit (holds n)) valid_is;
  state = end_state_at s new a end writes valid t.returns_new v (holds (tree.value (behind_lines s t) behind t.valid)) behind.new is done (truth ∙ ap (λ n. bit (holds n)) valid_is) (λ e. ends e ∙ ap (λ x. x.new) env)
      ∙ ap (λ x. if holds (tree.value (behind_lines s t) behind t.valid) && t.returns_new then behind.new else x) same;
  result = number ∙ (λ i. option_map (tree.value (names i) (env i)) t.result) ∙ result_blind (behind_lines s t) behind m t.result_width t.result k sorted.result;
}
  where
    m : Memory
    m = kernel_at old a.memory v

    begun : Env
    begun = in_step (state_at s old a v) (numbers_at old args v)

    behind : Env
    behind = after_lines (over_step s t.widths) begun t.lines

    names : line_context s named locals ≡ behind_lines s t
    names = behind_is s t named locals widths context

    env : after_lines (line_context s named []) (begun_env s old a args v) t.lines ≡ over_memory behind m
    env = ap (λ ws. after_lines (over_step s ws) (over_memory begun m) t.lines) widths ∙ lines_blind (over_step s t.widths) begun m t.lines refl sorted.lines

    k : (behind_lines s t).kernel ≡ false
    k = kernel_stays (over_step s t.widths) (lets_of t.lines)

    valid_is : tree.value (line_context s named locals) (after_lines (line_context s named []) (begun_env s old a args v) t.lines) t.valid ≡ tree.value (behind_lines s t) behind t.valid
    valid_is = (λ i. tree.value (names i) (env i) t.valid) ∙ blind (behind_lines s t) behind m k t.valid sorted.valid

-- ---- what is steady under a reading is so under those that agree with it

steady_there : (limit : ℕ) (s : Spec) (nodes : List Node) (a : StateView) (v u : Reading) → Agrees limit v u → IsSteady limit s nodes a v → IsSteady limit s nodes a u
steady_there limit s nodes a v u g h = record {
  memory = λ w b. h.memory w (agrees_then limit v u w g b) ∙ sym (h.memory u g);
  state = λ w b. h.state w (agrees_then limit v u w g b) ∙ sym (h.state u g);
}

terms_there : (limit : ℕ) (nodes : List Node) (args : List ℕ) (v u : Reading) → Agrees limit v u → AreSteadyTerms limit nodes args v → AreSteadyTerms limit nodes args u
terms_there limit nodes args v u g h w b = h w (agrees_then limit v u w g b) ∙ sym (h u g)

pub end_steady : (s : Spec) (t : Transition) (old new : List Node) (a end : StateView) (args : List ℕ) (valid : ℕ) (term : Option ℕ)
    → IsStateOver s old a → Keeps old new → end.memory ≡ a.memory
    → ((v : Reading) → IsSteady formula_base s old a v → AreSteadyTerms formula_base old args v → IsStepAt s new valid end term v (transition s t (state_at s old a v) (numbers_at old args v)))
    → (v : Reading) → IsSteady formula_base s old a v → AreSteadyTerms formula_base old args v → IsSteady formula_base s new end v
end_steady s t old new a end args valid term over keeps memory is v still steady = record {
  memory = λ u g. kernel u ∙ still.memory u g ∙ sym (kernel v);
  state = λ u g. (is u (steady_there formula_base s old a v u g still) (terms_there formula_base old args v u g steady)).state
      ∙ (λ i. (transition s t (still.state u g i) (steady u g i)).state)
      ∙ sym (is v still steady).state;
}
  where
    kernel : (u : Reading) → kernel_at new end.memory u ≡ kernel_at old a.memory u
    kernel u = ap (λ m. kernel_at new m u) memory ∙ kernel_at_kept s a.memory a.locals a.first old new u over.base keeps
