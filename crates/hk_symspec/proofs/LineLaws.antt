-- The lines of a transition, one at a time: what they name and read lasts as the list of terms grows, and what is behind each.
use Rattle.std.proofs.Common.{rules, ◌≡◌, ◌+◌, ◌<◌, ◌≤◌, ℕ, List, [], ◌∷◌, ◌++◌, length, map, zero, suc, drop, drop-cons, add-one, get_or, arith, refl, sym, ◌∙◌, ap, subst, append_assoc}
use Rattle.std.specs.Prelude.{All, slice_index_or}
use Rattle.std.proofs.lemmas.List.{append-nil, map-append}
use Rattle.std.proofs.lemmas.List.Elements.{All-cons, All-head, All-tail, All-append}
use Rattle.std.proofs.lemmas.Option.{get_or_from_slice_get, slice_get_within}
use Rattle.hk_term.specs.Shape.{width, Grows}
use Rattle.hk_term.specs.Meaning.{Reading, value}
use Rattle.hk_term.specs.declared.node.Node.{Node}
use Rattle.spec_tree.specs.Plain.{Key, Tree, Trees, no_trees, tree_and, Line, let_line, write_line, Spec}
use Rattle.spec_tree.specs.Sorted.{Context, FieldSort, AreIndices, AreLines, IsSorted, field_sorts, lets_of, no_field, width_of, with_local, with_locals}
use Rattle.spec_tree.specs.Value as tree
use Rattle.spec_tree.specs.Value.{Env, values, place_behind}
use Rattle.spec_tree.specs.Meaning.{State, after_lines, entry_set, with_value}
use Rattle.spec_tree.specs.View.{view_expr_list, view_exprs}
use Rattle.spec_tree.specs.declared.expr.ExprList.{ExprList, out-ExprList}
use Rattle.spec_tree.specs.declared.expr.Expr.TheFolds.{fold_out-ExprList}
use Rattle.hk_symexpr.specs.Sources.{Agrees, Keeps}
use Rattle.hk_symexpr.specs.Naming.{AreLimited, IsNamed, IsRead}
use Rattle.hk_symexpr.specs.declared.names.NamedTerm.{NamedTerm}
use Rattle.hk_symexpr.specs.declared.names.Limit.{Limit}
use Rattle.hk_symspec.specs.declared.write.EntryWrite.{EntryWrite}
use Rattle.hk_symspec.specs.States.{StateView, after_write, after_writes, numbers_at, state_at}
use Rattle.hk_symspec.specs.Standing.{AreKeyTerms, IsWriteOver, formula_base}
use Rattle.hk_symspec.specs.KeptLaws.{KeepsValues, kernel_at_kept, later_kept, named_kept, names_kept, read_over_kept, state_kept}
use Rattle.hk_symspec.specs.Lines.{AreSorted, IsPoint, LineReads, line_context, line_scope, line_source, widths_of}

grown : (a b c : List Node) → Grows a b → Grows b c → Grows a c
grown a b c p q = record { more = p.more ++ q.more; is = q.is ∙ ap (λ l. l ++ q.more) p.is ∙ append_assoc a p.more q.more }

-- what a constructor's own clauses say
pub framed : (a b : List Node) → length a ≤ length b → ((k : ℕ) → k < length a → width b k ≡ width a k)
    → ((k : ℕ) → k < length a → (v : Reading) → value b k v ≡ value a k v) → Grows a b → Keeps a b
framed a b longer widths values grows = record { longer = longer; widths = widths; values = values; grows = λ c g. grown c a b g grows }

pub unchanged : (a : List Node) → Keeps a a
unchanged a = record { longer = omega arith; widths = λ k h. refl; values = λ k h v. refl; grows = λ c g. g }

pub followed : (a b c : List Node) → Keeps a b → Keeps b c → Keeps a c
followed a b c p q = record {
  longer = omega (arith, p.longer, q.longer);
  widths = λ k h. q.widths k (omega (arith, h, p.longer)) ∙ p.widths k h;
  values = λ k h v. q.values k (omega (arith, h, p.longer)) v ∙ p.values k h v;
  grows = λ d g. q.grows d (p.grows d g);
}

pub agrees_self : (limit : ℕ) (v : Reading) → Agrees limit v v
agrees_self limit v = record { entry = refl; var = λ id l. refl }

pub agrees_then : (limit : ℕ) (v u w : Reading) → Agrees limit v u → Agrees limit u w → Agrees limit v w
agrees_then limit v u w a b = record { entry = b.entry ∙ a.entry; var = λ id l. b.var id l ∙ a.var id l }

-- ---- as the list of terms grows

known_kept : (old new : List Node) (known : List Limit) (v : Reading) → KeepsValues old new → All (λ l. l.term < length old) known → AreLimited old known v → AreLimited new known v
known_kept old new known v keeps there h = λ k d l. let e = keeps (slice_index_or known k d).term (there k d l) v in let n = h k d l in omega (arith, e, n)

pub point_kept : (s : Spec) (old new : List Node) (a : StateView) (args : List NamedTerm) (known : List Limit) (locals : List NamedTerm) (writes : List EntryWrite)
    → IsPoint s old a args known locals writes → Keeps old new → IsPoint s new a args known locals writes
point_kept s old new a args known locals writes p k = record {
  read = read_over_kept s a writes old new p.read k;
  names = record {
    args = named_kept old new args k.longer k.widths p.names.args;
    locals = named_kept old new locals k.longer k.widths p.names.locals;
    keys = λ j d l. absurd (omega (arith, l));
    known = λ j d l. let h = p.names.known j d l in omega (arith, h, k.longer);
  };
  done = λ j d l v. k.values (slice_index_or writes j d).guard (p.read.later j d l).guard v ∙ p.done j d l v;
}

pub reads_kept : (s : Spec) (old new : List Node) (a : StateView) (args : List NamedTerm) (known : List Limit) (locals : List NamedTerm) (writes : List EntryWrite)
    → IsPoint s old a args known locals writes → Keeps old new → (v : Reading) (env : Env) → LineReads s old a args known locals writes v env → LineReads s new a args known locals writes v env
reads_kept s old new a args known locals writes p k v env h u g = record {
  read = (λ i. record {
    old = state_kept s a old new u p.read.state k i;
    new = later_kept s a writes old new u p.read k i;
    memory = kernel_at_kept s a.memory a.locals a.first old new u p.read.state.base k i;
  }) ∙ r.read;
  memory = r.memory;
  args = r.args ∙ sym (names_kept old new args u k.values p.names.args);
  locals = r.locals ∙ sym (names_kept old new locals u k.values p.names.locals);
  bounds = r.bounds;
  below = r.below;
  known = known_kept old new known u k.values p.names.known r.known;
}
  where
    r : IsRead (line_source s old a writes) (line_context s args locals) old (line_scope args known locals) u env
    r = h u g

-- ---- where more is known

pub point_knowing : (s : Spec) (nodes : List Node) (a : StateView) (args : List NamedTerm) (known known' : List Limit) (locals : List NamedTerm) (writes : List EntryWrite)
    → All (λ l. l.term < length nodes) known' → IsPoint s nodes a args known locals writes → IsPoint s nodes a args known' locals writes
point_knowing s nodes a args known known' locals writes there p = record {
  read = p.read;
  names = record { args = p.names.args; locals = p.names.locals; keys = p.names.keys; known = there };
  done = p.done;
}

pub reads_knowing : (s : Spec) (nodes : List Node) (a : StateView) (args : List NamedTerm) (known known' : List Limit) (locals : List NamedTerm) (writes : List EntryWrite) (v : Reading) (env : Env)
    → ((u : Reading) → Agrees (formula_base + 0) v u → AreLimited nodes known' u) → LineReads s nodes a args known locals writes v env → LineReads s nodes a args known' locals writes v env
reads_knowing s nodes a args known known' locals writes v env limits h u g = record {
  read = (h u g).read;
  memory = (h u g).memory;
  args = (h u g).args;
  locals = (h u g).locals;
  bounds = (h u g).bounds;
  below = (h u g).below;
  known = limits u g;
}

-- ---- a local name

pub point_named : (s : Spec) (nodes : List Node) (a : StateView) (args : List NamedTerm) (known : List Limit) (locals locals' : List NamedTerm) (writes : List EntryWrite) (n : NamedTerm)
    → locals' ≡ locals ++ n ∷ [] → IsNamed nodes n → IsPoint s nodes a args known locals writes → IsPoint s nodes a args known locals' writes
point_named s nodes a args known locals locals' writes n put named p = record {
  read = p.read;
  names = record {
    args = p.names.args;
    locals = subst (All (IsNamed nodes)) (sym put) (All-append (IsNamed nodes) locals (n ∷ []) p.names.locals (All-cons (IsNamed nodes) n [] named (λ k d l. absurd (omega (arith, l)))));
    keys = p.names.keys;
    known = p.names.known;
  };
  done = p.done;
}

pub context_named : (s : Spec) (args locals locals' : List NamedTerm) (n : NamedTerm) (e : Tree) → locals' ≡ locals ++ n ∷ [] → n.width ≡ width_of (line_context s args locals) e
    → line_context s args locals' ≡ with_local (line_context s args locals) e
context_named s args locals locals' n e put is =
    ap (line_context s args) put
    ∙ (λ i. record (line_context s args locals) { locals = map-append (λ (l : NamedTerm). l.width) locals (n ∷ []) i })
    ∙ (λ i. record (line_context s args locals) { locals = map (λ l. l.width) locals ++ is i ∷ [] })

pub reads_named : (s : Spec) (nodes : List Node) (a : StateView) (args : List NamedTerm) (known : List Limit) (locals locals' : List NamedTerm) (writes : List EntryWrite) (n : NamedTerm) (e : Tree) (v : Reading) (env : Env)
    → locals' ≡ locals ++ n ∷ []
    → ((u : Reading) → Agrees (formula_base + 0) v u → value nodes n.term u ≡ tree.value (line_context s args locals) env e)
    → LineReads s nodes a args known locals writes v env
    → LineReads s nodes a args known locals' writes v (with_value (line_context s args locals) env e)
reads_named s nodes a args known locals locals' writes n e v env put is h =
    subst (λ l. LineReads s nodes a args known l writes v (with_value (line_context s args locals) env e)) (sym put) made
  where
    made : LineReads s nodes a args known (locals ++ n ∷ []) writes v (with_value (line_context s args locals) env e)
    made u g = record {
      read = (h u g).read;
      memory = (h u g).memory;
      args = (h u g).args;
      locals = (λ i. (h u g).locals i ++ sym (is u g) i ∷ []) ∙ sym (map-append (λ l. value nodes l.term u) locals (n ∷ []));
      bounds = (h u g).bounds;
      below = (h u g).below;
      known = (h u g).known;
    }

-- ---- expressions in their order

pub list_is : (l : ExprList) → view_expr_list l ≡ view_exprs (out-ExprList l).items.items
list_is l = search (rules, fold_out-ExprList)

pub part_at : {X : Type 0} (items : List X) (k : ℕ) (part : X) → part ≡ get_or items k part → k < length items → drop k items ≡ part ∷ drop (k + 1) items
part_at items k part e l = drop-cons items k part l ∙ ap (λ x. x ∷ drop (suc k) items) (sym e) ∙ ap (λ q. part ∷ drop q items) (sym (add-one k))

pub drop_end : {X : Type 0} (items : List X) (k : ℕ) → length items ≤ k → drop k items ≡ []
drop_end [] zero l = refl
drop_end [] (suc k) l = refl
drop_end (x ∷ items) zero l = absurd (omega (arith, l))
drop_end (x ∷ items) (suc k) l = drop_end items k (omega (arith, l))

pub here : (c : Context) (left rest : Trees) (e : Tree) → left ≡ tree_and e rest → AreSorted c left → IsSorted c e × AreSorted c rest
here c left rest e is h = subst (AreSorted c) is h

pub put_one : {X : Type 0} (before now : List X) (x : X) (left rest whole : List X) → now ≡ before ++ x ∷ [] → left ≡ x ∷ rest → before ++ left ≡ whole → now ++ rest ≡ whole
put_one before now x left rest whole put is h = ap (λ l. l ++ rest) put ∙ append_assoc before (x ∷ []) rest ∙ ap (λ l. before ++ l) (sym is) ∙ h

pub put_all : {X : Type 0} (now rest whole : List X) → rest ≡ [] → now ++ rest ≡ whole → now ≡ whole
put_all now rest whole e h = sym (append-nil now) ∙ ap (λ l. now ++ l) (sym e) ∙ h

pub map_more : {X Y : Type 0} (f : X → Y) (xs xs' : List X) (x : X) (y : Y) → xs' ≡ xs ++ x ∷ [] → f x ≡ y → map f xs' ≡ map f xs ++ y ∷ []
map_more f xs xs' x y put is = ap (map f) put ∙ map-append f xs (x ∷ []) ∙ (λ i. map f xs ++ is i ∷ [])

pub map_kept : (f g : ℕ → ℕ) (low : ℕ) (ks : List ℕ) → ((k : ℕ) → k < low → f k ≡ g k) → All (λ k. k < low) ks → map f ks ≡ map g ks
map_kept f g low [] h there = refl
map_kept f g low (k ∷ ks) h there = λ i. h k (All-head (λ k. k < low) k ks there) i ∷ map_kept f g low ks h (All-tail (λ k. k < low) k ks there) i

-- the numbers, or the widths, of terms of which one was put
pub map_put : (f g : ℕ → ℕ) (low : ℕ) (ks ks' : List ℕ) (r n : ℕ) → ((k : ℕ) → k < low → f k ≡ g k) → All (λ k. k < low) ks → ks' ≡ ks ++ r ∷ [] → f r ≡ n → map f ks' ≡ map g ks ++ n ∷ []
map_put f g low ks ks' r n h there put is = ap (map f) put ∙ map-append f ks (r ∷ []) ∙ (λ i. map_kept f g low ks h there i ++ is i ∷ [])

pub within_put : (low high : ℕ) (ks ks' : List ℕ) (r : ℕ) → low ≤ high → All (λ k. k < low) ks → ks' ≡ ks ++ r ∷ [] → r < high → All (λ k. k < high) ks'
within_put low high ks ks' r longer there put is =
    subst (All (λ k. k < high)) (sym put)
    (All-append (λ k. k < high) ks (r ∷ []) (λ k d l. let h = there k d l in omega (arith, h, longer)) (All-cons (λ k. k < high) r [] is (λ k d l. absurd (omega (arith, l)))))

-- ---- a write

pub indices_sorted : (c : Context) (keys : List Key) (at : Trees) → AreIndices c keys at → AreSorted c at
indices_sorted c keys no_trees h = tt
indices_sorted c keys (tree_and e es) h = (h.3, indices_sorted c h.1 es h.5)

key_terms_of : (c : Context) (nodes : List Node) (keys : List Key) (at : Trees) (ks : List ℕ) → AreIndices c keys at → All (λ k. k < length nodes) ks → map (width nodes) ks ≡ widths_of c at → AreKeyTerms nodes keys ks
key_terms_of c nodes keys no_trees [] h there is = subst (λ l. AreKeyTerms nodes l []) (sym h) refl
key_terms_of c nodes keys no_trees (k ∷ ks) h there is = cc
key_terms_of c nodes keys (tree_and e es) [] h there is = cc
key_terms_of c nodes keys (tree_and e es) (k ∷ ks) h there is =
    let first : width nodes k ≡ width_of c e = cc in
    let others : map (width nodes) ks ≡ widths_of c es = cc in
    subst (λ l. AreKeyTerms nodes l (k ∷ ks)) (sym h.2)
    (All-head (λ k. k < length nodes) k ks there, first ∙ h.4, key_terms_of c nodes h.1 es ks h.5 (All-tail (λ k. k < length nodes) k ks there) others)

pub write_over : (s : Spec) (args locals : List NamedTerm) (nodes : List Node) (w : EntryWrite) (f : ℕ) (at : Trees) (e : Tree)
    → AreLines (line_context s args locals) (write_line f at e ∷ [])
    → w.field ≡ f
    → All (λ k. k < length nodes) w.index → map (width nodes) w.index ≡ widths_of (line_context s args locals) at
    → w.guard < length nodes → width nodes w.guard ≡ 1
    → w.value < length nodes → width nodes w.value ≡ width_of (line_context s args locals) e
    → IsWriteOver (field_sorts s) nodes w
write_over s args locals nodes w f at e sorted field there index guard truth number is = record {
  field = omega (arith, field, slice_get_within (field_sorts s) f sorted.0.0 sorted.0.1);
  index = subst (λ x. AreKeyTerms nodes x.keys w.index) (sym sort) (key_terms_of (line_context s args locals) nodes sorted.0.0.keys at w.index sorted.0.2 there index);
  guard = guard;
  truth = truth;
  value = number;
  number = is ∙ sorted.0.4 ∙ ap (λ x. x.width) (sym sort);
}
  where
    sort : slice_index_or (field_sorts s) w.field no_field ≡ sorted.0.0
    sort = ap (λ k. slice_index_or (field_sorts s) k no_field) field ∙ get_or_from_slice_get (field_sorts s) f sorted.0.0 no_field sorted.0.1

pub point_written : (s : Spec) (nodes : List Node) (a : StateView) (args : List NamedTerm) (known : List Limit) (locals : List NamedTerm) (writes writes' : List EntryWrite) (w : EntryWrite)
    → writes' ≡ writes ++ w ∷ [] → IsWriteOver (field_sorts s) nodes w → ((v : Reading) → value nodes w.guard v ≡ 1)
    → IsPoint s nodes a args known locals writes → IsPoint s nodes a args known locals writes'
point_written s nodes a args known locals writes writes' w put over done p = record {
  read = record {
    state = p.read.state;
    later = subst (All Over) (sym put) (All-append Over writes (w ∷ []) p.read.later (All-cons Over w [] over (λ k d l. absurd (omega (arith, l)))));
  };
  names = p.names;
  done = subst (All Done) (sym put) (All-append Done writes (w ∷ []) p.done (All-cons Done w [] done (λ k d l. absurd (omega (arith, l)))));
}
  where
    Over : EntryWrite → Type 0
    Over = IsWriteOver (field_sorts s) nodes

    Done : EntryWrite → Type 0
    Done x = (v : Reading) → value nodes x.guard v ≡ 1

writes_more : (fields : List FieldSort) (nodes : List Node) (v : Reading) (ws : List EntryWrite) (w : EntryWrite) (st : State) → after_writes fields nodes v (ws ++ w ∷ []) st ≡ after_write fields nodes v w (after_writes fields nodes v ws st)
writes_more fields nodes v [] w st = refl
writes_more fields nodes v (x ∷ ws) w st = writes_more fields nodes v ws w (after_write fields nodes v x st)

-- what a write does whose guard is true
done_write : (fields : List FieldSort) (nodes : List Node) (v : Reading) (w : EntryWrite) (st : State) → value nodes w.guard v ≡ 1
    → after_write fields nodes v w st ≡ entry_set st w.field (place_behind 0 (slice_index_or fields w.field no_field).keys (numbers_at nodes w.index v)) (value nodes w.value v)
done_write fields nodes v w st one = rw one refl

pub reads_written : (s : Spec) (nodes : List Node) (a : StateView) (args : List NamedTerm) (known : List Limit) (locals : List NamedTerm) (writes writes' : List EntryWrite) (w : EntryWrite) (f : ℕ) (at : Trees) (e : Tree) (v : Reading) (env : Env)
    → writes' ≡ writes ++ w ∷ [] → w.field ≡ f → ((u : Reading) → value nodes w.guard u ≡ 1)
    → ((u : Reading) → Agrees (formula_base + 0) v u → numbers_at nodes w.index u ≡ values (line_context s args locals) env at)
    → ((u : Reading) → Agrees (formula_base + 0) v u → value nodes w.value u ≡ tree.value (line_context s args locals) env e)
    → LineReads s nodes a args known locals writes v env
    → LineReads s nodes a args known locals writes' v (after_lines (line_context s args locals) env (write_line f at e ∷ []))
reads_written s nodes a args known locals writes writes' w f at e v env put field guard index number h u g = record {
  read = (λ i. record { old = (r.read i).old; new = new i; memory = (r.read i).memory });
  memory = r.memory;
  args = r.args;
  locals = r.locals;
  bounds = r.bounds;
  below = r.below;
  known = r.known;
}
  where
    fields : List FieldSort
    fields = field_sorts s

    r : IsRead (line_source s nodes a writes) (line_context s args locals) nodes (line_scope args known locals) u env
    r = h u g

    new : after_writes fields nodes u writes' (state_at s nodes a u)
        ≡ entry_set env.new f (place_behind 0 (slice_index_or fields f no_field).keys (values (line_context s args locals) env at)) (tree.value (line_context s args locals) env e)
    new = ap (λ ws. after_writes fields nodes u ws (state_at s nodes a u)) put
        ∙ writes_more fields nodes u writes w (state_at s nodes a u)
        ∙ done_write fields nodes u w (after_writes fields nodes u writes (state_at s nodes a u)) (guard u)
        ∙ (λ i. entry_set (r.read i).new (field i) (place_behind 0 (slice_index_or fields (field i) no_field).keys (index u g i)) (number u g i))

-- ---- lines in their order

pub line_sorted : (c c' : Context) (l : Line) (left rest : List Line) → left ≡ l ∷ rest → c' ≡ with_locals c (lets_of (l ∷ [])) → AreLines c left → AreLines c (l ∷ []) × AreLines c' rest
line_sorted c c' l left rest is context sorted =
    let both : AreLines c (l ∷ []) × AreLines (with_locals c (lets_of (l ∷ []))) rest = parts l (subst (AreLines c) is sorted) in
    (both.0, subst (λ x. AreLines x rest) (sym context) both.1)
  where
    parts : (l : Line) → AreLines c (l ∷ rest) → AreLines c (l ∷ []) × AreLines (with_locals c (lets_of (l ∷ []))) rest
    parts (let_line e) h = ((h.0, tt), h.1)
    parts (write_line f at e) h = ((h.0, tt), h.1)

line_then : (c : Context) (l : Line) (rest : List Line) → with_locals (with_locals c (lets_of (l ∷ []))) (lets_of rest) ≡ with_locals c (lets_of (l ∷ rest))
line_then c (let_line e) rest = refl
line_then c (write_line f at e) rest = refl

after_then : (c : Context) (v : Env) (l : Line) (rest : List Line) → after_lines (with_locals c (lets_of (l ∷ []))) (after_lines c v (l ∷ [])) rest ≡ after_lines c v (l ∷ rest)
after_then c v (let_line e) rest = refl
after_then c v (write_line f at e) rest = refl

pub line_behind : (c c' : Context) (l : Line) (left rest : List Line) → left ≡ l ∷ rest → c' ≡ with_locals c (lets_of (l ∷ [])) → with_locals c' (lets_of rest) ≡ with_locals c (lets_of left)
line_behind c c' l left rest is context = ap (λ x. with_locals x (lets_of rest)) context ∙ line_then c l rest ∙ ap (λ ls. with_locals c (lets_of ls)) (sym is)

-- behind what is read now, the lines that are left lead to what is read behind all lines
pub record LeadsOn (s : Spec) (nodes : List Node) (a : StateView) (args : List NamedTerm) (known : List Limit) (locals : List NamedTerm) (writes : List EntryWrite) (left : List Line) (v : Reading) (last : Env) : Type 0 where
  pub now : Env
  pub reads : LineReads s nodes a args known locals writes v now
  pub ends : after_lines (line_context s args locals) now left ≡ last

pub leads_on : (s : Spec) (old new : List Node) (a : StateView) (args : List NamedTerm) (known : List Limit) (locals locals' : List NamedTerm) (writes writes' : List EntryWrite) (l : Line) (left rest : List Line)
    → left ≡ l ∷ rest
    → line_context s args locals' ≡ with_locals (line_context s args locals) (lets_of (l ∷ []))
    → ((v : Reading) (env : Env) → LineReads s old a args known locals writes v env → LineReads s new a args known locals' writes' v (after_lines (line_context s args locals) env (l ∷ [])))
    → (v : Reading) (last : Env) → LeadsOn s old a args known locals writes left v last → LeadsOn s new a args known locals' writes' rest v last
leads_on s old new a args known locals locals' writes writes' l left rest is context step v last h = record {
  now = after_lines (line_context s args locals) h.now (l ∷ []);
  reads = step v h.now h.reads;
  ends = ap (λ x. after_lines x (after_lines (line_context s args locals) h.now (l ∷ [])) rest) context
      ∙ after_then (line_context s args locals) h.now l rest
      ∙ ap (after_lines (line_context s args locals) h.now) (sym is) ∙ h.ends;
}

pub led_on : (s : Spec) (nodes : List Node) (a : StateView) (args : List NamedTerm) (known : List Limit) (locals : List NamedTerm) (writes : List EntryWrite) (left : List Line) (v : Reading) (last : Env)
    → left ≡ [] → LeadsOn s nodes a args known locals writes left v last → LineReads s nodes a args known locals writes v last
led_on s nodes a args known locals writes left v last is h =
    subst (LineReads s nodes a args known locals writes v) (ap (after_lines (line_context s args locals) h.now) (sym is) ∙ h.ends) h.reads

-- the copy of the state behind the writes, in a longer list
pub copy_behind : (s : Spec) (old new : List Node) (a : StateView) (args : List NamedTerm) (known : List Limit) (locals : List NamedTerm) (writes writes' : List EntryWrite) (v : Reading) (env : Env)
    → writes' ≡ writes → IsPoint s old a args known locals writes → Keeps old new → LineReads s old a args known locals writes v env
    → after_writes (field_sorts s) new v writes' (state_at s new a v) ≡ env.new
copy_behind s old new a args known locals writes writes' v env same p k h =
    ap (λ ws. after_writes (field_sorts s) new v ws (state_at s new a v)) same
    ∙ later_kept s a writes old new v p.read k
    ∙ (λ i. ((h v (agrees_self (formula_base + 0) v)).read i).new)
