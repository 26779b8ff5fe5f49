-- The names of the specification that lines stand for.
use Rattle.std.proofs.Common.{◌≡◌, ℕ, Bool, true, false, not, cond, Option, Some, None, List, [], ◌∷◌, ◌++◌, map, refl, sym, ◌∙◌, ap, subst}
use Rattle.std.proofs.lemmas.Bool.{or_parts}
use Rattle.std.proofs.lemmas.Iterator.Adapters.{position_from-zero}
use Rattle.std.proofs.lemmas.List.{append_assoc}
use Rattle.std.proofs.lemmas.List.Elements.{All-nil, All-cons, All-append}
use Rattle.std.proofs.lemmas.Slice.Eq.{bytes_eq-Decides}
use Rattle.std.specs.Prelude.{bytes_eq, is_some}
use Rattle.std.specs.List.{All, IsDistinct}
use Rattle.spec_ast.specs.declared.fault.SpecReason.TheVariants.{S6}
use Rattle.spec_ast.specs.Raw.{Tree, Item, Line, sort_line, constant_line, hook_line, class_line, field_line, def_line, var_line, let_line, copy_line, write_line, return_line, end_line}
use Rattle.spec_tree.specs.Plain as tree
use Rattle.spec_tree.specs.Plain.{Field, Named, Transition, Spec}
use Rattle.spec_names.specs.Kernel.{Name, Kernel}
use Rattle.spec_read.specs.Places.{Function, equivalence, invariant, property, handler, function_of}
use Rattle.spec_scope.specs.declared.meaning.Kind.TheVariants.{Truth}
use Rattle.spec_scope.specs.declared.meaning.Meaning.{Meaning}
use Rattle.spec_scope.specs.declared.meaning.Meaning.TheVariants as means
use Rattle.spec_scope.specs.Scope.{Names, Declared, Scope, meaning_of, with_name, place_in, with_field}
use Rattle.spec_scope.specs.Taking.{one, take}
use Rattle.spec_scope.specs.Tests.{are_new, is_rebound}
use Rattle.spec_lines.specs.Sorts.{sort_for, field_sort_for, sort_meaning}
use Rattle.spec_lines.specs.Behind.{Head, Here, kind_of, is_handler, behind, begin, Fore, is_one, fore_behind, fore_from, scope_of}
use Rattle.spec_lines.specs.Faults.{Text, Values, values_of, on_line, is_taken}
use Rattle.spec_lines.specs.Faults as faults
use Rattle.spec_lines.specs.Laws.{Stands, AllStand}
use Rattle.spec_lines.specs.Whole.{Made, nothing_made, field_with, field_made, fields_from, equivalence_made, with_invariant, with_property, return_made, result_made, transition_with, with_transition, head_made, end_made, ended, made_behind, made_from, spec_with, spec_of}
use Rattle.hk_cert_lines.specs.Words.{is_word, is_name, is_handler_name}
use Rattle.hk_cert_law.specs.Names.{HasNames}
use Rattle.hk_cert_law.specs.Spelled.{IsSpelled, AreSpelled}
use Rattle.hk_cert_law.proofs.Each.{Each, each_append}
use Rattle.hk_cert_law.proofs.Functions.{inv, prop, Tells, kind_tells}
use Rattle.hk_cert_law.proofs.Walking.{Along, chain_is, one_is, same_all, same_def, same_let, same_write, some_is, walk}
use Rattle.hk_cert_law.proofs.Pushed.{IsNone, distinct_push, distinct_none, no_place, map_push}

-- ---- names of the top

taken_behind : (top : Names) (x : Name) (m : Meaning) (z : Name) → is_taken top z ≡ true → is_taken (top ++ (x, m) ∷ []) z ≡ true
taken_behind [] x m z h = absurd (cc h)
taken_behind (e ∷ top) x m z h = by (bytes_eq z e.0) h (λ rest. taken_behind top x m z rest)
  where
    by : (t : Bool) → is_some (cond t (Some e.1) (meaning_of top z)) ≡ true → (is_taken top z ≡ true → is_taken (top ++ (x, m) ∷ []) z ≡ true) → is_some (cond t (Some e.1) (meaning_of (top ++ (x, m) ∷ []) z)) ≡ true
    by true h next = refl
    by false h next = next h

taken_grown : (top : Names) (x : Name) (m : Meaning) (z : Name) → is_taken top z ≡ true → is_taken (with_name top x m) z ≡ true
taken_grown top x m z h = by (is_some (meaning_of top x))
  where
    by : (t : Bool) → is_taken (cond t top (top ++ (x, m) ∷ [])) z ≡ true
    by true = h
    by false = taken_behind top x m z h

same_name : (x : Name) → bytes_eq x x ≡ true
same_name x = (bytes_eq-Decides x x).1 refl

taken_last : (top : Names) (x : Name) (m : Meaning) → is_taken (top ++ (x, m) ∷ []) x ≡ true
taken_last [] x m = ap (λ t. is_some (cond t (Some m) None)) (same_name x)
taken_last (e ∷ top) x m = by (bytes_eq x e.0) (taken_last top x m)
  where
    by : (t : Bool) → is_taken (top ++ (x, m) ∷ []) x ≡ true → is_some (cond t (Some e.1) (meaning_of (top ++ (x, m) ∷ []) x)) ≡ true
    by true next = refl
    by false next = next

taken_here : (top : Names) (x : Name) (m : Meaning) → is_taken (with_name top x m) x ≡ true
taken_here top x m = by (is_some (meaning_of top x)) refl
  where
    by : (t : Bool) → is_some (meaning_of top x) ≡ t → is_taken (cond t top (top ++ (x, m) ∷ [])) x ≡ true
    by true e = e
    by false e = taken_last top x m

-- ---- what is kept

-- names with their prefix stand at the top, and no two are the same
pub record Own (front : List ℕ) (top : Names) (names : List (List ℕ)) : Type 0 where
  pub taken : Each (λ n. is_taken top (front ++ n) ≡ true) names
  pub spelled : Each (λ n. is_word n ≡ true) names
  pub distinct : IsDistinct bytes_eq names

-- a name that may be added
pub record New (front : List ℕ) (top : Names) (n : List ℕ) (names : List (List ℕ)) : Type 0 where
  pub taken : is_taken top (front ++ n) ≡ true
  pub spelled : is_word n ≡ true
  pub none : IsNone n names

abbrev names_of : List Named → List (List ℕ)
names_of ns = map (λ n. n.name) ns

each_grown : (front : List ℕ) (top : Names) (x : Name) (m : Meaning) (names : List (List ℕ)) → Each (λ n. is_taken top (front ++ n) ≡ true) names → Each (λ n. is_taken (with_name top x m) (front ++ n) ≡ true) names
each_grown front top x m [] h = tt
each_grown front top x m (n ∷ names) h = (taken_grown top x m (front ++ n) h.0, each_grown front top x m names h.1)

own_grown : (front : List ℕ) (top : Names) (x : Name) (m : Meaning) (names : List (List ℕ)) → Own front top names → Own front (with_name top x m) names
own_grown front top x m names h = record { taken = each_grown front top x m names h.taken; spelled = h.spelled; distinct = h.distinct }

own_more : (front : List ℕ) (top : Names) (n : List ℕ) (names : List (List ℕ)) → Own front top names → New front top n names → Own front top (names ++ n ∷ [])
own_more front top n names h new = record {
  taken = each_append (λ n. is_taken top (front ++ n) ≡ true) names (n ∷ []) h.taken (new.taken, tt);
  spelled = each_append (λ n. is_word n ≡ true) names (n ∷ []) h.spelled (new.spelled, tt);
  distinct = distinct_push names n h.distinct new.none;
}

-- a function that is new at the top has a new name
none_new : (front : List ℕ) (top : Names) (x : Name) (n : List ℕ) (names : List (List ℕ)) → is_taken top x ≡ false → x ≡ front ++ n → Each (λ y. is_taken top (front ++ y) ≡ true) names → IsNone n names
none_new front top x n [] free is h = tt
none_new front top x n (y ∷ names) free is h = (by (bytes_eq y n) refl, none_new front top x n names free is h.1)
  where
    by : (t : Bool) → bytes_eq y n ≡ t → t ≡ false
    by true e =
        let same : y ≡ n = (bytes_eq-Decides y n).0 e in
        let there : is_taken top x ≡ true = ap (is_taken top) (is ∙ ap (λ z. front ++ z) (sym same)) ∙ h.0 in
        absurd (cc (there, free))
    by false e = refl

new_here : (front : List ℕ) (top : Names) (x : Name) (n : List ℕ) (names : List (List ℕ)) → is_taken top x ≡ false → x ≡ front ++ n → is_word n ≡ true → Own front top names → New front (with_name top x means.Nothing) n names
new_here front top x n names free is word own = record {
  taken = subst (λ z. is_taken (with_name top x means.Nothing) z ≡ true) is (taken_here top x means.Nothing);
  spelled = word;
  none = none_new front top x n names free is own.taken;
}

-- fields by their names
pub record Good (names : List (List ℕ)) : Type 0 where
  pub spelled : Each (λ n. is_name n ≡ true) names
  pub distinct : IsDistinct bytes_eq names

-- what has been made, as far as names go
record Parts : Type 0 where
  invariants : List Named
  properties : List Named
  transitions : List Transition
  fields : Option (List Field)

abbrev view : Made → Parts
view m = record { invariants = m.invariants; properties = m.properties; transitions = m.transitions; fields = m.fields }

ignores : (m : Made) (locals : List tree.Tree) (lines : List tree.Line) → view m ≡ view (record m { locals = locals; lines = lines })
ignores m locals lines = refl

abbrev KindGoes : Names → Name → Option Function → Parts → Type 0
KindGoes top x (Some (invariant n)) v = New inv top n (names_of v.invariants)
KindGoes top x (Some (property n)) v = New prop top n (names_of v.properties)
KindGoes top x (Some handler) v = is_handler_name x ≡ true
KindGoes top x _ v = Unit {0}

abbrev HeadGoes : Names → Option Head → Parts → Type 0
HeadGoes top None v = Unit {0}
HeadGoes top (Some head) v = KindGoes top head.name head.kind v

abbrev field_names : List Field → List (List ℕ)
field_names fs = map (λ f. f.name) fs

record Naming (top : Names) (ds : List Declared) (o : Option Head) (v : Parts) : Type 0 where
  head : HeadGoes top o v
  invariants : Own inv top (names_of v.invariants)
  properties : Own prop top (names_of v.properties)
  handlers : All (λ t. is_handler_name t.name ≡ true) v.transitions
  declared : Good (map (λ d. d.name) ds)
  fields : (fs : List Field) → v.fields ≡ Some fs → Good (field_names fs)

abbrev NamingAt : Here → Made → Type 0
NamingAt h m = Naming h.scope.top h.scope.fields h.head (view m)

-- a name more at the top
grown : (top : Names) (ds : List Declared) (o : Option Head) (v : Parts) (x : Name) (m : Meaning) → Naming top ds o v → Naming (with_name top x m) ds None v
grown top ds o v x m p = record {
  head = tt;
  invariants = own_grown inv top x m (names_of v.invariants) p.invariants;
  properties = own_grown prop top x m (names_of v.properties) p.properties;
  handlers = p.handlers;
  declared = p.declared;
  fields = p.fields;
}

-- no function goes on
closed : (top : Names) (ds : List Declared) (o : Option Head) (v : Parts) → Naming top ds o v → Naming top ds None v
closed top ds o v p = record { head = tt; invariants = p.invariants; properties = p.properties; handlers = p.handlers; declared = p.declared; fields = p.fields }

-- the function that a line begins
kind_goes : (top : Names) (x : Name) (v : Parts) (k : Option Function) → is_taken top x ≡ false → Tells x k → Own inv top (names_of v.invariants) → Own prop top (names_of v.properties) → KindGoes (with_name top x means.Nothing) x k v
kind_goes top x v None free told i p = tt
kind_goes top x v (Some equivalence) free told i p = tt
kind_goes top x v (Some (invariant n)) free told i p = new_here inv top x n (names_of v.invariants) free told.0 told.1 i
kind_goes top x v (Some (property n)) free told i p = new_here prop top x n (names_of v.properties) free told.0 told.1 p
kind_goes top x v (Some handler) free told i p = told

defined : (t : Text) (h : Here) (m : Made) (line : ℕ) (x : Name) (ps : List Name) (place : Option ℕ) → NamingAt h m → Stands t h (def_line x ps) → is_name x ≡ true
    → Naming (with_name h.scope.top x means.Nothing) h.scope.fields (Some (record { line = line; name = x; kind = function_of x ps; place = place })) (view m)
defined t h m line x ps place p stands named =
    let second = (or_parts (faults.is_second h (def_line x ps)) (on_line is_rebound (def_line x ps)) (stands S6)).0 in
    let free = (or_parts (is_taken h.scope.top x) (not (are_new [] ps)) second).0 in
    let g = grown h.scope.top h.scope.fields h.head (view m) x means.Nothing p in
    record {
      head = kind_goes h.scope.top x (view m) (function_of x ps) free (kind_tells x named ps) p.invariants p.properties;
      invariants = g.invariants;
      properties = g.properties;
      handlers = g.handlers;
      declared = g.declared;
      fields = g.fields;
    }

-- ---- fields

made_name : (d : Declared) (o : Option tree.Tree) (f : Field) → field_made d o ≡ Some f → f.name ≡ d.name
made_name d None f e = absurd (cc e)
made_name d (Some y) f e = let p = one_is (field_with d y) d.sort f e in sym (ap (λ (g : Field). g.name) p.2)

fields_named : (fs : List Field) (ds : List Declared) (values : Values) (gs : List Field) → fields_from fs ds values ≡ Some gs → field_names gs ≡ field_names fs ++ map (λ d. d.name) ds
fields_named fs [] values gs e = ap field_names (sym (some_is fs gs e)) ∙ sym (append_nil (field_names fs))
  where
    append_nil : (l : List (List ℕ)) → l ++ [] ≡ l
    append_nil [] = refl
    append_nil (y ∷ l) = ap (λ r. y ∷ r) (append_nil l)
fields_named fs (d ∷ ds) [] gs e = absurd (cc e)
fields_named fs (d ∷ ds) (y ∷ values) gs e =
    let p = chain_is (field_made d y) (λ f. fields_from (fs ++ f ∷ []) ds values) gs e in
    fields_named (fs ++ p.0 ∷ []) ds values gs p.2
    ∙ ap (λ l. l ++ map (λ d. d.name) ds) (map_push (λ f. f.name) fs p.0 ∙ ap (λ n. field_names fs ++ n ∷ []) (made_name d y p.0 p.1))
    ∙ append_assoc (field_names fs) (d.name ∷ []) (map (λ d. d.name) ds)

-- ---- return lines

module _ (top : Names) (ds : List Declared) where
  -- behind the return line of a function of this kind
  returned : (s : Scope) → s.fields ≡ ds → (m n : Made) (e : Tree) (x : Name) (k : Option Function) → KindGoes top x k (view m) → Naming top ds None (view m) → return_made k s m e ≡ Some n → Naming top ds None (view n)
  returned s same m n e x (Some equivalence) goes p made =
      let a = one_is (equivalence_made s m) (values_of s e) n made in
      subst (λ (o : Made). Naming top ds None (view o)) a.2
      (record {
        head = tt;
        invariants = p.invariants;
        properties = p.properties;
        handlers = p.handlers;
        declared = p.declared;
        fields = λ fs is. subst Good (sym (fields_named [] s.fields a.0 fs is)) (subst (λ l. Good (map (λ d. d.name) l)) (sym same) p.declared);
      })
  returned s same m n e x (Some (invariant i)) goes p made =
      let a = one_is (with_invariant i m) (take s [] Truth e) n made in
      subst (λ (o : Made). Naming top ds None (view o)) a.2
      (record {
        head = tt;
        invariants = subst (Own inv top) (sym (map_push (λ n. n.name) m.invariants (record { name = i; locals = m.locals; value = a.0 }))) (own_more inv top i (names_of m.invariants) p.invariants goes);
        properties = p.properties;
        handlers = p.handlers;
        declared = p.declared;
        fields = p.fields;
      })
  returned s same m n e x (Some (property i)) goes p made =
      let a = one_is (with_property i m) (take s [] Truth e) n made in
      subst (λ (o : Made). Naming top ds None (view o)) a.2
      (record {
        head = tt;
        properties = subst (Own prop top) (sym (map_push (λ n. n.name) m.properties (record { name = i; locals = m.locals; value = a.0 }))) (own_more prop top i (names_of m.properties) p.properties goes);
        invariants = p.invariants;
        handlers = p.handlers;
        declared = p.declared;
        fields = p.fields;
      })
  returned s same m n e x (Some handler) goes p made = subst (λ (o : Made). Naming top ds None (view o)) (one_is (λ y. m) (take s [] Truth e) n made).2 p
  returned s same m n e x None goes p made = subst (λ (o : Made). Naming top ds None (view o)) (one_is (λ y. m) (take s [] Truth e) n made).2 p

return_goes : (h : Here) (m n : Made) (e : Tree) (o : Option Head) → HeadGoes h.scope.top o (view m) → Naming h.scope.top h.scope.fields None (view m) → return_made (kind_of o) h.scope m e ≡ Some n → Naming h.scope.top h.scope.fields None (view n)
return_goes h m n e None goes p made = returned h.scope.top h.scope.fields h.scope refl m n e [] None tt p made
return_goes h m n e (Some head) goes p made = returned h.scope.top h.scope.fields h.scope refl m n e head.name head.kind goes p made

-- ---- the end line of a handler

with_handler : (top : Names) (ds : List Declared) (v : Parts) (t : Transition) → is_handler_name t.name ≡ true → Naming top ds None v → Naming top ds None (record v { transitions = v.transitions ++ t ∷ [] })
with_handler top ds v t named p = record {
  head = tt;
  invariants = p.invariants;
  properties = p.properties;
  declared = p.declared;
  fields = p.fields;
  handlers = All-append (λ t. is_handler_name t.name ≡ true) v.transitions (t ∷ []) p.handlers (All-cons (λ t. is_handler_name t.name ≡ true) t [] named (All-nil (λ t. is_handler_name t.name ≡ true)));
}

module _ (h : Here) (m : Made) (c : Name) (valid : tree.Tree) (result : Option tree.Tree) (p : Naming h.scope.top h.scope.fields None (view m)) where
  abbrev After : Made → Type 0
  After n = Naming h.scope.top h.scope.fields None (view n)

  by_kind : (head : Head) (place : ℕ) (k : Option Function) → head.kind ≡ k → KindGoes h.scope.top head.name k (view m) → (b : Bool) → is_handler k ≡ b → After (cond b (with_transition h m c head place valid result) m)
  by_kind head place k is goes false b = p
  by_kind head place None is goes true b = absurd (cc b)
  by_kind head place (Some equivalence) is goes true b = absurd (cc b)
  by_kind head place (Some (invariant n)) is goes true b = absurd (cc b)
  by_kind head place (Some (property n)) is goes true b = absurd (cc b)
  by_kind head place (Some handler) is goes true b = with_handler h.scope.top h.scope.fields (view m) (transition_with h m.lines c head place valid result) goes p

  by_place : (head : Head) → KindGoes h.scope.top head.name head.kind (view m) → (o : Option ℕ) → After (head_made h m c valid result head o)
  by_place head goes None = p
  by_place head goes (Some place) = by_kind head place head.kind refl goes (is_handler head.kind) refl

  by_head : (o : Option Head) → HeadGoes h.scope.top o (view m) → After (end_made h m c valid result o)
  by_head None goes = p
  by_head (Some head) goes = by_place head goes head.place

end_goes : (h : Here) (m n : Made) (e : Tree) (c : Name) (r : Option Tree) → NamingAt h m → ended h m e c r ≡ Some n → Naming h.scope.top h.scope.fields None (view n)
end_goes h m n e c r p done =
    let a = chain_is (take h.scope [] Truth e) (λ valid. one (λ y. end_made h m c valid y h.head) (result_made h r)) n done in
    let b = one_is (λ y. end_made h m c a.0 y h.head) (result_made h r) n a.2 in
    subst (λ (o : Made). Naming h.scope.top h.scope.fields None (view o)) b.2 (by_head h m c a.0 b.0 (closed h.scope.top h.scope.fields h.head (view m) p) h.head p.head)

-- ---- lines

step : (t : Text) (h : Here) (m n : Made) (line : ℕ) (item : Item) → NamingAt h m → Stands t h item × IsSpelled item → made_behind h m item ≡ Some n → NamingAt (behind h line item) n
step t h m n line (sort_line x sort) p s made = subst (Naming _ _ None) (same_all view ignores m n made) (grown h.scope.top h.scope.fields h.head (view m) x (sort_meaning (sort_for h.scope sort)) p)
step t h m n line (constant_line x c) p s made = subst (Naming _ _ None) (same_all view ignores m n made) (grown h.scope.top h.scope.fields h.head (view m) x (means.Constant c) p)
step t h m n line (hook_line x) p s made = subst (Naming _ _ None) (same_all view ignores m n made) (grown h.scope.top h.scope.fields h.head (view m) x means.Nothing p)
step t h m n line (class_line x) p s made = subst (Naming _ _ None) (same_all view ignores m n made) (grown h.scope.top h.scope.fields h.head (view m) x means.Nothing p)
step t h m n line (field_line x keys sort) p s made = subst (Naming h.scope.top h.scope.fields h.head) (same_all view ignores m n made) p
step t h m n line (def_line x ps) p s made = subst (Naming _ _ _) (same_def view ignores m n made) (defined t h m line x ps _ p s.0 s.1)
step t h m n line (var_line x sort) p s made = subst (Naming h.scope.top h.scope.fields h.head) (same_all view ignores m n made) p
step t h m n line (let_line x e) p s made = subst (Naming h.scope.top h.scope.fields h.head) (same_let view ignores h m n e made) p
step t h m n line (copy_line x o) p s made = subst (Naming h.scope.top h.scope.fields h.head) (same_all view ignores m n made) p
step t h m n line (write_line c f at e) p s made = subst (Naming h.scope.top h.scope.fields h.head) (same_write view ignores h.scope m n f at e made) p
step t h m n line (return_line e) p s made = return_goes h m n e h.head p.head (closed h.scope.top h.scope.fields h.head (view m) p) made
step t h m n line (end_line e c r) p s made = end_goes h m n e c r p made

-- ---- the fields of the text

field_more : (ds : List Declared) (d : Declared) → is_name d.name ≡ true → Good (map (λ d. d.name) ds) → Good (map (λ d. d.name) (with_field ds d))
field_more ds d named p = by (is_some (place_in ds d.name)) refl
  where
    by : (t : Bool) → is_some (place_in ds d.name) ≡ t → Good (map (λ d. d.name) (cond t ds (ds ++ d ∷ [])))
    by true e = p
    by false e =
        subst Good (sym (map_push (λ d. d.name) ds d))
        (record { spelled = each_append (λ n. is_name n ≡ true) (map (λ d. d.name) ds) (d.name ∷ []) p.spelled (named, tt); distinct = distinct_push (map (λ d. d.name) ds) d.name p.distinct (no_place d.name 0 (map (λ d. d.name) ds) (ap is_some (sym (position_from-zero (bytes_eq d.name) (map (λ d. d.name) ds))) ∙ e)) })

one_fore : (f : Fore) (line : ℕ) (item : Item) → IsSpelled item → Good (map (λ d. d.name) f.scope.fields) → Good (map (λ d. d.name) (fore_behind f line item).scope.fields)
one_fore f line (field_line x keys entry) s p = by (is_one f.classes)
  where
    by : (t : Bool) → Good (map (λ d. d.name) (cond t (record f { scope = record f.scope { fields = with_field f.scope.fields (record { line = line; name = x; sort = field_sort_for f.scope keys entry }) } }) f).scope.fields)
    by true = field_more f.scope.fields (record { line = line; name = x; sort = field_sort_for f.scope keys entry }) s p
    by false = p
one_fore f line (sort_line x sort) s p = p
one_fore f line (constant_line x c) s p = p
one_fore f line (hook_line x) s p = p
one_fore f line (class_line x) s p = p
one_fore f line (def_line x ps) s p = p
one_fore f line (var_line x sort) s p = p
one_fore f line (let_line x e) s p = p
one_fore f line (copy_line x o) s p = p
one_fore f line (write_line c g at e) s p = p
one_fore f line (return_line e) s p = p
one_fore f line (end_line e c r) s p = p

all_fore : (f : Fore) (raw : List Line) → AreSpelled raw → Good (map (λ d. d.name) f.scope.fields) → Good (map (λ d. d.name) (fore_from f raw).scope.fields)
all_fore f [] s p = p
all_fore f (l ∷ ls) s p = all_fore (fore_behind f l.line l.item) ls s.1 (one_fore f l.line l.item s.0 p)

no_names : Good []
no_names = record { spelled = tt; distinct = distinct_none }

-- ---- the whole

abbrev spec_made : Kernel → Made → List Field → Spec
spec_made k m fs = record {
  fields = fs;
  equation_locals = m.equation_locals;
  invariants = m.invariants;
  properties = m.properties;
  transitions = m.transitions;
  objects = map (λ g. g.size) k.globals;
}

along_spelled : (t : Text) (h : Here) (raw : List Line) → AllStand t h raw → AreSpelled raw → Along (λ h item. Stands t h item × IsSpelled item) h raw
along_spelled t h [] stand spelled = tt
along_spelled t h (l ∷ ls) stand spelled = ((stand.0, spelled.0), along_spelled t (behind h l.line l.item) ls stand.1 spelled.1)

all_of : {X : Type 0} (test : List ℕ → Bool) (f : X → List ℕ) (xs : List X) → Each (λ n. test n ≡ true) (map f xs) → All (λ x. test (f x) ≡ true) xs
all_of test f [] h = All-nil (λ x. test (f x) ≡ true)
all_of test f (x ∷ xs) h = All-cons (λ x. test (f x) ≡ true) x xs h.0 (all_of test f xs h.1)

no_own : (front : List ℕ) (top : Names) → Own front top []
no_own front top = record { taken = tt; spelled = tt; distinct = distinct_none }

none_made : (fs : List Field) → ◌≡◌ {A = Option (List Field)} (Some []) (Some fs) → Good (field_names fs)
none_made fs e = subst (λ l. Good (field_names l)) (some_is [] fs e) no_names

pub names_hold : (t : Text) (k : Kernel) (raw : List Line) (spec : Spec) → AllStand t (begin k raw) raw → AreSpelled raw → spec_of k raw ≡ Some spec → HasNames spec
names_hold t k raw spec stand spelled made =
    let p = chain_is (made_from (begin k raw) nothing_made raw) (spec_with k) spec made in
    let declared = all_fore (record { scope = scope_of k []; classes = 0 }) raw spelled no_names in
    let first : NamingAt (begin k raw) nothing_made = record {
      head = tt;
      invariants = no_own inv [];
      properties = no_own prop [];
      handlers = All-nil (λ t. is_handler_name t.name ≡ true);
      declared = declared;
      fields = none_made;
    } in
    let w = walk (λ h item. Stands t h item × IsSpelled item) NamingAt (λ h m n l q s e. step t h m n l.line l.item q s e) (begin k raw) nothing_made p.0 raw first (along_spelled t (begin k raw) raw stand spelled) p.1 in
    let o = one_is _ (p.0).fields spec p.2 in
    let fields = (w.1).fields o.0 o.1 in
    let whole : HasNames (spec_made k p.0 o.0) = record {
      fields = all_of is_name (λ f. f.name) o.0 fields.spelled;
      invariants = all_of is_word (λ n. n.name) (p.0).invariants (w.1).invariants.spelled;
      properties = all_of is_word (λ n. n.name) (p.0).properties (w.1).properties.spelled;
      handlers = (w.1).handlers;
      own_fields = fields.distinct;
      own_invariants = (w.1).invariants.distinct;
      own_properties = (w.1).properties.distinct;
    } in
    subst HasNames o.2 whole
