-- An operand is read exactly where it is spelled at its type.
use Rattle.std.proofs.Common.{◌≡◌, ℕ, zero, suc, ◌<◌, ◌≤◌, Bool, true, false, ℤ, pos, Option, Some, None, List, [], ◌∷◌, ◌++◌, refl, sym, ◌∙◌, ap, subst, ◌⊎◌, inl, inr, append_assoc, arith}
use Rattle.std.specs.Prelude.{if◌then◌else◌, codes, bytes_eq}
use Rattle.std.proofs.lemmas.Bool.{eqb-true}
use Rattle.ir_ast.specs.Plain.{Ty, nothing, integer, pointer, array, structure, packed, named, opaque, Val, local, global, number, null, poison, address, Form, form, Indices, no_indices, index_and}
use Rattle.ir_ast.specs.declared.operand.Flags.{Flags}
use Rattle.ir_lex.specs.Names.{sigil_name}
use Rattle.ir_lex.specs.Decimal.{number_of}
use Rattle.ir_lex.specs.Tok.{Tok, word, mark}
use Rattle.ir_lex.specs.TypeSpelling.{SpellsType}
use Rattle.ir_lex.specs.ValueSpelling.{IsOptional, IsNumber, offset_flags, is_bounded, SpellsBounds, SpellsNumbers, HasIndices, SpellsVal, SpellsForm, nesting, form_nesting, SpellsOperand}
use Rattle.ir_lex.specs.declared.token.TokenKind.TheVariants.{Word, Number, Quoted, Local, Global, Metadata, Attribute, Mark}
use Rattle.ir_part.specs.Reader.{Reader, ◌>>=◌, Takes, IsSound, IsComplete}
use Rattle.ir_part.specs.Fronts.{after_mark, after_word, is_this_word, flag_at}
use Rattle.ir_part.specs.Many.{some, is_closed}
use Rattle.ir_part.specs.Lists.{Row, Leading}
use Rattle.ir_part.specs.Laws.{IsWidth, IsTyped}
use Rattle.ir_part.specs.Numbers.{width_at, number_at}
use Rattle.ir_part.specs.Types.{type_at, is_bit}
use Rattle.ir_part.specs.Operands.{indices_from, bounds_at, number_index, form_head, form_tail, form_at, address_at, truth_word, value_word, value_step, base_within, operand_at, typed_at}
use Rattle.ir_part.proofs.Fronts.{bound, some_is, if_some, text_is, word_is, after_mark_is, after_word_is, number_sound, number_complete, width_sound, width_complete}
use Rattle.ir_part.proofs.Lists.{IsElement, some_sound, some_complete}
use Rattle.ir_part.proofs.TypeLaws.{type_sound, type_complete}

-- ---- an optional word

abbrev flag_read : Bool → Tok → List Tok → Option (Bool × List Tok)
flag_read b t ts = if b then Some (true, ts) else Some (false, t ∷ ts)

flag_by : (b : Bool) (text : List ℕ) (t : Tok) (ts : List Tok) (x : Bool) (rest : List Tok) → is_this_word text t ≡ b
    → flag_read b t ts ≡ Some (x, rest) → Takes (IsOptional text) (t ∷ ts) x rest
flag_by true text t ts x rest is h =
    let e : (true, ts) ≡ (x, rest) = some_is h in
    record { front = word text ∷ []; spelled = subst (λ b. IsOptional text b (word text ∷ [])) (ap (λ q. q.0) e) refl; parts = ap (λ u. u ∷ ts) (word_is text t is) ∙ ap (λ q. word text ∷ q.1) e }
flag_by false text t ts x rest is h =
    let e : (false, t ∷ ts) ≡ (x, rest) = some_is h in
    record { front = []; spelled = subst (λ b. IsOptional text b []) (ap (λ q. q.0) e) refl; parts = ap (λ q. q.1) e }

pub flag_sound : (text : List ℕ) → IsSound (IsOptional text) (flag_at text)
flag_sound text [] x rest h =
    let e : (false, []) ≡ (x, rest) = some_is h in
    record { front = []; spelled = subst (λ b. IsOptional text b []) (ap (λ q. q.0) e) refl; parts = ap (λ q. q.1) e }
flag_sound text (t ∷ ts) x rest h = flag_by (is_this_word text t) text t ts x rest refl h

flag_none_by : (b : Bool) (t : Tok) (ts : List Tok) → (if b then Some ts else None) ≡ None → flag_read b t ts ≡ Some (false, t ∷ ts)
flag_none_by true t ts none = cc
flag_none_by false t ts none = refl

flag_none : (text : List ℕ) (rest : List Tok) → after_word text rest ≡ None → flag_at text rest ≡ Some (false, rest)
flag_none text [] none = refl
flag_none text (t ∷ ts) none = flag_none_by (is_this_word text t) t ts none

flag_there : (text : List ℕ) (rest : List Tok) → bytes_eq text text ≡ true → flag_at text (word text ∷ rest) ≡ Some (true, rest)
flag_there text rest same = ap (λ b. flag_read b (word text) rest) same

-- it is told from what stands behind it
pub flag_complete : (text : List ℕ) → bytes_eq text text ≡ true → (x : Bool) (front rest : List Tok) → after_word text rest ≡ None → IsOptional text x front → flag_at text (front ++ rest) ≡ Some (x, rest)
flag_complete text same true front rest none s = ap (λ us. flag_at text (us ++ rest)) s ∙ flag_there text rest same
flag_complete text same false front rest none s = ap (λ us. flag_at text (us ++ rest)) s ∙ flag_none text rest none

-- ---- the flags of an address form

abbrev pub bounds_pair : Flags → List Tok → Flags × List Tok
bounds_pair flags ts = (flags, ts)

bounds_shape : (ts t1 t2 : List Tok) (inbounds nuw : Bool) (x : Flags) (rest : List Tok) → Takes (IsOptional (codes "inbounds")) ts inbounds t1 → Takes (IsOptional (codes "nuw")) t1 nuw t2
    → is_bounded inbounds nuw ≡ true → bounds_pair (offset_flags inbounds nuw) t2 ≡ (x, rest) → Takes SpellsBounds ts x rest
bounds_shape ts t1 t2 inbounds nuw x rest first second bounded e =
    record {
      front = first.front ++ second.front;
      spelled = (inbounds, nuw, first.front, second.front, first.spelled, second.spelled, bounded, sym (ap (λ q. q.0) e), refl);
      parts = first.parts ∙ ap (λ us. first.front ++ us) (second.parts ∙ ap (λ q. second.front ++ q.1) e) ∙ sym (append_assoc first.front second.front rest);
    }

abbrev pub bounds_end : Bool → Bool × List Tok → Option (Flags × List Tok)
bounds_end inbounds g = if is_bounded inbounds g.0 then Some (offset_flags inbounds g.0, g.1) else None

bounds_sound : IsSound SpellsBounds bounds_at
bounds_sound ts x rest h =
    let f = bound (flag_at (codes "inbounds") ts) (λ (f : Bool × List Tok). flag_at (codes "nuw") f.1 >>= bounds_end f.0) (x, rest) h in
    let g = bound (flag_at (codes "nuw") f.value.1) (bounds_end f.value.0) (x, rest) f.rest in
    ends (flag_sound (codes "inbounds") ts f.value.0 f.value.1 f.was) (flag_sound (codes "nuw") f.value.1 g.value.0 g.value.1 g.was)
    (if_some (is_bounded f.value.0 g.value.0) (Some (offset_flags f.value.0 g.value.0, g.value.1)) None (x, rest) g.rest)
  where
    ends : {t1 t2 : List Tok} {inbounds nuw : Bool} → Takes (IsOptional (codes "inbounds")) ts inbounds t1 → Takes (IsOptional (codes "nuw")) t1 nuw t2
        → ((is_bounded inbounds nuw ≡ true) × (Some (bounds_pair (offset_flags inbounds nuw) t2) ≡ Some (bounds_pair x rest))) ⊎ ((is_bounded inbounds nuw ≡ false) × (None ≡ Some (bounds_pair x rest)))
        → Takes SpellsBounds ts x rest
    ends {t1} {t2} {inbounds} {nuw} first second (inl p) = bounds_shape ts t1 t2 inbounds nuw x rest first second p.0 (some_is p.1)
    ends first second (inr p) = (let wrong = p.1 in cc)

no_inbounds_by : (b : Bool) (front rest : List Tok) → IsOptional (codes "nuw") b front → after_word (codes "inbounds") rest ≡ None → after_word (codes "inbounds") (front ++ rest) ≡ None
no_inbounds_by true front rest s none = ap (λ us. after_word (codes "inbounds") (us ++ rest)) s
no_inbounds_by false front rest s none = ap (λ us. after_word (codes "inbounds") (us ++ rest)) s ∙ none

-- they are told from what stands behind them
bounds_complete : (x : Flags) (front rest : List Tok) → after_word (codes "inbounds") rest ≡ None → after_word (codes "nuw") rest ≡ None → SpellsBounds x front → bounds_at (front ++ rest) ≡ Some (x, rest)
bounds_complete x front rest no_first no_second s =
    ap (λ us. bounds_at (us ++ rest)) s.8
    ∙ ap bounds_at (append_assoc s.2 s.3 rest)
    ∙ ap (λ o. o >>= (λ (f : Bool × List Tok). flag_at (codes "nuw") f.1 >>= (λ (g : Bool × List Tok). if is_bounded f.0 g.0 then Some (offset_flags f.0 g.0, g.1) else None)))
    (flag_complete (codes "inbounds") refl s.0 s.2 (s.3 ++ rest) (no_inbounds_by s.1 s.3 rest s.5 no_first) s.4)
    ∙ ap (λ o. o >>= (λ (g : Bool × List Tok). if is_bounded s.0 g.0 then Some (offset_flags s.0 g.0, g.1) else None)) (flag_complete (codes "nuw") refl s.1 s.3 rest no_second s.5)
    ∙ ap (λ b. if b then Some (offset_flags s.0 s.1, rest) else None) s.6
    ∙ ap (λ f. Some (f, rest)) (sym s.7)

-- ---- the indices of a constant address form

-- `, iN number`
abbrev IsIndex : Ty × Val → List Tok → Type 0
IsIndex i ts = (w : ℕ) × (n : ℤ) × (over : List Tok) × (at : List Tok) × (i ≡ (integer w, number n)) × IsWidth w over × IsNumber n at × (ts ≡ mark 44 ∷ (over ++ at))

index_sound : IsSound IsIndex number_index
index_sound ts x rest h =
    let a = bound (after_mark 44 ts) (λ (us : List Tok). width_at us >>= (λ (w : ℕ × List Tok). number_at w.1 >>= (λ (n : ℤ × List Tok). Some ((integer w.0, number n.0), n.1)))) (x, rest) h in
    let w = bound (width_at a.value) (λ (w : ℕ × List Tok). number_at w.1 >>= (λ (n : ℤ × List Tok). Some ((integer w.0, number n.0), n.1))) (x, rest) a.rest in
    let n = bound (number_at w.value.1) (λ (n : ℤ × List Tok). Some ((integer w.value.0, number n.0), n.1)) (x, rest) w.rest in
    let e : ((integer w.value.0, number n.value.0), n.value.1) ≡ (x, rest) = some_is n.rest in
    let ws = width_sound a.value w.value.0 w.value.1 w.was in
    let ns = number_sound w.value.1 n.value.0 n.value.1 n.was in
    record {
      front = mark 44 ∷ (ws.front ++ ns.front);
      spelled = (w.value.0, n.value.0, ws.front, ns.front, sym (ap (λ q. q.0) e), ws.spelled, ns.spelled, refl);
      parts = after_mark_is 44 ts a.value a.was
          ∙ ap (λ us. mark 44 ∷ us) (ws.parts ∙ ap (λ us. ws.front ++ us) (ns.parts ∙ ap (λ q. ns.front ++ q.1) e) ∙ sym (append_assoc ws.front ns.front rest));
    }

index_complete : IsComplete IsIndex number_index
index_complete x front rest s =
    let w = s.0 in
    let n = s.1 in
    let shape : (s.2 ++ s.3) ++ rest ≡ s.2 ++ (s.3 ++ rest) = append_assoc s.2 s.3 rest in
    ap (λ us. number_index (us ++ rest)) s.7
    ∙ ap (λ us. number_index (mark 44 ∷ us)) shape
    ∙ ap (λ o. o >>= (λ (v : ℕ × List Tok). number_at v.1 >>= (λ (m : ℤ × List Tok). Some ((integer v.0, number m.0), m.1)))) (width_complete w s.2 (s.3 ++ rest) s.5)
    ∙ ap (λ o. o >>= (λ (m : ℤ × List Tok). Some ((integer w, number m.0), m.1))) (number_complete n s.3 rest s.6)
    ∙ ap (λ i. Some (i, rest)) (sym s.4)

nothing_there : (t : Tok) (ts : List Tok) → [] ≡ t ∷ ts → ⊥
nothing_there t ts e = cc

index_element : IsElement IsIndex (is_closed 41) number_index
index_element = record {
  complete = index_complete;
  goes_on = λ x front rest s. ap (λ us. is_closed 41 (us ++ rest)) s.7;
  fills = λ x s. nothing_there (mark 44) (s.2 ++ s.3) s.7;
}

-- a width as the spelling of types has it
wide : (w : ℕ) (ts : List Tok) → IsWidth w ts → SpellsType (integer w) ts
wide w ts s = (s, omega arith)

narrow : (w : ℕ) (ts : List Tok) → SpellsType (integer w) ts → IsWidth w ts
narrow w ts s = s.0

numbers_spelled : (is : List (Ty × Val)) (ts : List Tok) → Row IsIndex is ts → SpellsNumbers (indices_from is) ts
numbers_spelled [] ts s = s
numbers_spelled (i ∷ is) ts s =
    let one = s.2 in
    let w = one.0 in
    let n = one.1 in
    let others = numbers_spelled is s.1 s.3 in
    let shape : ts ≡ mark 44 ∷ (one.2 ++ one.3 ++ s.1) = s.4 ∙ ap (λ us. us ++ s.1) one.7 in
    subst (λ j. SpellsNumbers (index_and j.0 j.1 (indices_from is)) ts) (sym one.4)
    (one.2, one.3, s.1, wide w one.2 one.5, one.6, others, shape)

leading_spelled : (is : List (Ty × Val)) (ts : List Tok) → Leading IsIndex IsIndex is ts → SpellsNumbers (indices_from is) ts × HasIndices (indices_from is)
leading_spelled [] ts s = absurd s
leading_spelled (i ∷ is) ts s = (numbers_spelled (i ∷ is) ts s, tt)

list_of : Indices → List (Ty × Val)
list_of no_indices = []
list_of (index_and t v is) = (t, v) ∷ list_of is

of_list : (is : Indices) → indices_from (list_of is) ≡ is
unfolding list_of
of_list no_indices = refl
of_list (index_and t v is) = ap (index_and t v) (of_list is)

numbers_listed : (is : Indices) (ts : List Tok) → SpellsNumbers is ts → Row IsIndex (list_of is) ts
unfolding list_of
numbers_listed no_indices ts s = s
numbers_listed (index_and (integer w) (number n) is) ts s =
    (mark 44 ∷ (s.0 ++ s.1), s.2, (w, n, s.0, s.1, refl, narrow w s.0 s.3, s.4, refl), numbers_listed is s.2 s.5, s.6)
numbers_listed (index_and (integer w) (local x) is) ts s = absurd s
numbers_listed (index_and (integer w) (global x) is) ts s = absurd s
numbers_listed (index_and (integer w) null is) ts s = absurd s
numbers_listed (index_and (integer w) poison is) ts s = absurd s
numbers_listed (index_and (integer w) (address g) is) ts s = absurd s
numbers_listed (index_and nothing v is) ts s = absurd s
numbers_listed (index_and pointer v is) ts s = absurd s
numbers_listed (index_and (array n t) v is) ts s = absurd s
numbers_listed (index_and (structure us) v is) ts s = absurd s
numbers_listed (index_and (packed us) v is) ts s = absurd s
numbers_listed (index_and (named x) v is) ts s = absurd s
numbers_listed (index_and opaque v is) ts s = absurd s

leading_of : (is : List (Ty × Val)) (ts : List Tok) → HasIndices (indices_from is) → Row IsIndex is ts → Leading IsIndex IsIndex is ts
leading_of [] ts has s = absurd has
leading_of (i ∷ is) ts has s = s

leading_listed : (is : Indices) (ts : List Tok) → SpellsNumbers is ts → HasIndices is → Leading IsIndex IsIndex (list_of is) ts
leading_listed is ts s has = leading_of (list_of is) ts (subst HasIndices (sym (of_list is)) has) (numbers_listed is ts s)

-- ---- a constant address form

-- a form whose base is spelled as this says, behind its word
abbrev FormOver : ℕ → Form → List Tok → Type 0
FormOver n g ts = SpellsForm g (word (codes "getelementptr") ∷ ts) × (form_nesting g ≤ n)

-- a base of one of so many forms
abbrev pub BaseWithin : ℕ → Val → List Tok → Type 0
BaseWithin n v ts = SpellsVal v pointer ts × (nesting v < n)

-- `[inbounds [nuw]] ( T , ptr`
abbrev IsHead : Flags × Ty → List Tok → Type 0
IsHead h ts = (flag : List Tok) × (over : List Tok) × SpellsBounds h.0 flag × SpellsType h.1 over × (ts ≡ flag ++ mark 40 ∷ (over ++ mark 44 ∷ word (codes "ptr") ∷ []))

-- `V , iN number , .. )`
abbrev IsTail : ℕ → Flags × Ty → Form → List Tok → Type 0
IsTail n h g ts =
    (v : Val) × (is : Indices) × (at : List Tok) × (ix : List Tok) × (g ≡ form h.0 h.1 v is)
    × SpellsVal v pointer at × (nesting v < n) × SpellsNumbers is ix × HasIndices is × (ts ≡ at ++ ix ++ mark 41 ∷ [])

form_join : (fl ty back : List Tok) → (fl ++ mark 40 ∷ (ty ++ mark 44 ∷ word (codes "ptr") ∷ [])) ++ back ≡ fl ++ mark 40 ∷ (ty ++ mark 44 ∷ word (codes "ptr") ∷ back)
form_join fl ty back =
    append_assoc fl (mark 40 ∷ (ty ++ mark 44 ∷ word (codes "ptr") ∷ [])) back
    ∙ ap (λ us. fl ++ (mark 40 ∷ us)) (append_assoc ty (mark 44 ∷ word (codes "ptr") ∷ []) back)

abbrev head_pair : Flags → Ty → List Tok → (Flags × Ty) × List Tok
head_pair b t ts = ((b, t), ts)

abbrev form_pair : Form → List Tok → Form × List Tok
form_pair g ts = (g, ts)

head_shape : (ts t1 t2 t3 t4 t5 : List Tok) (b : Flags) (t : Ty) (x : Flags × Ty) (rest : List Tok) → Takes SpellsBounds ts b t1 → t1 ≡ mark 40 ∷ t2 → Takes SpellsType t2 t t3
    → t3 ≡ mark 44 ∷ t4 → t4 ≡ word (codes "ptr") ∷ t5 → head_pair b t t5 ≡ (x, rest) → Takes IsHead ts x rest
head_shape ts t1 t2 t3 t4 t5 b t x rest fs p1 tys p3 p4 e =
    let front = fs.front ++ mark 40 ∷ (tys.front ++ mark 44 ∷ word (codes "ptr") ∷ []) in
    let tail : t1 ≡ mark 40 ∷ (tys.front ++ (mark 44 ∷ word (codes "ptr") ∷ rest)) =
    p1 ∙ ap (λ us. mark 40 ∷ us) (tys.parts ∙ ap (λ us. tys.front ++ us) (p3 ∙ ap (λ us. mark 44 ∷ us) (p4 ∙ ap (λ q. word (codes "ptr") ∷ q.1) e))) in
    record {
      front = front;
      spelled = subst (λ h. IsHead h front) (ap (λ q. q.0) e) (fs.front, tys.front, fs.spelled, tys.spelled, refl);
      parts = fs.parts ∙ ap (λ us. fs.front ++ us) tail ∙ sym (form_join fs.front tys.front rest);
    }

head_sound : IsSound IsHead form_head
head_sound ts x rest h =
    let f = bound (bounds_at ts) (λ (f : Flags × List Tok). after_mark 40 f.1 >>= (λ (us : List Tok). type_at us >>= (λ (t : Ty × List Tok). after_mark 44 t.1 >>= (λ (vs : List Tok). after_word (codes "ptr") vs >>= (λ (ws : List Tok). Some ((f.0, t.0), ws)))))) (x, rest) h in
    let a = bound (after_mark 40 f.value.1) (λ (us : List Tok). type_at us >>= (λ (t : Ty × List Tok). after_mark 44 t.1 >>= (λ (vs : List Tok). after_word (codes "ptr") vs >>= (λ (ws : List Tok). Some ((f.value.0, t.0), ws))))) (x, rest) f.rest in
    let t = bound (type_at a.value) (λ (t : Ty × List Tok). after_mark 44 t.1 >>= (λ (vs : List Tok). after_word (codes "ptr") vs >>= (λ (ws : List Tok). Some ((f.value.0, t.0), ws)))) (x, rest) a.rest in
    let c = bound (after_mark 44 t.value.1) (λ (vs : List Tok). after_word (codes "ptr") vs >>= (λ (ws : List Tok). Some ((f.value.0, t.value.0), ws))) (x, rest) t.rest in
    let p = bound (after_word (codes "ptr") c.value) (λ (ws : List Tok). Some ((f.value.0, t.value.0), ws)) (x, rest) c.rest in
    head_shape ts f.value.1 a.value t.value.1 c.value p.value f.value.0 t.value.0 x rest (bounds_sound ts f.value.0 f.value.1 f.was) (after_mark_is 40 f.value.1 a.value a.was)
    (type_sound a.value t.value.0 t.value.1 t.was) (after_mark_is 44 t.value.1 c.value c.was) (after_word_is (codes "ptr") c.value p.value p.was) (some_is p.rest)

tail_shape : (n : ℕ) (h : Flags × Ty) (ts t1 t2 t3 : List Tok) (v : Val) (is : List (Ty × Val)) (x : Form) (rest : List Tok) → Takes (BaseWithin n) ts v t1 → Takes (Leading IsIndex IsIndex) t1 is t2
    → t2 ≡ mark 41 ∷ t3 → form_pair (form h.0 h.1 v (indices_from is)) t3 ≡ (x, rest) → Takes (IsTail n h) ts x rest
tail_shape n h ts t1 t2 t3 v is x rest bs led p e =
    let ixs = leading_spelled is led.front led.spelled in
    let front = bs.front ++ led.front ++ mark 41 ∷ [] in
    record {
      front = front;
      spelled = (v, indices_from is, bs.front, led.front, sym (ap (λ q. q.0) e), bs.spelled.0, bs.spelled.1, ixs.0, ixs.1, refl);
      parts = bs.parts ∙ ap (λ us. bs.front ++ us) (led.parts ∙ ap (λ us. led.front ++ us) (p ∙ ap (λ q. mark 41 ∷ q.1) e))
          ∙ sym (append_assoc (bs.front ++ led.front) (mark 41 ∷ []) rest ∙ append_assoc bs.front led.front (mark 41 ∷ rest));
    }

tail_sound : (n : ℕ) (base : Reader Val) → IsSound (BaseWithin n) base → (h : Flags × Ty) → IsSound (IsTail n h) (form_tail base h)
tail_sound n base sound h ts x rest was =
    let b = bound (base ts) (λ (b : Val × List Tok). some (is_closed 41) number_index number_index b.1 >>= (λ (is : List (Ty × Val) × List Tok). after_mark 41 is.1 >>= (λ (ys : List Tok). Some (form h.0 h.1 b.0 (indices_from is.0), ys)))) (x, rest) was in
    let i = bound (some (is_closed 41) number_index number_index b.value.1) (λ (is : List (Ty × Val) × List Tok). after_mark 41 is.1 >>= (λ (ys : List Tok). Some (form h.0 h.1 b.value.0 (indices_from is.0), ys))) (x, rest) b.rest in
    let z = bound (after_mark 41 i.value.1) (λ (ys : List Tok). Some (form h.0 h.1 b.value.0 (indices_from i.value.0), ys)) (x, rest) i.rest in
    let led = some_sound IsIndex IsIndex (is_closed 41) number_index number_index index_sound index_sound b.value.1 i.value.0 i.value.1 i.was in
    tail_shape n h ts b.value.1 i.value.1 z.value b.value.0 i.value.0 x rest (sound ts b.value.0 b.value.1 b.was) led.takes (after_mark_is 41 i.value.1 z.value z.was) (some_is z.rest)

form_spread : (fl ty bs ix rest : List Tok)
    → (fl ++ mark 40 ∷ (ty ++ mark 44 ∷ word (codes "ptr") ∷ (bs ++ ix ++ mark 41 ∷ []))) ++ rest
    ≡ (fl ++ mark 40 ∷ (ty ++ mark 44 ∷ word (codes "ptr") ∷ [])) ++ ((bs ++ ix ++ mark 41 ∷ []) ++ rest)
form_spread fl ty bs ix rest =
    let back = bs ++ ix ++ mark 41 ∷ [] in
    append_assoc fl (mark 40 ∷ (ty ++ mark 44 ∷ word (codes "ptr") ∷ back)) rest
    ∙ ap (λ us. fl ++ (mark 40 ∷ us)) (append_assoc ty (mark 44 ∷ word (codes "ptr") ∷ back) rest
    ∙ sym (append_assoc ty (mark 44 ∷ word (codes "ptr") ∷ []) (back ++ rest)))
    ∙ sym (append_assoc fl (mark 40 ∷ (ty ++ mark 44 ∷ word (codes "ptr") ∷ [])) (back ++ rest))

form_made : (n : ℕ) (h : Flags × Ty) (g : Form) (front back : List Tok) → IsHead h front → IsTail n h g back → FormOver n g (front ++ back)
form_made n h g front back hs ts =
    let made : SpellsForm (form h.0 h.1 ts.0 ts.1) (word (codes "getelementptr") ∷ (front ++ back)) = (
      hs.0,
      hs.1,
      ts.2,
      ts.3,
      hs.2,
      hs.3,
      ts.5,
      ts.7,
      ts.8,
      ap (λ us. word (codes "getelementptr") ∷ us) (ap (λ us. us ++ back) hs.4 ∙ ap (λ us. (hs.0 ++ mark 40 ∷ (hs.1 ++ mark 44 ∷ word (codes "ptr") ∷ [])) ++ us) ts.9 ∙ form_join hs.0 hs.1 (ts.2 ++ ts.3 ++ mark 41 ∷ [])),
    ) in
    subst (λ u. FormOver n u (front ++ back)) (sym ts.4) (made, omega (arith, ts.6))

form_sound : (n : ℕ) (base : Reader Val) → IsSound (BaseWithin n) base → IsSound (FormOver n) (form_at base)
form_sound n base sound ts x rest was =
    let h = bound (form_head ts) (λ (h : (Flags × Ty) × List Tok). form_tail base h.0 h.1) (x, rest) was in
    let hs = head_sound ts h.value.0 h.value.1 h.was in
    let tail = tail_sound n base sound h.value.0 h.value.1 x rest h.rest in
    record {
      front = hs.front ++ tail.front;
      spelled = form_made n h.value.0 x hs.front tail.front hs.spelled tail.spelled;
      parts = hs.parts ∙ ap (λ us. hs.front ++ us) tail.parts ∙ sym (append_assoc hs.front tail.front rest);
    }

truth_sound : (over : Ty) → over ≡ integer 1 → (text : List ℕ) (ts : List Tok) (x : Val) (rest : List Tok) → truth_word text ts ≡ Some (x, rest) → Takes (λ v us. SpellsVal v over us × (nesting v ≤ 0)) (word text ∷ ts) x rest
truth_sound over bit text ts x rest h =
    elim (if_some (bytes_eq text (codes "true")) (Some (number (pos 1), ts)) (if bytes_eq text (codes "false") then Some (number (pos 0), ts) else None) (x, rest) h) [
      | inl p ↦ (let e : (number (pos 1), ts) ≡ (x, rest) = some_is p.1 in
          let w : word text ∷ [] ≡ word (codes "true") ∷ [] = ap (λ y. word y ∷ []) (text_is text (codes "true") p.0) in
          record {
            front = word text ∷ [];
            spelled = subst (λ v. SpellsVal v over (word text ∷ []) × (nesting v ≤ 0)) (ap (λ q. q.0) e) (inr (bit, inl (refl, w)), omega arith);
            parts = ap (λ q. word text ∷ q.1) e;
          })
      | inr p ↦ elim (if_some (bytes_eq text (codes "false")) (Some (number (pos 0), ts)) None (x, rest) p.1) [
        | inl q ↦ (let e : (number (pos 0), ts) ≡ (x, rest) = some_is q.1 in
            let w : word text ∷ [] ≡ word (codes "false") ∷ [] = ap (λ y. word y ∷ []) (text_is text (codes "false") q.0) in
            record {
              front = word text ∷ [];
              spelled = subst (λ v. SpellsVal v over (word text ∷ []) × (nesting v ≤ 0)) (ap (λ r. r.0) e) (inr (bit, inr (refl, w)), omega arith);
              parts = ap (λ r. word text ∷ r.1) e;
            })
        | inr q ↦ (let wrong = q.1 in cc)
      ]
    ]

-- an operand with at most so many forms in one another
abbrev pub OperandWithin : ℕ → Ty → Val → List Tok → Type 0
OperandWithin n over v ts = SpellsVal v over ts × (nesting v ≤ n)

bit_is : (over : Ty) → is_bit over ≡ true → over ≡ integer 1
bit_is nothing h = cc
bit_is (integer w) h = ap integer (eqb-true w 1 h)
bit_is pointer h = cc
bit_is (array n t) h = cc
bit_is (structure ts) h = cc
bit_is (packed ts) h = cc
bit_is (named name) h = cc
bit_is opaque h = cc

abbrev gives : Val → List Tok → Option (Val × List Tok)
gives v ts = Some (v, ts)

-- a constant that one word spells
constant_sound : (n : ℕ) (over : Ty) (v : Val) (text other : List ℕ) (ts : List Tok) (x : Val) (rest : List Tok) → nesting v ≤ n → ((us : List Tok) → us ≡ word other ∷ [] → SpellsVal v over us)
    → bytes_eq text other ≡ true → gives v ts ≡ Some (x, rest) → Takes (OperandWithin n over) (word text ∷ ts) x rest
constant_sound n over v text other ts x rest deep spells same h =
    let e : (v, ts) ≡ (x, rest) = some_is h in
    let w : word text ∷ [] ≡ word other ∷ [] = ap (λ y. word y ∷ []) (text_is text other same) in
    record {
      front = word text ∷ [];
      spelled = subst (λ u. OperandWithin n over u (word text ∷ [])) (ap (λ q. q.0) e) (spells (word text ∷ []) w, deep);
      parts = ap (λ q. word text ∷ q.1) e;
    }

address_sound : (n : ℕ) (over : Ty) (base : Reader Val) → IsSound (BaseWithin n) base → (text : List ℕ) (ts : List Tok) (x : Val) (rest : List Tok) → bytes_eq text (codes "getelementptr") ≡ true
    → address_at base ts ≡ Some (x, rest) → Takes (OperandWithin n over) (word text ∷ ts) x rest
address_sound n over base sound text ts x rest same h =
    let g = bound (form_at base ts) (λ (g : Form × List Tok). Some (address g.0, g.1)) (x, rest) h in
    let e : (address g.value.0, g.value.1) ≡ (x, rest) = some_is g.rest in
    let s = form_sound n base sound ts g.value.0 g.value.1 g.was in
    let front = word (codes "getelementptr") ∷ s.front in
    record {
      front = front;
      spelled = subst (λ u. OperandWithin n over u front) (ap (λ q. q.0) e) s.spelled;
      parts = ap (λ y. word y ∷ ts) (text_is text (codes "getelementptr") same) ∙ ap (λ us. word (codes "getelementptr") ∷ us) (s.parts ∙ ap (λ q. s.front ++ q.1) e);
    }

flat : (n : ℕ) (over : Ty) (ts : List Tok) (x : Val) (rest : List Tok) → Takes (λ v us. SpellsVal v over us × (nesting v ≤ 0)) ts x rest → Takes (OperandWithin n over) ts x rest
flat n over ts x rest s = record { front = s.front; spelled = (s.spelled.0, omega (arith, s.spelled.1)); parts = s.parts }

bit_sound : (n : ℕ) (over : Ty) (b : Bool) (text : List ℕ) (ts : List Tok) (x : Val) (rest : List Tok) → is_bit over ≡ b → (if b then truth_word text ts else None) ≡ Some (x, rest) → Takes (OperandWithin n over) (word text ∷ ts) x rest
bit_sound n over true text ts x rest bit h = flat n over (word text ∷ ts) x rest (truth_sound over (bit_is over bit) text ts x rest h)
bit_sound n over false text ts x rest bit h = cc

word_sound : (n : ℕ) (over : Ty) (base : Reader Val) → IsSound (BaseWithin n) base → (text : List ℕ) (ts : List Tok) (x : Val) (rest : List Tok)
    → value_word (is_bit over) base text ts ≡ Some (x, rest) → Takes (OperandWithin n over) (word text ∷ ts) x rest
word_sound n over base sound text ts x rest h =
    elim (if_some (bytes_eq text (codes "null")) (Some (null, ts)) (if bytes_eq text (codes "poison") then Some (poison, ts) else (if bytes_eq text (codes "getelementptr") then address_at base ts else (if is_bit over then truth_word text ts else None))) (x, rest) h) [
      | inl p ↦ constant_sound n over null text (codes "null") ts x rest (omega arith) (λ us w. w) p.0 p.1
      | inr p ↦ elim (if_some (bytes_eq text (codes "poison")) (Some (poison, ts)) (if bytes_eq text (codes "getelementptr") then address_at base ts else (if is_bit over then truth_word text ts else None)) (x, rest) p.1) [
        | inl q ↦ constant_sound n over poison text (codes "poison") ts x rest (omega arith) (λ us w. w) q.0 q.1
        | inr q ↦ elim (if_some (bytes_eq text (codes "getelementptr")) (address_at base ts) (if is_bit over then truth_word text ts else None) (x, rest) q.1) [
          | inl r ↦ address_sound n over base sound text ts x rest r.0 r.1
          | inr r ↦ bit_sound n over (is_bit over) text ts x rest refl r.1
        ]
      ]
    ]

step_sound : (n : ℕ) (over : Ty) (base : Reader Val) → IsSound (BaseWithin n) base → IsSound (OperandWithin n over) (value_step (is_bit over) base)
step_sound n over base sound [] x rest h = cc
step_sound n over base sound ((Word, text) ∷ ts) x rest h = word_sound n over base sound text ts x rest h
step_sound n over base sound ((Number, text) ∷ ts) x rest h =
    let b = bound (number_of text) (λ m. Some (number m, ts)) (x, rest) h in
    let e : (number b.value, ts) ≡ (x, rest) = some_is b.rest in
    record {
      front = (Number, text) ∷ [];
      spelled = subst (λ v. OperandWithin n over v ((Number, text) ∷ [])) (ap (λ q. q.0) e) (inl (text, b.was, refl), omega arith);
      parts = ap (λ q. (Number, text) ∷ q.1) e;
    }
step_sound n over base sound ((Local, text) ∷ ts) x rest h =
    let e : (local (sigil_name text), ts) ≡ (x, rest) = some_is h in
    record {
      front = (Local, text) ∷ [];
      spelled = subst (λ v. OperandWithin n over v ((Local, text) ∷ [])) (ap (λ q. q.0) e) ((text, refl, refl), omega arith);
      parts = ap (λ q. (Local, text) ∷ q.1) e;
    }
step_sound n over base sound ((Global, text) ∷ ts) x rest h =
    let e : (global (sigil_name text), ts) ≡ (x, rest) = some_is h in
    record {
      front = (Global, text) ∷ [];
      spelled = subst (λ v. OperandWithin n over v ((Global, text) ∷ [])) (ap (λ q. q.0) e) ((text, refl, refl), omega arith);
      parts = ap (λ q. (Global, text) ∷ q.1) e;
    }
step_sound n over base sound ((Mark, text) ∷ ts) x rest h = cc
step_sound n over base sound ((Quoted, text) ∷ ts) x rest h = cc
step_sound n over base sound ((Metadata, text) ∷ ts) x rest h = cc
step_sound n over base sound ((Attribute, text) ∷ ts) x rest h = cc

fewer : (n : ℕ) (ts : List Tok) (x : Val) (rest : List Tok) → Takes (OperandWithin n pointer) ts x rest → Takes (BaseWithin (suc n)) ts x rest
fewer n ts x rest s = record { front = s.front; spelled = (s.spelled.0, omega (arith, s.spelled.1)); parts = s.parts }

base_sound : (n : ℕ) → IsSound (BaseWithin n) (base_within n)
unfolding base_within
base_sound zero ts x rest h = cc
base_sound (suc n) ts x rest h = fewer n ts x rest (step_sound n pointer (base_within n) (base_sound n) ts x rest h)

pub operand_sound : (over : Ty) → IsSound (SpellsOperand over) (operand_at (is_bit over))
unfolding operand_at
operand_sound over ts x rest h = step_sound 100 over (base_within 100) (base_sound 100) ts x rest h

-- ---- what is spelled is read

head_complete : IsComplete IsHead form_head
head_complete h front rest s =
    let back = mark 44 ∷ word (codes "ptr") ∷ rest in
    let r1 = mark 40 ∷ (s.1 ++ back) in
    ap (λ us. form_head (us ++ rest)) s.4
    ∙ ap form_head (form_join s.0 s.1 rest)
    ∙ ap (λ o. o >>= (λ (f : Flags × List Tok). after_mark 40 f.1 >>= (λ (us : List Tok). type_at us >>= (λ (t : Ty × List Tok). after_mark 44 t.1 >>= (λ (vs : List Tok). after_word (codes "ptr") vs >>= (λ (ws : List Tok). Some ((f.0, t.0), ws))))))) (bounds_complete h.0 s.0 r1 refl refl s.2)
    ∙ ap (λ o. o >>= (λ (t : Ty × List Tok). after_mark 44 t.1 >>= (λ (vs : List Tok). after_word (codes "ptr") vs >>= (λ (ws : List Tok). Some ((h.0, t.0), ws))))) (type_complete h.1 s.1 back s.3)

tail_complete : (n : ℕ) (base : Reader Val) → IsComplete (BaseWithin n) base → (h : Flags × Ty) → IsComplete (IsTail n h) (form_tail base h)
tail_complete n base complete h g front rest s =
    let v = s.0 in
    let is = s.1 in
    let at = s.2 in
    let ix = s.3 in
    let led = leading_listed is ix s.7 s.8 in
    ap (λ us. form_tail base h (us ++ rest)) s.9
    ∙ ap (form_tail base h) (append_assoc (at ++ ix) (mark 41 ∷ []) rest ∙ append_assoc at ix (mark 41 ∷ rest))
    ∙ ap (λ o. o >>= (λ (b : Val × List Tok). some (is_closed 41) number_index number_index b.1 >>= (λ (js : List (Ty × Val) × List Tok). after_mark 41 js.1 >>= (λ (ys : List Tok). Some (form h.0 h.1 b.0 (indices_from js.0), ys))))) (complete v at (ix ++ mark 41 ∷ rest) (s.5, s.6))
    ∙ ap (λ o. o >>= (λ (js : List (Ty × Val) × List Tok). after_mark 41 js.1 >>= (λ (ys : List Tok). Some (form h.0 h.1 v (indices_from js.0), ys)))) (some_complete IsIndex IsIndex (is_closed 41) number_index number_index index_complete index_element (list_of is) ix (mark 41 ∷ rest) led refl)
    ∙ ap (λ js. Some (form h.0 h.1 v js, rest)) (of_list is)
    ∙ ap (λ k. Some (k, rest)) (sym s.4)

form_complete : (n : ℕ) (base : Reader Val) → IsComplete (BaseWithin n) base → (g : Form) (front rest : List Tok) → SpellsForm g front → form_nesting g ≤ n
    → (behind : List Tok) × (front ≡ word (codes "getelementptr") ∷ behind) × (form_at base (behind ++ rest) ≡ Some (g, rest))
form_complete n base complete (form flags t v is) front rest s deep =
    let first = s.0 ++ mark 40 ∷ (s.1 ++ mark 44 ∷ word (codes "ptr") ∷ []) in
    let back = s.2 ++ s.3 ++ mark 41 ∷ [] in
    let behind = s.0 ++ mark 40 ∷ (s.1 ++ mark 44 ∷ word (codes "ptr") ∷ back) in (
      behind,
      s.9,
      ap (form_at base) (form_spread s.0 s.1 s.2 s.3 rest)
          ∙ ap (λ o. o >>= (λ (h : (Flags × Ty) × List Tok). form_tail base h.0 h.1)) (head_complete (flags, t) first (back ++ rest) (s.0, s.1, s.4, s.5, refl))
          ∙ tail_complete n base complete (flags, t) (form flags t v is) back rest (v, is, s.2, s.3, refl, s.6, omega (arith, deep), s.7, s.8, refl),
    )

is_bit_there : (over : Ty) → over ≡ integer 1 → is_bit over ≡ true
is_bit_there over e = ap is_bit e

number_there : (n : ℕ) (over : Ty) (base : Reader Val) (m : ℤ) (front rest : List Tok) → SpellsVal (number m) over front → value_step (is_bit over) base (front ++ rest) ≡ Some (number m, rest)
number_there n over base m front rest (inl s) = ap (λ us. value_step (is_bit over) base (us ++ rest)) s.2 ∙ ap (λ o. o >>= (λ k. Some (number k, rest))) s.1
number_there n over base m front rest (inr (bit, inl s)) =
    ap (λ us. value_step (is_bit over) base (us ++ rest)) s.1 ∙ ap (λ b. if b then truth_word (codes "true") rest else None) (is_bit_there over bit) ∙ ap (λ k. Some (number k, rest)) (sym s.0)
number_there n over base m front rest (inr (bit, inr s)) =
    ap (λ us. value_step (is_bit over) base (us ++ rest)) s.1 ∙ ap (λ b. if b then truth_word (codes "false") rest else None) (is_bit_there over bit) ∙ ap (λ k. Some (number k, rest)) (sym s.0)

step_complete : (n : ℕ) (over : Ty) (base : Reader Val) → IsComplete (BaseWithin n) base → IsComplete (OperandWithin n over) (value_step (is_bit over) base)
step_complete n over base complete (local name) front rest s = ap (λ us. value_step (is_bit over) base (us ++ rest)) s.0.2 ∙ ap (λ y. Some (local y, rest)) s.0.1
step_complete n over base complete (global name) front rest s = ap (λ us. value_step (is_bit over) base (us ++ rest)) s.0.2 ∙ ap (λ y. Some (global y, rest)) s.0.1
step_complete n over base complete (number m) front rest s = number_there n over base m front rest s.0
step_complete n over base complete null front rest s = ap (λ us. value_step (is_bit over) base (us ++ rest)) s.0
step_complete n over base complete poison front rest s = ap (λ us. value_step (is_bit over) base (us ++ rest)) s.0
step_complete n over base complete (address g) front rest s =
    let f = form_complete n base complete g front rest s.0 s.1 in
    ap (λ us. value_step (is_bit over) base (us ++ rest)) f.1 ∙ ap (λ o. o >>= (λ (k : Form × List Tok). Some (address k.0, k.1))) f.2

base_complete : (n : ℕ) → IsComplete (BaseWithin n) (base_within n)
unfolding base_within
base_complete zero x front rest s = absurd (omega (arith, s.1))
base_complete (suc n) x front rest s = step_complete n pointer (base_within n) (base_complete n) x front rest (s.0, omega (arith, s.1))

pub operand_complete : (over : Ty) → IsComplete (SpellsOperand over) (operand_at (is_bit over))
unfolding operand_at
operand_complete over x front rest s = step_complete 100 over (base_within 100) (base_complete 100) x front rest s

-- ---- `T V`

pub typed_sound : IsSound IsTyped typed_at
typed_sound ts x rest h =
    let t = bound (type_at ts) (λ (t : Ty × List Tok). operand_at (is_bit t.0) t.1 >>= (λ (v : Val × List Tok). Some ((t.0, v.0), v.1))) (x, rest) h in
    let v = bound (operand_at (is_bit t.value.0) t.value.1) (λ (v : Val × List Tok). Some ((t.value.0, v.0), v.1)) (x, rest) t.rest in
    let e : ((t.value.0, v.value.0), v.value.1) ≡ (x, rest) = some_is v.rest in
    let a = type_sound ts t.value.0 t.value.1 t.was in
    let b = operand_sound t.value.0 t.value.1 v.value.0 v.value.1 v.was in
    record {
      front = a.front ++ b.front;
      spelled = subst (λ p. IsTyped p (a.front ++ b.front)) (ap (λ q. q.0) e) (a.front, b.front, a.spelled, b.spelled, refl);
      parts = a.parts ∙ ap (λ us. a.front ++ us) (b.parts ∙ ap (λ q. b.front ++ q.1) e) ∙ sym (append_assoc a.front b.front rest);
    }

pub typed_complete : IsComplete IsTyped typed_at
typed_complete x front rest s =
    ap (λ us. typed_at (us ++ rest)) s.4
    ∙ ap typed_at (append_assoc s.0 s.1 rest)
    ∙ ap (λ o. o >>= (λ (t : Ty × List Tok). operand_at (is_bit t.0) t.1 >>= (λ (v : Val × List Tok). Some ((t.0, v.0), v.1)))) (type_complete x.0 s.0 (s.1 ++ rest) s.2)
    ∙ ap (λ o. o >>= (λ (v : Val × List Tok). Some ((x.0, v.0), v.1))) (operand_complete x.0 x.1 s.1 rest s.3)
