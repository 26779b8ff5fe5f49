-- A type is read exactly where it is spelled.
use Rattle.std.proofs.Common.{◌≡◌, ℕ, zero, suc, ◌≤◌, Bool, true, false, Option, Some, None, List, [], ◌∷◌, ◌++◌, refl, sym, ◌∙◌, ap, subst, inl, inr, append_assoc, arith}
use Rattle.std.specs.Prelude.{if◌then◌else◌, codes, bytes_eq}
use Rattle.ir_ast.specs.Plain.{Ty, Tys, nothing, integer, pointer, array, structure, packed, named, opaque, no_types, type_and}
use Rattle.ir_ast.specs.View.{types_of}
use Rattle.ir_lex.specs.Names.{sigil_name}
use Rattle.ir_lex.specs.Decimal.{width_of}
use Rattle.ir_lex.specs.Tok.{Tok, word, mark}
use Rattle.ir_lex.specs.TypeSpelling.{Spells, SpellsParts, SpellsMore, depth, deepest, SpellsType, SpellsResult}
use Rattle.ir_lex.specs.declared.token.TokenKind.TheVariants.{Word, Number, Quoted, Local, Global, Metadata, Attribute, Mark}
use Rattle.ir_part.specs.Reader.{Reader, ◌>>=◌, Takes, IsSound, IsComplete}
use Rattle.ir_part.specs.Fronts.{after_mark, after_word}
use Rattle.ir_part.specs.Many.{separated}
use Rattle.ir_part.specs.Numbers.{count_at}
use Rattle.ir_part.specs.Lists.{Row, Behind, Parted}
use Rattle.ir_part.specs.Types.{type_word, array_at, struct_at, packed_at, type_mark, type_step, type_within, type_at, result_by, result_at}
use Rattle.ir_part.proofs.Fronts.{bound, some_is, if_some, text_is, after_mark_is, after_word_is, count_sound}
use Rattle.ir_part.proofs.Lists.{separated_sound, separated_complete}

abbrev pub SpellsWithin : ℕ → Ty → List Tok → Type 0
SpellsWithin d t ts = Spells t ts × (depth t ≤ d)

-- ---- the parts of a struct as a list

list_of : Tys → List Ty
list_of no_types = []
list_of (type_and t ts) = t ∷ list_of ts

of_list : (ts : Tys) → types_of (list_of ts) ≡ ts
unfolding list_of
of_list no_types = refl
of_list (type_and t ts) = ap (type_and t) (of_list ts)

more_spelled : (d : ℕ) (ts : List Ty) (us : List Tok) → Row (Behind (SpellsWithin d)) ts us → SpellsMore (types_of ts) us × (deepest (types_of ts) ≤ d)
more_spelled d [] us s = (s, omega arith)
more_spelled d (t ∷ ts) us s =
    let inner = s.2 in
    let others = more_spelled d ts s.1 s.3 in
    let shape : us ≡ mark 44 ∷ (inner.0 ++ s.1) = s.4 ∙ ap (λ vs. vs ++ s.1) inner.2 in
    ((inner.0, s.1, inner.1.0, others.0, shape), omega (arith, inner.1.1, others.1))

parts_spelled : (d : ℕ) (ts : List Ty) (us : List Tok) → Parted (SpellsWithin d) ts us → SpellsParts (types_of ts) us × (deepest (types_of ts) ≤ d)
parts_spelled d [] us s = (s, omega arith)
parts_spelled d (t ∷ ts) us s =
    let others = more_spelled d ts s.1 s.3 in
    ((s.0, s.1, s.2.0, others.0, s.4), omega (arith, s.2.1, others.1))

more_listed : (d : ℕ) (ts : Tys) (us : List Tok) → SpellsMore ts us → deepest ts ≤ d → Row (Behind (SpellsWithin d)) (list_of ts) us
unfolding list_of
more_listed d no_types us s deep = s
more_listed d (type_and t ts) us s deep =
    (mark 44 ∷ s.0, s.1, (s.0, (s.2, omega (arith, deep)), refl), more_listed d ts s.1 s.3 (omega (arith, deep)), s.4)

parts_listed : (d : ℕ) (ts : Tys) (us : List Tok) → SpellsParts ts us → deepest ts ≤ d → Parted (SpellsWithin d) (list_of ts) us
unfolding list_of
parts_listed d no_types us s deep = s
parts_listed d (type_and t ts) us s deep = (s.0, s.1, (s.2, omega (arith, deep)), more_listed d ts s.1 s.3 (omega (arith, deep)), s.4)

-- ---- one level: what is read is spelled

array_sound : (d : ℕ) (inner : Reader Ty) → IsSound (SpellsWithin d) inner → (ts : List Tok) (x : Ty) (rest : List Tok) → array_at inner ts ≡ Some (x, rest) → Takes (SpellsWithin (suc d)) (mark 91 ∷ ts) x rest
array_sound d inner sound ts x rest h =
    let n = bound (count_at ts) (λ (n : ℕ × List Tok). after_word (codes "x") n.1 >>= (λ (us : List Tok). inner us >>= (λ (t : Ty × List Tok). after_mark 93 t.1 >>= (λ (vs : List Tok). Some (array n.0 t.0, vs))))) (x, rest) h in
    let w = bound (after_word (codes "x") n.value.1) (λ (us : List Tok). inner us >>= (λ (t : Ty × List Tok). after_mark 93 t.1 >>= (λ (vs : List Tok). Some (array n.value.0 t.0, vs)))) (x, rest) n.rest in
    let t = bound (inner w.value) (λ (t : Ty × List Tok). after_mark 93 t.1 >>= (λ (vs : List Tok). Some (array n.value.0 t.0, vs))) (x, rest) w.rest in
    let m = bound (after_mark 93 t.value.1) (λ (vs : List Tok). Some (array n.value.0 t.value.0, vs)) (x, rest) t.rest in
    let e : (array n.value.0 t.value.0, m.value) ≡ (x, rest) = some_is m.rest in
    let number = count_sound ts n.value.0 n.value.1 n.was in
    let part = sound w.value t.value.0 t.value.1 t.was in
    let text = number.spelled.0 in
    let p0 : ts ≡ (Number, text) ∷ n.value.1 = number.parts ∙ ap (λ us. us ++ n.value.1) number.spelled.2 in
    let p1 : n.value.1 ≡ word (codes "x") ∷ w.value = after_word_is (codes "x") n.value.1 w.value w.was in
    let p2 : w.value ≡ part.front ++ t.value.1 = part.parts in
    let p3 : t.value.1 ≡ mark 93 ∷ rest = after_mark_is 93 t.value.1 m.value m.was ∙ ap (λ q. mark 93 ∷ q.1) e in
    let front = mark 91 ∷ (Number, text) ∷ word (codes "x") ∷ (part.front ++ mark 93 ∷ []) in
    let shape : w.value ≡ (part.front ++ mark 93 ∷ []) ++ rest = p2 ∙ ap (λ us. part.front ++ us) p3 ∙ sym (append_assoc part.front (mark 93 ∷ []) rest) in
    record {
      front = front;
      spelled = subst (λ v. SpellsWithin (suc d) v front) (ap (λ q. q.0) e) ((text, part.front, number.spelled.1, part.spelled.0, refl), omega (arith, part.spelled.1));
      parts = ap (λ us. mark 91 ∷ us) (p0 ∙ ap (λ us. (Number, text) ∷ us) (p1 ∙ ap (λ us. word (codes "x") ∷ us) shape));
    }

struct_sound : (d : ℕ) (inner : Reader Ty) → IsSound (SpellsWithin d) inner → (ts : List Tok) (x : Ty) (rest : List Tok) → struct_at inner ts ≡ Some (x, rest) → Takes (SpellsWithin (suc d)) (mark 123 ∷ ts) x rest
struct_sound d inner sound ts x rest h =
    let b = bound (separated inner 125 ts) (λ (p : List Ty × List Tok). Some (structure (types_of p.0), p.1)) (x, rest) h in
    let e : (structure (types_of b.value.0), b.value.1) ≡ (x, rest) = some_is b.rest in
    let parts = separated_sound (SpellsWithin d) inner 125 sound ts b.value.0 b.value.1 b.was in
    let spelled = parts_spelled d b.value.0 parts.spelled.0 parts.spelled.1 in
    record {
      front = mark 123 ∷ parts.front;
      spelled = subst (λ v. SpellsWithin (suc d) v (mark 123 ∷ parts.front)) (ap (λ q. q.0) e) ((parts.spelled.0, spelled.0, ap (λ us. mark 123 ∷ us) parts.spelled.2), omega (arith, spelled.1));
      parts = ap (λ us. mark 123 ∷ us) (parts.parts ∙ ap (λ q. parts.front ++ q.1) e);
    }

packed_sound : (d : ℕ) (inner : Reader Ty) → IsSound (SpellsWithin d) inner → (ts : List Tok) (x : Ty) (rest : List Tok) → packed_at inner ts ≡ Some (x, rest) → Takes (SpellsWithin (suc d)) (mark 60 ∷ ts) x rest
packed_sound d inner sound ts x rest h =
    let a = bound (after_mark 123 ts) (λ (us : List Tok). separated inner 125 us >>= (λ (p : List Ty × List Tok). after_mark 62 p.1 >>= (λ (vs : List Tok). Some (packed (types_of p.0), vs)))) (x, rest) h in
    let b = bound (separated inner 125 a.value) (λ (p : List Ty × List Tok). after_mark 62 p.1 >>= (λ (vs : List Tok). Some (packed (types_of p.0), vs))) (x, rest) a.rest in
    let m = bound (after_mark 62 b.value.1) (λ (vs : List Tok). Some (packed (types_of b.value.0), vs)) (x, rest) b.rest in
    let e : (packed (types_of b.value.0), m.value) ≡ (x, rest) = some_is m.rest in
    let parts = separated_sound (SpellsWithin d) inner 125 sound a.value b.value.0 b.value.1 b.was in
    let spelled = parts_spelled d b.value.0 parts.spelled.0 parts.spelled.1 in
    let inside = parts.spelled.0 in
    let p0 : ts ≡ mark 123 ∷ a.value = after_mark_is 123 ts a.value a.was in
    let p1 : a.value ≡ (inside ++ mark 125 ∷ []) ++ b.value.1 = parts.parts ∙ ap (λ us. us ++ b.value.1) parts.spelled.2 in
    let p2 : b.value.1 ≡ mark 62 ∷ rest = after_mark_is 62 b.value.1 m.value m.was ∙ ap (λ q. mark 62 ∷ q.1) e in
    let shape : a.value ≡ (inside ++ mark 125 ∷ mark 62 ∷ []) ++ rest =
    p1 ∙ append_assoc inside (mark 125 ∷ []) b.value.1 ∙ ap (λ us. inside ++ mark 125 ∷ us) p2 ∙ sym (append_assoc inside (mark 125 ∷ mark 62 ∷ []) rest) in
    let front = mark 60 ∷ mark 123 ∷ (inside ++ mark 125 ∷ mark 62 ∷ []) in
    record {
      front = front;
      spelled = subst (λ v. SpellsWithin (suc d) v front) (ap (λ q. q.0) e) ((inside, spelled.0, refl), omega (arith, spelled.1));
      parts = ap (λ us. mark 60 ∷ us) (p0 ∙ ap (λ us. mark 123 ∷ us) shape);
    }

word_sound : (d : ℕ) (text : List ℕ) (ts : List Tok) (o : Option ℕ) (x : Ty) (rest : List Tok) → width_of text ≡ o → type_word o text ts ≡ Some (x, rest) → Takes (SpellsWithin (suc d)) (word text ∷ ts) x rest
word_sound d text ts (Some w) x rest is h =
    let e : (integer w, ts) ≡ (x, rest) = some_is h in
    record {
      front = word text ∷ [];
      spelled = subst (λ v. SpellsWithin (suc d) v (word text ∷ [])) (ap (λ q. q.0) e) ((text, is, refl), omega arith);
      parts = ap (λ q. word text ∷ q.1) e;
    }
word_sound d text ts None x rest is h =
    elim (if_some (bytes_eq text (codes "ptr")) (Some (pointer, ts)) None (x, rest) h) [
      | inl p ↦ (let e : (pointer, ts) ≡ (x, rest) = some_is p.1 in
          let same : word text ∷ [] ≡ word (codes "ptr") ∷ [] = ap (λ y. word y ∷ []) (text_is text (codes "ptr") p.0) in
          record {
            front = word text ∷ [];
            spelled = subst (λ v. SpellsWithin (suc d) v (word text ∷ [])) (ap (λ q. q.0) e) (same, omega arith);
            parts = ap (λ q. word text ∷ q.1) e;
          })
      | inr p ↦ (let wrong = p.1 in cc)
    ]

-- the same with the mark as it stands in the text
marked : (S : Ty → List Tok → Type 0) (text bytes : List ℕ) (ts : List Tok) (x : Ty) (rest : List Tok) → bytes_eq text bytes ≡ true → Takes S ((Mark, bytes) ∷ ts) x rest → Takes S ((Mark, text) ∷ ts) x rest
marked S text bytes ts x rest same takes = subst (λ y. Takes S ((Mark, y) ∷ ts) x rest) (sym (text_is text bytes same)) takes

mark_sound : (d : ℕ) (inner : Reader Ty) → IsSound (SpellsWithin d) inner → (text : List ℕ) (ts : List Tok) (x : Ty) (rest : List Tok) → type_mark inner text ts ≡ Some (x, rest) → Takes (SpellsWithin (suc d)) ((Mark, text) ∷ ts) x rest
mark_sound d inner sound text ts x rest h =
    elim (if_some (bytes_eq text (codes "[")) (array_at inner ts) (if bytes_eq text (codes "{") then struct_at inner ts else (if bytes_eq text (codes "<") then packed_at inner ts else None)) (x, rest) h) [
      | inl p ↦ marked (SpellsWithin (suc d)) text (codes "[") ts x rest p.0 (array_sound d inner sound ts x rest p.1)
      | inr p ↦ elim (if_some (bytes_eq text (codes "{")) (struct_at inner ts) (if bytes_eq text (codes "<") then packed_at inner ts else None) (x, rest) p.1) [
        | inl q ↦ marked (SpellsWithin (suc d)) text (codes "{") ts x rest q.0 (struct_sound d inner sound ts x rest q.1)
        | inr q ↦ elim (if_some (bytes_eq text (codes "<")) (packed_at inner ts) None (x, rest) q.1) [
          | inl r ↦ marked (SpellsWithin (suc d)) text (codes "<") ts x rest r.0 (packed_sound d inner sound ts x rest r.1)
          | inr r ↦ (let wrong = r.1 in cc)
        ]
      ]
    ]

step_sound : (d : ℕ) (inner : Reader Ty) → IsSound (SpellsWithin d) inner → IsSound (SpellsWithin (suc d)) (type_step inner)
step_sound d inner sound [] x rest h = cc
step_sound d inner sound ((Word, text) ∷ ts) x rest h = word_sound d text ts (width_of text) x rest refl h
step_sound d inner sound ((Local, text) ∷ ts) x rest h =
    let e : (named (sigil_name text), ts) ≡ (x, rest) = some_is h in
    record {
      front = (Local, text) ∷ [];
      spelled = subst (λ v. SpellsWithin (suc d) v ((Local, text) ∷ [])) (ap (λ q. q.0) e) ((text, refl, refl), omega arith);
      parts = ap (λ q. (Local, text) ∷ q.1) e;
    }
step_sound d inner sound ((Mark, text) ∷ ts) x rest h = mark_sound d inner sound text ts x rest h
step_sound d inner sound ((Number, text) ∷ ts) x rest h = cc
step_sound d inner sound ((Quoted, text) ∷ ts) x rest h = cc
step_sound d inner sound ((Global, text) ∷ ts) x rest h = cc
step_sound d inner sound ((Metadata, text) ∷ ts) x rest h = cc
step_sound d inner sound ((Attribute, text) ∷ ts) x rest h = cc

pub within_sound : (d : ℕ) → IsSound (SpellsWithin d) (type_within d)
unfolding type_within
within_sound zero ts x rest h = cc
within_sound (suc d) ts x rest h = step_sound d (type_within d) (within_sound d) ts x rest h

pub type_sound : IsSound SpellsType type_at
unfolding type_at
type_sound ts x rest h = within_sound 100 ts x rest h

-- ---- one level: what is spelled is read

-- no type begins with a closing mark
no_close : (t : Ty) (front rest : List Tok) → Spells t front → after_mark 125 (front ++ rest) ≡ None
no_close nothing front rest s = absurd s
no_close (integer w) front rest s = ap (λ us. after_mark 125 (us ++ rest)) s.2
no_close pointer front rest s = ap (λ us. after_mark 125 (us ++ rest)) s
no_close (array n t) front rest s = ap (λ us. after_mark 125 (us ++ rest)) s.4
no_close (structure ts) front rest s = ap (λ us. after_mark 125 (us ++ rest)) s.2
no_close (packed ts) front rest s = ap (λ us. after_mark 125 (us ++ rest)) s.2
no_close (named name) front rest s = ap (λ us. after_mark 125 (us ++ rest)) s.2
no_close opaque front rest s = absurd s

ptr_is_no_width : width_of (codes "ptr") ≡ None
unfolding width_of
ptr_is_no_width = refl

parts_complete : (d : ℕ) (inner : Reader Ty) → IsComplete (SpellsWithin d) inner → (ts : Tys) (inside rest : List Tok) → SpellsParts ts inside → deepest ts ≤ d
    → separated inner 125 (inside ++ mark 125 ∷ rest) ≡ Some (list_of ts, rest)
parts_complete d inner complete ts inside rest s deep =
    ap (separated inner 125) (sym (append_assoc inside (mark 125 ∷ []) rest))
    ∙ separated_complete (SpellsWithin d) inner 125 refl refl (λ x front after z. no_close x front after z.0) complete (list_of ts) (inside ++ mark 125 ∷ []) rest
    (inside, parts_listed d ts inside s deep, refl)

step_complete : (d : ℕ) (inner : Reader Ty) → IsComplete (SpellsWithin d) inner → (x : Ty) (front rest : List Tok) → Spells x front → depth x ≤ suc d → type_step inner (front ++ rest) ≡ Some (x, rest)
step_complete d inner complete nothing front rest s deep = absurd s
step_complete d inner complete (integer w) front rest s deep = ap (λ us. type_step inner (us ++ rest)) s.2 ∙ ap (λ o. type_word o s.0 rest) s.1
step_complete d inner complete pointer front rest s deep = ap (λ us. type_step inner (us ++ rest)) s ∙ ap (λ o. type_word o (codes "ptr") rest) ptr_is_no_width
step_complete d inner complete (array n t) front rest s deep =
    let text = s.0 in
    let shape : (s.1 ++ mark 93 ∷ []) ++ rest ≡ s.1 ++ mark 93 ∷ rest = append_assoc s.1 (mark 93 ∷ []) rest in
    ap (λ us. type_step inner (us ++ rest)) s.4
    ∙ ap (λ us. array_at inner ((Number, text) ∷ word (codes "x") ∷ us)) shape
    ∙ ap (λ o. (o >>= (λ m. Some (m, word (codes "x") ∷ (s.1 ++ mark 93 ∷ rest)))) >>= (λ (k : ℕ × List Tok). after_word (codes "x") k.1 >>= (λ (us : List Tok). inner us >>= (λ (u : Ty × List Tok). after_mark 93 u.1 >>= (λ (vs : List Tok). Some (array k.0 u.0, vs)))))) s.2
    ∙ ap (λ o. o >>= (λ (u : Ty × List Tok). after_mark 93 u.1 >>= (λ (vs : List Tok). Some (array n u.0, vs)))) (complete t s.1 (mark 93 ∷ rest) (s.3, omega (arith, deep)))
step_complete d inner complete (structure ts) front rest s deep =
    let shape : (s.0 ++ mark 125 ∷ []) ++ rest ≡ s.0 ++ mark 125 ∷ rest = append_assoc s.0 (mark 125 ∷ []) rest in
    ap (λ us. type_step inner (us ++ rest)) s.2
    ∙ ap (struct_at inner) shape
    ∙ ap (λ o. o >>= (λ (p : List Ty × List Tok). Some (structure (types_of p.0), p.1))) (parts_complete d inner complete ts s.0 rest s.1 (omega (arith, deep)))
    ∙ ap (λ us. Some (structure us, rest)) (of_list ts)
step_complete d inner complete (packed ts) front rest s deep =
    let shape : (s.0 ++ mark 125 ∷ mark 62 ∷ []) ++ rest ≡ s.0 ++ mark 125 ∷ mark 62 ∷ rest = append_assoc s.0 (mark 125 ∷ mark 62 ∷ []) rest in
    ap (λ us. type_step inner (us ++ rest)) s.2
    ∙ ap (λ us. packed_at inner (mark 123 ∷ us)) shape
    ∙ ap (λ o. o >>= (λ (p : List Ty × List Tok). after_mark 62 p.1 >>= (λ (vs : List Tok). Some (packed (types_of p.0), vs)))) (parts_complete d inner complete ts s.0 (mark 62 ∷ rest) s.1 (omega (arith, deep)))
    ∙ ap (λ us. Some (packed us, rest)) (of_list ts)
step_complete d inner complete (named name) front rest s deep = ap (λ us. type_step inner (us ++ rest)) s.2 ∙ ap (λ x. Some (named x, rest)) s.1
step_complete d inner complete opaque front rest s deep = absurd s

-- no type is so flat
some_depth : (t : Ty) → 1 ≤ depth t
some_depth (array n t) = omega arith
some_depth (structure ts) = omega arith
some_depth (packed ts) = omega arith
some_depth nothing = omega arith
some_depth (integer w) = omega arith
some_depth pointer = omega arith
some_depth (named name) = omega arith
some_depth opaque = omega arith

pub within_complete : (d : ℕ) → IsComplete (SpellsWithin d) (type_within d)
unfolding type_within
within_complete zero x front rest s = absurd (omega (arith, s.1, some_depth x))
within_complete (suc d) x front rest s = step_complete d (type_within d) (within_complete d) x front rest s.0 s.1

pub type_complete : IsComplete SpellsType type_at
unfolding type_at
type_complete x front rest s = within_complete 100 x front rest s

-- ---- a type, or `void`

a_result : (t : Ty) (ts : List Tok) → SpellsType t ts → SpellsResult t ts
a_result nothing ts s = absurd s.0
a_result (integer w) ts s = s
a_result pointer ts s = s
a_result (array n t) ts s = s
a_result (structure us) ts s = s
a_result (packed us) ts s = s
a_result (named name) ts s = s
a_result opaque ts s = s

result_found : (o : Option (List Tok)) (ts : List Tok) (x : Ty) (rest : List Tok) → after_word (codes "void") ts ≡ o → result_by o ts ≡ Some (x, rest) → Takes SpellsResult ts x rest
result_found (Some us) ts x rest is h =
    let e : (nothing, us) ≡ (x, rest) = some_is h in
    record {
      front = word (codes "void") ∷ [];
      spelled = subst (λ v. SpellsResult v (word (codes "void") ∷ [])) (ap (λ q. q.0) e) refl;
      parts = after_word_is (codes "void") ts us is ∙ ap (λ q. word (codes "void") ∷ q.1) e;
    }
result_found None ts x rest is h =
    let s = type_sound ts x rest h in
    record { front = s.front; spelled = a_result x s.front s.spelled; parts = s.parts }

pub result_sound : IsSound SpellsResult result_at
result_sound ts x rest h = result_found (after_word (codes "void") ts) ts x rest refl h

if_false : (b : Bool) (ts : List Tok) → b ≡ false → (if b then Some ts else None) ≡ None
if_false b ts h = ap (λ c. if c then Some ts else None) h

differs : (text other : List ℕ) (w : ℕ) (b : Bool) → bytes_eq text other ≡ b → width_of text ≡ Some w → width_of other ≡ None → b ≡ false
differs text other w true same is none = let e = ap width_of (text_is text other same) in let f : Some w ≡ None = sym is ∙ e ∙ none in cc
differs text other w false same is none = refl

not_this : (text other : List ℕ) (w : ℕ) (rest : List Tok) → width_of text ≡ Some w → width_of other ≡ None → after_word other (word text ∷ rest) ≡ None
not_this text other w rest is none = if_false (bytes_eq text other) rest (differs text other w (bytes_eq text other) refl is none)

ptr_differs : (other : List ℕ) (b : Bool) → bytes_eq (codes "ptr") other ≡ b → bytes_eq other (codes "ptr") ≡ false → b ≡ false
ptr_differs other true same apart = let e = text_is (codes "ptr") other same in let f : bytes_eq (codes "ptr") (codes "ptr") ≡ false = ap (λ y. bytes_eq y (codes "ptr")) e ∙ apart in cc
ptr_differs other false same apart = refl

not_ptr : (other : List ℕ) (rest : List Tok) → bytes_eq other (codes "ptr") ≡ false → after_word other (word (codes "ptr") ∷ rest) ≡ None
not_ptr other rest apart = if_false (bytes_eq (codes "ptr") other) rest (ptr_differs other (bytes_eq (codes "ptr") other) refl apart)

-- a word that is no type begins none
pub no_word : (text : List ℕ) → width_of text ≡ None → bytes_eq text (codes "ptr") ≡ false → (t : Ty) (front rest : List Tok) → Spells t front → after_word text (front ++ rest) ≡ None
no_word text narrow other nothing front rest s = absurd s
no_word text narrow other (integer w) front rest s = ap (λ us. after_word text (us ++ rest)) s.2 ∙ not_this s.0 text w rest s.1 narrow
no_word text narrow other pointer front rest s = ap (λ us. after_word text (us ++ rest)) s ∙ not_ptr text rest other
no_word text narrow other (array n t) front rest s = ap (λ us. after_word text (us ++ rest)) s.4
no_word text narrow other (structure ts) front rest s = ap (λ us. after_word text (us ++ rest)) s.2
no_word text narrow other (packed ts) front rest s = ap (λ us. after_word text (us ++ rest)) s.2
no_word text narrow other (named name) front rest s = ap (λ us. after_word text (us ++ rest)) s.2
no_word text narrow other opaque front rest s = absurd s

void_is_no_width : width_of (codes "void") ≡ None
unfolding width_of
void_is_no_width = refl

of_type : (t : Ty) (front rest : List Tok) → SpellsType t front → result_at (front ++ rest) ≡ Some (t, rest)
of_type t front rest s =
    ap (λ o. result_by o (front ++ rest)) (no_word (codes "void") void_is_no_width refl t front rest s.0) ∙ type_complete t front rest s

pub result_complete : IsComplete SpellsResult result_at
result_complete nothing front rest s = ap (λ us. result_at (us ++ rest)) s
result_complete (integer w) front rest s = of_type (integer w) front rest s
result_complete pointer front rest s = of_type pointer front rest s
result_complete (array n t) front rest s = of_type (array n t) front rest s
result_complete (structure ts) front rest s = of_type (structure ts) front rest s
result_complete (packed ts) front rest s = of_type (packed ts) front rest s
result_complete (named name) front rest s = of_type (named name) front rest s
result_complete opaque front rest s = of_type opaque front rest s
