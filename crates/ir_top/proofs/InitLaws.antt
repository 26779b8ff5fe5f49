-- An initialiser is read exactly where it is spelled.
use Rattle.std.proofs.Common.{◌≡◌, ℕ, zero, suc, ◌≤◌, Bool, true, false, Option, Some, None, List, [], ◌∷◌, ◌++◌, drop, refl, sym, ◌∙◌, ap, subst, inl, inr, append_assoc, arith}
use Rattle.std.specs.Prelude.{if◌then◌else◌, codes, bytes_eq, ℤ, ◌==◌}
use Rattle.ir_ast.specs.Plain.{Ty, nothing, integer, pointer, array, structure, packed, named, opaque, Ini, Inis, zero_init, number_init, truth_init, bytes_init, array_init, structure_init, packed_init, pointer_init, no_inits, init_and}
use Rattle.ir_lex.specs.Bytes.{begins_with}
use Rattle.ir_lex.specs.Names.{sigil_name, unescaped, inside_of}
use Rattle.ir_lex.specs.Decimal.{number_of}
use Rattle.ir_lex.specs.Tok.{Tok, word, mark}
use Rattle.ir_lex.specs.TypeSpelling.{Spells, SpellsType}
use Rattle.ir_lex.specs.ValueSpelling.{SpellsIni, SpellsInis, SpellsMoreInis, init_depth, deepest_init, SpellsInit}
use Rattle.ir_lex.specs.declared.token.TokenKind.TheVariants.{Word, Number, Quoted, Local, Global, Metadata, Attribute, Mark}
use Rattle.ir_part.specs.Reader.{Reader, ◌>>=◌, Takes, IsSound, IsComplete}
use Rattle.ir_part.specs.Fronts.{after_mark, is_this_mark}
use Rattle.ir_part.specs.Many.{separated}
use Rattle.ir_part.specs.Lists.{Row, Behind, Parted}
use Rattle.ir_part.specs.Types.{type_at}
use Rattle.ir_part.proofs.Fronts.{bound, some_is, if_some, text_is, after_mark_is}
use Rattle.ir_part.proofs.TypeLaws.{type_sound, type_complete}
use Rattle.ir_part.proofs.Lists.{separated_sound, separated_complete}
use Rattle.ir_top.specs.Combine.{Both}
use Rattle.ir_top.specs.Inits.{inits_from, init_word, pair_at, array_at, struct_at, packed_at, init_mark, init_text, init_number, init_step, init_within, init_at}
use Rattle.ir_top.proofs.Combining.{both_sound, both_complete}

abbrev pub SpellsWithin : ℕ → Ini → List Tok → Type 0
SpellsWithin d i ts = SpellsIni i ts × (init_depth i ≤ d)

-- `T INIT`
abbrev pub SpellsPair : ℕ → Ty × Ini → List Tok → Type 0
SpellsPair d = Both SpellsType (SpellsWithin d)

-- ---- the parts as a list

list_of : Inis → List (Ty × Ini)
list_of no_inits = []
list_of (init_and t i others) = (t, i) ∷ list_of others

of_list : (is : Inis) → inits_from (list_of is) ≡ is
unfolding list_of
of_list no_inits = refl
of_list (init_and t i others) = ap (init_and t i) (of_list others)

more_spelled : (d : ℕ) (is : List (Ty × Ini)) (us : List Tok) → Row (Behind (SpellsPair d)) is us → SpellsMoreInis (inits_from is) us × (deepest_init (inits_from is) ≤ d)
more_spelled d [] us s = (s, omega arith)
more_spelled d (i ∷ is) us s =
    let behind = s.2 in
    let pair = behind.1 in
    let others = more_spelled d is s.1 s.3 in
    let shape : us ≡ mark 44 ∷ (pair.0 ++ pair.1 ++ s.1) =
    s.4 ∙ ap (λ vs. vs ++ s.1) behind.2 ∙ ap (λ vs. mark 44 ∷ (vs ++ s.1)) pair.4 in
    ((pair.0, pair.1, s.1, pair.2, pair.3.0, others.0, shape), omega (arith, pair.3.1, others.1))

parts_spelled : (d : ℕ) (is : List (Ty × Ini)) (us : List Tok) → Parted (SpellsPair d) is us → SpellsInis (inits_from is) us × (deepest_init (inits_from is) ≤ d)
parts_spelled d [] us s = (s, omega arith)
parts_spelled d (i ∷ is) us s =
    let pair = s.2 in
    let others = more_spelled d is s.1 s.3 in
    let shape : us ≡ pair.0 ++ pair.1 ++ s.1 = s.4 ∙ ap (λ vs. vs ++ s.1) pair.4 in
    ((pair.0, pair.1, s.1, pair.2, pair.3.0, others.0, shape), omega (arith, pair.3.1, others.1))

more_listed : (d : ℕ) (is : Inis) (us : List Tok) → SpellsMoreInis is us → deepest_init is ≤ d → Row (Behind (SpellsPair d)) (list_of is) us
unfolding list_of
more_listed d no_inits us s deep = s
more_listed d (init_and t i others) us s deep =
    let inner = s.0 ++ s.1 in
    let shape : us ≡ (mark 44 ∷ inner) ++ s.2 = s.6 in
    (mark 44 ∷ inner, s.2, (inner, (s.0, s.1, s.3, (s.4, omega (arith, deep)), refl), refl), more_listed d others s.2 s.5 (omega (arith, deep)), shape)

parts_listed : (d : ℕ) (is : Inis) (us : List Tok) → SpellsInis is us → deepest_init is ≤ d → Parted (SpellsPair d) (list_of is) us
unfolding list_of
parts_listed d no_inits us s deep = s
parts_listed d (init_and t i others) us s deep =
    let inner = s.0 ++ s.1 in
    (inner, s.2, (s.0, s.1, s.3, (s.4, omega (arith, deep)), refl), more_listed d others s.2 s.5 (omega (arith, deep)), s.6)

-- ---- one level: what is read is spelled

pair_sound : (d : ℕ) (inner : Reader Ini) → IsSound (SpellsWithin d) inner → IsSound (SpellsPair d) (pair_at inner)
pair_sound d inner sound = both_sound SpellsType (SpellsWithin d) type_at inner type_sound sound

pair_complete : (d : ℕ) (inner : Reader Ini) → IsComplete (SpellsWithin d) inner → IsComplete (SpellsPair d) (pair_at inner)
pair_complete d inner complete = both_complete SpellsType (SpellsWithin d) type_at inner type_complete complete

array_sound : (d : ℕ) (inner : Reader Ini) → IsSound (SpellsWithin d) inner → (ts : List Tok) (x : Ini) (rest : List Tok) → array_at inner ts ≡ Some (x, rest) → Takes (SpellsWithin (suc d)) (mark 91 ∷ ts) x rest
array_sound d inner sound ts x rest h =
    let b = bound (separated (pair_at inner) 93 ts) (λ (p : List (Ty × Ini) × List Tok). Some (array_init (inits_from p.0), p.1)) (x, rest) h in
    let e : (array_init (inits_from b.value.0), b.value.1) ≡ (x, rest) = some_is b.rest in
    let parts = separated_sound (SpellsPair d) (pair_at inner) 93 (pair_sound d inner sound) ts b.value.0 b.value.1 b.was in
    let spelled = parts_spelled d b.value.0 parts.spelled.0 parts.spelled.1 in
    record {
      front = mark 91 ∷ parts.front;
      spelled = subst (λ v. SpellsWithin (suc d) v (mark 91 ∷ parts.front)) (ap (λ q. q.0) e) ((parts.spelled.0, spelled.0, ap (λ us. mark 91 ∷ us) parts.spelled.2), omega (arith, spelled.1));
      parts = ap (λ us. mark 91 ∷ us) (parts.parts ∙ ap (λ q. parts.front ++ q.1) e);
    }

struct_sound : (d : ℕ) (inner : Reader Ini) → IsSound (SpellsWithin d) inner → (ts : List Tok) (x : Ini) (rest : List Tok) → struct_at inner ts ≡ Some (x, rest) → Takes (SpellsWithin (suc d)) (mark 123 ∷ ts) x rest
struct_sound d inner sound ts x rest h =
    let b = bound (separated (pair_at inner) 125 ts) (λ (p : List (Ty × Ini) × List Tok). Some (structure_init (inits_from p.0), p.1)) (x, rest) h in
    let e : (structure_init (inits_from b.value.0), b.value.1) ≡ (x, rest) = some_is b.rest in
    let parts = separated_sound (SpellsPair d) (pair_at inner) 125 (pair_sound d inner sound) ts b.value.0 b.value.1 b.was in
    let spelled = parts_spelled d b.value.0 parts.spelled.0 parts.spelled.1 in
    record {
      front = mark 123 ∷ parts.front;
      spelled = subst (λ v. SpellsWithin (suc d) v (mark 123 ∷ parts.front)) (ap (λ q. q.0) e) ((parts.spelled.0, spelled.0, ap (λ us. mark 123 ∷ us) parts.spelled.2), omega (arith, spelled.1));
      parts = ap (λ us. mark 123 ∷ us) (parts.parts ∙ ap (λ q. parts.front ++ q.1) e);
    }

packed_sound : (d : ℕ) (inner : Reader Ini) → IsSound (SpellsWithin d) inner → (ts : List Tok) (x : Ini) (rest : List Tok) → packed_at inner ts ≡ Some (x, rest) → Takes (SpellsWithin (suc d)) (mark 60 ∷ ts) x rest
packed_sound d inner sound ts x rest h =
    let a = bound (after_mark 123 ts) (λ (us : List Tok). separated (pair_at inner) 125 us >>= (λ (p : List (Ty × Ini) × List Tok). after_mark 62 p.1 >>= (λ (vs : List Tok). Some (packed_init (inits_from p.0), vs)))) (x, rest) h in
    let b = bound (separated (pair_at inner) 125 a.value) (λ (p : List (Ty × Ini) × List Tok). after_mark 62 p.1 >>= (λ (vs : List Tok). Some (packed_init (inits_from p.0), vs))) (x, rest) a.rest in
    let m = bound (after_mark 62 b.value.1) (λ (vs : List Tok). Some (packed_init (inits_from b.value.0), vs)) (x, rest) b.rest in
    let e : (packed_init (inits_from b.value.0), m.value) ≡ (x, rest) = some_is m.rest in
    let parts = separated_sound (SpellsPair d) (pair_at inner) 125 (pair_sound d inner sound) a.value b.value.0 b.value.1 b.was in
    let spelled = parts_spelled d b.value.0 parts.spelled.0 parts.spelled.1 in
    let inside = parts.spelled.0 in
    let p0 : ts ≡ mark 123 ∷ a.value = after_mark_is 123 ts a.value a.was in
    let p1 : a.value ≡ (inside ++ mark 125 ∷ []) ++ b.value.1 = parts.parts ∙ ap (λ us. us ++ b.value.1) parts.spelled.2 in
    let p2 : b.value.1 ≡ mark 62 ∷ rest = after_mark_is 62 b.value.1 m.value m.was ∙ ap (λ q. mark 62 ∷ q.1) e in
    let shape : a.value ≡ (inside ++ mark 125 ∷ mark 62 ∷ []) ++ rest =
    p1 ∙ append_assoc inside (mark 125 ∷ []) b.value.1 ∙ ap (λ us. inside ++ mark 125 ∷ us) p2 ∙ sym (append_assoc inside (mark 125 ∷ mark 62 ∷ []) rest) in
    let front = mark 60 ∷ mark 123 ∷ (inside ++ mark 125 ∷ mark 62 ∷ []) in
    record {
      front = front;
      spelled = subst (λ v. SpellsWithin (suc d) v front) (ap (λ q. q.0) e) ((inside, spelled.0, refl), omega (arith, spelled.1));
      parts = ap (λ us. mark 60 ∷ us) (p0 ∙ ap (λ us. mark 123 ∷ us) shape);
    }

-- an initialiser that is one token
leaf : (d : ℕ) (i : Ini) (t : Tok) (ts : List Tok) (x : Ini) (rest : List Tok) → SpellsIni i (t ∷ []) → init_depth i ≤ 1 → ◌≡◌ {A = Option (Ini × List Tok)} (Some (i, ts)) (Some (x, rest)) → Takes (SpellsWithin (suc d)) (t ∷ ts) x rest
leaf d i t ts x rest s deep h =
    let e : (i, ts) ≡ (x, rest) = some_is h in
    record { front = t ∷ []; spelled = subst (λ v. SpellsWithin (suc d) v (t ∷ [])) (ap (λ q. q.0) e) (s, omega (arith, deep)); parts = ap (λ q. t ∷ q.1) e }

word_sound : (d : ℕ) (text : List ℕ) (ts : List Tok) (x : Ini) (rest : List Tok) → init_word text ts ≡ Some (x, rest) → Takes (SpellsWithin (suc d)) (word text ∷ ts) x rest
word_sound d text ts x rest h =
    elim (if_some (bytes_eq text (codes "zeroinitializer")) (Some (zero_init, ts)) (if bytes_eq text (codes "true") then Some (truth_init true, ts) else (if bytes_eq text (codes "false") then Some (truth_init false, ts) else (if bytes_eq text (codes "null") then Some (pointer_init, ts) else None))) (x, rest) h) [
      | inl p ↦ leaf d zero_init (word text) ts x rest (ap (λ y. word y ∷ []) (text_is text (codes "zeroinitializer") p.0)) (omega arith) p.1
      | inr p ↦ elim (if_some (bytes_eq text (codes "true")) (Some (truth_init true, ts)) (if bytes_eq text (codes "false") then Some (truth_init false, ts) else (if bytes_eq text (codes "null") then Some (pointer_init, ts) else None)) (x, rest) p.1) [
        | inl q ↦ leaf d (truth_init true) (word text) ts x rest (ap (λ y. word y ∷ []) (text_is text (codes "true") q.0)) (omega arith) q.1
        | inr q ↦ elim (if_some (bytes_eq text (codes "false")) (Some (truth_init false, ts)) (if bytes_eq text (codes "null") then Some (pointer_init, ts) else None) (x, rest) q.1) [
          | inl r ↦ leaf d (truth_init false) (word text) ts x rest (ap (λ y. word y ∷ []) (text_is text (codes "false") r.0)) (omega arith) r.1
          | inr r ↦ elim (if_some (bytes_eq text (codes "null")) (Some (pointer_init, ts)) None (x, rest) r.1) [
            | inl s ↦ leaf d pointer_init (word text) ts x rest (inl (ap (λ y. word y ∷ []) (text_is text (codes "null") s.0))) (omega arith) s.1
            | inr s ↦ (let wrong = s.1 in cc)
          ]
        ]
      ]
    ]

number_sound : (d : ℕ) (text : List ℕ) (ts : List Tok) (x : Ini) (rest : List Tok) → init_number text ts ≡ Some (x, rest) → Takes (SpellsWithin (suc d)) ((Number, text) ∷ ts) x rest
number_sound d text ts x rest h =
    let b = bound (number_of text) (λ (n : ℤ). Some (number_init n, ts)) (x, rest) h in
    leaf d (number_init b.value) (Number, text) ts x rest (text, b.was, refl) (omega arith) b.rest

text_sound : (d : ℕ) (text : List ℕ) (ts : List Tok) (x : Ini) (rest : List Tok) → init_text text ts ≡ Some (x, rest) → Takes (SpellsWithin (suc d)) ((Quoted, text) ∷ ts) x rest
text_sound d text ts x rest h =
    elim (if_some (begins_with 99 text) (Some (bytes_init (unescaped (inside_of (drop 1 text))), ts)) None (x, rest) h) [
      | inl p ↦ leaf d (bytes_init (unescaped (inside_of (drop 1 text)))) (Quoted, text) ts x rest (text, p.0, refl, refl) (omega arith) p.1
      | inr p ↦ (let wrong = p.1 in cc)
    ]

marked : (d : ℕ) (text bytes : List ℕ) (ts : List Tok) (x : Ini) (rest : List Tok) → bytes_eq text bytes ≡ true → Takes (SpellsWithin d) ((Mark, bytes) ∷ ts) x rest → Takes (SpellsWithin d) ((Mark, text) ∷ ts) x rest
marked d text bytes ts x rest same takes = subst (λ y. Takes (SpellsWithin d) ((Mark, y) ∷ ts) x rest) (sym (text_is text bytes same)) takes

mark_sound : (d : ℕ) (inner : Reader Ini) → IsSound (SpellsWithin d) inner → (text : List ℕ) (ts : List Tok) (x : Ini) (rest : List Tok) → init_mark inner text ts ≡ Some (x, rest) → Takes (SpellsWithin (suc d)) ((Mark, text) ∷ ts) x rest
mark_sound d inner sound text ts x rest h =
    elim (if_some (bytes_eq text (codes "[")) (array_at inner ts) (if bytes_eq text (codes "{") then struct_at inner ts else (if bytes_eq text (codes "<") then packed_at inner ts else None)) (x, rest) h) [
      | inl p ↦ marked (suc d) text (codes "[") ts x rest p.0 (array_sound d inner sound ts x rest p.1)
      | inr p ↦ elim (if_some (bytes_eq text (codes "{")) (struct_at inner ts) (if bytes_eq text (codes "<") then packed_at inner ts else None) (x, rest) p.1) [
        | inl q ↦ marked (suc d) text (codes "{") ts x rest q.0 (struct_sound d inner sound ts x rest q.1)
        | inr q ↦ elim (if_some (bytes_eq text (codes "<")) (packed_at inner ts) None (x, rest) q.1) [
          | inl r ↦ marked (suc d) text (codes "<") ts x rest r.0 (packed_sound d inner sound ts x rest r.1)
          | inr r ↦ (let wrong = r.1 in cc)
        ]
      ]
    ]

step_sound : (d : ℕ) (inner : Reader Ini) → IsSound (SpellsWithin d) inner → IsSound (SpellsWithin (suc d)) (init_step inner)
step_sound d inner sound [] x rest h = cc
step_sound d inner sound ((Word, text) ∷ ts) x rest h = word_sound d text ts x rest h
step_sound d inner sound ((Number, text) ∷ ts) x rest h = number_sound d text ts x rest h
step_sound d inner sound ((Quoted, text) ∷ ts) x rest h = text_sound d text ts x rest h
step_sound d inner sound ((Global, text) ∷ ts) x rest h = leaf d pointer_init (Global, text) ts x rest (inr (sigil_name text, (text, refl, refl))) (omega arith) h
step_sound d inner sound ((Mark, text) ∷ ts) x rest h = mark_sound d inner sound text ts x rest h
step_sound d inner sound ((Local, text) ∷ ts) x rest h = cc
step_sound d inner sound ((Metadata, text) ∷ ts) x rest h = cc
step_sound d inner sound ((Attribute, text) ∷ ts) x rest h = cc

within_sound : (d : ℕ) → IsSound (SpellsWithin d) (init_within d)
unfolding init_within
within_sound zero ts x rest h = cc
within_sound (suc d) ts x rest h = step_sound d (init_within d) (within_sound d) ts x rest h

pub init_sound : IsSound SpellsInit init_at
unfolding init_at
init_sound ts x rest h = within_sound 100 ts x rest h

-- ---- one level: what is spelled is read

-- no type begins with such a mark
pub no_mark : (byte : ℕ) → is_this_mark byte (mark 91) ≡ false → is_this_mark byte (mark 123) ≡ false → is_this_mark byte (mark 60) ≡ false
    → (t : Ty) (front rest : List Tok) → Spells t front → after_mark byte (front ++ rest) ≡ None
no_mark byte a b c nothing front rest s = absurd s
no_mark byte a b c (integer w) front rest s = ap (λ us. after_mark byte (us ++ rest)) s.2
no_mark byte a b c pointer front rest s = ap (λ us. after_mark byte (us ++ rest)) s
no_mark byte a b c (array n t) front rest s = ap (λ us. after_mark byte (us ++ rest)) s.4 ∙ rw a refl
no_mark byte a b c (structure ts) front rest s = ap (λ us. after_mark byte (us ++ rest)) s.2 ∙ rw b refl
no_mark byte a b c (packed ts) front rest s = ap (λ us. after_mark byte (us ++ rest)) s.2 ∙ rw c refl
no_mark byte a b c (named name) front rest s = ap (λ us. after_mark byte (us ++ rest)) s.2
no_mark byte a b c opaque front rest s = absurd s

apart : (d byte : ℕ) → is_this_mark byte (mark 91) ≡ false → is_this_mark byte (mark 123) ≡ false → is_this_mark byte (mark 60) ≡ false
    → (x : Ty × Ini) (front rest : List Tok) → SpellsPair d x front → after_mark byte (front ++ rest) ≡ None
apart d byte a b c x front rest s =
    ap (λ us. after_mark byte (us ++ rest)) s.4 ∙ ap (after_mark byte) (append_assoc s.0 s.1 rest) ∙ no_mark byte a b c x.0 s.0 (s.1 ++ rest) s.2.0

parts_complete : (d close : ℕ) → (44 == close) ≡ false → (close == close) ≡ true → is_this_mark close (mark 91) ≡ false → is_this_mark close (mark 123) ≡ false → is_this_mark close (mark 60) ≡ false
    → (inner : Reader Ini) → IsComplete (SpellsWithin d) inner → (is : Inis) (inside rest : List Tok) → SpellsInis is inside → deepest_init is ≤ d
    → separated (pair_at inner) close (inside ++ mark close ∷ rest) ≡ Some (list_of is, rest)
parts_complete d close other same a b c inner complete is inside rest s deep =
    ap (separated (pair_at inner) close) (sym (append_assoc inside (mark close ∷ []) rest))
    ∙ separated_complete (SpellsPair d) (pair_at inner) close other same (apart d close a b c) (pair_complete d inner complete) (list_of is) (inside ++ mark close ∷ []) rest
    (inside, parts_listed d is inside s deep, refl)

step_complete : (d : ℕ) (inner : Reader Ini) → IsComplete (SpellsWithin d) inner → (x : Ini) (front rest : List Tok) → SpellsIni x front → init_depth x ≤ suc d → init_step inner (front ++ rest) ≡ Some (x, rest)
step_complete d inner complete zero_init front rest s deep = ap (λ us. init_step inner (us ++ rest)) s
step_complete d inner complete (number_init n) front rest s deep = ap (λ us. init_step inner (us ++ rest)) s.2 ∙ ap (λ o. o >>= (λ (m : ℤ). Some (number_init m, rest))) s.1
step_complete d inner complete (truth_init true) front rest s deep = ap (λ us. init_step inner (us ++ rest)) s
step_complete d inner complete (truth_init false) front rest s deep = ap (λ us. init_step inner (us ++ rest)) s
step_complete d inner complete (bytes_init bytes) front rest s deep =
    ap (λ us. init_step inner (us ++ rest)) s.3
    ∙ ap (λ (b : Bool). if b then Some (bytes_init (unescaped (inside_of (drop 1 s.0))), rest) else None) s.1
    ∙ ap (λ ys. Some (bytes_init ys, rest)) s.2
step_complete d inner complete (array_init parts) front rest s deep =
    let shape : (s.0 ++ mark 93 ∷ []) ++ rest ≡ s.0 ++ mark 93 ∷ rest = append_assoc s.0 (mark 93 ∷ []) rest in
    ap (λ us. init_step inner (us ++ rest)) s.2
    ∙ ap (array_at inner) shape
    ∙ ap (λ o. o >>= (λ (p : List (Ty × Ini) × List Tok). Some (array_init (inits_from p.0), p.1))) (parts_complete d 93 refl refl refl refl refl inner complete parts s.0 rest s.1 (omega (arith, deep)))
    ∙ ap (λ us. Some (array_init us, rest)) (of_list parts)
step_complete d inner complete (structure_init parts) front rest s deep =
    let shape : (s.0 ++ mark 125 ∷ []) ++ rest ≡ s.0 ++ mark 125 ∷ rest = append_assoc s.0 (mark 125 ∷ []) rest in
    ap (λ us. init_step inner (us ++ rest)) s.2
    ∙ ap (struct_at inner) shape
    ∙ ap (λ o. o >>= (λ (p : List (Ty × Ini) × List Tok). Some (structure_init (inits_from p.0), p.1))) (parts_complete d 125 refl refl refl refl refl inner complete parts s.0 rest s.1 (omega (arith, deep)))
    ∙ ap (λ us. Some (structure_init us, rest)) (of_list parts)
step_complete d inner complete (packed_init parts) front rest s deep =
    let shape : (s.0 ++ mark 125 ∷ mark 62 ∷ []) ++ rest ≡ s.0 ++ mark 125 ∷ mark 62 ∷ rest = append_assoc s.0 (mark 125 ∷ mark 62 ∷ []) rest in
    ap (λ us. init_step inner (us ++ rest)) s.2
    ∙ ap (λ us. packed_at inner (mark 123 ∷ us)) shape
    ∙ ap (λ o. o >>= (λ (p : List (Ty × Ini) × List Tok). after_mark 62 p.1 >>= (λ (vs : List Tok). Some (packed_init (inits_from p.0), vs)))) (parts_complete d 125 refl refl refl refl refl inner complete parts s.0 (mark 62 ∷ rest) s.1 (omega (arith, deep)))
    ∙ ap (λ us. Some (packed_init us, rest)) (of_list parts)
step_complete d inner complete pointer_init front rest (inl s) deep = ap (λ us. init_step inner (us ++ rest)) s
step_complete d inner complete pointer_init front rest (inr s) deep = ap (λ us. init_step inner (us ++ rest)) s.1.2

-- no initialiser has none in it
some_depth : (i : Ini) → 1 ≤ init_depth i
some_depth (array_init parts) = omega arith
some_depth (structure_init parts) = omega arith
some_depth (packed_init parts) = omega arith
some_depth zero_init = omega arith
some_depth (number_init n) = omega arith
some_depth (truth_init b) = omega arith
some_depth (bytes_init bytes) = omega arith
some_depth pointer_init = omega arith

within_complete : (d : ℕ) → IsComplete (SpellsWithin d) (init_within d)
unfolding init_within
within_complete zero x front rest s = absurd (omega (arith, s.1, some_depth x))
within_complete (suc d) x front rest s = step_complete d (init_within d) (within_complete d) x front rest s.0 s.1

pub init_complete : IsComplete SpellsInit init_at
unfolding init_at
init_complete x front rest s = within_complete 100 x front rest s
