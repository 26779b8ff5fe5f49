-- An item outside of bodies is read exactly where it is spelled.
use Rattle.std.proofs.Common.{◌≡◌, ℕ, zero, suc, Bool, true, false, ◌&&◌, Option, Some, None, List, [], ◌∷◌, ◌++◌, refl, sym, ◌∙◌, ap, subst, ◌⊎◌, inl, inr, append_assoc, append-nil}
use Rattle.std.specs.Prelude.{if◌then◌else◌, codes, ◌==◌}
use Rattle.std.proofs.lemmas.Bool.{eqb-true}
use Rattle.ir_ast.specs.Plain.{Ty, opaque, Ini}
use Rattle.ir_lex.specs.Bytes.{begins_with}
use Rattle.ir_lex.specs.Lexeme.{Lexeme}
use Rattle.ir_lex.specs.Cut.{open_after, is_none_open, closes}
use Rattle.ir_lex.specs.Drop.{remaining}
use Rattle.ir_lex.specs.Names.{plain_name}
use Rattle.ir_lex.specs.Decimal.{width_of}
use Rattle.ir_lex.specs.Tok.{Tok, toks, word, mark, IsLocal, IsGlobal}
use Rattle.ir_lex.specs.TypeSpelling.{SpellsType, SpellsResult}
use Rattle.ir_lex.specs.ValueSpelling.{SpellsInit}
use Rattle.ir_lex.specs.Parts.{SpellsAlign}
use Rattle.ir_lex.specs.Items.{Top, layout_item, type_item, global_item, define_item, declare_item, IsText, IsAligned, storage_word, bracket_of, are_balanced, SpellsTop, ReadsTop}
use Rattle.ir_lex.specs.declared.token.TokenKind.TheVariants.{Word, Number, Quoted, Local, Global, Metadata, Attribute, Mark}
use Rattle.ir_part.specs.Reader.{Reader, ◌>>=◌, Takes, IsSound, IsComplete}
use Rattle.ir_part.specs.Fronts.{after_word, is_this_mark, local_at, global_at}
use Rattle.ir_part.specs.Laws.{IsExact}
use Rattle.ir_part.specs.Many.{is_ended}
use Rattle.ir_part.specs.Numbers.{align_at}
use Rattle.ir_part.specs.Types.{type_at, type_within, result_at}
use Rattle.ir_part.proofs.Fronts.{bound, some_is, if_some, mark_is, after_word_is, local_sound, local_complete, global_sound, global_complete}
use Rattle.ir_part.proofs.TypeLaws.{type_sound, type_complete, result_sound, result_complete}
use Rattle.ir_part.proofs.AlignLaw.{align_sound, align_complete}
use Rattle.ir_top.specs.Combine.{both, Both, sign, IsSign, key, IsKey, whole, IsWhole}
use Rattle.ir_top.specs.Inits.{init_at}
use Rattle.ir_top.specs.Parameters.{parameters_at}
use Rattle.ir_top.specs.Tops.{text_of, text_at, opaque_at, meaning_at, storage_by, storage_at, aligned, is_list, list_at, layout_row, type_row, global_row, define_row, declare_row, begins_with_word, word_row, top_at}
use Rattle.ir_top.proofs.InitLaws.{init_sound, init_complete}
use Rattle.ir_top.proofs.ParameterLaws.{SpellsTail, tail_whole}
use Rattle.ir_top.proofs.Combining.{exact_sign, exact_key, whole_of, whole_both, all_sound, all_complete}

-- ---- parts

text_sound : IsSound IsText text_at
text_sound [] x rest h = cc
text_sound ((Quoted, text) ∷ ts) x rest h =
    let b = bound (text_of text) (λ (bytes : List ℕ). Some (bytes, ts)) (x, rest) h in
    let e : ◌≡◌ {A = List ℕ × List Tok} (b.value, ts) (x, rest) = some_is b.rest in
    elim (if_some (begins_with 34 text) (Some (plain_name text)) None b.value b.was) [
      | inl p ↦ record {
        front = (Quoted, text) ∷ [];
        spelled = (text, p.0, some_is p.1 ∙ ap (λ (r : List ℕ × List Tok). r.0) e, refl);
        parts = ap (λ (r : List ℕ × List Tok). (Quoted, text) ∷ r.1) e;
      }
      | inr p ↦ (let wrong = p.1 in cc)
    ]
text_sound ((Word, text) ∷ ts) x rest h = cc
text_sound ((Number, text) ∷ ts) x rest h = cc
text_sound ((Local, text) ∷ ts) x rest h = cc
text_sound ((Global, text) ∷ ts) x rest h = cc
text_sound ((Metadata, text) ∷ ts) x rest h = cc
text_sound ((Attribute, text) ∷ ts) x rest h = cc
text_sound ((Mark, text) ∷ ts) x rest h = cc

text_complete : IsComplete IsText text_at
text_complete x front rest s =
    ap (λ us. text_at (us ++ rest)) s.3
    ∙ ap (λ (b : Bool). (if b then Some (plain_name s.0) else None) >>= (λ (bytes : List ℕ). Some (bytes, rest))) s.1
    ∙ ap (λ ys. Some (ys, rest)) s.2

-- a type, or `opaque`
abbrev pub IsMeaning : Ty → List Tok → Type 0
IsMeaning t ts = SpellsType t ts ⊎ ((t ≡ opaque) × (ts ≡ word (codes "opaque") ∷ []))

meaning_found : (o : Option (Ty × List Tok)) (ts : List Tok) (x : Ty) (rest : List Tok) → type_at ts ≡ o → opaque_at o ts ≡ Some (x, rest) → Takes IsMeaning ts x rest
meaning_found (Some read) ts x rest is h =
    let takes = type_sound ts x rest (is ∙ h) in
    record { front = takes.front; spelled = inl takes.spelled; parts = takes.parts }
meaning_found None ts x rest is h =
    let b = bound (after_word (codes "opaque") ts) (λ (us : List Tok). Some (opaque, us)) (x, rest) h in
    let e : (opaque, b.value) ≡ (x, rest) = some_is b.rest in
    record {
      front = word (codes "opaque") ∷ [];
      spelled = inr (sym (ap (λ r. r.0) e), refl);
      parts = after_word_is (codes "opaque") ts b.value b.was ∙ ap (λ r. word (codes "opaque") ∷ r.1) e;
    }

opaque_is_no_width : width_of (codes "opaque") ≡ None
unfolding width_of
opaque_is_no_width = refl

opaque_is_no_type : (rest : List Tok) → type_at (word (codes "opaque") ∷ rest) ≡ None
unfolding type_at type_within
opaque_is_no_type rest = rw opaque_is_no_width refl

meaning_complete : (x : Ty) (front rest : List Tok) → IsMeaning x front → meaning_at (front ++ rest) ≡ Some (x, rest)
meaning_complete x front rest (inl s) = ap (λ o. opaque_at o (front ++ rest)) (type_complete x front rest s)
meaning_complete x front rest (inr s) =
    ap (λ us. meaning_at (us ++ rest)) s.1 ∙ ap (λ o. opaque_at o (word (codes "opaque") ∷ rest)) (opaque_is_no_type rest) ∙ ap (λ t. Some (t, rest)) (sym s.0)

meaning_exact : IsExact IsMeaning meaning_at
meaning_exact = record {
  sound = λ ts x rest h. meaning_found (type_at ts) ts x rest refl h;
  complete = λ x front rest s. meaning_complete x front rest s;
}

-- `constant` or `global`
abbrev pub IsStorage : Bool → List Tok → Type 0
IsStorage constant ts = ts ≡ word (storage_word constant) ∷ []

storage_found : (o : Option (List Tok)) (ts : List Tok) (x : Bool) (rest : List Tok) → after_word (codes "constant") ts ≡ o → storage_by o ts ≡ Some (x, rest) → Takes IsStorage ts x rest
storage_found (Some us) ts x rest is h =
    let e : (true, us) ≡ (x, rest) = some_is h in
    record {
      front = word (codes "constant") ∷ [];
      spelled = ap (λ r. word (storage_word r.0) ∷ []) e;
      parts = after_word_is (codes "constant") ts us is ∙ ap (λ r. word (codes "constant") ∷ r.1) e;
    }
storage_found None ts x rest is h =
    let b = bound (after_word (codes "global") ts) (λ (us : List Tok). Some (false, us)) (x, rest) h in
    let e : (false, b.value) ≡ (x, rest) = some_is b.rest in
    record {
      front = word (codes "global") ∷ [];
      spelled = ap (λ r. word (storage_word r.0) ∷ []) e;
      parts = after_word_is (codes "global") ts b.value b.was ∙ ap (λ r. word (codes "global") ∷ r.1) e;
    }

storage_complete : IsComplete IsStorage storage_at
storage_complete true front rest s = ap (λ us. storage_at (us ++ rest)) s
storage_complete false front rest s = ap (λ us. storage_at (us ++ rest)) s

storage_exact : IsExact IsStorage storage_at
storage_exact = record { sound = λ ts x rest h. storage_found (after_word (codes "constant") ts) ts x rest refl h; complete = storage_complete }

align_whole : IsWhole SpellsAlign align_at
align_whole = record { sound = align_sound; complete = λ n front s. ap align_at (sym (append-nil front)) ∙ align_complete n front [] refl s }

-- ---- balanced tokens up to a `)`

abbrev pub IsList : Unit {0} → List Tok → Type 0
IsList x ts = (inner : List Tok) × (are_balanced [] inner ≡ true) × (ts ≡ inner ++ mark 41 ∷ [])

both_true : (a b : Bool) → (a && b) ≡ true → (a ≡ true) × (b ≡ true)
both_true true b h = (refl, h)
both_true false b h = cc

ended_nil : (ts : List Tok) → is_ended ts ≡ true → ts ≡ []
ended_nil [] h = refl
ended_nil (t ∷ ts) h = cc

pub record Listed (open_marks : List ℕ) (ts : List Tok) : Type 0 where
  pub inner : List Tok
  pub balanced : are_balanced open_marks inner ≡ true
  pub parts : ts ≡ inner ++ mark 41 ∷ []

list_last : (open_marks : List ℕ) (t : Tok) (ts : List Tok) → is_ended ts ≡ true → (is_none_open open_marks && is_this_mark 41 t) ≡ true → Listed open_marks (t ∷ ts)
list_last open_marks t ts e h =
    let p = both_true (is_none_open open_marks) (is_this_mark 41 t) h in
    record { inner = []; balanced = p.0; parts = ap (λ us. t ∷ us) (ended_nil ts e) ∙ ap (λ u. u ∷ []) (mark_is 41 t p.1) }

list_first : (open_marks : List ℕ) (t : Tok) (ts : List Tok) → closes open_marks (bracket_of t) ≡ true → Listed (open_after open_marks (bracket_of t)) ts → Listed open_marks (t ∷ ts)
list_first open_marks t ts h l = record { inner = t ∷ l.inner; balanced = ap (λ b. b && are_balanced (open_after open_marks (bracket_of t)) l.inner) h ∙ l.balanced; parts = ap (λ us. t ∷ us) l.parts }

list_by : (ended : Bool) (open_marks : List ℕ) (t : Tok) (ts : List Tok) → is_ended ts ≡ ended
    → (if ended then is_none_open open_marks && is_this_mark 41 t else closes open_marks (bracket_of t) && is_list (open_after open_marks (bracket_of t)) ts) ≡ true
    → (is_list (open_after open_marks (bracket_of t)) ts ≡ true → Listed (open_after open_marks (bracket_of t)) ts) → Listed open_marks (t ∷ ts)
list_by true open_marks t ts e h later = list_last open_marks t ts e h
list_by false open_marks t ts e h later =
    let p = both_true (closes open_marks (bracket_of t)) (is_list (open_after open_marks (bracket_of t)) ts) h in
    list_first open_marks t ts p.0 (later p.1)

list_sound : (open_marks : List ℕ) (ts : List Tok) → is_list open_marks ts ≡ true → Listed open_marks ts
list_sound open_marks [] h = absurd cc
list_sound open_marks (t ∷ ts) h = list_by (is_ended ts) open_marks t ts refl h (λ later. list_sound (open_after open_marks (bracket_of t)) ts later)

goes_on : (ts : List Tok) → is_ended (ts ++ mark 41 ∷ []) ≡ false
goes_on [] = refl
goes_on (t ∷ ts) = refl

and_true : (b : Bool) → b ≡ true → (b && true) ≡ true
and_true true h = refl
and_true false h = cc

list_complete : (open_marks : List ℕ) (inner : List Tok) → are_balanced open_marks inner ≡ true → is_list open_marks (inner ++ mark 41 ∷ []) ≡ true
list_complete open_marks [] h = and_true (is_none_open open_marks) h
list_complete open_marks (t ∷ ts) h =
    let p = both_true (closes open_marks (bracket_of t)) (are_balanced (open_after open_marks (bracket_of t)) ts) h in
    let others = list_complete (open_after open_marks (bracket_of t)) ts p.1 in
    rw (goes_on ts) (rw (p.0, others) refl)

list_whole : IsWhole IsList list_at
list_whole = record {
  sound = λ ts x rest h. elim (if_some (is_list [] ts) (Some (tt, [])) None (x, rest) h) [
    | inl p ↦ (let e : ◌≡◌ {A = Unit {0} × List Tok} (tt, []) (x, rest) = some_is p.1 in
        let l = list_sound [] ts p.0 in
        record { front = ts; spelled = (l.inner, l.balanced, l.parts); parts = sym (append-nil ts) ∙ ap (λ (r : Unit {0} × List Tok). ts ++ r.1) e })
    | inr p ↦ (let wrong = p.1 in cc)
  ];
  complete = λ x front s. ap list_at s.2 ∙ ap (λ (b : Bool). if b then Some (tt, []) else None) (list_complete [] s.0 s.1);
}

-- ---- one token before others

key_before : (text : List ℕ) (first rest ts : List Tok) → first ≡ word text ∷ [] → ts ≡ first ++ rest → ts ≡ word text ∷ rest
key_before text first rest ts h e = e ∙ ap (λ us. us ++ rest) h

sign_before : (byte : ℕ) (first rest ts : List Tok) → first ≡ mark byte ∷ [] → ts ≡ first ++ rest → ts ≡ mark byte ∷ rest
sign_before byte first rest ts h e = e ∙ ap (λ us. us ++ rest) h

local_exact : IsExact IsLocal local_at
local_exact = record { sound = local_sound; complete = local_complete }

global_exact : IsExact IsGlobal global_at
global_exact = record { sound = global_sound; complete = global_complete }

type_exact : IsExact SpellsType type_at
type_exact = record { sound = type_sound; complete = type_complete }

result_exact : IsExact SpellsResult result_at
result_exact = record { sound = result_sound; complete = result_complete }

init_exact : IsExact SpellsInit init_at
init_exact = record { sound = init_sound; complete = init_complete }

-- ---- target datalayout = STRING

abbrev pub SpellsLayout : Unit {0} × (Unit {0} × (Unit {0} × List ℕ)) → List Tok → Type 0
SpellsLayout = Both (IsKey (codes "target")) (Both (IsKey (codes "datalayout")) (Both (IsSign 61) IsText))

abbrev pub read_layout : Reader (Unit {0} × (Unit {0} × (Unit {0} × List ℕ)))
read_layout = both (key (codes "target")) (both (key (codes "datalayout")) (both (sign 61) text_at))

layout_whole : IsWhole SpellsLayout read_layout
layout_whole = whole_both (IsKey (codes "target")) (Both (IsKey (codes "datalayout")) (Both (IsSign 61) IsText)) (key (codes "target")) (both (key (codes "datalayout")) (both (sign 61) text_at)) (exact_key (codes "target") refl)
    (whole_both (IsKey (codes "datalayout")) (Both (IsSign 61) IsText) (key (codes "datalayout")) (both (sign 61) text_at) (exact_key (codes "datalayout") refl)
    (whole_both (IsSign 61) IsText (sign 61) text_at (exact_sign 61 refl) (whole_of IsText text_at (record { sound = text_sound; complete = text_complete }))))

layout_spells : (x : Unit {0} × (Unit {0} × (Unit {0} × List ℕ))) (ts : List Tok) → SpellsLayout x ts → SpellsTop (layout_item x.1.1.1) ts
layout_spells x ts h =
    let a = h.3 in
    let b = a.3 in (
      b.1,
      b.3,
      key_before (codes "target") h.0 h.1 ts h.2 h.4
          ∙ ap (λ us. word (codes "target") ∷ us) (key_before (codes "datalayout") a.0 a.1 h.1 a.2 a.4 ∙ ap (λ us. word (codes "datalayout") ∷ us) (sign_before 61 b.0 b.1 a.1 b.2 b.4)),
    )

layout_spelled : (bytes : List ℕ) (ts : List Tok) → SpellsTop (layout_item bytes) ts → SpellsLayout (tt, (tt, (tt, bytes))) ts
layout_spelled bytes ts (text, s, e) = (
  word (codes "target") ∷ [],
  word (codes "datalayout") ∷ mark 61 ∷ text,
  refl,
  (word (codes "datalayout") ∷ [], mark 61 ∷ text, refl, (mark 61 ∷ [], text, refl, s, refl), refl),
  e,
)

layout_sound : (ts : List Tok) (top : Top) → layout_row ts ≡ Some top → SpellsTop top ts
layout_sound ts top h =
    let b = bound (whole read_layout ts) (λ (x : Unit {0} × (Unit {0} × (Unit {0} × List ℕ))). Some (layout_item x.1.1.1)) top h in
    subst (λ (y : Top). SpellsTop y ts) (some_is b.rest) (layout_spells b.value ts (all_sound SpellsLayout read_layout layout_whole ts b.value b.was))

layout_complete : (bytes : List ℕ) (ts : List Tok) → SpellsTop (layout_item bytes) ts → layout_row ts ≡ Some (layout_item bytes)
layout_complete bytes ts s =
    ap (λ o. o >>= (λ (x : Unit {0} × (Unit {0} × (Unit {0} × List ℕ))). Some (layout_item x.1.1.1))) (all_complete SpellsLayout read_layout layout_whole ts (tt, (tt, (tt, bytes))) (layout_spelled bytes ts s))

-- ---- %NAME = type T, %NAME = type opaque

abbrev pub SpellsNamed : List ℕ × (Unit {0} × (Unit {0} × Ty)) → List Tok → Type 0
SpellsNamed = Both IsLocal (Both (IsSign 61) (Both (IsKey (codes "type")) IsMeaning))

abbrev pub read_named : Reader (List ℕ × (Unit {0} × (Unit {0} × Ty)))
read_named = both local_at (both (sign 61) (both (key (codes "type")) meaning_at))

named_whole : IsWhole SpellsNamed read_named
named_whole = whole_both IsLocal (Both (IsSign 61) (Both (IsKey (codes "type")) IsMeaning)) local_at (both (sign 61) (both (key (codes "type")) meaning_at)) local_exact
    (whole_both (IsSign 61) (Both (IsKey (codes "type")) IsMeaning) (sign 61) (both (key (codes "type")) meaning_at) (exact_sign 61 refl)
    (whole_both (IsKey (codes "type")) IsMeaning (key (codes "type")) meaning_at (exact_key (codes "type") refl) (whole_of IsMeaning meaning_at meaning_exact)))

named_spells : (x : List ℕ × (Unit {0} × (Unit {0} × Ty))) (ts : List Tok) → SpellsNamed x ts → SpellsTop (type_item x.0 x.1.1.1) ts
named_spells x ts h =
    let a = h.3 in
    let b = a.3 in
    (h.0, b.1, h.2, b.3, h.4 ∙ ap (λ us. h.0 ++ us) (sign_before 61 a.0 a.1 h.1 a.2 a.4 ∙ ap (λ us. mark 61 ∷ us) (key_before (codes "type") b.0 b.1 a.1 b.2 b.4)))

named_spelled : (name : List ℕ) (t : Ty) (ts : List Tok) → SpellsTop (type_item name t) ts → SpellsNamed (name, (tt, (tt, t))) ts
named_spelled name t ts (local, over, s, m, e) =
    (local, mark 61 ∷ word (codes "type") ∷ over, s, (mark 61 ∷ [], word (codes "type") ∷ over, refl, (word (codes "type") ∷ [], over, refl, m, refl), refl), e)

named_sound : (ts : List Tok) (top : Top) → type_row ts ≡ Some top → SpellsTop top ts
named_sound ts top h =
    let b = bound (whole read_named ts) (λ (x : List ℕ × (Unit {0} × (Unit {0} × Ty))). Some (type_item x.0 x.1.1.1)) top h in
    subst (λ (y : Top). SpellsTop y ts) (some_is b.rest) (named_spells b.value ts (all_sound SpellsNamed read_named named_whole ts b.value b.was))

named_complete : (name : List ℕ) (t : Ty) (ts : List Tok) → SpellsTop (type_item name t) ts → type_row ts ≡ Some (type_item name t)
named_complete name t ts s =
    ap (λ o. o >>= (λ (x : List ℕ × (Unit {0} × (Unit {0} × Ty))). Some (type_item x.0 x.1.1.1))) (all_complete SpellsNamed read_named named_whole ts (name, (tt, (tt, t))) (named_spelled name t ts s))

-- ---- @NAME = global T INIT [, align n]

abbrev pub SpellsGlobal : List ℕ × (Unit {0} × (Bool × (Ty × (Ini × ℕ)))) → List Tok → Type 0
SpellsGlobal = Both IsGlobal (Both (IsSign 61) (Both IsStorage (Both SpellsType (Both SpellsInit SpellsAlign))))

abbrev pub read_global : Reader (List ℕ × (Unit {0} × (Bool × (Ty × (Ini × ℕ)))))
read_global = both global_at (both (sign 61) (both storage_at (both type_at (both init_at align_at))))

global_whole : IsWhole SpellsGlobal read_global
global_whole = whole_both IsGlobal (Both (IsSign 61) (Both IsStorage (Both SpellsType (Both SpellsInit SpellsAlign)))) global_at (both (sign 61) (both storage_at (both type_at (both init_at align_at)))) global_exact
    (whole_both (IsSign 61) (Both IsStorage (Both SpellsType (Both SpellsInit SpellsAlign))) (sign 61) (both storage_at (both type_at (both init_at align_at))) (exact_sign 61 refl)
    (whole_both IsStorage (Both SpellsType (Both SpellsInit SpellsAlign)) storage_at (both type_at (both init_at align_at)) storage_exact
    (whole_both SpellsType (Both SpellsInit SpellsAlign) type_at (both init_at align_at) type_exact
    (whole_both SpellsInit SpellsAlign init_at align_at init_exact align_whole))))

never_zero : (n : ℕ) → (n == 0) ≡ false → n ≡ 0 → ⊥
never_zero zero h e = absurd cc
never_zero (suc n) h e = absurd cc

aligned_by : (zero_is : Bool) (n : ℕ) (ts : List Tok) → (n == 0) ≡ zero_is → SpellsAlign n ts → IsAligned (if zero_is then None else Some n) ts
aligned_by true n ts is (inl s) = inl s.1
aligned_by true n ts is (inr s) = inr (s.0, s.1 ∙ ap (λ m. Some m) (eqb-true n 0 is), s.2)
aligned_by false n ts is (inl s) = absurd (never_zero n is s.0)
aligned_by false n ts is (inr s) = (s.0, s.1, is, s.2)

-- the number of an alignment
pub record Numbered (align : Option ℕ) (ts : List Tok) : Type 0 where
  pub number : ℕ
  pub spelled : SpellsAlign number ts
  pub means : aligned number ≡ align

numbered : (align : Option ℕ) (ts : List Tok) → IsAligned align ts → Numbered align ts
numbered None ts (inl s) = record { number = 0; spelled = inl (refl, s); means = refl }
numbered None ts (inr s) = record { number = 0; spelled = inr s; means = refl }
numbered (Some n) ts s = record { number = n; spelled = inr (s.0, s.1, s.3); means = ap (λ (b : Bool). if b then None else Some n) s.2 }

global_spells : (x : List ℕ × (Unit {0} × (Bool × (Ty × (Ini × ℕ))))) (ts : List Tok) → SpellsGlobal x ts → SpellsTop (global_item x.0 x.1.1.0 x.1.1.1.0 x.1.1.1.1.0 (aligned x.1.1.1.1.1)) ts
global_spells x ts h =
    let a = h.3 in
    let b = a.3 in
    let c = b.3 in
    let d = c.3 in
    let tail : b.1 ≡ (c.0 ++ d.0) ++ d.1 = c.4 ∙ ap (λ us. c.0 ++ us) d.4 ∙ sym (append_assoc c.0 d.0 d.1) in (
      h.0,
      c.0,
      d.0,
      d.1,
      h.2,
      c.2,
      d.2,
      aligned_by (x.1.1.1.1.1 == 0) x.1.1.1.1.1 d.1 refl d.3,
      h.4 ∙ ap (λ us. h.0 ++ us) (sign_before 61 a.0 a.1 h.1 a.2 a.4 ∙ ap (λ us. mark 61 ∷ us) (key_before (storage_word x.1.1.0) b.0 b.1 a.1 b.2 b.4 ∙ ap (λ us. word (storage_word x.1.1.0) ∷ us) tail)),
    )

global_spelled : (name : List ℕ) (constant : Bool) (t : Ty) (init : Ini) (n : ℕ) (global over value align ts : List Tok) → IsGlobal name global → SpellsType t over → SpellsInit init value → SpellsAlign n align
    → ts ≡ global ++ mark 61 ∷ word (storage_word constant) ∷ (over ++ value ++ align) → SpellsGlobal (name, (tt, (constant, (t, (init, n))))) ts
global_spelled name constant t init n global over value align ts g s v a e = (
  global,
  mark 61 ∷ word (storage_word constant) ∷ (over ++ value ++ align),
  g,
  (
    mark 61 ∷ [],
    word (storage_word constant) ∷ (over ++ value ++ align),
    refl,
    (word (storage_word constant) ∷ [], over ++ value ++ align, refl, (over, value ++ align, s, (value, align, v, a, refl), append_assoc over value align), refl),
    refl,
  ),
  e,
)

global_sound_row : (ts : List Tok) (top : Top) → global_row ts ≡ Some top → SpellsTop top ts
global_sound_row ts top h =
    let b = bound (whole read_global ts) (λ (x : List ℕ × (Unit {0} × (Bool × (Ty × (Ini × ℕ))))). Some (global_item x.0 x.1.1.0 x.1.1.1.0 x.1.1.1.1.0 (aligned x.1.1.1.1.1))) top h in
    subst (λ (y : Top). SpellsTop y ts) (some_is b.rest) (global_spells b.value ts (all_sound SpellsGlobal read_global global_whole ts b.value b.was))

global_complete_row : (name : List ℕ) (constant : Bool) (t : Ty) (init : Ini) (align : Option ℕ) (ts : List Tok) → SpellsTop (global_item name constant t init align) ts → global_row ts ≡ Some (global_item name constant t init align)
global_complete_row name constant t init align ts s =
    let n = numbered align s.3 s.7 in
    let spelled = global_spelled name constant t init n.number s.0 s.1 s.2 s.3 ts s.4 s.5 s.6 n.spelled s.8 in
    ap (λ o. o >>= (λ (x : List ℕ × (Unit {0} × (Bool × (Ty × (Ini × ℕ))))). Some (global_item x.0 x.1.1.0 x.1.1.1.0 x.1.1.1.1.0 (aligned x.1.1.1.1.1)))) (all_complete SpellsGlobal read_global global_whole ts (name, (tt, (constant, (t, (init, n.number))))) spelled)
    ∙ ap (λ al. Some (global_item name constant t init al)) n.means

-- ---- define R @NAME ( T [%NAME] , .. ) {

abbrev pub SpellsDefine : Unit {0} × (Ty × (List ℕ × (Unit {0} × (List (Ty × List ℕ) × (Unit {0} × Unit {0}))))) → List Tok → Type 0
SpellsDefine = Both (IsKey (codes "define")) (Both SpellsResult (Both IsGlobal (Both (IsSign 40) SpellsTail)))

abbrev pub read_define : Reader (Unit {0} × (Ty × (List ℕ × (Unit {0} × (List (Ty × List ℕ) × (Unit {0} × Unit {0}))))))
read_define = both (key (codes "define")) (both result_at (both global_at (both (sign 40) (both parameters_at (both (sign 41) (sign 123))))))

define_whole : IsWhole SpellsDefine read_define
define_whole = whole_both (IsKey (codes "define")) (Both SpellsResult (Both IsGlobal (Both (IsSign 40) SpellsTail))) (key (codes "define")) (both result_at (both global_at (both (sign 40) (both parameters_at (both (sign 41) (sign 123)))))) (exact_key (codes "define") refl)
    (whole_both SpellsResult (Both IsGlobal (Both (IsSign 40) SpellsTail)) result_at (both global_at (both (sign 40) (both parameters_at (both (sign 41) (sign 123))))) result_exact
    (whole_both IsGlobal (Both (IsSign 40) SpellsTail) global_at (both (sign 40) (both parameters_at (both (sign 41) (sign 123)))) global_exact
    (whole_both (IsSign 40) SpellsTail (sign 40) (both parameters_at (both (sign 41) (sign 123))) (exact_sign 40 refl) tail_whole)))

define_spells : (x : Unit {0} × (Ty × (List ℕ × (Unit {0} × (List (Ty × List ℕ) × (Unit {0} × Unit {0})))))) (ts : List Tok) → SpellsDefine x ts → SpellsTop (define_item x.1.1.0 x.1.0 x.1.1.1.1.0) ts
define_spells x ts h =
    let a = h.3 in
    let b = a.3 in
    let c = b.3 in
    let d = c.3 in
    let e = d.3 in
    let last : d.1 ≡ mark 41 ∷ mark 123 ∷ [] = sign_before 41 e.0 e.1 d.1 e.2 e.4 ∙ ap (λ us. mark 41 ∷ us) e.3 in
    let inner : c.1 ≡ d.0 ++ mark 41 ∷ mark 123 ∷ [] = d.4 ∙ ap (λ us. d.0 ++ us) last in
    let list : b.1 ≡ mark 40 ∷ (d.0 ++ mark 41 ∷ mark 123 ∷ []) = sign_before 40 c.0 c.1 b.1 c.2 c.4 ∙ ap (λ us. mark 40 ∷ us) inner in
    let behind : h.1 ≡ (a.0 ++ b.0) ++ mark 40 ∷ (d.0 ++ mark 41 ∷ mark 123 ∷ []) = a.4 ∙ ap (λ us. a.0 ++ us) (b.4 ∙ ap (λ us. b.0 ++ us) list) ∙ sym (append_assoc a.0 b.0 (mark 40 ∷ (d.0 ++ mark 41 ∷ mark 123 ∷ []))) in
    (a.0, b.0, d.0, a.2, b.2, d.2, key_before (codes "define") h.0 h.1 ts h.2 h.4 ∙ ap (λ us. word (codes "define") ∷ us) behind)

define_spelled : (name : List ℕ) (result : Ty) (ps : List (Ty × List ℕ)) (ts : List Tok) → SpellsTop (define_item name result ps) ts → SpellsDefine (tt, (result, (name, (tt, (ps, (tt, tt)))))) ts
define_spelled name result ps ts s =
    let last = s.2 ++ mark 41 ∷ mark 123 ∷ [] in (
      word (codes "define") ∷ [],
      (s.0 ++ s.1) ++ mark 40 ∷ last,
      refl,
      (s.0, s.1 ++ mark 40 ∷ last, s.3, (s.1, mark 40 ∷ last, s.4, (mark 40 ∷ [], last, refl, (s.2, mark 41 ∷ mark 123 ∷ [], s.5, (mark 41 ∷ [], mark 123 ∷ [], refl, refl, refl), refl), refl), refl), append_assoc s.0 s.1 (mark 40 ∷ last)),
      s.6,
    )

define_sound : (ts : List Tok) (top : Top) → define_row ts ≡ Some top → SpellsTop top ts
define_sound ts top h =
    let b = bound (whole read_define ts) (λ (x : Unit {0} × (Ty × (List ℕ × (Unit {0} × (List (Ty × List ℕ) × (Unit {0} × Unit {0})))))). Some (define_item x.1.1.0 x.1.0 x.1.1.1.1.0)) top h in
    subst (λ (y : Top). SpellsTop y ts) (some_is b.rest) (define_spells b.value ts (all_sound SpellsDefine read_define define_whole ts b.value b.was))

define_complete : (name : List ℕ) (result : Ty) (ps : List (Ty × List ℕ)) (ts : List Tok) → SpellsTop (define_item name result ps) ts → define_row ts ≡ Some (define_item name result ps)
define_complete name result ps ts s =
    ap (λ o. o >>= (λ (x : Unit {0} × (Ty × (List ℕ × (Unit {0} × (List (Ty × List ℕ) × (Unit {0} × Unit {0})))))). Some (define_item x.1.1.0 x.1.0 x.1.1.1.1.0))) (all_complete SpellsDefine read_define define_whole ts (tt, (result, (name, (tt, (ps, (tt, tt)))))) (define_spelled name result ps ts s))

-- ---- declare R @NAME ( .. )

abbrev pub SpellsDeclare : Unit {0} × (Ty × (List ℕ × (Unit {0} × Unit {0}))) → List Tok → Type 0
SpellsDeclare = Both (IsKey (codes "declare")) (Both SpellsResult (Both IsGlobal (Both (IsSign 40) IsList)))

abbrev pub read_declare : Reader (Unit {0} × (Ty × (List ℕ × (Unit {0} × Unit {0}))))
read_declare = both (key (codes "declare")) (both result_at (both global_at (both (sign 40) list_at)))

declare_whole : IsWhole SpellsDeclare read_declare
declare_whole = whole_both (IsKey (codes "declare")) (Both SpellsResult (Both IsGlobal (Both (IsSign 40) IsList))) (key (codes "declare")) (both result_at (both global_at (both (sign 40) list_at))) (exact_key (codes "declare") refl)
    (whole_both SpellsResult (Both IsGlobal (Both (IsSign 40) IsList)) result_at (both global_at (both (sign 40) list_at)) result_exact
    (whole_both IsGlobal (Both (IsSign 40) IsList) global_at (both (sign 40) list_at) global_exact
    (whole_both (IsSign 40) IsList (sign 40) list_at (exact_sign 40 refl) list_whole)))

declare_spells : (x : Unit {0} × (Ty × (List ℕ × (Unit {0} × Unit {0})))) (ts : List Tok) → SpellsDeclare x ts → SpellsTop (declare_item x.1.1.0 x.1.0) ts
declare_spells x ts h =
    let a = h.3 in
    let b = a.3 in
    let c = b.3 in
    let d = c.3 in
    let list : b.1 ≡ mark 40 ∷ (d.0 ++ mark 41 ∷ []) = sign_before 40 c.0 c.1 b.1 c.2 c.4 ∙ ap (λ us. mark 40 ∷ us) d.2 in
    let behind : h.1 ≡ (a.0 ++ b.0) ++ mark 40 ∷ (d.0 ++ mark 41 ∷ []) = a.4 ∙ ap (λ us. a.0 ++ us) (b.4 ∙ ap (λ us. b.0 ++ us) list) ∙ sym (append_assoc a.0 b.0 (mark 40 ∷ (d.0 ++ mark 41 ∷ []))) in
    (a.0, b.0, d.0, a.2, b.2, d.1, key_before (codes "declare") h.0 h.1 ts h.2 h.4 ∙ ap (λ us. word (codes "declare") ∷ us) behind)

declare_spelled : (name : List ℕ) (result : Ty) (ts : List Tok) → SpellsTop (declare_item name result) ts → SpellsDeclare (tt, (result, (name, (tt, tt)))) ts
declare_spelled name result ts s =
    let last = s.2 ++ mark 41 ∷ [] in (
      word (codes "declare") ∷ [],
      (s.0 ++ s.1) ++ mark 40 ∷ last,
      refl,
      (s.0, s.1 ++ mark 40 ∷ last, s.3, (s.1, mark 40 ∷ last, s.4, (mark 40 ∷ [], last, refl, (s.2, s.5, refl), refl), refl), append_assoc s.0 s.1 (mark 40 ∷ last)),
      s.6,
    )

declare_sound : (ts : List Tok) (top : Top) → declare_row ts ≡ Some top → SpellsTop top ts
declare_sound ts top h =
    let b = bound (whole read_declare ts) (λ (x : Unit {0} × (Ty × (List ℕ × (Unit {0} × Unit {0})))). Some (declare_item x.1.1.0 x.1.0)) top h in
    subst (λ (y : Top). SpellsTop y ts) (some_is b.rest) (declare_spells b.value ts (all_sound SpellsDeclare read_declare declare_whole ts b.value b.was))

declare_complete : (name : List ℕ) (result : Ty) (ts : List Tok) → SpellsTop (declare_item name result) ts → declare_row ts ≡ Some (declare_item name result)
declare_complete name result ts s =
    ap (λ o. o >>= (λ (x : Unit {0} × (Ty × (List ℕ × (Unit {0} × Unit {0})))). Some (declare_item x.1.1.0 x.1.0))) (all_complete SpellsDeclare read_declare declare_whole ts (tt, (result, (name, (tt, tt)))) (declare_spelled name result ts s))

-- ---- all productions

word_sound : (ts : List Tok) (top : Top) → word_row ts ≡ Some top → SpellsTop top ts
word_sound ts top h =
    elim (if_some (begins_with_word (codes "define") ts) (define_row ts) (if begins_with_word (codes "declare") ts then declare_row ts else layout_row ts) top h) [
      | inl p ↦ define_sound ts top p.1
      | inr p ↦ elim (if_some (begins_with_word (codes "declare") ts) (declare_row ts) (layout_row ts) top p.1) [
        | inl q ↦ declare_sound ts top q.1
        | inr q ↦ layout_sound ts top q.1
      ]
    ]

pub top_sound : (ts : List Tok) (top : Top) → top_at ts ≡ Some top → SpellsTop top ts
unfolding top_at
top_sound [] top h = absurd cc
top_sound ((Word, text) ∷ ts) top h = word_sound ((Word, text) ∷ ts) top h
top_sound ((Local, text) ∷ ts) top h = named_sound ((Local, text) ∷ ts) top h
top_sound ((Global, text) ∷ ts) top h = global_sound_row ((Global, text) ∷ ts) top h
top_sound ((Number, text) ∷ ts) top h = absurd cc
top_sound ((Quoted, text) ∷ ts) top h = absurd cc
top_sound ((Metadata, text) ∷ ts) top h = absurd cc
top_sound ((Attribute, text) ∷ ts) top h = absurd cc
top_sound ((Mark, text) ∷ ts) top h = absurd cc

-- by the first token
by_word : (text : List ℕ) (rest ts : List Tok) (read : Option Top) → ts ≡ word text ∷ rest → word_row (word text ∷ rest) ≡ read → top_at ts ≡ read
unfolding top_at
by_word text rest ts read e h = ap top_at e ∙ h

by_local : (text : List ℕ) (rest ts : List Tok) (read : Option Top) → ts ≡ (Local, text) ∷ rest → type_row ts ≡ read → top_at ts ≡ read
unfolding top_at
by_local text rest ts read e h = ap top_at e ∙ ap type_row (sym e) ∙ h

by_global : (text : List ℕ) (rest ts : List Tok) (read : Option Top) → ts ≡ (Global, text) ∷ rest → global_row ts ≡ read → top_at ts ≡ read
unfolding top_at
by_global text rest ts read e h = ap top_at e ∙ ap global_row (sym e) ∙ h

pub top_complete : (top : Top) (ts : List Tok) → SpellsTop top ts → top_at ts ≡ Some top
top_complete (layout_item bytes) ts s =
    let rest = word (codes "datalayout") ∷ mark 61 ∷ s.0 in
    by_word (codes "target") rest ts (Some (layout_item bytes)) s.2 (ap layout_row (sym s.2) ∙ layout_complete bytes ts s)
top_complete (type_item name t) ts s =
    let local = s.2 in
    by_local local.0 (mark 61 ∷ word (codes "type") ∷ s.1) ts (Some (type_item name t)) (s.4 ∙ ap (λ us. us ++ mark 61 ∷ word (codes "type") ∷ s.1) local.2) (named_complete name t ts s)
top_complete (global_item name constant t init align) ts s =
    let global = s.4 in
    let rest = mark 61 ∷ word (storage_word constant) ∷ (s.1 ++ s.2 ++ s.3) in
    by_global global.0 rest ts (Some (global_item name constant t init align)) (s.8 ∙ ap (λ us. us ++ rest) global.2) (global_complete_row name constant t init align ts s)
top_complete (define_item name result ps) ts s =
    let rest = s.0 ++ s.1 ++ mark 40 ∷ (s.2 ++ mark 41 ∷ mark 123 ∷ []) in
    by_word (codes "define") rest ts (Some (define_item name result ps)) s.6 (ap define_row (sym s.6) ∙ define_complete name result ps ts s)
top_complete (declare_item name result) ts s =
    let rest = s.0 ++ s.1 ++ mark 40 ∷ (s.2 ++ mark 41 ∷ []) in
    by_word (codes "declare") rest ts (Some (declare_item name result)) s.6 (ap declare_row (sym s.6) ∙ declare_complete name result ts s)

pub one_top : (a b : Top) (ts : List Tok) → SpellsTop a ts → SpellsTop b ts → a ≡ b
one_top a b ts s t = some_is (sym (top_complete a ts s) ∙ top_complete b ts t)

pub one_read : (a b : Top) (ts : List Lexeme) → ReadsTop a ts → ReadsTop b ts → a ≡ b
one_read a b ts s t = one_top a b (toks (remaining ts)) s.1 t.1

never_both : {A : Type 0} (o : Option A) (a : A) → o ≡ None → o ≡ Some a → ⊥
never_both o a e f = absurd cc

pub none_spelled : (ts : List Tok) (top : Top) → top_at ts ≡ None → SpellsTop top ts → ⊥
none_spelled ts top none s = never_both (top_at ts) top none (top_complete top ts s)
