-- A range is read exactly where it is spelled.
use Rattle.std.proofs.Common.{◌≡◌, ℕ, Bool, true, Option, Some, None, List, [], ◌∷◌, ◌++◌, drop, refl, sym, ◌∙◌, ap, subst, inl, inr, append_assoc}
use Rattle.std.specs.Prelude.{if◌then◌else◌, ℤ}
use Rattle.ir_ast.specs.Plain.{Ty}
use Rattle.ir_lex.specs.Drop.{are_digits}
use Rattle.ir_lex.specs.Tok.{Tok, mark}
use Rattle.ir_lex.specs.TypeSpelling.{SpellsType}
use Rattle.ir_lex.specs.ValueSpelling.{IsNumber}
use Rattle.ir_lex.specs.Items.{SpellsMoreNumbers, SpellsRangeItem}
use Rattle.ir_lex.specs.declared.token.TokenKind.TheVariants.{Word, Number, Quoted, Local, Global, Metadata, Attribute, Mark}
use Rattle.ir_part.specs.Reader.{Reader, ◌>>=◌, IsSound, IsComplete}
use Rattle.ir_part.specs.Fronts.{after_mark}
use Rattle.ir_part.specs.Laws.{IsExact}
use Rattle.ir_part.specs.Many.{separated}
use Rattle.ir_part.specs.Lists.{Row, Behind, Closed}
use Rattle.ir_part.specs.Numbers.{number_at}
use Rattle.ir_part.specs.Types.{type_at}
use Rattle.ir_part.proofs.Fronts.{bound, some_is, if_some, number_sound, number_complete}
use Rattle.ir_part.proofs.TypeLaws.{type_sound, type_complete}
use Rattle.ir_part.proofs.Lists.{separated_sound, separated_complete}
use Rattle.ir_top.specs.Combine.{both, Both, sign, IsSign, whole, IsWhole}
use Rattle.ir_top.specs.Tops.{number_name, metadata_at, typed_number_at, some_numbers, range_at}
use Rattle.ir_top.proofs.InitLaws.{no_mark}
use Rattle.ir_top.proofs.Combining.{exact_both, exact_sign, whole_of, whole_both, all_sound, all_complete}

-- ---- `!N`

abbrev pub IsMetadata : List ℕ → List Tok → Type 0
IsMetadata name ts = (text : List ℕ) × (are_digits (drop 1 text) ≡ true) × (drop 1 text ≡ name) × (ts ≡ (Metadata, text) ∷ [])

metadata_sound : IsSound IsMetadata metadata_at
metadata_sound [] x rest h = cc
metadata_sound ((Metadata, text) ∷ ts) x rest h =
    let b = bound (number_name (drop 1 text)) (λ (name : List ℕ). Some (name, ts)) (x, rest) h in
    let e : ◌≡◌ {A = List ℕ × List Tok} (b.value, ts) (x, rest) = some_is b.rest in
    elim (if_some (are_digits (drop 1 text)) (Some (drop 1 text)) None b.value b.was) [
      | inl p ↦ record {
        front = (Metadata, text) ∷ [];
        spelled = (text, p.0, some_is p.1 ∙ ap (λ (r : List ℕ × List Tok). r.0) e, refl);
        parts = ap (λ (r : List ℕ × List Tok). (Metadata, text) ∷ r.1) e;
      }
      | inr p ↦ (let wrong = p.1 in cc)
    ]
metadata_sound ((Word, text) ∷ ts) x rest h = cc
metadata_sound ((Number, text) ∷ ts) x rest h = cc
metadata_sound ((Quoted, text) ∷ ts) x rest h = cc
metadata_sound ((Local, text) ∷ ts) x rest h = cc
metadata_sound ((Global, text) ∷ ts) x rest h = cc
metadata_sound ((Attribute, text) ∷ ts) x rest h = cc
metadata_sound ((Mark, text) ∷ ts) x rest h = cc

metadata_complete : IsComplete IsMetadata metadata_at
metadata_complete x front rest s =
    ap (λ us. metadata_at (us ++ rest)) s.3
    ∙ ap (λ (b : Bool). (if b then Some (drop 1 s.0) else None) >>= (λ (name : List ℕ). Some (name, rest))) s.1
    ∙ ap (λ ys. Some (ys, rest)) s.2

-- ---- `T n , ..`

abbrev pub SpellsNumber : Ty × ℤ → List Tok → Type 0
SpellsNumber = Both SpellsType IsNumber

number_exact : IsExact SpellsNumber typed_number_at
number_exact = exact_both SpellsType IsNumber type_at number_at (record { sound = type_sound; complete = type_complete }) (record { sound = number_sound; complete = number_complete })

apart : (x : Ty × ℤ) (front rest : List Tok) → SpellsNumber x front → after_mark 125 (front ++ rest) ≡ None
apart x front rest s = ap (λ us. after_mark 125 (us ++ rest)) s.4 ∙ ap (after_mark 125) (append_assoc s.0 s.1 rest) ∙ no_mark 125 refl refl refl x.0 s.0 (s.1 ++ rest) s.2.0

numbers_exact : IsExact (Closed SpellsNumber 125) (separated typed_number_at 125)
numbers_exact = record {
  sound = separated_sound SpellsNumber typed_number_at 125 number_exact.sound;
  complete = separated_complete SpellsNumber typed_number_at 125 refl refl apart number_exact.complete;
}

more_spelled : (ns : List (Ty × ℤ)) (us : List Tok) → Row (Behind SpellsNumber) ns us → SpellsMoreNumbers ns us
more_spelled [] us s = s
more_spelled (n ∷ ns) us s =
    let behind = s.2 in
    let pair = behind.1 in
    (pair.0, pair.1, s.1, pair.2, pair.3, more_spelled ns s.1 s.3, s.4 ∙ ap (λ vs. vs ++ s.1) behind.2 ∙ ap (λ vs. mark 44 ∷ (vs ++ s.1)) pair.4)

more_listed : (ns : List (Ty × ℤ)) (us : List Tok) → SpellsMoreNumbers ns us → Row (Behind SpellsNumber) ns us
more_listed [] us s = s
more_listed (n ∷ ns) us s =
    let inner = s.0 ++ s.1 in
    (mark 44 ∷ inner, s.2, (inner, (s.0, s.1, s.3, s.4, refl), refl), more_listed ns s.2 s.5, s.6)

-- ---- the item

abbrev pub SpellsRange : List ℕ × (Unit {0} × (Unit {0} × (Unit {0} × List (Ty × ℤ)))) → List Tok → Type 0
SpellsRange = Both IsMetadata (Both (IsSign 61) (Both (IsSign 33) (Both (IsSign 123) (Closed SpellsNumber 125))))

abbrev pub range_reader : Reader (List ℕ × (Unit {0} × (Unit {0} × (Unit {0} × List (Ty × ℤ)))))
range_reader = both metadata_at (both (sign 61) (both (sign 33) (both (sign 123) (separated typed_number_at 125))))

range_whole : IsWhole SpellsRange range_reader
range_whole = whole_both IsMetadata (Both (IsSign 61) (Both (IsSign 33) (Both (IsSign 123) (Closed SpellsNumber 125)))) metadata_at (both (sign 61) (both (sign 33) (both (sign 123) (separated typed_number_at 125))))
    (record { sound = metadata_sound; complete = metadata_complete })
    (whole_both (IsSign 61) (Both (IsSign 33) (Both (IsSign 123) (Closed SpellsNumber 125))) (sign 61) (both (sign 33) (both (sign 123) (separated typed_number_at 125))) (exact_sign 61 refl)
    (whole_both (IsSign 33) (Both (IsSign 123) (Closed SpellsNumber 125)) (sign 33) (both (sign 123) (separated typed_number_at 125)) (exact_sign 33 refl)
    (whole_both (IsSign 123) (Closed SpellsNumber 125) (sign 123) (separated typed_number_at 125) (exact_sign 123 refl) (whole_of (Closed SpellsNumber 125) (separated typed_number_at 125) numbers_exact))))

sign_before : (byte : ℕ) (first rest ts : List Tok) → first ≡ mark byte ∷ [] → ts ≡ first ++ rest → ts ≡ mark byte ∷ rest
sign_before byte first rest ts h e = e ∙ ap (λ us. us ++ rest) h

range_spells : (name : List ℕ) (n : Ty × ℤ) (ns : List (Ty × ℤ)) (ts : List Tok) → SpellsRange (name, (tt, (tt, (tt, n ∷ ns)))) ts → SpellsRangeItem name (n ∷ ns) ts
range_spells name n ns ts h =
    let meta = h.2 in
    let a = h.3 in
    let b = a.3 in
    let c = b.3 in
    let closed = c.3 in
    let parted = closed.1 in
    let pair = parted.2 in
    let inner : closed.0 ≡ (pair.0 ++ pair.1) ++ parted.1 = parted.4 ∙ ap (λ us. us ++ parted.1) pair.4 in
    let tail : c.1 ≡ ((pair.0 ++ pair.1) ++ parted.1) ++ mark 125 ∷ [] = closed.2 ∙ ap (λ us. us ++ mark 125 ∷ []) inner in
    let text = meta.0 in (
      text,
      pair.0,
      pair.1,
      parted.1,
      meta.1,
      meta.2,
      pair.2,
      pair.3,
      more_spelled ns parted.1 parted.3,
      h.4 ∙ ap (λ us. us ++ h.1) meta.3 ∙ ap (λ us. (Metadata, text) ∷ us)
          (sign_before 61 a.0 a.1 h.1 a.2 a.4 ∙ ap (λ us. mark 61 ∷ us) (sign_before 33 b.0 b.1 a.1 b.2 b.4 ∙ ap (λ us. mark 33 ∷ us) (sign_before 123 c.0 c.1 b.1 c.2 c.4 ∙ ap (λ us. mark 123 ∷ us) tail))),
    )

range_spelled : (name : List ℕ) (n : Ty × ℤ) (ns : List (Ty × ℤ)) (ts : List Tok) → SpellsRangeItem name (n ∷ ns) ts → SpellsRange (name, (tt, (tt, (tt, n ∷ ns)))) ts
range_spelled name n ns ts s =
    let inner = (s.1 ++ s.2) ++ s.3 in
    let tail = inner ++ mark 125 ∷ [] in (
      (Metadata, s.0) ∷ [],
      mark 61 ∷ mark 33 ∷ mark 123 ∷ tail,
      (s.0, s.4, s.5, refl),
      (
        mark 61 ∷ [],
        mark 33 ∷ mark 123 ∷ tail,
        refl,
        (
          mark 33 ∷ [],
          mark 123 ∷ tail,
          refl,
          (
            mark 123 ∷ [],
            tail,
            refl,
            (inner, (s.1 ++ s.2, s.3, (s.1, s.2, s.6, s.7, refl), more_listed ns s.3 s.8, refl), refl),
            refl,
          ),
          refl,
        ),
        refl,
      ),
      s.9,
    )

numbers_sound : (x ns : List (Ty × ℤ)) (found name : List ℕ) (ts : List Tok) → some_numbers found x ≡ Some (name, ns) → SpellsRange (found, (tt, (tt, (tt, x)))) ts → SpellsRangeItem name ns ts
numbers_sound [] ns found name ts h s = absurd cc
numbers_sound (n ∷ others) ns found name ts h s =
    let e : ◌≡◌ {A = List ℕ × List (Ty × ℤ)} (found, n ∷ others) (name, ns) = some_is h in
    subst (λ (r : List ℕ × List (Ty × ℤ)). SpellsRangeItem r.0 r.1 ts) e (range_spells found n others ts s)

pub range_sound : (ts : List Tok) (name : List ℕ) (ns : List (Ty × ℤ)) → range_at ts ≡ Some (name, ns) → SpellsRangeItem name ns ts
unfolding range_at
range_sound ts name ns h =
    let b = bound (whole range_reader ts) (λ (x : List ℕ × (Unit {0} × (Unit {0} × (Unit {0} × List (Ty × ℤ))))). some_numbers x.0 x.1.1.1.1) (name, ns) h in
    numbers_sound b.value.1.1.1.1 ns b.value.0 name ts b.rest (all_sound SpellsRange range_reader range_whole ts b.value b.was)

pub range_complete : (name : List ℕ) (ns : List (Ty × ℤ)) (ts : List Tok) → SpellsRangeItem name ns ts → range_at ts ≡ Some (name, ns)
unfolding range_at
range_complete name [] ts s = absurd s
range_complete name (n ∷ ns) ts s =
    ap (λ o. o >>= (λ (x : List ℕ × (Unit {0} × (Unit {0} × (Unit {0} × List (Ty × ℤ))))). some_numbers x.0 x.1.1.1.1)) (all_complete SpellsRange range_reader range_whole ts (name, (tt, (tt, (tt, n ∷ ns)))) (range_spelled name n ns ts s))

pub one_range : (x y : List ℕ) (ns ms : List (Ty × ℤ)) (ts : List Tok) → SpellsRangeItem x ns ts → SpellsRangeItem y ms ts → (x ≡ y) × (ns ≡ ms)
one_range x y ns ms ts s t =
    let e : ◌≡◌ {A = List ℕ × List (Ty × ℤ)} (x, ns) (y, ms) = some_is (sym (range_complete x ns ts s) ∙ range_complete y ms ts t) in
    (ap (λ (r : List ℕ × List (Ty × ℤ)). r.0) e, ap (λ (r : List ℕ × List (Ty × ℤ)). r.1) e)

never_both : {A : Type 0} (o : Option A) (a : A) → o ≡ None → o ≡ Some a → ⊥
never_both o a e f = cc

pub no_range : (ts : List Tok) → range_at ts ≡ None → (name : List ℕ) (ns : List (Ty × ℤ)) → SpellsRangeItem name ns ts → ⊥
no_range ts none name ns s = never_both (range_at ts) (name, ns) none (range_complete name ns ts s)
