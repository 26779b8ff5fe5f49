-- Parameters are read exactly where they are spelled, before a `)`.
use Rattle.std.proofs.Common.{◌≡◌, ℕ, zero, suc, ◌+◌, ◌<◌, ◌≤◌, Bool, true, false, Option, Some, None, List, [], ◌∷◌, ◌++◌, length, refl, sym, ◌∙◌, ap, subst, inl, inr, append_assoc, length-append, arith}
use Rattle.std.specs.Prelude.{if◌then◌else◌, decimal}
use Rattle.ir_ast.specs.Plain.{Ty}
use Rattle.ir_lex.specs.Tok.{Tok, mark}
use Rattle.ir_lex.specs.TypeSpelling.{SpellsType}
use Rattle.ir_lex.specs.Items.{number_after, IsParameterName, SpellsMoreParameters, SpellsParameters}
use Rattle.ir_lex.specs.declared.token.TokenKind.TheVariants.{Word, Number, Quoted, Local, Global, Metadata, Attribute, Mark}
use Rattle.ir_part.specs.Reader.{◌>>=◌, Takes, IsSound}
use Rattle.ir_part.specs.Fronts.{after_mark, is_this_mark}
use Rattle.ir_part.specs.Many.{is_closed, with_first}
use Rattle.ir_part.specs.Types.{type_at}
use Rattle.ir_part.proofs.Fronts.{bound, some_is, if_some, after_mark_is}
use Rattle.ir_part.proofs.TypeLaws.{type_sound, type_complete}
use Rattle.ir_top.specs.Combine.{both, Both, sign, IsSign, IsWhole}
use Rattle.ir_top.specs.Parameters.{name_at, parameter_at, more_from, some_parameters, parameters_at}
use Rattle.ir_top.proofs.ParameterSteps.{stop_turn, item_turn}
use Rattle.ir_top.proofs.InitLaws.{no_mark}
use Rattle.ir_top.proofs.Combining.{both_sound, exact_sign}

-- ---- names

pub record Named (next : ℕ) (name : List ℕ) (ts rest : List Tok) : Type 0 where
  pub front : List Tok
  pub spelled : IsParameterName next name front
  pub parts : ts ≡ front ++ rest

unnamed : (next : ℕ) (ts : List Tok) → Named next (decimal next) ts ts
unnamed next ts = record { front = []; spelled = inr (refl, refl); parts = refl }

name_sound : (next : ℕ) (ts : List Tok) → Named next (name_at next ts).0 ts (name_at next ts).1
name_sound next [] = unnamed next []
name_sound next ((Local, text) ∷ ts) = record { front = (Local, text) ∷ []; spelled = inl (text, refl, refl); parts = refl }
name_sound next ((Word, text) ∷ ts) = unnamed next ((Word, text) ∷ ts)
name_sound next ((Number, text) ∷ ts) = unnamed next ((Number, text) ∷ ts)
name_sound next ((Quoted, text) ∷ ts) = unnamed next ((Quoted, text) ∷ ts)
name_sound next ((Global, text) ∷ ts) = unnamed next ((Global, text) ∷ ts)
name_sound next ((Metadata, text) ∷ ts) = unnamed next ((Metadata, text) ∷ ts)
name_sound next ((Attribute, text) ∷ ts) = unnamed next ((Attribute, text) ∷ ts)
name_sound next ((Mark, text) ∷ ts) = unnamed next ((Mark, text) ∷ ts)

-- a mark is at the front
abbrev pub Marked : List Tok → Type 0
Marked ts = (byte : ℕ) × (others : List Tok) × (ts ≡ mark byte ∷ others)

name_complete : (next : ℕ) (name : List ℕ) (front rest : List Tok) → IsParameterName next name front → Marked rest → name_at next (front ++ rest) ≡ (name, rest)
name_complete next name front rest (inl s) m = ap (λ us. name_at next (us ++ rest)) s.2 ∙ ap (λ x. (x, rest)) s.1
name_complete next name front rest (inr s) m =
    let plain : name_at next rest ≡ (decimal next, rest) = ap (name_at next) m.2 ∙ ap (λ us. (decimal next, us)) (sym m.2) in
    ap (λ us. name_at next (us ++ rest)) s.1 ∙ plain ∙ ap (λ x. (x, rest)) (sym s.0)

-- ---- one parameter

pub record Given (next : ℕ) (p : Ty × List ℕ) (ts rest : List Tok) : Type 0 where
  pub over : List Tok
  pub name : List Tok
  pub typed : SpellsType p.0 over
  pub spelled : IsParameterName next p.1 name
  pub parts : ts ≡ (over ++ name) ++ rest

parameter_sound : (next : ℕ) (ts : List Tok) (p : Ty × List ℕ) (rest : List Tok) → parameter_at next ts ≡ Some (p, rest) → Given next p ts rest
parameter_sound next ts p rest h =
    let t = bound (type_at ts) (λ (over : Ty × List Tok). Some ((over.0, (name_at next over.1).0), (name_at next over.1).1)) (p, rest) h in
    let e : ((t.value.0, (name_at next t.value.1).0), (name_at next t.value.1).1) ≡ (p, rest) = some_is t.rest in
    let takes = type_sound ts t.value.0 t.value.1 t.was in
    let named = name_sound next t.value.1 in
    subst (λ (r : (Ty × List ℕ) × List Tok). Given next r.0 ts r.1) e (record {
      over = takes.front;
      name = named.front;
      typed = takes.spelled;
      spelled = named.spelled;
      parts = takes.parts ∙ ap (λ us. takes.front ++ us) named.parts ∙ sym (append_assoc takes.front named.front (name_at next t.value.1).1);
    })

parameter_complete : (next : ℕ) (p : Ty × List ℕ) (over name rest : List Tok) → SpellsType p.0 over → IsParameterName next p.1 name → Marked rest → parameter_at next ((over ++ name) ++ rest) ≡ Some (p, rest)
parameter_complete next p over name rest typed spelled m =
    ap (parameter_at next) (append_assoc over name rest)
    ∙ ap (λ o. o >>= (λ (t : Ty × List Tok). Some ((t.0, (name_at next t.1).0), (name_at next t.1).1))) (type_complete p.0 over (name ++ rest) typed)
    ∙ ap (λ (r : List ℕ × List Tok). Some ((p.0, r.0), r.1)) (name_complete next p.1 name rest spelled m)

-- ---- further parameters

pub record More (next : ℕ) (ps : List (Ty × List ℕ)) (ts rest : List Tok) : Type 0 where
  pub front : List Tok
  pub spelled : SpellsMoreParameters next ps front
  pub parts : ts ≡ front ++ rest

first_is : (x : Ty × List ℕ) (read : Option (List (Ty × List ℕ) × List Tok)) (xs : List (Ty × List ℕ)) (rest : List Tok) → with_first x read ≡ Some (xs, rest)
    → (others : List (Ty × List ℕ)) × (read ≡ Some (others, rest)) × (xs ≡ x ∷ others)
first_is x None xs rest h = cc
first_is x (Some read) xs rest h =
    let e : (x ∷ read.0, read.1) ≡ (xs, rest) = some_is h in
    (read.0, ap (λ r. Some (read.0, r)) (ap (λ p. p.1) e), sym (ap (λ p. p.0) e))

more_sound : (n next : ℕ) (ts : List Tok) (ps : List (Ty × List ℕ)) (rest : List Tok) → more_from n next ts ≡ Some (ps, rest) → More next ps ts rest
unfolding more_from
more_sound zero next ts ps rest h = cc
more_sound (suc n) next ts ps rest h =
    elim (if_some (is_closed 41 ts) (Some ([], ts)) (after_mark 44 ts >>= (λ us. parameter_at next us >>= (λ p. with_first p.0 (more_from n (number_after next p.0.1) p.1)))) (ps, rest) h) [
      | inl c ↦ (let e : ([], ts) ≡ (ps, rest) = some_is c.1 in
          record { front = []; spelled = subst (λ qs. SpellsMoreParameters next qs []) (ap (λ q. q.0) e) refl; parts = ap (λ q. q.1) e })
      | inr c ↦ (let m = bound (after_mark 44 ts) (λ (us : List Tok). parameter_at next us >>= (λ (p : (Ty × List ℕ) × List Tok). with_first p.0 (more_from n (number_after next p.0.1) p.1))) (ps, rest) c.1 in
          let p = bound (parameter_at next m.value) (λ (p : (Ty × List ℕ) × List Tok). with_first p.0 (more_from n (number_after next p.0.1) p.1)) (ps, rest) m.rest in
          let f = first_is p.value.0 (more_from n (number_after next p.value.0.1) p.value.1) ps rest p.rest in
          let one = parameter_sound next m.value p.value.0 p.value.1 p.was in
          let others = more_sound n (number_after next p.value.0.1) p.value.1 f.0 rest f.1 in
          let front = mark 44 ∷ ((one.over ++ one.name) ++ others.front) in
          record {
            front = front;
            spelled = subst (λ qs. SpellsMoreParameters next qs front) (sym f.2) (one.over, one.name, others.front, one.typed, one.spelled, others.spelled, refl);
            parts = after_mark_is 44 ts m.value m.was
                ∙ ap (λ us. mark 44 ∷ us) (one.parts ∙ ap (λ us. (one.over ++ one.name) ++ us) others.parts ∙ sym (append_assoc (one.over ++ one.name) others.front rest));
          })
    ]

-- a comma, or what stands behind all parameters
begins : (next : ℕ) (ps : List (Ty × List ℕ)) (front rest : List Tok) → SpellsMoreParameters next ps front → Marked rest → Marked (front ++ rest)
begins next [] front rest s m = subst Marked (sym (ap (λ us. us ++ rest) s)) m
begins next (p ∷ ps) front rest s m = (44, ((s.0 ++ s.1) ++ s.2) ++ rest, ap (λ us. us ++ rest) s.6)

more_length : (next : ℕ) (ps : List (Ty × List ℕ)) (ts : List Tok) → SpellsMoreParameters next ps ts → length ps ≤ length ts
more_length next [] ts s = omega arith
more_length next (p ∷ ps) ts s =
    let others = more_length (number_after next p.1) ps s.2 s.5 in
    let e : length ts ≡ suc (length ((s.0 ++ s.1) ++ s.2)) = ap length s.6 in
    let f : length ((s.0 ++ s.1) ++ s.2) ≡ length (s.0 ++ s.1) + length s.2 = length-append (s.0 ++ s.1) s.2 in
    omega (arith, others, e, f)

more_complete : (n next : ℕ) (ps : List (Ty × List ℕ)) (front rest : List Tok) → length ps < n → SpellsMoreParameters next ps front → Marked rest → is_closed 41 rest ≡ true → more_from n next (front ++ rest) ≡ Some (ps, rest)
more_complete zero next ps front rest few s m is = absurd (omega (arith, few))
more_complete (suc n) next [] front rest few s m is = ap (λ us. more_from (suc n) next (us ++ rest)) s ∙ stop_turn n next rest is
more_complete (suc n) next (p ∷ ps) front rest few s m is =
    let own = s.0 ++ s.1 in
    let behind = s.2 ++ rest in
    let shape : front ++ rest ≡ mark 44 ∷ (own ++ behind) = ap (λ us. us ++ rest) s.6 ∙ ap (λ us. mark 44 ∷ us) (append_assoc own s.2 rest) in
    let fewer : length ps < n = omega (arith, few) in
    let reads = parameter_complete next p s.0 s.1 behind s.3 s.4 (begins (number_after next p.1) ps s.2 rest s.5 m) in
    ap (more_from (suc n) next) shape
    ∙ item_turn n next (mark 44 ∷ (own ++ behind)) (own ++ behind) p behind refl refl reads
    ∙ ap (with_first p) (more_complete n (number_after next p.1) ps s.2 rest fewer s.5 m is)

-- ---- all parameters

open_by : (b : Bool) (ts : List Tok) → ◌≡◌ {A = Option (List Tok)} (if b then Some ts else None) None → b ≡ false
open_by true ts h = cc
open_by false ts h = refl

open_is : (byte : ℕ) (ts : List Tok) → after_mark byte ts ≡ None → is_closed byte ts ≡ false
open_is byte [] h = refl
open_is byte (t ∷ ts) h = open_by (is_this_mark byte t) ts h

some_sound : (ts : List Tok) (ps : List (Ty × List ℕ)) (rest : List Tok) → some_parameters ts ≡ Some (ps, rest) → Takes SpellsParameters ts ps rest
some_sound ts ps rest h =
    let p = bound (parameter_at 0 ts) (λ (p : (Ty × List ℕ) × List Tok). with_first p.0 (more_from (length p.1 + 1) (number_after 0 p.0.1) p.1)) (ps, rest) h in
    let f = first_is p.value.0 (more_from (length p.value.1 + 1) (number_after 0 p.value.0.1) p.value.1) ps rest p.rest in
    let one = parameter_sound 0 ts p.value.0 p.value.1 p.was in
    let others = more_sound (length p.value.1 + 1) (number_after 0 p.value.0.1) p.value.1 f.0 rest f.1 in
    let front = (one.over ++ one.name) ++ others.front in
    record {
      front = front;
      spelled = subst (λ qs. SpellsParameters qs front) (sym f.2) (one.over, one.name, others.front, one.typed, one.spelled, others.spelled, refl);
      parts = one.parts ∙ ap (λ us. (one.over ++ one.name) ++ us) others.parts ∙ sym (append_assoc (one.over ++ one.name) others.front rest);
    }

parameters_sound : IsSound SpellsParameters parameters_at
parameters_sound ts ps rest h =
    elim (if_some (is_closed 41 ts) (Some ([], ts)) (some_parameters ts) (ps, rest) h) [
      | inl c ↦ (let e : ([], ts) ≡ (ps, rest) = some_is c.1 in
          record { front = []; spelled = subst (λ qs. SpellsParameters qs []) (ap (λ q. q.0) e) refl; parts = ap (λ q. q.1) e })
      | inr c ↦ some_sound ts ps rest c.1
    ]

parameters_complete : (ps : List (Ty × List ℕ)) (front rest : List Tok) → SpellsParameters ps front → Marked rest → is_closed 41 rest ≡ true → parameters_at (front ++ rest) ≡ Some (ps, rest)
parameters_complete [] front rest s m is = ap (λ us. parameters_at (us ++ rest)) s ∙ rw is refl
parameters_complete (p ∷ ps) front rest s m is =
    let own = s.0 ++ s.1 in
    let behind = s.2 ++ rest in
    let shape : front ++ rest ≡ own ++ behind = ap (λ us. us ++ rest) s.6 ∙ append_assoc own s.2 rest in
    let far : own ++ behind ≡ s.0 ++ (s.1 ++ behind) = append_assoc s.0 s.1 behind in
    let other : is_closed 41 (own ++ behind) ≡ false = ap (is_closed 41) far ∙ open_is 41 (s.0 ++ (s.1 ++ behind)) (no_mark 41 refl refl refl p.0 s.0 (s.1 ++ behind) s.3.0) in
    let reads = parameter_complete 0 p s.0 s.1 behind s.3 s.4 (begins (number_after 0 p.1) ps s.2 rest s.5 m) in
    let short = more_length (number_after 0 p.1) ps s.2 s.5 in
    let long : length behind ≡ length s.2 + length rest = length-append s.2 rest in
    let others = more_complete (length behind + 1) (number_after 0 p.1) ps s.2 rest (omega (arith, short, long)) s.5 m is in
    ap parameters_at shape
    ∙ ap (λ (b : Bool). if b then Some ([], own ++ behind) else some_parameters (own ++ behind)) other
    ∙ ap (λ o. o >>= (λ (q : (Ty × List ℕ) × List Tok). with_first q.0 (more_from (length q.1 + 1) (number_after 0 q.0.1) q.1))) reads
    ∙ ap (with_first p) others

-- `) {` behind the parameters
abbrev pub SpellsTail : List (Ty × List ℕ) × (Unit {0} × Unit {0}) → List Tok → Type 0
SpellsTail = Both SpellsParameters (Both (IsSign 41) (IsSign 123))

close_is : (x : Unit {0} × Unit {0}) (ts : List Tok) → Both (IsSign 41) (IsSign 123) x ts → ts ≡ mark 41 ∷ mark 123 ∷ []
close_is x ts h = h.4 ∙ ap (λ us. us ++ h.1) h.2 ∙ ap (λ us. mark 41 ∷ us) h.3

tail_by : (ts : List Tok) (ps : List (Ty × List ℕ)) (rest : List Tok) → parameters_at ts ≡ Some (ps, rest) → rest ≡ mark 41 ∷ mark 123 ∷ [] → both parameters_at (both (sign 41) (sign 123)) ts ≡ Some ((ps, (tt, tt)), [])
tail_by ts ps rest h is =
    ap (λ o. o >>= (λ (a : List (Ty × List ℕ) × List Tok). both (sign 41) (sign 123) a.1 >>= (λ (b : (Unit {0} × Unit {0}) × List Tok). Some ((a.0, b.0), b.1)))) (h ∙ ap (λ us. Some (ps, us)) is)

pub tail_whole : IsWhole SpellsTail (both parameters_at (both (sign 41) (sign 123)))
tail_whole = record {
  sound = both_sound SpellsParameters (Both (IsSign 41) (IsSign 123)) parameters_at (both (sign 41) (sign 123)) parameters_sound
      (both_sound (IsSign 41) (IsSign 123) (sign 41) (sign 123) (exact_sign 41 refl).sound (exact_sign 123 refl).sound);
  complete = λ x front h.
      let is = close_is x.1 h.1 h.3 in
      ap (both parameters_at (both (sign 41) (sign 123))) h.4
      ∙ tail_by (h.0 ++ h.1) x.0 h.1 (parameters_complete x.0 h.0 h.1 h.2 (41, mark 123 ∷ [], is) (ap (is_closed 41) is)) is;
}
