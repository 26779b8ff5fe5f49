-- Obligations by their words.
use Rattle.std.proofs.Common.{◌≡◌, ℕ, zero, suc, ◌<◌, Bool, true, false, not, ◌&&◌, ◌||◌, cond, eqb, List, [], ◌∷◌, ◌++◌, map, length, get_or, Ok, Err, refl, sym, ◌∙◌, ap, arith}
use Rattle.std.proofs.lemmas.Bool.{cond-true, and_from, and_parts, or_from, ne_eqb, not_from_false}
use Rattle.std.proofs.lemmas.List.{length-map}
use Rattle.std.proofs.lemmas.List.Elements.{All-head, All-tail}
use Rattle.std.proofs.lemmas.Slice.Eq.{bytes_eq-Decides}
use Rattle.std.specs.Prelude.{codes, slice_get, bytes_eq, nat_eq}
use Rattle.std.specs.List.{All, find}
use Rattle.std.specs.Cmp.Lexicographic.{pointwise}
use Rattle.hk_cnf.specs.Text.{is_blank}
use Rattle.spec_tree.specs.Plain.{Field, Named, Transition, Spec}
use Rattle.hk_case.specs.declared.Obligation.{Obligation}
use Rattle.hk_case.specs.declared.Obligation.TheVariants.{Undefined, Invariant, State, ResultValue, Property}
use Rattle.hk_case.specs.Obligations.{places, obligations_of, IsObligation}
use Rattle.hk_verdict.specs.Report.{named_text, field_name}
use Rattle.hk_cert_text.specs.Certificate.{kind_of, subject_of}
use Rattle.hk_cert_lines.specs.declared.reason.CertReason.TheVariants.{Q1}
use Rattle.hk_cert_lines.specs.Words.{is_word_byte, is_word, is_name, begins_name, is_keyword, is_handler_name, is_kept}
use Rattle.hk_cert_lines.specs.Handlers.{words_for, is_obligation, are_words_for, owed, obligation_in}
use Rattle.hk_cert_law.specs.Names.{HasNames}
use Rattle.hk_cert_law.proofs.Lines.{all_weaker}
use Rattle.hk_cert_law.proofs.Words.{is_black, is_token, Spells, spells_last, spells_put}
use Rattle.hk_cert_law.proofs.Showing.{ends}
use Rattle.hk_cert_law.proofs.Distinct.{AreDistinct, distinct_places}
use Rattle.hk_cert_law.proofs.Each.{Each, each_append, each_map, each_place, each_at, each_both, found}

-- ---- names are words

no_other : (b c : ℕ) → is_word_byte b ≡ true → is_word_byte c ≡ false → eqb b c ≡ false
no_other b c h n = ne_eqb b c (λ e. let f : is_word_byte b ≡ is_word_byte c = ap is_word_byte e in absurd (cc (h, f, n)))

word_black : (b : ℕ) → is_word_byte b ≡ true → is_black b ≡ true
word_black b h =
    not_from_false (is_blank false b || eqb b 10) (or_from (is_blank false b) (eqb b 10) (or_from (eqb b 32) (eqb b 9 || false) (no_other b 32 h refl) (or_from (eqb b 9) false (no_other b 9 h refl) refl)) (no_other b 10 h refl))

pub word_token : (word : List ℕ) → is_word word ≡ true → is_token word ≡ true
word_token [] h = absurd (cc h)
word_token (b ∷ word) h = all_weaker is_word_byte is_black word_black (b ∷ word) h

pub name_word : (name : List ℕ) → is_name name ≡ true → is_word name ≡ true
name_word name h = (and_parts (is_word name) (begins_name name && not (is_keyword name)) h).0

pub handler_token : (name : List ℕ) → is_handler_name name ≡ true → is_token name ≡ true
handler_token name h = word_token name (name_word name (and_parts (is_name name) (not (is_kept name)) h).0)

pub same_bytes : (text : List ℕ) → bytes_eq text text ≡ true
same_bytes text = (bytes_eq-Decides text text).1 refl

-- ---- the names of an obligation

-- the obligation is one of these invariants, fields or properties, and its name is spelled
abbrev pub IsNamed : Spec → Obligation → Type 0
IsNamed s Undefined = Unit {0}
IsNamed s (Invariant i) = (i < length s.invariants) × (is_word (named_text (slice_get s.invariants i)) ≡ true)
IsNamed s (State f) = (f < length s.fields) × (is_name (field_name (slice_get s.fields f)) ≡ true)
IsNamed s ResultValue = Unit {0}
IsNamed s (Property p) = (p < length s.properties) × (is_word (named_text (slice_get s.properties p)) ≡ true)

named_at : (ns : List Named) (k : ℕ) → All (λ n. is_word n.name ≡ true) ns → k < length ns → is_word (named_text (slice_get ns k)) ≡ true
named_at [] k all low = absurd (omega (arith, low))
named_at (n ∷ ns) zero all low = All-head (λ n. is_word n.name ≡ true) n ns all
named_at (n ∷ ns) (suc k) all low = named_at ns k (All-tail (λ n. is_word n.name ≡ true) n ns all) (omega (arith, low))

field_at : (fs : List Field) (k : ℕ) → All (λ f. is_name f.name ≡ true) fs → k < length fs → is_name (field_name (slice_get fs k)) ≡ true
field_at [] k all low = absurd (omega (arith, low))
field_at (f ∷ fs) zero all low = All-head (λ f. is_name f.name ≡ true) f fs all
field_at (f ∷ fs) (suc k) all low = field_at fs k (All-tail (λ f. is_name f.name ≡ true) f fs all) (omega (arith, low))

module _ (s : Spec) (names : HasNames s) where
  owed_named : (none : Bool) → Each (IsNamed s) (cond none [] (ResultValue ∷ []))
  owed_named true = tt
  owed_named false = (tt, tt)

  pub all_named : (t : Transition) → Each (IsNamed s) (obligations_of s t)
  all_named t = (
    tt,
    each_append (IsNamed s) _ _
        (each_append (IsNamed s) _ _
        (each_append (IsNamed s) _ _
        (each_map (IsNamed s) Invariant (places s.invariants) (each_place (λ k. IsNamed s (Invariant k)) (length s.invariants) (λ k low. (low, named_at s.invariants k names.invariants low))))
        (each_map (IsNamed s) State (places s.fields) (each_place (λ k. IsNamed s (State k)) (length s.fields) (λ k low. (low, field_at s.fields k names.fields low)))))
        (owed_named (nat_eq t.result_width 0)))
        (each_map (IsNamed s) Property (places s.properties) (each_place (λ k. IsNamed s (Property k)) (length s.properties) (λ k low. (low, named_at s.properties k names.properties low)))),
  )

-- ---- the words of an obligation

pub obligation_spells : (s : Spec) (o : Obligation) → IsNamed s o → Spells (kind_of o ++ (subject_of s o ++ [])) (words_for s o)
obligation_spells s Undefined h = spells_last (codes "undefined") refl
obligation_spells s (Invariant i) h =
    let name = named_text (slice_get s.invariants i) in
    spells_put (codes "invariant") (name ++ []) (name ∷ []) refl (ends name (word_token name h.1))
obligation_spells s (State f) h =
    let name = field_name (slice_get s.fields f) in
    spells_put (codes "state") (name ++ []) (name ∷ []) refl (ends name (word_token name (name_word name h.1)))
obligation_spells s ResultValue h = spells_last (codes "result") refl
obligation_spells s (Property p) h =
    let name = named_text (slice_get s.properties p) in
    spells_put (codes "property") (name ++ []) (name ∷ []) refl (ends name (word_token name h.1))

pub are_obligation : (s : Spec) (o : Obligation) → IsNamed s o → is_obligation (words_for s o) ≡ true
are_obligation s Undefined h = refl
are_obligation s (Invariant i) h = h.1
are_obligation s (State f) h = h.1
are_obligation s ResultValue h = refl
are_obligation s (Property p) h = h.1

same_words : (words : List (List ℕ)) → pointwise bytes_eq words words ≡ true
same_words [] = refl
same_words (w ∷ words) = and_from (bytes_eq w w) (pointwise bytes_eq words words) (same_bytes w) (same_words words)

pub own_words : (s : Spec) (o : Obligation) → are_words_for s (words_for s o) o ≡ true
own_words s o = same_words (words_for s o)

-- ---- one obligation has the words

equal_words : (words others : List (List ℕ)) → pointwise bytes_eq words others ≡ true → words ≡ others
equal_words [] [] h = refl
equal_words [] (v ∷ others) h = absurd (cc h)
equal_words (w ∷ words) [] h = absurd (cc h)
equal_words (w ∷ words) (v ∷ others) h =
    let parts = and_parts (bytes_eq w v) (pointwise bytes_eq words others) h in
    let first : w ≡ v = (bytes_eq-Decides w v).0 parts.0 in
    let behind : words ≡ others = equal_words words others parts.1 in
    cc

-- the first byte of the first word, and the second word
first_byte : List (List ℕ) → ℕ
first_byte [] = 0
first_byte (w ∷ words) = get_or w 0 0

second : List (List ℕ) → List ℕ
second (w ∷ v ∷ words) = v
second words = []

named_is : (ns : List Named) (k : ℕ) → k < length ns → named_text (slice_get ns k) ≡ get_or (map (λ n. n.name) ns) k []
named_is [] k low = absurd (omega (arith, low))
named_is (n ∷ ns) zero low = refl
named_is (n ∷ ns) (suc k) low = named_is ns k (omega (arith, low))

field_is : (fs : List Field) (k : ℕ) → k < length fs → field_name (slice_get fs k) ≡ get_or (map (λ f. f.name) fs) k []
field_is [] k low = absurd (omega (arith, low))
field_is (f ∷ fs) zero low = refl
field_is (f ∷ fs) (suc k) low = field_is fs k (omega (arith, low))

one_named : (ns : List Named) → AreDistinct (map (λ n. n.name) ns) → (i j : ℕ) → i < length ns → j < length ns → named_text (slice_get ns i) ≡ named_text (slice_get ns j) → i ≡ j
one_named ns own i j low also same =
    let l : length (map (λ n. n.name) ns) ≡ length ns = length-map ns (λ n. n.name) in
    own i j (omega (arith, low, l)) (omega (arith, also, l)) (sym (named_is ns i low) ∙ same ∙ named_is ns j also)

one_field : (fs : List Field) → AreDistinct (map (λ f. f.name) fs) → (i j : ℕ) → i < length fs → j < length fs → field_name (slice_get fs i) ≡ field_name (slice_get fs j) → i ≡ j
one_field fs own i j low also same =
    let l : length (map (λ f. f.name) fs) ≡ length fs = length-map fs (λ f. f.name) in
    own i j (omega (arith, low, l)) (omega (arith, also, l)) (sym (field_is fs i low) ∙ same ∙ field_is fs j also)

module _ (s : Spec) (names : HasNames s) where
  one_obligation : (o y : Obligation) → IsNamed s o → IsNamed s y → words_for s o ≡ words_for s y → y ≡ o
  unfolding first_byte second
  one_obligation Undefined Undefined h k e = refl
  one_obligation (Invariant i) (Invariant j) h k e = ap Invariant (one_named s.invariants (distinct_places _ names.own_invariants) j i k.0 h.0 (sym (ap second e)))
  one_obligation (State i) (State j) h k e = ap State (one_field s.fields (distinct_places _ names.own_fields) j i k.0 h.0 (sym (ap second e)))
  one_obligation ResultValue ResultValue h k e = refl
  one_obligation (Property i) (Property j) h k e = ap Property (one_named s.properties (distinct_places _ names.own_properties) j i k.0 h.0 (sym (ap second e)))
  one_obligation o y h k e = absurd (omega (arith, ap first_byte e))

  -- an obligation is found by its words
  pub obligation_found : (t : Transition) (o : Obligation) → IsObligation s t o → obligation_in s (obligations_of s t) (words_for s o) ≡ Ok o
  obligation_found t o place =
      let named : IsNamed s o = each_at (IsNamed s) (obligations_of s t) place.0 o (all_named s names t) place.1 in
      let test = are_words_for s (words_for s o) in
      let alone = each_both (IsNamed s) (λ y. test y ≡ true → y ≡ o) (λ y k same. one_obligation o y named k (equal_words (words_for s o) (words_for s y) same)) (obligations_of s t) (all_named s names t) in
      cond-true (is_obligation (words_for s o)) (owed (find test (obligations_of s t))) (Err Q1) (are_obligation s o named)
      ∙ ap owed (found test o (obligations_of s t) place.0 alone place.1 (own_words s o))

  pub is_named : (t : Transition) (o : Obligation) → IsObligation s t o → IsNamed s o
  is_named t o place = each_at (IsNamed s) (obligations_of s t) place.0 o (all_named s names t) place.1
