-- The intrinsic of a name that is a word and a width.
use Rattle.std.proofs.Common.{◌≡◌, ◌⊎◌, inl, inr, ℕ, zero, suc, ◌+◌, ◌-◌, ◌*◌, ◌/◌, ◌%◌, ◌<◌, ◌≤◌, Bool, true, false, cond, ◌&&◌, if◌then◌else◌, nat_le, nat_lt, Option, Some, None, option_map, List, [], ◌∷◌, ◌++◌, map, refl, sym, ◌∙◌, ap, arith, append_assoc, append-nil, eqb}
use Rattle.std.specs.Cmp.Lexicographic.{pointwise}
use Rattle.std.specs.Prelude.{bytes_eq, find, unwrap_or, codes, flat_map}
use Rattle.std.specs.List.{range_with_len}
use Rattle.std.proofs.lemmas.Bool.{cases_Bool, cases_lt, false≢true, lt-ltb, le-ltb, cond-true, cond-false, leb-true, le-leb}
use Rattle.std.proofs.lemmas.Slice.Eq.{bytes_eq-Decides, slice_eq-Decides}
use Rattle.std.proofs.lemmas.Bool.Decides.{Decides-eqb}
use Rattle.ir_type.specs.Names.{entry_of}
use Rattle.ir_typing.specs.Intrinsics.{Intrinsic, digits, at_widths, assuming, overflow_rows, plain_rows, intrinsic_of}
use Rattle.std.specs.Option.{option_or}
use Rattle.std.proofs.lemmas.List.Folds.{find-append}
use Rattle.ir_typing.specs.declared.intrinsics.Listed.{Listed}
use Rattle.ir_typing.specs.Listed.{width_of, view_listed}

cut_front : (p s t : List ℕ) → p ++ s ≡ p ++ t → s ≡ t
cut_front [] s t e = e
cut_front (c ∷ p) s t e = cut_front p s t cc

not_same : (x y : List ℕ) → (x ≡ y → ⊥) → bytes_eq x y ≡ false
not_same x y differ = pick (cases_Bool (bytes_eq x y))
  where
    pick : (bytes_eq x y ≡ true) ⊎ (bytes_eq x y ≡ false) → bytes_eq x y ≡ false
    pick (inl t) = absurd (differ ((bytes_eq-Decides x y).0 t))
    pick (inr f) = f

-- a first entry with another name
passed : {E : Type 0} (x y : List ℕ) (e : E) (entries : List (List ℕ × E)) → bytes_eq x y ≡ false → entry_of x ((y, e) ∷ entries) ≡ entry_of x entries
passed {E} x y e entries f = ap (λ b. option_map {T = List ℕ × E} (λ g. g.1) (cond b (Some (y, e)) (find (λ g. bytes_eq x g.0) entries))) f

taken : {E : Type 0} (x y : List ℕ) (e : E) (entries : List (List ℕ × E)) → bytes_eq x y ≡ true → entry_of x ((y, e) ∷ entries) ≡ Some e
taken {E} x y e entries f = ap (λ b. option_map {T = List ℕ × E} (λ g. g.1) (cond b (Some (y, e)) (find (λ g. bytes_eq x g.0) entries))) f

module _ (p : List ℕ) (g : ℕ → Intrinsic) where
  -- the name does not begin with the word
  none_at : (name : List ℕ) (ws : List ℕ) → ((rest : List ℕ) → name ≡ p ++ rest → ⊥) → entry_of name (map (λ w. (p ++ digits w, g w)) ws) ≡ None
  none_at name [] other = refl
  none_at name (w ∷ ws) other = passed name (p ++ digits w) (g w) (map (λ w. (p ++ digits w, g w)) ws) (not_same name (p ++ digits w) (other (digits w))) ∙ none_at name ws other

  -- it does, and what is behind it is the width, where it is one
  at_range : (s : List ℕ) (o : Option ℕ) (n a : ℕ) → ((w : ℕ) → a ≤ w → w < a + n → s ≡ digits w → o ≡ Some w)
      → ((w : ℕ) → o ≡ Some w → (a ≤ w) × (w < a + n) × (s ≡ digits w))
      → entry_of (p ++ s) (map (λ w. (p ++ digits w, g w)) (range_with_len a n)) ≡ option_map g o
  at_range s None zero a all only = refl
  at_range s (Some w) zero a all only = let f = only w refl in absurd (omega (arith, f.0, f.1))
  at_range s o (suc n) a all only = pick (cases_Bool (bytes_eq (p ++ s) (p ++ digits a))) (λ ge lt. at_range s o n (a + 1) ge lt)
    where
      pick : (bytes_eq (p ++ s) (p ++ digits a) ≡ true) ⊎ (bytes_eq (p ++ s) (p ++ digits a) ≡ false)
          → (((w : ℕ) → a + 1 ≤ w → w < a + 1 + n → s ≡ digits w → o ≡ Some w)
          → ((w : ℕ) → o ≡ Some w → (a + 1 ≤ w) × (w < a + 1 + n) × (s ≡ digits w))
          → entry_of (p ++ s) (map (λ w. (p ++ digits w, g w)) (range_with_len (a + 1) n)) ≡ option_map g o)
          → entry_of (p ++ s) (map (λ w. (p ++ digits w, g w)) (range_with_len a (suc n))) ≡ option_map g o
      pick (inl t) rest =
          let same : s ≡ digits a = cut_front p s (digits a) ((bytes_eq-Decides (p ++ s) (p ++ digits a)).0 t) in
          taken (p ++ s) (p ++ digits a) (g a) (map (λ w. (p ++ digits w, g w)) (range_with_len (a + 1) n)) t
          ∙ sym (ap (option_map g) (all a (omega arith) (omega arith) same))
      pick (inr f) rest =
          passed (p ++ s) (p ++ digits a) (g a) (map (λ w. (p ++ digits w, g w)) (range_with_len (a + 1) n)) f
          ∙ rest (λ w l m e. all w (omega (arith, l)) (omega (arith, m)) e) later
        where
          later : (w : ℕ) → o ≡ Some w → (a + 1 ≤ w) × (w < a + 1 + n) × (s ≡ digits w)
          later w e =
              let h = only w e in
              let ne : w ≡ a → ⊥ = λ is. false≢true (sym f ∙ (bytes_eq-Decides (p ++ s) (p ++ digits a)).1 (ap (λ x. p ++ x) (h.2 ∙ ap digits is))) in
              (omega (arith, h.0, ne), omega (arith, h.1), h.2)

both : (a b : Bool) → (a && b) ≡ true → (a ≡ true) × (b ≡ true)
both true b e = (refl, e)
both false b e = absurd (false≢true e)

if_some : (b : Bool) (x w : ℕ) → (if b then Some x else None) ≡ Some w → (b ≡ true) × (x ≡ w)
if_some true x w e = (refl, ap (λ o. unwrap_or o w) e)
if_some false x w e = absurd cc

one_digit : (w : ℕ) → w < 10 → digits w ≡ (48 + w) ∷ []
one_digit w l = cond-true (nat_lt w 10) ((48 + w) ∷ []) ((48 + w / 10) ∷ (48 + w % 10) ∷ []) (lt-ltb w 10 l)

two_digits : (w : ℕ) → 10 ≤ w → digits w ≡ (48 + w / 10) ∷ (48 + w % 10) ∷ []
two_digits w l = cond-false (nat_lt w 10) ((48 + w) ∷ []) ((48 + w / 10) ∷ (48 + w % 10) ∷ []) (le-ltb w 10 l)

yes_le : (a b : ℕ) → a ≤ b → nat_le a b ≡ true
yes_le a b l = le-leb a b l

all_true : (a b c d : Bool) → a ≡ true → b ≡ true → c ≡ true → d ≡ true → (a && b && c && d) ≡ true
all_true a b c d e f g h = rw (e, f, g, h) refl

two_true : (a b : Bool) → a ≡ true → b ≡ true → (a && b) ≡ true
two_true a b e f = rw (e, f) refl

-- a width is read as it is written
pub reads_width : (s : List ℕ) (w : ℕ) → 1 ≤ w → w < 1 + 64 → s ≡ digits w → width_of s ≡ Some w
reads_width s w l m e = pick (cases_lt w 10)
  where
    pick : (w < 10) ⊎ (10 ≤ w) → width_of s ≡ Some w
    pick (inl few) =
        let tests = two_true (nat_le 49 (48 + w)) (nat_le (48 + w) 57) (yes_le 49 (48 + w) (omega arith)) (yes_le (48 + w) 57 (omega arith)) in
        let value : 48 + w - 48 ≡ w = omega arith in
        ap width_of (e ∙ one_digit w few)
        ∙ cond-true (nat_le 49 (48 + w) && nat_le (48 + w) 57) (Some (48 + w - 48)) None tests
        ∙ ap Some value
    pick (inr many) =
        let tests = all_true (nat_le 49 (48 + w / 10)) (nat_le (48 + w / 10) 54) (nat_le 48 (48 + w % 10)) (nat_le (48 + w % 10) 57)
        (yes_le 49 (48 + w / 10) (omega arith)) (yes_le (48 + w / 10) 54 (omega arith)) (yes_le 48 (48 + w % 10) (omega arith)) (yes_le (48 + w % 10) 57 (omega arith)) in
        let value : 10 * (48 + w / 10 - 48) + (48 + w % 10 - 48) ≡ w = omega arith in
        let fits = yes_le (10 * (48 + w / 10 - 48) + (48 + w % 10 - 48)) 64 (omega arith) in
        ap width_of (e ∙ two_digits w many)
        ∙ cond-true (nat_le 49 (48 + w / 10) && nat_le (48 + w / 10) 54 && nat_le 48 (48 + w % 10) && nat_le (48 + w % 10) 57)
        (if nat_le (10 * (48 + w / 10 - 48) + (48 + w % 10 - 48)) 64 then Some (10 * (48 + w / 10 - 48) + (48 + w % 10 - 48)) else None) None tests
        ∙ cond-true (nat_le (10 * (48 + w / 10 - 48) + (48 + w % 10 - 48)) 64) (Some (10 * (48 + w / 10 - 48) + (48 + w % 10 - 48))) None fits
        ∙ ap Some value

-- what is read as a width is written so
pub written_width : (s : List ℕ) (w : ℕ) → width_of s ≡ Some w → (1 ≤ w) × (w < 1 + 64) × (s ≡ digits w)
written_width [] w e = absurd cc
written_width (d ∷ []) w e =
    let h = if_some (nat_le 49 d && nat_le d 57) (d - 48) w e in
    let t = both (nat_le 49 d) (nat_le d 57) h.0 in
    let low : 49 ≤ d = leb-true 49 d t.0 in
    let high : d ≤ 57 = leb-true d 57 t.1 in
    let is : d - 48 ≡ w = h.1 in
    let few : w < 10 = omega arith in
    let value : d ≡ 48 + w = omega arith in
    (omega arith, omega arith, ap (λ x. x ∷ []) value ∙ sym (one_digit w few))
written_width (t ∷ d ∷ []) w e =
    let h = two_some (nat_le 49 t && nat_le t 54 && nat_le 48 d && nat_le d 57) (nat_le (10 * (t - 48) + (d - 48)) 64) (10 * (t - 48) + (d - 48)) w e in
    let a = both (nat_le 49 t && nat_le t 54 && nat_le 48 d) (nat_le d 57) h.0 in
    let b = both (nat_le 49 t && nat_le t 54) (nat_le 48 d) a.0 in
    let c = both (nat_le 49 t) (nat_le t 54) b.0 in
    let p : 49 ≤ t = leb-true 49 t c.0 in
    let q : t ≤ 54 = leb-true t 54 c.1 in
    let r : 48 ≤ d = leb-true 48 d b.1 in
    let u : d ≤ 57 = leb-true d 57 a.1 in
    let v : 10 * (t - 48) + (d - 48) ≤ 64 = leb-true (10 * (t - 48) + (d - 48)) 64 h.1 in
    let is : 10 * (t - 48) + (d - 48) ≡ w = h.2 in
    let many : 10 ≤ w = omega arith in
    let tens : t ≡ 48 + w / 10 = omega arith in
    let ones : d ≡ 48 + w % 10 = omega arith in
    (omega arith, omega arith, ap (λ x. x ∷ d ∷ []) tens ∙ ap (λ x. (48 + w / 10) ∷ x ∷ []) ones ∙ sym (two_digits w many))
  where
    two_some : (b c : Bool) (x w : ℕ) → (if b then (if c then Some x else None) else None) ≡ Some w → (b ≡ true) × (c ≡ true) × (x ≡ w)
    two_some true c x w e = let h = if_some c x w e in (refl, h.0, h.1)
    two_some false c x w e = absurd cc
written_width (t ∷ d ∷ z ∷ s) w e = absurd cc

-- the entry of a word and what is behind it
pub at_word : (p : List ℕ) (g : ℕ → Intrinsic) (s : List ℕ) → entry_of (p ++ s) (at_widths (p, g)) ≡ option_map g (width_of s)
unfolding at_widths
at_word p g s = at_range p g s (width_of s) 64 1 (λ w l m e. reads_width s w l m e) (λ w e. written_width s w e)

pub at_no_word : (p : List ℕ) (g : ℕ → Intrinsic) (name : List ℕ) → ((rest : List ℕ) → name ≡ p ++ rest → ⊥) → entry_of name (at_widths (p, g)) ≡ None
unfolding at_widths
at_no_word p g name other = none_at p g name (range_with_len 1 64) other

or_none : {X : Type 0} (o : Option X) → option_or o None ≡ o
or_none None = refl
or_none (Some x) = refl

pub entry_append : {E : Type 0} (n : List ℕ) (es fs : List (List ℕ × E)) → entry_of n (es ++ fs) ≡ option_or (entry_of n es) (entry_of n fs)
entry_append {E} n es fs = ap (option_map {T = List ℕ × E} (λ e. e.1)) (find-append (λ e. bytes_eq n e.0) es fs) ∙ pick (find (λ e. bytes_eq n e.0) es) (find (λ e. bytes_eq n e.0) fs)
  where
    pick : (o p : Option (List ℕ × E)) → option_map {T = List ℕ × E} (λ e. e.1) (option_or o p) ≡ option_or (option_map {T = List ℕ × E} (λ e. e.1) o) (option_map {T = List ℕ × E} (λ e. e.1) p)
    pick None p = refl
    pick (Some e) p = refl

-- one of two listings
pub or_listed : (n : List ℕ) (es fs : List (List ℕ × Intrinsic)) (a b o : Option Listed) → option_map view_listed a ≡ entry_of n es → option_map view_listed b ≡ entry_of n fs
    → o ≡ option_or a b → option_map view_listed o ≡ entry_of n (es ++ fs)
or_listed n es fs a b o first second is = ap (option_map view_listed) is ∙ pick a b ∙ ap (λ x. option_or x (option_map view_listed b)) first ∙ ap (option_or (entry_of n es)) second ∙ sym (entry_append n es fs)
  where
    pick : (a b : Option Listed) → option_map view_listed (option_or a b) ≡ option_or (option_map view_listed a) (option_map view_listed b)
    pick None b = refl
    pick (Some l) b = refl

pub regroup : {A : Type 0} (a b c d e f : List A) → ((((a ++ b) ++ c) ++ d) ++ e) ++ f ≡ a ++ (b ++ (c ++ (d ++ (e ++ (f ++ [])))))
regroup a b c d e f = simp (append_assoc, append-nil)

-- one of six listings
pub or_six : (n : List ℕ) (xs bs cs ds es fs : List (List ℕ × Intrinsic)) (a b c d e f ab abc abcd abcde o : Option Listed)
    → option_map view_listed a ≡ entry_of n xs → option_map view_listed b ≡ entry_of n bs → option_map view_listed c ≡ entry_of n cs
    → option_map view_listed d ≡ entry_of n ds → option_map view_listed e ≡ entry_of n es → option_map view_listed f ≡ entry_of n fs
    → ab ≡ option_or a b → abc ≡ option_or ab c → abcd ≡ option_or abc d → abcde ≡ option_or abcd e → o ≡ option_or abcde f
    → option_map view_listed o ≡ entry_of n (xs ++ (bs ++ (cs ++ (ds ++ (es ++ (fs ++ []))))))
or_six n xs bs cs ds es fs a b c d e f ab abc abcd abcde o ha hb hc hd he hf h1 h2 h3 h4 h5 =
    or_listed n ((((xs ++ bs) ++ cs) ++ ds) ++ es) fs abcde f o
    (or_listed n (((xs ++ bs) ++ cs) ++ ds) es abcd e abcde
    (or_listed n ((xs ++ bs) ++ cs) ds abc d abcd
    (or_listed n (xs ++ bs) cs ab c abc (or_listed n xs bs a b ab ha hb h1) hc h2) hd h3) he h4) hf h5
    ∙ ap (λ l. entry_of n l) (regroup xs bs cs ds es fs)

abbrev pub others : List (List ℕ × Intrinsic)
others = flat_map at_widths overflow_rows ++ flat_map at_widths plain_rows

pub is_assume : (n : List ℕ) → bytes_eq n (codes "llvm.assume") ≡ true → intrinsic_of n ≡ Some assuming
unfolding intrinsic_of
is_assume n e = taken n (codes "llvm.assume") assuming others e

pub no_assume : (n : List ℕ) → bytes_eq n (codes "llvm.assume") ≡ false
    → intrinsic_of n ≡ option_or (entry_of n (flat_map at_widths overflow_rows)) (entry_of n (flat_map at_widths plain_rows))
unfolding intrinsic_of
no_assume n e = passed n (codes "llvm.assume") assuming others e ∙ entry_append n (flat_map at_widths overflow_rows) (flat_map at_widths plain_rows)

-- where the bytes are those of the name
pub with_found : (n m : List ℕ) (l : Listed) → m ≡ n → bytes_eq n (codes "llvm.assume") ≡ false → Some (view_listed l) ≡ entry_of m (flat_map at_widths overflow_rows) → Some (view_listed l) ≡ intrinsic_of n
with_found n m l same other is =
    ap (λ o. option_or o (entry_of n (flat_map at_widths plain_rows))) (is ∙ ap (λ k. entry_of k (flat_map at_widths overflow_rows)) same) ∙ sym (no_assume n other)

pub with_rest : (n m : List ℕ) (o : Option Intrinsic) → m ≡ n → bytes_eq n (codes "llvm.assume") ≡ false → None ≡ entry_of m (flat_map at_widths overflow_rows) → o ≡ entry_of m (flat_map at_widths plain_rows) → o ≡ intrinsic_of n
with_rest n m o same other none is =
    is ∙ ap (λ k. entry_of k (flat_map at_widths plain_rows)) same
    ∙ ap (λ p. option_or p (entry_of n (flat_map at_widths plain_rows))) (none ∙ ap (λ k. entry_of k (flat_map at_widths overflow_rows)) same)
    ∙ sym (no_assume n other)

pub same_word : (n w xs ys : List ℕ) (r : Bool) → xs ≡ n → ys ≡ w → r ≡ pointwise eqb xs ys → r ≡ true → bytes_eq n w ≡ true
same_word n w xs ys r first second is t = (bytes_eq-Decides n w).1 (sym first ∙ (slice_eq-Decides Decides-eqb xs ys r is).0 t ∙ second)

pub other_word : (n w xs ys : List ℕ) (r : Bool) → xs ≡ n → ys ≡ w → r ≡ pointwise eqb xs ys → r ≡ false → bytes_eq n w ≡ false
other_word n w xs ys r first second is f = not_same n w (λ e. false≢true (sym f ∙ (slice_eq-Decides Decides-eqb xs ys r is).1 (first ∙ e ∙ sym second)))
