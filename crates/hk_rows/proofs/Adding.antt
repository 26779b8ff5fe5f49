-- Laws of adding to a line, and of the lines of a text.

use Rattle.std.proofs.Common.{ℕ, ◌≡◌, ◌≤◌, ◌<◌, ◌+◌, ◌^◌, List, [], ◌∷◌, ◌++◌, Option, None, Some, Result, Ok, Err, OnOk, OnErr, IfErr, length, take, drop, get_or, ap, sym, ◌∙◌, refl, subst, arith, append_assoc}
use Rattle.std.proofs.lemmas.List.{append-nil, take_more, take_all, take-append-drop}
use Rattle.std.proofs.lemmas.List.Concat.{flat_map-append}
use Rattle.std.specs.List.{flat_map}
use Rattle.hk_io.specs.Faults.{Rose}
use Rattle.hk_io.specs.Shown.{shown_with, sent_of, ShowsPrefix}
use Rattle.hk_io.specs.declared.fault.SinkFault.{SinkFault}
use Rattle.hk_io.proofs.Prefixes.{shown_with-append, prefix_append, prefix_behind}
use Rattle.hk_rows.specs.Lines.{Adds, Fails, Shows, Cuts}

-- No piece at all changes nothing.
pub shown_with-nil : (s : Option (List ℕ)) → shown_with s [] ≡ s
shown_with-nil None = refl
shown_with-nil (Some text) = ap Some (append-nil text)

-- Nothing is added.
pub adds_nothing : (s : Option (List ℕ)) (f : ℕ) (held : List ℕ) → Adds s s f f held held []
adds_nothing s f held = record {
  put = [];
  is_shown = sym (shown_with-nil s);
  parts = append-nil held;
  still = refl;
}

-- One text is added behind another.
pub adds_then : (a b c : Option (List ℕ)) (fa fb fc : ℕ) (p q r t u : List ℕ) → Adds a b fa fb p q t → Adds b c fb fc q r u → Adds a c fa fc p r (t ++ u)
adds_then a b c fa fb fc p q r t u first second = record {
  put = first.put ++ second.put;
  is_shown = second.is_shown ∙ ap (λ s. shown_with s second.put) first.is_shown ∙ shown_with-append a first.put second.put;
  parts = sym (append_assoc p t u) ∙ ap (λ l. l ++ u) first.parts ∙ append_assoc first.put q u
      ∙ ap (λ l. first.put ++ l) second.parts ∙ sym (append_assoc first.put second.put r);
  still = second.still ∙ first.still;
}

-- The second text fails.
pub fails_then : (a b c : Option (List ℕ)) (fa fb fc : ℕ) (p q t u : List ℕ) → Adds a b fa fb p q t → Fails b c fb fc (q ++ u) → Fails a c fa fc (p ++ (t ++ u))
fails_then a b c fa fb fc p q t u first second = record {
  cut =
      let parts = sym (append_assoc p t u) ∙ ap (λ l. l ++ u) first.parts ∙ append_assoc first.put q u in
      let P : List ℕ → Type 0 = λ l. ShowsPrefix a c l in
      subst P (sym parts) (prefix_behind a b c first.put (q ++ u) first.is_shown second.cut);
  failed = subst (λ f. Rose f fc) first.still second.failed;
  later = subst (λ f. f ≤ fc) first.still second.later;
  fits = second.fits;
}

-- What fails in a text fails in a longer one.
pub fails_more : (a c : Option (List ℕ)) (fa fc : ℕ) (t u : List ℕ) → Fails a c fa fc t → Fails a c fa fc (t ++ u)
fails_more a c fa fc t u failed = record {
  cut = prefix_append a c t u failed.cut;
  failed = failed.failed;
  later = failed.later;
  fits = failed.fits;
}

-- What fails in a text behind what was held back fails with more behind it.
pub fails_front : (a c : Option (List ℕ)) (fa fc : ℕ) (p t u : List ℕ) → Fails a c fa fc (p ++ t) → Fails a c fa fc (p ++ (t ++ u))
fails_front a c fa fc p t u failed =
    let P : List ℕ → Type 0 = λ l. Fails a c fa fc l in
    subst P (append_assoc p t u) (fails_more a c fa fc (p ++ t) u failed)

-- What fails with nothing held back at first shows a prefix of the text.
pub cut_from_nothing : (a c : Option (List ℕ)) (fa fc : ℕ) (p t : List ℕ) → p ≡ [] → Fails a c fa fc (p ++ t) → ShowsPrefix a c t
cut_from_nothing a c fa fc p t nothing failed =
    let P : List ℕ → Type 0 = λ l. Fails a c fa fc (l ++ t) in
    (subst P nothing failed).cut

-- A put of what is held back shows a prefix where it fails.
pub cut_at_end : (a c d : Option (List ℕ)) (fa fc : ℕ) (p r t piece : List ℕ) (result : Result (Unit {0}) SinkFault) → p ≡ [] → piece ≡ r → Adds a c fa fc p r t
    → IfErr result (λ fault. d ≡ shown_with c (take (sent_of fault) piece)) → IfErr result (λ fault. sent_of fault ≤ length piece) → OnErr result (ShowsPrefix a d t)
cut_at_end a c d fa fc p r t piece (Ok x) nothing all added sent within = tt
cut_at_end a c d fa fc p r t piece (Err fault) nothing all added sent within =
    let P : List ℕ → Type 0 = λ l. ShowsPrefix a d l in
    let parts : added.put ++ piece ≡ t = ap (λ l. added.put ++ l) all ∙ sym added.parts ∙ ap (λ l. l ++ t) nothing in
    subst P parts (prefix_behind a c d added.put piece added.is_shown (sent_of fault, within, sent))

-- ---- the pieces of a text, one for each element of a list

-- The pieces up to an element are those before it and its own.
pub pieces_more : {X : Type 0} (f : X → List ℕ) (xs : List X) (i : ℕ) (d x : X) → i < length xs → x ≡ get_or xs i d → flat_map f (take (i + 1) xs) ≡ flat_map f (take i xs) ++ f x
pieces_more f xs i d x within is =
    ap (flat_map f) (take_more xs i d within) ∙ flat_map-append f (take i xs) (get_or xs i d ∷ [])
    ∙ ap (λ l. flat_map f (take i xs) ++ l) (append-nil (f (get_or xs i d)) ∙ ap f (sym is))

-- All pieces are those up to an element and those behind it.
pub pieces_split : {X : Type 0} (f : X → List ℕ) (xs : List X) (i : ℕ) (d x : X) → i < length xs → x ≡ get_or xs i d → (flat_map f (take i xs) ++ f x) ++ flat_map f (drop (i + 1) xs) ≡ flat_map f xs
pieces_split f xs i d x within is =
    ap (λ l. l ++ flat_map f (drop (i + 1) xs)) (sym (pieces_more f xs i d x within is))
    ∙ sym (flat_map-append f (take (i + 1) xs) (drop (i + 1) xs)) ∙ ap (flat_map f) (take-append-drop (i + 1) xs)

-- An element's piece is added behind those before it.
pub adds_more : {X : Type 0} (f : X → List ℕ) (xs : List X) (i : ℕ) (d x : X) (a b c : Option (List ℕ)) (fa fb fc : ℕ) (p q r : List ℕ) → i < length xs → x ≡ get_or xs i d
    → Adds a b fa fb p q (flat_map f (take i xs)) → Adds b c fb fc q r (f x) → Adds a c fa fc p r (flat_map f (take (i + 1) xs))
adds_more f xs i d x a b c fa fb fc p q r within is first second =
    let P : List ℕ → Type 0 = λ l. Adds a c fa fc p r l in
    subst P (sym (pieces_more f xs i d x within is)) (adds_then a b c fa fb fc p q r (flat_map f (take i xs)) (f x) first second)

-- An element's piece fails behind those before it.
pub adds_cut : {X : Type 0} (f : X → List ℕ) (xs : List X) (i : ℕ) (d x : X) (a b c : Option (List ℕ)) (fa fb fc : ℕ) (p q : List ℕ) → i < length xs → x ≡ get_or xs i d
    → Adds a b fa fb p q (flat_map f (take i xs)) → Fails b c fb fc (q ++ f x) → Fails a c fa fc (p ++ flat_map f xs)
adds_cut f xs i d x a b c fa fb fc p q within is first second =
    let front = flat_map f (take i xs) in
    let rest = flat_map f (drop (i + 1) xs) in
    let P : List ℕ → Type 0 = λ l. Fails a c fa fc l in
    let parts = append_assoc p (front ++ f x) rest ∙ ap (λ l. p ++ l) (pieces_split f xs i d x within is) in
    subst P parts (fails_more a c fa fc (p ++ (front ++ f x)) rest (fails_then a b c fa fb fc p q front (f x) first second))

-- All pieces are added, and one text behind them.
pub adds_all : {X : Type 0} (f : X → List ℕ) (xs : List X) (i : ℕ) (a b c : Option (List ℕ)) (fa fb fc : ℕ) (p q r t : List ℕ) → length xs ≤ i
    → Adds a b fa fb p q (flat_map f (take i xs)) → Adds b c fb fc q r t → Adds a c fa fc p r (flat_map f xs ++ t)
adds_all f xs i a b c fa fb fc p q r t past first second =
    let P : List ℕ → Type 0 = λ l. Adds a c fa fc p r (l ++ t) in
    subst P (ap (flat_map f) (take_all i xs past)) (adds_then a b c fa fb fc p q r (flat_map f (take i xs)) t first second)

-- All pieces are added, and the text behind them fails.
pub fails_behind_all : {X : Type 0} (f : X → List ℕ) (xs : List X) (i : ℕ) (a b c : Option (List ℕ)) (fa fb fc : ℕ) (p q t : List ℕ) → length xs ≤ i
    → Adds a b fa fb p q (flat_map f (take i xs)) → Fails b c fb fc (q ++ t) → Fails a c fa fc (p ++ (flat_map f xs ++ t))
fails_behind_all f xs i a b c fa fb fc p q t past first second =
    let P : List ℕ → Type 0 = λ l. Fails a c fa fc (p ++ (l ++ t)) in
    subst P (ap (flat_map f) (take_all i xs past)) (fails_then a b c fa fb fc p q (flat_map f (take i xs)) t first second)

-- ---- whole texts

-- Nothing is shown.
pub shows_nothing : (s : Option (List ℕ)) (f : ℕ) → Shows s s f f []
shows_nothing s f = record { whole = sym (shown_with-nil s); still = refl }

-- One text is shown behind another.
pub shows_then : (a b c : Option (List ℕ)) (fa fb fc : ℕ) (t u : List ℕ) → Shows a b fa fb t → Shows b c fb fc u → Shows a c fa fc (t ++ u)
shows_then a b c fa fb fc t u first second = record {
  whole = second.whole ∙ ap (λ s. shown_with s u) first.whole ∙ shown_with-append a t u;
  still = second.still ∙ first.still;
}

-- The second text fails.
pub shows_cut : (a b c : Option (List ℕ)) (fa fb fc : ℕ) (t u : List ℕ) → Shows a b fa fb t → Cuts b c fb fc u → Cuts a c fa fc (t ++ u)
shows_cut a b c fa fb fc t u first second = record {
  cut = prefix_behind a b c t u first.whole second.cut;
  failed = subst (λ f. Rose f fc) first.still second.failed;
  later = subst (λ f. f ≤ fc) first.still second.later;
}

-- The first text fails.
pub cuts_more : (a c : Option (List ℕ)) (fa fc : ℕ) (t u : List ℕ) → Cuts a c fa fc t → Cuts a c fa fc (t ++ u)
cuts_more a c fa fc t u failed = record { cut = prefix_append a c t u failed.cut; failed = failed.failed; later = failed.later }

-- An element's piece is shown behind those before it.
pub shows_more : {X : Type 0} (f : X → List ℕ) (xs : List X) (i : ℕ) (d x : X) (a b c : Option (List ℕ)) (fa fb fc : ℕ) → i < length xs → x ≡ get_or xs i d
    → Shows a b fa fb (flat_map f (take i xs)) → Shows b c fb fc (f x) → Shows a c fa fc (flat_map f (take (i + 1) xs))
shows_more f xs i d x a b c fa fb fc within is first second =
    let P : List ℕ → Type 0 = λ l. Shows a c fa fc l in
    subst P (sym (pieces_more f xs i d x within is)) (shows_then a b c fa fb fc (flat_map f (take i xs)) (f x) first second)

-- The same, where the number of pieces is said otherwise.
pub shows_next : {X : Type 0} (f : X → List ℕ) (xs : List X) (i j : ℕ) (d x : X) (a b c : Option (List ℕ)) (fa fb fc : ℕ) → i < length xs → x ≡ get_or xs i d → j ≡ i + 1
    → Shows a b fa fb (flat_map f (take i xs)) → Shows b c fb fc (f x) → Shows a c fa fc (flat_map f (take j xs))
shows_next f xs i j d x a b c fa fb fc within is next first second =
    let P : ℕ → Type 0 = λ n. Shows a c fa fc (flat_map f (take n xs)) in
    subst P (sym next) (shows_more f xs i d x a b c fa fb fc within is first second)

-- An element's piece fails behind those before it.
pub pieces_cut : {X : Type 0} (f : X → List ℕ) (xs : List X) (i : ℕ) (d x : X) (a b c : Option (List ℕ)) (fa fb fc : ℕ) → i < length xs → x ≡ get_or xs i d
    → Shows a b fa fb (flat_map f (take i xs)) → Cuts b c fb fc (f x) → Cuts a c fa fc (flat_map f xs)
pieces_cut f xs i d x a b c fa fb fc within is first second =
    let front = flat_map f (take i xs) in
    let rest = flat_map f (drop (i + 1) xs) in
    let P : List ℕ → Type 0 = λ l. Cuts a c fa fc l in
    subst P (pieces_split f xs i d x within is) (cuts_more a c fa fc (front ++ f x) rest (shows_cut a b c fa fb fc front (f x) first second))

-- All pieces are shown.
pub shows_all : {X : Type 0} (f : X → List ℕ) (xs : List X) (i : ℕ) (a b : Option (List ℕ)) (fa fb : ℕ) → length xs ≤ i → Shows a b fa fb (flat_map f (take i xs)) → Shows a b fa fb (flat_map f xs)
shows_all f xs i a b fa fb past shown =
    let P : List ℕ → Type 0 = λ l. Shows a b fa fb l in
    subst P (ap (flat_map f) (take_all i xs past)) shown

-- ---- results

-- What holds, holds of an error.
pub on_err : {T E : Type 0} (P : Type 0) (r : Result T E) → P → OnErr r P
on_err P (Ok x) h = tt
on_err P (Err e) h = h

-- What follows from what holds of an error.
pub err_then : {T E : Type 0} (P Q : Type 0) (r : Result T E) → (P → Q) → OnErr r P → OnErr r Q
err_then P Q (Ok x) f h = tt
err_then P Q (Err e) f h = f h

-- What follows from what holds of a success.
pub ok_then : {T E : Type 0} (P Q : Type 0) (r : Result T E) → (P → Q) → OnOk r P → OnOk r Q
ok_then P Q (Ok x) f h = f h
ok_then P Q (Err e) f h = tt

-- A failed put of what was held back fails in the text behind it.
pub put_fails : (a b : Option (List ℕ)) (fa fb : ℕ) (piece held : List ℕ) (fault : SinkFault) (rest : List ℕ) → piece ≡ held
    → b ≡ shown_with a (take (sent_of fault) piece) → sent_of fault ≤ length piece → Rose fa fb → fa ≤ fb → fb < 2 ^ 64 → Fails a b fa fb (held ++ rest)
put_fails a b fa fb piece held fault rest is sent within rose later fits =
    let P : List ℕ → Type 0 = λ l. Fails a b fa fb l in
    fails_more a b fa fb held rest (subst P is (record { cut = (sent_of fault, within, sent); failed = rose; later = later; fits = fits }))

-- ---- bytes as pieces of their own

-- A list is its elements one by one.
pub singles : (xs : List ℕ) → flat_map (λ x. x ∷ []) xs ≡ xs
singles [] = refl
singles (x ∷ xs) = ap (λ l. x ∷ l) (singles xs)

-- The next byte is added.
pub bytes_more : (xs : List ℕ) (i : ℕ) (d x : ℕ) (a b c : Option (List ℕ)) (fa fb fc : ℕ) (p q r : List ℕ) → i < length xs → x ≡ get_or xs i d
    → Adds a b fa fb p q (take i xs) → Adds b c fb fc q r (x ∷ []) → Adds a c fa fc p r (take (i + 1) xs)
bytes_more xs i d x a b c fa fb fc p q r within is first second =
    let P : List ℕ → Type 0 = λ l. Adds a b fa fb p q l in
    let Q : List ℕ → Type 0 = λ l. Adds a c fa fc p r l in
    subst Q (singles (take (i + 1) xs)) (adds_more (λ x. x ∷ []) xs i d x a b c fa fb fc p q r within is (subst P (sym (singles (take i xs))) first) second)

-- The next byte fails.
pub bytes_cut : (xs : List ℕ) (i : ℕ) (d x : ℕ) (a b c : Option (List ℕ)) (fa fb fc : ℕ) (p q : List ℕ) → i < length xs → x ≡ get_or xs i d
    → Adds a b fa fb p q (take i xs) → Fails b c fb fc (q ++ x ∷ []) → Fails a c fa fc (p ++ xs)
bytes_cut xs i d x a b c fa fb fc p q within is first second =
    let P : List ℕ → Type 0 = λ l. Adds a b fa fb p q l in
    let Q : List ℕ → Type 0 = λ l. Fails a c fa fc (p ++ l) in
    subst Q (singles xs) (adds_cut (λ x. x ∷ []) xs i d x a b c fa fb fc p q within is (subst P (sym (singles (take i xs))) first) second)

-- What a put cut behind a text cut of both together.
pub err_behind : (r : Result (Unit {0}) SinkFault) (a b c : Option (List ℕ)) (t u : List ℕ) → b ≡ shown_with a t → OnErr r (ShowsPrefix b c u) → OnErr r (ShowsPrefix a c (t ++ u))
err_behind (Ok x) a b c t u first second = tt
err_behind (Err fault) a b c t u first second = prefix_behind a b c t u first second
