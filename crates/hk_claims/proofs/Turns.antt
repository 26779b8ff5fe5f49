-- Handlers with their entries, one after another.
use Rattle.std.proofs.Common.{ℕ, zero, suc, ◌≡◌, ◌+◌, ◌<◌, ◌≤◌, Option, None, Some, List, [], ◌∷◌, ◌++◌, length, map, take, drop, slice_index_or, refl, ap, sym, ◌∙◌, subst, arith, append_assoc}
use Rattle.std.specs.List.{AllZip, zip, flat_map}
use Rattle.std.proofs.lemmas.List.{append-nil, length-map, take_more, take_all, take-append-drop}
use Rattle.std.proofs.lemmas.Slice.Zip.{AllZip-long, length-zip, get_or-zip}
use Rattle.hk_io.specs.Shown.{shown_with}
use Rattle.spec_tree.specs.Plain.{Transition}
use Rattle.spec_tree.specs.View.{view_transition}
use Rattle.spec_tree.specs.declared.spec.Transition.{Transition as Handler}
use Rattle.hk_cert_text.specs.declared.entry.Entry.{Entry}
use Rattle.hk_claims.specs.Turns.{Claim, AreTold, EndsAt, texts_of}

-- ---- what is shown

shown_with-append : (s : Option (List ℕ)) (a b : List ℕ) → shown_with (shown_with s a) b ≡ shown_with s (a ++ b)
shown_with-append None a b = refl
shown_with-append (Some text) a b = ap Some (append_assoc text a b)

shown_with-nothing : (s : Option (List ℕ)) → s ≡ shown_with s []
shown_with-nothing None = refl
shown_with-nothing (Some text) = ap Some (sym (append-nil text))

-- ---- places

-- what holds of two lists place by place holds at a place
pub all_at : {A B : Type 0} (R : A → B → Type 0) (xs : List A) (ys : List B) (i : ℕ) (x : A) (y : B) → AllZip R xs ys → i < length xs → x ≡ slice_index_or xs i x → y ≡ slice_index_or ys i y → R x y
all_at R [] ys i x y all low first second = absurd (omega (arith, low))
all_at R (a ∷ xs) [] i x y all low first second = absurd all
all_at R (a ∷ xs) (b ∷ ys) zero x y all low first second = subst (λ z. R z y) (sym first) (subst (R a) (sym second) all.0)
all_at R (a ∷ xs) (b ∷ ys) (suc i) x y all low first second = all_at R xs ys i x y all.1 (omega (arith, low)) first second

viewed : {K W : Type 0} (view : K → W) (ks : List K) (i : ℕ) (k : K) → view (slice_index_or ks i k) ≡ slice_index_or (map view ks) i (view k)
viewed view [] i k = refl
viewed view (x ∷ ks) zero k = refl
viewed view (x ∷ ks) (suc i) k = viewed view ks i k

-- the handlers of the code, and the specification's
module _ (ts : List Handler) (slice : List Handler) (entries : List Entry) (same : slice ≡ ts) where
  pub as_many : (R : Transition → Entry → Type 0) (i : ℕ) → AllZip R (map view_transition ts) entries → i < length slice → i < length entries
  as_many R i all low = omega (arith, low, AllZip-long R (map view_transition ts) entries all, length-map ts view_transition, ap length same)

  handler_at : (i : ℕ) (t : Handler) → t ≡ slice_index_or slice i t → view_transition t ≡ slice_index_or (map view_transition ts) i (view_transition t)
  handler_at i t is = ap view_transition (subst (λ (xs : List Handler). t ≡ slice_index_or xs i t) same is) ∙ viewed view_transition ts i t

  pub entry_at : (R : Transition → Entry → Type 0) (i : ℕ) (t : Handler) (e : Entry) → AllZip R (map view_transition ts) entries → i < length slice → t ≡ slice_index_or slice i t → e ≡ slice_index_or entries i e → R (view_transition t) e
  entry_at R i t e all low first second =
      all_at R (map view_transition ts) entries i (view_transition t) e all (omega (arith, low, length-map ts view_transition, ap length same)) (handler_at i t first) second

  pub claim_low : (i : ℕ) → i < length slice → i < length entries → i < length (zip (map view_transition ts) entries)
  claim_low i first second = omega (arith, first, second, length-zip (map view_transition ts) entries, length-map ts view_transition, ap length same)

  pub claim_at : (i : ℕ) (t : Handler) (e : Entry) → i < length slice → i < length entries → t ≡ slice_index_or slice i t → e ≡ slice_index_or entries i e
      → (view_transition t, e) ≡ slice_index_or (zip (map view_transition ts) entries) i (view_transition t, e)
  claim_at i t e low many first second =
      ap (λ a. (a, e)) (handler_at i t first) ∙ ap (λ b. (slice_index_or (map view_transition ts) i (view_transition t), b)) second
      ∙ sym (get_or-zip (map view_transition ts) entries i (view_transition t, e) (omega (arith, low, length-map ts view_transition, ap length same)) many)

  pub claims_end : (i : ℕ) → length slice ≤ i → length (zip (map view_transition ts) entries) ≤ i
  claims_end i past = omega (arith, past, length-zip (map view_transition ts) entries, length-map ts view_transition, ap length same)

-- ---- turns

module _ {F : Type 0} (R : Claim → F → Type 0) (text : Claim → F → List ℕ) where
  pub none_told : (shown : Option (List ℕ)) → AreTold R text [] [] shown shown
  none_told shown = record { found = tt; says = shown_with-nothing shown }

  texts-snoc : (claims : List Claim) (founds : List F) (x : Claim) (f : F) → AllZip R claims founds → texts_of text (claims ++ x ∷ []) (founds ++ f ∷ []) ≡ texts_of text claims founds ++ text x f
  texts-snoc [] [] x f all = append-nil (text x f)
  texts-snoc (c ∷ cs) (g ∷ gs) x f all = ap (λ l. text c g ++ l) (texts-snoc cs gs x f all.1) ∙ sym (append_assoc (text c g) _ _)
  texts-snoc [] (g ∷ gs) x f all = absurd all
  texts-snoc (c ∷ cs) [] x f all = absurd all

  found-snoc : (claims : List Claim) (founds : List F) (x : Claim) (f : F) → AllZip R claims founds → R x f → AllZip R (claims ++ x ∷ []) (founds ++ f ∷ [])
  found-snoc [] [] x f all here = (here, tt)
  found-snoc (c ∷ cs) (g ∷ gs) x f all here = (all.0, found-snoc cs gs x f all.1 here)
  found-snoc [] (g ∷ gs) x f all here = absurd all
  found-snoc (c ∷ cs) [] x f all here = absurd all

  told_more : (claims : List Claim) (founds : List F) (x : Claim) (f : F) (shown now next : Option (List ℕ)) → AreTold R text claims founds shown now → R x f → next ≡ shown_with now (text x f)
      → AreTold R text (claims ++ x ∷ []) (founds ++ f ∷ []) shown next
  told_more claims founds x f shown now next h here says = record {
    found = found-snoc claims founds x f h.found here;
    says = says ∙ ap (λ s. shown_with s (text x f)) h.says ∙ shown_with-append shown _ _ ∙ ap (shown_with shown) (sym (texts-snoc claims founds x f h.found));
  }

  pub told_next : (xs : List Claim) (i : ℕ) (founds : List F) (x : Claim) (f : F) (shown now next : Option (List ℕ)) → i < length xs → x ≡ slice_index_or xs i x → AreTold R text (take i xs) founds shown now → R x f
      → next ≡ shown_with now (text x f) → AreTold R text (take (i + 1) xs) (founds ++ f ∷ []) shown next
  told_next xs i founds x f shown now next low is h here says =
      subst (λ (cs : List Claim). AreTold R text cs (founds ++ f ∷ []) shown next) (sym (take_more xs i x low ∙ ap (λ y. take i xs ++ y ∷ []) (sym is)))
      (told_more (take i xs) founds x f shown now next h here says)

  pub all_told : (xs : List Claim) (i : ℕ) (founds : List F) (shown now : Option (List ℕ)) → length xs ≤ i → AreTold R text (take i xs) founds shown now → AreTold R text xs founds shown now
  all_told xs i founds shown now past h = subst (λ (cs : List Claim). AreTold R text cs founds shown now) (take_all i xs past) h

  parts_at : (xs : List Claim) (i : ℕ) (x : Claim) → i < length xs → x ≡ slice_index_or xs i x → xs ≡ take i xs ++ x ∷ drop (i + 1) xs
  parts_at xs i x low is =
      sym (take-append-drop (i + 1) xs) ∙ ap (λ front. front ++ drop (i + 1) xs) (take_more xs i x low ∙ ap (λ y. take i xs ++ y ∷ []) (sym is)) ∙ append_assoc (take i xs) (x ∷ []) (drop (i + 1) xs)

  pub ends_at : (xs : List Claim) (i : ℕ) (founds : List F) (x : Claim) (shown now : Option (List ℕ)) → i < length xs → x ≡ slice_index_or xs i x → AreTold R text (take i xs) founds shown now → EndsAt R text xs founds x shown now
  ends_at xs i founds x shown now low is h = record { before = take i xs; behind = drop (i + 1) xs; claims_are = parts_at xs i x low is; told = h }
