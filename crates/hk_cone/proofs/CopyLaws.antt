-- Copies in their order.
use Rattle.std.proofs.Common.{◌≡◌, ◌≢◌, ℕ, zero, suc, ◌+◌, ◌%◌, ◌^◌, ◌<◌, ◌≤◌, ◌⊎◌, Bool, true, false, cond, nat_eq, List, [], ◌∷◌, ◌++◌, length, reverse, Some, arith, refl, sym, ◌∙◌, ap, subst, inl, inr}
use Rattle.std.specs.List.{slice_get}
use Rattle.std.specs.Prelude.{slice_index}
use Rattle.std.proofs.lemmas.List.{length-append, get_or_append_left}
use Rattle.std.proofs.Math.Seq.{get_or-append_seam}
use Rattle.std.proofs.lemmas.Option.{slice_get_within}
use Rattle.std.proofs.lemmas.Bool.Decides.{eqb_tells}
use Rattle.hk_term.specs.Operations.{bit, unary_value, binary_value, binary_width, BinaryFits, resize_value, ResizeFits}
use Rattle.hk_term.specs.Shape.{NodeFits, AllFitIn, node_width, width}
use Rattle.hk_term.proofs.TermLists.{holds}
use Rattle.hk_term.specs.Meaning.{Reading, every_tuple, node_value, value}
use Rattle.hk_term.specs.Facts.{Holds}
use Rattle.hk_term.specs.declared.node.Node.{Node}
use Rattle.hk_term.specs.declared.node.Node.TheVariants.{Const, Var, Select, Unary, Binary, Choose, Resize, ForAll}
use Rattle.hk_copy.specs.Reach.{IsPart}
use Rattle.hk_copy.specs.Making.{renewed}
use Rattle.hk_cone.specs.Cones.{Reaches, IsRenewal, is_marked, AreClosedFrom, AreMarked, IsCopy, AreCopied}
use Rattle.hk_cone.specs.Cones.Reaches.{itself, under}
use Rattle.hk_copy.proofs.MakingLaws.{part-before}

one_node : (nodes : List Node) (t : ℕ) (n m : Node) → slice_get nodes t ≡ Some n → slice_get nodes t ≡ Some m → n ≡ m
one_node nodes t n m e f = cc

-- ---- a node over the copies of its parts

module _ (old new : List Node) (f : ℕ → ℕ) where
  renewed-fits : (n : Node) (t : ℕ) → NodeFits t (width old) n → ((a : ℕ) → IsPart n a → IsCopy old new a (f a)) → NodeFits (length new) (width new) (renewed f n)
  renewed-fits (Const wide number) t fits c = fits
  renewed-fits (Var wide id) t fits c = fits
  renewed-fits (Select array wide index) t fits c = (fits.0, (c index refl).within)
  renewed-fits (Unary kind a) t fits c = (c a refl).within
  renewed-fits (Binary kind a b) t fits c =
      let x = c a (inl refl) in
      let y = c b (inr refl) in
      (x.within, y.within, subst (λ w. BinaryFits kind (width new (f a)) w) (sym y.width_is) (subst (λ w. BinaryFits kind w (width old b)) (sym x.width_is) fits.2))
  renewed-fits (Choose z a b) t fits c =
      let u = c z (inl refl) in
      let x = c a (inr (inl refl)) in
      let y = c b (inr (inr refl)) in
      (u.within, x.within, y.within, u.width_is ∙ fits.3, x.width_is ∙ fits.4 ∙ sym y.width_is)
  renewed-fits (Resize kind to a) t fits c =
      let x = c a refl in (x.within, subst (λ w. ResizeFits kind w to) (sym x.width_is) fits.1)
  renewed-fits (ForAll bound body) t fits c = let x = c body refl in (x.within, x.width_is ∙ fits.1)

  renewed-width : (n : Node) → ((a : ℕ) → IsPart n a → IsCopy old new a (f a)) → node_width (renewed f n) (width new) ≡ node_width n (width old)
  renewed-width (Const wide number) c = refl
  renewed-width (Var wide id) c = refl
  renewed-width (Select array wide index) c = refl
  renewed-width (Unary kind a) c = (c a refl).width_is
  renewed-width (Binary kind a b) c = λ i. binary_width kind ((c a (inl refl)).width_is i) ((c b (inr refl)).width_is i)
  renewed-width (Choose z a b) c = (c a (inr (inl refl))).width_is
  renewed-width (Resize kind to a) c = refl
  renewed-width (ForAll bound body) c = refl

  renewed-value : (n : Node) (v : Reading) → ((a : ℕ) → IsPart n a → IsCopy old new a (f a)) → node_value (renewed f n) (value new) (width new) v ≡ node_value n (value old) (width old) v
  renewed-value (Const wide number) v c = refl
  renewed-value (Var wide id) v c = refl
  renewed-value (Select array wide index) v c = λ i. v.entry array ((c index refl).value_is v i) % 2 ^ wide
  renewed-value (Unary kind a) v c = let x = c a refl in λ i. unary_value kind (x.width_is i) (x.value_is v i)
  renewed-value (Binary kind a b) v c =
      let x = c a (inl refl) in
      let y = c b (inr refl) in
      λ i. binary_value kind (x.width_is i) (y.width_is i) (x.value_is v i) (y.value_is v i)
  renewed-value (Choose z a b) v c =
      λ i. cond (nat_eq ((c z (inl refl)).value_is v i) 1) ((c a (inr (inl refl))).value_is v i) ((c b (inr (inr refl))).value_is v i)
  renewed-value (Resize kind to a) v c = let x = c a refl in λ i. resize_value kind (x.width_is i) to (x.value_is v i)
  renewed-value (ForAll bound body) v c = λ i. bit (every_tuple bound (λ u. nat_eq ((c body refl).value_is u i) 1) v)

-- parts of the node over other parts
renewed-part : (f : ℕ → ℕ) (n : Node) (a : ℕ) → IsPart n a → IsPart (renewed f n) (f a)
renewed-part f (Const wide number) a is = is
renewed-part f (Var wide id) a is = is
renewed-part f (Select array wide index) a is = ap f is
renewed-part f (Unary kind x) a is = ap f is
renewed-part f (Binary kind x y) a (inl e) = inl (ap f e)
renewed-part f (Binary kind x y) a (inr e) = inr (ap f e)
renewed-part f (Choose z x y) a (inl e) = inl (ap f e)
renewed-part f (Choose z x y) a (inr (inl e)) = inr (inl (ap f e))
renewed-part f (Choose z x y) a (inr (inr e)) = inr (inr (ap f e))
renewed-part f (Resize kind to x) a is = ap f is
renewed-part f (ForAll bound body) a is = ap f is

renewed-same : (f g : ℕ → ℕ) (n : Node) → ((a : ℕ) → IsPart n a → f a ≡ g a) → renewed f n ≡ renewed g n
renewed-same f g (Const wide number) e = refl
renewed-same f g (Var wide id) e = refl
renewed-same f g (Select array wide index) e = λ i. Select array wide (e index refl i)
renewed-same f g (Unary kind a) e = λ i. Unary kind (e a refl i)
renewed-same f g (Binary kind a b) e = λ i. Binary kind (e a (inl refl) i) (e b (inr refl) i)
renewed-same f g (Choose z a b) e = λ i. Choose (e z (inl refl) i) (e a (inr (inl refl)) i) (e b (inr (inr refl)) i)
renewed-same f g (Resize kind to a) e = λ i. Resize kind to (e a refl i)
renewed-same f g (ForAll bound body) e = λ i. ForAll bound (e body refl i)

-- ---- one place more

-- a place among those before, or the new one
before_or : (k n : ℕ) (places : List ℕ) → n ≡ length places + 1 → k < n → (k < length places) ⊎ (k ≡ length places)
before_or k n places e h = by (eqb_tells k (length places))
  where
    by : ((nat_eq k (length places) ≡ true) × (k ≡ length places)) ⊎ ((nat_eq k (length places) ≡ false) × (k ≢ length places)) → (k < length places) ⊎ (k ≡ length places)
    by (inl p) = inr p.1
    by (inr p) = let apart = p.1 in inl (omega (arith, e, h, apart))

module _ (old : List Node) (fit : AllFitIn (reverse old)) (marks : List Bool) (new : List Node) (places : List ℕ) (all : AreCopied old marks new places) where
  longer : (x : ℕ) → length (places ++ x ∷ []) ≡ length places + 1
  longer x = length-append places (x ∷ [])

  place-kept : (x k : ℕ) → k < length places → slice_index (places ++ x ∷ []) k ≡ slice_index places k
  place-kept x k h = get_or_append_left places (x ∷ []) 0 k h

  place-new : (x k : ℕ) → k ≡ length places → slice_index (places ++ x ∷ []) k ≡ x
  place-new x k e = ap (slice_index (places ++ x ∷ [])) e ∙ get_or-append_seam places x [] 0

  still-renewed : (x k : ℕ) (n : Node) → k ≤ length places → slice_get old k ≡ Some n → renewed (slice_index places) n ≡ renewed (slice_index (places ++ x ∷ [])) n
  still-renewed x k n h at =
      renewed-same (slice_index places) (slice_index (places ++ x ∷ [])) n
      (λ a is. sym (place-kept x a (let l = part-before n k (width old) a (holds old k n fit at).fits is in omega (arith, l, h))))

  pub skipped : is_marked marks (length places) ≡ false → AreCopied old marks new (places ++ 0 ∷ [])
  skipped off = record {
    copies = λ k l on. copy k on (before_or k (length (places ++ 0 ∷ [])) places (longer 0) l);
    nodes = λ k n l on at. node k n on at (before_or k (length (places ++ 0 ∷ [])) places (longer 0) l);
    from = λ r l. let p = all.from r l in (p.0, omega (arith, p.1, longer 0), p.2, place-kept 0 p.0 p.1 ∙ p.3);
  }
    where
      none : {X : Type 0} (k : ℕ) → is_marked marks k ≡ true → k ≡ length places → X
      none k on e = let same : is_marked marks k ≡ false = ap (is_marked marks) e ∙ off in absurd cc

      copy : (k : ℕ) → is_marked marks k ≡ true → (k < length places) ⊎ (k ≡ length places) → IsCopy old new k (slice_index (places ++ 0 ∷ []) k)
      copy k on (inl l) = subst (IsCopy old new k) (sym (place-kept 0 k l)) (all.copies k l on)
      copy k on (inr e) = none k on e

      node : (k : ℕ) (n : Node) → is_marked marks k ≡ true → slice_get old k ≡ Some n → (k < length places) ⊎ (k ≡ length places) → slice_get new (slice_index (places ++ 0 ∷ []) k) ≡ Some (renewed (slice_index (places ++ 0 ∷ [])) n)
      node k n on at (inl l) = ap (slice_get new) (place-kept 0 k l) ∙ all.nodes k n l on at ∙ ap Some (still-renewed 0 k n (omega (arith, l)) at)
      node k n on at (inr e) = none k on e

  module _ (at : ℕ) (n made : Node) (last : length places ≡ at) (on : is_marked marks at ≡ true) (closed : AreClosedFrom old marks 0) (its : Holds old at n) (is : made ≡ renewed (slice_index places) n) where
    part-copies : (a : ℕ) → IsPart n a → IsCopy old new a (slice_index places a)
    part-copies a part =
        all.copies a (let l = part-before n at (width old) a its.fits part in omega (arith, l, last)) (closed at a n (omega arith) on its.at part)

    pub made-fits : NodeFits (length new) (width new) made
    made-fits = subst (NodeFits (length new) (width new)) (sym is) (renewed-fits old new (slice_index places) n at its.fits part-copies)

    module _ (after : List Node) (r : ℕ) (there : Holds after r made) (value_is : (v : Reading) → value after r v ≡ node_value made (value new) (width new) v) (width_is : width after r ≡ node_width made (width new))
        (keeps_widths : (k : ℕ) → k < length new → width after k ≡ width new k) (keeps_values : (k : ℕ) → k < length new → (v : Reading) → value after k v ≡ value new k v)
        (keeps_nodes : (k : ℕ) → k < length new → slice_get after k ≡ slice_get new k) (more : length new ≤ length after)
        (ok : ((r < length new) × (after ≡ new)) ⊎ ((r ≡ length new) × (after ≡ new ++ made ∷ []))) where
      pub pushed : AreCopied old marks after (places ++ r ∷ [])
      pushed = record {
        copies = λ k l o. copy k o (before_or k (length (places ++ r ∷ [])) places (longer r) l);
        nodes = λ k m l o a. node k m o a (before_or k (length (places ++ r ∷ [])) places (longer r) l);
        from = λ q l. come q l ok;
      }
        where
          kept : (k p : ℕ) → IsCopy old new k p → IsCopy old after k p
          kept k p c = record {
            within = omega (arith, c.within, more);
            width_is = keeps_widths p c.within ∙ c.width_is;
            value_is = λ v. keeps_values p c.within v ∙ c.value_is v;
          }

          own : IsCopy old after at r
          own = record {
            within = there.within;
            width_is = width_is ∙ ap (λ x. node_width x (width new)) is ∙ renewed-width old new (slice_index places) n part-copies ∙ sym its.width_is;
            value_is = λ v. value_is v ∙ ap (λ x. node_value x (value new) (width new) v) is ∙ renewed-value old new (slice_index places) n v part-copies ∙ sym (its.value_is v);
          }

          copy : (k : ℕ) → is_marked marks k ≡ true → (k < length places) ⊎ (k ≡ length places) → IsCopy old after k (slice_index (places ++ r ∷ []) k)
          copy k o (inl l) = subst (IsCopy old after k) (sym (place-kept r k l)) (kept k (slice_index places k) (all.copies k l o))
          copy k o (inr e) = subst (IsCopy old after k) (sym (place-new r k e)) (subst (λ j. IsCopy old after j r) (sym last ∙ sym e) own)

          node : (k : ℕ) (m : Node) → is_marked marks k ≡ true → slice_get old k ≡ Some m → (k < length places) ⊎ (k ≡ length places) → slice_get after (slice_index (places ++ r ∷ []) k) ≡ Some (renewed (slice_index (places ++ r ∷ [])) m)
          node k m o a (inl l) =
              ap (slice_get after) (place-kept r k l) ∙ keeps_nodes (slice_index places k) (all.copies k l o).within ∙ all.nodes k m l o a ∙ ap Some (still-renewed r k m (omega (arith, l)) a)
          node k m o a (inr e) =
              let same : n ≡ m = one_node old k n m (ap (slice_get old) (e ∙ last) ∙ its.at) a in
              ap (slice_get after) (place-new r k e) ∙ there.at ∙ ap Some (is ∙ ap (renewed (slice_index places)) same ∙ still-renewed r k m (omega (arith, e)) a)

          earlier : (q : ℕ) → q < length new → (k : ℕ) × (k < length (places ++ r ∷ [])) × (is_marked marks k ≡ true) × (slice_index (places ++ r ∷ []) k ≡ q)
          earlier q l = let p = all.from q l in (p.0, omega (arith, p.1, longer r), p.2, place-kept r p.0 p.1 ∙ p.3)

          newest : (q : ℕ) → q ≡ r → (k : ℕ) × (k < length (places ++ r ∷ [])) × (is_marked marks k ≡ true) × (slice_index (places ++ r ∷ []) k ≡ q)
          newest q e = (at, omega (arith, last, longer r), on, place-new r at (sym last) ∙ sym e)

          come : (q : ℕ) → q < length after → ((r < length new) × (after ≡ new)) ⊎ ((r ≡ length new) × (after ≡ new ++ made ∷ [])) → (k : ℕ) × (k < length (places ++ r ∷ [])) × (is_marked marks k ≡ true) × (slice_index (places ++ r ∷ []) k ≡ q)
          come q l (inl p) = let same : length after ≡ length new = ap length p.1 in earlier q (omega (arith, l, same))
          come q l (inr p) = by (eqb_tells q r)
            where
              by : ((nat_eq q r ≡ true) × (q ≡ r)) ⊎ ((nat_eq q r ≡ false) × (q ≢ r)) → (k : ℕ) × (k < length (places ++ r ∷ [])) × (is_marked marks k ≡ true) × (slice_index (places ++ r ∷ []) k ≡ q)
              by (inl e) = newest q e.1
              by (inr e) =
                  let one : length after ≡ length new + 1 = ap length p.1 ∙ length-append new (made ∷ []) in
                  let apart = e.1 in
                  let root = p.0 in
                  earlier q (omega (arith, l, one, apart, root))

-- ---- all of them

pub first-copied : (old new : List Node) (marks : List Bool) (places : List ℕ) → new ≡ [] → places ≡ [] → AreCopied old marks new places
first-copied old new marks places e f = record {
  copies = λ k l on. absurd (let none : length places ≡ 0 = ap length f in omega (arith, none, l));
  nodes = λ k n l on at. absurd (let none : length places ≡ 0 = ap length f in omega (arith, none, l));
  from = λ r l. absurd (let none : length new ≡ 0 = ap length e in omega (arith, none, l));
}

module _ (old : List Node) (fit : AllFitIn (reverse old)) (root : ℕ) (marks : List Bool) (marked : AreMarked old root 0 marks) (new : List Node) (places : List ℕ) (root_there : root < length old) (whole : length places ≡ length marks) (all : AreCopied old marks new places) where
  reached-within : {k : ℕ} → Reaches old root k → k < length old
  reached-within {k} (itself e) = omega (arith, e, root_there)
  reached-within {k} (under t n r at part) =
      let l = part-before n t (width old) k (holds old t n fit at).fits part in
      let m = reached-within r in
      omega (arith, l, m)

  pub root-copy : IsCopy old new root (slice_index places root)
  root-copy = all.copies root (omega (arith, whole, marked.size)) marked.top

  on_all : {k : ℕ} → Reaches old root k → is_marked marks k ≡ true
  on_all {k} (itself e) = ap (is_marked marks) e ∙ marked.top
  on_all {k} (under t n r at part) = marked.closed t k n (omega arith) (on_all r) at part

  among : (k : ℕ) → is_marked marks k ≡ true → k < length marks
  among k on = within marks k on
    where
      within : (ms : List Bool) (k : ℕ) → is_marked ms k ≡ true → k < length ms
      within [] k e = absurd cc
      within (m ∷ ms) zero e = omega arith
      within (m ∷ ms) (suc k) e = let l = within ms k e in omega (arith, l)

  carried : {k : ℕ} → Reaches old root k → Reaches new (slice_index places root) (slice_index places k)
  carried {k} (itself e) = itself (ap (slice_index places) e)
  carried {k} (under t n r at part) =
      let on = on_all r in
      under (slice_index places t) (renewed (slice_index places) n) (carried r) (all.nodes t n (omega (arith, among t on, whole)) on at) (renewed-part (slice_index places) n k part)

  pub all-reached : (q : ℕ) → q < length new → Reaches new (slice_index places root) q
  all-reached q l = let p = all.from q l in subst (Reaches new (slice_index places root)) p.3 (carried (marked.only p.0 p.2))

  pub all-renewed : (q : ℕ) (n : Node) → slice_get new q ≡ Some n → IsRenewal old n
  all-renewed q n at =
      let p = all.from q (slice_get_within new q n at) in
      let w : p.0 < length old = reached-within (marked.only p.0 p.2) in
      let o = some_at old p.0 w in
      record {
        place = p.0;
        node = o.0;
        at = o.1;
        parts = slice_index places;
        is = one_node new q n (renewed (slice_index places) o.0) at (ap (slice_get new) (sym p.3) ∙ all.nodes p.0 o.0 p.1 p.2 o.1);
      }
    where
      some_at : (ns : List Node) (j : ℕ) → j < length ns → (n : Node) × (slice_get ns j ≡ Some n)
      some_at [] j h = absurd (omega arith)
      some_at (m ∷ ns) zero h = (m, refl)
      some_at (m ∷ ns) (suc j) h = some_at ns j (omega arith)
