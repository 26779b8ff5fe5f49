-- What is kept of a type is what it means, where that is so of the names that it spells.
use Rattle.std.proofs.Common.{◌≡◌, ◌⊎◌, inl, inr, ℕ, zero, suc, ◌+◌, ◌*◌, ◌/◌, ◌<◌, ◌≤◌, max, Bool, true, false, not, ◌||◌, ◌&&◌, nat_lt, Option, Some, None, option_map, List, [], ◌∷◌, ◌++◌, length, refl, sym, ◌∙◌, ap, subst, arith, lit<}
use Rattle.std.specs.Prelude.{is_some, unwrap_or, if◌then◌else◌, ◌==◌}
use Rattle.std.specs.List.{Contains, list_any}
use Rattle.std.proofs.lemmas.Bool.{or_cases, or_left, or_right, false≢true, eqb-true, lt-ltb, le-ltb, cases_lt}
use Rattle.std.proofs.lemmas.List.Elements.{Contains-append_left, Contains-append_right, Contains-append_cases}
use Rattle.ir_ast.specs.Plain.{Ty, Tys, nothing, integer, pointer, array, structure, packed, named, opaque, no_types, type_and}
use Rattle.ir_type.specs.Names.{names_in, all_names_in, parts_of, all_parts_of}
use Rattle.ir_type.specs.Whole.{Types, with_part, wholes_by, stands_for, whole, meant, is_memory_width, is_odd, has_odd}
use Rattle.ir_type.specs.Cycles.{IsBadName}
use Rattle.ir_layout.specs.declared.fact.Fact.{Fact}
use Rattle.ir_layout.specs.Sizes.{up_to, size_of, align_of, greatest_align, end_of, packed_end_of}
use Rattle.ir_layout.specs.Facts.{cut, is_over, scalar_fact, integer_fact, opaque_fact, array_fact, no_fields, with_field, with_packed, struct_fact, packed_fact, fact_by, fields_by, packed_by, size_or_none, has_odd_within, is_large_within, HasBadName, NameFits, FactFits}
use Rattle.ir_layout.proofs.Seen.{part_some}
use Rattle.ir_layout.proofs.Cuts.{cut_times, cut_up, cut_plus, cut_field}

-- ---- tests

or_four : (a b c d : Bool) → ((a || b) || (c || d)) ≡ ((a || c) || (b || d))
or_four true b c d = refl
or_four false true true d = refl
or_four false true false d = refl
or_four false false true d = refl
or_four false false false d = refl

or_assoc : (a b c : Bool) → ((a || b) || c) ≡ (a || (b || c))
or_assoc true b c = refl
or_assoc false b c = refl

or_none : (a : Bool) → (a || false) ≡ a
or_none true = refl
or_none false = refl

any_append : {X : Type 0} (p : X → Bool) (xs ys : List X) → list_any p (xs ++ ys) ≡ (list_any p xs || list_any p ys)
any_append p [] ys = refl
any_append p (x ∷ xs) ys = ap (λ b. p x || b) (any_append p xs ys) ∙ sym (or_assoc (p x) (list_any p xs) (list_any p ys))

some_is : {A : Type 0} (o : Option A) → is_some o ≡ true → (a : A) × (o ≡ Some a)
some_is None e = absurd (false≢true e)
some_is (Some a) e = (a, refl)

some_map : {A B : Type 0} (f : A → B) (o : Option A) → is_some (option_map f o) ≡ is_some o
some_map f None = refl
some_map f (Some a) = refl

-- ---- alignments

width_align : (w : ℕ) → is_memory_width w ≡ true → 0 < w / 8
width_align w e = pick (or_cases (((w == 8) || (w == 16)) || (w == 32)) (w == 64) e)
  where
    last : ((w == 8) ≡ true) ⊎ ((w == 16) ≡ true) → 0 < w / 8
    last (inl x) = subst (λ v. 0 < v / 8) (sym (eqb-true w 8 x)) (lit< tt)
    last (inr x) = subst (λ v. 0 < v / 8) (sym (eqb-true w 16 x)) (lit< tt)

    next : (((w == 8) || (w == 16)) ≡ true) ⊎ ((w == 32) ≡ true) → 0 < w / 8
    next (inr x) = subst (λ v. 0 < v / 8) (sym (eqb-true w 32 x)) (lit< tt)
    next (inl x) = last (or_cases (w == 8) (w == 16) x)

    pick : ((((w == 8) || (w == 16)) || (w == 32)) ≡ true) ⊎ ((w == 64) ≡ true) → 0 < w / 8
    pick (inr x) = subst (λ v. 0 < v / 8) (sym (eqb-true w 64 x)) (lit< tt)
    pick (inl x) = next (or_cases ((w == 8) || (w == 16)) (w == 32) x)

mutual
  pub align_some : (t : Ty) → 0 < align_of t
  align_some nothing = omega arith
  align_some (integer w) = pick (is_memory_width w) refl
    where
      pick : (b : Bool) → is_memory_width w ≡ b → 0 < (if b then w / 8 else 1)
      pick true e = width_align w e
      pick false e = omega arith
  align_some pointer = omega arith
  align_some (array n t) = align_some t
  align_some (structure ts) = greatest_some ts
  align_some (packed ts) = omega arith
  align_some (named x) = omega arith
  align_some opaque = omega arith

  pub greatest_some : (ts : Tys) → 0 < greatest_align ts
  greatest_some no_types = omega arith
  greatest_some (type_and t ts) = let a = align_some t in omega (arith, a)

-- ---- the part of a type that it is itself

-- a size is over the limit where what is kept of it says so
over_same : (known odd : Bool) (kept size : ℕ) (seen : Bool) → (known ≡ true → kept ≡ cut size) → (known ≡ true → odd ≡ seen) → (known ≡ false → (if seen then 0 else size) ≡ 0)
    → is_over known odd kept ≡ nat_lt 4294967296 (if seen then 0 else size)
over_same false odd kept size seen h o n = sym (ap (λ x. nat_lt 4294967296 x) (n refl))
over_same true odd kept size seen h o n =
    ap (λ b. is_over true b kept) (o refl) ∙ ap (λ x. is_over true seen x) (h refl) ∙ by_seen seen
  where
    by_size : (a : (4294967296 < size) ⊎ (size ≤ 4294967296)) → nat_lt 4294967296 (cut size) ≡ nat_lt 4294967296 size
    by_size (inl l) = lt-ltb 4294967296 (cut size) (omega (arith, l)) ∙ sym (lt-ltb 4294967296 size l)
    by_size (inr l) = le-ltb 4294967296 (cut size) (omega (arith, l)) ∙ sym (le-ltb 4294967296 size l)

    by_seen : (b : Bool) → is_over true b (cut size) ≡ nat_lt 4294967296 (if b then 0 else size)
    by_seen true = refl
    by_seen false = by_size (cases_lt 4294967296 size)

or_swap : (a b : Bool) → (a || b) ≡ (b || a)
or_swap true true = refl
or_swap true false = refl
or_swap false true = refl
or_swap false false = refl

-- ---- types

module _ (types : Types) (look : List ℕ → Fact) where
  wholes : Tys → Option Tys
  wholes ts = wholes_by (stands_for (length types) types) ts

  odd_name : List ℕ → Bool
  odd_name x = has_odd (meant types (named x))

  meant_some : (t : Ty) (u : Ty) → whole types t ≡ Some u → meant types t ≡ u
  meant_some t u e = ap (λ o. unwrap_or o opaque) e

  pub none_size : (t : Ty) → is_some (whole types t) ≡ false → size_or_none types t ≡ 0
  none_size t e = pick (whole types t) refl e
    where
      pick : (o : Option Ty) → whole types t ≡ o → is_some o ≡ false → size_or_none types t ≡ 0
      pick None h f = ap (λ u. if has_odd u then 0 else size_of u) (ap (λ o. unwrap_or o opaque) h)
      pick (Some u) h f = absurd (false≢true (sym f))

  -- what is kept says whether the type itself is over the limit
  own_large : (t : Ty) (known odd : Bool) (size : ℕ) → known ≡ is_some (whole types t) → (known ≡ true → size ≡ cut (size_of (meant types t))) → (known ≡ true → odd ≡ has_odd (meant types t))
      → is_over known odd size ≡ nat_lt 4294967296 (size_or_none types t)
  own_large t known odd size k s o = over_same known odd size (size_of (meant types t)) (has_odd (meant types t)) s o (λ f. none_size t (sym k ∙ f))

  named_fits : (x : List ℕ) (f : Fact) → NameFits types x f → FactFits types (named x) f
  named_fits x f n = record {
    known = n.known;
    size = n.size;
    align = n.align;
    seen = λ k. n.odd;
    odd = n.odd ∙ sym (or_none (has_odd (meant types (named x))));
    bad = λ e. (x, (0, omega arith, refl), n.bad e);
    good = good;
    large = n.large ∙ own_large (named x) f.known f.odd f.size n.known n.size (λ k. n.odd) ∙ sym (or_none (nat_lt 4294967296 (size_or_none types (named x))));
  }
    where
      good : HasBadName types (x ∷ []) → f.bad ≡ true
      good (y, (zero, l, e), b) = n.good (subst (λ z. IsBadName types z) (sym e) b)
      good (y, (suc k, l, e), b) = absurd (omega (arith, l))

  no_bad : (P : Type 0) → HasBadName types [] → P
  no_bad P (x, (k, l, e), b) = absurd (omega (arith, l))

  integer_fits : (w : ℕ) → FactFits types (integer w) (integer_fact w)
  integer_fits w = record {
    known = refl;
    size = λ k. refl;
    align = λ k. refl;
    seen = λ k. sym (or_none (not (is_memory_width w)));
    odd = sym (or_none (not (is_memory_width w))) ∙ sym (or_none (not (is_memory_width w) || false));
    bad = λ e. absurd (false≢true e);
    good = no_bad (false ≡ true);
    large = own_large (integer w) true (not (is_memory_width w)) (cut (w / 8)) refl (λ k. refl) (λ k. sym (or_none (not (is_memory_width w))))
        ∙ sym (or_none (nat_lt 4294967296 (size_or_none types (integer w))));
  }

  array_fits : (n : ℕ) (t : Ty) (f : Fact) → FactFits types t f → FactFits types (array n t) (array_fact n f)
  array_fits n t f h = record {
    known = h.known ∙ sym (some_map (array n) (whole types t));
    size = size;
    align = λ k. h.align k ∙ sym (ap align_of (whole_array k));
    seen = seen;
    odd = h.odd;
    bad = h.bad;
    good = h.good;
    large = ap (λ b. b || is_over f.known f.odd (cut (n * f.size))) h.large
        ∙ or_swap (is_large_within types t) (is_over f.known f.odd (cut (n * f.size)))
        ∙ ap (λ b. b || is_large_within types t) (own_large (array n t) f.known f.odd (cut (n * f.size)) (h.known ∙ sym (some_map (array n) (whole types t))) size seen);
  }
    where
      whole_array : f.known ≡ true → meant types (array n t) ≡ array n (meant types t)
      whole_array k =
          let u = some_is (whole types t) (sym h.known ∙ k) in
          ap (λ o. unwrap_or (option_map (array n) o) opaque) u.1 ∙ sym (ap (λ o. array n (unwrap_or o opaque)) u.1)

      size : f.known ≡ true → cut (n * f.size) ≡ cut (size_of (meant types (array n t)))
      size k = ap (λ s. cut (n * s)) (h.size k) ∙ cut_times n (size_of (meant types t)) ∙ sym (ap (λ u. cut (size_of u)) (whole_array k))

      seen : f.known ≡ true → f.odd ≡ has_odd (meant types (array n t))
      seen k = h.seen k ∙ sym (ap has_odd (whole_array k))

  -- what is kept of fields, beside where they end
  record Shares (ts : Tys) (all r : Fact) : Type 0 where
    known : r.known ≡ (all.known && is_some (wholes_by (stands_for (length types) types) ts))
    seen : (us : Tys) → wholes_by (stands_for (length types) types) ts ≡ Some us → r.odd ≡ (all.odd || list_any is_odd (all_parts_of us))
    odd : r.odd ≡ (all.odd || (list_any is_odd (all_parts_of ts) || list_any (λ x. has_odd (meant types (named x))) (all_names_in ts)))
    bad : r.bad ≡ true → (all.bad ≡ true) ⊎ HasBadName types (all_names_in ts)
    good : (all.bad ≡ true) ⊎ HasBadName types (all_names_in ts) → r.bad ≡ true
    large : r.large ≡ (all.large || list_any (λ p. nat_lt 4294967296 (size_or_none types p)) (all_parts_of ts))

  shares_none : (all : Fact) → Shares no_types all all
  shares_none all = record {
    known = and_true all.known;
    seen = λ us e. sym (ap (λ vs. all.odd || list_any is_odd (all_parts_of vs)) (sym (same us e)) ∙ or_none all.odd);
    odd = sym (or_none all.odd);
    bad = λ e. inl e;
    good = good;
    large = sym (or_none all.large);
  }
    where
      and_true : (b : Bool) → b ≡ (b && true)
      and_true true = refl
      and_true false = refl

      same : (us : Tys) → Some no_types ≡ Some us → no_types ≡ us
      same us e = cc

      good : (all.bad ≡ true) ⊎ HasBadName types [] → all.bad ≡ true
      good (inl e) = e
      good (inr h) = no_bad (all.bad ≡ true) h

  shares_more : (t : Ty) (ts : Tys) (f all more r : Fact) → FactFits types t f → Shares ts more r → more.known ≡ (all.known && f.known) → more.odd ≡ (all.odd || f.odd)
      → more.bad ≡ (all.bad || f.bad) → more.large ≡ (all.large || f.large) → Shares (type_and t ts) all r
  shares_more t ts f all more r h s k o b l = record {
    known = s.known ∙ ap (λ x. x && is_some (wholes_by (stands_for (length types) types) ts)) (k ∙ ap (λ x. all.known && x) h.known)
        ∙ parted all.known (whole types t) (wholes_by (stands_for (length types) types) ts);
    seen = seen;
    odd = s.odd ∙ ap (λ x. x || (list_any is_odd (all_parts_of ts) || list_any (λ x. has_odd (meant types (named x))) (all_names_in ts))) (o ∙ ap (λ x. all.odd || x) h.odd)
        ∙ or_assoc all.odd (has_odd_within types t) (list_any is_odd (all_parts_of ts) || list_any (λ x. has_odd (meant types (named x))) (all_names_in ts))
        ∙ ap (λ x. all.odd || x) (or_four (has_odd t) (list_any (λ x. has_odd (meant types (named x))) (names_in t)) (list_any is_odd (all_parts_of ts)) (list_any (λ x. has_odd (meant types (named x))) (all_names_in ts))
        ∙ sym (ap (λ x. x || list_any (λ x. has_odd (meant types (named x))) (names_in t ++ all_names_in ts)) (any_append is_odd (parts_of t) (all_parts_of ts))
        ∙ ap (λ x. (has_odd t || list_any is_odd (all_parts_of ts)) || x) (any_append (λ x. has_odd (meant types (named x))) (names_in t) (all_names_in ts))));
    bad = λ e. bad (s.bad e);
    good = λ e. s.good (good e);
    large = s.large ∙ ap (λ x. x || list_any (λ p. nat_lt 4294967296 (size_or_none types p)) (all_parts_of ts)) (l ∙ ap (λ x. all.large || x) h.large)
        ∙ or_assoc all.large (is_large_within types t) (list_any (λ p. nat_lt 4294967296 (size_or_none types p)) (all_parts_of ts))
        ∙ ap (λ x. all.large || x) (sym (any_append (λ p. nat_lt 4294967296 (size_or_none types p)) (parts_of t) (all_parts_of ts)));
  }
    where
      parted : (a : Bool) (p : Option Ty) (q : Option Tys) → ((a && is_some p) && is_some q) ≡ (a && is_some (with_part p q))
      parted true None q = refl
      parted true (Some p) None = refl
      parted true (Some p) (Some q) = refl
      parted false p q = refl

      seen : (us : Tys) → with_part (whole types t) (wholes_by (stands_for (length types) types) ts) ≡ Some us → r.odd ≡ (all.odd || list_any is_odd (all_parts_of us))
      seen us e =
          let p = part_some (whole types t) (wholes_by (stands_for (length types) types) ts) us e in
          let own : f.odd ≡ has_odd p.0 = h.seen (h.known ∙ ap is_some p.2) ∙ ap has_odd (meant_some t p.0 p.2) in
          s.seen p.1 p.3 ∙ ap (λ x. x || list_any is_odd (all_parts_of p.1)) (o ∙ ap (λ x. all.odd || x) own)
          ∙ or_assoc all.odd (has_odd p.0) (list_any is_odd (all_parts_of p.1))
          ∙ ap (λ x. all.odd || x) (sym (any_append is_odd (parts_of p.0) (all_parts_of p.1)))
          ∙ ap (λ vs. all.odd || list_any is_odd (all_parts_of vs)) p.4

      bad : (more.bad ≡ true) ⊎ HasBadName types (all_names_in ts) → (all.bad ≡ true) ⊎ HasBadName types (names_in t ++ all_names_in ts)
      bad (inr (x, c, z)) = inr (x, Contains-append_right (names_in t) (all_names_in ts) x c, z)
      bad (inl e) = pick (or_cases all.bad f.bad (sym b ∙ e))
        where
          pick : (all.bad ≡ true) ⊎ (f.bad ≡ true) → (all.bad ≡ true) ⊎ HasBadName types (names_in t ++ all_names_in ts)
          pick (inl x) = inl x
          pick (inr x) = let n = h.bad x in inr (n.0, Contains-append_left (names_in t) (all_names_in ts) n.0 n.1, n.2)

      good : (all.bad ≡ true) ⊎ HasBadName types (names_in t ++ all_names_in ts) → (more.bad ≡ true) ⊎ HasBadName types (all_names_in ts)
      good (inl e) = inl (b ∙ or_left all.bad f.bad e)
      good (inr (x, c, z)) = pick (Contains-append_cases (names_in t) (all_names_in ts) x c)
        where
          pick : Contains (names_in t) x ⊎ Contains (all_names_in ts) x → (more.bad ≡ true) ⊎ HasBadName types (all_names_in ts)
          pick (inl d) = inl (b ∙ or_right all.bad f.bad (h.good (x, d, z)))
          pick (inr d) = inr (x, d, z)

  record FieldsFit (ts : Tys) (all r : Fact) : Type 0 where
    shared : Shares ts all r
    size : (at : ℕ) (us : Tys) → wholes_by (stands_for (length types) types) ts ≡ Some us → all.size ≡ cut at → r.size ≡ cut (end_of at us)
    align : (us : Tys) → wholes_by (stands_for (length types) types) ts ≡ Some us → 0 < all.align → r.align ≡ max all.align (greatest_align us)

  record PackedFit (ts : Tys) (all r : Fact) : Type 0 where
    shared : Shares ts all r
    size : (at : ℕ) (us : Tys) → wholes_by (stands_for (length types) types) ts ≡ Some us → all.size ≡ cut at → r.size ≡ cut (packed_end_of at us)

  fields_none : (all : Fact) → FieldsFit no_types all all
  fields_none all = record {
    shared = shares_none all;
    size = λ at us e s. s ∙ ap (λ vs. cut (end_of at vs)) (same us e);
    align = λ us e a. align us (same us e) a;
  }
    where
      same : (us : Tys) → Some no_types ≡ Some us → no_types ≡ us
      same us e = cc

      align : (us : Tys) → no_types ≡ us → 0 < all.align → all.align ≡ max all.align (greatest_align us)
      align us e a = subst (λ vs. all.align ≡ max all.align (greatest_align vs)) e (omega (arith, a))

  packed_none : (all : Fact) → PackedFit no_types all all
  packed_none all = record {
    shared = shares_none all;
    size = λ at us e s. s ∙ ap (λ vs. cut (packed_end_of at vs)) (same us e);
  }
    where
      same : (us : Tys) → Some no_types ≡ Some us → no_types ≡ us
      same us e = cc

  fields_more : (t : Ty) (ts : Tys) (f all r : Fact) → FactFits types t f → FieldsFit ts (with_field all f) r → FieldsFit (type_and t ts) all r
  fields_more t ts f all r h s = record {
    shared = shares_more t ts f all (with_field all f) r h s.shared refl refl refl refl;
    size = size;
    align = align;
  }
    where
      size : (at : ℕ) (us : Tys) → with_part (whole types t) (wholes_by (stands_for (length types) types) ts) ≡ Some us → all.size ≡ cut at → r.size ≡ cut (end_of at us)
      size at us e begun =
          let p = part_some (whole types t) (wholes_by (stands_for (length types) types) ts) us e in
          let is : f.known ≡ true = h.known ∙ ap is_some p.2 in
          let own : f.size ≡ cut (size_of p.0) = h.size is ∙ ap (λ u. cut (size_of u)) (meant_some t p.0 p.2) in
          let aligned : f.align ≡ align_of p.0 = h.align is ∙ ap align_of (meant_some t p.0 p.2) in
          let here : cut (up_to f.align all.size + f.size) ≡ cut (up_to (align_of p.0) at + size_of p.0) =
          ap (λ a. cut (up_to a all.size + f.size)) aligned ∙ ap (λ n. cut (up_to (align_of p.0) n + f.size)) begun
          ∙ ap (λ n. cut (up_to (align_of p.0) (cut at) + n)) own ∙ cut_field (align_of p.0) at (size_of p.0) (align_some p.0) in
          s.size (up_to (align_of p.0) at + size_of p.0) p.1 p.3 here ∙ ap (λ vs. cut (end_of at vs)) p.4

      align : (us : Tys) → with_part (whole types t) (wholes_by (stands_for (length types) types) ts) ≡ Some us → 0 < all.align → r.align ≡ max all.align (greatest_align us)
      align us e some =
          let p = part_some (whole types t) (wholes_by (stands_for (length types) types) ts) us e in
          let aligned : f.align ≡ align_of p.0 = h.align (h.known ∙ ap is_some p.2) ∙ ap align_of (meant_some t p.0 p.2) in
          let rest : r.align ≡ max (max all.align f.align) (greatest_align p.1) = s.align p.1 p.3 (more all.align f.align some) in
          rest ∙ ap (λ a. max (max all.align a) (greatest_align p.1)) aligned ∙ grouped all.align (align_of p.0) (greatest_align p.1)
          ∙ ap (λ vs. max all.align (greatest_align vs)) p.4
        where
          more : (a b : ℕ) → 0 < a → 0 < max a b
          more a b l = omega (arith, l)

          grouped : (a b c : ℕ) → max (max a b) c ≡ max a (max b c)
          grouped a b c = omega arith

  packed_more : (t : Ty) (ts : Tys) (f all r : Fact) → FactFits types t f → PackedFit ts (with_packed all f) r → PackedFit (type_and t ts) all r
  packed_more t ts f all r h s = record {
    shared = shares_more t ts f all (with_packed all f) r h s.shared refl refl refl refl;
    size = size;
  }
    where
      size : (at : ℕ) (us : Tys) → with_part (whole types t) (wholes_by (stands_for (length types) types) ts) ≡ Some us → all.size ≡ cut at → r.size ≡ cut (packed_end_of at us)
      size at us e begun =
          let p = part_some (whole types t) (wholes_by (stands_for (length types) types) ts) us e in
          let own : f.size ≡ cut (size_of p.0) = h.size (h.known ∙ ap is_some p.2) ∙ ap (λ u. cut (size_of u)) (meant_some t p.0 p.2) in
          let here : cut (all.size + f.size) ≡ cut (at + size_of p.0) = ap (λ n. cut (n + f.size)) begun ∙ ap (λ n. cut (cut at + n)) own ∙ cut_plus at (size_of p.0) in
          s.size (at + size_of p.0) p.1 p.3 here ∙ ap (λ vs. cut (packed_end_of at vs)) p.4

  whole_struct : (make : Tys → Ty) (ts : Tys) (known : Bool) → known ≡ is_some (wholes_by (stands_for (length types) types) ts) → known ≡ true
      → (us : Tys) × (wholes_by (stands_for (length types) types) ts ≡ Some us) × (unwrap_or (option_map make (wholes_by (stands_for (length types) types) ts)) opaque ≡ make us)
  whole_struct make ts known is k =
      let u = some_is (wholes_by (stands_for (length types) types) ts) (sym is ∙ k) in
      (u.0, u.1, ap (λ o. unwrap_or (option_map make o) opaque) u.1)

  struct_fits : (ts : Tys) (all : Fact) → FieldsFit ts no_fields all → FactFits types (structure ts) (struct_fact all)
  struct_fits ts all s = record {
    known = s.shared.known ∙ sym (some_map structure (wholes_by (stands_for (length types) types) ts));
    size = size;
    align = align;
    seen = seen;
    odd = s.shared.odd;
    bad = λ e. bad (s.shared.bad e);
    good = λ e. s.shared.good (inr e);
    large = ap (λ b. b || is_over all.known all.odd (cut (up_to all.align all.size))) s.shared.large
        ∙ or_swap (list_any (λ p. nat_lt 4294967296 (size_or_none types p)) (all_parts_of ts)) (is_over all.known all.odd (cut (up_to all.align all.size)))
        ∙ ap (λ b. b || list_any (λ p. nat_lt 4294967296 (size_or_none types p)) (all_parts_of ts))
        (own_large (structure ts) all.known all.odd (cut (up_to all.align all.size)) (s.shared.known ∙ sym (some_map structure (wholes_by (stands_for (length types) types) ts))) size seen);
  }
    where
      bad : (false ≡ true) ⊎ HasBadName types (all_names_in ts) → HasBadName types (all_names_in ts)
      bad (inl e) = absurd (false≢true e)
      bad (inr e) = e

      aligned : (us : Tys) → wholes_by (stands_for (length types) types) ts ≡ Some us → all.align ≡ greatest_align us
      aligned us e = let a : all.align ≡ max 1 (greatest_align us) = s.align us e (lit< tt) in omega (arith, a, greatest_some us)

      align : all.known ≡ true → all.align ≡ align_of (meant types (structure ts))
      align k = let u = whole_struct structure ts all.known s.shared.known k in aligned u.0 u.1 ∙ sym (ap align_of u.2)

      size : all.known ≡ true → cut (up_to all.align all.size) ≡ cut (size_of (meant types (structure ts)))
      size k =
          let u = whole_struct structure ts all.known s.shared.known k in
          ap (λ a. cut (up_to a all.size)) (aligned u.0 u.1) ∙ ap (λ n. cut (up_to (greatest_align u.0) n)) (s.size 0 u.0 u.1 refl)
          ∙ cut_up (greatest_align u.0) (end_of 0 u.0) (greatest_some u.0) ∙ sym (ap (λ v. cut (size_of v)) u.2)

      seen : all.known ≡ true → all.odd ≡ has_odd (meant types (structure ts))
      seen k = let u = whole_struct structure ts all.known s.shared.known k in s.shared.seen u.0 u.1 ∙ sym (ap has_odd u.2)

  packed_fits : (ts : Tys) (all : Fact) → PackedFit ts no_fields all → FactFits types (packed ts) (packed_fact all)
  packed_fits ts all s = record {
    known = s.shared.known ∙ sym (some_map packed (wholes_by (stands_for (length types) types) ts));
    size = size;
    align = λ k. let u = whole_struct packed ts all.known s.shared.known k in sym (ap align_of u.2);
    seen = seen;
    odd = s.shared.odd;
    bad = λ e. bad (s.shared.bad e);
    good = λ e. s.shared.good (inr e);
    large = ap (λ b. b || is_over all.known all.odd all.size) s.shared.large
        ∙ or_swap (list_any (λ p. nat_lt 4294967296 (size_or_none types p)) (all_parts_of ts)) (is_over all.known all.odd all.size)
        ∙ ap (λ b. b || list_any (λ p. nat_lt 4294967296 (size_or_none types p)) (all_parts_of ts))
        (own_large (packed ts) all.known all.odd all.size (s.shared.known ∙ sym (some_map packed (wholes_by (stands_for (length types) types) ts))) size seen);
  }
    where
      bad : (false ≡ true) ⊎ HasBadName types (all_names_in ts) → HasBadName types (all_names_in ts)
      bad (inl e) = absurd (false≢true e)
      bad (inr e) = e

      size : all.known ≡ true → all.size ≡ cut (size_of (meant types (packed ts)))
      size k = let u = whole_struct packed ts all.known s.shared.known k in s.size 0 u.0 u.1 refl ∙ sym (ap (λ v. cut (size_of v)) u.2)

      seen : all.known ≡ true → all.odd ≡ has_odd (meant types (packed ts))
      seen k = let u = whole_struct packed ts all.known s.shared.known k in s.shared.seen u.0 u.1 ∙ sym (ap has_odd u.2)

  nothing_fits : FactFits types nothing (scalar_fact 0 1 false)
  nothing_fits = record {
    known = refl;
    size = λ k. refl;
    align = λ k. refl;
    seen = λ k. refl;
    odd = refl;
    bad = λ e. absurd (false≢true e);
    good = no_bad (false ≡ true);
    large = refl;
  }

  pointer_fits : FactFits types pointer (scalar_fact 8 8 false)
  pointer_fits = record {
    known = refl;
    size = λ k. refl;
    align = λ k. refl;
    seen = λ k. refl;
    odd = refl;
    bad = λ e. absurd (false≢true e);
    good = no_bad (false ≡ true);
    large = refl;
  }

  opaque_fits : FactFits types opaque opaque_fact
  opaque_fits = record {
    known = refl;
    size = λ k. absurd (false≢true k);
    align = λ k. absurd (false≢true k);
    seen = λ k. absurd (false≢true k);
    odd = refl;
    bad = λ e. absurd (false≢true e);
    good = no_bad (false ≡ true);
    large = refl;
  }

  mutual
    pub fits : (t : Ty) → ((x : List ℕ) → Contains (names_in t) x → NameFits types x (look x)) → FactFits types t (fact_by look t)
    fits nothing g = nothing_fits
    fits (integer w) g = integer_fits w
    fits pointer g = pointer_fits
    fits (array n t) g = array_fits n t (fact_by look t) (fits t g)
    fits (structure ts) g = struct_fits ts (fields_by look no_fields ts) (fields_fit ts no_fields g)
    fits (packed ts) g = packed_fits ts (packed_by look no_fields ts) (packed_fit ts no_fields g)
    fits (named x) g = named_fits x (look x) (g x (0, omega arith, refl))
    fits opaque g = opaque_fits

    fields_fit : (ts : Tys) (all : Fact) → ((x : List ℕ) → Contains (all_names_in ts) x → NameFits types x (look x)) → FieldsFit ts all (fields_by look all ts)
    fields_fit no_types all g = fields_none all
    fields_fit (type_and t ts) all g =
        fields_more t ts (fact_by look t) all (fields_by look (with_field all (fact_by look t)) ts)
        (fits t (λ x c. g x (Contains-append_left (names_in t) (all_names_in ts) x c)))
        (fields_fit ts (with_field all (fact_by look t)) (λ x c. g x (Contains-append_right (names_in t) (all_names_in ts) x c)))

    packed_fit : (ts : Tys) (all : Fact) → ((x : List ℕ) → Contains (all_names_in ts) x → NameFits types x (look x)) → PackedFit ts all (packed_by look all ts)
    packed_fit no_types all g = packed_none all
    packed_fit (type_and t ts) all g =
        packed_more t ts (fact_by look t) all (packed_by look (with_packed all (fact_by look t)) ts)
        (fits t (λ x c. g x (Contains-append_left (names_in t) (all_names_in ts) x c)))
        (packed_fit ts (with_packed all (fact_by look t)) (λ x c. g x (Contains-append_right (names_in t) (all_names_in ts) x c)))
