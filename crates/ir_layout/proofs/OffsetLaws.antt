-- Where fields are kept to stand is where they stand.
use Rattle.std.proofs.Common.{◌≡◌, ℕ, zero, suc, ◌+◌, ◌<◌, ◌≤◌, true, false, Option, Some, None, option_map, List, length, refl, sym, ◌∙◌, ap, subst, arith}
use Rattle.std.specs.Prelude.{is_some, unwrap_or, slice_index}
use Rattle.std.proofs.lemmas.Bool.{false≢true}
use Rattle.ir_ast.specs.Plain.{Ty, Tys, nothing, integer, pointer, array, structure, packed, named, opaque, no_types, type_and}
use Rattle.ir_type.specs.Whole.{Types, wholes_by, stands_for, whole, meant}
use Rattle.ir_layout.specs.declared.fact.Fact.{Fact}
use Rattle.ir_layout.specs.Sizes.{up_to, size_of, align_of, greatest_align, end_of, packed_end_of, offset_in, packed_offset_in, field_offset}
use Rattle.ir_layout.specs.Facts.{cut, fact_by, no_fields, with_field, with_packed, FactFits}
use Rattle.ir_layout.specs.Offsets.{offsets_by, packed_offsets_by, offsets_of, count_in, fields_in, is_named}
use Rattle.ir_layout.proofs.Seen.{part_some}
use Rattle.ir_layout.proofs.Cuts.{up_most}
use Rattle.ir_layout.proofs.FactLaws.{align_some, greatest_some}

pub end_least : (at : ℕ) (us : Tys) → at ≤ end_of at us
end_least at no_types = omega arith
end_least at (type_and t ts) =
    let rest : up_to (align_of t) at + size_of t ≤ end_of (up_to (align_of t) at + size_of t) ts = end_least (up_to (align_of t) at + size_of t) ts in
    let up : at ≤ up_to (align_of t) at = up_most (align_of t) at (align_some t) in
    over at (up_to (align_of t) at) (size_of t) (end_of (up_to (align_of t) at + size_of t) ts) up rest
  where
    over : (a b s e : ℕ) → a ≤ b → b + s ≤ e → a ≤ e
    over a b s e l m = omega (arith, l, m)

pub packed_least : (at : ℕ) (us : Tys) → at ≤ packed_end_of at us
packed_least at no_types = omega arith
packed_least at (type_and t ts) = over at (size_of t) (packed_end_of (at + size_of t) ts) (packed_least (at + size_of t) ts)
  where
    over : (a s e : ℕ) → a + s ≤ e → a ≤ e
    over a s e l = omega (arith, l)

pub exact : (n : ℕ) → n ≤ 4294967296 → cut n ≡ n
exact n l = omega (arith, l)

module _ (types : Types) (look : List ℕ → Fact) (fit : (t : Ty) → FactFits types t (fact_by look t)) where
  -- what is kept of a field of this type
  record IsPart (t a : Ty) : Type 0 where
    size : size_of a ≤ 4294967296 → (fact_by look t).size ≡ size_of a
    align : (fact_by look t).align ≡ align_of a

  part_is : (t a : Ty) → whole types t ≡ Some a → IsPart t a
  part_is t a e =
      let known : (fact_by look t).known ≡ true = (fit t).known ∙ ap is_some e in
      let same : meant types t ≡ a = ap (λ o. unwrap_or o opaque) e in
      record {
        size = λ l. (fit t).size known ∙ ap (λ u. cut (size_of u)) same ∙ exact (size_of a) l;
        align = (fit t).align known ∙ ap align_of same;
      }

  offsets_fit : (ts : Tys) (all : Fact) (at : ℕ) (us : Tys) → wholes_by (stands_for (length types) types) ts ≡ Some us → all.size ≡ at → end_of at us ≤ 4294967296 → (k : ℕ) → k < count_in us
      → slice_index (offsets_by look all ts) k ≡ offset_in at us k
  offsets_fit no_types all at us e s l k b = absurd (none us (same e) b)
    where
      same : Some no_types ≡ Some us → no_types ≡ us
      same e = cc

      none : (us : Tys) → no_types ≡ us → k < count_in us → ⊥
      none us e b = let c = subst (λ vs. k < count_in vs) (sym e) b in omega (arith, c)
  offsets_fit (type_and t ts) all at us e s l k b =
      let p = part_some (whole types t) (wholes_by (stands_for (length types) types) ts) us e in
      subst (λ vs. slice_index (offsets_by look all (type_and t ts)) k ≡ offset_in at vs k) p.4
      (one p.0 p.1 (part_is t p.0 p.2) k (subst (λ vs. end_of at vs ≤ 4294967296) (sym p.4) l) (subst (λ vs. k < count_in vs) (sym p.4) b)
      (λ j n m i c. offsets_fit ts (with_field all (fact_by look t)) n p.1 p.3 m i j c))
    where
      one : (a : Ty) (bs : Tys) → IsPart t a → (k : ℕ) → end_of at (type_and a bs) ≤ 4294967296 → k < count_in (type_and a bs)
          → ((j n : ℕ) → cut (up_to (fact_by look t).align all.size + (fact_by look t).size) ≡ n → end_of n bs ≤ 4294967296 → j < count_in bs → slice_index (offsets_by look (with_field all (fact_by look t)) ts) j ≡ offset_in n bs j)
          → slice_index (offsets_by look all (type_and t ts)) k ≡ offset_in at (type_and a bs) k
      one a bs h zero l b rest = ap (λ x. up_to x all.size) h.align ∙ ap (up_to (align_of a)) s
      one a bs h (suc j) l b rest =
          let next : up_to (align_of a) at + size_of a ≤ 4294967296 = under (up_to (align_of a) at + size_of a) (end_of (up_to (align_of a) at + size_of a) bs) (end_least (up_to (align_of a) at + size_of a) bs) l in
          rest j (up_to (align_of a) at + size_of a)
          (ap (λ x. cut (up_to x all.size + (fact_by look t).size)) h.align
          ∙ ap (λ x. cut (up_to (align_of a) x + (fact_by look t).size)) s
          ∙ ap (λ x. cut (up_to (align_of a) at + x)) (h.size (part (up_to (align_of a) at) (size_of a) next))
          ∙ exact (up_to (align_of a) at + size_of a) next)
          l (fewer j (count_in bs) b)
        where
          under : (x y : ℕ) → x ≤ y → y ≤ 4294967296 → x ≤ 4294967296
          under x y l m = omega (arith, l, m)

          part : (x y : ℕ) → x + y ≤ 4294967296 → y ≤ 4294967296
          part x y l = omega (arith, l)

          fewer : (j n : ℕ) → suc j < 1 + n → j < n
          fewer j n l = omega (arith, l)

  packed_fit : (ts : Tys) (all : Fact) (at : ℕ) (us : Tys) → wholes_by (stands_for (length types) types) ts ≡ Some us → all.size ≡ at → packed_end_of at us ≤ 4294967296 → (k : ℕ) → k < count_in us
      → slice_index (packed_offsets_by look all ts) k ≡ packed_offset_in at us k
  packed_fit no_types all at us e s l k b = absurd (none us (same e) b)
    where
      same : Some no_types ≡ Some us → no_types ≡ us
      same e = cc

      none : (us : Tys) → no_types ≡ us → k < count_in us → ⊥
      none us e b = let c = subst (λ vs. k < count_in vs) (sym e) b in omega (arith, c)
  packed_fit (type_and t ts) all at us e s l k b =
      let p = part_some (whole types t) (wholes_by (stands_for (length types) types) ts) us e in
      subst (λ vs. slice_index (packed_offsets_by look all (type_and t ts)) k ≡ packed_offset_in at vs k) p.4
      (one p.0 p.1 (part_is t p.0 p.2) k (subst (λ vs. packed_end_of at vs ≤ 4294967296) (sym p.4) l) (subst (λ vs. k < count_in vs) (sym p.4) b)
      (λ j n m i c. packed_fit ts (with_packed all (fact_by look t)) n p.1 p.3 m i j c))
    where
      one : (a : Ty) (bs : Tys) → IsPart t a → (k : ℕ) → packed_end_of at (type_and a bs) ≤ 4294967296 → k < count_in (type_and a bs)
          → ((j n : ℕ) → cut (all.size + (fact_by look t).size) ≡ n → packed_end_of n bs ≤ 4294967296 → j < count_in bs → slice_index (packed_offsets_by look (with_packed all (fact_by look t)) ts) j ≡ packed_offset_in n bs j)
          → slice_index (packed_offsets_by look all (type_and t ts)) k ≡ packed_offset_in at (type_and a bs) k
      one a bs h zero l b rest = s
      one a bs h (suc j) l b rest =
          let next : at + size_of a ≤ 4294967296 = under (at + size_of a) (packed_end_of (at + size_of a) bs) (packed_least (at + size_of a) bs) l in
          rest j (at + size_of a)
          (ap (λ x. cut (x + (fact_by look t).size)) s ∙ ap (λ x. cut (at + x)) (h.size (part at (size_of a) next)) ∙ exact (at + size_of a) next)
          l (fewer j (count_in bs) b)
        where
          under : (x y : ℕ) → x ≤ y → y ≤ 4294967296 → x ≤ 4294967296
          under x y l m = omega (arith, l, m)

          part : (x y : ℕ) → x + y ≤ 4294967296 → y ≤ 4294967296
          part x y l = omega (arith, l)

          fewer : (j n : ℕ) → suc j < 1 + n → j < n
          fewer j n l = omega (arith, l)

  -- the fields of a type that is spelled without a name in its place
  pub fields_fit : (t : Ty) → is_named t ≡ false → size_of (meant types t) ≤ 4294967296 → (k : ℕ) → k < fields_in (meant types t) → slice_index (offsets_of look t) k ≡ field_offset (meant types t) k
  fields_fit nothing n l k b = absurd (omega (arith, b))
  fields_fit (integer w) n l k b = absurd (omega (arith, b))
  fields_fit pointer n l k b = absurd (omega (arith, b))
  fields_fit (array m t) n l k b = absurd (pick (whole types t) b)
    where
      pick : (o : Option Ty) → k < fields_in (unwrap_or (option_map (array m) o) opaque) → ⊥
      pick None b = omega (arith, b)
      pick (Some u) b = omega (arith, b)
  fields_fit (structure ts) n l k b = pick (wholes_by (stands_for (length types) types) ts) refl l b
    where
      pick : (o : Option Tys) → wholes_by (stands_for (length types) types) ts ≡ o → size_of (unwrap_or (option_map structure o) opaque) ≤ 4294967296 → k < fields_in (unwrap_or (option_map structure o) opaque)
          → slice_index (offsets_by look no_fields ts) k ≡ field_offset (unwrap_or (option_map structure o) opaque) k
      pick None e l b = absurd (omega (arith, b))
      pick (Some us) e l b = offsets_fit ts no_fields 0 us e refl (under (end_of 0 us) (up_to (greatest_align us) (end_of 0 us)) (up_most (greatest_align us) (end_of 0 us) (greatest_some us)) l) k b
        where
          under : (x y : ℕ) → x ≤ y → y ≤ 4294967296 → x ≤ 4294967296
          under x y l m = omega (arith, l, m)
  fields_fit (packed ts) n l k b = pick (wholes_by (stands_for (length types) types) ts) refl l b
    where
      pick : (o : Option Tys) → wholes_by (stands_for (length types) types) ts ≡ o → size_of (unwrap_or (option_map packed o) opaque) ≤ 4294967296 → k < fields_in (unwrap_or (option_map packed o) opaque)
          → slice_index (packed_offsets_by look no_fields ts) k ≡ field_offset (unwrap_or (option_map packed o) opaque) k
      pick None e l b = absurd (omega (arith, b))
      pick (Some us) e l b = packed_fit ts no_fields 0 us e refl l k b
  fields_fit (named x) n l k b = absurd (false≢true (sym n))
  fields_fit opaque n l k b = absurd (omega (arith, b))
