-- The initial bytes of an initialiser that fits its type are as many as the type has, and they are the bytes that are written.
use Rattle.std.proofs.Common.{◌≡◌, ℕ, zero, suc, ◌+◌, ◌-◌, ◌*◌, ◌<◌, ◌≤◌, ℤ, pos, true, not, ◌&&◌, Option, Some, None, List, [], ◌∷◌, ◌++◌, length, take, refl, sym, ◌∙◌, ap, subst, arith, append_assoc, length-append}
use Rattle.std.specs.Prelude.{◌==◌, min, is_some, unwrap_or, replicate}
use Rattle.std.proofs.lemmas.Bool.{false≢true, and_parts, eqb-true, eqb-false, not-true}
use Rattle.std.proofs.lemmas.List.{length-replicate, length-take, append-nil}
use Rattle.ir_ast.specs.Plain.{Ty, Tys, nothing, integer, pointer, array, structure, packed, opaque, no_types, type_and, Ini, Inis, zero_init, number_init, truth_init, bytes_init, array_init, structure_init, packed_init, pointer_init, no_inits, init_and}
use Rattle.ir_type.specs.Whole.{Types, whole, meant, is_same, are_same}
use Rattle.ir_layout.specs.declared.fact.Fact.{Fact}
use Rattle.ir_layout.specs.Sizes.{up_to, size_of, align_of, greatest_align, end_of, packed_end_of}
use Rattle.ir_layout.specs.Facts.{cut, fact_by, no_fields, with_field, FactFits}
use Rattle.ir_layout.specs.Initial.{modulo, truth, zeros, bytes_of, element_bytes, field_bytes, packed_bytes}
use Rattle.ir_layout.specs.InitFits.{init_fits, elements_fit, fields_fit}
use Rattle.ir_layout.specs.Writing.{magnitude, is_below_zero, signed_bytes, zeros_onto, number_onto, bytes_onto, write, write_parts, write_fields}
use Rattle.ir_layout.proofs.Cuts.{up_most}
use Rattle.ir_layout.proofs.FactLaws.{align_some, greatest_some}
use Rattle.ir_layout.proofs.OffsetLaws.{end_least, packed_least, exact}
use Rattle.ir_layout.proofs.Endian.{number_bytes, plain_bytes, endian_length, signed_length}

-- ---- equal types are one type

mutual
  pub same_is : (a b : Ty) → is_same a b ≡ true → a ≡ b
  same_is nothing nothing e = refl
  same_is (integer v) (integer w) e = ap integer (eqb-true v w e)
  same_is pointer pointer e = refl
  same_is (array m t) (array n u) e =
      let p = and_parts (m == n) (is_same t u) e in
      ap (λ k. array k t) (eqb-true m n p.0) ∙ ap (array n) (same_is t u p.1)
  same_is (structure ts) (structure us) e = ap structure (same_are ts us e)
  same_is (packed ts) (packed us) e = ap packed (same_are ts us e)
  same_is _ _ e = absurd (false≢true e)

  same_are : (ts us : Tys) → are_same ts us ≡ true → ts ≡ us
  same_are no_types no_types e = refl
  same_are (type_and t ts) (type_and u us) e =
      let p = and_parts (is_same t u) (are_same ts us) e in
      ap (λ v. type_and v ts) (same_is t u p.0) ∙ ap (type_and u) (same_are ts us p.1)
  same_are _ _ e = absurd (false≢true e)

byte_size : (t : Ty) → is_same t (integer 8) ≡ true → size_of t ≡ 1
byte_size t e = ap size_of (same_is t (integer 8) e)

-- ---- as many bytes as the type has

module _ (types : Types) where
  zeros_long : (n : ℕ) → length (zeros n) ≡ n
  zeros_long n = length-replicate n 0

  elements_more : (n s : ℕ) → 0 < n → s + (n - 1) * s ≡ n * s
  elements_more zero s l = absurd (omega (arith, l))
  elements_more (suc n) s l =
      let m : suc n - 1 ≡ n = omega arith in
      ap (λ k. s + k * s) m ∙ omega arith

  mutual
    pub init_long : (t : Ty) (i : Ini) → init_fits types t i ≡ true → length (bytes_of t i) ≡ size_of t
    init_long t zero_init h = zeros_long (size_of t)
    init_long t (number_init n) h = endian_length (size_of t) (modulo (8 * size_of t) n)
    init_long t (truth_init b) h = endian_length (size_of t) (truth b)
    init_long t pointer_init h = zeros_long (size_of t)
    init_long (array n t) (bytes_init bs) h =
        let p = and_parts (is_same t (integer 8)) (n == length bs) h in
        sym (eqb-true n (length bs) p.1) ∙ (let e : n ≡ n * 1 = omega arith in e) ∙ sym (ap (λ s. n * s) (byte_size t p.0))
    init_long (array n t) (array_init is) h = elements_long n t is h
    init_long (structure ts) (structure_init is) h =
        let most : end_of 0 ts ≤ size_of (structure ts) = up_most (greatest_align ts) (end_of 0 ts) (greatest_some ts) in
        fields_long (size_of (structure ts)) 0 ts is h most ∙ (let e : size_of (structure ts) - 0 ≡ size_of (structure ts) = omega arith in e)
    init_long (packed ts) (packed_init is) h = (let e : length (packed_bytes ts is) ≡ 0 + length (packed_bytes ts is) = omega arith in e) ∙ packed_long 0 ts is h
    init_long _ _ h = absurd (false≢true h)

    elements_long : (n : ℕ) (t : Ty) (is : Inis) → elements_fit types n t is ≡ true → length (element_bytes t is) ≡ n * size_of t
    elements_long n t no_inits h = (let e : 0 ≡ 0 * size_of t = omega arith in e) ∙ ap (λ k. k * size_of t) (sym (eqb-true n 0 h))
    elements_long n t (init_and over i is) h =
        let p = and_parts (not (n == 0) && is_same (meant types over) t && init_fits types t i) (elements_fit types (n - 1) t is) h in
        let q = and_parts (not (n == 0) && is_same (meant types over) t) (init_fits types t i) p.0 in
        let r = and_parts (not (n == 0)) (is_same (meant types over) t) q.0 in
        length-append (bytes_of t i) (element_bytes t is) ∙ ap (λ k. k + length (element_bytes t is)) (init_long t i q.1)
        ∙ ap (λ k. size_of t + k) (elements_long (n - 1) t is p.1) ∙ elements_more n (size_of t) (some n (eqb-false n 0 (not-true (n == 0) r.0)))
      where
        some : (n : ℕ) → (n ≡ 0 → ⊥) → 0 < n
        some zero h = absurd (h refl)
        some (suc n) h = omega arith

    fields_long : (size at : ℕ) (ts : Tys) (is : Inis) → fields_fit types ts is ≡ true → end_of at ts ≤ size → length (field_bytes size at ts is) ≡ size - at
    fields_long size at no_types no_inits h l = zeros_long (size - at)
    fields_long size at (type_and t ts) (init_and over i is) h l =
        let p = and_parts (is_same (meant types over) t && init_fits types t i) (fields_fit types ts is) h in
        let q = and_parts (is_same (meant types over) t) (init_fits types t i) p.0 in
        let up : at ≤ up_to (align_of t) at = up_most (align_of t) at (align_some t) in
        let most : up_to (align_of t) at + size_of t ≤ end_of (up_to (align_of t) at + size_of t) ts = end_least (up_to (align_of t) at + size_of t) ts in
        length-append (zeros (up_to (align_of t) at - at) ++ bytes_of t i) (field_bytes size (up_to (align_of t) at + size_of t) ts is)
        ∙ ap (λ k. k + length (field_bytes size (up_to (align_of t) at + size_of t) ts is))
        (length-append (zeros (up_to (align_of t) at - at)) (bytes_of t i) ∙ ap (λ k. k + length (bytes_of t i)) (zeros_long (up_to (align_of t) at - at))
        ∙ ap (λ k. up_to (align_of t) at - at + k) (init_long t i q.1))
        ∙ ap (λ k. up_to (align_of t) at - at + size_of t + k) (fields_long size (up_to (align_of t) at + size_of t) ts is p.1 l)
        ∙ summed at (up_to (align_of t) at) (size_of t) size up (under (up_to (align_of t) at + size_of t) (end_of (up_to (align_of t) at + size_of t) ts) size most l)
      where
        under : (x y z : ℕ) → x ≤ y → y ≤ z → x ≤ z
        under x y z a b = omega (arith, a, b)

        summed : (a b s n : ℕ) → a ≤ b → b + s ≤ n → b - a + s + (n - (b + s)) ≡ n - a
        summed a b s n l m = omega (arith, l, m)
    fields_long size at no_types (init_and over i is) h l = absurd (false≢true h)
    fields_long size at (type_and t ts) no_inits h l = absurd (false≢true h)

    packed_long : (at : ℕ) (ts : Tys) (is : Inis) → fields_fit types ts is ≡ true → at + length (packed_bytes ts is) ≡ packed_end_of at ts
    packed_long at no_types no_inits h = omega arith
    packed_long at (type_and t ts) (init_and over i is) h =
        let p = and_parts (is_same (meant types over) t && init_fits types t i) (fields_fit types ts is) h in
        let q = and_parts (is_same (meant types over) t) (init_fits types t i) p.0 in
        ap (λ k. at + k) (length-append (bytes_of t i) (packed_bytes ts is) ∙ ap (λ k. k + length (packed_bytes ts is)) (init_long t i q.1))
        ∙ grouped at (size_of t) (length (packed_bytes ts is)) ∙ packed_long (at + size_of t) ts is p.1
      where
        grouped : (a b c : ℕ) → a + (b + c) ≡ a + b + c
        grouped a b c = omega arith
    packed_long at no_types (init_and over i is) h = absurd (false≢true h)
    packed_long at (type_and t ts) no_inits h = absurd (false≢true h)

-- ---- what is written

zeros_written : (limit n : ℕ) (out : List ℕ) → length out + n ≤ limit → zeros_onto limit n out ≡ out ++ zeros n
zeros_written limit n out l = let m : min n (limit - length out) ≡ n = omega (arith, l) in ap (λ k. out ++ replicate k 0) m

number_written : (limit n : ℕ) (z : ℤ) (out : List ℕ) → length out + n ≤ limit → number_onto limit n z out ≡ out ++ signed_bytes (is_below_zero z) n (magnitude z)
number_written limit n z out l = let m : min n (limit - length out) ≡ n = omega (arith, l) in ap (λ k. out ++ signed_bytes (is_below_zero z) k (magnitude z)) m

take_whole : (xs : List ℕ) → take (length xs) xs ≡ xs
take_whole [] = refl
take_whole (x ∷ xs) = ap (λ ys. x ∷ ys) (take_whole xs)

bytes_written : (limit : ℕ) (bs out : List ℕ) → length out + length bs ≤ limit → bytes_onto limit bs out ≡ out ++ bs
bytes_written limit bs out l = let m : min (length bs) (limit - length out) ≡ length bs = omega (arith, l) in ap (λ k. out ++ take k bs) m ∙ ap (λ xs. out ++ xs) (take_whole bs)

module _ (types : Types) (look : List ℕ → Fact) (fit : (t : Ty) → FactFits types t (fact_by look t)) (limit : ℕ) where
  record IsOf (over t : Ty) : Type 0 where
    size : size_of t ≤ 4294967296 → (fact_by look over).size ≡ size_of t
    align : (fact_by look over).align ≡ align_of t

  is_of : (over t : Ty) → is_same (meant types over) t ≡ true → IsOf over t
  is_of over t e = pick (whole types over) refl e
    where
      pick : (o : Option Ty) → whole types over ≡ o → is_same (unwrap_or o opaque) t ≡ true → IsOf over t
      pick None n e = absurd (false≢true e)
      pick (Some u) n e =
          let known : (fact_by look over).known ≡ true = (fit over).known ∙ ap is_some n in
          let same : meant types over ≡ t = ap (λ o. unwrap_or o opaque) n ∙ same_is u t e in
          record {
            size = λ l. (fit over).size known ∙ ap (λ v. cut (size_of v)) same ∙ exact (size_of t) l;
            align = (fit over).align known ∙ ap align_of same;
          }

  mutual
    pub init_written : (t : Ty) (i : Ini) → init_fits types t i ≡ true → size_of t ≤ 4294967296 → (out : List ℕ) → length out + size_of t ≤ limit
        → write look limit (size_of t) i out ≡ out ++ bytes_of t i
    init_written t zero_init h s out l = zeros_written limit (size_of t) out l
    init_written t (number_init z) h s out l = number_written limit (size_of t) z out l ∙ ap (λ bs. out ++ bs) (number_bytes (size_of t) z)
    init_written t (truth_init b) h s out l = number_written limit (size_of t) (pos (truth b)) out l ∙ ap (λ bs. out ++ bs) (plain_bytes (size_of t) (truth b))
    init_written t pointer_init h s out l = zeros_written limit (size_of t) out l
    init_written (array n t) (bytes_init bs) h s out l =
        let long : length bs ≡ size_of (array n t) = init_long types (array n t) (bytes_init bs) h in
        bytes_written limit bs out (subst (λ k. length out + k ≤ limit) (sym long) l)
    init_written (array n t) (array_init is) h s out l = elements_written n t is h s out l
    init_written (structure ts) (structure_init is) h s out l =
        let most : end_of 0 ts ≤ size_of (structure ts) = up_most (greatest_align ts) (end_of 0 ts) (greatest_some ts) in
        fields_written (size_of (structure ts)) no_fields 0 ts is h refl most s out (begins (size_of (structure ts)) (length out) l)
      where
        begins : (n m : ℕ) → m + n ≤ limit → m + (n - 0) ≤ limit
        begins n m l = omega (arith, l)
    init_written (packed ts) (packed_init is) h s out l = packed_written 0 ts is h s out (begins (packed_end_of 0 ts) (length out) l)
      where
        begins : (n m : ℕ) → m + n ≤ limit → m + (n - 0) ≤ limit
        begins n m l = omega (arith, l)
    init_written _ _ h s out l = absurd (false≢true h)

    elements_written : (n : ℕ) (t : Ty) (is : Inis) → elements_fit types n t is ≡ true → n * size_of t ≤ 4294967296 → (out : List ℕ) → length out + n * size_of t ≤ limit
        → write_parts look limit is out ≡ out ++ element_bytes t is
    elements_written n t no_inits h s out l = sym (append-nil out)
    elements_written n t (init_and over i is) h s out l =
        let p = and_parts (not (n == 0) && is_same (meant types over) t && init_fits types t i) (elements_fit types (n - 1) t is) h in
        let q = and_parts (not (n == 0) && is_same (meant types over) t) (init_fits types t i) p.0 in
        let r = and_parts (not (n == 0)) (is_same (meant types over) t) q.0 in
        let sum : size_of t + (n - 1) * size_of t ≡ n * size_of t = elements_more types n (size_of t) (some n (eqb-false n 0 (not-true (n == 0) r.0))) in
        let own : size_of t ≤ 4294967296 = first (size_of t) ((n - 1) * size_of t) (n * size_of t) 4294967296 sum s in
        let rest : (n - 1) * size_of t ≤ 4294967296 = second (size_of t) ((n - 1) * size_of t) (n * size_of t) 4294967296 sum s in
        let one : write look limit (fact_by look over).size i out ≡ out ++ bytes_of t i =
        ap (λ k. write look limit k i out) ((is_of over t r.1).size own) ∙ init_written t i q.1 own out (here (length out) (size_of t) ((n - 1) * size_of t) (n * size_of t) sum l) in
        let long : length (out ++ bytes_of t i) ≡ length out + size_of t = length-append out (bytes_of t i) ∙ ap (λ k. length out + k) (init_long types t i q.1) in
        ap (write_parts look limit is) one
        ∙ elements_written (n - 1) t is p.1 rest (out ++ bytes_of t i) (behind (length (out ++ bytes_of t i)) (length out) (size_of t) ((n - 1) * size_of t) (n * size_of t) long sum l)
        ∙ append_assoc out (bytes_of t i) (element_bytes t is)
      where
        some : (n : ℕ) → (n ≡ 0 → ⊥) → 0 < n
        some zero h = absurd (h refl)
        some (suc n) h = omega arith

        first : (a b c m : ℕ) → a + b ≡ c → c ≤ m → a ≤ m
        first a b c m e l = omega (arith, e, l)

        second : (a b c m : ℕ) → a + b ≡ c → c ≤ m → b ≤ m
        second a b c m e l = omega (arith, e, l)

        here : (o a b c : ℕ) → a + b ≡ c → o + c ≤ limit → o + a ≤ limit
        here o a b c e l = omega (arith, e, l)

        behind : (x o a b c : ℕ) → x ≡ o + a → a + b ≡ c → o + c ≤ limit → x + b ≤ limit
        behind x o a b c e f l = omega (arith, e, f, l)

    fields_written : (size : ℕ) (all : Fact) (at : ℕ) (ts : Tys) (is : Inis) → fields_fit types ts is ≡ true → all.size ≡ at → end_of at ts ≤ size → size ≤ 4294967296 → (out : List ℕ)
        → length out + (size - at) ≤ limit → write_fields look limit size all is out ≡ out ++ field_bytes size at ts is
    fields_written size all at no_types no_inits h e m s out l = ap (λ k. zeros_onto limit (size - k) out) e ∙ zeros_written limit (size - at) out l
    fields_written size all at (type_and t ts) (init_and over i is) h e m s out l =
        let p = and_parts (is_same (meant types over) t && init_fits types t i) (fields_fit types ts is) h in
        let q = and_parts (is_same (meant types over) t) (init_fits types t i) p.0 in
        let up : at ≤ up_to (align_of t) at = up_most (align_of t) at (align_some t) in
        let most : up_to (align_of t) at + size_of t ≤ size =
        under (up_to (align_of t) at + size_of t) (end_of (up_to (align_of t) at + size_of t) ts) size (end_least (up_to (align_of t) at + size_of t) ts) m in
        let own : size_of t ≤ 4294967296 = part (up_to (align_of t) at) (size_of t) size most s in
        let o = is_of over t q.0 in
        let gap : zeros_onto limit (up_to (fact_by look over).align all.size - all.size) out ≡ out ++ zeros (up_to (align_of t) at - at) =
        ap (λ k. zeros_onto limit (up_to k all.size - all.size) out) o.align ∙ ap (λ k. zeros_onto limit (up_to (align_of t) k - k) out) e
        ∙ zeros_written limit (up_to (align_of t) at - at) out (gapped (length out) at (up_to (align_of t) at) (size_of t) size up most l) in
        let gap_long : length (out ++ zeros (up_to (align_of t) at - at)) ≡ length out + (up_to (align_of t) at - at) =
        length-append out (zeros (up_to (align_of t) at - at)) ∙ ap (λ k. length out + k) (zeros_long types (up_to (align_of t) at - at)) in
        let one : write look limit (fact_by look over).size i (zeros_onto limit (up_to (fact_by look over).align all.size - all.size) out) ≡ (out ++ zeros (up_to (align_of t) at - at)) ++ bytes_of t i =
        ap (λ xs. write look limit (fact_by look over).size i xs) gap ∙ ap (λ k. write look limit k i (out ++ zeros (up_to (align_of t) at - at))) (o.size own)
        ∙ init_written t i q.1 own (out ++ zeros (up_to (align_of t) at - at))
        (filled (length (out ++ zeros (up_to (align_of t) at - at))) (length out) at (up_to (align_of t) at) (size_of t) size gap_long up most l) in
        let long : length ((out ++ zeros (up_to (align_of t) at - at)) ++ bytes_of t i) ≡ length out + (up_to (align_of t) at - at) + size_of t =
        length-append (out ++ zeros (up_to (align_of t) at - at)) (bytes_of t i) ∙ ap (λ k. k + length (bytes_of t i)) gap_long ∙ ap (λ k. length out + (up_to (align_of t) at - at) + k) (init_long types t i q.1) in
        let next : cut (up_to (fact_by look over).align all.size + (fact_by look over).size) ≡ up_to (align_of t) at + size_of t =
        ap (λ k. cut (up_to k all.size + (fact_by look over).size)) o.align ∙ ap (λ k. cut (up_to (align_of t) k + (fact_by look over).size)) e ∙ ap (λ k. cut (up_to (align_of t) at + k)) (o.size own)
        ∙ exact (up_to (align_of t) at + size_of t) (under (up_to (align_of t) at + size_of t) size 4294967296 most s) in
        ap (write_fields look limit size (with_field all (fact_by look over)) is) one
        ∙ fields_written size (with_field all (fact_by look over)) (up_to (align_of t) at + size_of t) ts is p.1 next m s ((out ++ zeros (up_to (align_of t) at - at)) ++ bytes_of t i)
        (rested (length ((out ++ zeros (up_to (align_of t) at - at)) ++ bytes_of t i)) (length out) at (up_to (align_of t) at) (size_of t) size long up most l)
        ∙ append_assoc (out ++ zeros (up_to (align_of t) at - at)) (bytes_of t i) (field_bytes size (up_to (align_of t) at + size_of t) ts is)
        ∙ append_assoc out (zeros (up_to (align_of t) at - at)) (bytes_of t i ++ field_bytes size (up_to (align_of t) at + size_of t) ts is)
        ∙ ap (λ xs. out ++ xs) (sym (append_assoc (zeros (up_to (align_of t) at - at)) (bytes_of t i) (field_bytes size (up_to (align_of t) at + size_of t) ts is)))
      where
        under : (x y z : ℕ) → x ≤ y → y ≤ z → x ≤ z
        under x y z a b = omega (arith, a, b)

        part : (b s n : ℕ) → b + s ≤ n → n ≤ 4294967296 → s ≤ 4294967296
        part b s n l k = omega (arith, l, k)

        gapped : (o a b s n : ℕ) → a ≤ b → b + s ≤ n → o + (n - a) ≤ limit → o + (b - a) ≤ limit
        gapped o a b s n x y z = omega (arith, x, y, z)

        filled : (w o a b s n : ℕ) → w ≡ o + (b - a) → a ≤ b → b + s ≤ n → o + (n - a) ≤ limit → w + s ≤ limit
        filled w o a b s n e x y z = omega (arith, e, x, y, z)

        rested : (w o a b s n : ℕ) → w ≡ o + (b - a) + s → a ≤ b → b + s ≤ n → o + (n - a) ≤ limit → w + (n - (b + s)) ≤ limit
        rested w o a b s n e x y z = omega (arith, e, x, y, z)
    fields_written size all at no_types (init_and over i is) h e m s out l = absurd (false≢true h)
    fields_written size all at (type_and t ts) no_inits h e m s out l = absurd (false≢true h)

    packed_written : (at : ℕ) (ts : Tys) (is : Inis) → fields_fit types ts is ≡ true → packed_end_of at ts ≤ 4294967296 → (out : List ℕ) → length out + (packed_end_of at ts - at) ≤ limit
        → write_parts look limit is out ≡ out ++ packed_bytes ts is
    packed_written at no_types no_inits h s out l = sym (append-nil out)
    packed_written at (type_and t ts) (init_and over i is) h s out l =
        let p = and_parts (is_same (meant types over) t && init_fits types t i) (fields_fit types ts is) h in
        let q = and_parts (is_same (meant types over) t) (init_fits types t i) p.0 in
        let most : at + size_of t ≤ packed_end_of (at + size_of t) ts = packed_least (at + size_of t) ts in
        let own : size_of t ≤ 4294967296 = part at (size_of t) (packed_end_of (at + size_of t) ts) most s in
        let one : write look limit (fact_by look over).size i out ≡ out ++ bytes_of t i =
        ap (λ k. write look limit k i out) ((is_of over t q.0).size own)
        ∙ init_written t i q.1 own out (here (length out) at (size_of t) (packed_end_of (at + size_of t) ts) most l) in
        let long : length (out ++ bytes_of t i) ≡ length out + size_of t = length-append out (bytes_of t i) ∙ ap (λ k. length out + k) (init_long types t i q.1) in
        ap (write_parts look limit is) one
        ∙ packed_written (at + size_of t) ts is p.1 s (out ++ bytes_of t i) (rested (length (out ++ bytes_of t i)) (length out) at (size_of t) (packed_end_of (at + size_of t) ts) long most l)
        ∙ append_assoc out (bytes_of t i) (packed_bytes ts is)
      where
        part : (b s n : ℕ) → b + s ≤ n → n ≤ 4294967296 → s ≤ 4294967296
        part b s n l k = omega (arith, l, k)

        here : (o a s n : ℕ) → a + s ≤ n → o + (n - a) ≤ limit → o + s ≤ limit
        here o a s n l k = omega (arith, l, k)

        rested : (w o a s n : ℕ) → w ≡ o + s → a + s ≤ n → o + (n - a) ≤ limit → w + (n - (a + s)) ≤ limit
        rested w o a s n e l k = omega (arith, e, l, k)
    packed_written at no_types (init_and over i is) h s out l = absurd (false≢true h)
    packed_written at (type_and t ts) no_inits h s out l = absurd (false≢true h)

  -- ---- never beyond the limit

  zeros_within : (n : ℕ) (out : List ℕ) → length out ≤ limit → length (zeros_onto limit n out) ≤ limit
  zeros_within n out l =
      let e : length (zeros_onto limit n out) ≡ length out + min n (limit - length out) = length-append out (replicate (min n (limit - length out)) 0) ∙ ap (λ k. length out + k) (length-replicate (min n (limit - length out)) 0) in
      omega (arith, e, l)

  number_within : (n : ℕ) (z : ℤ) (out : List ℕ) → length out ≤ limit → length (number_onto limit n z out) ≤ limit
  number_within n z out l =
      let e : length (number_onto limit n z out) ≡ length out + min n (limit - length out) =
      length-append out (signed_bytes (is_below_zero z) (min n (limit - length out)) (magnitude z)) ∙ ap (λ k. length out + k) (signed_length (is_below_zero z) (min n (limit - length out)) (magnitude z)) in
      omega (arith, e, l)

  bytes_within : (bs out : List ℕ) → length out ≤ limit → length (bytes_onto limit bs out) ≤ limit
  bytes_within bs out l =
      let e : length (bytes_onto limit bs out) ≡ length out + length (take (min (length bs) (limit - length out)) bs) = length-append out (take (min (length bs) (limit - length out)) bs) in
      let f : length (take (min (length bs) (limit - length out)) bs) ≡ min (min (length bs) (limit - length out)) (length bs) = length-take (min (length bs) (limit - length out)) bs in
      omega (arith, e, f, l)

  mutual
    pub write_within : (size : ℕ) (i : Ini) (out : List ℕ) → length out ≤ limit → length (write look limit size i out) ≤ limit
    write_within size zero_init out l = zeros_within size out l
    write_within size (number_init z) out l = number_within size z out l
    write_within size (truth_init b) out l = number_within size (pos (truth b)) out l
    write_within size (bytes_init bs) out l = bytes_within bs out l
    write_within size (array_init is) out l = parts_within is out l
    write_within size (structure_init is) out l = fields_within size no_fields is out l
    write_within size (packed_init is) out l = parts_within is out l
    write_within size pointer_init out l = zeros_within size out l

    parts_within : (is : Inis) (out : List ℕ) → length out ≤ limit → length (write_parts look limit is out) ≤ limit
    parts_within no_inits out l = l
    parts_within (init_and t i is) out l = parts_within is (write look limit (fact_by look t).size i out) (write_within (fact_by look t).size i out l)

    fields_within : (size : ℕ) (all : Fact) (is : Inis) (out : List ℕ) → length out ≤ limit → length (write_fields look limit size all is out) ≤ limit
    fields_within size all no_inits out l = zeros_within (size - all.size) out l
    fields_within size all (init_and t i is) out l =
        fields_within size (with_field all (fact_by look t)) is (write look limit (fact_by look t).size i (zeros_onto limit (up_to (fact_by look t).align all.size - all.size) out))
        (write_within (fact_by look t).size i (zeros_onto limit (up_to (fact_by look t).align all.size - all.size) out)
        (zeros_within (up_to (fact_by look t).align all.size - all.size) out l))
