-- Where the first bytes of objects come from, element by element.
use Rattle.std.proofs.Common.{◌≡◌, ℕ, zero, suc, ◌+◌, ◌/◌, ◌%◌, ◌^◌, ◌<◌, List, [], ◌∷◌, ◌++◌, length, refl, ◌∙◌, ap, arith}
use Rattle.std.specs.Prelude.{map, slice_index, slice_get, Some}
use Rattle.std.proofs.lemmas.List.FromFn.{get_or-map-range_with_len}
use Rattle.ir_layout.specs.Bytes.{object_of}
use Rattle.ir_layout.specs.declared.object.Object.{Object}
use Rattle.hk_symmem.specs.declared.source.Source.{Source}
use Rattle.hk_symmem.specs.Origins.{Origin, cells, cell_byte, object_from, objects_from, start_memory, IsOriginOf, AreOriginsOf}
use Rattle.hk_symmem.specs.Sources.{origin_of}

-- ---- arrays of single bytes

pub one_byte : (a : ℕ → ℕ) (i : ℕ) → cell_byte 1 a i ≡ a i % 256
one_byte a i = (λ j. a (whole i j) % 2 ^ 8 / 256 ^ (none i j) % 256) ∙ twice (a i)
  where
    whole : (i : ℕ) → i / 1 ≡ i
    whole i = omega arith

    none : (i : ℕ) → i % 1 ≡ 0
    none i = omega arith

    twice : (n : ℕ) → n % 2 ^ 8 / 256 ^ 0 % 256 ≡ n % 256
    twice n = omega arith

pub byte_there : (a : ℕ → ℕ) (size i : ℕ) → i < size → slice_index (object_from (cells size 1) a) i ≡ a i % 256
byte_there a size i l = get_or-map-range_with_len (cell_byte 1 a) 0 size i i 0 l (omega arith) ∙ one_byte a i

-- ---- sources

pub seen_from : (o : ℕ) (xs : List Source) (entry : ℕ → ℕ → ℕ) (k : ℕ) (s : Source) → slice_get xs k ≡ Some s → object_of (objects_from o (map origin_of xs) entry) k ≡ object_from (origin_of s) (entry (o + k))
seen_from o [] entry k s e = absurd (cc)
seen_from o (x ∷ xs) entry zero s e = (λ i. object_from (origin_of (same x s e i)) (entry (none o i)))
  where
    none : (o : ℕ) → o ≡ o + 0
    none o = omega arith

    same : (x s : Source) → Some x ≡ Some s → x ≡ s
    same x s e = cc
seen_from o (x ∷ xs) entry (suc k) s e = seen_from (o + 1) xs entry k s e ∙ ap (λ p. object_from (origin_of s) (entry p)) (next o k)
  where
    next : (o k : ℕ) → o + 1 + k ≡ o + suc k
    next o k = omega arith

pub object_seen : (xs : List Source) (entry : ℕ → ℕ → ℕ) (k : ℕ) (s : Source) → slice_get xs k ≡ Some s → object_of (start_memory (map origin_of xs) entry) k ≡ object_from (origin_of s) (entry k)
object_seen xs entry k s e = seen_from 0 xs entry k s e ∙ ap (λ p. object_from (origin_of s) (entry p)) (none k)
  where
    none : (k : ℕ) → 0 + k ≡ k
    none k = omega arith

pub origins_push : (os : List Object) (xs : List Origin) (o : Object) (x : Origin) → AreOriginsOf os xs → IsOriginOf o x → AreOriginsOf (os ++ o ∷ []) (xs ++ x ∷ [])
origins_push [] [] o x a i = (i, tt)
origins_push [] (y ∷ xs) o x a i = absurd a
origins_push (p ∷ os) [] o x a i = absurd a
origins_push (p ∷ os) (y ∷ xs) o x a i = (a.0, origins_push os xs o x a.1 i)

pub origins_count : (os : List Object) (xs : List Origin) → AreOriginsOf os xs → length os ≡ length xs
origins_count [] [] a = refl
origins_count [] (y ∷ xs) a = absurd a
origins_count (p ∷ os) [] a = absurd a
origins_count (p ∷ os) (y ∷ xs) a = ap suc (origins_count os xs a.1)
