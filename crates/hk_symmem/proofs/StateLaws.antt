-- Every machine state is the initial memory of some arrays.
use Rattle.std.proofs.Common.{◌≡◌, ℕ, suc, ◌+◌, ◌*◌, ◌/◌, ◌%◌, ◌^◌, ◌<◌, List, [], ◌∷◌, length, get_or, inl, inr, refl, sym, ◌∙◌, ap, subst, arith}
use Rattle.std.specs.Prelude.{map, slice_index, slice_index_or}
use Rattle.std.specs.List.{All, range_with_len}
use Rattle.std.proofs.Math.Nat.{mod-eq_of_lt, div-add-mod}
use Rattle.std.proofs.lemmas.List.{ext_get_or}
use Rattle.std.proofs.lemmas.List.FromFn.{length-map-range_with_len, get_or-map-range_with_len}
use Rattle.ir_layout.specs.Bytes.{IsWidth, number_at}
use Rattle.ir_layout.specs.declared.object.Object.{Object}
use Rattle.hk_symmem.specs.Origins.{Origin, fixed, cells, cell_byte, object_from, objects_from, IsOriginOf, AreOriginsOf, IsObjectState, IsMachineState}
use Rattle.hk_symmem.proofs.Numbers.{bits_of_bytes, number_below, byte_of_number}

pub some_bytes : (c : ℕ) → IsWidth c → 0 < c
some_bytes c (inl e) = omega (arith, e)
some_bytes c (inr (inl e)) = omega (arith, e)
some_bytes c (inr (inr (inl e))) = omega (arith, e)
some_bytes c (inr (inr (inr e))) = omega (arith, e)

-- the array of an object that has these bytes
abbrev array_of : Origin → List ℕ → ℕ → ℕ
array_of (fixed b) bytes k = 0
array_of (cells size c) bytes k = number_at c (c * k) bytes

cell_given : (c : ℕ) (bytes : List ℕ) (i : ℕ) → 0 < c → All (λ b. b < 256) bytes → cell_byte c (λ k. number_at c (c * k) bytes) i ≡ slice_index bytes i
cell_given c bytes i some small =
    (λ j. whole j / 256 ^ (i % c) % 256) ∙ byte_of_number c (c * (i / c)) (i % c) bytes small (omega (arith, some)) ∙ ap (slice_index bytes) (div-add-mod i c)
  where
    whole : number_at c (c * (i / c)) bytes % 2 ^ (8 * c) ≡ number_at c (c * (i / c)) bytes
    whole = mod-eq_of_lt (subst (λ n. number_at c (c * (i / c)) bytes < n) (sym (bits_of_bytes c)) (number_below c (c * (i / c)) bytes small))

object_given : (o : Object) (x : Origin) (bytes : List ℕ) → IsOriginOf o x → IsObjectState o bytes → object_from x (array_of x bytes) ≡ bytes
object_given o (fixed b) bytes i s = i.1 ∙ sym (s.constant i.0)
object_given o (cells size c) bytes i s = ext_get_or 0 (map (cell_byte c f) (range_with_len 0 size)) bytes long each
  where
    f : ℕ → ℕ
    f k = number_at c (c * k) bytes

    long : length (map (cell_byte c f) (range_with_len 0 size)) ≡ length bytes
    long = length-map-range_with_len (cell_byte c f) 0 size ∙ i.1 ∙ sym s.whole

    none : (k : ℕ) → 0 + k ≡ k
    none k = omega arith

    each : (k : ℕ) → k < length (map (cell_byte c f) (range_with_len 0 size)) → get_or (map (cell_byte c f) (range_with_len 0 size)) k 0 ≡ get_or bytes k 0
    each k l =
        get_or-map-range_with_len (cell_byte c f) 0 size k k 0 (omega (arith, l, length-map-range_with_len (cell_byte c f) 0 size)) (none k)
        ∙ cell_given c bytes k (some_bytes c i.2) s.small

objects_given : (os : List Object) (xs : List Origin) (m : List (List ℕ)) (o : ℕ) (entry : ℕ → ℕ → ℕ) → AreOriginsOf os xs → IsMachineState os m
    → ((k j : ℕ) → entry (o + k) j ≡ array_of (slice_index_or xs k (fixed [])) (slice_index_or m k []) j) → objects_from o xs entry ≡ m
objects_given [] [] [] o entry a s h = refl
objects_given [] [] (b ∷ m) o entry a s h = absurd s
objects_given [] (x ∷ xs) m o entry a s h = absurd a
objects_given (w ∷ os) [] m o entry a s h = absurd a
objects_given (w ∷ os) (x ∷ xs) [] o entry a s h = absurd s
objects_given (w ∷ os) (x ∷ xs) (b ∷ m) o entry a s h = λ i. head i ∷ objects_given os xs m (o + 1) entry a.1 s.1 (λ k j. ap (λ p. entry p j) (next k) ∙ h (suc k) j) i
  where
    none : o ≡ o + 0
    none = omega arith

    next : (k : ℕ) → o + 1 + k ≡ o + suc k
    next k = omega arith

    head : object_from x (entry o) ≡ b
    head = (λ i. object_from x (λ j. (ap (λ p. entry p j) none ∙ h 0 j) i)) ∙ object_given w x b a.0 s.0

pub state_is_given : (os : List Object) (xs : List Origin) (m : List (List ℕ)) → AreOriginsOf os xs → IsMachineState os m
    → (entry : ℕ → ℕ → ℕ) × (objects_from 0 xs entry ≡ m)
state_is_given os xs m a s =
    let entry : ℕ → ℕ → ℕ = λ o k. array_of (slice_index_or xs o (fixed [])) (slice_index_or m o []) k in
    let none : (k : ℕ) → 0 + k ≡ k = λ k. omega arith in
    (entry, objects_given os xs m 0 entry a s (λ k j. ap (λ p. entry p j) (none k)))
