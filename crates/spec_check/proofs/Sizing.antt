-- The sizes of the globals, one by one.
use Rattle.std.proofs.Common.{◌≡◌, ℕ, zero, suc, ◌<◌, ◌+◌, Option, Some, None, option_map, List, [], ◌∷◌, ◌++◌, map, length, drop, add-one, refl, sym, ap, ◌∙◌, arith}
use Rattle.std.specs.Prelude.{slice_get}
use Rattle.std.proofs.lemmas.List.{length-map}
use Rattle.spec_names.specs.Kernel.{Global}
use Rattle.spec_kernel.specs.Seen.{Seen, kernel_in, global_in}

abbrev size_of : Global → ℕ
size_of g = g.size

push_on : (xs : List ℕ) (y : ℕ) (zs : List ℕ) → (xs ++ y ∷ []) ++ zs ≡ xs ++ y ∷ zs
push_on [] y zs = refl
push_on (x ∷ xs) y zs = ap (λ r. x ∷ r) (push_on xs y zs)

some_inside : {A : Type 0} {x y : A} → Some x ≡ Some y → x ≡ y
some_inside e = cc

left_at : (globals : List Global) (k n : ℕ) → option_map size_of (slice_get globals k) ≡ Some n → map size_of (drop k globals) ≡ n ∷ map size_of (drop (suc k) globals)
left_at [] k n e = absurd (cc e)
left_at (g ∷ globals) zero n e = ap (λ m. m ∷ map size_of globals) (some_inside e)
left_at (g ∷ globals) (suc k) n e = left_at globals k n e

pub sizes_more : (globals : List Global) (k n : ℕ) (vs ws total : List ℕ) → option_map size_of (slice_get globals k) ≡ Some n → ws ≡ vs ++ n ∷ []
    → vs ++ map size_of (drop k globals) ≡ total → ws ++ map size_of (drop (k + 1) globals) ≡ total
sizes_more globals k n vs ws total size is so =
    ap (λ xs. xs ++ map size_of (drop (k + 1) globals)) is
    ∙ (push_on vs n (map size_of (drop (k + 1) globals))
    ∙ (ap (λ j. vs ++ n ∷ map size_of (drop j globals)) (add-one k) ∙ (ap (λ xs. vs ++ xs) (sym (left_at globals k n size)) ∙ so)))

pub there : (k : Seen) (place n : ℕ) → n ≡ length (kernel_in k).globals → place < n → place < length k.globals
there k place n is within =
    let many = length-map k.globals (global_in k.shapes) in
    omega (arith, is, within, many)
