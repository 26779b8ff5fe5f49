-- Alignments that are written, and the bytes of accesses.
use Rattle.std.proofs.Common.{◌≡◌, ◌<◌, ◌+◌, ℕ, zero, suc, ℤ, min, List, ◌∷◌, length, map, drop, refl, sym, ap, ◌∙◌, arith}
use Rattle.std.specs.Prelude.{slice_index_or}
use Rattle.std.proofs.lemmas.List.{drop_more}
use Rattle.ir_ast.specs.View.{view_type}
use Rattle.ir_ast.specs.declared.types.IrType.{IrType}
use Rattle.ir_ast.specs.Plain.{Ty}
use Rattle.ir_layout.specs.Sizes.{align_of, written_or}
use Rattle.ir_layout.specs.Facts.{cut}

pub written_zero : (n own : ℕ) (t : Ty) → n ≡ 0 → own ≡ align_of t → own ≡ written_or n t
written_zero zero own t none e = e
written_zero (suc n) own t none e = absurd (omega (arith, none))

pub written_some : (n : ℕ) (t : Ty) → (n ≡ 0 → ⊥) → n ≡ written_or n t
written_some zero t some = absurd (some refl)
written_some (suc n) t some = refl

pub bytes_cut : (n : ℕ) → min (cut n) 4294967295 ≡ min n 4294967295
bytes_cut n = omega arith

abbrev pub view_bound : IrType × ℤ → Ty × ℤ
view_bound n = (view_type n.0, n.1)

-- what is left of bounds begins with the next
pub next_bound : (bounds : List (IrType × ℤ)) (i : ℕ) (b : IrType × ℤ) → i < length bounds → b ≡ slice_index_or bounds i b
    → map view_bound (drop i bounds) ≡ view_bound b ∷ map view_bound (drop (i + 1) bounds)
next_bound bounds i b l e =
    ap (map view_bound) (drop_more bounds i b l)
    ∙ ap (λ n. view_bound n ∷ map view_bound (drop (i + 1) bounds)) (sym e)
