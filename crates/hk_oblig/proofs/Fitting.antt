-- What a well-sorted transition gives: the widths of its parameters and of its result.
use Rattle.std.proofs.Common.{◌≡◌, ◌<◌, ◌≤◌, ℕ, Option, Some, None, List, slice_index_or, length, map, subst}
use Rattle.std.specs.Prelude.{All}
use Rattle.spec_tree.specs.Plain.{Tree}
use Rattle.spec_tree.specs.Plain as plain
use Rattle.spec_tree.specs.declared.spec.Transition.{Transition}
use Rattle.spec_tree.specs.Sorted.{Context, IsResult, IsTransition, IsWellSorted, IsWidth, behind_lines}
use Rattle.spec_tree.specs.View.{view_transition}
use Rattle.spec_kernel.specs.View.{kernel_of}
use Rattle.spec_kernel.specs.Fit.{FitsModule, Handles}
use Rattle.ir_ast.specs.Program.{ModuleView}
use Rattle.hk_oblig.proofs.Turns.{all_at}

narrow : (c : Context) (w : ℕ) (e : Option Tree) → IsResult c w e → w ≤ 64
narrow c w None h = h
narrow c w (Some e) h = h.0.1

module _ (s : plain.Spec) (sorted : IsWellSorted s) (ts : List Transition) (h : ℕ) (t : Transition) (low : h < length ts) (is : t ≡ slice_index_or ts h t) (same : s.transitions ≡ map view_transition ts) where
  fits : IsTransition s (view_transition t)
  fits = all_at (IsTransition s) view_transition ts h t low is (subst (All (IsTransition s)) same sorted.transitions)

  pub widths_fit : All IsWidth t.widths
  widths_fit = fits.widths

  pub result_narrow : t.result_width ≤ 64
  result_narrow = narrow (behind_lines s (view_transition t)) t.result_width (view_transition t).result fits.result

  pub handled : (m : ModuleView) → FitsModule m s → Handles (kernel_of m) (view_transition t)
  handled m f = all_at (Handles (kernel_of m)) view_transition ts h t low is (subst (All (Handles (kernel_of m))) same f.handlers)
