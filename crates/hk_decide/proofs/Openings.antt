-- The initial memory has the objects of a specification that fits the kernel.
use Rattle.std.proofs.Common.{◌≡◌, ◌<◌, ℕ, List, [], ◌∷◌, length, map, refl, sym, ap, ◌∙◌, subst}
use Rattle.std.specs.Prelude.{All}
use Rattle.std.proofs.lemmas.List.Elements.{All-head, All-tail}
use Rattle.ir_ast.specs.Program.{GlobalView, ModuleView}
use Rattle.ir_layout.specs.declared.object.Object.{Object}
use Rattle.ir_layout.specs.Layouts.{LayoutView, IsLayoutOf}
use Rattle.ir_layout.specs.Sizes.{object_size}
use Rattle.spec_names.specs.Kernel.{Global}
use Rattle.spec_kernel.specs.View.{global_of}
use Rattle.spec_kernel.specs.Fit.{FitsModule}
use Rattle.spec_tree.specs.Plain.{Spec}
use Rattle.spec_tree.specs.Shapes.{IsMemory}

sizes_seen : (m : ModuleView) (gs : List (List ℕ × GlobalView)) → map (λ (g : Global). g.size) (map (global_of m.types) gs) ≡ map (λ (g : List ℕ × GlobalView). object_size m.types g.1) gs
sizes_seen m [] = refl
sizes_seen m (g ∷ gs) = ap (λ l. object_size m.types g.1 ∷ l) (sizes_seen m gs)

filled : (os : List Object) → map (λ o. length o.bytes) os ≡ map (λ o. o.size) os → All (λ o. All (λ b. b < 256) o) (map (λ o. o.bytes) os) → IsMemory (map (λ o. o.size) os) (map (λ o. o.bytes) os)
filled [] sizes below = refl
filled (o ∷ os) sizes below =
    let s : length o.bytes ∷ map (λ (p : Object). length p.bytes) os ≡ o.size ∷ map (λ (p : Object). p.size) os = sizes in
    let head : length o.bytes ≡ o.size = cc in
    let tail : map (λ (p : Object). length p.bytes) os ≡ map (λ (p : Object). p.size) os = cc in
    ((head, All-head (λ x. All (λ b. b < 256) x) o.bytes (map (λ (p : Object). p.bytes) os) below), filled os tail (All-tail (λ x. All (λ b. b < 256) x) o.bytes (map (λ (p : Object). p.bytes) os) below))

pub begins : (m : ModuleView) (s : Spec) (l : LayoutView) (memory : List (List ℕ)) → FitsModule m s → IsLayoutOf m l → memory ≡ map (λ o. o.bytes) l.objects → All (λ o. All (λ b. b < 256) o) memory → IsMemory s.objects memory
begins m s l memory fits laid is below =
    let sizes : s.objects ≡ map (λ (o : Object). o.size) l.objects = fits.objects ∙ sizes_seen m m.globals ∙ sym laid.sizes in
    subst (λ ns. IsMemory ns memory) (sym sizes) (subst (IsMemory (map (λ (o : Object). o.size) l.objects)) (sym is) (filled l.objects laid.shapes (subst (All (λ o. All (λ b. b < 256) o)) is below)))
