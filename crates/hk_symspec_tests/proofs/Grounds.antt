-- Memories of a kernel's objects are memories of the specification's objects.
use Rattle.std.proofs.Common.{◌≡◌, ◌<◌, ℕ, List, [], ◌∷◌, length, map, refl, sym, ap, ◌∙◌}
use Rattle.std.specs.Prelude.{All}
use Rattle.std.proofs.lemmas.List.Elements.{All-head, All-tail}
use Rattle.hk_term.specs.Meaning.{Reading}
use Rattle.hk_term.specs.declared.node.Node.{Node}
use Rattle.ir_ast.specs.Program.{GlobalView, ModuleView}
use Rattle.ir_layout.specs.declared.object.Object.{Object}
use Rattle.ir_layout.specs.Layouts.{LayoutView, IsLayoutOf}
use Rattle.ir_layout.specs.Sizes.{object_size}
use Rattle.hk_symmem.specs.Origins.{Origin, AreOriginsOf, start_memory}
use Rattle.hk_symmem.specs.Guarded.{MemoryView, IsOver, memory_at}
use Rattle.hk_symresult.specs.Results.{AreFilled, HoldsObjects}
use Rattle.hk_symresult.proofs.Bytes.{holds_objects}
use Rattle.hk_symspec.specs.Standing.{IsKernelOver}
use Rattle.spec_tree.specs.Plain.{Spec}
use Rattle.spec_tree.specs.Shapes.{IsMemory}
use Rattle.spec_names.specs.Kernel.{Global}
use Rattle.spec_kernel.specs.View.{global_of}
use Rattle.spec_kernel.specs.Fit.{FitsModule}

is_memory : (ns : List ℕ) (memory : List (List ℕ)) → map (λ (o : List ℕ). length o) memory ≡ ns → All (λ o. All (λ b. b < 256) o) memory → IsMemory ns memory
is_memory [] [] e b = refl
is_memory [] (o ∷ memory) e b = cc
is_memory (n ∷ ns) [] e b = cc
is_memory (n ∷ ns) (o ∷ memory) e b =
    let first : length o ≡ n = cc in
    let rest : map (λ (p : List ℕ). length p) memory ≡ ns = cc in
    ((first, All-head (λ p. All (λ c. c < 256) p) o memory b), is_memory ns memory rest (All-tail (λ p. All (λ c. c < 256) p) o memory b))

sizes_seen : (m : ModuleView) (gs : List (List ℕ × GlobalView)) → map (λ (g : Global). g.size) (map (global_of m.types) gs) ≡ map (λ (g : List ℕ × GlobalView). object_size m.types g.1) gs
sizes_seen m [] = refl
sizes_seen m (g ∷ gs) = ap (λ l. object_size m.types g.1 ∷ l) (sizes_seen m gs)

objects_are : (m : ModuleView) (s : Spec) (l : LayoutView) → FitsModule m s → IsLayoutOf m l → s.objects ≡ map (λ (o : Object). o.size) l.objects
objects_are m s l fits laid = fits.objects ∙ sizes_seen m m.globals ∙ sym laid.sizes

held : (s : Spec) (objects : List Object) (memory : List (List ℕ)) → s.objects ≡ map (λ (o : Object). o.size) objects → HoldsObjects objects memory → IsMemory s.objects memory
held s objects memory same h = is_memory s.objects memory (h.sizes ∙ sym same) h.bytes

pub kernel_over : (m : ModuleView) (s : Spec) (l : LayoutView) (memory : MemoryView) → FitsModule m s → IsLayoutOf m l → AreFilled l.objects → AreOriginsOf l.objects memory.origins
    → ((nodes : List Node) → IsOver nodes memory) → (nodes : List Node) → IsKernelOver s nodes memory
kernel_over m s l memory fits laid filled own over nodes = record {
  over = over nodes;
  whole = λ v. held s l.objects (memory_at nodes memory v) (objects_are m s l fits laid) (holds_objects l.objects nodes memory v own filled);
}

pub start_held : (m : ModuleView) (s : Spec) (l : LayoutView) (origins : List Origin) (v : Reading) → FitsModule m s → IsLayoutOf m l → AreFilled l.objects → AreOriginsOf l.objects origins
    → IsMemory s.objects (start_memory origins v.entry)
start_held m s l origins v fits laid filled own =
    held s l.objects (start_memory origins v.entry) (objects_are m s l fits laid) (holds_objects l.objects [] (record { origins = origins; writes = [] }) v own filled)
