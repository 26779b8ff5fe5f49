-- All layouts of a module have the same objects, so reads of the objects of one are reads of those of each.
use Rattle.std.proofs.Common.{◌≡◌, ℕ, List, [], ◌∷◌, map, refl, sym, ap, ◌∙◌}
use Rattle.ir_ast.specs.Program.{GlobalView, ModuleView}
use Rattle.ir_layout.specs.declared.object.Object.{Object}
use Rattle.ir_layout.specs.Layouts.{LayoutView, IsLayoutOf}
use Rattle.ir_layout.specs.Sizes.{object_size}
use Rattle.ir_check.specs.Checked.{IsChecked}
use Rattle.ir_kernel.proofs.InitLaws.{inits_fit}
use Rattle.hk_symmem.specs.Origins.{Origin, fixed, cells, IsOriginOf, AreOriginsOf}
use Rattle.spec_tree.specs.Plain.{Spec}
use Rattle.spec_names.specs.Kernel.{Global}
use Rattle.spec_kernel.specs.View.{global_of}
use Rattle.spec_kernel.specs.Fit.{FitsModule}

origin_of_same : (o p : Object) (x : Origin) → o.size ≡ p.size → o.constant ≡ p.constant → o.bytes ≡ p.bytes → IsOriginOf o x → IsOriginOf p x
origin_of_same o p (fixed bytes) s c b h = (sym c ∙ h.0, h.1 ∙ b)
origin_of_same o p (cells size cell) s c b h = (sym c ∙ h.0, h.1 ∙ s, h.2)

origins_of_same : (os ps : List Object) (xs : List Origin) → map (λ (o : Object). o.size) os ≡ map (λ (o : Object). o.size) ps → map (λ (o : Object). o.constant) os ≡ map (λ (o : Object). o.constant) ps
    → map (λ (o : Object). o.bytes) os ≡ map (λ (o : Object). o.bytes) ps → AreOriginsOf os xs → AreOriginsOf ps xs
origins_of_same [] [] xs s c b h = h
origins_of_same [] (p ∷ ps) xs s c b h = cc
origins_of_same (o ∷ os) [] xs s c b h = cc
origins_of_same (o ∷ os) (p ∷ ps) [] s c b h = absurd h
origins_of_same (o ∷ os) (p ∷ ps) (x ∷ xs) s c b h =
    let size : o.size ≡ p.size = cc in
    let constant : o.constant ≡ p.constant = cc in
    let bytes : o.bytes ≡ p.bytes = cc in
    let sizes : map (λ (q : Object). q.size) os ≡ map (λ (q : Object). q.size) ps = cc in
    let constants : map (λ (q : Object). q.constant) os ≡ map (λ (q : Object). q.constant) ps = cc in
    let all : map (λ (q : Object). q.bytes) os ≡ map (λ (q : Object). q.bytes) ps = cc in
    (origin_of_same o p x size constant bytes h.0, origins_of_same os ps xs sizes constants all h.1)

pub origins_of_each : (m : ModuleView) (a b : LayoutView) (xs : List Origin) → IsChecked m → IsLayoutOf m a → IsLayoutOf m b → AreOriginsOf a.objects xs → AreOriginsOf b.objects xs
origins_of_each m a b xs checked f g h =
    let fit = inits_fit m checked in
    origins_of_same a.objects b.objects xs (f.sizes ∙ sym g.sizes) (f.constants ∙ sym g.constants) (f.bytes fit ∙ sym (g.bytes fit)) h

sizes_seen : (m : ModuleView) (gs : List (List ℕ × GlobalView)) → map (λ (g : Global). g.size) (map (global_of m.types) gs) ≡ map (λ (g : List ℕ × GlobalView). object_size m.types g.1) gs
sizes_seen m [] = refl
sizes_seen m (g ∷ gs) = ap (λ l. object_size m.types g.1 ∷ l) (sizes_seen m gs)

-- the objects of a specification that fits are those of the layout
pub objects_are : (m : ModuleView) (s : Spec) (l : LayoutView) → FitsModule m s → IsLayoutOf m l → s.objects ≡ map (λ (o : Object). o.size) l.objects
objects_are m s l fits laid = fits.objects ∙ sizes_seen m m.globals ∙ sym laid.sizes
