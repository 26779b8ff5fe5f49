-- Objects whose bytes lie in cells.
use Rattle.std.proofs.Common.{◌≡◌, ℕ, zero, suc, ◌+◌, Bool, List, [], ◌∷◌, ◌++◌, map, length, Some, append_assoc, add-one, refl, sym, ◌∙◌, ap, subst, arith, drop}
use Rattle.std.specs.Prelude.{slice_get}
use Rattle.ir_ast.specs.Program.{GlobalView, ModuleView}
use Rattle.ir_type.specs.Whole.{meant}
use Rattle.ir_layout.specs.Bytes.{IsWidth, object_of}
use Rattle.ir_layout.specs.Layouts.{LayoutView, IsLayoutOf}
use Rattle.ir_layout.specs.Sizes.{object_size}
use Rattle.ir_layout.specs.declared.object.Object.{Object}
use Rattle.hk_symmem.specs.Origins.{Origin, fixed, cells, object_from, objects_from, start_memory, IsOriginOf, AreOriginsOf}
use Rattle.hk_symmem.proofs.SourceLaws.{origins_count}
use Rattle.hk_cells.specs.Cells.{IsCellSize, HaveCellSizes, leaves, cell_of}
use Rattle.hk_cells.specs.Parts.{divided, IsPart, AreParts, part_bytes, part_of, part_cell, cell_in, parts_by, IsKept}
use Rattle.hk_cells.specs.declared.parts.Part.{Part}
use Rattle.hk_cells.specs.declared.parts.Part.TheVariants.{Constant, Cells}
use Rattle.hk_cells.proofs.CellLaws.{cell_is, cell_width}

-- ---- what is kept of an object gives its bytes

pub parts_count : (xs : List Origin) (ps : List Part) → AreParts xs ps → length ps ≡ length xs
parts_count [] [] a = refl
parts_count [] (p ∷ ps) a = absurd a
parts_count (x ∷ xs) [] a = absurd a
parts_count (x ∷ xs) (p ∷ ps) a = ap suc (parts_count xs ps a.1)

pub divided_count : (xs : List Origin) (ps : List Part) → AreParts xs ps → length (divided xs ps) ≡ length ps
divided_count [] [] a = refl
divided_count [] (p ∷ ps) a = absurd a
divided_count (x ∷ xs) [] a = absurd a
divided_count (x ∷ xs) (Constant ∷ ps) a = ap suc (divided_count xs ps a.1)
divided_count (x ∷ xs) (Cells size cell ∷ ps) a = ap suc (divided_count xs ps a.1)

pub objects_count : (o : ℕ) (xs : List Origin) (entry : ℕ → ℕ → ℕ) → length (objects_from o xs entry) ≡ length xs
objects_count o [] entry = refl
objects_count o (x ∷ xs) entry = ap suc (objects_count (o + 1) xs entry)

pub kept_width : (xs : List Origin) (ps : List Part) (k : ℕ) (p : Part) → AreParts xs ps → slice_get ps k ≡ Some p → IsKept p
kept_width [] [] k p a e = absurd (cc)
kept_width [] (q ∷ ps) k p a e = absurd a
kept_width (x ∷ xs) [] k p a e = absurd a
kept_width (x ∷ xs) (q ∷ ps) zero p a e = subst IsKept (same q p e) (kept x q a.0)
  where
    same : (q p : Part) → Some q ≡ Some p → q ≡ p
    same q p e = cc

    kept : (x : Origin) (q : Part) → IsPart x q → IsKept q
    kept (fixed b) Constant i = tt
    kept (fixed b) (Cells size cell) i = absurd i
    kept (cells size c) Constant i = absurd i
    kept (cells size c) (Cells own cell) i = i.2
kept_width (x ∷ xs) (q ∷ ps) (suc k) p a e = kept_width xs ps k p a.1 e

constant_from : (o : ℕ) (xs : List Origin) (ps : List Part) (entry : ℕ → ℕ → ℕ) (k : ℕ) → AreParts xs ps → slice_get ps k ≡ Some Constant
    → object_of (objects_from o (divided xs ps) entry) k ≡ object_of (objects_from o xs entry) k
constant_from o [] [] entry k a e = absurd (cc)
constant_from o [] (q ∷ ps) entry k a e = absurd a
constant_from o (x ∷ xs) [] entry k a e = absurd a
constant_from o (x ∷ xs) (Constant ∷ ps) entry zero a e = refl
constant_from o (x ∷ xs) (Cells size cell ∷ ps) entry zero a e = absurd (cc)
constant_from o (x ∷ xs) (Constant ∷ ps) entry (suc k) a e = constant_from (o + 1) xs ps entry k a.1 e
constant_from o (x ∷ xs) (Cells size cell ∷ ps) entry (suc k) a e = constant_from (o + 1) xs ps entry k a.1 e

cells_from : (o : ℕ) (xs : List Origin) (ps : List Part) (entry : ℕ → ℕ → ℕ) (k size cell : ℕ) → AreParts xs ps → slice_get ps k ≡ Some (Cells size cell)
    → object_of (objects_from o (divided xs ps) entry) k ≡ object_from (cells size cell) (entry (o + k))
cells_from o [] [] entry k size cell a e = absurd (cc)
cells_from o [] (q ∷ ps) entry k size cell a e = absurd a
cells_from o (x ∷ xs) [] entry k size cell a e = absurd a
cells_from o (x ∷ xs) (Constant ∷ ps) entry zero size cell a e = absurd (cc)
cells_from o (x ∷ xs) (Cells s c ∷ ps) entry zero size cell a e = λ i. object_from (cells (long i) (wide i)) (entry (none o i))
  where
    long : s ≡ size
    long = cc

    wide : c ≡ cell
    wide = cc

    none : (o : ℕ) → o ≡ o + 0
    none o = omega arith
cells_from o (x ∷ xs) (Constant ∷ ps) entry (suc k) size cell a e = cells_from (o + 1) xs ps entry k size cell a.1 e ∙ ap (λ n. object_from (cells size cell) (entry n)) (next o k)
  where
    next : (o k : ℕ) → o + 1 + k ≡ o + suc k
    next o k = omega arith
cells_from o (x ∷ xs) (Cells s c ∷ ps) entry (suc k) size cell a e = cells_from (o + 1) xs ps entry k size cell a.1 e ∙ ap (λ n. object_from (cells size cell) (entry n)) (next o k)
  where
    next : (o k : ℕ) → o + 1 + k ≡ o + suc k
    next o k = omega arith

pub constant_seen : (xs : List Origin) (ps : List Part) (entry : ℕ → ℕ → ℕ) (k : ℕ) → AreParts xs ps → slice_get ps k ≡ Some Constant
    → object_of (start_memory (divided xs ps) entry) k ≡ object_of (start_memory xs entry) k
constant_seen xs ps entry k a e = constant_from 0 xs ps entry k a e

pub cells_seen : (xs : List Origin) (ps : List Part) (entry : ℕ → ℕ → ℕ) (k size cell : ℕ) → AreParts xs ps → slice_get ps k ≡ Some (Cells size cell)
    → object_of (start_memory (divided xs ps) entry) k ≡ object_from (cells size cell) (entry k)
cells_seen xs ps entry k size cell a e = cells_from 0 xs ps entry k size cell a e ∙ ap (λ n. object_from (cells size cell) (entry n)) (none k)
  where
    none : (k : ℕ) → 0 + k ≡ k
    none k = omega arith

pub part_seen : (xs : List Origin) (ps : List Part) (entry : ℕ → ℕ → ℕ) (k : ℕ) (p : Part) → AreParts xs ps → slice_get ps k ≡ Some p
    → object_of (start_memory (divided xs ps) entry) k ≡ part_bytes (start_memory xs entry) entry k p
part_seen xs ps entry k Constant a e = constant_seen xs ps entry k a e
part_seen xs ps entry k (Cells size cell) a e = cells_seen xs ps entry k size cell a e

-- the origin of an object that has cells
pub origin_seen : (xs : List Origin) (ps : List Part) (k size cell : ℕ) → AreParts xs ps → slice_get ps k ≡ Some (Cells size cell) → slice_get (divided xs ps) k ≡ Some (cells size cell)
origin_seen [] [] k size cell a e = absurd (cc)
origin_seen [] (q ∷ ps) k size cell a e = absurd a
origin_seen (x ∷ xs) [] k size cell a e = absurd a
origin_seen (x ∷ xs) (Constant ∷ ps) zero size cell a e = absurd (cc)
origin_seen (x ∷ xs) (Cells s c ∷ ps) zero size cell a e = λ i. Some (cells (long i) (wide i))
  where
    long : s ≡ size
    long = cc

    wide : c ≡ cell
    wide = cc
origin_seen (x ∷ xs) (Constant ∷ ps) (suc k) size cell a e = origin_seen xs ps k size cell a.1 e
origin_seen (x ∷ xs) (Cells s c ∷ ps) (suc k) size cell a e = origin_seen xs ps k size cell a.1 e

-- a constant has no cells
pub no_cells : (xs : List Origin) (ps : List Part) (k size c : ℕ) → AreParts xs ps → slice_get ps k ≡ Some Constant → slice_get (divided xs ps) k ≡ Some (cells size c) → ⊥
no_cells [] [] k size c a e f = cc
no_cells [] (q ∷ ps) k size c a e f = absurd a
no_cells (x ∷ xs) [] k size c a e f = absurd a
no_cells (fixed b ∷ xs) (Constant ∷ ps) zero size c a e f = cc
no_cells (cells s d ∷ xs) (Constant ∷ ps) zero size c a e f = absurd a.0
no_cells (x ∷ xs) (Cells s d ∷ ps) zero size c a e f = cc
no_cells (x ∷ xs) (Constant ∷ ps) (suc k) size c a e f = no_cells xs ps k size c a.1 e f
no_cells (x ∷ xs) (Cells s d ∷ ps) (suc k) size c a e f = no_cells xs ps k size c a.1 e f

pub same_cells : (s c size cell : ℕ) → Some (cells s c) ≡ Some (cells size cell) → (s ≡ size) × (c ≡ cell)
same_cells s c size cell e = (cc, cc)

-- the size of the cells of an object
pub cell_seen : (xs : List Origin) (ps : List Part) (k : ℕ) (p : Part) → AreParts xs ps → slice_get ps k ≡ Some p → part_cell p ≡ cell_in (slice_get (divided xs ps) k)
cell_seen [] [] k p a e = absurd (cc)
cell_seen [] (q ∷ ps) k p a e = absurd a
cell_seen (x ∷ xs) [] k p a e = absurd a
cell_seen (x ∷ xs) (q ∷ ps) zero p a e = subst (λ p. part_cell p ≡ cell_in (slice_get (divided (x ∷ xs) (q ∷ ps)) 0)) (same q p e) (own x q a.0)
  where
    same : (q p : Part) → Some q ≡ Some p → q ≡ p
    same q p e = cc

    own : (x : Origin) (q : Part) → IsPart x q → part_cell q ≡ cell_in (slice_get (divided (x ∷ xs) (q ∷ ps)) 0)
    own (fixed b) Constant i = refl
    own (fixed b) (Cells s d) i = refl
    own (cells s c) Constant i = absurd i
    own (cells s c) (Cells t d) i = refl
cell_seen (x ∷ xs) (Constant ∷ ps) (suc k) p a e = cell_seen xs ps k p a.1 e
cell_seen (x ∷ xs) (Cells s d ∷ ps) (suc k) p a e = cell_seen xs ps k p a.1 e

-- ---- the origins are those of the objects

pub origins_of_bytes : (os : List Object) (xs : List Origin) (ps : List Part) → AreParts xs ps → AreOriginsOf os (divided xs ps) → AreOriginsOf os xs
origins_of_bytes [] [] [] a o = tt
origins_of_bytes [] [] (p ∷ ps) a o = absurd a
origins_of_bytes [] (x ∷ xs) [] a o = absurd a
origins_of_bytes [] (x ∷ xs) (Constant ∷ ps) a o = absurd o
origins_of_bytes [] (x ∷ xs) (Cells s c ∷ ps) a o = absurd o
origins_of_bytes (w ∷ os) [] ps a o = absurd o
origins_of_bytes (w ∷ os) (x ∷ xs) [] a o = absurd a
origins_of_bytes (w ∷ os) (x ∷ xs) (Constant ∷ ps) a o = (o.0, origins_of_bytes os xs ps a.1 o.1)
origins_of_bytes (w ∷ os) (fixed b ∷ xs) (Cells s c ∷ ps) a o = absurd a.0
origins_of_bytes (w ∷ os) (cells t d ∷ xs) (Cells s c ∷ ps) a o = ((o.0.0, a.0.0 ∙ o.0.1, a.0.1), origins_of_bytes os xs ps a.1 o.1)

-- cells of some widths
abbrev pub AreWidths : List ℕ → Type 0
AreWidths [] = Unit {0}
AreWidths (c ∷ cs) = IsWidth c × AreWidths cs

widths : {X : Type 0} (f : X → ℕ) (xs : List X) → ((x : X) → IsWidth (f x)) → AreWidths (map f xs)
widths f [] w = tt
widths f (x ∷ xs) w = (w x, widths f xs w)

one_part : (o : Object) (x : Origin) (c : ℕ) → IsOriginOf o x → IsWidth c → IsPart x (part_of o.constant o.size c)
one_part o (fixed b) c i w = subst (λ t. IsPart (fixed b) (part_of t o.size c)) (sym i.0) tt
one_part o (cells s d) c i w = subst (λ t. IsPart (cells s d) (part_of t o.size c)) (sym i.0) (i.1, i.2, w)

are_parts : (os : List Object) (xs : List Origin) (cs : List ℕ) → AreOriginsOf os xs → AreWidths cs → length cs ≡ length os → AreParts xs (parts_by os cs)
are_parts [] [] cs a w l = tt
are_parts [] (x ∷ xs) cs a w l = absurd a
are_parts (o ∷ os) [] cs a w l = absurd a
are_parts (o ∷ os) (x ∷ xs) [] a w l = absurd (omega (arith, l))
are_parts (o ∷ os) (x ∷ xs) (c ∷ cs) a w l = (one_part o x c a.0 w.0, are_parts os xs cs a.1 w.1 (omega (arith, l)))

are_origins : (os : List Object) (xs : List Origin) (cs : List ℕ) → AreOriginsOf os xs → AreWidths cs → length cs ≡ length os → AreOriginsOf os (divided xs (parts_by os cs))
are_origins [] [] cs a w l = tt
are_origins [] (x ∷ xs) cs a w l = absurd a
are_origins (o ∷ os) [] cs a w l = absurd a
are_origins (o ∷ os) (x ∷ xs) [] a w l = absurd (omega (arith, l))
are_origins (o ∷ os) (fixed b ∷ xs) (c ∷ cs) a w l =
    subst (λ t. AreOriginsOf (o ∷ os) (divided (fixed b ∷ xs) (part_of t o.size c ∷ parts_by os cs))) (sym a.0.0) (a.0, are_origins os xs cs a.1 w.1 (omega (arith, l)))
are_origins (o ∷ os) (cells s d ∷ xs) (c ∷ cs) a w l =
    subst (λ t. AreOriginsOf (o ∷ os) (divided (cells s d ∷ xs) (part_of t o.size c ∷ parts_by os cs))) (sym a.0.0) ((a.0.0, refl, w.0), are_origins os xs cs a.1 w.1 (omega (arith, l)))

behind : (x : Origin) (p : Part) (xs : List Origin) (ps : List Part) (k : ℕ) (y : Origin) → slice_get (divided (x ∷ xs) (p ∷ ps)) (suc k) ≡ Some y → slice_get (divided xs ps) k ≡ Some y
behind x Constant xs ps k y e = e
behind x (Cells s c) xs ps k y e = e

-- the cells that an object is to have
cell_given : (os : List Object) (xs : List Origin) (cs : List ℕ) (k size c : ℕ) → AreOriginsOf os xs → slice_get (divided xs (parts_by os cs)) k ≡ Some (cells size c) → slice_get cs k ≡ Some c
cell_given [] [] cs k size c a e = absurd (cc)
cell_given [] (x ∷ xs) cs k size c a e = absurd a
cell_given (o ∷ os) [] cs k size c a e = absurd a
cell_given (o ∷ os) (x ∷ xs) [] k size c a e = absurd (cc)
cell_given (o ∷ os) (fixed b ∷ xs) (d ∷ cs) zero size c a e = absurd (no (subst (λ t. slice_get (divided (fixed b ∷ xs) (part_of t o.size d ∷ parts_by os cs)) 0 ≡ Some (cells size c)) a.0.0 e))
  where
    no : Some (fixed b) ≡ Some (cells size c) → ⊥
    no e = cc
cell_given (o ∷ os) (cells s f ∷ xs) (d ∷ cs) zero size c a e =
    ap Some ((same_cells o.size d size c (subst (λ t. slice_get (divided (cells s f ∷ xs) (part_of t o.size d ∷ parts_by os cs)) 0 ≡ Some (cells size c)) a.0.0 e)).1)
cell_given (o ∷ os) (x ∷ xs) (d ∷ cs) (suc k) size c a e = cell_given os xs cs k size c a.1 (behind x (part_of o.constant o.size d) xs (parts_by os cs) k (cells size c) e)

mapped_at : {X : Type 0} (f : X → ℕ) (xs : List X) (k : ℕ) (x : X) (c : ℕ) → slice_get xs k ≡ Some x → slice_get (map f xs) k ≡ Some c → f x ≡ c
mapped_at {X} f [] k x c e h = absurd (cc)
mapped_at {X} f (y ∷ xs) zero x c e h = ap f (sym (same y x e)) ∙ one (f y) c h
  where
    same : (a b : X) → Some a ≡ Some b → a ≡ b
    same a b e = cc

    one : (a b : ℕ) → Some a ≡ Some b → a ≡ b
    one a b e = cc
mapped_at {X} f (y ∷ xs) (suc k) x c e h = mapped_at f xs k x c e h

counted : {X Y : Type 0} (f : X → Y) (xs : List X) → length (map f xs) ≡ length xs
counted f [] = refl
counted f (x ∷ xs) = ap suc (counted f xs)

as_many : (m : ModuleView) (l : LayoutView) → IsLayoutOf m l → length (map (λ (g : List ℕ × GlobalView). cell_of (meant m.types g.1.over)) m.globals) ≡ length l.objects
as_many m l is =
    counted (λ (g : List ℕ × GlobalView). cell_of (meant m.types g.1.over)) m.globals ∙ sym (counted (λ (g : List ℕ × GlobalView). object_size m.types g.1) m.globals)
    ∙ sym (ap length is.sizes) ∙ counted (λ (o : Object). o.size) l.objects

all_widths : (m : ModuleView) → AreWidths (map (λ (g : List ℕ × GlobalView). cell_of (meant m.types g.1.over)) m.globals)
all_widths m = widths (λ (g : List ℕ × GlobalView). cell_of (meant m.types g.1.over)) m.globals (λ g. cell_width (meant m.types g.1.over))

pub made_parts : (m : ModuleView) (l : LayoutView) (xs : List Origin) (ps : List Part) → IsLayoutOf m l → AreOriginsOf l.objects xs
    → ps ≡ parts_by l.objects (map (λ (g : List ℕ × GlobalView). cell_of (meant m.types g.1.over)) m.globals) → AreParts xs ps
made_parts m l xs ps is a made = subst (AreParts xs) (sym made) (are_parts l.objects xs (map (λ (g : List ℕ × GlobalView). cell_of (meant m.types g.1.over)) m.globals) a (all_widths m) (as_many m l is))

pub made_origins : (m : ModuleView) (l : LayoutView) (xs : List Origin) (ps : List Part) → IsLayoutOf m l → AreOriginsOf l.objects xs
    → ps ≡ parts_by l.objects (map (λ (g : List ℕ × GlobalView). cell_of (meant m.types g.1.over)) m.globals) → AreOriginsOf l.objects (divided xs ps)
made_origins m l xs ps is a made =
    subst (λ ps. AreOriginsOf l.objects (divided xs ps)) (sym made) (are_origins l.objects xs (map (λ (g : List ℕ × GlobalView). cell_of (meant m.types g.1.over)) m.globals) a (all_widths m) (as_many m l is))

pub made_cells : (m : ModuleView) (l : LayoutView) (xs : List Origin) (ps : List Part) → AreOriginsOf l.objects xs
    → ps ≡ parts_by l.objects (map (λ (g : List ℕ × GlobalView). cell_of (meant m.types g.1.over)) m.globals) → HaveCellSizes m (divided xs ps)
made_cells m l xs ps a made = subst (λ ps. HaveCellSizes m (divided xs ps)) (sym made) (λ k size c g there cell.
    subst (λ d. IsCellSize (object_size m.types g.1) (leaves 0 (meant m.types g.1.over)) d)
    (mapped_at (λ (g : List ℕ × GlobalView). cell_of (meant m.types g.1.over)) m.globals k g c there (cell_given l.objects xs (map (λ (g : List ℕ × GlobalView). cell_of (meant m.types g.1.over)) m.globals) k size c a cell))
    (cell_is (meant m.types g.1.over)))

pub as_many_parts : (os : List Object) (xs : List Origin) (ps : List Part) → AreParts xs ps → AreOriginsOf os (divided xs ps) → length os ≡ length ps
as_many_parts os xs ps a o = origins_count os (divided xs ps) o ∙ divided_count xs ps a

-- ---- one more

pub one_more : (os : List Object) (cs : List ℕ) (k : ℕ) (t : Bool) (s c : ℕ) (parts : List Part) (more : List Part) (whole : List Part)
    → slice_get (map (λ (o : Object). o.constant) os) k ≡ Some t → slice_get (map (λ (o : Object). o.size) os) k ≡ Some s → slice_get cs k ≡ Some c → more ≡ parts ++ part_of t s c ∷ []
    → parts ++ parts_by (drop k os) (drop k cs) ≡ whole → more ++ parts_by (drop (k + 1) os) (drop (k + 1) cs) ≡ whole
one_more os cs k t s c parts more whole ht hs hc added so_far =
    ap (λ ps. ps ++ parts_by (drop (k + 1) os) (drop (k + 1) cs)) added ∙ append_assoc parts (part_of t s c ∷ []) (parts_by (drop (k + 1) os) (drop (k + 1) cs))
    ∙ ap (λ ps. parts ++ ps) (sym (front os cs k ht hs hc)) ∙ so_far
  where
    front : (os : List Object) (cs : List ℕ) (k : ℕ) → slice_get (map (λ (o : Object). o.constant) os) k ≡ Some t → slice_get (map (λ (o : Object). o.size) os) k ≡ Some s → slice_get cs k ≡ Some c
        → parts_by (drop k os) (drop k cs) ≡ part_of t s c ∷ parts_by (drop (k + 1) os) (drop (k + 1) cs)
    front [] cs k a b d = absurd (cc)
    front (o ∷ os) [] k a b d = absurd (cc)
    front (o ∷ os) (e ∷ cs) zero a b d = λ i. part_of (truth i) (long i) (wide i) ∷ parts_by os cs
      where
        truth : o.constant ≡ t
        truth = cc

        long : o.size ≡ s
        long = cc

        wide : e ≡ c
        wide = cc
    front (o ∷ os) (e ∷ cs) (suc k) a b d = rw (add-one (suc k)) (front os cs k a b d ∙ (λ i. part_of t s c ∷ parts_by (drop (add-one k i) os) (drop (add-one k i) cs)))
