-- Instructions of a checked module fit.
use Rattle.std.proofs.Common.{◌≡◌, ◌⊎◌, inl, inr, ◌&&◌, Bool, true, false, None, List, ◌∷◌, ◌++◌, length, refl, sym, ◌∙◌, ap, subst, arith}
use Rattle.std.specs.Prelude.{All, Contains, flat_map, option_to_list}
use Rattle.std.proofs.lemmas.Bool.{cases_Bool}
use Rattle.std.proofs.lemmas.List.{append-nil}
use Rattle.std.proofs.lemmas.List.Elements.{Contains-append_right}
use Rattle.ir_ast.specs.Program.{InstrView, BlockView, FunctionView, ModuleView}
use Rattle.ir_type.specs.Items.{instr_item, IsItem, IsFunction, K8, K9, K13}
use Rattle.ir_type.specs.Shape.{keeps_notes, sets_its_own, IsShapedBody}
use Rattle.ir_typing.specs.Fits.{instr_fits}
use Rattle.ir_typing.specs.Known.{is_known}
use Rattle.ir_typing.specs.Registers.{blocks_of}
use Rattle.ir_check.specs.Checked.{IsChecked}
use Rattle.ir_kernel.specs.Steps.{IsFit}
use Rattle.ir_kernel.proofs.LoadTypes.{left_of}

holds_or : {A : Type 0} (b : Bool) → (b ≡ false → ⊥) → (b ≡ true → A) → A
holds_or {A} b never go = by (cases_Bool b)
  where
    by : (b ≡ true) ⊎ (b ≡ false) → A
    by (inl t) = go t
    by (inr f) = absurd (never f)

abbrev IsNoted : InstrView → Type 0
IsNoted i = (keeps_notes i.act && sets_its_own i) ≡ true

noted_at : (b : BlockView) (i : InstrView) → All IsNoted b.instrs → Contains b.instrs i → IsNoted i
noted_at b i all c = subst IsNoted c.2 (all c.0 i c.1)

noted_in : {f : FunctionView} (first : BlockView) (rest : List BlockView) (b : BlockView) → IsShapedBody f first rest → Contains (first ∷ rest) b → All IsNoted b.instrs
noted_in first rest b s c = subst (λ (b : BlockView). All IsNoted b.instrs) c.2 (s.noted c.0 b c.1)

pub instr_is_fit : (m : ModuleView) → IsChecked m → (f : FunctionView) (b : BlockView) (before after : List InstrView) (i : InstrView) → IsFunction m f → Contains (blocks_of f) b
    → b.instrs ≡ before ++ i ∷ after → IsFit m f before i
instr_is_fit m checked f b before after i own there parts = by (checked.shaped.bodies f own)
  where
    none : f.body ≡ None → IsFit m f before i
    none h =
        let n : length (blocks_of f) ≡ 0 = ap (λ o. length (flat_map (λ (bs : List BlockView). bs) (option_to_list o))) h in
        let l = there.1 in
        absurd (omega (arith, n, l))

    with : (first : BlockView) (rest : List BlockView) → IsShapedBody f first rest → Contains (first ∷ rest) b → IsFit m f before i
    with first rest s c =
        let item : IsItem m (instr_item f b before i) = (own, first ∷ rest, s.body, c, after, parts) in
        let in_block : Contains b.instrs i = subst (λ is. Contains is i) (sym parts) (Contains-append_right before (i ∷ after) i (0, omega arith, refl)) in
        holds_or (is_known m f i.act) (λ e. checked.well_formed (instr_item f b before i) item K8 e) (λ known.
        holds_or (instr_fits m f before i) (λ e. checked.well_formed (instr_item f b before i) item K9 e) (λ fitting. record {
          noted = left_of (keeps_notes i.act) (sets_its_own i) (noted_at b i (noted_in first rest b s c) in_block);
          known = known;
          fitting = fitting;
          inside = λ access. checked.well_formed (instr_item f b before i) item K13 access;
        }))

    by : (f.body ≡ None) ⊎ ((first : BlockView) × (rest : List BlockView) × IsShapedBody f first rest) → IsFit m f before i
    by (inl h) = none h
    by (inr (first, rest, s)) =
        let blocks : blocks_of f ≡ first ∷ rest = ap (λ o. flat_map (λ (bs : List BlockView). bs) (option_to_list o)) s.body ∙ append-nil (first ∷ rest) in
        with first rest s (subst (λ bs. Contains bs b) blocks there)
