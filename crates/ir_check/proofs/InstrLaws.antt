-- The least rule of an instruction: the rule of arms is the last.
use Rattle.std.proofs.Common.{◌≡◌, ◌⊎◌, inl, inr, ℕ, Bool, true, false, Option, Some, None, List, [], ◌∷◌, map, refl, sym, ◌∙◌, ap, subst, arith}
use Rattle.std.specs.Prelude.{MatchBool, bytes_eq, slice_get, Contains}
use Rattle.std.specs.List.{IsDistinct}
use Rattle.std.proofs.lemmas.Bool.{cases_Bool}
use Rattle.ir_ast.specs.Plain.{Ty}
use Rattle.ir_ast.specs.Table.{names_of, place_of}
use Rattle.ir_ast.specs.ProgramView.{view_arms}
use Rattle.ir_ast.specs.declared.operand.Operand.{Operand}
use Rattle.ir_ast.specs.declared.fault.KernelReason.{KernelReason}
use Rattle.ir_ast.specs.Program.{phi, InstrView, BlockView, FunctionView, ModuleView}
use Rattle.ir_type.specs.Items.{Rule, K8, K15, number_of}
use Rattle.ir_type.specs.Whole.{Types}
use Rattle.ir_typing.specs.Known.{is_known}
use Rattle.ir_typing.specs.Registers.{blocks_of}
use Rattle.ir_check.specs.Arms.{MeetsEdges, FallsK15}
use Rattle.ir_check.specs.Graphs.{named, named_blocks}
use Rattle.ir_check.specs.Sites.{sites_of}
use Rattle.ir_check.specs.Rules.{InstrFalls}
use Rattle.ir_check.specs.ItemFaults.{IsLeastReason, IsLeastPlain, IsArmsReason, arms_reason}
use Rattle.ir_check.proofs.BlockOrders.{block_place}
use Rattle.ir_check.proofs.KnownLaws.{known_sited}

pub whole_least : (Falls : Rule → Type 0) (plain found : Option KernelReason) → plain ≡ None → IsLeastPlain Falls plain → IsArmsReason (Falls K15) found → IsLeastReason Falls found
whole_least Falls plain found none least arms = by found arms
  where
    only : (q : Rule) → Falls q → q ≡ K15
    only = subst (IsLeastPlain Falls) none least

    by : (o : Option KernelReason) → IsArmsReason (Falls K15) o → IsLeastReason Falls o
    by None h = λ q p. h (subst Falls (only q p) p)
    by (Some s) (is, falls) = (K15, is, falls, λ q p. let same = ap number_of (only q p) in omega arith)

-- where no other rule is met, the names are known
pub plain_known : (m : ModuleView) (f : FunctionView) (b : BlockView) (before : List InstrView) (i : InstrView) (plain : Option KernelReason) → plain ≡ None → IsLeastPlain (InstrFalls m f b before i) plain
    → is_known m f i.act ≡ true
plain_known m f b before i plain none least = pick (cases_Bool (is_known m f i.act))
  where
    only : (q : Rule) → InstrFalls m f b before i q → q ≡ K15
    only = subst (IsLeastPlain (InstrFalls m f b before i)) none least

    pick : (is_known m f i.act ≡ true) ⊎ (is_known m f i.act ≡ false) → is_known m f i.act ≡ true
    pick (inl t) = t
    pick (inr e) = let same = ap number_of (only K8 e) in absurd (omega arith)

pub arms_say : (Meets : Type 0) (meet : Bool) (found : Option KernelReason) → found ≡ arms_reason meet → MatchBool meet Meets (Meets → ⊥) → IsArmsReason (Meets → ⊥) found
arms_say Meets meet found is h = subst (IsArmsReason (Meets → ⊥)) (sym is) (by meet h)
  where
    by : (b : Bool) → MatchBool b Meets (Meets → ⊥) → IsArmsReason (Meets → ⊥) (arms_reason b)
    by true h = λ n. n h
    by false h = (refl, h)

names_are : (bs : List BlockView) → map (λ (b : BlockView). b.name) bs ≡ names_of (named bs)
names_are [] = refl
names_are (b ∷ bs) = ap (λ ns. b.name ∷ ns) (names_are bs)

-- the arms of a phi whose names are known, by the answer of the code
pub phi_told : (m : ModuleView) (f : FunctionView) (types : Types) (over : Ty) (arms listed : List (Operand × List ℕ)) (index : List (List ℕ)) (block : ℕ) (b : BlockView) (meet : Bool) (found : Option KernelReason)
    → listed ≡ arms → index ≡ map (λ (b : BlockView). b.name) (blocks_of f) → IsDistinct bytes_eq index → slice_get (blocks_of f) block ≡ Some b → IsDistinct bytes_eq (names_of (sites_of f))
    → is_known m f (phi over (view_arms arms)) ≡ true
    → (index ≡ names_of (named_blocks f) → place_of b.name (named_blocks f) ≡ Some block
    → ((x : List ℕ) → Contains (map (λ arm. arm.1) (view_arms listed)) x → (q : ℕ) × (place_of x (named_blocks f) ≡ Some q))
    → MatchBool meet (MeetsEdges types f b over (view_arms listed)) (MeetsEdges types f b over (view_arms listed) → ⊥))
    → found ≡ arms_reason meet → IsArmsReason (FallsK15 types f b (phi over (view_arms arms))) found
phi_told m f types over arms listed index block b meet found same is differ there once known says found_is =
    arms_say (MeetsEdges types f b over (view_arms arms)) meet found found_is
    (subst (λ (rows : List (Operand × List ℕ)). MatchBool meet (MeetsEdges types f b over (view_arms rows)) (MeetsEdges types f b over (view_arms rows) → ⊥)) same
    (says named_is (block_place f (subst (IsDistinct bytes_eq) named_is differ) block b there)
    (λ x c. (known_sited f once m (phi over (view_arms arms)) known).blocks x (subst (λ (rows : List (Operand × List ℕ)). Contains (map (λ arm. arm.1) (view_arms rows)) x) same c))))
  where
    named_is : index ≡ names_of (named_blocks f)
    named_is = is ∙ names_are (blocks_of f)
