-- The least fault of a walk over parts, and of all items.
use Rattle.std.proofs.Common.{◌≡◌, ◌⊎◌, inl, inr, ℕ, zero, suc, ◌+◌, ◌<◌, ◌≤◌, Option, Some, None, List, [], ◌∷◌, ◌++◌, length, take, refl, sym, ◌∙◌, ap, subst, arith}
use Rattle.std.specs.Prelude.{slice_get, Contains, flat_map, option_to_list}
use Rattle.std.proofs.lemmas.List.{append-nil}
use Rattle.std.proofs.lemmas.Bool.{cases_lt}
use Rattle.ir_ast.specs.Program.{InstrView, BlockView, FunctionView, ModuleView}
use Rattle.ir_ast.specs.declared.fault.KernelFault.{KernelFault}
use Rattle.ir_ast.specs.declared.fault.KernelReason.{KernelReason}
use Rattle.ir_type.specs.Items.{layout_item, type_item, global_item, range_item, function_item, instr_item, IsItem, IsFunction, K10}
use Rattle.ir_type.specs.Shape.{IsLined}
use Rattle.ir_type.proofs.Places.{get_below, some_same}
use Rattle.ir_typing.specs.Registers.{blocks_of}
use Rattle.ir_check.specs.Paths.{FallsK10}
use Rattle.ir_check.specs.Rules.{FallsByCheck, InstrFalls}
use Rattle.ir_check.specs.Least.{reason_of, number, Faults, IsUpTo, IsLeast, Either, AllFaults, least_of}
use Rattle.ir_check.specs.Parts.{AmongFirst, AmongAll, OfPlace, HeadFaults, BodyFaults, PartFaults}
use Rattle.ir_check.proofs.FirstFault.{least_joins, least_same, least_covers}
use Rattle.ir_check.proofs.SiteLaws.{get_at, contains_at}

-- ---- several parts

pub least_more : (P : ℕ → Faults) (n : ℕ) (a b : Option KernelFault) → IsLeast (AmongFirst P n) a → IsLeast (P n) b → IsLeast (AmongFirst P (n + 1)) (least_of a b)
least_more P n a b first next = least_same (Either (AmongFirst P n) (P n)) (AmongFirst P (n + 1)) (least_of a b) (least_joins (AmongFirst P n) (P n) a b first next) to from
  where
    to : (l : ℕ) (r : KernelReason) → Either (AmongFirst P n) (P n) l r → AmongFirst P (n + 1) l r
    to l r (inl (k, below, p)) = (k, omega arith, p)
    to l r (inr p) = (n, omega arith, p)

    from : (l : ℕ) (r : KernelReason) → AmongFirst P (n + 1) l r → Either (AmongFirst P n) (P n) l r
    from l r (k, below, p) = pick (cases_lt k n)
      where
        pick : (k < n) ⊎ (n ≤ k) → Either (AmongFirst P n) (P n) l r
        pick (inl b) = inl (k, b, p)
        pick (inr b) = let same : k ≡ n = omega arith in inr (subst (λ j. P j l r) same p)

-- no part stands behind the first n
pub least_all : (P : ℕ → Faults) (n : ℕ) (o : Option KernelFault) → ((k : ℕ) (l : ℕ) (r : KernelReason) → P k l r → k < n) → IsLeast (AmongFirst P n) o → IsLeast (AmongAll P) o
least_all P n o below first = least_same (AmongFirst P n) (AmongAll P) o first (λ l r (k, b, p). (k, p)) (λ l r (k, p). (k, below k l r p, p))

pub place_below : {A : Type 0} (P : A → Faults) (xs : List A) (k l : ℕ) (r : KernelReason) → OfPlace P xs k l r → k < length xs
place_below P xs k l r (x, there, p) = get_below xs k x there

pub least_at : {A : Type 0} (P : A → Faults) (xs : List A) (k : ℕ) (x : A) (o : Option KernelFault) → slice_get xs k ≡ Some x → IsLeast (P x) o → IsLeast (OfPlace P xs k) o
least_at P xs k x o there least =
    least_same (P x) (OfPlace P xs k) o least (λ l r p. (x, there, p)) (λ l r (y, at, p). subst (λ z. P z l r) (some_same y x (sym at ∙ there)) p)

-- ---- lists

pub split_at : {A : Type 0} (xs : List A) (k : ℕ) (x : A) → slice_get xs k ≡ Some x → (after : List A) × (xs ≡ take k xs ++ x ∷ after)
split_at [] k x e = absurd cc
split_at (y ∷ xs) zero x e = (xs, ap (λ z. z ∷ xs) (some_same y x e))
split_at (y ∷ xs) (suc k) x e = let r = split_at xs k x e in (r.0, ap (λ ys. y ∷ ys) r.1)

-- the element behind these
behind_these : {A : Type 0} (xs before after : List A) (x : A) → xs ≡ before ++ x ∷ after → (slice_get xs (length before) ≡ Some x) × (take (length before) xs ≡ before)
behind_these xs [] after x e = (ap (λ ys. slice_get ys 0) e, refl)
behind_these [] (b ∷ before) after x e = absurd cc
behind_these (y ∷ xs) (b ∷ before) after x e =
    let r = behind_these xs before after x (ap (λ ys. tail ys) e) in
    (r.0, ap (λ ys. y ∷ ys) r.1 ∙ ap (λ z. z ∷ before) (cc))
  where
    tail : {A : Type 0} → List A → List A
    tail [] = []
    tail (z ∷ zs) = zs

pub get_of : {A : Type 0} (xs : List A) (x : A) → Contains xs x → (k : ℕ) × (slice_get xs k ≡ Some x)
get_of xs x (k, below, e) = (k, get_at xs k x below e)

-- ---- all items

body_with : (o : Option (List BlockView)) (q : ℕ) (b : BlockView) → slice_get (flat_map (λ (blocks : List BlockView). blocks) (option_to_list o)) q ≡ Some b
    → (blocks : List BlockView) × (o ≡ Some blocks) × Contains blocks b
body_with None q b e = absurd cc
body_with (Some bs) q b e = (bs, refl, contains_at bs q b (ap (λ (ys : List BlockView). slice_get ys q) (sym (append-nil bs)) ∙ e))

module _ (m : ModuleView) where
  instr_there : (f : FunctionView) (q k : ℕ) (b : BlockView) (i : InstrView) → IsFunction m f → slice_get (blocks_of f) q ≡ Some b → slice_get b.instrs k ≡ Some i
      → IsItem m (instr_item f b (take k b.instrs) i)
  instr_there f q k b i own at here =
      let body = body_with f.body q b at in
      let s = split_at b.instrs k i here in
      (own, body.0, body.1, body.2, s.0, s.1)

  to_item : (l : ℕ) (r : KernelReason) → PartFaults m l r → AllFaults (FallsByCheck m) m l r
  to_item l r (inl (k, ((x, g), there, (rule, is, line, falls)))) =
      let s = split_at m.globals k (x, g) there in
      (rule, is, (global_item (take k m.globals) g, (x, s.0, s.1), line, falls))
  to_item l r (inr (p, ((x, f), there, inl (rule, is, line, falls)))) = (rule, is, (function_item f, (x, contains_at m.functions p (x, f) there), line, falls))
  to_item l r (inr (p, ((x, f), there, inr (q, (b, at, (k, (i, here, (rule, is, line, falls)))))))) =
      (rule, is, (instr_item f b (take k b.instrs) i, instr_there f q k b i (x, contains_at m.functions p (x, f) there) at here, line, falls))

  from_item : (l : ℕ) (r : KernelReason) → AllFaults (FallsByCheck m) m l r → PartFaults m l r
  from_item l r (rule, is, (layout_item t, own, line, falls)) = absurd falls
  from_item l r (rule, is, (type_item x e, own, line, falls)) = absurd falls
  from_item l r (rule, is, (range_item e, own, line, falls)) = absurd falls
  from_item l r (rule, is, (global_item before g, (x, after, e), line, falls)) =
      let b = behind_these m.globals before after (x, g) e in
      inl (length before, ((x, g), b.0, (rule, is, line, falls)))
  from_item l r (rule, is, (function_item f, (x, c), line, falls)) = let p = get_of m.functions (x, f) c in inr (p.0, ((x, f), p.1, inl (rule, is, line, falls)))
  from_item l r (rule, is, (instr_item f b before i, ((x, c), blocks, body, d, after, e), line, falls)) =
      let p = get_of m.functions (x, f) c in
      let q = get_of blocks b d in
      let k = behind_these b.instrs before after i e in
      let at : slice_get (blocks_of f) q.0 ≡ Some b =
      ap (λ (o : Option (List BlockView)). slice_get (flat_map (λ (bs : List BlockView). bs) (option_to_list o)) q.0) body ∙ ap (λ (bs : List BlockView). slice_get bs q.0) (append-nil blocks) ∙ q.1 in
      inr (p.0, ((x, f), p.1, inr (q.0, (b, at, (length before, (i, k.0, (rule, is, line, subst (λ is. InstrFalls m f b is i rule) (sym k.1) falls)))))))

  -- the least fault of a walk is that of all items
  pub least_of_parts : (o : Option KernelFault) → IsLeast (PartFaults m) o → IsLeast (AllFaults (FallsByCheck m) m) o
  least_of_parts o least = least_same (PartFaults m) (AllFaults (FallsByCheck m) m) o least to_item from_item

  -- ---- a function

  module _ (lined : IsLined m) (f : FunctionView) (own : IsFunction m f) where
    -- a fault of its head comes before those of its instructions
    pub head_first : (o : KernelFault) → IsLeast (HeadFaults m f) (Some o) → IsLeast (Either (HeadFaults m f) (BodyFaults m f)) (Some o)
    head_first o least = least_covers (HeadFaults m f) (Either (HeadFaults m f) (BodyFaults m f)) (Some o) least (λ l r p. inl p) covers
      where
        covers : (l : ℕ) (r : KernelReason) → Either (HeadFaults m f) (BodyFaults m f) l r → (k : ℕ) × (s : KernelReason) × HeadFaults m f k s × IsUpTo k (number s) l (number r)
        covers l r (inl p) = (l, r, p, inr (refl, omega arith))
        covers l r (inr (q, (b, at, (k, (i, here, (rule, is, line, falls)))))) =
            let before = lined f b (take k b.instrs) i (instr_there f q k b i own at here) in
            let head = least.0.2 in
            (o.line, o.reason, least.0, inl (omega arith))

    pub head_alone : FallsK10 f → (o : Option KernelFault) → IsLeast (HeadFaults m f) o → IsLeast (Either (HeadFaults m f) (BodyFaults m f)) o
    head_alone falls None least = absurd (least f.line (reason_of K10) (K10, refl, refl, falls))
    head_alone falls (Some o) least = head_first o least

    pub head_then_body : (o : Option KernelFault) → IsLeast (HeadFaults m f) None → IsLeast (BodyFaults m f) o → IsLeast (Either (HeadFaults m f) (BodyFaults m f)) o
    head_then_body o head body = least_joins (HeadFaults m f) (BodyFaults m f) None o head body
