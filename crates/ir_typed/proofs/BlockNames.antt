-- Blocks by their names: where a jump leads, and the arm of a phi for the edge that was taken.
use Rattle.std.proofs.Common.{◌≡◌, ◌⊎◌, inl, inr, ℕ, zero, suc, ◌+◌, ◌<◌, ◌==◌, Bool, true, false, ◌&&◌, ◌||◌, cond, if◌then◌else◌, Option, Some, None, List, [], ◌∷◌, ◌++◌, length, map, refl, sym, ◌∙◌, ap, subst, arith}
use Rattle.std.specs.Prelude.{Contains, flat_map, option_to_list, is_some, unwrap_or, position, bytes_eq, slice_get, count_by}
use Rattle.std.specs.List.{list_all, list_any, AllByRecursion}
use Rattle.std.proofs.lemmas.Bool.{cases_Bool, eqb-true, eq-eqb}
use Rattle.std.proofs.lemmas.List.{append-nil, length-map}
use Rattle.std.proofs.lemmas.List.Elements.{Contains-append_right, Contains-append_cases}
use Rattle.std.proofs.lemmas.Slice.Eq.{bytes_eq-Decides}
use Rattle.ir_ast.specs.Plain.{Val}
use Rattle.ir_ast.specs.Program as plain
use Rattle.ir_ast.specs.Program.{Act, InstrView, BlockView, FunctionView, ModuleView}
use Rattle.ir_ast.specs.Table.{names_of, place_of}
use Rattle.ir_type.specs.Names.{entry_of, globals_in}
use Rattle.ir_type.specs.Rows.{used, values, targets, arm_blocks}
use Rattle.ir_type.specs.Shape.{is_last, Ends}
use Rattle.ir_type.proofs.Places.{at_place, no_place, same_first, same_second, get_below}
use Rattle.ir_typing.specs.Known.{is_known, knows_range, knows_callee}
use Rattle.ir_typing.specs.Places.{block_names}
use Rattle.ir_typing.specs.Registers.{blocks_of, block_of, registers_of}
use Rattle.ir_typing.specs.Fits.{is_phi}
use Rattle.ir_check.specs.Graphs.{named, named_blocks}
use Rattle.ir_check.specs.Paths.{HasEdge, instrs_of, targets_of}
use Rattle.ir_check.specs.Arms.{MeetsCounts}
use Rattle.ir_check.proofs.BlockOrders as orders
use Rattle.ir_check.proofs.EdgeLaws.{block_entry}
use Rattle.ir_check.proofs.TallyLaws.{count-cons}
use Rattle.ir_check.proofs.Undefined.{in_flat_map}
use Rattle.ir_check.proofs.UseLaws.{block_at}
use Rattle.ir_machine.specs.Step.{arm_from}
use Rattle.ir_resolve.specs.Operands.{input_of}
use Rattle.ir_resolve.specs.Acts.{block_place, arms_of}
use Rattle.ir_kernel.proofs.CodePlaces.{IsBody, blocks_differ}
use Rattle.ir_kernel.proofs.LoadTypes.{left_of, right_of}
use Rattle.ir_typed.proofs.Using.{each_true}

-- ---- the block of a name

names_are : (bs : List BlockView) → map (λ (b : BlockView). b.name) bs ≡ names_of (named bs)
names_are [] = refl
names_are (b ∷ bs) = ap (λ ns. b.name ∷ ns) (names_are bs)

pub record IsBlockOf (f : FunctionView) (y : List ℕ) : Type 0 where
  pub place : ℕ
  pub block : BlockView
  pub at : slice_get (blocks_of f) place ≡ Some block
  pub named : block.name ≡ y
  pub is : block_place f y ≡ place

pub block_known : (f : FunctionView) (y : List ℕ) → is_some (block_of f y) ≡ true → IsBlockOf f y
block_known f y e = by (place_of y (named_blocks f)) refl
  where
    clash : {A : Type 0} → false ≡ true → A
    clash e = absurd cc

    by : (o : Option ℕ) → place_of y (named_blocks f) ≡ o → IsBlockOf f y
    by None h = clash (sym (ap is_some (no_place (named_blocks f) y h)) ∙ ap is_some (block_entry f y) ∙ e)
    by (Some q) h =
        let at = block_at (blocks_of f) y q h in record {
          place = q;
          block = at.0;
          at = at.1;
          named = at.2;
          is = ap (λ (o : Option ℕ). unwrap_or o (length (block_names f))) (ap (position (bytes_eq y)) (names_are (blocks_of f)) ∙ h);
        }

pub targets_known : (m : ModuleView) (f : FunctionView) (a : Act) → is_known m f a ≡ true → (y : List ℕ) → Contains (targets a) y → is_some (block_of f y) ≡ true
targets_known m f a e y c =
    let one = list_all (λ x. is_some (entry_of x (registers_of f))) (used a) in
    let two = list_all (λ x. is_some (entry_of x m.globals)) (flat_map globals_in (values a)) in
    let three = list_all (λ x. is_some (block_of f x)) (targets a) in
    let four = list_all (λ x. is_some (block_of f x)) (arm_blocks a) in
    let five : (one && two && three && four && knows_range m a) ≡ true = left_of (one && two && three && four && knows_range m a) (knows_callee m a) e in
    let last_four : (one && two && three && four) ≡ true = left_of (one && two && three && four) (knows_range m a) five in
    each_true (λ x. is_some (block_of f x)) (targets a) (right_of (one && two) three (left_of (one && two && three) four last_four)) y c

module _ (f : FunctionView) (body : IsBody f) (k : ℕ) (b : BlockView) (at : slice_get (blocks_of f) k ≡ Some b) where
  own_block : block_of f b.name ≡ Some b
  own_block =
      let differ = blocks_differ f body in
      let found = at_place (named_blocks f) b.name k (orders.block_place f differ k b at) in
      let same : found.0 ≡ b = same_second {A = List ℕ} {B = BlockView} (b.name, found.0) (b.name, b) (sym found.1.there ∙ orders.block_there f differ k b at) in
      sym (block_entry f b.name) ∙ found.1.found ∙ ap Some same

  pub own_instrs : instrs_of f b.name ≡ b.instrs
  own_instrs = ap (λ o. flat_map (λ (b : BlockView). b.instrs) (option_to_list o)) own_block ∙ append-nil b.instrs

  pub own_place : block_place f b.name ≡ k
  own_place = ap (λ (o : Option ℕ). unwrap_or o (length (block_names f))) (ap (position (bytes_eq b.name)) (names_are (blocks_of f)) ∙ orders.block_place f (blocks_differ f body) k b at)

  -- an edge to each target
  pub edge_to : (i : InstrView) (y : List ℕ) → Contains b.instrs i → Contains (targets i.act) y → HasEdge f b.name y
  edge_to i y c d =
      subst (λ is. Contains (flat_map (λ (i : InstrView). targets i.act) is) y) (sym own_instrs) (in_flat_map (λ (i : InstrView). targets i.act) b.instrs i y c d)

  -- only this block has its place
  pub named_so : (x : List ℕ) → block_place f x ≡ k → x ≡ b.name
  named_so x e = by (place_of x (named_blocks f)) refl
    where
      placed : (o : Option ℕ) → place_of x (named_blocks f) ≡ o → unwrap_or o (length (block_names f)) ≡ k
      placed o h = sym (ap (λ (o : Option ℕ). unwrap_or o (length (block_names f))) (ap (position (bytes_eq x)) (names_are (blocks_of f)) ∙ h)) ∙ e

      by : (o : Option ℕ) → place_of x (named_blocks f) ≡ o → x ≡ b.name
      by None h =
          let n : length (block_names f) ≡ length (blocks_of f) = length-map (blocks_of f) _ in
          let p = placed None h in
          let l = get_below (blocks_of f) k b at in
          absurd (omega (arith, n, p, l))
      by (Some q) h =
          let there = at_place (named_blocks f) x q h in
          let same : slice_get (named_blocks f) k ≡ Some (b.name, b) = orders.block_there f (blocks_differ f body) k b at in
          same_first {A = List ℕ} {B = BlockView} (x, there.0) (b.name, b) (sym there.1.there ∙ ap (slice_get (named_blocks f)) (placed (Some q) h) ∙ same)

-- ---- counts

pub counted : {A : Type 0} (p : A → Bool) (xs : List A) (x : A) → Contains xs x → p x ≡ true → 0 < count_by p xs
counted p [] x (k, l, e) t = absurd (omega (arith, l))
counted {A} p (y ∷ xs) x c t = by (cases_Bool (p y)) (counted p xs x) (Contains-append_cases (y ∷ []) xs x c)
  where
    more : (b : Bool) → p y ≡ b → cond b (1 + count_by p xs) (count_by p xs) ≡ count_by p (y ∷ xs)
    more b h = ap (λ b. cond b (1 + count_by p xs) (count_by p xs)) (sym h) ∙ sym (count-cons p y xs)

    own : Contains (y ∷ []) x → y ≡ x
    own (zero, l, e) = e
    own (suc k, l, e) = absurd (omega (arith, l))

    clash : true ≡ false → ⊥
    clash e = cc

    by : (p y ≡ true) ⊎ (p y ≡ false) → (Contains xs x → p x ≡ true → 0 < count_by p xs) → Contains (y ∷ []) x ⊎ Contains xs x → 0 < count_by p (y ∷ xs)
    by (inl h) rest d = let m = more true h in omega (arith, m)
    by (inr h) rest (inl d) = absurd (clash (sym t ∙ ap p (sym (own d)) ∙ h))
    by (inr h) rest (inr d) = let m = more false h in let r = rest d t in omega (arith, m, r)

pub exists : {A : Type 0} (p : A → Bool) (xs : List A) → 0 < count_by p xs → (x : A) × Contains xs x × (p x ≡ true)
exists p [] l = absurd (none l)
  where
    none : 0 < count_by p [] → ⊥
    none l = omega (arith, l)
exists {A} p (y ∷ xs) l = by (cases_Bool (p y)) (exists p xs)
  where
    by : (p y ≡ true) ⊎ (p y ≡ false) → (0 < count_by p xs → (x : A) × Contains xs x × (p x ≡ true)) → (x : A) × Contains (y ∷ xs) x × (p x ≡ true)
    by (inl h) rest = (y, (0, omega arith, refl), h)
    by (inr h) rest =
        let m = count-cons p y xs ∙ ap (λ b. cond b (1 + count_by p xs) (count_by p xs)) h in
        let r = rest (subst (λ n. 0 < n) m l) in
        (r.0, Contains-append_right (y ∷ []) xs r.0 r.1, r.2)

-- ---- the arm of an edge

pub record HasArm (m : ModuleView) (f : FunctionView) (w : Option ℕ) (k : ℕ) (arms : List (Val × List ℕ)) : Type 0 where
  pub arm : Val × List ℕ
  pub among : Contains arms arm
  pub from : block_place f arm.1 ≡ k
  pub is : arm_from k (arms_of m f w arms) ≡ Some (input_of m f w arm.0)

arm_there : (m : ModuleView) (f : FunctionView) (w : Option ℕ) (k : ℕ) (arms : List (Val × List ℕ)) (arm : Val × List ℕ) → Contains arms arm → block_place f arm.1 ≡ k → HasArm m f w k arms
arm_there m f w k [] arm (j, l, e) at = absurd (omega (arith, l))
arm_there m f w k (x ∷ arms) arm c at = by (cases_Bool (block_place f x.1 == k)) (arm_there m f w k arms arm) (Contains-append_cases (x ∷ []) arms arm c)
  where
    own : Contains (x ∷ []) arm → x ≡ arm
    own (zero, l, e) = e
    own (suc k, l, e) = absurd (omega (arith, l))

    chosen : (b : Bool) → (block_place f x.1 == k) ≡ b → arm_from k (arms_of m f w (x ∷ arms)) ≡ (if b then Some (input_of m f w x.0) else arm_from k (arms_of m f w arms))
    chosen b h = ap (λ b. if b then Some (input_of m f w x.0) else arm_from k (arms_of m f w arms)) h

    clash : true ≡ false → ⊥
    clash e = cc

    by : ((block_place f x.1 == k) ≡ true) ⊎ ((block_place f x.1 == k) ≡ false) → (Contains arms arm → block_place f arm.1 ≡ k → HasArm m f w k arms) → Contains (x ∷ []) arm ⊎ Contains arms arm
        → HasArm m f w k (x ∷ arms)
    by (inl h) rest d = record { arm = x; among = (0, omega arith, refl); from = eqb-true (block_place f x.1) k h; is = chosen true h }
    by (inr h) rest (inl d) = absurd (clash (sym (eq-eqb (block_place f x.1) k (ap (λ (a : Val × List ℕ). block_place f a.1) (own d) ∙ at)) ∙ h))
    by (inr h) rest (inr d) =
        let r = rest d at in
        record { arm = r.arm; among = Contains-append_right (x ∷ []) arms r.arm r.among; from = r.from; is = chosen false h ∙ r.is }

pub arm_of_edge : (m : ModuleView) (f : FunctionView) (body : IsBody f) (w : Option ℕ) (k : ℕ) (b to : BlockView) (arms : List (Val × List ℕ)) → slice_get (blocks_of f) k ≡ Some b → MeetsCounts f to arms
    → HasEdge f b.name to.name → block_place f b.name ≡ k → HasArm m f w k arms
arm_of_edge m f body w k b to arms at counts edge own =
    let edges = counted (bytes_eq to.name) (targets_of f b.name) to.name edge ((bytes_eq-Decides to.name to.name).1 refl) in
    let listed : 0 < count_by (λ (arm : Val × List ℕ). bytes_eq b.name arm.1) arms = subst (λ n. 0 < n) (sym (counts b.name)) edges in
    let a = exists (λ (arm : Val × List ℕ). bytes_eq b.name arm.1) arms listed in
    arm_there m f w k arms a.0 a.1 (ap (block_place f) (sym ((bytes_eq-Decides b.name a.0.1).0 a.2)) ∙ own)

-- ---- the head of a block

pub record IsHeaded (is : List InstrView) : Type 0 where
  pub phis : List InstrView
  pub next : InstrView
  pub rest : List InstrView
  pub parts : is ≡ phis ++ next ∷ rest
  pub all : AllByRecursion (λ (i : InstrView). is_phi i.act ≡ true) phis
  pub plain : is_phi next.act ≡ false

headed : (front : List InstrView) (last : InstrView) → is_phi last.act ≡ false → IsHeaded (front ++ last ∷ [])
headed [] last e = record { phis = []; next = last; rest = []; parts = refl; all = tt; plain = e }
headed (i ∷ front) last e = by (cases_Bool (is_phi i.act)) (headed front last e)
  where
    by : (is_phi i.act ≡ true) ⊎ (is_phi i.act ≡ false) → IsHeaded (front ++ last ∷ []) → IsHeaded (i ∷ front ++ last ∷ [])
    by (inl h) r = record { phis = i ∷ r.phis; next = r.next; rest = r.rest; parts = ap (λ is. i ∷ is) r.parts; all = (h, r.all); plain = r.plain }
    by (inr h) r = record { phis = []; next = i; rest = front ++ last ∷ []; parts = refl; all = tt; plain = h }

pub last_plain : (i : InstrView) → is_last i ≡ true → is_phi i.act ≡ false
last_plain i e = by i.act refl
  where
    clash : {A : Type 0} → false ≡ true → A
    clash e = absurd cc

    by : (a : Act) → i.act ≡ a → is_phi i.act ≡ false
    by (plain.phi over arms) h = clash (sym (ap (λ (a : Act). is_last (record i { act = a })) h) ∙ e)
    by a h = ap is_phi h

pub block_headed : (b : BlockView) → Ends b → IsHeaded b.instrs
block_headed b (front, last, parts, ends, none) = subst IsHeaded (sym parts) (headed front last (last_plain last ends))

-- behind the one that ends a block stands nothing
pub nothing_behind : (before : List InstrView) (i : InstrView) (after front : List InstrView) (last : InstrView) → before ++ i ∷ after ≡ front ++ last ∷ [] → is_last i ≡ true → list_any is_last front ≡ false → after ≡ []
nothing_behind [] i after [] last e h none = ap (λ (is : List InstrView). tail is) e
  where
    tail : List InstrView → List InstrView
    tail [] = []
    tail (x ∷ xs) = xs
nothing_behind [] i after (j ∷ front) last e h none =
    clash (sym (ap (λ (b : Bool). b || list_any is_last front) (ap is_last (sym (head i j (ap first e))) ∙ h)) ∙ none)
  where
    first : List InstrView → Option InstrView
    first [] = None
    first (x ∷ xs) = Some x

    head : (x y : InstrView) → Some x ≡ Some y → x ≡ y
    head x y e = cc

    clash : {A : Type 0} → true ≡ false → A
    clash e = absurd cc
nothing_behind (k ∷ before) i after [] last e h none = absurd (longer (ap length e))
  where
    longer : length (k ∷ before ++ i ∷ after) ≡ 1 → ⊥
    longer n = let l = length_middle before after i in omega (arith, n, l)
      where
        length_middle : (xs ys : List InstrView) (x : InstrView) → length (xs ++ x ∷ ys) ≡ length xs + 1 + length ys
        length_middle [] ys x = omega arith
        length_middle (y ∷ xs) ys x = let r = length_middle xs ys x in omega (arith, r)
nothing_behind (k ∷ before) i after (j ∷ front) last e h none = nothing_behind before i after front last (ap (λ (is : List InstrView). tail is) e) h (rest (is_last j) none)
  where
    tail : List InstrView → List InstrView
    tail [] = []
    tail (x ∷ xs) = xs

    rest : (b : Bool) → (b || list_any is_last front) ≡ false → list_any is_last front ≡ false
    rest false e = e
    rest true e = absurd cc
