-- A configuration whose frames stand at instructions and whose registers hold what their kinds ask, and what one instruction makes of it.
use Rattle.std.proofs.Common.{◌≡◌, ◌⊎◌, inl, inr, ℕ, zero, suc, ◌<◌, Bool, true, false, ◌&&◌, ◌||◌, not, Option, Some, None, List, [], ◌∷◌, ◌++◌, refl, sym, ◌∙◌, ap, subst, arith}
use Rattle.std.specs.Prelude.{All, Contains, flat_map, option_to_list, is_some, slice_set}
use Rattle.std.specs.Bool.{beq}
use Rattle.std.proofs.lemmas.List.{length-set}
use Rattle.std.proofs.lemmas.List.Concat.{flat_map-append}
use Rattle.std.proofs.lemmas.List.Elements.{Contains-append_cases, Contains-append_left, Contains-append_right, All-contains}
use Rattle.ir_ast.specs.Plain.{Ty, Val}
use Rattle.ir_ast.specs.Program as plain
use Rattle.ir_ast.specs.Program.{Act, InstrView, BlockView, FunctionView, ModuleView}
use Rattle.ir_type.specs.Shape.{is_last, is_call, sets_none, sets_its_own, keeps_notes}
use Rattle.ir_type.specs.Whole.{meant, is_same}
use Rattle.ir_type.proofs.Places.{some_same}
use Rattle.ir_typing.specs.Registers.{Kind, kind_of, blocks_of}
use Rattle.ir_typing.specs.Fits.{scope_of, whole_kind}
use Rattle.ir_type.specs.Names.{entry_of}
use Rattle.ir_check.specs.Paths.{set_along, results, instrs_of, parameter_names}
use Rattle.ir_check.specs.Checked.{IsChecked}
use Rattle.ir_machine.specs.declared.state.Held.{Held}
use Rattle.ir_machine.specs.declared.state.Computed.{Computed}
use Rattle.ir_machine.specs.declared.state.Computed.TheVariants.{Sets, Passes, Sticks, Lost}
use Rattle.ir_machine.specs.declared.state.Frame.{Frame}
use Rattle.ir_machine.specs.declared.state.Machine.{Machine}
use Rattle.ir_machine.specs.declared.state.Next.{Next}
use Rattle.ir_machine.specs.declared.state.Next.TheVariants.{Going, Ended}
use Rattle.ir_machine.specs.Values.{Registers}
use Rattle.ir_machine.specs.Step.{with_result, going_on, after}
use Rattle.ir_resolve.specs.Resolved.{result_place, step_of}
use Rattle.ir_kernel.specs.Typed.{is_held}
use Rattle.ir_kernel.specs.Steps.{AreBytes, ComputesOf}
use Rattle.ir_kernel.proofs.LoadTypes.{right_of}
use Rattle.ir_kernel.proofs.CodePlaces.{IsBody}
use Rattle.ir_typed.specs.Endings.{IsEndOf}
use Rattle.ir_typed.proofs.RegisterKinds.{is_used, HoldsUsed, IsPlaced, result_placed, set_holds}
use Rattle.ir_typed.proofs.Standing.{IsAt, IsFrame, MovesOn, moves_on, frame_moves}

-- ---- configurations

-- the frame stands at a call of a function with this one's result
pub record IsCaller (m : ModuleView) (fr : Frame) (called : FunctionView) : Type 0 where
  pub frame : IsFrame m fr
  pub over : Ty
  pub callee : List ℕ
  pub arguments : List (Ty × Val)
  pub act : frame.instr.act ≡ plain.call over callee arguments
  pub same : is_same (meant m.types over) (meant m.types called.result) ≡ true

-- the frames below that of a function; the last is that of the function that was run
abbrev pub AreBelow : ModuleView → FunctionView → FunctionView → List Frame → Type 0
AreBelow m whole called [] = whole ≡ called
AreBelow m whole called (fr ∷ frames) = (c : IsCaller m fr called) × AreBelow m whole c.frame.function frames

pub record IsTyped (m : ModuleView) (whole : FunctionView) (c : Machine) : Type 0 where
  pub bytes : AreBytes c.memory
  pub top : IsFrame m c.top
  pub below : AreBelow m whole top.function c.below

abbrev pub NextFits : ModuleView → FunctionView → Next → Type 0
NextFits m whole (Going c) = IsTyped m whole c
NextFits m whole (Ended end) = IsEndOf (meant m.types whole.result) end

-- ---- what is set behind one instruction more

pub set_cases : (f : FunctionView) (left : List (List ℕ)) (before : List InstrView) (i : InstrView) (x : List ℕ) → Contains (set_along f left (before ++ i ∷ [])) x
    → Contains (set_along f left before) x ⊎ (i.result ≡ Some x)
set_cases f left before i x c =
    let front = parameter_names f ++ flat_map (λ x. results (instrs_of f x)) left in
    by front (Contains-append_cases front (results (before ++ i ∷ [])) x c)
  where
    own : (o : Option (List ℕ)) → Contains (option_to_list o ++ []) x → o ≡ Some x
    own None (k, l, e) = absurd (omega (arith, l))
    own (Some y) (zero, l, e) = ap Some e
    own (Some y) (suc k, l, e) = absurd (omega (arith, l))

    later : (front : List (List ℕ)) → Contains (results before) x ⊎ Contains (results (i ∷ [])) x → Contains (front ++ results before) x ⊎ (i.result ≡ Some x)
    later front (inl d) = inl (Contains-append_right front (results before) x d)
    later front (inr d) = inr (own i.result d)

    by : (front : List (List ℕ)) → Contains front x ⊎ Contains (results (before ++ i ∷ [])) x → Contains (front ++ results before) x ⊎ (i.result ≡ Some x)
    by front (inl d) = inl (Contains-append_left front (results before) x d)
    by front (inr d) =
        later front (Contains-append_cases (results before) (results (i ∷ [])) x (subst (λ xs. Contains xs x) (flat_map-append (λ (i : InstrView). option_to_list i.result) before (i ∷ [])) d))

-- ---- a result has a kind

pub record HasKind (i : InstrView) : Type 0 where
  pub kind : Kind
  pub is : kind_of i.act ≡ Some kind

kind_there : (i : InstrView) (x : List ℕ) → sets_its_own i ≡ true → i.result ≡ Some x → HasKind i
kind_there i x own r = by (kind_of i.act) refl
  where
    clash : {A : Type 0} → false ≡ true → A
    clash e = absurd cc

    nothing_set : (a : Act) → kind_of a ≡ None → (is_call a || beq true (not (sets_none a || is_last (record i { act = a })))) ≡ false
    nothing_set (plain.store over v target align) e = refl
    nothing_set (plain.goto b) e = refl
    nothing_set (plain.branch c taken other) e = refl
    nothing_set (plain.switch w on default cases) e = refl
    nothing_set (plain.give over v) e = refl
    nothing_set plain.unreachable e = refl
    nothing_set a e = absurd cc

    by : (o : Option Kind) → kind_of i.act ≡ o → HasKind i
    by (Some kind) e = record { kind = kind; is = e }
    by None e = clash (sym (nothing_set i.act e) ∙ sym (ap (λ (r : Option (List ℕ)). is_call i.act || beq (is_some r) (not (sets_none i.act || is_last i))) r) ∙ own)

pub sets_in : (f : FunctionView) (body : IsBody f) (b : BlockView) (i : InstrView) → Contains (blocks_of f) b → Contains b.instrs i → sets_its_own i ≡ true
sets_in f body b i within in_block =
    let in_body : Contains (body.first ∷ body.rest) b = subst (λ (bs : List BlockView). Contains bs b) body.blocks within in
    let noted = All-contains (λ (b : BlockView). All (λ (i : InstrView). (keeps_notes i.act && sets_its_own i) ≡ true) b.instrs) (body.first ∷ body.rest) b body.shaped.noted in_body in
    right_of (keeps_notes i.act) (sets_its_own i) (All-contains (λ (i : InstrView). (keeps_notes i.act && sets_its_own i) ≡ true) b.instrs i noted in_block)

module _ (m : ModuleView) (checked : IsChecked m) (f : FunctionView) (b : BlockView) (before : List InstrView) (i : InstrView) (behind_it : List InstrView) (rs : Registers) (at : IsAt m f b before i behind_it rs) where
  pub in_block : Contains b.instrs i
  in_block = subst (λ is. Contains is i) (sym at.parts) (Contains-append_right before (i ∷ behind_it) i (0, omega arith, refl))

  sets_own : sets_its_own i ≡ true
  sets_own = sets_in f at.body b i at.within in_block

  pub kind_placed : (x : List ℕ) → i.result ≡ Some x → (kind : HasKind i) × IsPlaced m f x kind.kind
  kind_placed x r =
      let kind = kind_there i x sets_own r in
      (kind, result_placed m f b i x kind.kind at.body at.within in_block r kind.is)

  -- an instruction that sets nothing has no result
  pub no_more : kind_of i.act ≡ None → (x : List ℕ) → Contains (set_along f at.left (before ++ i ∷ [])) x → HoldsUsed m f rs x
  no_more none x c = by (set_cases f at.left before i x c)
    where
      clash : {A : Type 0} {k : Kind} → None ≡ Some k → A
      clash e = absurd cc

      by : Contains (set_along f at.left before) x ⊎ (i.result ≡ Some x) → HoldsUsed m f rs x
      by (inl d) = at.set x d
      by (inr r) = clash (sym none ∙ (kind_placed x r).0.is)

  -- a value that its kind asks is put into the register of the instruction
  pub with_held : (h : Held) → is_last i ≡ false → ((kind : Kind) → kind_of i.act ≡ Some kind → is_used (whole_kind m.types kind) ≡ true → is_held (whole_kind m.types kind) h ≡ true)
      → MovesOn m f b before i (with_result (result_place f i.result) h rs)
  with_held h not_last fits = by i.result refl
    where
      none_set : (x : List ℕ) → i.result ≡ None → i.result ≡ Some x → HoldsUsed m f rs x
      none_set x n r = absurd (clash (sym n ∙ r))
        where
          clash : None ≡ Some x → ⊥
          clash e = cc

      same_kind : (k l : Kind) → Some k ≡ Some l → k ≡ l
      same_kind k l e = cc

      by : (o : Option (List ℕ)) → i.result ≡ o → MovesOn m f b before i (with_result (result_place f i.result) h rs)
      by None r =
          subst (λ o. MovesOn m f b before i (with_result (result_place f o) h rs)) (sym r)
          (moves_on m checked f b before i behind_it rs rs at not_last at.count (λ x c. keep x (set_cases f at.left before i x c)))
        where
          keep : (x : List ℕ) → Contains (set_along f at.left before) x ⊎ (i.result ≡ Some x) → HoldsUsed m f rs x
          keep x (inl c) = at.set x c
          keep x (inr e) = none_set x r e
      by (Some x) r =
          let p = kind_placed x r in
          let place = p.1.place in
          let put : result_place f i.result ≡ Some place = ap (result_place f) r ∙ p.1.at in
          let more = slice_set rs place (Some h) in
          let fit = λ (kind : Kind) (e : entry_of x (scope_of m f).registers ≡ Some kind) (u : is_used kind ≡ true).
          let same = same_kind kind (whole_kind m.types p.0.kind) (sym e ∙ p.1.found) in
          subst (λ k. is_held k h ≡ true) (sym same) (fits p.0.kind p.0.is (subst (λ k. is_used k ≡ true) same u)) in
          let below = subst (λ n. place < n) (sym at.count) p.1.below in
          subst (λ o. MovesOn m f b before i (with_result o h rs)) (sym put)
          (moves_on m checked f b before i behind_it rs more at not_last (length-set rs place (Some h) ∙ at.count)
          (λ y c. set_holds m f rs x y place h p.1.at below fit (keep y (set_cases f at.left before i y c))))
        where
          keep : (y : List ℕ) → Contains (set_along f at.left before) y ⊎ (i.result ≡ Some y) → HoldsUsed m f rs y ⊎ (x ≡ y)
          keep y (inl c) = inl (at.set y c)
          keep y (inr e) = inr (some_same x y (sym r ∙ e))

  -- nothing is put into it, and nothing can use it
  pub with_none : is_last i ≡ false → ((kind : Kind) → kind_of i.act ≡ Some kind → is_used (whole_kind m.types kind) ≡ true → ⊥) → MovesOn m f b before i rs
  with_none not_last unused = moves_on m checked f b before i behind_it rs rs at not_last at.count (λ x c. keep x (set_cases f at.left before i x c))
    where
      same_kind : (k l : Kind) → Some k ≡ Some l → k ≡ l
      same_kind k l e = cc

      keep : (x : List ℕ) → Contains (set_along f at.left before) x ⊎ (i.result ≡ Some x) → HoldsUsed m f rs x
      keep x (inl c) = at.set x c
      keep x (inr r) = λ k kind q e u.
          let p = kind_placed x r in
          absurd (unused p.0.kind p.0.is (subst (λ k. is_used k ≡ true) (same_kind kind (whole_kind m.types p.0.kind) (sym e ∙ p.1.found)) u))

-- ---- what an instruction gives

abbrev pub is_pass : Computed → Bool
is_pass Passes = true
is_pass _ = false

module _ (m : ModuleView) (checked : IsChecked m) (whole : FunctionView) (c : Machine) (typed : IsTyped m whole c) where
  -- the configuration with other registers on top
  pub goes : (rs : Registers) → MovesOn m typed.top.function typed.top.block typed.top.before typed.top.instr rs → NextFits m whole (going_on c rs)
  goes rs on = record { bytes = typed.bytes; top = frame_moves m checked c.top typed.top rs on; below = typed.below }

  pub given_fits : (o : Computed) → is_last typed.top.instr ≡ false → ComputesOf m.types (kind_of typed.top.instr.act) o → (o ≡ Passes → ⊥)
      → NextFits m whole (after (step_of m typed.top.function typed.top.instr) c o)
  given_fits (Sets h) not_last gives no_pass =
      let t = typed.top in
      goes (with_result (result_place t.function t.instr.result) h c.top.registers)
      (with_held m checked t.function t.block t.before t.instr t.after c.top.registers t.at h not_last (λ kind e u. by (kind_of t.instr.act) kind e gives))
    where
      none_is : {A : Type 0} (kind : Kind) → None ≡ Some kind → A
      none_is kind e = absurd cc

      same_kind : (k l : Kind) → Some k ≡ Some l → k ≡ l
      same_kind k l e = cc

      by : (o : Option Kind) (kind : Kind) → o ≡ Some kind → ComputesOf m.types o (Sets h) → is_held (whole_kind m.types kind) h ≡ true
      by None kind e g = none_is kind e
      by (Some k) kind e g = subst (λ k. is_held (whole_kind m.types k) h ≡ true) (same_kind k kind e) g
  given_fits Passes not_last gives no_pass = absurd (no_pass refl)
  given_fits (Sticks r) not_last gives no_pass = tt
  given_fits Lost not_last gives no_pass = absurd (lost (kind_of typed.top.instr.act) gives)
    where
      lost : (o : Option Kind) → ComputesOf m.types o Lost → ⊥
      lost None g = g
      lost (Some k) g = g
