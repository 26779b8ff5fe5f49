-- The items of a module in a list, and the least fault among them.
use Rattle.std.proofs.Common.{◌≡◌, ◌⊎◌, inl, inr, ℕ, ◌<◌, ◌≤◌, Bool, true, false, ◌&&◌, Option, Some, None, List, [], ◌∷◌, ◌++◌, map, refl, sym, ◌∙◌, ap, subst, arith, append_assoc}
use Rattle.std.specs.Prelude.{◌==◌, if◌then◌else◌, flat_map, nat_lt}
use Rattle.std.specs.List.{Contains}
use Rattle.std.proofs.lemmas.Bool.{or_cases, or_parts, and_parts, and_cases, ltb-true, ltb-false, eqb-true, eqb-false, cases_order}
use Rattle.std.proofs.lemmas.List.{append-nil}
use Rattle.std.proofs.lemmas.List.Elements.{Contains-append_left, Contains-append_right, Contains-append_cases}
use Rattle.ir_ast.specs.declared.fault.KernelFault.{KernelFault}
use Rattle.ir_ast.specs.declared.fault.KernelReason.{KernelReason}
use Rattle.ir_ast.specs.declared.fault.KernelReason.TheVariants as code
use Rattle.ir_ast.specs.Program.{TypeView, GlobalView, RangeView, FunctionView, BlockView, InstrView, LineView, ModuleView}
use Rattle.ir_type.specs.Items.{Item, layout_item, type_item, global_item, range_item, function_item, instr_item, IsItem, IsFunction, line_of}
use Rattle.ir_layout.specs.declared.fact.Fact.{Fact}
use Rattle.ir_layout.specs.declared.marks.Marks.{Marks}
use Rattle.ir_layout.specs.Noting.{clear, note, note_all, note_act}
use Rattle.ir_layout.specs.Texts.{has_bad_component}
use Rattle.ir_layout.specs.Least.{number_of_reason, is_before, offer, offer_marks, least_types, total_with, marks_of_global, least_globals, least_ranges, least_instrs, least_blocks, least_body, least_functions, least_text, least_fault}
use Rattle.ir_layout.proofs.Anyhow.{here, behind, split, flat_has, has_flat}

-- ---- what is found at an item

abbrev pub reason_by : Marks → Option KernelReason
reason_by marks = if marks.bad then Some code.K5 else (if marks.large then Some code.K6 else None)

abbrev pub total_from : (List ℕ → Fact) → ℕ → List (List ℕ × GlobalView) → ℕ
total_from look total [] = total
total_from look total (g ∷ gs) = total_from look (total_with look total g.1) gs

abbrev pub marks_of : (List ℕ → Fact) → Item → Marks
marks_of look (layout_item l) = clear
marks_of look (type_item x e) = note look clear e.over
marks_of look (global_item before g) = marks_of_global look (total_from look 0 before) g
marks_of look (range_item r) = note_all look clear (map (λ n. n.0) r.numbers)
marks_of look (function_item f) = note_all look (note look clear f.result) (map (λ p. p.0) f.parameters)
marks_of look (instr_item f b before i) = note_act look clear i.act

abbrev pub verdict : (List ℕ → Fact) → Item → Option KernelReason
verdict look (layout_item l) = if has_bad_component l.bytes then Some code.K7 else None
verdict look (type_item x e) = reason_by (marks_of look (type_item x e))
verdict look (global_item before g) = reason_by (marks_of look (global_item before g))
verdict look (range_item r) = reason_by (marks_of look (range_item r))
verdict look (function_item f) = reason_by (marks_of look (function_item f))
verdict look (instr_item f b before i) = reason_by (marks_of look (instr_item f b before i))

abbrev offer_one : Option KernelFault → ℕ → Option KernelReason → Option KernelFault
offer_one least line None = least
offer_one least line (Some reason) = offer least line reason

abbrev pub offers : (List ℕ → Fact) → Option KernelFault → List Item → Option KernelFault
offers look least [] = least
offers look least (item ∷ items) = offers look (offer_one least (line_of item) (verdict look item)) items

-- ---- the items

abbrev type_items : List (List ℕ × TypeView) → List Item
type_items es = map (λ e. type_item e.0 e.1) es

abbrev global_items : List (List ℕ × GlobalView) → List (List ℕ × GlobalView) → List Item
global_items before [] = []
global_items before (g ∷ gs) = global_item before g.1 ∷ global_items (before ++ g ∷ []) gs

abbrev range_items : List (List ℕ × RangeView) → List Item
range_items rs = map (λ r. range_item r.1) rs

abbrev instr_items : FunctionView → BlockView → List InstrView → List InstrView → List Item
instr_items f b before [] = []
instr_items f b before (i ∷ is) = instr_item f b before i ∷ instr_items f b (before ++ i ∷ []) is

abbrev block_items : FunctionView → List BlockView → List Item
block_items f bs = flat_map (λ b. instr_items f b [] b.instrs) bs

abbrev body_items : FunctionView → Option (List BlockView) → List Item
body_items f None = []
body_items f (Some bs) = block_items f bs

abbrev function_items : List (List ℕ × FunctionView) → List Item
function_items fs = flat_map (λ f. function_item f.1 ∷ body_items f.1 f.1.body) fs

abbrev text_items : Option LineView → List Item
text_items None = []
text_items (Some l) = layout_item l ∷ []

abbrev pub items_of : ModuleView → List Item
items_of m = text_items m.layout_text ++ (type_items m.types ++ (global_items [] m.globals ++ (range_items m.ranges ++ function_items m.functions)))

-- ---- the code's walk is one over this list

module _ (look : List ℕ → Fact) where
  offers_append : (least : Option KernelFault) (xs ys : List Item) → offers look least (xs ++ ys) ≡ offers look (offers look least xs) ys
  offers_append least [] ys = refl
  offers_append least (x ∷ xs) ys = offers_append (offer_one least (line_of x) (verdict look x)) xs ys

  marks_offered : (least : Option KernelFault) (line : ℕ) (marks : Marks) → offer_marks least line marks ≡ offer_one least line (reason_by marks)
  marks_offered least line marks = pick marks.bad marks.large
    where
      pick : (a b : Bool)
          → (if a then offer least line code.K5 else (if b then offer least line code.K6 else least)) ≡ offer_one least line (if a then Some code.K5 else (if b then Some code.K6 else None))
      pick true b = refl
      pick false true = refl
      pick false false = refl

  types_offered : (least : Option KernelFault) (es : List (List ℕ × TypeView)) → least_types look least es ≡ offers look least (type_items es)
  types_offered least [] = refl
  types_offered least (e ∷ es) =
      types_offered (offer_marks least e.1.line (note look clear e.1.over)) es ∙ ap (λ f. offers look f (type_items es)) (marks_offered least e.1.line (note look clear e.1.over))

  total_more : (total : ℕ) (before : List (List ℕ × GlobalView)) (g : List ℕ × GlobalView) → total_from look total (before ++ g ∷ []) ≡ total_with look (total_from look total before) g.1
  total_more total [] g = refl
  total_more total (h ∷ before) g = total_more (total_with look total h.1) before g

  globals_offered : (least : Option KernelFault) (total : ℕ) (before gs : List (List ℕ × GlobalView)) → total ≡ total_from look 0 before
      → least_globals look least total gs ≡ offers look least (global_items before gs)
  globals_offered least total before [] is = refl
  globals_offered least total before (g ∷ gs) is =
      globals_offered (offer_marks least g.1.line (marks_of_global look total g.1)) (total_with look total g.1) (before ++ g ∷ []) gs
      (ap (λ n. total_with look n g.1) is ∙ sym (total_more 0 before g))
      ∙ ap (λ f. offers look f (global_items (before ++ g ∷ []) gs))
      (marks_offered least g.1.line (marks_of_global look total g.1) ∙ ap (λ n. offer_one least g.1.line (reason_by (marks_of_global look n g.1))) is)

  ranges_offered : (least : Option KernelFault) (rs : List (List ℕ × RangeView)) → least_ranges look least rs ≡ offers look least (range_items rs)
  ranges_offered least [] = refl
  ranges_offered least (r ∷ rs) =
      ranges_offered (offer_marks least r.1.line (note_all look clear (map (λ n. n.0) r.1.numbers))) rs
      ∙ ap (λ f. offers look f (range_items rs)) (marks_offered least r.1.line (note_all look clear (map (λ n. n.0) r.1.numbers)))

  instrs_offered : (least : Option KernelFault) (f : FunctionView) (b : BlockView) (before is : List InstrView) → least_instrs look least is ≡ offers look least (instr_items f b before is)
  instrs_offered least f b before [] = refl
  instrs_offered least f b before (i ∷ is) =
      instrs_offered (offer_marks least i.line (note_act look clear i.act)) f b (before ++ i ∷ []) is
      ∙ ap (λ g. offers look g (instr_items f b (before ++ i ∷ []) is)) (marks_offered least i.line (note_act look clear i.act))

  blocks_offered : (least : Option KernelFault) (f : FunctionView) (bs : List BlockView) → least_blocks look least bs ≡ offers look least (block_items f bs)
  blocks_offered least f [] = refl
  blocks_offered least f (b ∷ bs) =
      blocks_offered (least_instrs look least b.instrs) f bs ∙ ap (λ g. offers look g (block_items f bs)) (instrs_offered least f b [] b.instrs)
      ∙ sym (offers_append least (instr_items f b [] b.instrs) (block_items f bs))

  body_offered : (least : Option KernelFault) (f : FunctionView) (body : Option (List BlockView)) → least_body look least body ≡ offers look least (body_items f body)
  body_offered least f None = refl
  body_offered least f (Some bs) = blocks_offered least f bs

  functions_offered : (least : Option KernelFault) (fs : List (List ℕ × FunctionView)) → least_functions look least fs ≡ offers look least (function_items fs)
  functions_offered least [] = refl
  functions_offered least (f ∷ fs) =
      let marks = note_all look (note look clear f.1.result) (map (λ p. p.0) f.1.parameters) in
      functions_offered (least_body look (offer_marks least f.1.line marks) f.1.body) fs
      ∙ ap (λ g. offers look g (function_items fs))
      (body_offered (offer_marks least f.1.line marks) f.1 f.1.body ∙ ap (λ g. offers look g (body_items f.1 f.1.body)) (marks_offered least f.1.line marks))
      ∙ sym (offers_append least (function_item f.1 ∷ body_items f.1 f.1.body) (function_items fs))

  text_offered : (text : Option LineView) → least_text text ≡ offers look None (text_items text)
  text_offered None = refl
  text_offered (Some l) = pick (has_bad_component l.bytes)
    where
      pick : (b : Bool) → (if b then Some (record { line = l.line; reason = code.K7 }) else None) ≡ offer_one None l.line (if b then Some code.K7 else None)
      pick true = refl
      pick false = refl

  pub fault_offered : (m : ModuleView) → least_fault look m ≡ offers look None (items_of m)
  fault_offered m =
      functions_offered (least_ranges look (least_globals look (least_types look (least_text m.layout_text) m.types) 0 m.globals) m.ranges) m.functions
      ∙ ap (λ f. offers look f (function_items m.functions))
      (ranges_offered (least_globals look (least_types look (least_text m.layout_text) m.types) 0 m.globals) m.ranges
      ∙ ap (λ f. offers look f (range_items m.ranges))
      (globals_offered (least_types look (least_text m.layout_text) m.types) 0 [] m.globals refl
      ∙ ap (λ f. offers look f (global_items [] m.globals))
      (types_offered (least_text m.layout_text) m.types ∙ ap (λ f. offers look f (type_items m.types)) (text_offered m.layout_text))))
      ∙ sym (offers_append None (text_items m.layout_text) (type_items m.types ++ (global_items [] m.globals ++ (range_items m.ranges ++ function_items m.functions)))
      ∙ offers_append (offers look None (text_items m.layout_text)) (type_items m.types) (global_items [] m.globals ++ (range_items m.ranges ++ function_items m.functions))
      ∙ offers_append (offers look (offers look None (text_items m.layout_text)) (type_items m.types)) (global_items [] m.globals) (range_items m.ranges ++ function_items m.functions)
      ∙ offers_append (offers look (offers look (offers look None (text_items m.layout_text)) (type_items m.types)) (global_items [] m.globals)) (range_items m.ranges) (function_items m.functions))

  -- ---- the least is one of them, and none is before it

  abbrev pub IsNoLater : KernelFault → ℕ → KernelReason → Type 0
  IsNoLater f line reason = (f.line < line) ⊎ ((f.line ≡ line) × (number_of_reason f.reason ≤ number_of_reason reason))

  pub record Covers (Offered : ℕ → KernelReason → Type 0) (least : Option KernelFault) : Type 0 where
    pub from : (f : KernelFault) → least ≡ Some f → Offered f.line f.reason
    pub below : (line : ℕ) (reason : KernelReason) → Offered line reason → (f : KernelFault) × (least ≡ Some f) × IsNoLater f line reason

  abbrev With : (ℕ → KernelReason → Type 0) → ℕ → KernelReason → ℕ → KernelReason → Type 0
  With Offered l r line reason = Offered line reason ⊎ ((l ≡ line) × (r ≡ reason))

  after : (f g : KernelFault) (line : ℕ) (reason : KernelReason) → IsNoLater g f.line f.reason → IsNoLater f line reason → IsNoLater g line reason
  after f g line reason (inl a) (inl b) = inl (omega (arith, a, b))
  after f g line reason (inl a) (inr b) = inl (let e = b.0 in omega (arith, a, e))
  after f g line reason (inr a) (inl b) = inl (let e = a.0 in omega (arith, e, b))
  after f g line reason (inr a) (inr b) = inr (a.0 ∙ b.0, let x = a.1 in let y = b.1 in omega (arith, x, y))

  before_is : (f : KernelFault) (line : ℕ) (reason : KernelReason) → is_before line reason f ≡ true → IsNoLater (record { line = line; reason = reason }) f.line f.reason
  before_is f line reason e = pick (or_cases (nat_lt line f.line) ((line == f.line) && nat_lt (number_of_reason reason) (number_of_reason f.reason)) e)
    where
      pick : (nat_lt line f.line ≡ true) ⊎ (((line == f.line) && nat_lt (number_of_reason reason) (number_of_reason f.reason)) ≡ true) → IsNoLater (record { line = line; reason = reason }) f.line f.reason
      pick (inl h) = inl (ltb-true line f.line h)
      pick (inr h) =
          let p = and_parts (line == f.line) (nat_lt (number_of_reason reason) (number_of_reason f.reason)) h in
          inr (eqb-true line f.line p.0, let l = ltb-true (number_of_reason reason) (number_of_reason f.reason) p.1 in omega (arith, l))

  before_not : (f : KernelFault) (line : ℕ) (reason : KernelReason) → is_before line reason f ≡ false → IsNoLater f line reason
  before_not f line reason e = pick (cases_order f.line line)
    where
      parts : (nat_lt line f.line ≡ false) × (((line == f.line) && nat_lt (number_of_reason reason) (number_of_reason f.reason)) ≡ false)
      parts = or_parts (nat_lt line f.line) ((line == f.line) && nat_lt (number_of_reason reason) (number_of_reason f.reason)) e

      pick : (f.line ≡ line) ⊎ ((f.line < line) ⊎ (line < f.line)) → IsNoLater f line reason
      pick (inr (inl l)) = inl l
      pick (inr (inr l)) = let h = ltb-false line f.line parts.0 in absurd (omega (arith, l, h))
      pick (inl s) = which (and_cases (line == f.line) (nat_lt (number_of_reason reason) (number_of_reason f.reason)) parts.1)
        where
          which : ((line == f.line) ≡ false) ⊎ (nat_lt (number_of_reason reason) (number_of_reason f.reason) ≡ false) → IsNoLater f line reason
          which (inl h) = absurd (eqb-false line f.line h (sym s))
          which (inr h) = inr (s, ltb-false (number_of_reason reason) (number_of_reason f.reason) h)

  itself : (f : KernelFault) → IsNoLater f f.line f.reason
  itself f = inr (refl, omega arith)

  offer_covers : (Offered : ℕ → KernelReason → Type 0) (least : Option KernelFault) (line : ℕ) (reason : KernelReason) → Covers Offered least → Covers (With Offered line reason) (offer least line reason)
  offer_covers Offered None line reason h = record { from = from; below = below }
    where
      same : (f : KernelFault) → Some (record { line = line; reason = reason }) ≡ Some f → (line ≡ f.line) × (reason ≡ f.reason)
      same f e = (cc, cc)

      from : (f : KernelFault) → Some (record { line = line; reason = reason }) ≡ Some f → With Offered line reason f.line f.reason
      from f e = inr (same f e)

      below : (l : ℕ) (r : KernelReason) → With Offered line reason l r → (f : KernelFault) × (Some (record { line = line; reason = reason }) ≡ Some f) × IsNoLater f l r
      below l r (inl o) = let g = h.below l r o in absurd (gone g.0 g.1)
        where
          gone : (f : KernelFault) → None ≡ Some f → ⊥
          gone f e = cc
      below l r (inr (a, b)) = (record { line = line; reason = reason }, refl, inr (a, subst (λ s. number_of_reason reason ≤ number_of_reason s) b (omega arith)))
  offer_covers Offered (Some g) line reason h = pick (is_before line reason g) refl
    where
      pick : (b : Bool) → is_before line reason g ≡ b → Covers (With Offered line reason) (if b then Some (record { line = line; reason = reason }) else Some g)
      pick true e = record { from = from; below = below }
        where
          same : (f : KernelFault) → Some (record { line = line; reason = reason }) ≡ Some f → (line ≡ f.line) × (reason ≡ f.reason)
          same f e = (cc, cc)

          from : (f : KernelFault) → Some (record { line = line; reason = reason }) ≡ Some f → With Offered line reason f.line f.reason
          from f s = inr (same f s)

          below : (l : ℕ) (r : KernelReason) → With Offered line reason l r → (f : KernelFault) × (Some (record { line = line; reason = reason }) ≡ Some f) × IsNoLater f l r
          below l r (inl o) =
              let k = h.below l r o in
              (record { line = line; reason = reason }, refl, after k.0 (record { line = line; reason = reason }) l r (subst (λ f. IsNoLater (record { line = line; reason = reason }) f.line f.reason) (only k.0 k.1) (before_is g line reason e)) k.2)
            where
              only : (f : KernelFault) → Some g ≡ Some f → g ≡ f
              only f e = cc
          below l r (inr (a, b)) = (record { line = line; reason = reason }, refl, inr (a, subst (λ s. number_of_reason reason ≤ number_of_reason s) b (omega arith)))
      pick false e = record { from = λ f s. inl (h.from f s); below = below }
        where
          below : (l : ℕ) (r : KernelReason) → With Offered line reason l r → (f : KernelFault) × (Some g ≡ Some f) × IsNoLater f l r
          below l r (inl o) = h.below l r o
          below l r (inr (a, b)) = (g, refl, subst (λ n. IsNoLater g n r) a (subst (λ s. IsNoLater g line s) b (before_not g line reason e)))

  -- an item of the list falls
  abbrev pub Among : List Item → ℕ → KernelReason → Type 0
  Among items line reason = (item : Item) × Contains items item × (line_of item ≡ line) × (verdict look item ≡ Some reason)

  changed : (A B : ℕ → KernelReason → Type 0) (least : Option KernelFault) → ((l : ℕ) (r : KernelReason) → A l r → B l r) → ((l : ℕ) (r : KernelReason) → B l r → A l r) → Covers A least → Covers B least
  changed A B least to back h = record { from = λ f e. to f.line f.reason (h.from f e); below = λ l r o. h.below l r (back l r o) }

  abbrev Either : (ℕ → KernelReason → Type 0) → List Item → ℕ → KernelReason → Type 0
  Either Offered items l r = Offered l r ⊎ Among items l r

  offers_cover : (Offered : ℕ → KernelReason → Type 0) (least : Option KernelFault) (items : List Item) → Covers Offered least → Covers (Either Offered items) (offers look least items)
  offers_cover Offered least [] h = changed Offered (Either Offered []) least (λ l r o. inl o) back h
    where
      back : (l : ℕ) (r : KernelReason) → Either Offered [] l r → Offered l r
      back l r (inl o) = o
      back l r (inr (item, (k, m, e), s, t)) = absurd (omega (arith, m))
  offers_cover Offered least (item ∷ items) h = pick (verdict look item) refl (λ O l g. offers_cover O l items g)
    where
      pick : (v : Option KernelReason) → verdict look item ≡ v
          → ((O : ℕ → KernelReason → Type 0) (l : Option KernelFault) → Covers O l → Covers (Either O items) (offers look l items))
          → Covers (Either Offered (item ∷ items)) (offers look (offer_one least (line_of item) v) items)
      pick None e rest =
          changed (Either Offered items) (Either Offered (item ∷ items)) (offers look least items) to back (rest Offered least h)
        where
          to : (l : ℕ) (r : KernelReason) → Either Offered items l r → Either Offered (item ∷ items) l r
          to l r (inl o) = inl o
          to l r (inr (x, c, s, t)) = inr (x, behind item x items c, s, t)

          clash : (r : KernelReason) → None ≡ Some r → ⊥
          clash r e = cc

          back : (l : ℕ) (r : KernelReason) → Either Offered (item ∷ items) l r → Either Offered items l r
          back l r (inl o) = inl o
          back l r (inr (x, c, s, t)) = which (split item x items c)
            where
              which : (item ≡ x) ⊎ Contains items x → Either Offered items l r
              which (inl same) = absurd (clash r (sym e ∙ ap (verdict look) same ∙ t))
              which (inr d) = inr (x, d, s, t)
      pick (Some reason) e rest =
          changed (Either (With Offered (line_of item) reason) items) (Either Offered (item ∷ items)) (offers look (offer least (line_of item) reason) items) to back
          (rest (With Offered (line_of item) reason) (offer least (line_of item) reason) (offer_covers Offered least (line_of item) reason h))
        where
          to : (l : ℕ) (r : KernelReason) → Either (With Offered (line_of item) reason) items l r → Either Offered (item ∷ items) l r
          to l r (inl (inl o)) = inl o
          to l r (inl (inr (a, b))) = inr (item, here item items, a, e ∙ ap Some b)
          to l r (inr (x, c, s, t)) = inr (x, behind item x items c, s, t)

          own : (r : KernelReason) → Some reason ≡ Some r → reason ≡ r
          own r e = cc

          back : (l : ℕ) (r : KernelReason) → Either Offered (item ∷ items) l r → Either (With Offered (line_of item) reason) items l r
          back l r (inl o) = inl (inl o)
          back l r (inr (x, c, s, t)) = which (split item x items c)
            where
              which : (item ≡ x) ⊎ Contains items x → Either (With Offered (line_of item) reason) items l r
              which (inl same) = inl (inr (ap line_of same ∙ s, own r (sym e ∙ ap (verdict look) same ∙ t)))
              which (inr d) = inr (x, d, s, t)

  abbrev Nothing : ℕ → KernelReason → Type 0
  Nothing l r = ⊥

  pub covered : (items : List Item) → Covers (Among items) (offers look None items)
  covered items =
      changed (Either Nothing items) (Among items) (offers look None items) to (λ l r o. inr o)
      (offers_cover Nothing None items (record { from = λ f e. absurd (gone f e); below = λ l r o. absurd o }))
    where
      gone : (f : KernelFault) → None ≡ Some f → ⊥
      gone f e = cc

      to : (l : ℕ) (r : KernelReason) → Either Nothing items l r → Among items l r
      to l r (inl o) = absurd o
      to l r (inr o) = o

-- ---- the list has the items of the module, and no others

module _ (m : ModuleView) where
  global_in : (pre before after : List (List ℕ × GlobalView)) (name : List ℕ) (g : GlobalView) → Contains (global_items pre (before ++ (name, g) ∷ after)) (global_item (pre ++ before) g)
  global_in pre [] after name g =
      subst (λ b. Contains (global_item pre g ∷ global_items (pre ++ (name, g) ∷ []) after) (global_item b g)) (sym (append-nil pre)) (here (global_item pre g) (global_items (pre ++ (name, g) ∷ []) after))
  global_in pre (x ∷ before) after name g =
      behind (global_item pre x.1) (global_item (pre ++ x ∷ before) g) (global_items (pre ++ x ∷ []) (before ++ (name, g) ∷ after))
      (subst (λ b. Contains (global_items (pre ++ x ∷ []) (before ++ (name, g) ∷ after)) (global_item b g)) (append_assoc pre (x ∷ []) before) (global_in (pre ++ x ∷ []) before after name g))

  instr_in : (f : FunctionView) (b : BlockView) (pre before after : List InstrView) (i : InstrView) → Contains (instr_items f b pre (before ++ i ∷ after)) (instr_item f b (pre ++ before) i)
  instr_in f b pre [] after i =
      subst (λ p. Contains (instr_item f b pre i ∷ instr_items f b (pre ++ i ∷ []) after) (instr_item f b p i)) (sym (append-nil pre)) (here (instr_item f b pre i) (instr_items f b (pre ++ i ∷ []) after))
  instr_in f b pre (x ∷ before) after i =
      behind (instr_item f b pre x) (instr_item f b (pre ++ x ∷ before) i) (instr_items f b (pre ++ x ∷ []) (before ++ i ∷ after))
      (subst (λ p. Contains (instr_items f b (pre ++ x ∷ []) (before ++ i ∷ after)) (instr_item f b p i)) (append_assoc pre (x ∷ []) before) (instr_in f b (pre ++ x ∷ []) before after i))

  has_map : {X Y : Type 0} (f : X → Y) (xs : List X) (x : X) → Contains xs x → Contains (map f xs) (f x)
  has_map f [] x (k, l, e) = absurd (omega (arith, l))
  has_map {X} {Y} f (y ∷ ys) x c = pick (split y x ys c) (λ d. has_map f ys x d)
    where
      pick : (y ≡ x) ⊎ Contains ys x → (Contains ys x → Contains (map f ys) (f x)) → Contains (f y ∷ map f ys) (f x)
      pick (inl e) rest = subst (λ z. Contains (f y ∷ map f ys) (f z)) e (here (f y) (map f ys))
      pick (inr d) rest = behind (f y) (f x) (map f ys) (rest d)

  map_has : {X Y : Type 0} (f : X → Y) (xs : List X) (y : Y) → Contains (map f xs) y → (x : X) × Contains xs x × (f x ≡ y)
  map_has f [] y (k, l, e) = absurd (omega (arith, l))
  map_has {X} {Y} f (x ∷ xs) y c = pick (split (f x) y (map f xs) c) (λ d. map_has f xs y d)
    where
      pick : (f x ≡ y) ⊎ Contains (map f xs) y → (Contains (map f xs) y → (z : X) × Contains xs z × (f z ≡ y)) → (z : X) × Contains (x ∷ xs) z × (f z ≡ y)
      pick (inl e) rest = (x, here x xs, e)
      pick (inr d) rest = let r = rest d in (r.0, behind x r.0 xs r.1, r.2)

  in_text : (item : Item) → Contains (text_items m.layout_text) item → Contains (items_of m) item
  in_text item c = Contains-append_left (text_items m.layout_text) (type_items m.types ++ (global_items [] m.globals ++ (range_items m.ranges ++ function_items m.functions))) item c

  in_rest : (item : Item) → Contains (type_items m.types ++ (global_items [] m.globals ++ (range_items m.ranges ++ function_items m.functions))) item → Contains (items_of m) item
  in_rest item c = Contains-append_right (text_items m.layout_text) (type_items m.types ++ (global_items [] m.globals ++ (range_items m.ranges ++ function_items m.functions))) item c

  in_globals : (item : Item) → Contains (global_items [] m.globals ++ (range_items m.ranges ++ function_items m.functions)) item → Contains (items_of m) item
  in_globals item c = in_rest item (Contains-append_right (type_items m.types) (global_items [] m.globals ++ (range_items m.ranges ++ function_items m.functions)) item c)

  in_ranges : (item : Item) → Contains (range_items m.ranges ++ function_items m.functions) item → Contains (items_of m) item
  in_ranges item c = in_globals item (Contains-append_right (global_items [] m.globals) (range_items m.ranges ++ function_items m.functions) item c)

  in_functions : (item : Item) → Contains (function_items m.functions) item → Contains (items_of m) item
  in_functions item c = in_ranges item (Contains-append_right (range_items m.ranges) (function_items m.functions) item c)

  pub listed : (item : Item) → IsItem m item → Contains (items_of m) item
  listed (layout_item l) e = in_text (layout_item l) (subst (λ t. Contains (text_items t) (layout_item l)) (sym e) (here (layout_item l) []))
  listed (type_item x e) c =
      in_rest (type_item x e) (Contains-append_left (type_items m.types) (global_items [] m.globals ++ (range_items m.ranges ++ function_items m.functions)) (type_item x e)
      (has_map {X = List ℕ × TypeView} (λ e. type_item e.0 e.1) m.types (x, e) c))
  listed (global_item before g) (name, after, e) =
      in_globals (global_item before g) (Contains-append_left (global_items [] m.globals) (range_items m.ranges ++ function_items m.functions) (global_item before g)
      (subst (λ gs. Contains (global_items [] gs) (global_item before g)) (sym e) (global_in [] before after name g)))
  listed (range_item r) (name, c) =
      in_ranges (range_item r) (Contains-append_left (range_items m.ranges) (function_items m.functions) (range_item r) (has_map {X = List ℕ × RangeView} (λ r. range_item r.1) m.ranges (name, r) c))
  listed (function_item f) (name, c) =
      in_functions (function_item f) (has_flat {X = List ℕ × FunctionView} (λ f. function_item f.1 ∷ body_items f.1 f.1.body) m.functions (name, f) (function_item f) c (here (function_item f) (body_items f f.body)))
  listed (instr_item f b before i) ((name, c), blocks, body, inside, after, is) =
      in_functions (instr_item f b before i)
      (has_flat {X = List ℕ × FunctionView} (λ f. function_item f.1 ∷ body_items f.1 f.1.body) m.functions (name, f) (instr_item f b before i) c
      (behind (function_item f) (instr_item f b before i) (body_items f f.body)
      (subst (λ o. Contains (body_items f o) (instr_item f b before i)) (sym body)
      (has_flat (λ b. instr_items f b [] b.instrs) blocks b (instr_item f b before i) inside
      (subst (λ is. Contains (instr_items f b [] is) (instr_item f b before i)) (sym is) (instr_in f b [] before after i))))))

  global_from : (pre gs : List (List ℕ × GlobalView)) (item : Item) → pre ++ gs ≡ m.globals → Contains (global_items pre gs) item → IsItem m item
  global_from pre [] item whole (k, l, e) = absurd (omega (arith, l))
  global_from pre (g ∷ gs) item whole c =
      pick (split (global_item pre g.1) item (global_items (pre ++ g ∷ []) gs) c) (λ d. global_from (pre ++ g ∷ []) gs item (append_assoc pre (g ∷ []) gs ∙ whole) d)
    where
      pick : (global_item pre g.1 ≡ item) ⊎ Contains (global_items (pre ++ g ∷ []) gs) item → (Contains (global_items (pre ++ g ∷ []) gs) item → IsItem m item) → IsItem m item
      pick (inl e) rest = subst (IsItem m) e (g.0, gs, sym whole)
      pick (inr d) rest = rest d

  instr_from : (f : FunctionView) (b : BlockView) (blocks : List BlockView) → IsFunction m f → f.body ≡ Some blocks → Contains blocks b → (pre is : List InstrView) (item : Item) → pre ++ is ≡ b.instrs
      → Contains (instr_items f b pre is) item → IsItem m item
  instr_from f b blocks there body inside pre [] item whole (k, l, e) = absurd (omega (arith, l))
  instr_from f b blocks there body inside pre (i ∷ is) item whole c =
      pick (split (instr_item f b pre i) item (instr_items f b (pre ++ i ∷ []) is) c) (λ d. instr_from f b blocks there body inside (pre ++ i ∷ []) is item (append_assoc pre (i ∷ []) is ∙ whole) d)
    where
      pick : (instr_item f b pre i ≡ item) ⊎ Contains (instr_items f b (pre ++ i ∷ []) is) item → (Contains (instr_items f b (pre ++ i ∷ []) is) item → IsItem m item) → IsItem m item
      pick (inl e) rest = subst (IsItem m) e (there, blocks, body, inside, is, sym whole)
      pick (inr d) rest = rest d

  body_from : (f : FunctionView) → IsFunction m f → (body : Option (List BlockView)) → f.body ≡ body → (item : Item) → Contains (body_items f body) item → IsItem m item
  body_from f there None e item (k, l, s) = absurd (omega (arith, l))
  body_from f there (Some blocks) e item c =
      let r = flat_has (λ b. instr_items f b [] b.instrs) blocks item c in
      instr_from f r.0 blocks there e r.1 [] r.0.instrs item refl r.2

  pub unlisted : (item : Item) → Contains (items_of m) item → IsItem m item
  unlisted item c = first (Contains-append_cases (text_items m.layout_text) (type_items m.types ++ (global_items [] m.globals ++ (range_items m.ranges ++ function_items m.functions))) item c)
    where
      text : (t : Option LineView) → m.layout_text ≡ t → Contains (text_items t) item → IsItem m item
      text None e (k, l, s) = absurd (omega (arith, l))
      text (Some l) e d = only (split (layout_item l) item [] d)
        where
          only : (layout_item l ≡ item) ⊎ Contains [] item → IsItem m item
          only (inl s) = subst (IsItem m) s e
          only (inr (k, l, s)) = absurd (omega (arith, l))

      fifth : Contains (function_items m.functions) item → IsItem m item
      fifth d =
          let r = flat_has {X = List ℕ × FunctionView} (λ f. function_item f.1 ∷ body_items f.1 f.1.body) m.functions item d in
          pick r.0 r.1 (split (function_item r.0.1) item (body_items r.0.1 r.0.1.body) r.2)
        where
          pick : (f : List ℕ × FunctionView) → Contains m.functions f → (function_item f.1 ≡ item) ⊎ Contains (body_items f.1 f.1.body) item → IsItem m item
          pick f there (inl e) = subst (IsItem m) e (f.0, there)
          pick f there (inr e) = body_from f.1 (f.0, there) f.1.body refl item e

      fourth : Contains (range_items m.ranges) item ⊎ Contains (function_items m.functions) item → IsItem m item
      fourth (inl d) = let r = map_has {X = List ℕ × RangeView} (λ r. range_item r.1) m.ranges item d in subst (IsItem m) r.2 (r.0.0, r.1)
      fourth (inr d) = fifth d

      third : Contains (global_items [] m.globals) item ⊎ Contains (range_items m.ranges ++ function_items m.functions) item → IsItem m item
      third (inl d) = global_from [] m.globals item refl d
      third (inr d) = fourth (Contains-append_cases (range_items m.ranges) (function_items m.functions) item d)

      second : Contains (type_items m.types) item ⊎ Contains (global_items [] m.globals ++ (range_items m.ranges ++ function_items m.functions)) item → IsItem m item
      second (inl d) = let r = map_has {X = List ℕ × TypeView} (λ e. type_item e.0 e.1) m.types item d in subst (IsItem m) r.2 r.1
      second (inr d) = third (Contains-append_cases (global_items [] m.globals) (range_items m.ranges ++ function_items m.functions) item d)

      first : Contains (text_items m.layout_text) item ⊎ Contains (type_items m.types ++ (global_items [] m.globals ++ (range_items m.ranges ++ function_items m.functions))) item → IsItem m item
      first (inl d) = text m.layout_text refl d
      first (inr d) = second (Contains-append_cases (type_items m.types) (global_items [] m.globals ++ (range_items m.ranges ++ function_items m.functions)) item d)
