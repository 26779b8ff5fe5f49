-- What is found at an item is what it falls under.
use Rattle.std.proofs.Common.{◌≡◌, ◌⊎◌, inl, inr, ℕ, ◌+◌, ◌<◌, ◌≤◌, ◌^◌, Bool, true, false, not, ◌&&◌, ◌||◌, Option, Some, None, List, [], ◌∷◌, map, refl, sym, ◌∙◌, ap, subst, arith, ◌/◌, lit≤}
use Rattle.std.specs.Prelude.{◌==◌, if◌then◌else◌, flat_map, nat_lt, sum}
use Rattle.std.specs.List.{Contains, list_any}
use Rattle.std.proofs.lemmas.Bool.{or_cases, or_left, or_right, false≢true, ltb-true, lt-ltb, le-ltb, eqb-true}
use Rattle.std.proofs.lemmas.List.Sums.{sum-map, sum_by-cons}
use Rattle.std.proofs.lemmas.List.Elements.{Contains-append_left, Contains-append_right, Contains-append_cases}
use Rattle.ir_ast.specs.declared.fault.KernelFault.{KernelFault}
use Rattle.ir_ast.specs.declared.fault.KernelReason.{KernelReason}
use Rattle.ir_ast.specs.declared.fault.KernelReason.TheVariants as code
use Rattle.ir_ast.specs.Plain.{Ty, integer}
use Rattle.ir_ast.specs.Program.{GlobalView, ModuleView}
use Rattle.ir_type.specs.Names.{names_in, parts_of, init_types_in}
use Rattle.ir_type.specs.Whole.{meant, is_memory_width}
use Rattle.ir_type.specs.Cycles.{IsBadName}
use Rattle.ir_type.specs.Items.{Item, layout_item, type_item, global_item, range_item, function_item, instr_item, line_of, act_types, Rule, K5, K6, K7, K8, K9, K10, K11, K12, K13, K14, K15, number_of, Fails}
use Rattle.ir_layout.specs.declared.fact.Fact.{Fact}
use Rattle.ir_layout.specs.declared.marks.Marks.{Marks}
use Rattle.ir_layout.specs.Sizes.{size_of}
use Rattle.ir_layout.specs.Facts.{cut, fact_by, size_or_none, FactFits}
use Rattle.ir_layout.specs.Noting.{clear, note, note_init}
use Rattle.ir_layout.specs.Texts.{has_bad_component}
use Rattle.ir_layout.specs.Least.{reason_of, number_of_reason, cut_total, counted, total_with, least_fault}
use Rattle.ir_layout.specs.Rules.{FallsK5, FallsK6, FallsByLayout, IsLaidOut, IsLayoutFault}
use Rattle.ir_layout.proofs.Anyhow.{any_flat, any_has, has_any}
use Rattle.ir_layout.proofs.Noted.{all_noted, init_noted, act_noted}
use Rattle.ir_layout.proofs.Components.{text_bad, bad_text}
use Rattle.ir_layout.proofs.FactLaws.{none_size}
use Rattle.ir_layout.proofs.Offers.{reason_by, total_from, marks_of, verdict, items_of, fault_offered, IsNoLater, Covers, Among, covered, listed, unlisted}

module _ (m : ModuleView) (look : List ℕ → Fact) (fit : (t : Ty) → FactFits m.types t (fact_by look t)) where
  abbrev bad : Ty → Bool
  bad t = (fact_by look t).bad

  abbrev large : Ty → Bool
  large t = (fact_by look t).large

  -- ---- the types that an item spells

  abbrev HasBad : List Ty → Type 0
  HasBad ts = (x : List ℕ) × Contains (flat_map names_in ts) x × IsBadName m.types x

  abbrev HasLarge : List Ty → Type 0
  HasLarge ts = (t : Ty) × Contains (flat_map parts_of ts) t × (2 ^ 32 < size_or_none m.types t)

  bad_has : (ts : List Ty) → list_any bad ts ≡ true → HasBad ts
  bad_has [] e = absurd (false≢true e)
  bad_has (t ∷ ts) e = pick (or_cases (bad t) (list_any bad ts) e) (λ h. bad_has ts h)
    where
      pick : (bad t ≡ true) ⊎ (list_any bad ts ≡ true) → (list_any bad ts ≡ true → HasBad ts) → HasBad (t ∷ ts)
      pick (inl h) rest = let n = (fit t).bad h in (n.0, Contains-append_left (names_in t) (flat_map names_in ts) n.0 n.1, n.2)
      pick (inr h) rest = let n = rest h in (n.0, Contains-append_right (names_in t) (flat_map names_in ts) n.0 n.1, n.2)

  has_bad : (ts : List Ty) → HasBad ts → list_any bad ts ≡ true
  has_bad [] (x, (k, l, e), b) = absurd (omega (arith, l))
  has_bad (t ∷ ts) (x, c, b) = pick (Contains-append_cases (names_in t) (flat_map names_in ts) x c) (λ h. has_bad ts h)
    where
      pick : Contains (names_in t) x ⊎ Contains (flat_map names_in ts) x → (HasBad ts → list_any bad ts ≡ true) → (bad t || list_any bad ts) ≡ true
      pick (inl d) rest = or_left (bad t) (list_any bad ts) ((fit t).good (x, d, b))
      pick (inr d) rest = or_right (bad t) (list_any bad ts) (rest (x, d, b))

  large_is : (ts : List Ty) → list_any large ts ≡ list_any (λ p. nat_lt 4294967296 (size_or_none m.types p)) (flat_map parts_of ts)
  large_is ts = all ts ∙ sym (any_flat (λ p. nat_lt 4294967296 (size_or_none m.types p)) parts_of ts)
    where
      all : (ts : List Ty) → list_any large ts ≡ list_any (λ t. list_any (λ p. nat_lt 4294967296 (size_or_none m.types p)) (parts_of t)) ts
      all [] = refl
      all (t ∷ ts) = ap (λ b. b || list_any large ts) (fit t).large ∙ ap (λ b. list_any (λ p. nat_lt 4294967296 (size_or_none m.types p)) (parts_of t) || b) (all ts)

  large_has : (ts : List Ty) → list_any large ts ≡ true → HasLarge ts
  large_has ts e =
      let r = any_has (λ p. nat_lt 4294967296 (size_or_none m.types p)) (flat_map parts_of ts) (sym (large_is ts) ∙ e) in
      (r.0, r.1, ltb-true 4294967296 (size_or_none m.types r.0) r.2)

  has_large : (ts : List Ty) → HasLarge ts → list_any large ts ≡ true
  has_large ts (t, c, l) = large_is ts ∙ has_any (λ p. nat_lt 4294967296 (size_or_none m.types p)) (flat_map parts_of ts) t c (lt-ltb 4294967296 (size_or_none m.types t) l)

  -- ---- integers and pointers

  even_size : (w : ℕ) → is_memory_width w ≡ true → w / 8 ≤ 8
  even_size w e = pick (or_cases (((w == 8) || (w == 16)) || (w == 32)) (w == 64) e)
    where
      small : (n : ℕ) → (w == n) ≡ true → n / 8 ≤ 8 → w / 8 ≤ 8
      small n x l = subst (λ v. v / 8 ≤ 8) (sym (eqb-true w n x)) l

      two : ((w == 8) ≡ true) ⊎ ((w == 16) ≡ true) → w / 8 ≤ 8
      two (inl x) = small 8 x (lit≤ tt)
      two (inr x) = small 16 x (lit≤ tt)

      three : (((w == 8) || (w == 16)) ≡ true) ⊎ ((w == 32) ≡ true) → w / 8 ≤ 8
      three (inl x) = two (or_cases (w == 8) (w == 16) x)
      three (inr x) = small 32 x (lit≤ tt)

      pick : ((((w == 8) || (w == 16)) || (w == 32)) ≡ true) ⊎ ((w == 64) ≡ true) → w / 8 ≤ 8
      pick (inl x) = three (or_cases ((w == 8) || (w == 16)) (w == 32) x)
      pick (inr x) = small 64 x (lit≤ tt)

  no_large : (w : ℕ) → large (integer w) ≡ false
  no_large w = pick (is_memory_width w) refl
    where
      pick : (b : Bool) → is_memory_width w ≡ b → (true && (not (not b) && nat_lt 4294967296 (cut (w / 8)))) ≡ false
      pick true e = let s = even_size w e in le-ltb 4294967296 (cut (w / 8)) (omega (arith, s))
      pick false e = refl

  -- ---- marks of items

  spelled_bad : (item : Item) → (marks_of look item).bad ≡ true → FallsK5 m item
  spelled_bad (layout_item l) e = absurd (false≢true e)
  spelled_bad (type_item x e) h = inl (bad_has (e.over ∷ []) (or_left (bad e.over) false h))
  spelled_bad (global_item before g) h = pick (or_cases (note_init look (note look clear g.over) g.init).bad (fact_by look g.over).odd h)
    where
      pick : ((note_init look (note look clear g.over) g.init).bad ≡ true) ⊎ ((fact_by look g.over).odd ≡ true) → FallsK5 m (global_item before g)
      pick (inl e) = inl (bad_has (g.over ∷ init_types_in g.init) (sym (init_noted look (λ k. k.bad) bad (λ k t. refl) (note look clear g.over) g.init) ∙ e))
      pick (inr e) = inr (sym (fit g.over).odd ∙ e)
  spelled_bad (range_item r) h = inl (bad_has (map (λ n. n.0) r.numbers) (sym (all_noted look (λ k. k.bad) bad (λ k t. refl) clear (map (λ n. n.0) r.numbers)) ∙ h))
  spelled_bad (function_item f) h =
      inl (bad_has (f.result ∷ map (λ p. p.0) f.parameters) (sym (all_noted look (λ k. k.bad) bad (λ k t. refl) (note look clear f.result) (map (λ p. p.0) f.parameters)) ∙ h))
  spelled_bad (instr_item f b before i) h =
      inl (bad_has (act_types i.act) (sym (act_noted look (λ k. k.bad) bad (λ k t. refl) (λ w. refl) refl clear i.act) ∙ h))

  bad_spelled : (item : Item) → FallsK5 m item → (marks_of look item).bad ≡ true
  bad_spelled (layout_item l) (inl (x, (k, n, e), b)) = absurd (omega (arith, n))
  bad_spelled (layout_item l) (inr e) = absurd e
  bad_spelled (type_item x e) (inl h) = all_noted look (λ k. k.bad) bad (λ k t. refl) clear (e.over ∷ []) ∙ has_bad (e.over ∷ []) h
  bad_spelled (type_item x e) (inr h) = absurd h
  bad_spelled (global_item before g) (inl h) =
      or_left (note_init look (note look clear g.over) g.init).bad (fact_by look g.over).odd
      (init_noted look (λ k. k.bad) bad (λ k t. refl) (note look clear g.over) g.init ∙ has_bad (g.over ∷ init_types_in g.init) h)
  bad_spelled (global_item before g) (inr h) = or_right (note_init look (note look clear g.over) g.init).bad (fact_by look g.over).odd ((fit g.over).odd ∙ h)
  bad_spelled (range_item r) (inl h) = all_noted look (λ k. k.bad) bad (λ k t. refl) clear (map (λ n. n.0) r.numbers) ∙ has_bad (map (λ n. n.0) r.numbers) h
  bad_spelled (range_item r) (inr h) = absurd h
  bad_spelled (function_item f) (inl h) =
      all_noted look (λ k. k.bad) bad (λ k t. refl) (note look clear f.result) (map (λ p. p.0) f.parameters) ∙ has_bad (f.result ∷ map (λ p. p.0) f.parameters) h
  bad_spelled (function_item f) (inr h) = absurd h
  bad_spelled (instr_item f b before i) (inl h) = act_noted look (λ k. k.bad) bad (λ k t. refl) (λ w. refl) refl clear i.act ∙ has_bad (act_types i.act) h
  bad_spelled (instr_item f b before i) (inr h) = absurd h

  -- ---- the sizes of the globals so far

  sum_cons : (f : List ℕ × GlobalView → ℕ) (x : List ℕ × GlobalView) (xs : List (List ℕ × GlobalView)) → sum (map f (x ∷ xs)) ≡ f x + sum (map f xs)
  sum_cons f x xs = sum-map f (x ∷ xs) ∙ sum_by-cons f x xs ∙ ap (λ n. f x + n) (sym (sum-map f xs))

  counted_is : (t : Ty) → counted (fact_by look t) ≡ cut (size_or_none m.types t)
  counted_is t = pick (fact_by look t).known (fact_by look t).odd refl refl
    where
      pick : (k o : Bool) → (fact_by look t).known ≡ k → (fact_by look t).odd ≡ o → (if k && not o then (fact_by look t).size else 0) ≡ cut (size_or_none m.types t)
      pick false o e f = sym (ap cut (none_size m.types look t (sym (fit t).known ∙ e)))
      pick true true e f = sym (ap (λ b. cut (if b then 0 else size_of (meant m.types t))) (sym ((fit t).seen e) ∙ f))
      pick true false e f = (fit t).size e ∙ sym (ap (λ b. cut (if b then 0 else size_of (meant m.types t))) (sym ((fit t).seen e) ∙ f))

  total_is : (a : ℕ) (gs : List (List ℕ × GlobalView)) → total_from look (cut_total a) gs ≡ cut_total (a + sum (map (λ e. size_or_none m.types e.1.over) gs))
  total_is a [] = omega arith
  total_is a (g ∷ gs) =
      ap (λ n. total_from look n gs) (step g.1)
      ∙ total_is (a + size_or_none m.types g.1.over) gs
      ∙ ap cut_total (grouped a (size_or_none m.types g.1.over) (sum (map (λ e. size_or_none m.types e.1.over) gs)) ∙ ap (λ n. a + n) (sym one_more))
    where
      one_more : sum (map (λ e. size_or_none m.types e.1.over) (g ∷ gs)) ≡ size_or_none m.types g.1.over + sum (map (λ e. size_or_none m.types e.1.over) gs)
      one_more = sum_cons (λ e. size_or_none m.types e.1.over) g gs

      cuts : (a s : ℕ) → cut_total (cut_total a + cut s) ≡ cut_total (a + s)
      cuts a s = omega arith

      step : (g : GlobalView) → total_with look (cut_total a) g ≡ cut_total (a + size_or_none m.types g.over)
      step g = ap (λ n. cut_total (cut_total a + n)) (counted_is g.over) ∙ cuts a (size_or_none m.types g.over)

      grouped : (a s r : ℕ) → a + s + r ≡ a + (s + r)
      grouped a s r = omega arith

  over_is : (before : List (List ℕ × GlobalView)) (g : GlobalView)
      → total_with look (total_from look 0 before) g ≡ cut_total (sum (map (λ e. size_or_none m.types e.1.over) before) + size_or_none m.types g.over)
  over_is before g =
      ap (λ n. total_with look n g) (total_is 0 before) ∙ ap (λ n. cut_total (cut_total (0 + sum (map (λ e. size_or_none m.types e.1.over) before)) + n)) (counted_is g.over)
      ∙ cuts (sum (map (λ e. size_or_none m.types e.1.over) before)) (size_or_none m.types g.over)
    where
      cuts : (a s : ℕ) → cut_total (cut_total (0 + a) + cut s) ≡ cut_total (a + s)
      cuts a s = omega arith

  spelled_large : (item : Item) → (marks_of look item).large ≡ true → FallsK6 m item
  spelled_large (layout_item l) e = absurd (false≢true e)
  spelled_large (type_item x e) h = inr (large_has (e.over ∷ []) (or_left (large e.over) false h))
  spelled_large (global_item before g) h =
      pick (or_cases (note_init look (note look clear g.over) g.init).large (nat_lt 4194304 (total_with look (total_from look 0 before) g)) h)
    where
      pick : ((note_init look (note look clear g.over) g.init).large ≡ true) ⊎ (nat_lt 4194304 (total_with look (total_from look 0 before) g) ≡ true) → FallsK6 m (global_item before g)
      pick (inl e) = inr (large_has (g.over ∷ init_types_in g.init) (sym (init_noted look (λ k. k.large) large (λ k t. refl) (note look clear g.over) g.init) ∙ e))
      pick (inr e) =
          let l = ltb-true 4194304 (total_with look (total_from look 0 before) g) e in
          let s = over_is before g in
          inl (omega (arith, l, s))
  spelled_large (range_item r) h = inr (large_has (map (λ n. n.0) r.numbers) (sym (all_noted look (λ k. k.large) large (λ k t. refl) clear (map (λ n. n.0) r.numbers)) ∙ h))
  spelled_large (function_item f) h =
      inr (large_has (f.result ∷ map (λ p. p.0) f.parameters) (sym (all_noted look (λ k. k.large) large (λ k t. refl) (note look clear f.result) (map (λ p. p.0) f.parameters)) ∙ h))
  spelled_large (instr_item f b before i) h =
      inr (large_has (act_types i.act) (sym (act_noted look (λ k. k.large) large (λ k t. refl) no_large refl clear i.act) ∙ h))

  large_spelled : (item : Item) → FallsK6 m item → (marks_of look item).large ≡ true
  large_spelled (layout_item l) (inl e) = absurd e
  large_spelled (layout_item l) (inr (x, (k, n, e), b)) = absurd (omega (arith, n))
  large_spelled (type_item x e) (inl h) = absurd h
  large_spelled (type_item x e) (inr h) = all_noted look (λ k. k.large) large (λ k t. refl) clear (e.over ∷ []) ∙ has_large (e.over ∷ []) h
  large_spelled (global_item before g) (inl h) =
      let s = over_is before g in
      or_right (note_init look (note look clear g.over) g.init).large (nat_lt 4194304 (total_with look (total_from look 0 before) g))
      (lt-ltb 4194304 (total_with look (total_from look 0 before) g) (omega (arith, h, s)))
  large_spelled (global_item before g) (inr h) =
      or_left (note_init look (note look clear g.over) g.init).large (nat_lt 4194304 (total_with look (total_from look 0 before) g))
      (init_noted look (λ k. k.large) large (λ k t. refl) (note look clear g.over) g.init ∙ has_large (g.over ∷ init_types_in g.init) h)
  large_spelled (range_item r) (inl h) = absurd h
  large_spelled (range_item r) (inr h) = all_noted look (λ k. k.large) large (λ k t. refl) clear (map (λ n. n.0) r.numbers) ∙ has_large (map (λ n. n.0) r.numbers) h
  large_spelled (function_item f) (inl h) = absurd h
  large_spelled (function_item f) (inr h) =
      all_noted look (λ k. k.large) large (λ k t. refl) (note look clear f.result) (map (λ p. p.0) f.parameters) ∙ has_large (f.result ∷ map (λ p. p.0) f.parameters) h
  large_spelled (instr_item f b before i) (inl h) = absurd h
  large_spelled (instr_item f b before i) (inr h) = act_noted look (λ k. k.large) large (λ k t. refl) no_large refl clear i.act ∙ has_large (act_types i.act) h

  -- ---- verdicts

  abbrev Found : Item → KernelReason → Type 0
  Found item reason = (rule : Rule) × (reason ≡ reason_of rule) × FallsByLayout m item rule

  by_marks : (item : Item) (reason : KernelReason) → reason_by (marks_of look item) ≡ Some reason → Found item reason
  by_marks item reason e = pick (marks_of look item).bad (marks_of look item).large refl refl e
    where
      same : (a : KernelReason) → Some a ≡ Some reason → reason ≡ a
      same a e = cc

      gone : None ≡ Some reason → ⊥
      gone e = cc

      pick : (b l : Bool) → (marks_of look item).bad ≡ b → (marks_of look item).large ≡ l → (if b then Some code.K5 else (if l then Some code.K6 else None)) ≡ Some reason → Found item reason
      pick true l f g e = (K5, same code.K5 e, spelled_bad item f)
      pick false true f g e = (K6, same code.K6 e, spelled_large item g)
      pick false false f g e = absurd (gone e)

  found : (item : Item) (reason : KernelReason) → verdict look item ≡ Some reason → Found item reason
  found (layout_item l) reason e = pick (has_bad_component l.bytes) refl e
    where
      same : Some code.K7 ≡ Some reason → reason ≡ code.K7
      same e = cc

      gone : None ≡ Some reason → ⊥
      gone e = cc

      pick : (b : Bool) → has_bad_component l.bytes ≡ b → (if b then Some code.K7 else None) ≡ Some reason → Found (layout_item l) reason
      pick true f e = (K7, same e, text_bad l.bytes f)
      pick false f e = absurd (gone e)
  found (type_item x e) reason h = by_marks (type_item x e) reason h
  found (global_item before g) reason h = by_marks (global_item before g) reason h
  found (range_item r) reason h = by_marks (range_item r) reason h
  found (function_item f) reason h = by_marks (function_item f) reason h
  found (instr_item f b before i) reason h = by_marks (instr_item f b before i) reason h

  abbrev Told : Option KernelReason → Rule → Type 0
  Told verdict rule = (reason : KernelReason) × (verdict ≡ Some reason) × (number_of_reason reason ≤ number_of rule)

  told_bad : (marks : Marks) → marks.bad ≡ true → Told (reason_by marks) K5
  told_bad marks e = (code.K5, ap (λ b. if b then Some code.K5 else (if marks.large then Some code.K6 else None)) e, omega arith)

  told_large : (marks : Marks) → marks.large ≡ true → Told (reason_by marks) K6
  told_large marks e = pick marks.bad refl
    where
      pick : (b : Bool) → marks.bad ≡ b → Told (if b then Some code.K5 else (if marks.large then Some code.K6 else None)) K6
      pick true f = (code.K5, refl, omega arith)
      pick false f = (code.K6, ap (λ l. if l then Some code.K6 else None) e, omega arith)

  told : (item : Item) (rule : Rule) → FallsByLayout m item rule → Told (verdict look item) rule
  told (layout_item l) K5 h = absurd (false≢true (bad_spelled (layout_item l) h))
  told (type_item x e) K5 h = told_bad (marks_of look (type_item x e)) (bad_spelled (type_item x e) h)
  told (global_item before g) K5 h = told_bad (marks_of look (global_item before g)) (bad_spelled (global_item before g) h)
  told (range_item r) K5 h = told_bad (marks_of look (range_item r)) (bad_spelled (range_item r) h)
  told (function_item f) K5 h = told_bad (marks_of look (function_item f)) (bad_spelled (function_item f) h)
  told (instr_item f b before i) K5 h = told_bad (marks_of look (instr_item f b before i)) (bad_spelled (instr_item f b before i) h)
  told (layout_item l) K6 h = absurd (false≢true (large_spelled (layout_item l) h))
  told (type_item x e) K6 h = told_large (marks_of look (type_item x e)) (large_spelled (type_item x e) h)
  told (global_item before g) K6 h = told_large (marks_of look (global_item before g)) (large_spelled (global_item before g) h)
  told (range_item r) K6 h = told_large (marks_of look (range_item r)) (large_spelled (range_item r) h)
  told (function_item f) K6 h = told_large (marks_of look (function_item f)) (large_spelled (function_item f) h)
  told (instr_item f b before i) K6 h = told_large (marks_of look (instr_item f b before i)) (large_spelled (instr_item f b before i) h)
  told (layout_item l) K7 (c, d, h) = (code.K7, ap (λ b. if b then Some code.K7 else None) (bad_text l.bytes c d h), omega arith)
  told (type_item x e) K7 h = absurd h
  told (global_item before g) K7 h = absurd h
  told (range_item r) K7 h = absurd h
  told (function_item f) K7 h = absurd h
  told (instr_item f b before i) K7 h = absurd h
  told item K8 h = absurd h
  told item K9 h = absurd h
  told item K10 h = absurd h
  told item K11 h = absurd h
  told item K12 h = absurd h
  told item K13 h = absurd h
  told item K14 h = absurd h
  told item K15 h = absurd h

  -- ---- the whole module

  covers : Covers look (Among look (items_of m)) (least_fault look m)
  covers = subst (Covers look (Among look (items_of m))) (sym (fault_offered look m)) (covered look (items_of m))

  fails_at : (line : ℕ) (rule : Rule) → Fails (FallsByLayout m) m line rule → (reason : KernelReason) × Among look (items_of m) line reason × (number_of_reason reason ≤ number_of rule)
  fails_at line rule (item, there, at, falls) =
      let t = told item rule falls in
      (t.0, (item, listed m item there, at, t.1), t.2)

  pub laid_out : least_fault look m ≡ None → IsLaidOut m
  laid_out e item there rule falls =
      let f = fails_at (line_of item) rule (item, there, refl, falls) in
      let g = covers.below (line_of item) f.0 f.1 in
      gone g.0 (sym e ∙ g.1)
    where
      gone : (f : KernelFault) → None ≡ Some f → ⊥
      gone f e = cc

  number_same : (rule : Rule) → number_of_reason (reason_of rule) ≡ number_of rule
  number_same K5 = refl
  number_same K6 = refl
  number_same K7 = refl
  number_same K8 = refl
  number_same K9 = refl
  number_same K10 = refl
  number_same K11 = refl
  number_same K12 = refl
  number_same K13 = refl
  number_same K14 = refl
  number_same K15 = refl

  pub refused : (f : KernelFault) → least_fault look m ≡ Some f → (rule : Rule) × (f.reason ≡ reason_of rule) × IsLayoutFault m f.line rule
  refused f e =
      let o = covers.from f e in
      let d = found o.0 f.reason o.3 in (
        d.0,
        d.1,
        record {
          fails = (o.0, unlisted m o.0 o.1, o.2, d.2);
          least = λ l r h. least d.0 d.1 l r h;
        },
      )
    where
      same : (g : KernelFault) → Some f ≡ Some g → f ≡ g
      same g e = cc

      least : (rule : Rule) → f.reason ≡ reason_of rule → (l : ℕ) (r : Rule) → Fails (FallsByLayout m) m l r → (f.line < l) ⊎ ((f.line ≡ l) × (number_of rule ≤ number_of r))
      least rule is l r h =
          let a = fails_at l r h in
          let b = covers.below l a.0 a.1 in
          pick a.0 a.2 (subst (λ g. IsNoLater look g l a.0) (sym (same b.0 (sym e ∙ b.1))) b.2)
        where
          pick : (reason : KernelReason) → number_of_reason reason ≤ number_of r → IsNoLater look f l reason → (f.line < l) ⊎ ((f.line ≡ l) × (number_of rule ≤ number_of r))
          pick reason n (inl k) = inl k
          pick reason n (inr (k, j)) = inr (k, let s : number_of_reason f.reason ≡ number_of rule = ap number_of_reason is ∙ number_same rule in omega (arith, n, j, s))
