-- The least rule of an item, by the answers to the tests of its rules.
use Rattle.std.proofs.Common.{◌≡◌, ◌⊎◌, inl, inr, ℕ, ◌<◌, ◌≤◌, Bool, true, false, Option, Some, None, List, [], ◌∷◌, length, refl, sym, ◌∙◌, ap, subst, arith}
use Rattle.std.specs.Prelude.{MatchBool, nat_lt, not, slice_get, is_some, ◌&&◌}
use Rattle.std.specs.List.{list_all}
use Rattle.std.proofs.lemmas.Bool.{ltb-true, ltb-false, cases_Bool}
use Rattle.ir_ast.specs.Plain.{Ty}
use Rattle.ir_ast.specs.Program.{Act, binary, compare, select, convert, freeze, phi, slot, load, store, offset, call, extract, goto, branch, switch, give, unreachable, GlobalView, InstrView, BlockView, FunctionView, ModuleView}
use Rattle.ir_ast.specs.declared.fault.KernelFault.{KernelFault}
use Rattle.ir_ast.specs.declared.fault.KernelReason.{KernelReason}
use Rattle.ir_type.specs.Items.{Rule, K5, K6, K7, K8, K9, K10, K11, K12, K13, K14, K15, number_of}
use Rattle.ir_type.specs.Whole.{Types, meant, is_pointer, has_pointer}
use Rattle.ir_type.proofs.Places.{get_below}
use Rattle.ir_typing.specs.Fits.{Scope, scope_by, scope_of, slot_at, is_phi, instr_fits, instr_fits_by, head_fits, global_fits}
use Rattle.ir_typing.specs.Known.{is_known}
use Rattle.ir_typing.specs.Access as access
use Rattle.hk_graph.specs.Sorted.{flag_of}
use Rattle.hk_graph.specs.Walks.{Leads, IsOnCycle}
use Rattle.hk_flow.specs.Sums.{told}
use Rattle.ir_check.specs.Graphs.{SaysCalls, SaysLength, name_of_entry}
use Rattle.ir_check.specs.Paths.{HasCall, IsLength, FallsK10, FallsK12}
use Rattle.ir_check.specs.Rules.{IsPointerAccess, GlobalFalls, FunctionFalls, InstrFalls}
use Rattle.ir_check.specs.Least.{reason_of, number, IsUpTo, IsLeast}
use Rattle.ir_check.specs.ItemFaults.{IsLeastReason, IsLeastPlain, ItemFaults, IsAsked, on_line, AreCalls, is_long, head_reason, global_reason, known_reason}
use Rattle.ir_check.proofs.FirstFault.{numbered}
use Rattle.ir_check.proofs.Lengths.{one_length, reaches_no_cycle}
use Rattle.ir_check.proofs.NamedGraph.{mapped_at}

-- the least rule of an item is its least fault
pub item_least : (Falls : Rule → Type 0) (line : ℕ) (found : Option KernelReason) → IsLeastReason Falls found → IsLeast (ItemFaults Falls line) (on_line line found)
item_least Falls line None none = λ l r f. none f.0 f.3
item_least Falls line (Some s) least = ((least.0, least.1, refl, least.2), behind)
  where
    behind : (l : ℕ) (r : KernelReason) → ItemFaults Falls line l r → IsUpTo line (number s) l (number r)
    behind l r f =
        inr (f.2, subst (λ n. n ≤ number r) (sym (ap number least.1 ∙ numbered least.0)) (subst (λ n. number_of least.0 ≤ n) (sym (ap number f.1 ∙ numbered f.0)) (least.3 f.0 f.3)))

-- ---- rules in a list

abbrev pub Among : Rule → List Rule → Type 0
Among q [] = ⊥
Among q (r ∷ rs) = (q ≡ r) ⊎ Among q rs

-- each of them is not less than the rule, or the item does not fall under it
abbrev Passes : (Rule → Type 0) → Rule → List Rule → Type 0
Passes Falls r [] = Unit {0}
Passes Falls r (p ∷ ps) = ((Falls p → ⊥) ⊎ (number_of r ≤ number_of p)) × Passes Falls r ps

abbrev None_falls : (Rule → Type 0) → List Rule → Type 0
None_falls Falls [] = Unit {0}
None_falls Falls (p ∷ ps) = (Falls p → ⊥) × None_falls Falls ps

at_least : (Falls : Rule → Type 0) (r q : Rule) (rules : List Rule) → Among q rules → Passes Falls r rules → Falls q → number_of r ≤ number_of q
at_least Falls r q [] a pass falls = absurd a
at_least Falls r q (p ∷ ps) (inl e) (inl none, rest) falls = absurd (none (subst Falls e falls))
at_least Falls r q (p ∷ ps) (inl e) (inr l, rest) falls = subst (λ s. number_of r ≤ number_of s) (sym e) l
at_least Falls r q (p ∷ ps) (inr a) (first, rest) falls = at_least Falls r q ps a rest falls

falls_none : (Falls : Rule → Type 0) (q : Rule) (rules : List Rule) → Among q rules → None_falls Falls rules → Falls q → ⊥
falls_none Falls q [] a pass falls = absurd a
falls_none Falls q (p ∷ ps) (inl e) (none, rest) falls = none (subst Falls e falls)
falls_none Falls q (p ∷ ps) (inr a) (first, rest) falls = falls_none Falls q ps a rest falls

abbrev Says : Bool → Type 0 → Type 0
Says b A = MatchBool b A (A → ⊥)

-- ---- heads of functions

abbrev head_rules : List Rule
head_rules = K9 ∷ K10 ∷ K11 ∷ K14 ∷ []

head_only : (m : ModuleView) (f : FunctionView) (q : Rule) → FunctionFalls m f q → Among q head_rules
head_only m f K5 p = absurd p
head_only m f K6 p = absurd p
head_only m f K7 p = absurd p
head_only m f K8 p = absurd p
head_only m f K9 p = inl refl
head_only m f K10 p = inr (inl refl)
head_only m f K11 p = inr (inr (inl refl))
head_only m f K12 p = absurd p
head_only m f K13 p = absurd p
head_only m f K14 p = inr (inr (inr (inl refl)))
head_only m f K15 p = absurd p

head_says : (m : ModuleView) (f : FunctionView) (a b c d : Bool) → Says a (FunctionFalls m f K9) → Says b (FunctionFalls m f K10) → Says c (FunctionFalls m f K11) → Says d (FunctionFalls m f K14)
    → IsLeastReason (FunctionFalls m f) (head_reason a b c d)
head_says m f true b c d h i j k =
    (K9, refl, h, λ q p. at_least (FunctionFalls m f) K9 q head_rules (head_only m f q p) (inr (omega arith), (inr (omega arith), (inr (omega arith), (inr (omega arith), tt)))) p)
head_says m f false true c d h i j k =
    (K10, refl, i, λ q p. at_least (FunctionFalls m f) K10 q head_rules (head_only m f q p) (inl h, (inr (omega arith), (inr (omega arith), (inr (omega arith), tt)))) p)
head_says m f false false true d h i j k =
    (K11, refl, j, λ q p. at_least (FunctionFalls m f) K11 q head_rules (head_only m f q p) (inl h, (inl i, (inr (omega arith), (inr (omega arith), tt)))) p)
head_says m f false false false true h i j k =
    (K14, refl, k, λ q p. at_least (FunctionFalls m f) K14 q head_rules (head_only m f q p) (inl h, (inl i, (inl j, (inr (omega arith), tt)))) p)
head_says m f false false false false h i j k = λ q p. falls_none (FunctionFalls m f) q head_rules (head_only m f q p) (h, (i, (j, (k, tt)))) p

misfit_says : (fits test : Bool) → fits ≡ test → Says (not fits) (test ≡ false)
misfit_says true test e = λ f. clash (e ∙ f)
  where
    clash : true ≡ false → ⊥
    clash e = cc
misfit_says false test e = sym e

long_says : (m : ModuleView) (name : List ℕ) (o : Option ℕ) (p : ℕ) → name_of_entry m.functions p ≡ name → SaysLength m o p → Says (is_long o) ((n : ℕ) × IsLength m name n × (100000 < n))
long_says m name None p is (g, leads, cycle) = λ f. reaches_no_cycle m name f.0 f.1 g (subst (λ x. Leads (HasCall m) x g) is leads) cycle
long_says m name (Some n) p is (t, total, cut) = by (cases_Bool (nat_lt 100000 n))
  where
    mine : IsLength m name t
    mine = subst (λ x. IsLength m x t) is total

    by : (nat_lt 100000 n ≡ true) ⊎ (nat_lt 100000 n ≡ false) → Says (nat_lt 100000 n) ((n : ℕ) × IsLength m name n × (100000 < n))
    by (inl e) =
        let l = ltb-true 100000 n e in
        subst (λ b. Says b ((n : ℕ) × IsLength m name n × (100000 < n))) (sym e) (t, mine, omega (arith, l, cut))
    by (inr e) =
        let l = ltb-false 100000 n e in
        subst (λ b. Says b ((n : ℕ) × IsLength m name n × (100000 < n))) (sym e)
        (λ f. let same = one_length m name t f.0 mine f.1 in let g = f.2 in absurd (omega (arith, l, cut, same, g)))

cycle_says : (m : ModuleView) (name : List ℕ) (b : Bool) (p : ℕ) → name_of_entry m.functions p ≡ name → SaysCalls m b p → Says b (IsOnCycle (HasCall m) name)
cycle_says m name true p is says = subst (IsOnCycle (HasCall m)) is says
cycle_says m name false p is says = λ c. says (subst (IsOnCycle (HasCall m)) (sym is) c)

pub head_least : (m : ModuleView) (f : FunctionView) (place : ℕ) (fits looping cyclic : Bool) (total : Option ℕ) (cycles : List Bool) (lengths : List (Option ℕ))
    → AreCalls m cycles lengths → slice_get m.functions place ≡ Some (f.name, f) → fits ≡ head_fits m.types f → MatchBool looping (FallsK10 f) (FallsK10 f → ⊥)
    → cyclic ≡ flag_of cycles place → total ≡ told lengths place
    → IsLeast (ItemFaults (FunctionFalls m f) f.line) (on_line f.line (head_reason (not fits) looping cyclic (is_long total)))
head_least m f place fits looping cyclic total cycles lengths calls stands fit loops cycle told_is =
    item_least (FunctionFalls m f) f.line (head_reason (not fits) looping cyclic (is_long total))
    (head_says m f (not fits) looping cyclic (is_long total) (misfit_says fits (head_fits m.types f) fit) loops
    (cycle_says m f.name cyclic place named (subst (λ b. SaysCalls m b place) (sym cycle) (calls.cycles place below)))
    (long_says m f.name total place named (subst (λ o. SaysLength m o place) (sym told_is) (calls.totals place below))))
  where
    below : place < length m.functions
    below = get_below m.functions place (f.name, f) stands

    first : List ℕ × FunctionView → List ℕ
    first e = e.0

    named : name_of_entry m.functions place ≡ f.name
    named = mapped_at first m.functions place [] (f.name, f) stands

-- ---- globals

abbrev global_rules : List Rule
global_rules = K9 ∷ K13 ∷ []

global_only : (m : ModuleView) (g : GlobalView) (q : Rule) → GlobalFalls m g q → Among q global_rules
global_only m g K5 p = absurd p
global_only m g K6 p = absurd p
global_only m g K7 p = absurd p
global_only m g K8 p = absurd p
global_only m g K9 p = inl refl
global_only m g K10 p = absurd p
global_only m g K11 p = absurd p
global_only m g K12 p = absurd p
global_only m g K13 p = inr (inl refl)
global_only m g K14 p = absurd p
global_only m g K15 p = absurd p

global_says : (m : ModuleView) (g : GlobalView) (a b : Bool) → Says a (GlobalFalls m g K9) → Says b (GlobalFalls m g K13) → IsLeastReason (GlobalFalls m g) (global_reason a b)
global_says m g true b h i = (K9, refl, h, λ q p. at_least (GlobalFalls m g) K9 q global_rules (global_only m g q p) (inr (omega arith), (inr (omega arith), tt)) p)
global_says m g false true h i = (K13, refl, i, λ q p. at_least (GlobalFalls m g) K13 q global_rules (global_only m g q p) (inl h, (inr (omega arith), tt)) p)
global_says m g false false h i = λ q p. falls_none (GlobalFalls m g) q global_rules (global_only m g q p) (h, (i, tt)) p

pub test_says : (b : Bool) → Says b (b ≡ true)
test_says true = refl
test_says false = λ e. clash e
  where
    clash : false ≡ true → ⊥
    clash e = cc

pub global_least : (m : ModuleView) (g : GlobalView) (fits pointers : Bool) → fits ≡ global_fits m.types g → pointers ≡ has_pointer (meant m.types g.over)
    → IsLeast (ItemFaults (GlobalFalls m g) g.line) (on_line g.line (global_reason (not fits) pointers))
global_least m g fits pointers fit is =
    item_least (GlobalFalls m g) g.line (global_reason (not fits) pointers)
    (global_says m g (not fits) pointers (misfit_says fits (global_fits m.types g) fit) (subst (λ b. Says pointers (b ≡ true)) is (test_says pointers)))

-- ---- instructions

abbrev instr_rules : List Rule
instr_rules = K8 ∷ K9 ∷ K12 ∷ K13 ∷ K15 ∷ []

instr_only : (m : ModuleView) (f : FunctionView) (b : BlockView) (before : List InstrView) (i : InstrView) (q : Rule) → InstrFalls m f b before i q → Among q instr_rules
instr_only m f b before i K5 p = absurd p
instr_only m f b before i K6 p = absurd p
instr_only m f b before i K7 p = absurd p
instr_only m f b before i K8 p = inl refl
instr_only m f b before i K9 p = inr (inl refl)
instr_only m f b before i K10 p = absurd p
instr_only m f b before i K11 p = absurd p
instr_only m f b before i K12 p = inr (inr (inl refl))
instr_only m f b before i K13 p = inr (inr (inr (inl refl)))
instr_only m f b before i K14 p = absurd p
instr_only m f b before i K15 p = inr (inr (inr (inr (inl refl))))

module _ (P : Rule → Type 0) (only : (q : Rule) → P q → Among q instr_rules) where
  plain_says : (a b c : Bool) → (P K8 → ⊥) → Says a (P K9) → Says b (P K12) → Says c (P K13) → IsLeastPlain P (known_reason a b c)
  plain_says true b c g h i j = (K9, refl, h, λ q p. at_least P K9 q instr_rules (only q p) (inl g, (inr (omega arith), (inr (omega arith), (inr (omega arith), (inr (omega arith), tt))))) p)
  plain_says false true c g h i j = (K12, refl, i, λ q p. at_least P K12 q instr_rules (only q p) (inl g, (inl h, (inr (omega arith), (inr (omega arith), (inr (omega arith), tt))))) p)
  plain_says false false true g h i j = (K13, refl, j, λ q p. at_least P K13 q instr_rules (only q p) (inl g, (inl h, (inl i, (inr (omega arith), (inr (omega arith), tt))))) p)
  plain_says false false false g h i j = λ q p. last q (only q p) p
    where
      last : (q : Rule) → Among q instr_rules → P q → q ≡ K15
      last q (inl e) p = absurd (g (subst P e p))
      last q (inr (inl e)) p = absurd (h (subst P e p))
      last q (inr (inr (inl e))) p = absurd (i (subst P e p))
      last q (inr (inr (inr (inl e)))) p = absurd (j (subst P e p))
      last q (inr (inr (inr (inr (inl e))))) p = e
      last q (inr (inr (inr (inr (inr none))))) p = absurd none

  unknown_says : P K8 → IsLeastPlain P (Some (reason_of K8))
  unknown_says g = (K8, refl, g, λ q p. at_least P K8 q instr_rules (only q p) (inr (omega arith), (inr (omega arith), (inr (omega arith), (inr (omega arith), (inr (omega arith), tt))))) p)

access_by : (a : Bool) (o : Option Ty) → Says (a && not (is_some o)) ((a ≡ true) × (o ≡ None))
access_by true None = (refl, refl)
access_by true (Some t) = λ e. clash e.1
  where
    clash : {t : Ty} → Some t ≡ None → ⊥
    clash e = cc
access_by false o = λ e. clash e.0
  where
    clash : false ≡ true → ⊥
    clash e = cc

access_says : (s : Scope) (act : Act) → Says (access.is_pointer_access s act) (IsPointerAccess s act)
access_says s (binary kind flags w a b) = λ p. p
access_says s (compare samesign predicate over a b) = λ p. p
access_says s (select condition over a b) = λ p. p
access_says s (convert kind flags from to a) = λ p. p
access_says s (freeze over a) = λ p. p
access_says s (phi over arms) = λ p. p
access_says s (slot over align) = λ p. p
access_says s (load over target align range) = access_by (is_pointer (meant s.types over)) (slot_at s target)
access_says s (store over value target align) = access_by (is_pointer (meant s.types over)) (slot_at s target)
access_says s (offset f) = λ p. p
access_says s (call result callee arguments) = λ p. p
access_says s (extract w from part) = λ p. p
access_says s (goto target) = λ p. p
access_says s (branch condition taken other) = λ p. p
access_says s (switch w on default cases) = λ p. p
access_says s (give over value) = λ p. p
access_says s unreachable = λ p. p

true_not_false : (b : Bool) → b ≡ true → b ≡ false → ⊥
true_not_false b t f = clash (sym t ∙ f)
  where
    clash : true ≡ false → ⊥
    clash e = cc

pub known_least : (m : ModuleView) (f : FunctionView) (types : Types) (g : FunctionView) (b : BlockView) (before : List InstrView) (i : InstrView) (phis fits undefined outside : Bool) → IsAsked m f types g
    → is_known m f i.act ≡ true → phis ≡ list_all (λ i. is_phi i.act) before → fits ≡ instr_fits_by types m g phis i → Says undefined (FallsK12 f b before i)
    → outside ≡ access.is_pointer_access (scope_by types g) i.act → IsLeastPlain (InstrFalls m f b before i) (known_reason (not fits) undefined outside)
known_least m f types g b before i phis fits undefined outside asked known are fit uses access_is =
    plain_says (InstrFalls m f b before i) (instr_only m f b before i) (not fits) undefined outside (true_not_false (is_known m f i.act) known)
    (misfit_says fits (instr_fits m f before i)
    (fit ∙ ap (λ ts. instr_fits_by ts m g phis i) asked.types_are ∙ ap (λ h. instr_fits_by m.types m h phis i) asked.scoped_is ∙ ap (λ p. instr_fits_by m.types m f p i) are))
    uses
    (subst (λ o. Says o (IsPointerAccess (scope_of m f) i.act))
    (sym (access_is ∙ ap (λ ts. access.is_pointer_access (scope_by ts g) i.act) asked.types_are ∙ ap (λ h. access.is_pointer_access (scope_by m.types h) i.act) asked.scoped_is))
    (access_says (scope_of m f) i.act))

pub unknown_least : (m : ModuleView) (f g : FunctionView) (b : BlockView) (before : List InstrView) (i : InstrView) (known : Bool) → known ≡ is_known m g i.act → g ≡ f → known ≡ false
    → IsLeastPlain (InstrFalls m f b before i) (Some (reason_of K8))
unknown_least m f g b before i known is same none =
    unknown_says (InstrFalls m f b before i) (instr_only m f b before i) (subst (λ h. is_known m h i.act ≡ false) same (sym is ∙ none))

pub known_told : (m : ModuleView) (f : FunctionView) (types : Types) (g : FunctionView) (b : BlockView) (before : List InstrView) (i : InstrView) (phis fits undefined outside : Bool) (found : Option KernelReason)
    → IsAsked m f types g → is_known m f i.act ≡ true → phis ≡ list_all (λ i. is_phi i.act) before → fits ≡ instr_fits_by types m g phis i → Says undefined (FallsK12 f b before i)
    → outside ≡ access.is_pointer_access (scope_by types g) i.act → found ≡ known_reason (not fits) undefined outside → IsLeastPlain (InstrFalls m f b before i) found
known_told m f types g b before i phis fits undefined outside found asked known are fit uses access_is is =
    subst (IsLeastPlain (InstrFalls m f b before i)) (sym is) (known_least m f types g b before i phis fits undefined outside asked known are fit uses access_is)

pub head_told : (m : ModuleView) (f : FunctionView) (place : ℕ) (fits looping cyclic long : Bool) (total : Option ℕ) (reason : Option KernelReason) (found : Option KernelFault) (cycles flags : List Bool) (lengths totals : List (Option ℕ))
    → AreCalls m cycles lengths → slice_get m.functions place ≡ Some (f.name, f) → fits ≡ head_fits m.types f → MatchBool looping (FallsK10 f) (FallsK10 f → ⊥)
    → flags ≡ cycles → totals ≡ lengths → cyclic ≡ flag_of flags place → total ≡ told totals place → long ≡ is_long total
    → reason ≡ head_reason (not fits) looping cyclic long → found ≡ on_line f.line reason → IsLeast (ItemFaults (FunctionFalls m f) f.line) found
head_told m f place fits looping cyclic long total reason found cycles flags lengths totals calls stands fit loops same_flags same_totals cycle told_is long_is reason_is found_is =
    subst (IsLeast (ItemFaults (FunctionFalls m f) f.line))
    (sym (found_is ∙ ap (on_line f.line) (reason_is ∙ ap (head_reason (not fits) looping cyclic) long_is)))
    (head_least m f place fits looping cyclic total cycles lengths calls stands fit loops (cycle ∙ ap (λ fs. flag_of fs place) same_flags) (told_is ∙ ap (λ ts. told ts place) same_totals))

pub global_told : (m : ModuleView) (g : GlobalView) (fits pointers : Bool) (reason : Option KernelReason) (found : Option KernelFault) → fits ≡ global_fits m.types g → pointers ≡ has_pointer (meant m.types g.over)
    → reason ≡ global_reason (not fits) pointers → found ≡ on_line g.line reason → IsLeast (ItemFaults (GlobalFalls m g) g.line) found
global_told m g fits pointers reason found fit is reason_is found_is =
    subst (IsLeast (ItemFaults (GlobalFalls m g) g.line)) (sym (found_is ∙ ap (on_line g.line) reason_is)) (global_least m g fits pointers fit is)
