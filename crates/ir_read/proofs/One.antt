-- A text spells at most one module, and has at most one fault; it never has both.
use Rattle.std.proofs.Common.{◌≡◌, ℕ, Bool, true, false, ◌⊎◌, inl, inr, Result, Ok, Err, List, [], ◌∷◌, refl, sym, ◌∙◌, ap, subst}
use Rattle.ir_ast.specs.Program.{ModuleView}
use Rattle.ir_ast.specs.declared.fault.KernelReason.{KernelReason}
use Rattle.ir_ast.specs.declared.fault.KernelReason.TheVariants.{K1, K2, K3, K4, K5, K6, K7, K8, K9, K10, K11, K12, K13, K14, K15}
use Rattle.ir_lex.specs.Lexeme.{Lexeme}
use Rattle.ir_lex.specs.Cut.{Cut, cut}
use Rattle.ir_lex.specs.Drop.{is_dropped_item, remaining}
use Rattle.ir_lex.specs.Tok.{toks}
use Rattle.ir_lex.specs.Items.{Top, Inner, ReadsTop, ReadsInner, holds_left_out}
use Rattle.ir_top.proofs.TopLaws.{one_read}
use Rattle.ir_top.proofs.RangeLaws.{one_range}
use Rattle.ir_body.proofs.InnerLaws.{spelled_apart}
use Rattle.ir_read.specs.Ahead.{ends}
use Rattle.ir_read.specs.State.{State, at_start, is_inside}
use Rattle.ir_read.specs.Reads.{Reading, passed, ranged, top_of, inner_of, refused, IsInPlace, IsOutOfPlace, Refuses, Reads}
use Rattle.ir_read.specs.Steps.{Out, after_reading}
use Rattle.ir_read.specs.Spelling.{Passes, Leads, Fails, SpellsFrom, FailsFrom, IsModuleText, IsFaultyText, IsStop, IsModule, IsFault}
use Rattle.ir_ast.specs.ProgramView.{view_module}
use Rattle.ir_ast.specs.declared.module.Module.{Module}
use Rattle.ir_ast.specs.declared.fault.KernelStop.{KernelStop}
use Rattle.ir_ast.specs.declared.fault.KernelStop.TheVariants.{Refused, Memory}
use Rattle.std.specs.Prelude.{IfOk, IfErr}

-- ---- one reading

never_both : {A : Type 0} → (b : Bool) → b ≡ true → b ≡ false → A
never_both b e f = absurd cc

-- no reason but these two comes of reading an item
two_reasons : (inside : Bool) (ts : List Lexeme) (reason : KernelReason) → Refuses inside ts reason → (reason ≡ K2) ⊎ (reason ≡ K3)
two_reasons inside ts K1 h = absurd h
two_reasons inside ts K2 h = inl refl
two_reasons inside ts K3 h = inr refl
two_reasons inside ts K4 h = absurd h
two_reasons inside ts K5 h = absurd h
two_reasons inside ts K6 h = absurd h
two_reasons inside ts K7 h = absurd h
two_reasons inside ts K8 h = absurd h
two_reasons inside ts K9 h = absurd h
two_reasons inside ts K10 h = absurd h
two_reasons inside ts K11 h = absurd h
two_reasons inside ts K12 h = absurd h
two_reasons inside ts K13 h = absurd h
two_reasons inside ts K14 h = absurd h
two_reasons inside ts K15 h = absurd h

refuses_kept : (inside : Bool) (ts : List Lexeme) (reason : KernelReason) → Refuses inside ts reason → is_dropped_item ts ≡ false
refuses_kept inside ts reason h = kept (two_reasons inside ts reason h)
  where
    kept : (reason ≡ K2) ⊎ (reason ≡ K3) → is_dropped_item ts ≡ false
    kept (inl e) = (subst (Refuses inside ts) e h).0
    kept (inr e) = (subst (Refuses inside ts) e h).0

refuses_place : (inside : Bool) (ts : List Lexeme) (reason : KernelReason) → Refuses inside ts reason → IsInPlace inside ts → ⊥
refuses_place inside ts reason h = placed (two_reasons inside ts reason h)
  where
    placed : (reason ≡ K2) ⊎ (reason ≡ K3) → IsInPlace inside ts → ⊥
    placed (inl e) = (subst (Refuses inside ts) e h).1
    placed (inr e) = (subst (Refuses inside ts) e h).1

never_two : (inside : Bool) (ts : List Lexeme) → IsOutOfPlace inside ts ⊎ (holds_left_out (remaining ts) ≡ false) → (IsOutOfPlace inside ts → ⊥) → holds_left_out (remaining ts) ≡ true → ⊥
never_two inside ts (inl is) other holds = other is
never_two inside ts (inr none) other holds = never_both (holds_left_out (remaining ts)) holds none

never_mixed : (inside : Bool) (ts : List Lexeme) → Refuses inside ts K2 → Refuses inside ts K3 → ⊥
never_mixed inside ts h i = never_two inside ts h.2 i.2 i.3

one_reason : (inside : Bool) (ts : List Lexeme) (a b : KernelReason) → Refuses inside ts a → Refuses inside ts b → a ≡ b
one_reason inside ts a b h i = same (two_reasons inside ts a h) (two_reasons inside ts b i)
  where
    same : (a ≡ K2) ⊎ (a ≡ K3) → (b ≡ K2) ⊎ (b ≡ K3) → a ≡ b
    same (inl e) (inl f) = e ∙ sym f
    same (inr e) (inr f) = e ∙ sym f
    same (inl e) (inr f) = absurd (never_mixed inside ts (subst (Refuses inside ts) e h) (subst (Refuses inside ts) f i))
    same (inr e) (inl f) = absurd (never_mixed inside ts (subst (Refuses inside ts) f i) (subst (Refuses inside ts) e h))

-- an item that is read as one kind of thing is read as no other
clash : {A : Type 0} → (inside : Bool) (ts : List Lexeme) → is_dropped_item ts ≡ true → is_dropped_item ts ≡ false → A
clash inside ts e f = never_both (is_dropped_item ts) e f

in_place : (inside : Bool) (r : Reading) (ts : List Lexeme) (reason : KernelReason) → Reads inside r ts → IsInPlace inside ts → Refuses inside ts reason → ⊥
in_place inside r ts reason read place h = refuses_place inside ts reason h place

top_place : (inside : Bool) (top : Top) (ts : List Lexeme) → inside ≡ false → ReadsTop top ts → IsInPlace inside ts
top_place true top ts e h = absurd cc
top_place false top ts e h = (top, h)

inner_place : (inside : Bool) (inner : Inner) (ts : List Lexeme) → inside ≡ true → ReadsInner inner ts → IsInPlace inside ts
inner_place true inner ts e h = (inner, h)
inner_place false inner ts e h = absurd cc

pub one_reading : (inside : Bool) (ts : List Lexeme) (a b : Reading) → Reads inside a ts → Reads inside b ts → a ≡ b
one_reading inside ts passed passed h i = refl
one_reading inside ts passed (ranged name numbers) h i = absurd (h.1 name numbers i.1)
one_reading inside ts passed (top_of top) h i = clash inside ts h.0 i.1.0
one_reading inside ts passed (inner_of inner) h i = clash inside ts h.0 i.1.0
one_reading inside ts passed (refused reason) h i = clash inside ts h.0 (refuses_kept inside ts reason i)
one_reading inside ts (ranged name numbers) passed h i = absurd (i.1 name numbers h.1)
one_reading inside ts (ranged name numbers) (ranged other others) h i =
    let e = one_range name other numbers others (toks ts) h.1 i.1 in
    ap (λ n. ranged n numbers) e.0 ∙ ap (λ ns. ranged other ns) e.1
one_reading inside ts (ranged name numbers) (top_of top) h i = clash inside ts h.0 i.1.0
one_reading inside ts (ranged name numbers) (inner_of inner) h i = clash inside ts h.0 i.1.0
one_reading inside ts (ranged name numbers) (refused reason) h i = clash inside ts h.0 (refuses_kept inside ts reason i)
one_reading inside ts (top_of top) passed h i = clash inside ts i.0 h.1.0
one_reading inside ts (top_of top) (ranged name numbers) h i = clash inside ts i.0 h.1.0
one_reading inside ts (top_of top) (top_of other) h i = ap top_of (one_read top other ts h.1 i.1)
one_reading inside ts (top_of top) (inner_of inner) h i = never_both inside i.0 h.0
one_reading inside ts (top_of top) (refused reason) h i = absurd (refuses_place inside ts reason i (top_place inside top ts h.0 h.1))
one_reading inside ts (inner_of inner) passed h i = clash inside ts i.0 h.1.0
one_reading inside ts (inner_of inner) (ranged name numbers) h i = clash inside ts i.0 h.1.0
one_reading inside ts (inner_of inner) (top_of top) h i = never_both inside h.0 i.0
one_reading inside ts (inner_of inner) (inner_of other) h i = ap inner_of (spelled_apart inner other (toks (remaining ts)) h.1.1 i.1.1)
one_reading inside ts (inner_of inner) (refused reason) h i = absurd (refuses_place inside ts reason i (inner_place inside inner ts h.0 h.1))
one_reading inside ts (refused reason) passed h i = clash inside ts i.0 (refuses_kept inside ts reason h)
one_reading inside ts (refused reason) (ranged name numbers) h i = clash inside ts i.0 (refuses_kept inside ts reason h)
one_reading inside ts (refused reason) (top_of top) h i = absurd (refuses_place inside ts reason h (top_place inside top ts i.0 i.1))
one_reading inside ts (refused reason) (inner_of inner) h i = absurd (refuses_place inside ts reason h (inner_place inside inner ts i.0 i.1))
one_reading inside ts (refused reason) (refused other) h i = ap refused (one_reason inside ts reason other h i)

-- ---- one way on

one_out : (closed : Bool) (s : State) (c : Cut) (cs : List Cut) (a b : Out State) → Passes closed s c cs a → Passes closed s c cs b → a ≡ b
one_out false s c cs a b h i = h ∙ sym i
one_out true s c cs a b (r, read, is) (q, other, too) =
    is ∙ ap (λ (x : Reading). after_reading x c.line cs s) (one_reading (is_inside s) c.lexemes r q read other) ∙ sym too

ok_is : {A : Type 0} → (a b : A) → ◌≡◌ {A = Out A} (Ok a) (Ok b) → a ≡ b
ok_is a b h = cc

err_is : {A : Type 0} → (a b : KernelReason) → ◌≡◌ {A = Out A} (Err a) (Err b) → a ≡ b
err_is a b h = cc

never : {A : Type 0} → (a : A) → (reason : KernelReason) → ◌≡◌ {A = Out A} (Ok a) (Err reason) → ⊥
never a reason h = absurd cc

one_next : (s : State) (c : Cut) (cs : List Cut) (a b : State) → Leads s c cs a → Leads s c cs b → a ≡ b
one_next s c cs a b h i = ok_is a b (one_out (ends c cs) s c cs (Ok a) (Ok b) h i)

leads_or_fails : (s : State) (c : Cut) (cs : List Cut) (a : State) (reason : KernelReason) → Leads s c cs a → Fails s c cs reason → ⊥
leads_or_fails s c cs a reason h i = never a reason (one_out (ends c cs) s c cs (Ok a) (Err reason) h i)

-- ---- one module, one fault

one_spelled : (cs : List Cut) (s : State) (m n : ModuleView) → SpellsFrom s cs m → SpellsFrom s cs n → m ≡ n
one_spelled [] s m n h i = sym h.1 ∙ i.1
one_spelled (c ∷ cs) s m n h i =
    one_spelled cs h.0 m n h.2 (subst (λ x. SpellsFrom x cs n) (one_next s c cs i.0 h.0 i.1 h.1) i.2)

spelled_or_fails : (cs : List Cut) (s : State) (m : ModuleView) (line : ℕ) (reason : KernelReason) → SpellsFrom s cs m → FailsFrom s cs line reason → ⊥
spelled_or_fails [] s m line reason h i = i
spelled_or_fails (c ∷ cs) s m line reason h (inl i) = leads_or_fails s c cs h.0 reason h.1 i.1
spelled_or_fails (c ∷ cs) s m line reason h (inr i) =
    spelled_or_fails cs h.0 m line reason h.2 (subst (λ x. FailsFrom x cs line reason) (one_next s c cs i.0 h.0 i.1 h.1) i.2)

one_fault : (cs : List Cut) (s : State) (line other : ℕ) (reason cause : KernelReason) → FailsFrom s cs line reason → FailsFrom s cs other cause → (line ≡ other) × (reason ≡ cause)
one_fault [] s line other reason cause h i = absurd h
one_fault (c ∷ cs) s line other reason cause (inl h) (inl i) = (sym h.0 ∙ i.0, err_is reason cause (one_out (ends c cs) s c cs (Err reason) (Err cause) h.1 i.1))
one_fault (c ∷ cs) s line other reason cause (inl h) (inr i) = absurd (leads_or_fails s c cs i.0 reason i.1 h.1)
one_fault (c ∷ cs) s line other reason cause (inr h) (inl i) = absurd (leads_or_fails s c cs h.0 cause h.1 i.1)
one_fault (c ∷ cs) s line other reason cause (inr h) (inr i) =
    one_fault cs h.0 line other reason cause h.2 (subst (λ x. FailsFrom x cs other cause) (one_next s c cs i.0 h.0 i.1 h.1) i.2)

lexed_is : (a b : List Lexeme) → ◌≡◌ {A = Result (List Lexeme) ℕ} (Ok a) (Ok b) → b ≡ a
lexed_is a b h = cc

line_is : (a b : ℕ) → ◌≡◌ {A = Result (List Lexeme) ℕ} (Err a) (Err b) → a ≡ b
line_is a b h = cc

never_lexed : (a : List Lexeme) (line : ℕ) → ◌≡◌ {A = Result (List Lexeme) ℕ} (Ok a) (Err line) → ⊥
never_lexed a line h = absurd cc

pub one_module : (text : List ℕ) (m n : ModuleView) → IsModuleText text m → IsModuleText text n → m ≡ n
one_module text m n h i = one_spelled (cut h.tokens) at_start m n h.spelled (subst (λ ts. SpellsFrom at_start (cut ts) n) (lexed_is h.tokens i.tokens (sym h.lexed ∙ i.lexed)) i.spelled)

pub module_or_fault : (text : List ℕ) (m : ModuleView) (line : ℕ) (reason : KernelReason) → IsModuleText text m → IsFaultyText text line reason → ⊥
module_or_fault text m line reason h (inl i) = never_lexed h.tokens line (sym h.lexed ∙ i.0)
module_or_fault text m line reason h (inr i) =
    spelled_or_fails (cut h.tokens) at_start m line reason h.spelled (subst (λ ts. FailsFrom at_start (cut ts) line reason) (lexed_is h.tokens i.0 (sym h.lexed ∙ i.1)) i.2)

pub fault_is : (text : List ℕ) (line other : ℕ) (reason cause : KernelReason) → IsFaultyText text line reason → IsFaultyText text other cause → (line ≡ other) × (reason ≡ cause)
fault_is text line other reason cause (inl h) (inl i) = (line_is line other (sym h.0 ∙ i.0), h.1 ∙ sym i.1)
fault_is text line other reason cause (inl h) (inr i) = absurd (never_lexed i.0 line (sym i.1 ∙ h.0))
fault_is text line other reason cause (inr h) (inl i) = absurd (never_lexed h.0 other (sym h.1 ∙ i.0))
fault_is text line other reason cause (inr h) (inr i) =
    one_fault (cut h.0) at_start line other reason cause h.2 (subst (λ ts. FailsFrom at_start (cut ts) other cause) (lexed_is h.0 i.0 (sym h.1 ∙ i.1)) i.2)

pub module_only : (r : Result Module KernelStop) (text : List ℕ) → IfOk r (λ m. IsModuleText text (view_module m)) → IfErr r (IsStop text) → (m : ModuleView) → IsModuleText text m → IsModule r m
module_only (Ok read) text h i m is = one_module text (view_module read) m h is
module_only (Err (Refused fault)) text h i m is = module_or_fault text m fault.line fault.reason is i
module_only (Err Memory) text h i m is = tt

pub fault_only : (r : Result Module KernelStop) (text : List ℕ) → IfOk r (λ m. IsModuleText text (view_module m)) → IfErr r (IsStop text) → (line : ℕ) (reason : KernelReason) → IsFaultyText text line reason → IsFault r line reason
fault_only (Ok read) text h i line reason is = module_or_fault text (view_module read) line reason h is
fault_only (Err (Refused fault)) text h i line reason is = fault_is text fault.line line fault.reason reason i is
fault_only (Err Memory) text h i line reason is = tt
