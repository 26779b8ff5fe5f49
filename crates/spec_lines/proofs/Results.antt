-- An expression at a place that asks nothing.
use Rattle.std.proofs.Common.{◌≡◌, ℕ, Bool, true, false, Option, Some, None, [], is_some, refl, sym, ◌∙◌, ap, subst}
use Rattle.std.specs.Prelude.{nat_lt, if◌then◌else◌, Result, IfOk}
use Rattle.std.specs.declared.alloc.AllocError.{AllocError}
use Rattle.spec_ast.specs.Raw.{Tree}
use Rattle.spec_scope.specs.declared.meaning.Kind.{Kind}
use Rattle.spec_scope.specs.declared.meaning.Kind.TheVariants.{Truth, Number}
use Rattle.spec_scope.specs.Scope.{Scope, own}
use Rattle.spec_scope.specs.Taking.{take}
use Rattle.spec_take.specs.declared.kinds.OwnKind.{OwnKind}
use Rattle.spec_take.specs.declared.kinds.OwnKind.TheVariants.{Absent, Known, TooWide}
use Rattle.spec_take.specs.Told.{told, IsVoid}
use Rattle.spec_lines.specs.Faults.{fits, fits_freely, fits_own}

known_if : (w : ℕ) (b : Bool) (k : Kind) → (if b then Known (Number w) else TooWide) ≡ Known k → Some (Number w) ≡ Some k
known_if w true k h = cc h
known_if w false k h = absurd (cc h)

told_known : (o : Option Kind) (k : Kind) → told o ≡ Known k → o ≡ Some k
told_known None k h = absurd (cc h)
told_known (Some Truth) k h = cc h
told_known (Some (Number w)) k h = known_if w (nat_lt w 4294967296) k h

absent_if : (w : ℕ) (b : Bool) → (if b then Known (Number w) else TooWide) ≡ Absent → Some (Number w) ≡ None
absent_if w true h = absurd (cc h)
absent_if w false h = absurd (cc h)

told_absent : (o : Option Kind) → told o ≡ Absent → o ≡ None
told_absent None h = refl
told_absent (Some Truth) h = absurd (cc h)
told_absent (Some (Number w)) h = absent_if w (nat_lt w 4294967296) h

at_own : (s : Scope) (e : Tree) (r : Result Bool AllocError) (o : Option Kind) → own s e ≡ o → IfOk r (λ b. b ≡ fits_own s o e)
    → IfOk r (λ b. b ≡ fits_own s (own s e) e)
at_own s e r o is holds = subst (λ k. IfOk r (λ b. b ≡ fits_own s k e)) (sym is) holds

pub absent_at : (s : Scope) (e : Tree) (k : OwnKind) (r : Result Bool AllocError) → k ≡ told (own s e) → k ≡ Absent
    → IfOk r (λ b. b ≡ fits_freely s e) → IfOk r (λ b. b ≡ fits_own s (own s e) e)
absent_at s e k r told is holds = at_own s e r None (told_absent (own s e) (sym told ∙ is)) holds

pub known_at : (s : Scope) (e : Tree) (k : OwnKind) (kind : Kind) (r : Result Bool AllocError) → k ≡ told (own s e) → k ≡ Known kind
    → IfOk r (λ b. b ≡ fits s [] kind e) → IfOk r (λ b. b ≡ fits_own s (own s e) e)
known_at s e k kind r told is holds = at_own s e r (Some kind) (told_known (own s e) kind (sym told ∙ is)) holds

void_own : (s : Scope) (e : Tree) (o : Option Kind) → told o ≡ TooWide → ((kind : Kind) → take s [] kind e ≡ None) → false ≡ fits_own s o e
void_own s e None h none = absurd (cc h)
void_own s e (Some kind) h none = sym (ap is_some (none kind))

pub void_at : (s : Scope) (e : Tree) (k : OwnKind) → IsVoid s e k → k ≡ told (own s e) → k ≡ TooWide → false ≡ fits_own s (own s e) e
void_at s e k void told is = void_own s e (own s e) (sym told ∙ is) (λ kind. void.void is [] kind)
