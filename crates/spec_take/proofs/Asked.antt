-- What a place asks of the expressions there.
use Rattle.std.proofs.Common.{◌≡◌, ℕ, Bool, true, false, Option, Some, None, refl, sym, ◌∙◌, ap, subst}
use Rattle.std.specs.Prelude.{nat_lt, if◌then◌else◌}
use Rattle.spec_ast.specs.declared.kind.BinKind.{BinKind}
use Rattle.spec_ast.specs.Raw.{Tree}
use Rattle.spec_tree.specs.Plain as tree
use Rattle.spec_tree.specs.Sorted.{Class, equality, ordering, class_of}
use Rattle.spec_scope.specs.declared.meaning.Kind.{Kind}
use Rattle.spec_scope.specs.declared.meaning.Kind.TheVariants.{Truth, Number}
use Rattle.spec_scope.specs.Scope.{Scope, first, own}
use Rattle.spec_scope.specs.Takes.{index_kind}
use Rattle.spec_scope.specs.Taking.{chain, one, pair, asked, number_of_kind, take}
use Rattle.spec_take.specs.declared.kinds.OwnKind.{OwnKind}
use Rattle.spec_take.specs.declared.kinds.OwnKind.TheVariants.{Absent, Known, TooWide}
use Rattle.spec_take.specs.Told.{told, IsVoid, AreVoid}
use Rattle.spec_take.specs.Asking.{known, known_number, index_told, AsksClass, AsksBoth, AsksIndex}
use Rattle.spec_take.proofs.Void.{two_none}

-- ---- kinds as they are told

known_if : (w : ℕ) (b : Bool) (k : Kind) → (if b then Known (Number w) else TooWide) ≡ Known k → Some (Number w) ≡ Some k
known_if w true k h = cc h
known_if w false k h = absurd (cc h)

pub told_known : (o : Option Kind) (k : Kind) → told o ≡ Known k → o ≡ Some k
told_known None k h = absurd (cc h)
told_known (Some Truth) k h = cc h
told_known (Some (Number w)) k h = known_if w (nat_lt w 4294967296) k h

absent_if : (w : ℕ) (b : Bool) → (if b then Known (Number w) else TooWide) ≡ Absent → Some (Number w) ≡ None
absent_if w true h = absurd (cc h)
absent_if w false h = absurd (cc h)

pub told_absent : (o : Option Kind) → told o ≡ Absent → o ≡ None
told_absent None h = refl
told_absent (Some Truth) h = absurd (cc h)
told_absent (Some (Number w)) h = absent_if w (nat_lt w 4294967296) h

-- ---- both operands

pub asks_is : (s : Scope) (class : Class) (kind : Kind) (a c : Tree) (r : Option Kind) → r ≡ asked class kind (first (own s a) (own s c)) → AsksClass s class kind a c r
asks_is s class kind a c None h = λ b op. ap (λ o. chain o (λ j. one (λ p. tree.binary op p.0 p.1) (pair (take s b j a) (take s b j c)))) (sym h)
asks_is s class kind a c (Some j) h = sym h

pub equality_asks : (s : Scope) (a c : Tree) (k : OwnKind) (r : Option Kind) → k ≡ told (first (own s a) (own s c)) → AreVoid s a c k → r ≡ known k → AsksClass s equality Truth a c r
equality_asks s a c Absent r is void rk = asks_is s equality Truth a c r (rk ∙ sym (told_absent (first (own s a) (own s c)) (sym is)))
equality_asks s a c (Known k) r is void rk = asks_is s equality Truth a c r (rk ∙ sym (told_known (first (own s a) (own s c)) k (sym is)))
equality_asks s a c TooWide r is void rk = subst (AsksClass s equality Truth a c) (sym rk) (λ b op. two_none s b op a c (asked equality Truth (first (own s a) (own s c))) (void.void refl b))

pub ordering_asks : (s : Scope) (a c : Tree) (k : OwnKind) (r : Option Kind) → k ≡ told (first (own s a) (own s c)) → AreVoid s a c k → r ≡ known_number k → AsksClass s ordering Truth a c r
ordering_asks s a c Absent r is void rk = asks_is s ordering Truth a c r (rk ∙ ap number_of_kind (sym (told_absent (first (own s a) (own s c)) (sym is))))
ordering_asks s a c (Known Truth) r is void rk = asks_is s ordering Truth a c r (rk ∙ ap number_of_kind (sym (told_known (first (own s a) (own s c)) Truth (sym is))))
ordering_asks s a c (Known (Number w)) r is void rk = asks_is s ordering Truth a c r (rk ∙ ap number_of_kind (sym (told_known (first (own s a) (own s c)) (Number w) (sym is))))
ordering_asks s a c TooWide r is void rk = subst (AsksClass s ordering Truth a c) (sym rk) (λ b op. two_none s b op a c (asked ordering Truth (first (own s a) (own s c))) (void.void refl b))

pub both_asked : (s : Scope) (class : Class) (op : BinKind) (kind : Kind) (a c : Tree) (r : Option Kind) → class ≡ class_of op → AsksClass s class kind a c r → AsksBoth s op kind a c r
both_asked s class op kind a c None is h = λ b. ap (λ k. chain (asked k kind (first (own s a) (own s c))) (λ j. one (λ p. tree.binary op p.0 p.1) (pair (take s b j a) (take s b j c)))) (sym is) ∙ h b op
both_asked s class op kind a c (Some j) is h = ap (λ k. asked k kind (first (own s a) (own s c))) (sym is) ∙ h

-- ---- an index

pub index_asks : (s : Scope) (e : Tree) (k : OwnKind) (r : Option Kind) → k ≡ told (own s e) → IsVoid s e k → r ≡ index_told k → AsksIndex s e r
index_asks s e Absent r is void rk = subst (AsksIndex s e) (sym rk) (ap index_kind (told_absent (own s e) (sym is)))
index_asks s e (Known k) r is void rk = subst (AsksIndex s e) (sym rk) (ap index_kind (told_known (own s e) k (sym is)))
index_asks s e TooWide r is void rk = subst (AsksIndex s e) (sym rk) (λ b. void.void refl b (index_kind (own s e)))
