-- The kinds that expressions have of their own, as they are told; what is too wide stands for nothing.
use Rattle.std.proofs.Common.{◌≡◌, ℕ, ◌+◌, ◌-◌, ◌^◌, Bool, true, false, ◌&&◌, Option, Some, None, List, refl, sym, ◌∙◌, ap, subst, arith}
use Rattle.std.specs.Prelude.{nat_lt, if◌then◌else◌}
use Rattle.spec_ast.specs.declared.kind.UnKind.{UnKind}
use Rattle.spec_ast.specs.declared.kind.BinKind.{BinKind}
use Rattle.spec_ast.specs.declared.raw.RawResize.{RawResize}
use Rattle.spec_ast.specs.declared.raw.RawResize.TheVariants.{ZeroExt, SignExt, Extract}
use Rattle.spec_ast.specs.Raw.{Tree, unary, binary, choose, resize, sized}
use Rattle.spec_tree.specs.Plain as tree
use Rattle.spec_tree.specs.Sorted.{arithmetic, equality, ordering, logic, class_of, resized_width}
use Rattle.spec_names.specs.Kernel.{Name}
use Rattle.spec_scope.specs.Scope.{Scope, is_width, first, own, class_kind, resize_kind, resized_kind}
use Rattle.spec_scope.specs.Takes.{fits_resize, is_sized}
use Rattle.spec_scope.specs.Taking.{chain, one, pair, given_at, number_at, asked_un, asked, resized_at, take}
use Rattle.spec_scope.specs.declared.meaning.Kind.{Kind}
use Rattle.spec_scope.specs.declared.meaning.Kind.TheVariants.{Truth, Number}
use Rattle.spec_take.specs.declared.kinds.OwnKind.{OwnKind}
use Rattle.spec_take.specs.declared.kinds.OwnKind.TheVariants.{Absent, Known, TooWide}
use Rattle.spec_take.specs.Told.{told, resized, IsVoid, AreVoid, IsNarrow}

abbrev Bound : Type 0
Bound = List Name

-- ---- kinds as they are told

first_when : (w : ℕ) (b : Bool) (k : OwnKind) → (if b then Known (Number w) else TooWide) ≡ k → (k ≡ Absent → ⊥)
first_when w true k h e = absurd (cc (h, e))
first_when w false k h e = absurd (cc (h, e))

pub first_absent : (k o : Option Kind) (r : OwnKind) → Absent ≡ told k → r ≡ told o → r ≡ told (first k o)
first_absent None o r h is = is
first_absent (Some Truth) o r h is = absurd (cc h)
first_absent (Some (Number w)) o r h is = absurd (first_when w (nat_lt w 4294967296) Absent (sym h) refl)

pub first_known : (k o : Option Kind) (j : Kind) → Known j ≡ told k → Known j ≡ told (first k o)
first_known None o j h = absurd (cc h)
first_known (Some Truth) o j h = h
first_known (Some (Number w)) o j h = h

pub first_wide : (k o : Option Kind) → TooWide ≡ told k → TooWide ≡ told (first k o)
first_wide None o h = absurd (cc h)
first_wide (Some Truth) o h = h
first_wide (Some (Number w)) o h = h

wide_more : (w n : ℕ) → nat_lt w 4294967296 ≡ false → nat_lt (w + n) 4294967296 ≡ false
wide_more w n h = grind (arith, h)

extended : (w n : ℕ) (b : Bool) → nat_lt w 4294967296 ≡ b → told (Some (Number (w + n))) ≡ resized (ZeroExt n) (if b then Known (Number w) else TooWide)
extended w n true is = refl
extended w n false is = ap (λ b. if b then Known (Number (w + n)) else TooWide) (wide_more w n is)

copied : (w n : ℕ) (b : Bool) → nat_lt w 4294967296 ≡ b → told (Some (Number (w + n))) ≡ resized (SignExt n) (if b then Known (Number w) else TooWide)
copied w n true is = refl
copied w n false is = ap (λ b. if b then Known (Number (w + n)) else TooWide) (wide_more w n is)

extracted : (w high low : ℕ) (b : Bool) → told (Some (Number (high - low + 1))) ≡ resized (Extract high low) (if b then Known (Number w) else TooWide)
extracted w high low true = refl
extracted w high low false = refl

pub resized_law : (op : RawResize) (k : Option Kind) → told (resized_kind op k) ≡ resized op (told k)
resized_law (ZeroExt n) None = refl
resized_law (ZeroExt n) (Some Truth) = refl
resized_law (ZeroExt n) (Some (Number w)) = extended w n (nat_lt w 4294967296) refl
resized_law (SignExt n) None = refl
resized_law (SignExt n) (Some Truth) = refl
resized_law (SignExt n) (Some (Number w)) = copied w n (nat_lt w 4294967296) refl
resized_law (Extract high low) None = refl
resized_law (Extract high low) (Some Truth) = refl
resized_law (Extract high low) (Some (Number w)) = extracted w high low (nat_lt w 4294967296)

-- ---- what is too wide

not_narrow : (r : OwnKind) → IsNarrow r → r ≡ TooWide → ⊥
not_narrow Absent h is = absurd (cc is)
not_narrow (Known k) h is = absurd (cc is)
not_narrow TooWide h is = h

pub narrow : (s : Scope) (e : Tree) (r : OwnKind) → IsNarrow r → IsVoid s e r
narrow s e r h = record { void = λ is. absurd (not_narrow r h is) }

pub absent_void : (s : Scope) (e : Tree) → IsVoid s e Absent
absent_void s e = narrow s e Absent tt

pub known_void : (s : Scope) (e : Tree) (k : Kind) → IsVoid s e (Known k)
known_void s e k = narrow s e (Known k) tt

pub known_pair : (s : Scope) (a c : Tree) (k : Kind) → AreVoid s a c (Known k)
known_pair s a c k = record { void = λ is. absurd (cc is) }

no_pair : {A B : Type 0} (o : Option A) → pair {A = A} {B = B} o None ≡ None
no_pair None = refl
no_pair (Some a) = refl

pub void_first : (s : Scope) (a c : Tree) (r : OwnKind) → IsVoid s a r → AreVoid s a c r
void_first s a c r h = record { void = λ is b kind. ap (λ o. pair o (take s b kind c)) (h.void is b kind) }

pub void_second : (s : Scope) (a c : Tree) (r : OwnKind) → IsVoid s c r → AreVoid s a c r
void_second s a c r h = record { void = λ is b kind. ap (pair (take s b kind a)) (h.void is b kind) ∙ no_pair (take s b kind a) }

no_chain : {A B : Type 0} (o : Option A) → chain {A = A} {B = B} o (λ a. None) ≡ None
no_chain None = refl
no_chain (Some a) = refl

pub void_unary : (s : Scope) (op : UnKind) (a : Tree) (r : OwnKind) → IsVoid s a r → IsVoid s (unary op a) r
void_unary s op a r h =
    record { void = λ is b kind. ap (λ o. chain (asked_un op kind) (λ j. one (tree.unary op) o)) (h.void is b kind) ∙ no_chain (asked_un op kind) }

pub two_none : (s : Scope) (b : Bound) (op : BinKind) (a c : Tree) (asked_kind : Option Kind) → ((kind : Kind) → pair (take s b kind a) (take s b kind c) ≡ None)
    → chain asked_kind (λ j. one (λ p. tree.binary op p.0 p.1) (pair (take s b j a) (take s b j c))) ≡ None
two_none s b op a c None h = refl
two_none s b op a c (Some j) h = ap (one (λ p. tree.binary op p.0 p.1)) (h j)

pub void_binary : (s : Scope) (op : BinKind) (a c : Tree) (r : OwnKind) → AreVoid s a c r → IsVoid s (binary op a c) r
void_binary s op a c r h = record { void = λ is b kind. two_none s b op a c (asked (class_of op) kind (first (own s a) (own s c))) (h.void is b) }

choice_none : (s : Scope) (b : Bound) (kind : Kind) (c a d : Tree) (n : Option Kind) (t : Option tree.Tree) → pair (take s b kind a) (take s b kind d) ≡ None
    → chain n (λ j. chain t (λ t. one (λ p. tree.choose t p.0 p.1) (pair (take s b kind a) (take s b kind d)))) ≡ None
choice_none s b kind c a d None t h = refl
choice_none s b kind c a d (Some j) None h = refl
choice_none s b kind c a d (Some j) (Some t) h = ap (one (λ p. tree.choose t p.0 p.1)) h

pub void_choose : (s : Scope) (c a d : Tree) (r : OwnKind) → AreVoid s a d r → IsVoid s (choose c a d) r
void_choose s c a d r h = record { void = λ is b kind. choice_none s b kind c a d (number_at kind kind) (take s b Truth c) (h.void is b kind) }

told_wide : (w : ℕ) (b : Bool) → nat_lt w 4294967296 ≡ b → (if b then Known (Number w) else TooWide) ≡ TooWide → nat_lt w 4294967296 ≡ false
told_wide w true is h = absurd (cc h)
told_wide w false is h = is

not_sized : (n w : ℕ) → nat_lt w 4294967296 ≡ false → is_sized n w ≡ false
not_sized n w h = ap (λ b. b && nat_lt n (2 ^ w)) over
  where
    over : is_width w ≡ false
    over = grind (arith, h)

pub void_sized : (s : Scope) (n w : ℕ) (r : OwnKind) → r ≡ told (Some (Number w)) → IsVoid s (sized n w) r
void_sized s n w r h =
    record {
      void = λ is b kind.
          ap (λ c. if c then given_at kind (Number w) (tree.constant w n) else None) (not_sized n w (told_wide w (nat_lt w 4294967296) refl (sym h ∙ is)));
    }

-- ---- changes of width

no_fit : (op : RawResize) (w : ℕ) → nat_lt w 4294967296 ≡ true → told (Some (Number (resized_width (resize_kind op) w))) ≡ TooWide → fits_resize (resize_kind op) w ≡ false
no_fit (ZeroExt n) w l h = let o = told_wide (w + n) (nat_lt (w + n) 4294967296) refl h in grind (arith, o)
no_fit (SignExt n) w l h = let o = told_wide (w + n) (nat_lt (w + n) 4294967296) refl h in grind (arith, o)
no_fit (Extract high low) w l h = let o = told_wide (high - low + 1) (nat_lt (high - low + 1) 4294967296) refl h in grind (arith, o, l)

none_of : (f : Bool) (kind : Kind) (v : ℕ) (op : RawResize) (y : Option tree.Tree) → y ≡ None → (if f then chain y (λ y. given_at kind (Number v) (tree.resize (resize_kind op) y)) else None) ≡ None
none_of true kind v op y h = ap (λ o. chain o (λ y. given_at kind (Number v) (tree.resize (resize_kind op) y))) h
none_of false kind v op y h = refl

void_width : (s : Scope) (op : RawResize) (a : Tree) (w : ℕ) (narrow : Bool) → nat_lt w 4294967296 ≡ narrow → IsVoid s a (if narrow then Known (Number w) else TooWide)
    → told (Some (Number (resized_width (resize_kind op) w))) ≡ TooWide → (b : Bound) (kind : Kind) → resized_at op kind (Some (Number w)) (λ w. take s b (Number w) a) ≡ None
void_width s op a w true is h wide b kind =
    ap (λ f. if f then chain (take s b (Number w) a) (λ y. given_at kind (Number (resized_width (resize_kind op) w)) (tree.resize (resize_kind op) y)) else None) (no_fit op w is wide)
void_width s op a w false is h wide b kind =
    none_of (fits_resize (resize_kind op) w) kind (resized_width (resize_kind op) w) op (take s b (Number w) a) (h.void refl b (Number w))

void_resized : (s : Scope) (op : RawResize) (a : Tree) (k : Option Kind) → IsVoid s a (told k) → told (resized_kind op k) ≡ TooWide
    → (b : Bound) (kind : Kind) → resized_at op kind k (λ w. take s b (Number w) a) ≡ None
void_resized s op a None h wide b kind = refl
void_resized s op a (Some Truth) h wide b kind = refl
void_resized s op a (Some (Number w)) h wide b kind = void_width s op a w (nat_lt w 4294967296) refl h wide b kind

pub void_resize : (s : Scope) (op : RawResize) (a : Tree) (r result : OwnKind) → r ≡ told (own s a) → IsVoid s a r → result ≡ resized op r → IsVoid s (resize op a) result
void_resize s op a r result has h is =
    record {
      void = λ wide b kind.
          void_resized s op a (own s a) (subst (IsVoid s a) has h) (resized_law op (own s a) ∙ ap (resized op) (sym has) ∙ sym is ∙ wide) b kind;
    }

-- ---- classes

pub class_arithmetic : (op : BinKind) (k : Option Kind) → arithmetic ≡ class_of op → class_kind (class_of op) k ≡ k
class_arithmetic op k h = ap (λ c. class_kind c k) (sym h)

pub class_equality : (op : BinKind) (k : Option Kind) → equality ≡ class_of op → class_kind (class_of op) k ≡ Some Truth
class_equality op k h = ap (λ c. class_kind c k) (sym h)

pub class_ordering : (op : BinKind) (k : Option Kind) → ordering ≡ class_of op → class_kind (class_of op) k ≡ Some Truth
class_ordering op k h = ap (λ c. class_kind c k) (sym h)

pub class_logic : (op : BinKind) (k : Option Kind) → logic ≡ class_of op → class_kind (class_of op) k ≡ Some Truth
class_logic op k h = ap (λ c. class_kind c k) (sym h)
