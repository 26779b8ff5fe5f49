-- Widths and values of terms over lists that grow at their end.
use Rattle.std.proofs.Common.{◌≡◌, ℕ, zero, suc, ◌%◌, ◌^◌, ◌<◌, Bool, true, false, cond, nat_eq, List, [], ◌∷◌, ◌++◌, length, reverse, Some, arith, refl, sym, ◌∙◌, ap, subst}
use Rattle.std.proofs.lemmas.List.{reverse-append, length-reverse, append-nil, append_assoc, length-append}
use Rattle.std.proofs.lemmas.Bool.{eq-eqb, ne_eqb, eqb-false}
use Rattle.std.proofs.Math.Nat.{mod-lt}
use Rattle.std.proofs.lemmas.Nat.{pow_pos}
use Rattle.std.specs.List.{slice_get}
use Rattle.hk_term.specs.Operations.{bit, unary_value, binary_value, binary_width, BinaryFits, resize_value, ResizeFits}
use Rattle.hk_term.specs.Shape.{IsWidth, node_width, width_in, width, NodeFits, AllFitIn}
use Rattle.hk_term.specs.Meaning.{Reading, every_tuple, node_value, value_in, value}
use Rattle.hk_term.specs.Facts.{Holds}
use Rattle.hk_term.specs.declared.node.Node.{Node}
use Rattle.hk_term.specs.declared.node.Node.TheVariants.{Const, Var, Select, Unary, Binary, Choose, Resize, ForAll}
use Rattle.hk_term.proofs.KindLemmas.{bit_below, unary_below, binary_below, binary_is_width, resize_below, resize_is_width}

-- ---- one node more

pub reverse-push : (ns : List Node) (n : Node) → reverse (ns ++ n ∷ []) ≡ n ∷ reverse ns
reverse-push ns n = reverse-append ns (n ∷ [])

its_place : (ns : List Node) → nat_eq (length ns) (length (reverse ns)) ≡ true
its_place ns = eq-eqb (length ns) (length (reverse ns)) (sym (length-reverse ns))

an_earlier : (ns : List Node) (k : ℕ) → k < length ns → nat_eq k (length (reverse ns)) ≡ false
an_earlier ns k h = ne_eqb k (length (reverse ns)) (λ e. let same : length (reverse ns) ≡ length ns = length-reverse ns in omega arith)

pub width-new : (ns : List Node) (n : Node) → width (ns ++ n ∷ []) (length ns) ≡ node_width n (width ns)
unfolding width_in
width-new ns n =
    ap (λ l. width_in l (length ns)) (reverse-push ns n)
    ∙ ap (λ b. cond b (node_width n (width ns)) (width ns (length ns))) (its_place ns)

pub width-push : (ns : List Node) (n : Node) (k : ℕ) → k < length ns → width (ns ++ n ∷ []) k ≡ width ns k
unfolding width_in
width-push ns n k h =
    ap (λ l. width_in l k) (reverse-push ns n) ∙ ap (λ b. cond b (node_width n (width ns)) (width ns k)) (an_earlier ns k h)

pub value-new : (ns : List Node) (n : Node) (v : Reading) → value (ns ++ n ∷ []) (length ns) v ≡ node_value n (value ns) (width ns) v
unfolding value_in
value-new ns n v =
    ap (λ l. value_in l (length ns) v) (reverse-push ns n)
    ∙ ap (λ b. cond b (node_value n (value ns) (width ns) v) (value ns (length ns) v)) (its_place ns)

pub value-push : (ns : List Node) (n : Node) (k : ℕ) (v : Reading) → k < length ns → value (ns ++ n ∷ []) k v ≡ value ns k v
unfolding value_in
value-push ns n k v h =
    ap (λ l. value_in l k v) (reverse-push ns n)
    ∙ ap (λ b. cond b (node_value n (value ns) (width ns) v) (value ns k v)) (an_earlier ns k h)

-- ---- more nodes

one_by_one : (ns : List Node) (m : Node) (more : List Node) → ns ++ m ∷ more ≡ (ns ++ m ∷ []) ++ more
one_by_one ns m more = sym (append_assoc ns (m ∷ []) more)

longer : (ns : List Node) (m : Node) (k : ℕ) → k < length ns → k < length (ns ++ m ∷ [])
longer ns m k h = omega (arith, length-append ns (m ∷ []))

pub width-grows : (ns more : List Node) (k : ℕ) → k < length ns → width (ns ++ more) k ≡ width ns k
width-grows ns [] k h = ap (λ l. width l k) (append-nil ns)
width-grows ns (m ∷ more) k h =
    ap (λ l. width l k) (one_by_one ns m more) ∙ width-grows (ns ++ m ∷ []) more k (longer ns m k h) ∙ width-push ns m k h

pub value-grows : (ns more : List Node) (k : ℕ) (v : Reading) → k < length ns → value (ns ++ more) k v ≡ value ns k v
value-grows ns [] k v h = ap (λ l. value l k v) (append-nil ns)
value-grows ns (m ∷ more) k v h =
    ap (λ l. value l k v) (one_by_one ns m more) ∙ value-grows (ns ++ m ∷ []) more k v (longer ns m k h) ∙ value-push ns m k v h

-- ---- a node depends on its parts alone

pub NodeFits-same : (n : Node) (t : ℕ) (w u : ℕ → ℕ) → ((k : ℕ) → k < t → w k ≡ u k) → NodeFits t w n → NodeFits t u n
NodeFits-same (Const width number) t w u e fits = fits
NodeFits-same (Var width id) t w u e fits = fits
NodeFits-same (Select array width index) t w u e fits = fits
NodeFits-same (Unary kind a) t w u e fits = fits
NodeFits-same (Binary kind a b) t w u e fits =
    (fits.0, fits.1, subst (λ x. BinaryFits kind x (u b)) (e a fits.0) (subst (λ y. BinaryFits kind (w a) y) (e b fits.1) fits.2))
NodeFits-same (Choose c a b) t w u e fits =
    (fits.0, fits.1, fits.2, sym (e c fits.0) ∙ fits.3, sym (e a fits.1) ∙ fits.4 ∙ e b fits.2)
NodeFits-same (Resize kind to a) t w u e fits = (fits.0, subst (λ x. ResizeFits kind x to) (e a fits.0) fits.1)
NodeFits-same (ForAll bound body) t w u e fits = (fits.0, sym (e body fits.0) ∙ fits.1)

pub node_width-same : (n : Node) (t : ℕ) (w u : ℕ → ℕ) → ((k : ℕ) → k < t → w k ≡ u k) → NodeFits t w n → node_width n w ≡ node_width n u
node_width-same (Const width number) t w u e fits = refl
node_width-same (Var width id) t w u e fits = refl
node_width-same (Select array width index) t w u e fits = refl
node_width-same (Unary kind a) t w u e fits = e a fits
node_width-same (Binary kind a b) t w u e fits = λ i. binary_width kind (e a fits.0 i) (e b fits.1 i)
node_width-same (Choose c a b) t w u e fits = e a fits.1
node_width-same (Resize kind to a) t w u e fits = refl
node_width-same (ForAll bound body) t w u e fits = refl

pub node_value-same : (n : Node) (t : ℕ) (f g : ℕ → Reading → ℕ) (w u : ℕ → ℕ) (v : Reading) → ((k : ℕ) → k < t → (x : Reading) → f k x ≡ g k x) → ((k : ℕ) → k < t → w k ≡ u k) → NodeFits t w n → node_value n f w v ≡ node_value n g u v
node_value-same (Const width number) t f g w u v d e fits = refl
node_value-same (Var width id) t f g w u v d e fits = refl
node_value-same (Select array width index) t f g w u v d e fits = λ i. v.entry array (d index fits.1 v i) % 2 ^ width
node_value-same (Unary kind a) t f g w u v d e fits = λ i. unary_value kind (e a fits i) (d a fits v i)
node_value-same (Binary kind a b) t f g w u v d e fits =
    λ i. binary_value kind (e a fits.0 i) (e b fits.1 i) (d a fits.0 v i) (d b fits.1 v i)
node_value-same (Choose c a b) t f g w u v d e fits =
    λ i. cond (nat_eq (d c fits.0 v i) 1) (d a fits.1 v i) (d b fits.2 v i)
node_value-same (Resize kind to a) t f g w u v d e fits = λ i. resize_value kind (e a fits.0 i) to (d a fits.0 v i)
node_value-same (ForAll bound body) t f g w u v d e fits =
    λ i. bit (every_tuple bound (λ x. nat_eq (d body fits.0 x i) 1) v)

-- ---- numbers of their widths

pub node_is_width : (n : Node) (t : ℕ) (w : ℕ → ℕ) → NodeFits t w n → ((k : ℕ) → k < t → IsWidth (w k)) → IsWidth (node_width n w)
node_is_width (Const width number) t w fits is = fits.0
node_is_width (Var width id) t w fits is = fits
node_is_width (Select array width index) t w fits is = fits.0
node_is_width (Unary kind a) t w fits is = is a fits
node_is_width (Binary kind a b) t w fits is = binary_is_width kind (w a) (w b) (is a fits.0) fits.2
node_is_width (Choose c a b) t w fits is = is a fits.1
node_is_width (Resize kind to a) t w fits is = resize_is_width kind (w a) to (is a fits.0) fits.1
node_is_width (ForAll bound body) t w fits is = (omega arith, omega arith)

either_below : (b : Bool) (m x y : ℕ) → x < m → y < m → cond b x y < m
either_below true m x y h k = h
either_below false m x y h k = k

pub node_below : (n : Node) (t : ℕ) (f : ℕ → Reading → ℕ) (w : ℕ → ℕ) (v : Reading) → NodeFits t w n → ((k : ℕ) → k < t → IsWidth (w k)) → ((k : ℕ) → k < t → (x : Reading) → f k x < 2 ^ w k) → node_value n f w v < 2 ^ node_width n w
node_below (Const width number) t f w v fits is h = fits.1
node_below (Var width id) t f w v fits is h = mod-lt (v.var id) (pow_pos width)
node_below (Select array width index) t f w v fits is h = mod-lt (v.entry array (f index v)) (pow_pos width)
node_below (Unary kind a) t f w v fits is h = unary_below kind (w a) (f a v) (h a fits v)
node_below (Binary kind a b) t f w v fits is h =
    binary_below kind (w a) (w b) (f a v) (f b v) (is a fits.0) fits.2 (h a fits.0 v) (h b fits.1 v)
node_below (Choose c a b) t f w v fits is h =
    either_below (nat_eq (f c v) 1) (2 ^ w a) (f a v) (f b v) (h a fits.1 v) (subst (λ x. f b v < 2 ^ x) (sym fits.4) (h b fits.2 v))
node_below (Resize kind to a) t f w v fits is h = resize_below kind (w a) to (f a v) fits.1 (h a fits.0 v)
node_below (ForAll bound body) t f w v fits is h = bit_below _

-- the place of the newest node, or an earlier one
newest_or : (k n : ℕ) (A : Type 0) → k < suc n → (nat_eq k n ≡ true → A) → (nat_eq k n ≡ false → k < n → A) → A
newest_or k n A h new old = by (nat_eq k n) refl
  where
    by : (b : Bool) → nat_eq k n ≡ b → A
    by true e = new e
    by false e = let other : k ≡ n → ⊥ = eqb-false k n e in old e (omega arith)

pub is_width_in : (rs : List Node) → AllFitIn rs → (k : ℕ) → k < length rs → IsWidth (width_in rs k)
unfolding AllFitIn width_in
is_width_in [] fit k h = absurd (omega arith)
is_width_in (n ∷ earlier) fit k h =
    newest_or k (length earlier) (IsWidth (width_in (n ∷ earlier) k)) h
    (λ e. subst (λ b. IsWidth (cond b (node_width n (width_in earlier)) (width_in earlier k))) (sym e) (node_is_width n (length earlier) (width_in earlier) fit.0 (is_width_in earlier fit.1)))
    (λ e l. subst (λ b. IsWidth (cond b (node_width n (width_in earlier)) (width_in earlier k))) (sym e) (is_width_in earlier fit.1 k l))

pub below_in : (rs : List Node) → AllFitIn rs → (k : ℕ) → k < length rs → (v : Reading) → value_in rs k v < 2 ^ width_in rs k
unfolding AllFitIn width_in value_in
below_in [] fit k h v = absurd (omega arith)
below_in (n ∷ earlier) fit k h v =
    newest_or k (length earlier) (value_in (n ∷ earlier) k v < 2 ^ width_in (n ∷ earlier) k) h
    (λ e. subst (λ b. cond b (node_value n (value_in earlier) (width_in earlier) v) (value_in earlier k v) < 2 ^ cond b (node_width n (width_in earlier)) (width_in earlier k)) (sym e) (node_below n (length earlier) (value_in earlier) (width_in earlier) v fit.0 (is_width_in earlier fit.1) (below_in earlier fit.1)))
    (λ e l. subst (λ b. cond b (node_value n (value_in earlier) (width_in earlier) v) (value_in earlier k v) < 2 ^ cond b (node_width n (width_in earlier)) (width_in earlier k)) (sym e) (below_in earlier fit.1 k l v))

-- ---- what holds of a term

-- the nodes before and behind a node
pub record Parts (ns : List Node) (t : ℕ) (n : Node) : Type 0 where
  pub older : List Node
  pub later : List Node
  pub is : ns ≡ older ++ n ∷ later
  pub place : length older ≡ t

pub parts : (ns : List Node) (t : ℕ) (n : Node) → slice_get ns t ≡ Some n → Parts ns t n
parts [] t n e = cc
parts (m ∷ ns) zero n e = record { older = []; later = ns; is = cc; place = refl }
parts (m ∷ ns) (suc t) n e =
    let p = parts ns t n e in
    record { older = m ∷ p.older; later = p.later; is = ap (λ l. m ∷ l) p.is; place = ap suc p.place }

pub fit_behind : (later rest : List Node) → AllFitIn (later ++ rest) → AllFitIn rest
unfolding AllFitIn
fit_behind [] rest fit = fit
fit_behind (m ∷ later) rest fit = fit_behind later rest fit.1

reversed : (older : List Node) (n : Node) (later : List Node) → reverse (older ++ n ∷ later) ≡ reverse later ++ n ∷ reverse older
reversed older n later =
    ap reverse (one_by_one older n later) ∙ reverse-append (older ++ n ∷ []) later ∙ ap (λ l. reverse later ++ l) (reverse-push older n)

pub slice_get-seam : {A : Type 0} (xs : List A) (y : A) (ys : List A) → slice_get (xs ++ y ∷ ys) (length xs) ≡ Some y
slice_get-seam [] y ys = refl
slice_get-seam (x ∷ xs) y ys = slice_get-seam xs y ys

behind : (older : List Node) (n : Node) → length older < length (older ++ n ∷ [])
behind older n = omega (arith, length-append older (n ∷ []))

pub holds_at : (older : List Node) (n : Node) (later : List Node) → AllFitIn (reverse (older ++ n ∷ later)) → Holds (older ++ n ∷ later) (length older) n
unfolding AllFitIn
holds_at older n later fit =
    let all : List Node = older ++ n ∷ later in
    let t : ℕ = length older in
    let here : AllFitIn (n ∷ reverse older) = fit_behind (reverse later) (n ∷ reverse older) (subst AllFitIn (reversed older n later) fit) in
    let fits : NodeFits t (width older) n = subst (λ k. NodeFits k (width older) n) (length-reverse older) here.0 in
    let widths : (k : ℕ) → k < t → width older k ≡ width all k = λ k h. sym (width-grows older (n ∷ later) k h) in
    let values : (k : ℕ) → k < t → (x : Reading) → value older k x ≡ value all k x = λ k h x. sym (value-grows older (n ∷ later) k x h) in
    let within : t < length all = omega (arith, length-append older (n ∷ later)) in
    let within_reverse : t < length (reverse all) = omega (arith, length-reverse all) in
    record {
      within = within;
      at = slice_get-seam older n later;
      fits = NodeFits-same n t (width older) (width all) widths fits;
      value_is = λ v.
          ap (λ l. value l t v) (one_by_one older n later) ∙ value-grows (older ++ n ∷ []) later t v (behind older n) ∙ value-new older n v
          ∙ node_value-same n t (value older) (value all) (width older) (width all) v values widths fits;
      width_is =
          ap (λ l. width l t) (one_by_one older n later) ∙ width-grows (older ++ n ∷ []) later t (behind older n) ∙ width-new older n
          ∙ node_width-same n t (width older) (width all) widths fits;
      is_width = is_width_in (reverse all) fit t within_reverse;
      below = λ v. below_in (reverse all) fit t within_reverse v;
    }

pub holds : (ns : List Node) (t : ℕ) (n : Node) → AllFitIn (reverse ns) → slice_get ns t ≡ Some n → Holds ns t n
holds ns t n fit at =
    let p = parts ns t n at in
    subst (λ k. Holds ns k n) p.place
    (subst (λ l. Holds l (length p.older) n) (sym p.is) (holds_at p.older n p.later (subst (λ l. AllFitIn (reverse l)) p.is fit)))
