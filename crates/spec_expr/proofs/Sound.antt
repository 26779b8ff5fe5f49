-- What the parts of the reading give is spelled there.
use Rattle.std.proofs.Common.{◌≡◌, ℕ, zero, suc, ◌≤◌, max, Bool, true, false, List, [], ◌∷◌, ◌++◌, length, refl, ap, sym, subst, ◌∙◌, append_assoc, arith}
use Rattle.std.specs.Prelude.{Option, Some, None, codes, bytes_eq, if◌then◌else◌}
use Rattle.spec_ast.specs.declared.kind.BinKind.{BinKind}
use Rattle.spec_ast.specs.declared.raw.RawResize.TheVariants.{ZeroExt, SignExt, Extract}
use Rattle.spec_ast.specs.Raw.{Tree, binary, Trees, no_trees, tree_and}
use Rattle.spec_ast.specs.Depth.{depth, depths}
use Rattle.spec_expr.specs.Words.{Text, is_name, number_of}
use Rattle.spec_expr.specs.Spelling.{looseness, AreMoreNames, AreNames, Head, negation, resized, each_of, some_of, SpellsBound, SpellsHead, head_word, SpellsBare, SpellsArguments, SpellsMore, SpellsAt}
use Rattle.spec_expr.specs.Grown.{Grown, bounded, limited, limited_list}
use Rattle.spec_expr.specs.Reading.{Reader, after, past, number_at, number_comma_at, name_at, more_names_at, names_at, bound_at, HeadKind, negated, widened, sign_widened, cut, every, any, head_at, both_deeper, grown_binary, grown_and, closed_at, more_at, arguments_at}
use Rattle.spec_expr.proofs.Parts.{same_text, same, after_is, past_is, with_rest_is}
use Rattle.spec_expr.proofs.GrownLaws.{bounded_join}

pub record FoundAt (most place : ℕ) (ts : List Text) (g : Grown Tree) (rest : List Text) : Type 0 where
  pub e : Tree
  pub front : List Text
  pub spelled : SpellsAt place e front
  pub parts : ts ≡ front ++ rest
  pub grown : g ≡ limited most e

abbrev pub IsSound : ℕ → ℕ → Reader (Grown Tree) → Type 0
IsSound most place p = (ts : List Text) (g : Grown Tree) (rest : List Text) → p ts ≡ Some (g, rest) → FoundAt most place ts g rest

-- what is spelled without parentheses, at a place that takes it
pub bare : (place : ℕ) (e : Tree) (front : List Text) → looseness e ≤ place → SpellsBare e front → SpellsAt place e front
bare place e front fits spelled = record { count = 0; wrapped = spelled; fits = λ _. fits }

-- words that stand one behind the other
pub chained : (ts a r b rest : List Text) → ts ≡ a ++ r → r ≡ b ++ rest → ts ≡ (a ++ b) ++ rest
chained ts a r b rest first second = first ∙ ap (λ s. a ++ s) second ∙ sym (append_assoc a b rest)

pub chained_to : (ts a r b s rest : List Text) → ts ≡ a ++ r → r ≡ b ++ s → s ≡ rest → ts ≡ (a ++ b) ++ rest
chained_to ts a r b s rest first second last = chained ts a r b rest first (second ∙ ap (λ u. b ++ u) last)

-- an expression with the word that closes it
pub record ClosedBy (most : ℕ) (close : Text) (ts : List Text) (g : Grown Tree) (rest : List Text) : Type 0 where
  pub e : Tree
  pub front : List Text
  pub spelled : SpellsAt 7 e front
  pub parts : ts ≡ (front ++ close ∷ []) ++ rest
  pub grown : g ≡ limited most e

pub closed_sound : (most : ℕ) (inner : Reader (Grown Tree)) → IsSound most 7 inner → (close : Text) (ts : List Text) (g : Grown Tree) (rest : List Text) →
    closed_at inner close ts ≡ Some (g, rest) → ClosedBy most close ts g rest
closed_sound most inner sound close ts g rest h =
    let a = after_is {A = Grown Tree} {B = Grown Tree} (inner ts) (λ e r. past close r (λ r. Some (e, r))) (g, rest) h in
    let p = past_is {B = Grown Tree × List Text} close a.rest (λ r. Some (a.value, r)) (g, rest) a.on_is in
    let s = same a.value g p.rest rest p.on_is in
    let f = sound ts a.value a.rest a.read in
    record {
      e = f.e;
      front = f.front;
      spelled = f.spelled;
      parts = chained_to ts f.front a.rest (close ∷ []) p.rest rest f.parts p.parts s.rest;
      grown = sym s.value ∙ f.grown;
    }

pub and_limited : (most : ℕ) (e : Tree) (es : Trees) → grown_and most (limited most e) (limited_list most es) ≡ limited_list most (tree_and e es)
and_limited most e es = bounded_join most tree_and max e (depth e) es (depths es) (omega arith) (omega arith)

pub binary_limited : (most : ℕ) (kind : BinKind) (a b : Tree) → grown_binary most kind (limited most a) (limited most b) ≡ limited most (binary kind a b)
binary_limited most kind a b = bounded_join most (binary kind) both_deeper a (depth a) b (depth b) (omega arith) (omega arith)

-- further expressions
record FoundMore (most : ℕ) (close : Text) (ts : List Text) (g : Grown Trees) (rest : List Text) : Type 0 where
  es : Trees
  front : List Text
  spelled : SpellsMore close es front
  parts : ts ≡ front ++ rest
  grown : g ≡ limited_list most es

more_by : (most : ℕ) (inner : Reader (Grown Tree)) → IsSound most 7 inner → (close : Text) (m : ℕ) (t : Text) (ts : List Text) (g : Grown Trees) (rest : List Text) (b c : Bool) →
    bytes_eq t close ≡ b → bytes_eq t (codes ",") ≡ c →
    ((us : List Text) (k : Grown Trees) (r : List Text) → more_at most inner close m us ≡ Some (k, r) → FoundMore most close us k r) →
    (if b then Some (bounded most no_trees 0, ts) else (if c then after (inner ts) (λ e r. after (more_at most inner close m r) (λ es r. Some (grown_and most e es, r))) else None)) ≡ Some (g, rest) →
    FoundMore most close (t ∷ ts) g rest
more_by most inner sound close m t ts g rest true c e1 e2 others h =
    let s = same (bounded most no_trees 0) g ts rest h in
    record { es = no_trees; front = close ∷ []; spelled = refl; parts = ap (λ w. w ∷ ts) (same_text t close e1) ∙ ap (λ r. close ∷ r) s.rest; grown = sym s.value }
more_by most inner sound close m t ts g rest false true e1 e2 others h =
    let a = after_is {A = Grown Tree} {B = Grown Trees} (inner ts) (λ e r. after (more_at most inner close m r) (λ es r. Some (grown_and most e es, r))) (g, rest) h in
    let f = sound ts a.value a.rest a.read in
    let b = after_is {A = Grown Trees} {B = Grown Trees} (more_at most inner close m a.rest) (λ es r. Some (grown_and most a.value es, r)) (g, rest) a.on_is in
    let fs = others a.rest b.value b.rest b.read in
    let s = same (grown_and most a.value b.value) g b.rest rest b.on_is in
    record {
      es = tree_and f.e fs.es;
      front = codes "," ∷ (f.front ++ fs.front);
      spelled = (f.front, fs.front, f.spelled, fs.spelled, refl);
      parts = ap (λ w. w ∷ ts) (same_text t (codes ",") e2) ∙ ap (λ r. codes "," ∷ r) (chained_to ts f.front a.rest fs.front b.rest rest f.parts fs.parts s.rest);
      grown = sym s.value ∙ ap (λ k. grown_and most k b.value) f.grown ∙ ap (grown_and most (limited most f.e)) fs.grown ∙ and_limited most f.e fs.es;
    }
more_by most inner sound close m t ts g rest false false e1 e2 others h = absurd cc

more_sound : (most : ℕ) (inner : Reader (Grown Tree)) → IsSound most 7 inner → (close : Text) (m : ℕ) (ts : List Text) (g : Grown Trees) (rest : List Text) →
    more_at most inner close m ts ≡ Some (g, rest) → FoundMore most close ts g rest
more_sound most inner sound close zero ts g rest h = absurd cc
more_sound most inner sound close (suc m) [] g rest h = absurd cc
more_sound most inner sound close (suc m) (t ∷ ts) g rest h =
    more_by most inner sound close m t ts g rest (bytes_eq t close) (bytes_eq t (codes ",")) refl refl (λ us k r read. more_sound most inner sound close m us k r read) h

-- one expression and further ones
pub record FoundArguments (most : ℕ) (close : Text) (ts : List Text) (g : Grown Trees) (rest : List Text) : Type 0 where
  pub es : Trees
  pub front : List Text
  pub spelled : SpellsArguments close es front
  pub parts : ts ≡ front ++ rest
  pub grown : g ≡ limited_list most es

pub arguments_sound : (most : ℕ) (inner : Reader (Grown Tree)) → IsSound most 7 inner → (close : Text) (ts : List Text) (g : Grown Trees) (rest : List Text) →
    arguments_at most inner close ts ≡ Some (g, rest) → FoundArguments most close ts g rest
arguments_sound most inner sound close ts g rest h =
    let a = after_is {A = Grown Tree} {B = Grown Trees} (inner ts) (λ e r. after (more_at most inner close (length r) r) (λ es r. Some (grown_and most e es, r))) (g, rest) h in
    let f = sound ts a.value a.rest a.read in
    let b = after_is {A = Grown Trees} {B = Grown Trees} (more_at most inner close (length a.rest) a.rest) (λ es r. Some (grown_and most a.value es, r)) (g, rest) a.on_is in
    let fs = more_sound most inner sound close (length a.rest) a.rest b.value b.rest b.read in
    let s = same (grown_and most a.value b.value) g b.rest rest b.on_is in
    record {
      es = tree_and f.e fs.es;
      front = f.front ++ fs.front;
      spelled = (f.front, fs.front, f.spelled, fs.spelled, refl);
      parts = chained_to ts f.front a.rest fs.front b.rest rest f.parts fs.parts s.rest;
      grown = sym s.value ∙ ap (λ k. grown_and most k b.value) f.grown ∙ ap (grown_and most (limited most f.e)) fs.grown ∙ and_limited most f.e fs.es;
    }

-- numbers, names and what stands before the one argument of a call
pub record FoundNumber (ts : List Text) (n : ℕ) (rest : List Text) : Type 0 where
  pub text : Text
  pub value : number_of text ≡ Some n
  pub parts : ts ≡ text ∷ rest

pub number_sound : (ts : List Text) (n : ℕ) (rest : List Text) → number_at ts ≡ Some (n, rest) → FoundNumber ts n rest
number_sound [] n rest h = absurd cc
number_sound (t ∷ ts) n rest h = let w = with_rest_is (number_of t) ts n rest h in record { text = t; value = w.value; parts = ap (λ r. t ∷ r) w.whole }

pub record FoundNumberComma (ts : List Text) (n : ℕ) (rest : List Text) : Type 0 where
  pub text : Text
  pub value : number_of text ≡ Some n
  pub parts : ts ≡ text ∷ codes "," ∷ rest

pub number_comma_sound : (ts : List Text) (n : ℕ) (rest : List Text) → number_comma_at ts ≡ Some (n, rest) → FoundNumberComma ts n rest
number_comma_sound ts n rest h =
    let a = after_is {A = ℕ} {B = ℕ} (number_at ts) (λ n r. past (codes ",") r (λ r. Some (n, r))) (n, rest) h in
    let f = number_sound ts a.value a.rest a.read in
    let p = past_is {B = ℕ × List Text} (codes ",") a.rest (λ r. Some (a.value, r)) (n, rest) a.on_is in
    let s = same a.value n p.rest rest p.on_is in
    record { text = f.text; value = f.value ∙ ap Some s.value; parts = f.parts ∙ ap (λ r. f.text ∷ r) (p.parts ∙ ap (λ r. codes "," ∷ r) s.rest) }

pub record FoundName (ts : List Text) (x : Text) (rest : List Text) : Type 0 where
  pub name : is_name x ≡ true
  pub parts : ts ≡ x ∷ rest

name_by : (t : Text) (ts : List Text) (x : Text) (rest : List Text) (b : Bool) → is_name t ≡ b → ◌≡◌ {A = Option (Text × List Text)} (if b then Some (t, ts) else None) (Some (x, rest)) → FoundName (t ∷ ts) x rest
name_by t ts x rest true e h = let s = same t x ts rest h in record { name = subst (λ w. is_name w ≡ true) s.value e; parts = ap (λ w. w ∷ ts) s.value ∙ ap (λ r. x ∷ r) s.rest }
name_by t ts x rest false e h = absurd cc

pub name_sound : (ts : List Text) (x : Text) (rest : List Text) → name_at ts ≡ Some (x, rest) → FoundName ts x rest
name_sound [] x rest h = absurd cc
name_sound (t ∷ ts) x rest h = name_by t ts x rest (is_name t) refl h

record FoundMoreNames (ts : List Text) (xs : List Text) (rest : List Text) : Type 0 where
  front : List Text
  spelled : AreMoreNames xs front
  parts : ts ≡ front ++ rest

more_names_by : (m : ℕ) (t : Text) (ts xs rest : List Text) (b c : Bool) → bytes_eq t (codes "]") ≡ b → bytes_eq t (codes ",") ≡ c →
    ((us ys r : List Text) → more_names_at m us ≡ Some (ys, r) → FoundMoreNames us ys r) →
    ◌≡◌ {A = Option (List Text × List Text)} (if b then Some ([], ts) else (if c then after (name_at ts) (λ x r. after (more_names_at m r) (λ xs r. Some (x ∷ xs, r))) else None)) (Some (xs, rest)) →
    FoundMoreNames (t ∷ ts) xs rest
more_names_by m t ts xs rest true c e1 e2 others h =
    let s = same [] xs ts rest h in
    record { front = codes "]" ∷ []; spelled = subst (λ ys. AreMoreNames ys (codes "]" ∷ [])) s.value refl; parts = ap (λ w. w ∷ ts) (same_text t (codes "]") e1) ∙ ap (λ r. codes "]" ∷ r) s.rest }
more_names_by m t ts xs rest false true e1 e2 others h =
    let a = after_is {A = Text} {B = List Text} (name_at ts) (λ x r. after (more_names_at m r) (λ xs r. Some (x ∷ xs, r))) (xs, rest) h in
    let f = name_sound ts a.value a.rest a.read in
    let b = after_is {A = List Text} {B = List Text} (more_names_at m a.rest) (λ xs r. Some (a.value ∷ xs, r)) (xs, rest) a.on_is in
    let fs = others a.rest b.value b.rest b.read in
    let s = same (a.value ∷ b.value) xs b.rest rest b.on_is in
    let front : List Text = codes "," ∷ a.value ∷ fs.front in
    let spelled : AreMoreNames (a.value ∷ b.value) front = (fs.front, f.name, fs.spelled, refl) in
    record {
      front = front;
      spelled = subst (λ ys. AreMoreNames ys front) s.value spelled;
      parts = ap (λ w. w ∷ ts) (same_text t (codes ",") e2) ∙ ap (λ r. codes "," ∷ r) (f.parts ∙ ap (λ r. a.value ∷ r) (fs.parts ∙ ap (λ r. fs.front ++ r) s.rest));
    }
more_names_by m t ts xs rest false false e1 e2 others h = absurd cc

more_names_sound : (m : ℕ) (ts xs rest : List Text) → more_names_at m ts ≡ Some (xs, rest) → FoundMoreNames ts xs rest
more_names_sound zero ts xs rest h = absurd cc
more_names_sound (suc m) [] xs rest h = absurd cc
more_names_sound (suc m) (t ∷ ts) xs rest h =
    more_names_by m t ts xs rest (bytes_eq t (codes "]")) (bytes_eq t (codes ",")) refl refl (λ us ys r read. more_names_sound m us ys r read) h

record FoundBound (ts xs rest : List Text) : Type 0 where
  front : List Text
  spelled : SpellsBound xs front
  parts : ts ≡ front ++ rest

bound_sound : (ts xs rest : List Text) → bound_at ts ≡ Some (xs, rest) → FoundBound ts xs rest
bound_sound ts xs rest h =
    let p = past_is {B = List Text × List Text} (codes "[") ts (λ r. after (names_at r) (λ xs r. past (codes ",") r (λ r. Some (xs, r)))) (xs, rest) h in
    let a = after_is {A = List Text} {B = List Text} (names_at p.rest) (λ xs r. past (codes ",") r (λ r. Some (xs, r))) (xs, rest) p.on_is in
    let q = past_is {B = List Text × List Text} (codes ",") a.rest (λ r. Some (a.value, r)) (xs, rest) a.on_is in
    let s = same a.value xs q.rest rest q.on_is in
    let n = after_is {A = Text} {B = List Text} (name_at p.rest) (λ x r. after (more_names_at (length r) r) (λ xs r. Some (x ∷ xs, r))) (a.value, a.rest) a.read in
    let f = name_sound p.rest n.value n.rest n.read in
    let b = after_is {A = List Text} {B = List Text} (more_names_at (length n.rest) n.rest) (λ xs r. Some (n.value ∷ xs, r)) (a.value, a.rest) n.on_is in
    let fs = more_names_sound (length n.rest) n.rest b.value b.rest b.read in
    let v = same (n.value ∷ b.value) a.value b.rest a.rest b.on_is in
    let names : List Text = n.value ∷ fs.front in
    let are : AreNames (n.value ∷ b.value) names = (fs.front, f.name, fs.spelled, refl) in
    let spelled : SpellsBound xs (codes "[" ∷ (names ++ codes "," ∷ [])) = (names, subst (λ ys. AreNames ys names) (v.value ∙ s.value) are, refl) in
    let named : p.rest ≡ names ++ a.rest = f.parts ∙ ap (λ r. n.value ∷ r) (fs.parts ∙ ap (λ r. fs.front ++ r) v.rest) in
    record {
      front = codes "[" ∷ (names ++ codes "," ∷ []);
      spelled = spelled;
      parts = p.parts ∙ ap (λ r. codes "[" ∷ r) (chained_to p.rest names a.rest (codes "," ∷ []) q.rest rest named q.parts s.rest);
    }

abbrev pub kind_word : HeadKind → Text
kind_word negated = codes "Not"
kind_word widened = codes "ZeroExt"
kind_word sign_widened = codes "SignExt"
kind_word cut = codes "Extract"
kind_word every = codes "ForAll"
kind_word any = codes "Exists"

pub record FoundHead (kind : HeadKind) (ts : List Text) (head : Head) (rest : List Text) : Type 0 where
  pub front : List Text
  pub spelled : SpellsHead head front
  pub parts : ts ≡ front ++ rest
  pub word : head_word head ≡ kind_word kind

pub head_sound : (kind : HeadKind) (ts : List Text) (head : Head) (rest : List Text) → head_at kind ts ≡ Some (head, rest) → FoundHead kind ts head rest
head_sound negated ts head rest h =
    let s = same negation head ts rest h in
    record { front = []; spelled = subst (λ d. SpellsHead d []) s.value refl; parts = s.rest; word = ap head_word (sym s.value) }
head_sound widened ts head rest h =
    let a = after_is {A = ℕ} {B = Head} (number_comma_at ts) (λ n r. Some (resized (ZeroExt n), r)) (head, rest) h in
    let f = number_comma_sound ts a.value a.rest a.read in
    let s = same (resized (ZeroExt a.value)) head a.rest rest a.on_is in
    let front : List Text = f.text ∷ codes "," ∷ [] in
    let spelled : SpellsHead (resized (ZeroExt a.value)) front = (f.text, f.value, refl) in
    record { front = front; spelled = subst (λ d. SpellsHead d front) s.value spelled; parts = f.parts ∙ ap (λ r. f.text ∷ codes "," ∷ r) s.rest; word = ap head_word (sym s.value) }
head_sound sign_widened ts head rest h =
    let a = after_is {A = ℕ} {B = Head} (number_comma_at ts) (λ n r. Some (resized (SignExt n), r)) (head, rest) h in
    let f = number_comma_sound ts a.value a.rest a.read in
    let s = same (resized (SignExt a.value)) head a.rest rest a.on_is in
    let front : List Text = f.text ∷ codes "," ∷ [] in
    let spelled : SpellsHead (resized (SignExt a.value)) front = (f.text, f.value, refl) in
    record { front = front; spelled = subst (λ d. SpellsHead d front) s.value spelled; parts = f.parts ∙ ap (λ r. f.text ∷ codes "," ∷ r) s.rest; word = ap head_word (sym s.value) }
head_sound cut ts head rest h =
    let a = after_is {A = ℕ} {B = Head} (number_comma_at ts) (λ high r. after (number_comma_at r) (λ low r. Some (resized (Extract high low), r))) (head, rest) h in
    let f = number_comma_sound ts a.value a.rest a.read in
    let b = after_is {A = ℕ} {B = Head} (number_comma_at a.rest) (λ low r. Some (resized (Extract a.value low), r)) (head, rest) a.on_is in
    let u = number_comma_sound a.rest b.value b.rest b.read in
    let s = same (resized (Extract a.value b.value)) head b.rest rest b.on_is in
    let front : List Text = f.text ∷ codes "," ∷ u.text ∷ codes "," ∷ [] in
    let spelled : SpellsHead (resized (Extract a.value b.value)) front = (f.text, u.text, f.value, u.value, refl) in
    record {
      front = front;
      spelled = subst (λ d. SpellsHead d front) s.value spelled;
      parts = f.parts ∙ ap (λ r. f.text ∷ codes "," ∷ r) (u.parts ∙ ap (λ r. u.text ∷ codes "," ∷ r) s.rest);
      word = ap head_word (sym s.value);
    }
head_sound every ts head rest h =
    let a = after_is {A = List Text} {B = Head} (bound_at ts) (λ xs r. Some (each_of xs, r)) (head, rest) h in
    let f = bound_sound ts a.value a.rest a.read in
    let s = same (each_of a.value) head a.rest rest a.on_is in
    record { front = f.front; spelled = subst (λ d. SpellsHead d f.front) s.value f.spelled; parts = f.parts ∙ ap (λ r. f.front ++ r) s.rest; word = ap head_word (sym s.value) }
head_sound any ts head rest h =
    let a = after_is {A = List Text} {B = Head} (bound_at ts) (λ xs r. Some (some_of xs, r)) (head, rest) h in
    let f = bound_sound ts a.value a.rest a.read in
    let s = same (some_of a.value) head a.rest rest a.on_is in
    record { front = f.front; spelled = subst (λ d. SpellsHead d f.front) s.value f.spelled; parts = f.parts ∙ ap (λ r. f.front ++ r) s.rest; word = ap head_word (sym s.value) }
