-- What the reading of a primary gives is spelled there.
use Rattle.std.proofs.Common.{◌≡◌, ℕ, zero, suc, ◌≤◌, max, Bool, true, false, List, [], ◌∷◌, ◌++◌, refl, ap, sym, subst, ◌∙◌, append_assoc, arith}
use Rattle.std.specs.Prelude.{Option, Some, codes, bytes_eq, if◌then◌else◌}
use Rattle.spec_ast.specs.declared.kind.UnKind.TheVariants.{Not}
use Rattle.spec_ast.specs.declared.kind.BinKind.{BinKind}
use Rattle.spec_ast.specs.Raw.{Tree, unary, binary, all_of, any_of, choose, resize, sized, for_all, exists, Trees, element, member, Steps, no_steps, step_and}
use Rattle.spec_ast.specs.Depth.{depth, depths, step_depths}
use Rattle.spec_expr.specs.Words.{Text, member_of}
use Rattle.spec_expr.specs.Spelling.{called, form_of, form_looseness, looseness, AreJoined, IsCalled, Head, negation, resized, each_of, some_of, head_word, SpellsBare, SpellsSteps, SpellsAt}
use Rattle.spec_expr.specs.Grown.{Grown, bounded, lift, join, limited, limited_steps}
use Rattle.spec_expr.specs.Reading.{Reader, after, past, number_at, number_comma_at, member_at, head_at, headed_tree, CallKind, conjunction, disjunction, pair, choice, fixed, headed, calls, one_deeper, grown_binary, grown_choice, leaf, closed_at, arguments_at, steps_at, call_at}
use Rattle.spec_expr.proofs.Parts.{same_text, same, after_is, past_is, with_rest_is, EachEntry}
use Rattle.spec_expr.proofs.GrownLaws.{bounded_lift, bounded_join, limited_choice}
use Rattle.spec_expr.proofs.Sound.{FoundAt, IsSound, bare, chained_to, closed_sound, binary_limited, arguments_sound, number_sound, number_comma_sound, kind_word, head_sound}

pub record FoundSteps (most : ℕ) (ts : List Text) (g : Grown Steps) (rest : List Text) : Type 0 where
  pub ss : Steps
  pub front : List Text
  pub spelled : SpellsSteps ss front
  pub parts : ts ≡ front ++ rest
  pub grown : g ≡ limited_steps most ss

pub element_limited : (most : ℕ) (e : Tree) (ss : Steps) → join most (λ x xs. step_and (element x) xs) max (limited most e) (limited_steps most ss) ≡ limited_steps most (step_and (element e) ss)
element_limited most e ss = bounded_join most (λ (x : Tree) (xs : Steps). step_and (element x) xs) max e (depth e) ss (step_depths ss) (omega arith) (omega arith)

pub member_limited : (most k : ℕ) (ss : Steps) → lift most (step_and (member k)) (max 0) (limited_steps most ss) ≡ limited_steps most (step_and (member k) ss)
member_limited most k ss = bounded_lift most (step_and (member k)) (max 0) ss (step_depths ss) (omega arith)

no_more_steps : (most : ℕ) (ts : List Text) (g : Grown Steps) (rest : List Text) → ◌≡◌ {A = Option (Grown Steps × List Text)} (Some (bounded most no_steps 0, ts)) (Some (g, rest)) → FoundSteps most ts g rest
no_more_steps most ts g rest h = let s = same (bounded most no_steps 0) g ts rest h in record { ss = no_steps; front = []; spelled = refl; parts = s.rest; grown = sym s.value }

record FoundMember (ts : List Text) (k : ℕ) (rest : List Text) : Type 0 where
  text : Text
  value : member_of text ≡ Some k
  parts : ts ≡ text ∷ rest

member_sound : (ts : List Text) (k : ℕ) (rest : List Text) → member_at ts ≡ Some (k, rest) → FoundMember ts k rest
member_sound [] k rest h = absurd cc
member_sound (t ∷ ts) k rest h = let w = with_rest_is (member_of t) ts k rest h in record { text = t; value = w.value; parts = ap (λ r. t ∷ r) w.whole }

steps_by : (most : ℕ) (inner : Reader (Grown Tree)) → IsSound most 7 inner → (m : ℕ) (t : Text) (ts : List Text) (g : Grown Steps) (rest : List Text) (b c : Bool) →
    bytes_eq t (codes "[") ≡ b → bytes_eq t (codes ".") ≡ c →
    ((us : List Text) (k : Grown Steps) (r : List Text) → steps_at most inner m us ≡ Some (k, r) → FoundSteps most us k r) →
    ◌≡◌ {A = Option (Grown Steps × List Text)}
    (if b then after (closed_at inner (codes "]") ts) (λ e r. after (steps_at most inner m r) (λ ss r. Some (join most (λ x xs. step_and (element x) xs) max e ss, r)))
    else (if c then after (member_at ts) (λ k r. after (steps_at most inner m r) (λ ss r. Some (lift most (step_and (member k)) (max 0) ss, r)))
    else Some (bounded most no_steps 0, t ∷ ts))) (Some (g, rest)) →
    FoundSteps most (t ∷ ts) g rest
steps_by most inner sound m t ts g rest true c e1 e2 others h =
    let a = after_is {A = Grown Tree} {B = Grown Steps} (closed_at inner (codes "]") ts) (λ e r. after (steps_at most inner m r) (λ ss r. Some (join most (λ x xs. step_and (element x) xs) max e ss, r))) (g, rest) h in
    let f = closed_sound most inner sound (codes "]") ts a.value a.rest a.read in
    let b = after_is {A = Grown Steps} {B = Grown Steps} (steps_at most inner m a.rest) (λ ss r. Some (join most (λ x xs. step_and (element x) xs) max a.value ss, r)) (g, rest) a.on_is in
    let fs = others a.rest b.value b.rest b.read in
    let s = same (join most (λ x xs. step_and (element x) xs) max a.value b.value) g b.rest rest b.on_is in
    let first : List Text = codes "[" ∷ (f.front ++ codes "]" ∷ []) in
    record {
      ss = step_and (element f.e) fs.ss;
      front = first ++ fs.front;
      spelled = (first, fs.front, (f.front, f.spelled, refl), fs.spelled, refl);
      parts = chained_to (t ∷ ts) first a.rest fs.front b.rest rest (ap (λ w. w ∷ ts) (same_text t (codes "[") e1) ∙ ap (λ r. codes "[" ∷ r) f.parts) fs.parts s.rest;
      grown = sym s.value ∙ ap (λ k. join most (λ x xs. step_and (element x) xs) max k b.value) f.grown ∙ ap (join most (λ x xs. step_and (element x) xs) max (limited most f.e)) fs.grown ∙ element_limited most f.e fs.ss;
    }
steps_by most inner sound m t ts g rest false true e1 e2 others h =
    let a = after_is {A = ℕ} {B = Grown Steps} (member_at ts) (λ k r. after (steps_at most inner m r) (λ ss r. Some (lift most (step_and (member k)) (max 0) ss, r))) (g, rest) h in
    let f = member_sound ts a.value a.rest a.read in
    let b = after_is {A = Grown Steps} {B = Grown Steps} (steps_at most inner m a.rest) (λ ss r. Some (lift most (step_and (member a.value)) (max 0) ss, r)) (g, rest) a.on_is in
    let fs = others a.rest b.value b.rest b.read in
    let s = same (lift most (step_and (member a.value)) (max 0) b.value) g b.rest rest b.on_is in
    let first : List Text = codes "." ∷ f.text ∷ [] in
    record {
      ss = step_and (member a.value) fs.ss;
      front = first ++ fs.front;
      spelled = (first, fs.front, (f.text, f.value, refl), fs.spelled, refl);
      parts = chained_to (t ∷ ts) first a.rest fs.front b.rest rest (ap (λ w. w ∷ ts) (same_text t (codes ".") e2) ∙ ap (λ r. codes "." ∷ r) f.parts) fs.parts s.rest;
      grown = sym s.value ∙ ap (lift most (step_and (member a.value)) (max 0)) fs.grown ∙ member_limited most a.value fs.ss;
    }
steps_by most inner sound m t ts g rest false false e1 e2 others h = no_more_steps most (t ∷ ts) g rest h

pub steps_sound : (most : ℕ) (inner : Reader (Grown Tree)) → IsSound most 7 inner → (m : ℕ) (ts : List Text) (g : Grown Steps) (rest : List Text) →
    steps_at most inner m ts ≡ Some (g, rest) → FoundSteps most ts g rest
steps_sound most inner sound zero ts g rest h = no_more_steps most ts g rest h
steps_sound most inner sound (suc m) [] g rest h = no_more_steps most [] g rest h
steps_sound most inner sound (suc m) (t ∷ ts) g rest h =
    steps_by most inner sound m t ts g rest (bytes_eq t (codes "[")) (bytes_eq t (codes ".")) refl refl (λ us k r read. steps_sound most inner sound m us k r read) h

-- what the word of a call says of its kind
abbrev pub IsCallWord : Text → CallKind → Type 0
IsCallWord t conjunction = t ≡ codes "And"
IsCallWord t disjunction = t ≡ codes "Or"
IsCallWord t (pair kind) = form_of kind ≡ called t
IsCallWord t choice = t ≡ codes "If"
IsCallWord t fixed = t ≡ codes "BitVecVal"
IsCallWord t (headed kind) = t ≡ kind_word kind

pub each_call : EachEntry IsCallWord calls
each_call = (refl, (refl, (refl, (refl, (refl, (refl, (refl, (refl, (refl, (refl, (refl, (refl, (refl, (refl, (refl, (refl, (refl, (refl, tt))))))))))))))))))

pub headed_spelled : (head : Head) (e : Tree) (ts : List Text) → IsCalled head (SpellsAt 7 e) ts → SpellsBare (headed_tree head e) ts
headed_spelled negation e ts h = h
headed_spelled (resized kind) e ts h = h
headed_spelled (each_of xs) e ts h = h
headed_spelled (some_of xs) e ts h = h

pub headed_tight : (head : Head) (e : Tree) → looseness (headed_tree head e) ≤ 0
headed_tight negation e = omega arith
headed_tight (resized kind) e = omega arith
headed_tight (each_of xs) e = omega arith
headed_tight (some_of xs) e = omega arith

pub headed_limited : (most : ℕ) (head : Head) (e : Tree) → lift most (headed_tree head) one_deeper (limited most e) ≡ limited most (headed_tree head e)
headed_limited most negation e = bounded_lift most (unary Not) one_deeper e (depth e) (omega arith)
headed_limited most (resized kind) e = bounded_lift most (resize kind) one_deeper e (depth e) (omega arith)
headed_limited most (each_of xs) e = bounded_lift most (for_all xs) one_deeper e (depth e) (omega arith)
headed_limited most (some_of xs) e = bounded_lift most (exists xs) one_deeper e (depth e) (omega arith)

pub pair_tight : (kind : BinKind) (a b : Tree) (t : Text) → form_of kind ≡ called t → looseness (binary kind a b) ≤ 0
pair_tight kind a b t form = let e : form_looseness (form_of kind) ≡ 0 = ap form_looseness form in omega (arith, e)

two_front : (word : Text) (ts a b rest r : List Text) → ts ≡ (a ++ codes "," ∷ []) ++ r → r ≡ (b ++ codes ")" ∷ []) ++ rest →
    word ∷ codes "(" ∷ ts ≡ (word ∷ codes "(" ∷ (a ++ codes "," ∷ (b ++ codes ")" ∷ []))) ++ rest
two_front word ts a b rest r first second =
    ap (λ u. word ∷ codes "(" ∷ u) (first ∙ append_assoc a (codes "," ∷ []) r ∙ ap (λ u. a ++ codes "," ∷ u) second ∙ sym (append_assoc a (codes "," ∷ (b ++ codes ")" ∷ [])) rest))

three_front : (word : Text) (ts c a b rest r u : List Text) → ts ≡ (c ++ codes "," ∷ []) ++ r → r ≡ (a ++ codes "," ∷ []) ++ u → u ≡ (b ++ codes ")" ∷ []) ++ rest →
    word ∷ codes "(" ∷ ts ≡ (word ∷ codes "(" ∷ (c ++ codes "," ∷ (a ++ codes "," ∷ (b ++ codes ")" ∷ [])))) ++ rest
three_front word ts c a b rest r u first second third =
    let inner : r ≡ (a ++ codes "," ∷ (b ++ codes ")" ∷ [])) ++ rest =
    second ∙ append_assoc a (codes "," ∷ []) u ∙ ap (λ v. a ++ codes "," ∷ v) third ∙ sym (append_assoc a (codes "," ∷ (b ++ codes ")" ∷ [])) rest) in
    ap (λ v. word ∷ codes "(" ∷ v) (first ∙ append_assoc c (codes "," ∷ []) r ∙ ap (λ v. c ++ codes "," ∷ v) inner ∙ sym (append_assoc c (codes "," ∷ (a ++ codes "," ∷ (b ++ codes ")" ∷ []))) rest))

pub call_sound : (most : ℕ) (inner : Reader (Grown Tree)) → IsSound most 7 inner → (kind : CallKind) (word : Text) → IsCallWord word kind → (ts : List Text) (g : Grown Tree) (rest : List Text) →
    call_at most inner (Some kind) ts ≡ Some (g, rest) → FoundAt most 0 (word ∷ codes "(" ∷ ts) g rest
call_sound most inner sound conjunction word is ts g rest h =
    let a = after_is {A = Grown Trees} {B = Grown Tree} (arguments_at most inner (codes ")") ts) (λ es r. Some (lift most all_of one_deeper es, r)) (g, rest) h in
    let f = arguments_sound most inner sound (codes ")") ts a.value a.rest a.read in
    let s = same (lift most all_of one_deeper a.value) g a.rest rest a.on_is in
    record {
      e = all_of f.es;
      front = codes "And" ∷ codes "(" ∷ f.front;
      spelled = bare 0 (all_of f.es) (codes "And" ∷ codes "(" ∷ f.front) (omega arith) (f.front, f.spelled, refl);
      parts = ap (λ w. w ∷ codes "(" ∷ ts) is ∙ ap (λ r. codes "And" ∷ codes "(" ∷ r) (f.parts ∙ ap (λ r. f.front ++ r) s.rest);
      grown = sym s.value ∙ ap (lift most all_of one_deeper) f.grown ∙ bounded_lift most all_of one_deeper f.es (depths f.es) (omega arith);
    }
call_sound most inner sound disjunction word is ts g rest h =
    let a = after_is {A = Grown Trees} {B = Grown Tree} (arguments_at most inner (codes ")") ts) (λ es r. Some (lift most any_of one_deeper es, r)) (g, rest) h in
    let f = arguments_sound most inner sound (codes ")") ts a.value a.rest a.read in
    let s = same (lift most any_of one_deeper a.value) g a.rest rest a.on_is in
    record {
      e = any_of f.es;
      front = codes "Or" ∷ codes "(" ∷ f.front;
      spelled = bare 0 (any_of f.es) (codes "Or" ∷ codes "(" ∷ f.front) (omega arith) (f.front, f.spelled, refl);
      parts = ap (λ w. w ∷ codes "(" ∷ ts) is ∙ ap (λ r. codes "Or" ∷ codes "(" ∷ r) (f.parts ∙ ap (λ r. f.front ++ r) s.rest);
      grown = sym s.value ∙ ap (lift most any_of one_deeper) f.grown ∙ bounded_lift most any_of one_deeper f.es (depths f.es) (omega arith);
    }
call_sound most inner sound (pair kind) word is ts g rest h =
    let a = after_is {A = Grown Tree} {B = Grown Tree} (closed_at inner (codes ",") ts) (λ a r. after (closed_at inner (codes ")") r) (λ b r. Some (grown_binary most kind a b, r))) (g, rest) h in
    let f = closed_sound most inner sound (codes ",") ts a.value a.rest a.read in
    let b = after_is {A = Grown Tree} {B = Grown Tree} (closed_at inner (codes ")") a.rest) (λ b r. Some (grown_binary most kind a.value b, r)) (g, rest) a.on_is in
    let u = closed_sound most inner sound (codes ")") a.rest b.value b.rest b.read in
    let s = same (grown_binary most kind a.value b.value) g b.rest rest b.on_is in
    let front : List Text = word ∷ codes "(" ∷ (f.front ++ codes "," ∷ (u.front ++ codes ")" ∷ [])) in
    let joined : AreJoined (called word) (λ place. SpellsAt place f.e) (λ place. SpellsAt place u.e) front = (f.front, u.front, f.spelled, u.spelled, refl) in
    record {
      e = binary kind f.e u.e;
      front = front;
      spelled = bare 0 (binary kind f.e u.e) front (pair_tight kind f.e u.e word is) (subst (λ form. AreJoined form (λ place. SpellsAt place f.e) (λ place. SpellsAt place u.e) front) (sym is) joined);
      parts = two_front word ts f.front u.front rest a.rest f.parts (u.parts ∙ ap (λ r. (u.front ++ codes ")" ∷ []) ++ r) s.rest);
      grown = sym s.value ∙ ap (λ k. grown_binary most kind k b.value) f.grown ∙ ap (grown_binary most kind (limited most f.e)) u.grown ∙ binary_limited most kind f.e u.e;
    }
call_sound most inner sound choice word is ts g rest h =
    let a = after_is {A = Grown Tree} {B = Grown Tree} (closed_at inner (codes ",") ts)
    (λ c r. after (closed_at inner (codes ",") r) (λ a r. after (closed_at inner (codes ")") r) (λ b r. Some (grown_choice most c a b, r)))) (g, rest) h in
    let f = closed_sound most inner sound (codes ",") ts a.value a.rest a.read in
    let b = after_is {A = Grown Tree} {B = Grown Tree} (closed_at inner (codes ",") a.rest) (λ x r. after (closed_at inner (codes ")") r) (λ y r. Some (grown_choice most a.value x y, r))) (g, rest) a.on_is in
    let u = closed_sound most inner sound (codes ",") a.rest b.value b.rest b.read in
    let d = after_is {A = Grown Tree} {B = Grown Tree} (closed_at inner (codes ")") b.rest) (λ y r. Some (grown_choice most a.value b.value y, r)) (g, rest) b.on_is in
    let v = closed_sound most inner sound (codes ")") b.rest d.value d.rest d.read in
    let s = same (grown_choice most a.value b.value d.value) g d.rest rest d.on_is in
    let front : List Text = codes "If" ∷ codes "(" ∷ (f.front ++ codes "," ∷ (u.front ++ codes "," ∷ (v.front ++ codes ")" ∷ []))) in
    record {
      e = choose f.e u.e v.e;
      front = front;
      spelled = bare 0 (choose f.e u.e v.e) front (omega arith) (f.front, u.front, v.front, f.spelled, u.spelled, v.spelled, refl);
      parts = ap (λ w. w ∷ codes "(" ∷ ts) is ∙ three_front (codes "If") ts f.front u.front v.front rest a.rest b.rest f.parts u.parts (v.parts ∙ ap (λ r. (v.front ++ codes ")" ∷ []) ++ r) s.rest);
      grown = sym s.value ∙ ap (λ k. grown_choice most k b.value d.value) f.grown ∙ ap (λ k. grown_choice most (limited most f.e) k d.value) u.grown
          ∙ ap (grown_choice most (limited most f.e) (limited most u.e)) v.grown ∙ limited_choice most f.e u.e v.e;
    }
call_sound most inner sound fixed word is ts g rest h =
    let a = after_is {A = ℕ} {B = Grown Tree} (number_comma_at ts) (λ n r. after (number_at r) (λ w r. past (codes ")") r (λ r. Some (leaf most (sized n w), r)))) (g, rest) h in
    let f = number_comma_sound ts a.value a.rest a.read in
    let b = after_is {A = ℕ} {B = Grown Tree} (number_at a.rest) (λ w r. past (codes ")") r (λ r. Some (leaf most (sized a.value w), r))) (g, rest) a.on_is in
    let u = number_sound a.rest b.value b.rest b.read in
    let p = past_is {B = Grown Tree × List Text} (codes ")") b.rest (λ r. Some (leaf most (sized a.value b.value), r)) (g, rest) b.on_is in
    let s = same (leaf most (sized a.value b.value)) g p.rest rest p.on_is in
    let front : List Text = codes "BitVecVal" ∷ codes "(" ∷ f.text ∷ codes "," ∷ u.text ∷ codes ")" ∷ [] in
    record {
      e = sized a.value b.value;
      front = front;
      spelled = bare 0 (sized a.value b.value) front (omega arith) (f.text, u.text, f.value, u.value, refl);
      parts = ap (λ w. w ∷ codes "(" ∷ ts) is ∙ ap (λ r. codes "BitVecVal" ∷ codes "(" ∷ r)
          (f.parts ∙ ap (λ r. f.text ∷ codes "," ∷ r) (u.parts ∙ ap (λ r. u.text ∷ r) (p.parts ∙ ap (λ r. codes ")" ∷ r) s.rest)));
      grown = sym s.value;
    }
call_sound most inner sound (headed kind) word is ts g rest h =
    let a = after_is {A = Head} {B = Grown Tree} (head_at kind ts) (λ head r. after (closed_at inner (codes ")") r) (λ a r. Some (lift most (headed_tree head) one_deeper a, r))) (g, rest) h in
    let f = head_sound kind ts a.value a.rest a.read in
    let b = after_is {A = Grown Tree} {B = Grown Tree} (closed_at inner (codes ")") a.rest) (λ x r. Some (lift most (headed_tree a.value) one_deeper x, r)) (g, rest) a.on_is in
    let u = closed_sound most inner sound (codes ")") a.rest b.value b.rest b.read in
    let s = same (lift most (headed_tree a.value) one_deeper b.value) g b.rest rest b.on_is in
    let front : List Text = head_word a.value ∷ codes "(" ∷ (f.front ++ (u.front ++ codes ")" ∷ [])) in
    let spelled : IsCalled a.value (SpellsAt 7 u.e) front = (f.front, u.front, f.spelled, u.spelled, refl) in
    record {
      e = headed_tree a.value u.e;
      front = front;
      spelled = bare 0 (headed_tree a.value u.e) front (headed_tight a.value u.e) (headed_spelled a.value u.e front spelled);
      parts = ap (λ w. w ∷ codes "(" ∷ ts) (is ∙ sym f.word) ∙ ap (λ r. head_word a.value ∷ codes "(" ∷ r)
          (chained_to ts f.front a.rest (u.front ++ codes ")" ∷ []) b.rest rest f.parts u.parts s.rest);
      grown = sym s.value ∙ ap (lift most (headed_tree a.value) one_deeper) u.grown ∙ headed_limited most a.value u.e;
    }
