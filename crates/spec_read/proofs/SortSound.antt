-- The sorts, keys and parameters that are read are spelled there.
use Rattle.std.proofs.Common.{◌≡◌, ℕ, zero, suc, ◌≤◌, Bool, true, false, inl, inr, Some, None, List, [], ◌∷◌, ◌++◌, length, refl, ap, subst, ◌∙◌}
use Rattle.std.specs.Prelude.{Option, nat_le, if◌then◌else◌, bytes_eq, codes}
use Rattle.std.proofs.lemmas.Bool.{leb-true}
use Rattle.spec_ast.specs.declared.raw.RawSort.{RawSort}
use Rattle.spec_ast.specs.declared.raw.RawSort.TheVariants.{Named, Bits, Index}
use Rattle.spec_expr.specs.Words.{Text, is_name}
use Rattle.spec_expr.specs.Reading.{after, past, number_at, number_comma_at, name_at}
use Rattle.spec_expr.proofs.Parts.{same_text, same, after_is, past_is}
use Rattle.spec_expr.proofs.Sound.{chained_to, number_sound, number_comma_sound, name_sound}
use Rattle.spec_read.specs.Items.{SpellsNewSort, SpellsSort, AreMoreSorts, SpellsKeys, AreMoreParameters, AreParameters}
use Rattle.spec_read.specs.ItemReading.{new_sort_at, sort_at, more_sorts_at, few_keys, keys_at, more_parameters_at, parameters_at}

-- behind the word and its parenthesis
pub record FoundNew (word : Text) (ts : List Text) (s : RawSort) (rest : List Text) : Type 0 where
  pub front : List Text
  pub spelled : SpellsNewSort s (word ∷ codes "(" ∷ front)
  pub parts : ts ≡ front ++ rest

new_by : (word : Text) (ts : List Text) (s : RawSort) (rest : List Text) (p q : Bool) → bytes_eq word (codes "Bits") ≡ p → bytes_eq word (codes "Index") ≡ q →
    ◌≡◌ {A = Option (RawSort × List Text)} (if p then after (number_at ts) (λ n r. past (codes ")") r (λ r. Some (Bits n, r)))
    else (if q then after (number_comma_at ts) (λ w r. after (number_at r) (λ n r. past (codes ")") r (λ r. Some (Index w n, r)))) else None)) (Some (s, rest)) →
    FoundNew word ts s rest
new_by word ts s rest true q bits index h =
    let a = after_is {A = ℕ} {B = RawSort} (number_at ts) (λ n r. past (codes ")") r (λ r. Some (Bits n, r))) (s, rest) h in
    let f = number_sound ts a.value a.rest a.read in
    let p = past_is {B = RawSort × List Text} (codes ")") a.rest (λ r. Some (Bits a.value, r)) (s, rest) a.on_is in
    let e = same (Bits a.value) s p.rest rest p.on_is in
    record {
      front = f.text ∷ codes ")" ∷ [];
      spelled = subst (λ k. SpellsNewSort k (word ∷ codes "(" ∷ f.text ∷ codes ")" ∷ [])) e.value (f.text, f.value, ap (λ w. w ∷ codes "(" ∷ f.text ∷ codes ")" ∷ []) (same_text word (codes "Bits") bits));
      parts = f.parts ∙ ap (λ r. f.text ∷ r) (p.parts ∙ ap (λ r. codes ")" ∷ r) e.rest);
    }
new_by word ts s rest false true bits index h =
    let a = after_is {A = ℕ} {B = RawSort} (number_comma_at ts) (λ w r. after (number_at r) (λ n r. past (codes ")") r (λ r. Some (Index w n, r)))) (s, rest) h in
    let f = number_comma_sound ts a.value a.rest a.read in
    let b = after_is {A = ℕ} {B = RawSort} (number_at a.rest) (λ n r. past (codes ")") r (λ r. Some (Index a.value n, r))) (s, rest) a.on_is in
    let g = number_sound a.rest b.value b.rest b.read in
    let p = past_is {B = RawSort × List Text} (codes ")") b.rest (λ r. Some (Index a.value b.value, r)) (s, rest) b.on_is in
    let e = same (Index a.value b.value) s p.rest rest p.on_is in
    record {
      front = f.text ∷ codes "," ∷ g.text ∷ codes ")" ∷ [];
      spelled =
          subst (λ k. SpellsNewSort k (word ∷ codes "(" ∷ f.text ∷ codes "," ∷ g.text ∷ codes ")" ∷ [])) e.value
          (f.text, g.text, f.value, g.value, ap (λ w. w ∷ codes "(" ∷ f.text ∷ codes "," ∷ g.text ∷ codes ")" ∷ []) (same_text word (codes "Index") index));
      parts = f.parts ∙ ap (λ r. f.text ∷ codes "," ∷ r) (g.parts ∙ ap (λ r. g.text ∷ r) (p.parts ∙ ap (λ r. codes ")" ∷ r) e.rest));
    }
new_by word ts s rest false false bits index h = absurd cc

pub new_sound : (word : Text) (ts : List Text) (s : RawSort) (rest : List Text) → new_sort_at word ts ≡ Some (s, rest) → FoundNew word ts s rest
new_sound word ts s rest h = new_by word ts s rest (bytes_eq word (codes "Bits")) (bytes_eq word (codes "Index")) refl refl h

pub record FoundSort (ts : List Text) (s : RawSort) (rest : List Text) : Type 0 where
  pub front : List Text
  pub spelled : SpellsSort s front
  pub parts : ts ≡ front ++ rest

spells_new : (s : RawSort) (ts : List Text) → SpellsNewSort s ts → SpellsSort s ts
spells_new (Named x) ts h = absurd h
spells_new (Bits n) ts h = h
spells_new (Index w n) ts h = h

named_by : (t : Text) (ts : List Text) (s : RawSort) (rest : List Text) (b : Bool) → is_name t ≡ b → ◌≡◌ {A = Option (RawSort × List Text)} (if b then Some (Named t, ts) else None) (Some (s, rest)) → FoundSort (t ∷ ts) s rest
named_by t ts s rest true e h =
    let k = same (Named t) s ts rest h in
    record { front = t ∷ []; spelled = subst (λ j. SpellsSort j (t ∷ [])) k.value (e, refl); parts = ap (λ r. t ∷ r) k.rest }
named_by t ts s rest false e h = absurd cc

sort_by : (t u : Text) (us : List Text) (s : RawSort) (rest : List Text) (p : Bool) → bytes_eq u (codes "(") ≡ p →
    ◌≡◌ {A = Option (RawSort × List Text)} (if p then new_sort_at t us else (if is_name t then Some (Named t, u ∷ us) else None)) (Some (s, rest)) → FoundSort (t ∷ u ∷ us) s rest
sort_by t u us s rest true e h =
    let f = new_sound t us s rest h in
    record {
      front = t ∷ codes "(" ∷ f.front;
      spelled = spells_new s (t ∷ codes "(" ∷ f.front) f.spelled;
      parts = ap (λ w. t ∷ w ∷ us) (same_text u (codes "(") e) ∙ ap (λ r. t ∷ codes "(" ∷ r) f.parts;
    }
sort_by t u us s rest false e h = named_by t (u ∷ us) s rest (is_name t) refl h

pub sort_sound : (ts : List Text) (s : RawSort) (rest : List Text) → sort_at ts ≡ Some (s, rest) → FoundSort ts s rest
sort_sound [] s rest h = absurd cc
sort_sound (t ∷ []) s rest h = named_by t [] s rest (is_name t) refl h
sort_sound (t ∷ u ∷ us) s rest h = sort_by t u us s rest (bytes_eq u (codes "(")) refl h

record FoundMoreSorts (ts : List Text) (ss : List RawSort) (rest : List Text) : Type 0 where
  front : List Text
  spelled : AreMoreSorts ss front
  parts : ts ≡ front ++ rest

more_sorts_by : (m : ℕ) (t : Text) (ts : List Text) (ss : List RawSort) (rest : List Text) (p q : Bool) → bytes_eq t (codes ")") ≡ p → bytes_eq t (codes ",") ≡ q →
    ((us : List Text) (xs : List RawSort) (r : List Text) → more_sorts_at m us ≡ Some (xs, r) → FoundMoreSorts us xs r) →
    ◌≡◌ {A = Option (List RawSort × List Text)} (if p then Some ([], ts) else (if q then after (sort_at ts) (λ s r. after (more_sorts_at m r) (λ ss r. Some (s ∷ ss, r))) else None)) (Some (ss, rest)) →
    FoundMoreSorts (t ∷ ts) ss rest
more_sorts_by m t ts ss rest true q closes goes others h =
    let e = same {A = List RawSort} [] ss ts rest h in
    record { front = codes ")" ∷ []; spelled = subst (λ k. AreMoreSorts k (codes ")" ∷ [])) e.value refl; parts = ap (λ w. w ∷ ts) (same_text t (codes ")") closes) ∙ ap (λ r. codes ")" ∷ r) e.rest }
more_sorts_by m t ts ss rest false true closes goes others h =
    let a = after_is {A = RawSort} {B = List RawSort} (sort_at ts) (λ s r. after (more_sorts_at m r) (λ ss r. Some (s ∷ ss, r))) (ss, rest) h in
    let f = sort_sound ts a.value a.rest a.read in
    let b = after_is {A = List RawSort} {B = List RawSort} (more_sorts_at m a.rest) (λ ss r. Some (a.value ∷ ss, r)) (ss, rest) a.on_is in
    let g = others a.rest b.value b.rest b.read in
    let e = same (a.value ∷ b.value) ss b.rest rest b.on_is in
    record {
      front = codes "," ∷ (f.front ++ g.front);
      spelled = subst (λ k. AreMoreSorts k (codes "," ∷ (f.front ++ g.front))) e.value (f.front, g.front, f.spelled, g.spelled, refl);
      parts = ap (λ w. w ∷ ts) (same_text t (codes ",") goes) ∙ ap (λ r. codes "," ∷ r) (chained_to ts f.front a.rest g.front b.rest rest f.parts g.parts e.rest);
    }
more_sorts_by m t ts ss rest false false closes goes others h = absurd cc

more_sorts_sound : (m : ℕ) (ts : List Text) (ss : List RawSort) (rest : List Text) → more_sorts_at m ts ≡ Some (ss, rest) → FoundMoreSorts ts ss rest
more_sorts_sound zero ts ss rest h = absurd cc
more_sorts_sound (suc m) [] ss rest h = absurd cc
more_sorts_sound (suc m) (t ∷ ts) ss rest h = more_sorts_by m t ts ss rest (bytes_eq t (codes ")")) (bytes_eq t (codes ",")) refl refl (more_sorts_sound m) h

pub record FoundKeys (ts : List Text) (ks : List RawSort) (rest : List Text) : Type 0 where
  pub front : List Text
  pub spelled : SpellsKeys ks front
  pub parts : ts ≡ front ++ rest

record FewKeys (s : RawSort) (ss : List RawSort) (ts : List Text) (ks : List RawSort) (rest : List Text) : Type 0 where
  few : length ss ≤ 3
  value : s ∷ ss ≡ ks
  whole : ts ≡ rest

few_by : (s : RawSort) (ss : List RawSort) (ts : List Text) (ks : List RawSort) (rest : List Text) (p : Bool) → nat_le (length ss) 3 ≡ p →
    ◌≡◌ {A = Option (List RawSort × List Text)} (if p then Some (s ∷ ss, ts) else None) (Some (ks, rest)) → FewKeys s ss ts ks rest
few_by s ss ts ks rest true e h = let k = same (s ∷ ss) ks ts rest h in record { few = leb-true (length ss) 3 e; value = k.value; whole = k.rest }
few_by s ss ts ks rest false e h = absurd cc

keys_by : (t : Text) (ts : List Text) (ks : List RawSort) (rest : List Text) (p : Bool) → bytes_eq t (codes "(") ≡ p →
    ◌≡◌ {A = Option (List RawSort × List Text)} (if p then after (sort_at ts) (λ s r. after (more_sorts_at (length r) r) (λ ss r. few_keys s ss r)) else after (sort_at (t ∷ ts)) (λ s r. Some (s ∷ [], r))) (Some (ks, rest)) →
    FoundKeys (t ∷ ts) ks rest
keys_by t ts ks rest true e h =
    let a = after_is {A = RawSort} {B = List RawSort} (sort_at ts) (λ s r. after (more_sorts_at (length r) r) (λ ss r. few_keys s ss r)) (ks, rest) h in
    let f = sort_sound ts a.value a.rest a.read in
    let b = after_is {A = List RawSort} {B = List RawSort} (more_sorts_at (length a.rest) a.rest) (λ ss r. few_keys a.value ss r) (ks, rest) a.on_is in
    let g = more_sorts_sound (length a.rest) a.rest b.value b.rest b.read in
    let k = few_by a.value b.value b.rest ks rest (nat_le (length b.value) 3) refl b.on_is in
    record {
      front = codes "(" ∷ (f.front ++ g.front);
      spelled = subst (λ j. SpellsKeys j (codes "(" ∷ (f.front ++ g.front))) k.value (inr (f.front, g.front, k.few, f.spelled, g.spelled, refl));
      parts = ap (λ w. w ∷ ts) (same_text t (codes "(") e) ∙ ap (λ r. codes "(" ∷ r) (chained_to ts f.front a.rest g.front b.rest rest f.parts g.parts k.whole);
    }
keys_by t ts ks rest false e h =
    let a = after_is {A = RawSort} {B = List RawSort} (sort_at (t ∷ ts)) (λ s r. Some (s ∷ [], r)) (ks, rest) h in
    let f = sort_sound (t ∷ ts) a.value a.rest a.read in
    let k = same (a.value ∷ []) ks a.rest rest a.on_is in
    record { front = f.front; spelled = subst (λ j. SpellsKeys j f.front) k.value (inl (refl, f.spelled)); parts = f.parts ∙ ap (λ r. f.front ++ r) k.rest }

pub keys_sound : (ts : List Text) (ks : List RawSort) (rest : List Text) → keys_at ts ≡ Some (ks, rest) → FoundKeys ts ks rest
keys_sound [] ks rest h = absurd cc
keys_sound (t ∷ ts) ks rest h = keys_by t ts ks rest (bytes_eq t (codes "(")) refl h

-- ---- parameters

record FoundMoreParameters (ts : List Text) (xs : List Text) (rest : List Text) : Type 0 where
  front : List Text
  spelled : AreMoreParameters xs front
  parts : ts ≡ front ++ rest

more_parameters_by : (m : ℕ) (t : Text) (ts xs rest : List Text) (p q : Bool) → bytes_eq t (codes ")") ≡ p → bytes_eq t (codes ",") ≡ q →
    ((us ys r : List Text) → more_parameters_at m us ≡ Some (ys, r) → FoundMoreParameters us ys r) →
    ◌≡◌ {A = Option (List Text × List Text)} (if p then Some ([], ts) else (if q then after (name_at ts) (λ x r. after (more_parameters_at m r) (λ xs r. Some (x ∷ xs, r))) else None)) (Some (xs, rest)) →
    FoundMoreParameters (t ∷ ts) xs rest
more_parameters_by m t ts xs rest true q closes goes others h =
    let e = same {A = List Text} [] xs ts rest h in
    record { front = codes ")" ∷ []; spelled = subst (λ k. AreMoreParameters k (codes ")" ∷ [])) e.value refl; parts = ap (λ w. w ∷ ts) (same_text t (codes ")") closes) ∙ ap (λ r. codes ")" ∷ r) e.rest }
more_parameters_by m t ts xs rest false true closes goes others h =
    let a = after_is {A = Text} {B = List Text} (name_at ts) (λ x r. after (more_parameters_at m r) (λ xs r. Some (x ∷ xs, r))) (xs, rest) h in
    let f = name_sound ts a.value a.rest a.read in
    let b = after_is {A = List Text} {B = List Text} (more_parameters_at m a.rest) (λ xs r. Some (a.value ∷ xs, r)) (xs, rest) a.on_is in
    let g = others a.rest b.value b.rest b.read in
    let e = same (a.value ∷ b.value) xs b.rest rest b.on_is in
    record {
      front = codes "," ∷ a.value ∷ g.front;
      spelled = subst (λ k. AreMoreParameters k (codes "," ∷ a.value ∷ g.front)) e.value (g.front, f.name, g.spelled, refl);
      parts = ap (λ w. w ∷ ts) (same_text t (codes ",") goes) ∙ ap (λ r. codes "," ∷ r) (f.parts ∙ ap (λ r. a.value ∷ r) (g.parts ∙ ap (λ r. g.front ++ r) e.rest));
    }
more_parameters_by m t ts xs rest false false closes goes others h = absurd cc

more_parameters_sound : (m : ℕ) (ts xs rest : List Text) → more_parameters_at m ts ≡ Some (xs, rest) → FoundMoreParameters ts xs rest
more_parameters_sound zero ts xs rest h = absurd cc
more_parameters_sound (suc m) [] xs rest h = absurd cc
more_parameters_sound (suc m) (t ∷ ts) xs rest h = more_parameters_by m t ts xs rest (bytes_eq t (codes ")")) (bytes_eq t (codes ",")) refl refl (more_parameters_sound m) h

pub record FoundParameters (ts : List Text) (xs : List Text) (rest : List Text) : Type 0 where
  pub front : List Text
  pub spelled : AreParameters xs front
  pub parts : ts ≡ front ++ rest

pub parameters_sound : (ts xs rest : List Text) → parameters_at ts ≡ Some (xs, rest) → FoundParameters ts xs rest
parameters_sound ts xs rest h =
    let a = after_is {A = Text} {B = List Text} (name_at ts) (λ x r. after (more_parameters_at (length r) r) (λ xs r. Some (x ∷ xs, r))) (xs, rest) h in
    let f = name_sound ts a.value a.rest a.read in
    let b = after_is {A = List Text} {B = List Text} (more_parameters_at (length a.rest) a.rest) (λ xs r. Some (a.value ∷ xs, r)) (xs, rest) a.on_is in
    let g = more_parameters_sound (length a.rest) a.rest b.value b.rest b.read in
    let e = same (a.value ∷ b.value) xs b.rest rest b.on_is in
    record {
      front = a.value ∷ g.front;
      spelled = subst (λ k. AreParameters k (a.value ∷ g.front)) e.value (g.front, f.name, g.spelled, refl);
      parts = f.parts ∙ ap (λ r. a.value ∷ r) (g.parts ∙ ap (λ r. g.front ++ r) e.rest);
    }
