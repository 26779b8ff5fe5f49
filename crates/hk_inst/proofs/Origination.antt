-- What arises in a question's table comes behind the goal.
use Rattle.std.proofs.Common.{◌≡◌, ◌⊎◌, inl, inr, ℕ, Bool, true, false, cond, nat_eq, List, [], ◌∷◌, ◌++◌, Option, Some, refl, sym, ◌∙◌, ap, subst, arith}
use Rattle.std.specs.List.{Contains, slice_get}
use Rattle.std.proofs.lemmas.Bool.{eq-eqb}
use Rattle.std.proofs.lemmas.List.Elements.{Contains-append_left, Contains-append_right}
use Rattle.hk_term.specs.declared.bounds.Bound.{Bound}
use Rattle.hk_term.specs.declared.node.Node.{Node}
use Rattle.hk_term.specs.declared.node.Node.TheVariants.{Const, Var, Select, Unary, Binary, Choose, Resize, ForAll}
use Rattle.hk_copy.specs.declared.stand.Stand.{Stand}
use Rattle.hk_blast.specs.Blasted.{IsPart}
use Rattle.hk_inst.specs.declared.opening.Opening.{Opening}
use Rattle.hk_inst.specs.Demanded.{IsImplication, IsRefutation, IsOpening}
use Rattle.hk_inst.specs.Demanded.IsRefutation.{ended, ranged}
use Rattle.hk_inst.proofs.Members.{contains-cases, contains-head, contains-tail}
use Rattle.hk_inst.specs.Origins.{Arises}
use Rattle.hk_inst.specs.Origins.Arises.{goal as the_goal, part as a_part, place as a_place, refuted as a_refuted, agreed as an_agreed, implied as an_implied}
use Rattle.hk_inst.proofs.Expansions.{weight_of, behind_node, behind, Under, under-trans, under-cases, weight}
use Rattle.hk_inst.proofs.Expansions.Under.{itself, step}

-- the copies of a quantifier's body: at the variables with which it was opened, and at tuples
abbrev pub copies_opened : List Opening → ℕ → List ℕ
copies_opened [] t = []
copies_opened (o ∷ os) t = cond (nat_eq o.term t) (o.copy ∷ copies_opened os t) (copies_opened os t)

abbrev pub copy_added : Option Node → ℕ → List ℕ
copy_added (Some (Choose c a b)) t = cond (nat_eq c t) (a ∷ []) []
copy_added _ t = []

abbrev pub copies_added : List Node → List ℕ → ℕ → List ℕ
copies_added nodes [] t = []
copies_added nodes (d ∷ ds) t = copy_added (slice_get nodes d) t ++ copies_added nodes ds t

abbrev pub copies_of : List Node → List Opening → List ℕ → ℕ → List ℕ
copies_of nodes openings demands t = copies_opened openings t ++ copies_added nodes demands t

opened-there : (openings : List Opening) (o : Opening) → Contains openings o → Contains (copies_opened openings o.term) o.copy
opened-there [] o (k, l, e) = absurd (omega (arith, l))
opened-there (p ∷ openings) o c = by (contains-cases p openings o c) (opened-there openings o)
  where
    deep : (b : Bool) → Contains (copies_opened openings o.term) o.copy → Contains (cond b (p.copy ∷ copies_opened openings o.term) (copies_opened openings o.term)) o.copy
    deep true d = contains-tail p.copy (copies_opened openings o.term) o.copy d
    deep false d = d

    by : (p ≡ o) ⊎ (Contains openings o) → (Contains openings o → Contains (copies_opened openings o.term) o.copy) → Contains (cond (nat_eq p.term o.term) (p.copy ∷ copies_opened openings o.term) (copies_opened openings o.term)) o.copy
    by (inl e) go =
        subst (λ b. Contains (cond b (p.copy ∷ copies_opened openings o.term) (copies_opened openings o.term)) o.copy) (sym (eq-eqb p.term o.term (ap (λ x. x.term) e)))
        (subst (λ x. Contains (x ∷ copies_opened openings o.term) o.copy) (ap (λ x. x.copy) (sym e)) (contains-head o.copy (copies_opened openings o.term)))
    by (inr d) go = deep (nat_eq p.term o.term) (go d)

added-there : (nodes : List Node) (ds : List ℕ) (q b d : ℕ) → Contains ds d → IsImplication nodes q b d → Contains (copies_added nodes ds q) b
added-there nodes [] q b d (k, l, e) h = absurd (omega (arith, l))
added-there nodes (x ∷ ds) q b d c h = by (contains-cases x ds d c) (λ e. added-there nodes ds q b d e h)
  where
    here : Contains (copy_added (slice_get nodes d) q) b
    here = subst (λ o. Contains (copy_added o q) b) (sym h.is) (subst (λ z. Contains (cond z (b ∷ []) []) b) (sym (eq-eqb q q refl)) (contains-head b []))

    by : (x ≡ d) ⊎ (Contains ds d) → (Contains ds d → Contains (copies_added nodes ds q) b) → Contains (copy_added (slice_get nodes x) q ++ copies_added nodes ds q) b
    by (inl e) go = Contains-append_left (copy_added (slice_get nodes x) q) (copies_added nodes ds q) b (subst (λ y. Contains (copy_added (slice_get nodes y) q) b) (sym e) here)
    by (inr e) go = Contains-append_right (copy_added (slice_get nodes x) q) (copies_added nodes ds q) b (go e)

part-behind : (n : Node) (k : ℕ) (copies : List ℕ) → IsPart n k → Contains (behind_node (Some n) copies) k
part-behind (Const w x) k copies p = absurd p
part-behind (Var w i) k copies p = absurd p
part-behind (Select a w i) k copies p = absurd p
part-behind (Unary kind a) k copies p = subst (Contains (a ∷ [])) (sym p) (contains-head a [])
part-behind (Binary kind a b) k copies (inl p) = subst (Contains (a ∷ b ∷ [])) (sym p) (contains-head a (b ∷ []))
part-behind (Binary kind a b) k copies (inr p) = subst (Contains (a ∷ b ∷ [])) (sym p) (contains-tail a (b ∷ []) b (contains-head b []))
part-behind (Choose c a b) k copies (inl p) = subst (Contains (c ∷ a ∷ b ∷ [])) (sym p) (contains-head c (a ∷ b ∷ []))
part-behind (Choose c a b) k copies (inr (inl p)) = subst (Contains (c ∷ a ∷ b ∷ [])) (sym p) (contains-tail c (a ∷ b ∷ []) a (contains-head a (b ∷ [])))
part-behind (Choose c a b) k copies (inr (inr p)) = subst (Contains (c ∷ a ∷ b ∷ [])) (sym p) (contains-tail c (a ∷ b ∷ []) b (contains-tail a (b ∷ []) b (contains-head b [])))
part-behind (Resize kind to a) k copies p = subst (Contains (a ∷ [])) (sym p) (contains-head a [])
part-behind (ForAll bound body) k copies p = absurd p

module _ (nodes : List Node) (goal : ℕ) (openings : List Opening) (demands : List ℕ) where
  abbrev copies : ℕ → List ℕ
  copies = copies_of nodes openings demands

  -- a term comes behind the goal, or it is no read and no quantifier
  abbrev IsFine : ℕ → Type 0
  IsFine s = (Under nodes copies goal s) ⊎ (weight nodes copies s ≡ 0)

  abbrev AreFine : ℕ → Type 0
  AreFine t = (s : ℕ) → Under nodes copies t s → IsFine s

  -- so are all behind a term that is none itself, where they are behind what comes next
  over : (t : ℕ) (n : Node) → slice_get nodes t ≡ Some n → weight_of (Some n) ≡ 0 → ((k : ℕ) → Contains (behind_node (Some n) (copies t)) k → AreFine k) → AreFine t
  over t n at none next s u = by (under-cases nodes copies u)
    where
      by : (t ≡ s) ⊎ ((k : ℕ) × (Contains (behind nodes copies t) k) × (Under nodes copies k s)) → IsFine s
      by (inl e) = inr (ap (weight nodes copies) (sym e) ∙ ap weight_of at ∙ none)
      by (inr (k, c, v)) = next k (subst (λ o. Contains (behind_node o (copies t)) k) at c) s v

  leaf : (t w x : ℕ) → slice_get nodes t ≡ Some (Const w x) → AreFine t
  leaf t w x at = over t _ at refl (λ k c. absurd (omega (arith, c.1)))

  one : (a : ℕ) → AreFine a → (k : ℕ) → Contains (a ∷ []) k → AreFine k
  one a h k c = by (contains-cases a [] k c)
    where
      by : (a ≡ k) ⊎ (Contains [] k) → AreFine k
      by (inl e) = subst AreFine e h
      by (inr d) = absurd (omega (arith, d.1))

  two : (a b : ℕ) → AreFine a → AreFine b → (k : ℕ) → Contains (a ∷ b ∷ []) k → AreFine k
  two a b h g k c = by (contains-cases a (b ∷ []) k c)
    where
      by : (a ≡ k) ⊎ (Contains (b ∷ []) k) → AreFine k
      by (inl e) = subst AreFine e h
      by (inr d) = one b g k d

  three : (a b c : ℕ) → AreFine a → AreFine b → AreFine c → (k : ℕ) → Contains (a ∷ b ∷ c ∷ []) k → AreFine k
  three a b c h g f k m = by (contains-cases a (b ∷ c ∷ []) k m)
    where
      by : (a ≡ k) ⊎ (Contains (b ∷ c ∷ []) k) → AreFine k
      by (inl e) = subst AreFine e h
      by (inr d) = two b c g f k d

  choice : (d c a b : ℕ) → slice_get nodes d ≡ Some (Choose c a b) → AreFine c → AreFine a → AreFine b → AreFine d
  choice d c a b at h g f = over d _ at refl (three c a b h g f)

  refutation : (b : ℕ) {bs : List Bound} {ss : List Stand} {d : ℕ} → AreFine b → IsRefutation nodes b bs ss d → AreFine d
  refutation b {d = d} h (ended no_ yes_ no_is yes_is is) = choice d b no_ yes_ is h (leaf no_ _ _ no_is) (leaf yes_ _ _ yes_is)
  refutation b {d = d} h (ranged w id z size test rest no_ few z_is size_is test_is no_is is more) =
      choice d test rest no_ is
      (over test _ test_is refl (two z size (over z _ z_is refl (λ k c. absurd (omega (arith, c.1)))) (leaf size _ _ size_is)))
      (refutation b h more) (leaf no_ _ _ no_is)

  -- the copy of a quantifier's body, where the quantifier comes behind the goal
  copy : (t b body : ℕ) (bound : List Bound) → slice_get nodes t ≡ Some (ForAll bound body) → Contains (copies t) b → AreFine t → AreFine b
  copy t b body bound at c h s u = by (h t itself)
    where
      by : IsFine t → IsFine s
      by (inl v) = inl (under-trans nodes copies v (step b (subst (λ o. Contains (behind_node o (copies t)) b) (sym at) c) u))
      by (inr e) = absurd (none (sym (ap weight_of at) ∙ e))
        where
          none : weight_of (Some (ForAll bound body)) ≡ 0 → ⊥
          none x = omega (arith, x)

  module _ (opening : (o : Opening) → Contains openings o → IsOpening nodes o) where
    pub arising : (t : ℕ) → Arises nodes goal openings demands t → AreFine t
    arising _ the_goal = λ s u. inl u
    arising t (a_part u k n at part h) = λ s v. arising u h s (step t (subst (λ o. Contains (behind_node o (copies u)) t) (sym at) (part-behind n t (copies u) part)) v)
    arising t (a_place u array size i at h) = λ s v. arising u h s (step t (subst (λ o. Contains (behind_node o (copies u)) t) (sym at) (contains-head t [])) v)
    arising t (a_refuted o c h) =
        let its = opening o c in
        let fine = arising o.term h in
        let made = copy o.term o.copy its.body its.bound its.at (Contains-append_left (copies_opened openings o.term) (copies_added nodes demands o.term) o.copy (opened-there openings o c)) fine in
        choice o.demand o.term its.choice.one its.choice.rest its.choice.is fine (leaf its.choice.one _ _ its.choice.one_is) (refutation o.copy made its.choice.refutation)
    arising t (an_agreed r s i j d c its a b e f) =
        choice d its.places its.values its.one its.is
        (over its.places _ its.places_is refl (two its.wide its.other_wide (over its.wide _ its.wide_is refl (one i (arising i e))) (over its.other_wide _ its.other_is refl (one j (arising j f)))))
        (over its.values _ its.values_is refl (two r s (arising r a) (arising s b))) (leaf its.one _ _ its.one_is)
    arising t (an_implied q b body d bound c its at h) =
        let fine = arising q h in
        let made = copy q b body bound at (Contains-append_right (copies_opened openings q) (copies_added nodes demands q) b (added-there nodes demands q b d c its)) fine in
        choice d q b its.one its.is fine made (leaf its.one _ _ its.one_is)
