-- Walks joined, taken apart at the end, and moved along a map of nodes.
use Rattle.std.proofs.Common.{◌≡◌, zero, suc, List, [], ◌∷◌, ◌++◌, map, refl, sym, ◌∙◌, ap, subst, arith}
use Rattle.std.specs.List.{Contains}
use Rattle.std.proofs.lemmas.List.Elements.{Contains-append_right}
use Rattle.hk_graph.specs.Walks.{Walks, Leads, IsOnCycle}

module _ {A : Type 0} (R : A → A → Type 0) where
  pub walks-join : (left more : List A) (a b c : A) → Walks R a left b → Walks R b more c → Walks R a (left ++ more) c
  walks-join [] more a b c e w = subst (λ x. Walks R x more c) (sym e) w
  walks-join (x ∷ left) more a b c (e, y, r, w) v = (e, y, r, walks-join left more y b c w v)

  pub walks-push : (left : List A) (a p b : A) → Walks R a left p → R p b → Walks R a (left ++ p ∷ []) b
  walks-push left a p b w r = walks-join left (p ∷ []) a p b w (refl, b, r, refl)

  -- the last step of a walk that has one
  pub walks-last : (left : List A) (a x b : A) → Walks R a (x ∷ left) b
      → (front : List A) × (p : A) × (x ∷ left ≡ front ++ p ∷ []) × Walks R a front p × R p b
  walks-last [] a x b (e, y, r, w) = ([], x, refl, e, subst (λ z. R x z) w r)
  walks-last (z ∷ left) a x b (e, y, r, w) =
      let rest = walks-last left y z b w in
      (x ∷ rest.0, rest.1, ap (λ l. x ∷ l) rest.2, (e, y, r, rest.3), rest.4)

  pub leads-refl : (a : A) → Leads R a a
  leads-refl a = ([], refl)

  pub leads-one : (a b : A) → R a b → Leads R a b
  leads-one a b r = (a ∷ [], (refl, b, r, refl))

  pub leads-join : (a b c : A) → Leads R a b → Leads R b c → Leads R a c
  leads-join a b c (left, w) (more, v) = (left ++ more, walks-join left more a b c w v)

  pub leads-step : (a b c : A) → R a b → Leads R b c → Leads R a c
  leads-step a b c r (left, w) = (a ∷ left, (refl, b, r, w))

  -- what a node on a cycle leads to leads back to it
  pub cycle-next : (a : A) → IsOnCycle R a → (b : A) × R a b × IsOnCycle R b
  cycle-next a (b, r, ([], e)) = (b, r, (b, subst (λ z. R z b) (sym e) r, leads-refl b))
  cycle-next a (b, r, (x ∷ left, (e, y, s, w))) =
      (b, r, (y, subst (λ z. R z y) (sym e) s, leads-join y a b (left, w) (leads-one a b r)))

-- the nodes that a walk leaves are among the nodes P, which steps do not leave
pub left_among : {A : Type 0} (R : A → A → Type 0) (P : A → Type 0) → ((a b : A) → P a → R a b → P b) → (left : List A) (a b x : A) → P a → Walks R a left b
    → Contains left x → P x
left_among R P stays [] a b x p w (k, l, e) = absurd (omega (arith, l))
left_among R P stays (z ∷ left) a b x p (f, y, r, w) (zero, l, e) = subst P (f ∙ e) p
left_among R P stays (z ∷ left) a b x p (f, y, r, w) (suc k, l, e) = left_among R P stays left y b x (stays z y (subst P f p) r) w (k, omega (arith, l), e)

pub Contains-map : {A B : Type 0} (h : A → B) (xs : List A) (x : A) → Contains xs x → Contains (map h xs) (h x)
Contains-map h [] x (k, l, e) = absurd (omega (arith, l))
Contains-map h (y ∷ ys) x (zero, l, e) = (0, omega arith, ap h e)
Contains-map h (y ∷ ys) x (suc k, l, e) = Contains-append_right (h y ∷ []) (map h ys) (h x) (Contains-map h ys x (k, omega (arith, l), e))

pub Contains-map_back : {A B : Type 0} (h : A → B) (xs : List A) (y : B) → Contains (map h xs) y → (x : A) × Contains xs x × (h x ≡ y)
Contains-map_back h [] y (k, l, e) = absurd (omega (arith, l))
Contains-map_back h (x ∷ xs) y (zero, l, e) = (x, (0, omega arith, refl), e)
Contains-map_back h (x ∷ xs) y (suc k, l, e) =
    let r = Contains-map_back h xs y (k, omega (arith, l), e) in
    (r.0, Contains-append_right (x ∷ []) xs r.0 r.1, r.2)

module _ {A B : Type 0} (R : A → A → Type 0) (S : B → B → Type 0) (h : A → B) where
  pub walks-map : ((a b : A) → R a b → S (h a) (h b)) → (left : List A) (a b : A) → Walks R a left b → Walks S (h a) (map h left) (h b)
  walks-map steps [] a b e = ap h e
  walks-map steps (x ∷ left) a b (e, y, r, w) = (ap h e, h y, steps x y r, walks-map steps left y b w)

  pub leads-map : ((a b : A) → R a b → S (h a) (h b)) → (a b : A) → Leads R a b → Leads S (h a) (h b)
  leads-map steps a b (left, w) = (map h left, walks-map steps left a b w)

  pub cycle-map : ((a b : A) → R a b → S (h a) (h b)) → (a : A) → IsOnCycle R a → IsOnCycle S (h a)
  cycle-map steps a (b, r, l) = (h b, steps a b r, leads-map steps b a l)

-- the same among the nodes P, which steps do not leave
module _ {A B : Type 0} (R : A → A → Type 0) (S : B → B → Type 0) (h : A → B) (P : A → Type 0)
    (steps : (a b : A) → P a → R a b → P b × S (h a) (h b)) where
  pub walks-map_among : (left : List A) (a b : A) → P a → Walks R a left b → P b × Walks S (h a) (map h left) (h b)
  walks-map_among [] a b p e = (subst P e p, ap h e)
  walks-map_among (x ∷ left) a b p (e, y, r, w) =
      let step = steps x y (subst P e p) r in
      let rest = walks-map_among left y b step.0 w in
      (rest.0, (ap h e, h y, step.1, rest.1))

  pub leads-map_among : (a b : A) → P a → Leads R a b → P b × Leads S (h a) (h b)
  leads-map_among a b p (left, w) = let r = walks-map_among left a b p w in (r.0, (map h left, r.1))

  pub cycle-map_among : (a : A) → P a → IsOnCycle R a → IsOnCycle S (h a)
  cycle-map_among a p (b, r, l) = let step = steps a b p r in (h b, step.1, (leads-map_among b a step.0 l).1)

-- back along the map: among the nodes P, each step from the image of one is the image of a step
module _ {A B : Type 0} (R : A → A → Type 0) (S : B → B → Type 0) (h : A → B) (P : A → Type 0)
    (steps : (a : A) (y : B) → P a → S (h a) y → (b : A) × P b × R a b × (h b ≡ y)) where
  pub walks-back : (left : List B) (a : A) (y : B) → P a → Walks S (h a) left y
      → (front : List A) × (b : A) × P b × Walks R a front b × (h b ≡ y) × (map h front ≡ left)
  walks-back [] a y p e = ([], a, p, refl, e, refl)
  walks-back (x ∷ left) a y p (e, z, s, w) =
      let step = steps a z p (subst (λ v. S v z) (sym e) s) in
      let rest = walks-back left step.0 y step.1 (subst (λ v. Walks S v left y) (sym step.3) w) in
      (a ∷ rest.0, rest.1, rest.2, (refl, step.0, step.2, rest.3), rest.4, ap (λ l. h a ∷ l) rest.5 ∙ ap (λ v. v ∷ left) e)

  pub leads-back : ((a b : A) → P a → P b → h a ≡ h b → a ≡ b) → (a b : A) → P a → P b → Leads S (h a) (h b) → Leads R a b
  leads-back one a b p q (left, w) =
      let back = walks-back left a (h b) p w in
      (back.0, subst (λ v. Walks R a back.0 v) (one back.1 b back.2 q back.4) back.3)

  pub cycle-back : ((a b : A) → P a → P b → h a ≡ h b → a ≡ b) → (a : A) → P a → IsOnCycle S (h a) → IsOnCycle R a
  cycle-back one a p (y, s, l) =
      let step = steps a y p s in
      (step.0, step.2, leads-back one step.0 a step.1 p (subst (λ v. Leads S v (h a)) (sym step.3) l))
