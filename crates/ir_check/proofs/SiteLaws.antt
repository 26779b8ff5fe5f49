-- Where registers are set: the table of the sites against the results of the instructions.
use Rattle.std.proofs.Common.{◌≡◌, ◌⊎◌, inl, inr, ℕ, zero, suc, ◌+◌, ◌<◌, Option, Some, None, List, [], ◌∷◌, ◌++◌, length, map, take, refl, sym, ◌∙◌, ap, subst, arith}
use Rattle.std.specs.Prelude.{slice_get, slice_index_or, option_to_list, bytes_eq, Contains, MatchOption}
use Rattle.std.specs.List.{IsDistinct}
use Rattle.std.proofs.lemmas.List.Elements.{Contains-append_left, Contains-append_right, Contains-append_cases}
use Rattle.ir_ast.specs.Plain.{Ty}
use Rattle.ir_ast.specs.View.{view_type}
use Rattle.ir_ast.specs.Program.{InstrView, BlockView, FunctionView}
use Rattle.ir_ast.specs.Table.{names_of}
use Rattle.ir_ast.specs.declared.types.IrType.{IrType}
use Rattle.ir_type.proofs.Places.{place_there, some_same}
use Rattle.ir_typing.specs.Registers.{blocks_of}
use Rattle.ir_check.specs.Paths.{results, parameter_names}
use Rattle.ir_check.specs.Sites.{sites_in, sites_among, parameter_sites, sites_of}
use Rattle.ir_check.specs.declared.sites.Site.{Site}

-- ---- elements by place

pub get_at : {A : Type 0} (xs : List A) (k : ℕ) (x : A) → k < length xs → slice_index_or xs k x ≡ x → slice_get xs k ≡ Some x
get_at [] k x l e = absurd (omega (arith, l))
get_at (y ∷ xs) zero x l e = ap Some e
get_at (y ∷ xs) (suc k) x l e = get_at xs k x (omega (arith, l)) e

pub contains_at : {A : Type 0} (xs : List A) (k : ℕ) (x : A) → slice_get xs k ≡ Some x → Contains xs x
contains_at [] k x e = absurd cc
contains_at (y ∷ xs) zero x e = (0, omega arith, some_same y x e)
contains_at (y ∷ xs) (suc k) x e = let c = contains_at xs k x e in Contains-append_right (y ∷ []) xs x c

pub taken_at : {A : Type 0} (xs : List A) (j k : ℕ) (x : A) → slice_get (take j xs) k ≡ Some x → (k < j) × (slice_get xs k ≡ Some x)
taken_at [] zero k x e = absurd cc
taken_at [] (suc j) k x e = absurd cc
taken_at (y ∷ xs) zero k x e = absurd cc
taken_at (y ∷ xs) (suc j) zero x e = (omega arith, e)
taken_at (y ∷ xs) (suc j) (suc k) x e = let rest = taken_at xs j k x e in let l = rest.0 in (omega arith, rest.1)

pub take_at_below : {A : Type 0} (xs : List A) (j k : ℕ) (x : A) → k < j → slice_get xs k ≡ Some x → slice_get (take j xs) k ≡ Some x
take_at_below [] j k x l e = absurd cc
take_at_below (y ∷ xs) zero k x l e = absurd (omega (arith, l))
take_at_below (y ∷ xs) (suc j) zero x l e = e
take_at_below (y ∷ xs) (suc j) (suc k) x l e = take_at_below xs j k x (omega (arith, l)) e

-- ---- registers that are set

-- instruction k of these sets the register
pub record SetBy (is : List InstrView) (k : ℕ) (x : List ℕ) : Type 0 where
  pub instr : InstrView
  pub there : slice_get is k ≡ Some instr
  pub result : instr.result ≡ Some x

-- instruction k of block p does
pub record SetAt (blocks : List BlockView) (p k : ℕ) (x : List ℕ) : Type 0 where
  pub block : BlockView
  pub there : slice_get blocks p ≡ Some block
  pub sets : SetBy block.instrs k x

in_option_list : {A : Type 0} (o : Option A) (x : A) → Contains (option_to_list o) x → o ≡ Some x
in_option_list None x (k, l, e) = absurd (omega (arith, l))
in_option_list (Some y) x (zero, l, e) = ap Some e
in_option_list (Some y) x (suc k, l, e) = absurd (omega (arith, l))

pub set_of_results : (is : List InstrView) (x : List ℕ) → Contains (results is) x → (k : ℕ) × SetBy is k x
set_of_results [] x (k, l, e) = absurd (omega (arith, l))
set_of_results (i ∷ is) x c = pick (λ d. set_of_results is x d) (Contains-append_cases (option_to_list i.result) (results is) x c)
  where
    pick : (Contains (results is) x → (k : ℕ) × SetBy is k x) → Contains (option_to_list i.result) x ⊎ Contains (results is) x → (k : ℕ) × SetBy (i ∷ is) k x
    pick rest (inl d) = (0, record { instr = i; there = refl; result = in_option_list i.result x d })
    pick rest (inr d) = let r = rest d in (suc r.0, record { instr = r.1.instr; there = r.1.there; result = r.1.result })

pub results_of_set : (is : List InstrView) (k : ℕ) (x : List ℕ) → SetBy is k x → Contains (results is) x
results_of_set [] k x s = absurd (clash s.there)
  where
    clash : slice_get [] k ≡ Some s.instr → ⊥
    clash e = cc
results_of_set (i ∷ is) zero x s =
    Contains-append_left (option_to_list i.result) (results is) x
    (subst (λ o. Contains (option_to_list o) x) (sym (ap (λ (v : InstrView). v.result) (some_same i s.instr s.there) ∙ s.result)) (0, omega arith, refl))
results_of_set (i ∷ is) (suc k) x s =
    Contains-append_right (option_to_list i.result) (results is) x (results_of_set is k x (record { instr = s.instr; there = s.there; result = s.result }))

-- ---- the table

-- what an entry of the table says
abbrev pub SaysSite : FunctionView → List ℕ → Option Site → Type 0
SaysSite f x o = MatchOption o (Contains (parameter_names f) x) (λ s. SetAt (blocks_of f) s.block s.place x)

-- an entry of the sites of instructions from a place on
record IsIn (block place : ℕ) (is : List InstrView) (x : List ℕ) (o : Option Site) : Type 0 where
  at : ℕ
  site : o ≡ Some (record { block = block; place = place + at })
  sets : SetBy is at x

Row : Type 0
Row = List ℕ × Option Site

abbrev site : ℕ → ℕ → Option Site
site block place = Some (record { block = block; place = place })

site_at : (block place : ℕ) (r : Option (List ℕ)) (x : List ℕ) (o : Option Site)
    → Contains {X = List ℕ × Option Site} (map (λ x. (x, Some (record { block = block; place = place }))) (option_to_list r)) (x, o) → (r ≡ Some x) × (o ≡ site block place)
site_at block place None x o (k, l, e) = absurd (omega (arith, l))
site_at block place (Some y) x o (zero, l, e) =
    let first : List ℕ × Option Site → List ℕ = λ r. r.0 in
    let second : List ℕ × Option Site → Option Site = λ r. r.1 in
    (ap Some (ap first e), sym (ap second e))
site_at block place (Some y) x o (suc k, l, e) = absurd (omega (arith, l))

in_sites : (block place : ℕ) (is : List InstrView) (x : List ℕ) (o : Option Site) → Contains {X = List ℕ × Option Site} (sites_in block place is) (x, o) → IsIn block place is x o
in_sites block place [] x o (k, l, e) = absurd (omega (arith, l))
in_sites block place (i ∷ is) x o c =
    let row : List ℕ × Option Site = (x, o) in
    pick (λ d. in_sites block (place + 1) is x o d)
    (Contains-append_cases (map (λ x. (x, Some (record { block = block; place = place }))) (option_to_list i.result)) (sites_in block (place + 1) is) row c)
  where
    pick : (Contains {X = List ℕ × Option Site} (sites_in block (place + 1) is) (x, o) → IsIn block (place + 1) is x o)
        → Contains {X = List ℕ × Option Site} (map (λ x. (x, Some (record { block = block; place = place }))) (option_to_list i.result)) (x, o)
        ⊎ Contains {X = List ℕ × Option Site} (sites_in block (place + 1) is) (x, o) → IsIn block place (i ∷ is) x o
    pick rest (inl d) =
        let s = site_at block place i.result x o d in
        let n : place ≡ place + 0 = omega arith in
        record { at = 0; site = s.1 ∙ ap (λ p. site block p) n; sets = record { instr = i; there = refl; result = s.0 } }
    pick rest (inr d) =
        let r = rest d in
        let n : place + 1 + r.at ≡ place + suc r.at = omega arith in
        record { at = suc r.at; site = r.site ∙ ap (λ p. site block p) n; sets = record { instr = r.sets.instr; there = r.sets.there; result = r.sets.result } }

sites_of_set : (block place : ℕ) (is : List InstrView) (k : ℕ) (x : List ℕ) → SetBy is k x → Contains {X = List ℕ × Option Site} (sites_in block place is) (x, site block (place + k))
sites_of_set block place [] k x s = absurd (clash s.there)
  where
    clash : slice_get [] k ≡ Some s.instr → ⊥
    clash e = cc
sites_of_set block place (i ∷ is) zero x s =
    let n : place ≡ place + 0 = omega arith in
    let row : List ℕ × Option Site = (x, site block (place + 0)) in
    let rows : Option (List ℕ) → List (List ℕ × Option Site) = λ r. map (λ x. (x, Some (record { block = block; place = place }))) (option_to_list r) in
    let own : i.result ≡ Some x = ap (λ (v : InstrView). v.result) (some_same i s.instr s.there) ∙ s.result in
    let here : Contains (rows (Some x)) row = (0, omega arith, ap (λ p. (x, site block p)) n) in
    Contains-append_left (rows i.result) (sites_in block (place + 1) is) row (subst (λ r. Contains (rows r) row) (sym own) here)
sites_of_set block place (i ∷ is) (suc k) x s =
    let n : place + 1 + k ≡ place + suc k = omega arith in
    let rest = sites_of_set block (place + 1) is k x (record { instr = s.instr; there = s.there; result = s.result }) in
    let row : List ℕ × Option Site = (x, site block (place + suc k)) in
    Contains-append_right (map (λ x. (x, Some (record { block = block; place = place }))) (option_to_list i.result)) (sites_in block (place + 1) is) row
    (subst (λ p. Contains {X = List ℕ × Option Site} (sites_in block (place + 1) is) (x, site block p)) n rest)

-- the same among blocks
record IsAmong (block : ℕ) (bs : List BlockView) (x : List ℕ) (o : Option Site) : Type 0 where
  at : ℕ
  place : ℕ
  site_is : o ≡ site (block + at) place
  sets : SetAt bs at place x

among_sites : (block : ℕ) (bs : List BlockView) (x : List ℕ) (o : Option Site) → Contains {X = List ℕ × Option Site} (sites_among block bs) (x, o) → IsAmong block bs x o
among_sites block [] x o (k, l, e) = absurd (omega (arith, l))
among_sites block (b ∷ bs) x o c =
    let row : List ℕ × Option Site = (x, o) in
    pick (λ d. among_sites (block + 1) bs x o d) (Contains-append_cases (sites_in block 0 b.instrs) (sites_among (block + 1) bs) row c)
  where
    pick : (Contains {X = List ℕ × Option Site} (sites_among (block + 1) bs) (x, o) → IsAmong (block + 1) bs x o)
        → Contains {X = List ℕ × Option Site} (sites_in block 0 b.instrs) (x, o) ⊎ Contains {X = List ℕ × Option Site} (sites_among (block + 1) bs) (x, o) → IsAmong block (b ∷ bs) x o
    pick rest (inl d) =
        let s = in_sites block 0 b.instrs x o d in
        let n : block ≡ block + 0 = omega arith in
        let m : 0 + s.at ≡ s.at = omega arith in
        record {
          at = 0;
          place = s.at;
          site_is = s.site ∙ ap (λ p. site block p) m ∙ ap (λ q. site q s.at) n;
          sets = record { block = b; there = refl; sets = s.sets };
        }
    pick rest (inr d) =
        let r = rest d in
        let n : block + 1 + r.at ≡ block + suc r.at = omega arith in
        record {
          at = suc r.at;
          place = r.place;
          site_is = r.site_is ∙ ap (λ q. site q r.place) n;
          sets = record { block = r.sets.block; there = r.sets.there; sets = r.sets.sets };
        }

sites_of_block : (block : ℕ) (bs : List BlockView) (p k : ℕ) (x : List ℕ) → SetAt bs p k x → Contains {X = List ℕ × Option Site} (sites_among block bs) (x, site (block + p) k)
sites_of_block block [] p k x s = absurd (clash s.there)
  where
    clash : slice_get [] p ≡ Some s.block → ⊥
    clash e = cc
sites_of_block block (b ∷ bs) zero k x s =
    let n : block ≡ block + 0 = omega arith in
    let m : 0 + k ≡ k = omega arith in
    let row : List ℕ × Option Site = (x, site (block + 0) k) in
    let own : SetBy b.instrs k x = subst (λ (c : BlockView). SetBy c.instrs k x) (sym (some_same b s.block s.there)) s.sets in
    let here = sites_of_set block 0 b.instrs k x own in
    Contains-append_left (sites_in block 0 b.instrs) (sites_among (block + 1) bs) row
    (subst (λ q. Contains {X = List ℕ × Option Site} (sites_in block 0 b.instrs) (x, site q k)) n
    (subst (λ p. Contains {X = List ℕ × Option Site} (sites_in block 0 b.instrs) (x, site block p)) m here))
sites_of_block block (b ∷ bs) (suc p) k x s =
    let n : block + 1 + p ≡ block + suc p = omega arith in
    let row : List ℕ × Option Site = (x, site (block + suc p) k) in
    let rest = sites_of_block (block + 1) bs p k x (record { block = s.block; there = s.there; sets = s.sets }) in
    Contains-append_right (sites_in block 0 b.instrs) (sites_among (block + 1) bs) row
    (subst (λ q. Contains {X = List ℕ × Option Site} (sites_among (block + 1) bs) (x, site q k)) n rest)

-- the parameters
parameter_of_sites : (ps : List (Ty × List ℕ)) (x : List ℕ) (o : Option Site) → Contains {X = List ℕ × Option Site} (parameter_sites ps) (x, o) → Contains (map (λ p. p.1) ps) x × (o ≡ None)
parameter_of_sites [] x o (k, l, e) = absurd (omega (arith, l))
parameter_of_sites (p ∷ ps) x o (zero, l, e) =
    let first : List ℕ × Option Site → List ℕ = λ r. r.0 in
    let second : List ℕ × Option Site → Option Site = λ r. r.1 in
    ((0, omega arith, ap first e), sym (ap second e))
parameter_of_sites (p ∷ ps) x o (suc k, l, e) =
    let rest = parameter_of_sites ps x o (k, omega (arith, l), e) in
    (Contains-append_right (p.1 ∷ []) (map (λ p. p.1) ps) x rest.0, rest.1)

sites_of_parameter : (ps : List (Ty × List ℕ)) (x : List ℕ) → Contains (map (λ p. p.1) ps) x → Contains {X = List ℕ × Option Site} (parameter_sites ps) (x, None)
sites_of_parameter [] x (k, l, e) = absurd (omega (arith, l))
sites_of_parameter (p ∷ ps) x (zero, l, e) = let row : List ℕ → List ℕ × Option Site = λ y. (y, None) in (0, omega arith, ap row e)
sites_of_parameter (p ∷ ps) x (suc k, l, e) =
    let row : List ℕ × Option Site = (x, None) in
    let own : List ℕ × Option Site = (p.1, None) in
    Contains-append_right (own ∷ []) (parameter_sites ps) row (sites_of_parameter ps x (k, omega (arith, l), e))

module _ (f : FunctionView) where
  pub site_says : (x : List ℕ) (o : Option Site) → Contains {X = List ℕ × Option Site} (sites_of f) (x, o) → SaysSite f x o
  site_says x o c =
      let row : List ℕ × Option Site = (x, o) in
      pick (Contains-append_cases (parameter_sites f.parameters) (sites_among 0 (blocks_of f)) row c)
    where
      pick : Contains {X = List ℕ × Option Site} (parameter_sites f.parameters) (x, o) ⊎ Contains {X = List ℕ × Option Site} (sites_among 0 (blocks_of f)) (x, o) → SaysSite f x o
      pick (inl d) = let r = parameter_of_sites f.parameters x o d in subst (SaysSite f x) (sym r.1) r.0
      pick (inr d) =
          let r = among_sites 0 (blocks_of f) x o d in
          let n : 0 + r.at ≡ r.at = omega arith in
          subst (SaysSite f x) (sym (r.site_is ∙ ap (λ q. site q r.place) n)) r.sets

  pub site_of_set : (p k : ℕ) (x : List ℕ) → SetAt (blocks_of f) p k x → Contains {X = List ℕ × Option Site} (sites_of f) (x, site p k)
  site_of_set p k x s =
      let n : 0 + p ≡ p = omega arith in
      let row : List ℕ × Option Site = (x, site p k) in
      Contains-append_right (parameter_sites f.parameters) (sites_among 0 (blocks_of f)) row
      (subst (λ q. Contains {X = List ℕ × Option Site} (sites_among 0 (blocks_of f)) (x, site q k)) n (sites_of_block 0 (blocks_of f) p k x s))

  pub site_of_parameter : (x : List ℕ) → Contains (parameter_names f) x → Contains {X = List ℕ × Option Site} (sites_of f) (x, None)
  site_of_parameter x c =
      let row : List ℕ × Option Site = (x, None) in
      Contains-append_left (parameter_sites f.parameters) (sites_among 0 (blocks_of f)) row (sites_of_parameter f.parameters x c)

  -- a register has one site
  pub one_site : IsDistinct bytes_eq (names_of (sites_of f)) → (x : List ℕ) (a b : Option Site)
      → Contains {X = List ℕ × Option Site} (sites_of f) (x, a) → Contains {X = List ℕ × Option Site} (sites_of f) (x, b) → a ≡ b
  one_site distinct x a b (k, l, e) (j, n, g) =
      let left : List ℕ × Option Site = (x, a) in
      let right : List ℕ × Option Site = (x, b) in
      let there = get_at (sites_of f) k left l e in
      let here = get_at (sites_of f) j right n g in
      let same : k ≡ j = same_some k j (sym (place_there (sites_of f) x a k distinct there) ∙ place_there (sites_of f) x b j distinct here) in
      let second : List ℕ × Option Site → Option Site = λ r. r.1 in
      ap second (some_same left right (sym there ∙ ap (slice_get (sites_of f)) same ∙ here))
    where
      same_some : (k j : ℕ) → Some k ≡ Some j → k ≡ j
      same_some k j e = cc

parameters_viewed : (ps : List (IrType × List ℕ)) → parameter_sites ps ≡ parameter_sites (map (λ p. (view_type p.0, p.1)) ps)
parameters_viewed [] = refl
parameters_viewed (p ∷ ps) = ap (λ es. (p.1, None) ∷ es) (parameters_viewed ps)

-- the table that the code makes
pub sites_made : (f : FunctionView) (ps items : List (IrType × List ℕ)) (blocks : List BlockView) (none some all : List (List ℕ × Option Site))
    → f.parameters ≡ map (λ p. (view_type p.0, p.1)) ps → items ≡ ps → blocks ≡ blocks_of f → none ≡ [] → some ≡ none ++ parameter_sites items
    → all ≡ some ++ sites_among 0 blocks → all ≡ sites_of f
sites_made f ps items blocks none some all viewed same is start front rest =
    rest ∙ ap (λ es. es ++ sites_among 0 blocks) (front ∙ ap (λ es. es ++ parameter_sites items) start ∙ ap parameter_sites same ∙ parameters_viewed ps ∙ ap parameter_sites (sym viewed))
    ∙ ap (λ bs. parameter_sites f.parameters ++ sites_among 0 bs) is
