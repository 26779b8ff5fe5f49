-- What suits goes on to suit: in a longer list, and under readings that differ in variables that are in no scope.
use Rattle.std.proofs.Common.{◌≡◌, ◌<◌, ◌≤◌, ◌+◌, ℕ, List, [], ◌∷◌, length, refl, sym, subst, ◌∙◌, arith, All, get_or}
use Rattle.std.proofs.lemmas.List.Elements.{All-head, All-tail}
use Rattle.hk_term.specs.Meaning.{Reading}
use Rattle.hk_term.specs.declared.node.Node.{Node}
use Rattle.spec_tree.specs.Plain.{Trees, Tree, no_trees, tree_and}
use Rattle.spec_tree.specs.Sorted.{Context}
use Rattle.spec_tree.specs.Value.{Env}
use Rattle.hk_symexpr.specs.Sources.{Source, Agrees, Keeps}
use Rattle.hk_symexpr.specs.Scope.{Scope}
use Rattle.hk_symexpr.specs.Naming.{IsNamed, AreNames, IsRead, Suits, name_values, bounds_at, AreLimited}
use Rattle.hk_symexpr.specs.Made.{Ready, Lasts, IsTermOf, IsTermWhere, IsLimitOf, AreLimitsOf}
use Rattle.hk_symexpr.specs.declared.names.NamedTerm.{NamedTerm}
use Rattle.hk_symexpr.specs.declared.names.Limit.{Limit}
use Rattle.hk_symexpr.proofs.Frames.{followed, unchanged}

-- ---- readings

pub agrees_self : (limit : ℕ) (v : Reading) → Agrees limit v v
agrees_self limit v = record { entry = refl; var = λ id h. refl }

pub agrees_less : (low limit : ℕ) (v u : Reading) → low ≤ limit → Agrees limit v u → Agrees low v u
agrees_less low limit v u h a = record { entry = a.entry; var = λ id g. a.var id (omega (arith, g, h)) }

pub agrees_then : (limit : ℕ) (v u w : Reading) → Agrees limit v u → Agrees limit u w → Agrees limit v w
agrees_then limit v u w a b = record { entry = b.entry ∙ a.entry; var = λ id g. b.var id g ∙ a.var id g }

-- what suits at a reading suits at each that agrees with it
pub suits_beside : (source : Reading → Source) (c : Context) (nodes : List Node) (s : Scope) (v u : Reading) (env : Env) → Agrees (s.base + length s.sizes) v u → Suits source c nodes s v env → Suits source c nodes s u env
suits_beside source c nodes s v u env a h = λ w b. h w (agrees_then (s.base + length s.sizes) v u w a b)

pub read_here : (source : Reading → Source) (c : Context) (nodes : List Node) (s : Scope) (v : Reading) (env : Env) → Suits source c nodes s v env → IsRead source c nodes s v env
read_here source c nodes s v env h = h v (agrees_self (s.base + length s.sizes) v)

-- ---- longer lists

names_kept : (old new : List Node) → Keeps old new → (names : List NamedTerm) → All (IsNamed old) names → (v : Reading) → name_values new names v ≡ name_values old names v
names_kept old new k [] h v = refl
names_kept old new k (a ∷ rest) h v = λ i. k.values a.term (All-head (IsNamed old) a rest h).within v i ∷ names_kept old new k rest (All-tail (IsNamed old) a rest h) v i

bounds_kept : (old new : List Node) → Keeps old new → (keys : List ℕ) → All (λ t. t < length old) keys → (id : ℕ) (sizes : List ℕ) (v : Reading) → bounds_at new keys id sizes v ≡ bounds_at old keys id sizes v
bounds_kept old new k [] h id sizes v = refl
bounds_kept old new k (t ∷ ts) h id [] v = refl
bounds_kept old new k (t ∷ ts) h id (n ∷ ns) v =
    λ i. k.values t (All-head (λ q. q < length old) t ts h) v i ∷ bounds_kept old new k ts (All-tail (λ q. q < length old) t ts h) (id + 1) ns v i

pub limits_kept : (old new : List Node) → Keeps old new → (limits : List Limit) → All (λ l. l.term < length old) limits → (v : Reading) → AreLimited old limits v → AreLimited new limits v
limits_kept old new k limits h v below = λ j d low. subst (λ n. n ≤ (get_or limits j d).most) (sym (k.values (get_or limits j d).term (h j d low) v)) (below j d low)

named_kept : (old new : List Node) → Keeps old new → (names : List NamedTerm) → All (IsNamed old) names → All (IsNamed new) names
named_kept old new k names h =
    λ j d low. let is = h j d low in record { within = omega (arith, is.within, k.longer); width_is = k.widths (get_or names j d).term is.within ∙ is.width_is }

pub are_names_kept : (old new : List Node) (s : Scope) → Keeps old new → AreNames old s → AreNames new s
are_names_kept old new s k h =
    record {
      args = named_kept old new k s.args h.args;
      locals = named_kept old new k s.locals h.locals;
      keys = λ j d low. omega (arith, h.keys j d low, k.longer);
      known = λ j d low. omega (arith, h.known j d low, k.longer);
    }

pub ready_kept : (c : Context) (limit : ℕ) (old new : List Node) (s : Scope) → Keeps old new → Ready c limit old s → Ready c limit new s
ready_kept c limit old new s k h = record { names = are_names_kept old new s k h.names; keys = h.keys; ids = h.ids; low = h.low; fields = h.fields; objects = h.objects }

pub suits_kept : (old_source : Reading → Source) (old : List Node) (source : Reading → Source) (new : List Node) (s : Scope) (c : Context) → Lasts old_source old source new s → (v : Reading) (env : Env) → Suits old_source c old s v env → Suits source c new s v env
suits_kept old_source old source new s c l v env h =
    λ u a. let r = h u a in
    record {
      read = l.same u ∙ r.read;
      memory = r.memory;
      args = r.args ∙ sym (names_kept old new l.keeps s.args l.names.args u);
      locals = r.locals ∙ sym (names_kept old new l.keeps s.locals l.names.locals u);
      bounds = r.bounds ∙ sym (bounds_kept old new l.keeps s.keys l.names.keys s.base s.sizes u);
      below = r.below;
      known = limits_kept old new l.keeps s.known l.names.known u r.known;
    }

-- ---- terms

pub term_kept : (source : Reading → Source) (c : Context) (old : List Node) (s : Scope) (new newer : List Node) (r : ℕ) (e : Tree) → Keeps new newer → IsTermOf source c old s new r e → IsTermOf source c old s newer r e
term_kept source c old s new newer r e k h =
    record {
      within = omega (arith, h.within, k.longer);
      width_is = k.widths r h.within ∙ h.width_is;
      value_is = λ v env suits. k.values r h.within v ∙ h.value_is v env suits;
    }

pub limit_kept : (source : Reading → Source) (c : Context) (old : List Node) (s : Scope) (new newer : List Node) (l : Limit) (e : Tree) → Keeps new newer → IsLimitOf source c old s new l e → IsLimitOf source c old s newer l e
limit_kept source c old s new newer l e k h =
    record {
      term = term_kept source c old s new newer l.term e k h.term;
      most = λ v env suits. subst (λ n. n ≤ l.most) (sym (k.values l.term h.term.within v)) (h.most v env suits);
    }

pub limits_are_kept : (source : Reading → Source) (c : Context) (old : List Node) (s : Scope) (new newer : List Node) (ls : List Limit) (es : Trees) → Keeps new newer → AreLimitsOf source c old s new ls es → AreLimitsOf source c old s newer ls es
limits_are_kept source c old s new newer [] no_trees k h = h
limits_are_kept source c old s new newer [] (tree_and e es) k h = h
limits_are_kept source c old s new newer (l ∷ ls) no_trees k h = h
limits_are_kept source c old s new newer (l ∷ ls) (tree_and e es) k h = (limit_kept source c old s new newer l e k h.0, limits_are_kept source c old s new newer ls es k h.1)

-- what was made from a longer list, as made from the old one
pub term_from : (old_source : Reading → Source) (old : List Node) (source : Reading → Source) (mid : List Node) (s : Scope) (c : Context) (new : List Node) (r : ℕ) (e : Tree) → Lasts old_source old source mid s → IsTermOf source c mid s new r e → IsTermOf old_source c old s new r e
term_from old_source old source mid s c new r e l h =
    record { within = h.within; width_is = h.width_is; value_is = λ v env suits. h.value_is v env (suits_kept old_source old source mid s c l v env suits) }

pub lasts_then : (old_source : Reading → Source) (old : List Node) (source : Reading → Source) (mid : List Node) (s : Scope) (new_source : Reading → Source) (new : List Node) → Keeps mid new → ((v : Reading) → new_source v ≡ source v) → Lasts old_source old source mid s → Lasts old_source old new_source new s
lasts_then old_source old source mid s new_source new k same l = record { names = l.names; keeps = followed old mid new l.keeps k; same = λ v. same v ∙ l.same v }

pub lasts_here : (source : Reading → Source) (old : List Node) (s : Scope) → AreNames old s → Lasts source old source old s
lasts_here source old s h = record { names = h; keeps = unchanged old; same = λ v. refl }

-- where a condition is true, what was made of a shorter list
pub where_kept : (source : Reading → Source) (c : Context) (old : List Node) (s : Scope) (mid later new newer : List Node) (condition r : ℕ) (e : Tree) → Keeps mid later → condition < length mid → Keeps new newer → IsTermWhere source c old s mid condition new r e → IsTermWhere source c old s later condition newer r e
where_kept source c old s mid later new newer condition r e m low k h =
    record {
      within = omega (arith, h.within, k.longer);
      width_is = k.widths r h.within ∙ h.width_is;
      value_is = λ v env suits holding. k.values r h.within v ∙ h.value_is v env suits (λ u a. sym (m.values condition low u) ∙ holding u a);
    }
