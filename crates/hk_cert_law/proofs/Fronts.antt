-- Texts at the front of a line.
use Rattle.std.proofs.Common.{◌≡◌, ℕ, suc, ◌+◌, Bool, true, false, ◌&&◌, cond, eqb, List, [], ◌∷◌, ◌++◌, length, take, drop, Option, Some, None, refl, ◌∙◌, ap, arith}
use Rattle.std.proofs.lemmas.Bool.{cond-true, cond-false, and_parts, ne_eqb, eqb-true}
use Rattle.std.proofs.lemmas.Slice.Eq.{bytes_eq-Decides}
use Rattle.std.specs.Prelude.{bytes_eq}
use Rattle.std.specs.List.{list_all, prefix_len}
use Rattle.hk_cert_lines.specs.Words.{behind}
use Rattle.hk_cert_lines.specs.Blocks.{behind_in}

take_front : {X : Type 0} (a b : List X) → take (length a) (a ++ b) ≡ a
take_front [] b = refl
take_front (x ∷ a) b = ap (λ l. x ∷ l) (take_front a b)

drop_front : {X : Type 0} (a b : List X) → drop (length a) (a ++ b) ≡ b
drop_front [] b = refl
drop_front (x ∷ a) b = drop_front a b

pub same_text : (text : List ℕ) → bytes_eq text text ≡ true
same_text text = (bytes_eq-Decides text text).1 refl

-- what is written in front is found there
pub behind_put : (front rest : List ℕ) → behind front (front ++ rest) ≡ Some rest
behind_put front rest =
    cond-true (bytes_eq (take (length front) (front ++ rest)) front) (Some (drop (length front) (front ++ rest))) None (ap (λ t. bytes_eq t front) (take_front front rest) ∙ same_text front)
    ∙ ap Some (drop_front front rest)

-- a text in front of another part
pub behind_next : (front rest : List ℕ) (o : Option (List ℕ)) → o ≡ Some (front ++ rest) → behind_in front o ≡ Some rest
behind_next front rest o is = ap (behind_in front) is ∙ behind_put front rest

-- ---- the bytes of a kind at the front

pub prefix_put : (test : ℕ → Bool) (word : List ℕ) (c : ℕ) (rest : List ℕ) → list_all test word ≡ true → test c ≡ false → prefix_len test (word ++ c ∷ rest) ≡ length word
prefix_put test [] c rest all stops = cond-false (test c) (1 + prefix_len test rest) 0 stops
prefix_put test (b ∷ word) c rest all stops =
    let parts = and_parts (test b) (list_all test word) all in
    let more : 1 + length word ≡ suc (length word) = omega arith in
    cond-true (test b) (1 + prefix_len test (word ++ c ∷ rest)) 0 parts.0
    ∙ ap (λ n. 1 + n) (prefix_put test word c rest parts.1 stops) ∙ more

module _ (test : ℕ → Bool) (word : List ℕ) (c : ℕ) (rest : List ℕ) (all : list_all test word ≡ true) (stops : test c ≡ false) where
  pub taken_word : take (prefix_len test (word ++ c ∷ rest)) (word ++ c ∷ rest) ≡ word
  taken_word = ap (λ n. take n (word ++ c ∷ rest)) (prefix_put test word c rest all stops) ∙ take_front word (c ∷ rest)

  pub left_behind : drop (prefix_len test (word ++ c ∷ rest)) (word ++ c ∷ rest) ≡ c ∷ rest
  left_behind = ap (λ n. drop n (word ++ c ∷ rest)) (prefix_put test word c rest all stops) ∙ drop_front word (c ∷ rest)

-- ---- another name in front

-- what follows a text at the front, byte by byte
after : List ℕ → List ℕ → Option (List ℕ)
after [] text = Some text
after (x ∷ front) [] = None
after (x ∷ front) (y ∷ text) = cond (eqb y x) (after front text) None

behind_after : (front text : List ℕ) → behind front text ≡ after front text
unfolding after
behind_after [] text = refl
behind_after (x ∷ front) [] = refl
behind_after (x ∷ front) (y ∷ text) = by (eqb y x) (bytes_eq (take (length front) text) front) ∙ ap (λ o. cond (eqb y x) o None) (behind_after front text)
  where
    by : (c d : Bool) → cond (c && d) (Some (drop (length front) text)) None ≡ cond c (cond d (Some (drop (length front) text)) None) None
    by true d = refl
    by false d = refl

-- a blank is not in front of another byte
pub blank_missing : (front : List ℕ) (b : ℕ) (text : List ℕ) → eqb b 32 ≡ false → behind (32 ∷ front) (b ∷ text) ≡ None
unfolding after
blank_missing front b text h = behind_after (32 ∷ front) (b ∷ text) ∙ cond-false (eqb b 32) (after front text) None h

-- two names of bytes of a kind, with no such byte behind the second: the one is in front of the other, with no such byte behind it, only
-- where they are the same
module _ (test : ℕ → Bool) (m : ℕ) (mark : List ℕ) (outside : test m ≡ false) (c : ℕ) (tail : List ℕ) (stops : test c ≡ false) where
  differ : (x y : ℕ) → test x ≡ true → test y ≡ false → eqb y x ≡ false
  differ x y p q = ne_eqb y x (λ e. let same : test y ≡ test x = ap test e in cc)

  other_after : (a b : List ℕ) → list_all test a ≡ true → list_all test b ≡ true → (a ≡ b → ⊥) → behind_in (m ∷ mark) (after a (b ++ c ∷ tail)) ≡ None
  unfolding after
  other_after [] [] p q ne = absurd (ne refl)
  other_after [] (y ∷ b) p q ne =
      let parts = and_parts (test y) (list_all test b) q in
      behind_after (m ∷ mark) (y ∷ b ++ c ∷ tail) ∙ cond-false (eqb y m) (after mark (b ++ c ∷ tail)) None (flip y m parts.0 outside)
    where
      flip : (x y : ℕ) → test x ≡ true → test y ≡ false → eqb x y ≡ false
      flip x y p q = ne_eqb x y (λ e. let same : test x ≡ test y = ap test e in cc)
  other_after (x ∷ a) [] p q ne =
      let parts = and_parts (test x) (list_all test a) p in
      ap (behind_in (m ∷ mark)) (cond-false (eqb c x) (after a tail) None (differ x c parts.0 stops))
  other_after (x ∷ a) (y ∷ b) p q ne =
      let first = and_parts (test x) (list_all test a) p in
      let second = and_parts (test y) (list_all test b) q in
      by (eqb y x) refl (λ rest. other_after a b first.1 second.1 rest)
    where
      joined : (x y : ℕ) (a b : List ℕ) → y ≡ x → a ≡ b → (x ∷ a) ≡ (y ∷ b)
      joined x y a b e f = cc

      by : (t : Bool) → eqb y x ≡ t → ((a ≡ b → ⊥) → behind_in (m ∷ mark) (after a (b ++ c ∷ tail)) ≡ None) → behind_in (m ∷ mark) (cond t (after a (b ++ c ∷ tail)) None) ≡ None
      by true e next = next (λ f. ne (joined x y a b (eqb-true y x e) f))
      by false e next = refl

  pub other_front : (a b : List ℕ) → list_all test a ≡ true → list_all test b ≡ true → (a ≡ b → ⊥) → behind_in (m ∷ mark) (behind a (b ++ c ∷ tail)) ≡ None
  other_front a b p q ne = ap (behind_in (m ∷ mark)) (behind_after a (b ++ c ∷ tail)) ∙ other_after a b p q ne
