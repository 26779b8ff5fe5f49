use Rattle.std.proofs.Common.{◌≡◌, ◌≤◌, length, ◌∙◌, ap, sym, subst, refl, inl, inr, arith, rules}
use Rattle.hk_term.specs.Room.{IsFor, known_numbers}
use Rattle.hk_term.proofs.KeptNumbers.{Resized, resized_for, resized_same, length-known_numbers, on_err}
use Rattle.hk_term.proofs.room.ValueRoom.fit.Goals as goal

pub returns-in_err-resize-2-clause-err : goal.returns-in_err-resize-2-clause-err
returns-in_err-resize-2-clause-err c =
    let wide : length c.self.inside.values.items ≤ c.max-most.result = search rules in
    on_err c.from_residual-in_err-resize-2.result
    (resized_same c.self.inside.stamp c.self.inside.values.items c.self.inside.marks.items _ _ c.max-most.result _ c.self.invariant.each wide c.in_ok-resize.ensures.items c.in_err-resize-2.ensures.items ∙ c.self.view_is)

resized : (c : goal.In_ok-resize-2) → Resized c.self.inside.values.items c.self.inside.marks.items c.resize.new.self.items c.resize-2.new.self.items (length c.args.terms.now)
resized c =
    let values : c.self.inside.values.len ≡ length c.self.inside.values.items = c.self.inside.values.ok.0 in
    let marks : c.self.inside.marks.len ≡ length c.self.inside.marks.items = c.self.inside.marks.ok.0 in
    let values' : c.resize.new.self.len ≡ length c.resize.new.self.items = c.resize.new.self.ok.0 in
    let marks' : c.resize-2.new.self.len ≡ length c.resize-2.new.self.items = c.resize-2.new.self.ok.0 in
    let len : c.len-len.result ≡ length c.args.terms.now = c.len-len.ensures.len in
    record {
      each = c.self.invariant.each;
      each' = search rules;
      size = sym marks' ∙ c.in_ok-resize-2.ensures.len ∙ len;
      marks = λ k d h l. c.in_ok-resize-2.ensures.by_index.0 k d (omega (arith, h, len)) (omega (arith, l, marks));
      none = λ k d l h. c.in_ok-resize-2.ensures.by_index.1 k d refl (omega (arith, l, marks)) (omega (arith, h, len));
      numbers = λ k d h. c.in_ok-resize.ensures.by_index.0 k d (search rules) (omega (arith, h, values));
    }

pub returns-clause-size : goal.returns-clause-size
returns-clause-size c = let re = resized c in length-known_numbers c.self.inside.stamp c.resize.new.self.items c.resize-2.new.self.items re.each' ∙ re.size

pub returns-clause-grown : goal.returns-clause-grown
returns-clause-grown c = λ old r g is.
    resized_for old c.args.terms.now r c.self.inside.stamp c.self.inside.values.items c.self.inside.marks.items c.resize.new.self.items c.resize-2.new.self.items c.self.invariant.some (resized c) (inl g)
    (subst (IsFor old r) (sym c.self.view_is) is)

pub returns-clause-cut : goal.returns-clause-cut
returns-clause-cut c = λ old r g is.
    resized_for old c.args.terms.now r c.self.inside.stamp c.self.inside.values.items c.self.inside.marks.items c.resize.new.self.items c.resize-2.new.self.items c.self.invariant.some (resized c) (inr g)
    (subst (IsFor old r) (sym c.self.view_is) is)
