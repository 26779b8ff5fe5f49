use Rattle.std.proofs.Common.{◌<◌, ◌∙◌, length, map, arith, ap, refl, sym, subst}
use Rattle.std.specs.Prelude.{All}
use Rattle.hk_term.specs.Shape.{width}
use Rattle.hk_term.specs.Meaning as term
use Rattle.spec_tree.specs.View.{view_expr, view_expr_list, view_spec}
use Rattle.hk_symexpr.specs.Sources.{Keeps}
use Rattle.hk_symspec.specs.States.{numbers_at}
use Rattle.hk_symspec.specs.Lines.{line_context}
use Rattle.hk_symspec.proofs.LineLaws.{followed, framed, indices_sorted, map_kept, write_over}
use Rattle.hk_symspec.proofs.lines.write_of.Goals as goal

pub index_terms-requires-clause-sorted : goal.index_terms-requires-clause-sorted
index_terms-requires-clause-sorted g c =
    indices_sorted (line_context (view_spec c.args.setting.now.spec.now) c.args.setting.now.args.now c.args.locals.now) c.requires.sorted.0.0.keys (view_expr_list c.args.write.now.index) c.requires.sorted.0.2

pub line_term-requires-clause-sorted : goal.line_term-requires-clause-sorted
line_term-requires-clause-sorted g c = c.requires.sorted.0.3

pub returns-in_err-value-clause-keeps : goal.returns-in_err-value-clause-keeps
returns-in_err-value-clause-keeps g c = followed c.args.t.now c.index_terms.new.t c.line_term.new.t c.index_terms.ensures.keeps c.line_term.ensures.keeps

pub returns-in_err-guard-clause-keeps : goal.returns-in_err-guard-clause-keeps
returns-in_err-guard-clause-keeps g c =
    followed c.args.t.now c.line_term.new.t c.constant.new.t
    (followed c.args.t.now c.index_terms.new.t c.line_term.new.t c.index_terms.ensures.keeps c.line_term.ensures.keeps)
    (framed c.line_term.new.t c.constant.new.t c.constant.ensures.longer c.constant.ensures.keeps_widths c.constant.ensures.keeps_values c.constant.ensures.grows)

pub returns-clause-over : goal.returns-clause-over
returns-clause-over g c =
    let s = view_spec c.args.setting.now.spec.now in
    let last : Keeps c.line_term.new.t c.constant.new.t = framed c.line_term.new.t c.constant.new.t c.constant.ensures.longer c.constant.ensures.keeps_widths c.constant.ensures.keeps_values c.constant.ensures.grows in
    let both : Keeps c.index_terms.new.t c.constant.new.t = followed c.index_terms.new.t c.line_term.new.t c.constant.new.t c.line_term.ensures.keeps last in
    write_over s c.args.setting.now.args.now c.args.locals.now c.constant.new.t _ c.args.write.now.field (view_expr_list c.args.write.now.index) (view_expr c.args.write.now.value) c.requires.sorted
    refl
    (subst (All (λ k. k < length c.constant.new.t)) (sym c.from_vec.ensures) (λ k d l. let h = c.in_ok-index.ensures.within k d l in omega (arith, h, both.longer)))
    (ap (map (width c.constant.new.t)) c.from_vec.ensures
    ∙ map_kept (width c.constant.new.t) (width c.index_terms.new.t) (length c.index_terms.new.t) c.in_ok-index.index.items both.widths c.in_ok-index.ensures.within
    ∙ c.in_ok-index.ensures.widths)
    c.in_ok-guard.ensures.within c.in_ok-guard.ensures.width
    (let h = c.in_ok-value.ensures.within in omega (arith, h, last.longer))
    (last.widths c.in_ok-value.value c.in_ok-value.ensures.within ∙ c.in_ok-value.ensures.width)

pub returns-clause-index : goal.returns-clause-index
returns-clause-index g c = λ v env h.
    let last : Keeps c.line_term.new.t c.constant.new.t = framed c.line_term.new.t c.constant.new.t c.constant.ensures.longer c.constant.ensures.keeps_widths c.constant.ensures.keeps_values c.constant.ensures.grows in
    let both : Keeps c.index_terms.new.t c.constant.new.t = followed c.index_terms.new.t c.line_term.new.t c.constant.new.t c.line_term.ensures.keeps last in
    ap (λ l. numbers_at c.constant.new.t l v) c.from_vec.ensures
    ∙ map_kept (λ k. term.value c.constant.new.t k v) (λ k. term.value c.index_terms.new.t k v) (length c.index_terms.new.t) c.in_ok-index.index.items (λ k l. both.values k l v) c.in_ok-index.ensures.within
    ∙ c.in_ok-index.ensures.numbers v env h

pub returns-clause-value : goal.returns-clause-value
returns-clause-value g c = λ v env h.
    c.constant.ensures.keeps_values c.in_ok-value.value c.in_ok-value.ensures.within v ∙ c.in_ok-value.ensures.value v env (c.in_ok-index.ensures.reads v env h)

pub returns-clause-keeps : goal.returns-clause-keeps
returns-clause-keeps g c =
    followed c.args.t.now c.line_term.new.t c.constant.new.t
    (followed c.args.t.now c.index_terms.new.t c.line_term.new.t c.index_terms.ensures.keeps c.line_term.ensures.keeps)
    (framed c.line_term.new.t c.constant.new.t c.constant.ensures.longer c.constant.ensures.keeps_widths c.constant.ensures.keeps_values c.constant.ensures.grows)

pub returns-clause-point : goal.returns-clause-point
returns-clause-point g c =
    c.lasting.ensures.point c.constant.new.t
    (framed c.line_term.new.t c.constant.new.t c.constant.ensures.longer c.constant.ensures.keeps_widths c.constant.ensures.keeps_values c.constant.ensures.grows)

pub returns-clause-reads : goal.returns-clause-reads
returns-clause-reads g c = λ v env h.
    c.lasting.ensures.reads c.constant.new.t
    (framed c.line_term.new.t c.constant.new.t c.constant.ensures.longer c.constant.ensures.keeps_widths c.constant.ensures.keeps_values c.constant.ensures.grows)
    v env (c.in_ok-value.ensures.reads v env (c.in_ok-index.ensures.reads v env h))
