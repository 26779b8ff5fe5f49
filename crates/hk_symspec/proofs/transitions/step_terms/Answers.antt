use Rattle.std.proofs.Common.{◌≡◌, ◌∙◌, [], map, arith, ap, sym, subst}
use Rattle.std.specs.Prelude.{All}
use Rattle.hk_term.specs.Meaning.{Reading, value}
use Rattle.spec_tree.specs.Sorted.{AreLines, IsResult, IsSorted, field_sorts, over_step, width_of}
use Rattle.spec_tree.specs.Value as tree
use Rattle.spec_tree.specs.Value.{bit, holds}
use Rattle.spec_tree.specs.View.{view_spec, view_transition}
use Rattle.spec_tree.specs.Meaning.{after_lines}
use Rattle.hk_symexpr.specs.Sources.{Agrees}
use Rattle.hk_symexpr.specs.Naming.{IsNamed}
use Rattle.hk_symexpr.specs.declared.names.NamedTerm.{NamedTerm}
use Rattle.hk_symspec.specs.States.{after_writes, state_at}
use Rattle.hk_symspec.specs.Standing.{IsWriteOver, formula_base}
use Rattle.hk_symspec.specs.KeptLaws.{state_kept, state_over_kept}
use Rattle.hk_symspec.specs.Lines.{IsPoint, LineReads, line_context}
use Rattle.hk_symspec.proofs.LineLaws.{agrees_self, agrees_then, followed, point_kept, reads_kept}
use Rattle.hk_symspec.proofs.StepLaws.{arguments_there, arguments_wide, begun_env, begun_point, begun_reads, behind_is, end_over, end_steady, number_kept, step_at, term_kept}
use Rattle.hk_symspec.proofs.transitions.step_terms.Goals as goal

pub named_terms-requires : goal.named_terms-requires
named_terms-requires g c = arguments_there c.args.t.now c.args.transition.now.widths c.args.args.now c.requires.args

pub walk-requires-clause-point : goal.walk-requires-clause-point
walk-requires-clause-point g c =
    begun_point (view_spec c.args.spec.now) c.args.t.now c.args.state.now c.as_slice.result.now [] c.requires.over
    (subst (All (IsNamed c.args.t.now)) (sym c.as_slice.ensures.value) c.in_ok-named.ensures.named) (λ k d l. absurd (omega (arith, l)))

pub walk-requires-clause-sorted : goal.walk-requires-clause-sorted
walk-requires-clause-sorted g c =
    let s = view_spec c.args.spec.now in
    let t = view_transition c.args.transition.now in
    let widths : map (λ (n : NamedTerm). n.width) c.as_slice.result.now ≡ t.widths =
    ap (map (λ (n : NamedTerm). n.width)) c.as_slice.ensures.value ∙ c.in_ok-named.ensures.widths ∙ arguments_wide c.args.t.now t.widths c.args.args.now c.requires.args in
    subst (λ ws. AreLines (over_step s ws) t.lines) (sym widths) c.requires.transition.lines

pub end_of-requires-clause-valid : goal.end_of-requires-clause-valid
end_of-requires-clause-valid g c =
    let s = view_spec c.args.spec.now in
    let t = view_transition c.args.transition.now in
    let widths : map (λ (n : NamedTerm). n.width) c.as_slice.result.now ≡ t.widths =
    ap (map (λ (n : NamedTerm). n.width)) c.as_slice.ensures.value ∙ c.in_ok-named.ensures.widths ∙ arguments_wide c.args.t.now t.widths c.args.args.now c.requires.args in
    subst (λ x. IsSorted x t.valid) (sym (behind_is s t c.as_slice.result.now c.in_ok-walked.walked.locals.items widths c.in_ok-walked.ensures.context)) c.requires.transition.valid

pub end_of-requires-clause-truth : goal.end_of-requires-clause-truth
end_of-requires-clause-truth g c =
    let s = view_spec c.args.spec.now in
    let t = view_transition c.args.transition.now in
    let widths : map (λ (n : NamedTerm). n.width) c.as_slice.result.now ≡ t.widths =
    ap (map (λ (n : NamedTerm). n.width)) c.as_slice.ensures.value ∙ c.in_ok-named.ensures.widths ∙ arguments_wide c.args.t.now t.widths c.args.args.now c.requires.args in
    subst (λ x. width_of x t.valid ≡ 1) (sym (behind_is s t c.as_slice.result.now c.in_ok-walked.walked.locals.items widths c.in_ok-walked.ensures.context)) c.requires.transition.truth

pub end_of-requires-clause-number : goal.end_of-requires-clause-number
end_of-requires-clause-number g c =
    let s = view_spec c.args.spec.now in
    let t = view_transition c.args.transition.now in
    let widths : map (λ (n : NamedTerm). n.width) c.as_slice.result.now ≡ t.widths =
    ap (map (λ (n : NamedTerm). n.width)) c.as_slice.ensures.value ∙ c.in_ok-named.ensures.widths ∙ arguments_wide c.args.t.now t.widths c.args.args.now c.requires.args in
    subst (λ x. IsResult x t.result_width t.result) (sym (behind_is s t c.as_slice.result.now c.in_ok-walked.walked.locals.items widths c.in_ok-walked.ensures.context)) c.requires.transition.result

pub returns-in_err-end-clause-keeps : goal.returns-in_err-end-clause-keeps
returns-in_err-end-clause-keeps g c = followed c.args.t.now c.walk.new.t c.end_of.new.t c.walk.ensures.keeps c.end_of.ensures.keeps

pub walk_where-requires-clause-point : goal.walk_where-requires-clause-point
walk_where-requires-clause-point g c =
    let s = view_spec c.args.spec.now in
    point_kept s c.args.t.now c.end_of.new.t c.args.state.now c.as_slice.result.now [] [] []
    (begun_point s c.args.t.now c.args.state.now c.as_slice.result.now [] c.requires.over
    (subst (All (IsNamed c.args.t.now)) (sym c.as_slice.ensures.value) c.in_ok-named.ensures.named) (λ k d l. absurd (omega (arith, l))))
    (followed c.args.t.now c.walk.new.t c.end_of.new.t c.walk.ensures.keeps c.end_of.ensures.keeps)

pub walk_where-requires-clause-sorted : goal.walk_where-requires-clause-sorted
walk_where-requires-clause-sorted g c =
    let s = view_spec c.args.spec.now in
    let t = view_transition c.args.transition.now in
    let widths : map (λ (n : NamedTerm). n.width) c.as_slice.result.now ≡ t.widths =
    ap (map (λ (n : NamedTerm). n.width)) c.as_slice.ensures.value ∙ c.in_ok-named.ensures.widths ∙ arguments_wide c.args.t.now t.widths c.args.args.now c.requires.args in
    subst (λ ws. AreLines (over_step s ws) t.lines) (sym widths) c.requires.transition.lines

pub returns-in_err-valid-clause-keeps : goal.returns-in_err-valid-clause-keeps
returns-in_err-valid-clause-keeps g c =
    followed c.args.t.now c.end_of.new.t c.walk_where.new.t (followed c.args.t.now c.walk.new.t c.end_of.new.t c.walk.ensures.keeps c.end_of.ensures.keeps) c.walk_where.ensures.keeps

pub returns-in_err-after-clause-keeps : goal.returns-in_err-after-clause-keeps
returns-in_err-after-clause-keeps g c =
    followed c.args.t.now c.end_of.new.t c.walk_where.new.t (followed c.args.t.now c.walk.new.t c.end_of.new.t c.walk.ensures.keeps c.end_of.ensures.keeps) c.walk_where.ensures.keeps

pub returns-clause-keeps : goal.returns-clause-keeps
returns-clause-keeps g c =
    followed c.args.t.now c.end_of.new.t c.walk_where.new.t (followed c.args.t.now c.walk.new.t c.end_of.new.t c.walk.ensures.keeps c.end_of.ensures.keeps) c.walk_where.ensures.keeps

pub returns-clause-valid : goal.returns-clause-valid
returns-clause-valid g c = let h = c.in_ok-end.ensures.within in omega (arith, h, c.walk_where.ensures.keeps.longer)

pub returns-clause-truth : goal.returns-clause-truth
returns-clause-truth g c = c.walk_where.ensures.keeps.widths c.in_ok-end.end.valid c.in_ok-end.ensures.within ∙ c.in_ok-end.ensures.truth

pub returns-clause-result : goal.returns-clause-result
returns-clause-result g c =
    term_kept c.end_of.new.t c.walk_where.new.t c.args.transition.now.result_width (view_transition c.args.transition.now).result c.in_ok-end.end.result c.walk_where.ensures.keeps c.in_ok-end.ensures.term

pub returns-clause-over : goal.returns-clause-over
returns-clause-over g c =
    let s = view_spec c.args.spec.now in
    let new = c.walk_where.new.t in
    end_over s new c.args.state.now _ c.as_slice-writes.result.now c.in_ok-end.end.valid c.args.transition.now.returns_new c.in_ok-after.ensures
    (state_over_kept s c.args.state.now c.args.t.now new c.requires.over (returns-clause-keeps g c))
    (subst (All (IsWriteOver (field_sorts s) new)) (sym c.as_slice-writes.ensures.value) c.in_ok-valid.ensures.over)
    (returns-clause-valid g c) (returns-clause-truth g c)

pub returns-clause-memory : goal.returns-clause-memory
returns-clause-memory g c = ap (λ x. x.memory) c.in_ok-after.ensures

pub returns-clause-value : goal.returns-clause-value
returns-clause-value g c = λ v still steady.
    let s = view_spec c.args.spec.now in
    let t = view_transition c.args.transition.now in
    let a = c.args.state.now in
    let args = c.args.args.now in
    let old = c.args.t.now in
    let middle = c.end_of.new.t in
    let new = c.walk_where.new.t in
    let named = c.as_slice.result.now in
    let locals = c.in_ok-walked.walked.locals.items in
    let writes = c.as_slice-writes.result.now in
    let valid = c.in_ok-end.end.valid in
    let last = c.walk_where.ensures.keeps in
    let widths : map (λ (n : NamedTerm). n.width) named ≡ t.widths =
    ap (map (λ (n : NamedTerm). n.width)) c.as_slice.ensures.value ∙ c.in_ok-named.ensures.widths ∙ arguments_wide old t.widths args c.requires.args in
    let terms : map (λ (n : NamedTerm). n.term) named ≡ args = ap (map (λ (n : NamedTerm). n.term)) c.as_slice.ensures.value ∙ c.in_ok-named.ensures.terms in
    let begun : LineReads s old a named [] [] [] v (begun_env s old a args v) = begun_reads s old a args named [] v terms still steady (λ u b k d l. absurd (omega (arith, l))) in
    let point : IsPoint s old a named [] [] [] = begun_point s old a named [] c.requires.over (subst (All (IsNamed old)) (sym c.as_slice.ensures.value) c.in_ok-named.ensures.named) (λ k d l. absurd (omega (arith, l))) in
    let truth : (u : Reading) → Agrees formula_base v u → value middle valid u ≡ bit (holds (tree.value (line_context s named locals) (after_lines (line_context s named []) (begun_env s old a args v) t.lines) t.valid)) =
    λ u b. c.in_ok-end.ensures.valid u _ (c.in_ok-walked.ensures.reads u (begun_env s old a args v) (λ w d. begun w (agrees_then _ v u w b d))) in
    let here = truth v (agrees_self _ v) in
    let behind = c.in_ok-walked.ensures.reads v (begun_env s old a args v) begun in
    step_at s t old new a _ args named locals writes valid c.in_ok-end.end.result v c.requires.transition widths c.in_ok-walked.ensures.context
    (last.values valid c.in_ok-end.ensures.within v ∙ here)
    (number_kept middle new c.args.transition.now.result_width t.result c.in_ok-end.end.result v last c.in_ok-end.ensures.term ∙ c.in_ok-end.ensures.number v _ behind)
    c.in_ok-after.ensures
    (subst (All (λ w. (u : Reading) → value new w.guard u ≡ 1)) (sym c.as_slice-writes.ensures.value) c.in_ok-valid.ensures.done)
    (λ e. ap (λ ws. after_writes (field_sorts s) new v ws (state_at s new a v)) c.as_slice-writes.ensures.value
    ∙ c.in_ok-valid.ensures.copy v (begun_env s old a args v)
    (reads_kept s old middle a named [] [] [] point (followed old c.walk.new.t middle c.walk.ensures.keeps c.end_of.ensures.keeps) v (begun_env s old a args v) begun)
    (λ u b. truth u b ∙ sym here ∙ sym (last.values valid c.in_ok-end.ensures.within v) ∙ e))
    (state_kept s a old new v c.requires.over (returns-clause-keeps g c))

pub returns-clause-steady : goal.returns-clause-steady
returns-clause-steady g c =
    end_steady (view_spec c.args.spec.now) (view_transition c.args.transition.now) c.args.t.now c.walk_where.new.t c.args.state.now _ c.args.args.now c.in_ok-end.end.valid c.in_ok-end.end.result c.requires.over
    (returns-clause-keeps g c)
    (ap (λ x. x.memory) c.in_ok-after.ensures)
    (returns-clause-value g c)
