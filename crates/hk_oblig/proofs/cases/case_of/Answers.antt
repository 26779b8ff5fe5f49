use Rattle.std.proofs.Common.{rules, ◌≡◌, slice_index_or, sym, ap, ◌∙◌, subst}
use Rattle.hk_term.specs.Meaning.{reading_of}
use Rattle.spec_tree.specs.View.{view_spec, view_transition}
use Rattle.hk_case.specs.Obligations.{IsCase}
use Rattle.hk_oblig.specs.Cases.{case_at, HasBytes}
use Rattle.hk_oblig.proofs.Turns.{found_at}
use Rattle.hk_oblig.proofs.CaseLaws.{case_shaped, case_given}
use Rattle.hk_oblig.proofs.cases.case_of.Goals as goal

pub case_in-requires-clause-fields : goal.case_in-requires-clause-fields
case_in-requires-clause-fields g c = λ k d l. (c.requires.spec.fields k d l).sort

pub returns-in_err-case-clause-any : goal.returns-in_err-case-clause-any
returns-in_err-case-clause-any g c = λ l t x laid there shape. case_given l.objects (view_spec c.args.spec.now) t c.args.o _ x (c.requires.origins l laid) shape

pub returns-clause-case : goal.returns-clause-case
returns-clause-case g c = λ t there.
    let x = c.index-as_slice-h.result in
    let is : x ≡ slice_index_or c.args.spec.now.transitions c.args.h x = search rules in
    c.in_ok-case.ensures.case ∙ ap (λ u. case_at (g.R.InitialReads.origins c.args.reads.now) (view_spec c.args.spec.now) u c.args.o (reading_of c.args.v.now))
    (found_at view_transition c.args.spec.now.transitions c.args.h x t c.requires.there is there)

pub returns-clause-shape : goal.returns-clause-shape
returns-clause-shape g c = λ l t laid there.
    let x = c.index-as_slice-h.result in
    let s = view_spec c.args.spec.now in
    let is : x ≡ slice_index_or c.args.spec.now.transitions c.args.h x = search rules in
    let xs = g.R.InitialReads.origins c.args.reads.now in
    let same = c.in_ok-case.ensures.case ∙ ap (λ u. case_at xs s u c.args.o (reading_of c.args.v.now))
    (found_at view_transition c.args.spec.now.transitions c.args.h x t c.requires.there is there) in
    subst (IsCase l.objects s t c.args.o) (sym same)
    (case_shaped l.objects s t c.args.o xs (reading_of c.args.v.now) (c.requires.origins l laid) laid.shapes (subst HasBytes same c.in_ok-case.ensures.bytes))

pub returns-clause-any : goal.returns-clause-any
returns-clause-any g c = λ l t x laid there shape. case_given l.objects (view_spec c.args.spec.now) t c.args.o _ x (c.requires.origins l laid) shape
