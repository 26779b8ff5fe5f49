use Rattle.std.proofs.Common.{rules, ◌≡◌, ◌<◌, ◌+◌, sym, ap, ◌∙◌, subst, arith, take, All, length}
use Rattle.hk_term.specs.Meaning as terms
use Rattle.hk_term.specs.Meaning.{Reading}
use Rattle.spec_tree.specs.Plain.{constant, argument, local, bound, entry, all_of, any_of, no_trees, unary, binary, choose, resize, for_all, exists}
use Rattle.spec_tree.specs.declared.expr.Expr.TheVariants.{Const, Arg, Local, Bound, Entry, Kernel, Any, Un, Bin, Choose, Resize, ForAll, Exists, rolls-All, rolls-Const, rolls-Arg, rolls-Local, rolls-Bound, rolls-Entry, rolls-Kernel, rolls-Any, rolls-Un, rolls-Bin, rolls-Choose, rolls-Resize, rolls-ForAll, rolls-Exists}
use Rattle.spec_tree.specs.declared.expr.Expr.TheVariants as variant
use Rattle.spec_ast.specs.declared.kind.BinKind.TheVariants.{Implies}
use Rattle.spec_tree.specs.declared.expr.Expr.TheFolds.{fold-roll-Expr}
use Rattle.spec_tree.specs.View.{view_expr, view_exprs, view_expr_list, view_path, view_steps, view_step_list}
use Rattle.spec_tree.specs.Sorted.{FieldSort, AreTruths, AreSteps, IsSorted, FitsClass, class_of, no_field}
use Rattle.hk_symexpr.specs.Scope.{scope_of, knowing}
use Rattle.hk_symexpr.specs.Naming.{AreLimited, AreIndexTerms, context_of}
use Rattle.hk_symexpr.specs.Made.{AreSorted, AreLimitsOf, IsLimitOf, IsTermOf, step_trees}
use Rattle.hk_symexpr.specs.Paths.{path_tree}
use Rattle.hk_symexpr.proofs.Frames.{followed, unchanged}
use Rattle.hk_symexpr.proofs.Suiting.{lasts_here, term_kept, term_from, where_kept}
use Rattle.hk_symexpr.proofs.Leaves.{known_most_kept}
use Rattle.hk_symexpr.proofs.Joins.{indices_are, indexed_of, truth_small}
use Rattle.hk_symexpr.proofs.Walks.{list_is, step_list_is, step_index, path_is_tree, sorted_at, truths_at, steps_at, limits_turn, limits_end, step_limits_turn, step_limits_end, where_is, names_knowing, all_turn, any_turn, all_end, any_end, term_entered, width_entered, got_is, got_within}
use Rattle.hk_symexpr.proofs.build.+term.Goals as goal

pub term-returns-clause-within : goal.term-returns-clause-within
term-returns-clause-within g t c = (c.in_ok-made.ensures.term (g.R.SymReads.source c.args.reads.now c.args.t.now) c.args.t.now c.lasting.ensures.here).within

pub term-returns-clause-width_is : goal.term-returns-clause-width_is
term-returns-clause-width_is g t c = (c.in_ok-made.ensures.term (g.R.SymReads.source c.args.reads.now c.args.t.now) c.args.t.now c.lasting.ensures.here).width_is

pub term_knowing-returns-clause-term : goal.term_knowing-returns-clause-term
term_knowing-returns-clause-term g t c =
    let S = scope_of c.args.names.now in
    c.in_ok-made.ensures.term (g.R.SymReads.source c.args.reads.now c.args.t.now) c.args.t.now (lasts_here (g.R.SymReads.source c.args.reads.now c.args.t.now) c.args.t.now (knowing S c.args.known.now) (names_knowing c.args.t.now S c.args.known.now c.requires.ready.names c.requires.known))

pub term_where-returns-clause-term : goal.term_where-returns-clause-term
term_where-returns-clause-term g t c = λ base old lasts.
    let S = scope_of c.args.names.now in
    where_is base (g.R.SymReads.source c.args.reads.now c.args.t.now) (context_of (g.R.SymReads.named c.args.reads.now) S) old c.args.t.now c.term_knowing.new.t S c.as_slice-known.result.now c.args.condition c.in_ok-made.made (view_expr c.args.e.now) lasts
    (subst (λ l. (v : Reading) → terms.value c.args.t.now c.args.condition v ≡ 1 → AreLimited c.args.t.now S.known v → AreLimited c.args.t.now l v) (sym c.as_slice-known.ensures.value) c.in_ok-found.ensures.holds)
    c.in_ok-made.ensures.term

pub limited-returns-clause-limit : goal.limited-returns-clause-limit
limited-returns-clause-limit g t c = λ base old lasts.
    let made = c.in_ok-term.ensures.term base old lasts in
    record {
      term = made;
      most = c.most_of-most.ensures base (g.R.SymReads.named c.args.reads.now) old (followed old c.args.t.now c.term.new.t lasts.keeps c.term.ensures.keeps) lasts.names made;
    }

pub indices-each-init : goal.indices-each-init
indices-each-init g t c =
    let S = scope_of c.args.names.now in
    let C = context_of (g.R.SymReads.named c.args.reads.now) S in
    let same : view_expr_list c.args.at.now ≡ view_exprs c.as_slice-items.result.now = list_is c.args.at.now ∙ ap view_exprs (sym c.as_slice-items.ensures.value) in
    record {
      keeps = unchanged c.args.t.now;
      sorted = subst (AreSorted C) same c.requires.sorted;
      limits = λ base old lasts. subst (λ ls. AreLimitsOf base C old S c.args.t.now ls no_trees) (sym c.new-made.ensures.items) tt;
    }

pub indices-each-preserved : goal.indices-each-preserved
indices-each-preserved g t c =
    let S = scope_of c.args.names.now in
    let C = context_of (g.R.SymReads.named c.args.reads.now) S in
    let items = c.as_slice-items.result.now in
    record {
      keeps = followed c.args.t.now c.each.t c.limited.new.t c.each.invariant.keeps c.limited.ensures.keeps;
      sorted = (sorted_at C items c.each.e-index c.e-item.result c.e-item.is c.each-test.true c.each.invariant.sorted).1;
      limits = λ base old lasts. subst (λ ls. AreLimitsOf base C old S c.limited.new.t ls (view_exprs (take (c.each.e-index + 1) items))) (sym c.in_ok-push.ensures.items)
          (limits_turn base C old S c.each.t c.limited.new.t c.each.made.items items c.each.e-index c.in_ok-limit.limit c.e-item.result c.e-item.is c.each-test.true c.limited.ensures.keeps (c.each.invariant.limits base old lasts)
          (c.in_ok-limit.ensures.limit base old (c.lasting.ensures.lasts c.each.t c.each.invariant.keeps base old lasts)));
    }

pub indices-returns-clause-limits : goal.indices-returns-clause-limits
indices-returns-clause-limits g t c = λ base old lasts.
    let S = scope_of c.args.names.now in
    limits_end base (context_of (g.R.SymReads.named c.args.reads.now) S) old S c.each.t c.each.made.items c.args.at.now c.as_slice-items.result.now c.each.e-index c.as_slice-items.ensures.value c.each-test.false (c.each.invariant.limits base old lasts)

pub step_indices-each-init : goal.step_indices-each-init
step_indices-each-init g t c =
    let S = scope_of c.args.names.now in
    let C = context_of (g.R.SymReads.named c.args.reads.now) S in
    let same : view_step_list c.args.steps.now ≡ view_steps c.as_slice-items.result.now = step_list_is c.args.steps.now ∙ ap view_steps (sym c.as_slice-items.ensures.value) in
    record {
      keeps = unchanged c.args.t.now;
      sorted = subst (AreSteps C) same c.requires.sorted;
      limits = λ base old lasts. subst (λ ls. AreLimitsOf base C old S c.args.t.now ls no_trees) (sym c.new-made.ensures.items) tt;
    }

pub step_indices-each-preserved : goal.step_indices-each-preserved
step_indices-each-preserved g t c =
    let S = scope_of c.args.names.now in
    let C = context_of (g.R.SymReads.named c.args.reads.now) S in
    let items = c.as_slice-items.result.now in
    record {
      keeps = followed c.args.t.now c.each.t c.limited.new.t c.each.invariant.keeps c.limited.ensures.keeps;
      sorted = (steps_at C items c.each.step-index c.step-item.result c.step-item.is c.each-test.true c.each.invariant.sorted).1;
      limits = λ base old lasts. subst (λ ls. AreLimitsOf base C old S c.limited.new.t ls (step_trees (view_steps (take (c.each.step-index + 1) items)))) (sym c.in_ok-push.ensures.items)
          (step_limits_turn base C old S c.each.t c.limited.new.t c.each.made.items items c.each.step-index c.in_ok-limit.limit c.step-item.result c.step-item.is c.each-test.true c.limited.ensures.keeps (c.each.invariant.limits base old lasts)
          (subst (IsLimitOf base C old S c.limited.new.t c.in_ok-limit.limit) (sym (step_index c.step-item.result)) (c.in_ok-limit.ensures.limit base old (c.lasting.ensures.lasts c.each.t c.each.invariant.keeps base old lasts))));
    }

pub step_indices-returns-clause-limits : goal.step_indices-returns-clause-limits
step_indices-returns-clause-limits g t c = λ base old lasts.
    let S = scope_of c.args.names.now in
    step_limits_end base (context_of (g.R.SymReads.named c.args.reads.now) S) old S c.each.t c.each.made.items c.args.steps.now c.as_slice-items.result.now c.each.step-index c.as_slice-items.ensures.value c.each-test.false (c.each.invariant.limits base old lasts)

pub all_hold-each-init : goal.all_hold-each-init
all_hold-each-init g t c =
    let S = scope_of c.args.names.now in
    let N = g.R.SymReads.named c.args.reads.now in
    let C = context_of N S in
    let same : view_expr_list c.args.es.now ≡ view_exprs c.as_slice-items.result.now = list_is c.args.es.now ∙ ap view_exprs (sym c.as_slice-items.ensures.value) in
    record {
      keeps = c.number.ensures.keeps;
      within = c.in_ok-made.ensures.within;
      truth = c.in_ok-made.ensures.width;
      known = subst (All (λ k. k.term < length c.number.new.t)) (sym c.in_ok-known.ensures) (c.lasting.ensures.ready c.number.new.t c.number.ensures.keeps).names.known;
      sorted = subst (AreTruths C) same c.requires.sorted;
      all = λ base old lasts. record {
        all = λ v env suits. c.in_ok-made.ensures.value v;
        limits = λ v env suits one. subst (λ l. AreLimited c.number.new.t l v) (sym c.in_ok-known.ensures) (known_most_kept base N old c.number.new.t S (followed old c.args.t.now c.number.new.t lasts.keeps c.number.ensures.keeps) lasts.names v env suits);
      };
    }

pub all_hold-both-requires-clause-first : goal.all_hold-both-requires-clause-first
all_hold-both-requires-clause-first g t c = omega (arith, c.each.invariant.within, c.term_knowing.ensures.keeps.longer)

pub all_hold-both-requires-clause-truth : goal.all_hold-both-requires-clause-truth
all_hold-both-requires-clause-truth g t c = c.term_knowing.ensures.keeps.widths c.each.made c.each.invariant.within ∙ c.each.invariant.truth

pub all_hold-both-requires-clause-other : goal.all_hold-both-requires-clause-other
all_hold-both-requires-clause-other g t c =
    let S = scope_of c.args.names.now in
    let C = context_of (g.R.SymReads.named c.args.reads.now) S in
    c.in_ok-next.ensures.width_is ∙ (truths_at C c.as_slice-items.result.now c.each.e-index c.e-item.result c.e-item.is c.each-test.true c.each.invariant.sorted).1

pub all_hold-learn-requires-clause-condition : goal.all_hold-learn-requires-clause-condition
all_hold-learn-requires-clause-condition g t c = omega (arith, c.in_ok-next.ensures.within, c.both.ensures.keeps.longer)

pub all_hold-learn-requires-clause-truth : goal.all_hold-learn-requires-clause-truth
all_hold-learn-requires-clause-truth g t c =
    let S = scope_of c.args.names.now in
    let C = context_of (g.R.SymReads.named c.args.reads.now) S in
    c.both.ensures.keeps.widths c.in_ok-next.next c.in_ok-next.ensures.within ∙ c.in_ok-next.ensures.width_is ∙ (truths_at C c.as_slice-items.result.now c.each.e-index c.e-item.result c.e-item.is c.each-test.true c.each.invariant.sorted).1

pub all_hold-learn-requires-clause-known : goal.all_hold-learn-requires-clause-known
all_hold-learn-requires-clause-known g t c = λ j d low. omega (arith, c.each.invariant.known j d low, c.term_knowing.ensures.keeps.longer, c.both.ensures.keeps.longer)

pub all_hold-each-preserved : goal.all_hold-each-preserved
all_hold-each-preserved g t c =
    let S = scope_of c.args.names.now in
    let C = context_of (g.R.SymReads.named c.args.reads.now) S in
    let items = c.as_slice-items.result.now in
    let parts = truths_at C items c.each.e-index c.e-item.result c.e-item.is c.each-test.true c.each.invariant.sorted in
    let src = g.R.SymReads.source c.args.reads.now c.each.t in
    let next : IsTermOf src C c.each.t (knowing S c.each.known.items) c.term_knowing.new.t c.in_ok-next.next (view_expr c.e-item.result) =
    subst (λ k. IsTermOf src C c.each.t (knowing S k) c.term_knowing.new.t c.in_ok-next.next (view_expr c.e-item.result)) c.as_slice-now.ensures.value c.in_ok-next.ensures.term in
    record {
      keeps = followed c.args.t.now c.term_knowing.new.t c.both.new.t (followed c.args.t.now c.each.t c.term_knowing.new.t c.each.invariant.keeps c.term_knowing.ensures.keeps) c.both.ensures.keeps;
      within = c.in_ok-made-2.ensures.within;
      truth = c.in_ok-made-2.ensures.width;
      known = c.learn.ensures.known;
      sorted = parts.2;
      all = λ base old lasts.
          all_turn base src C old c.each.t c.term_knowing.new.t c.both.new.t S items c.each.e-index c.e-item.result c.each.made c.in_ok-next.next c.in_ok-made-2.made c.each.known.items c.learn.new.known.items c.e-item.is c.each-test.true
          (c.lasting.ensures.lasts c.each.t c.each.invariant.keeps base old lasts) c.term_knowing.ensures.keeps c.both.ensures.keeps c.each.invariant.within c.each.invariant.known
          (truth_small c.term_knowing.new.t c.in_ok-next.next c.sized-next.result c.sized-next.ensures.width (c.in_ok-next.ensures.width_is ∙ parts.1) c.sized-next.ensures.below)
          (c.each.invariant.all base old lasts) next c.in_ok-made-2.ensures.value c.learn.ensures.holds;
    }

pub all_hold-returns-clause-term : goal.all_hold-returns-clause-term
all_hold-returns-clause-term g t c = λ base old lasts.
    let S = scope_of c.args.names.now in
    all_end base (context_of (g.R.SymReads.named c.args.reads.now) S) old c.each.t S c.args.es.now c.as_slice-items.result.now c.each.e-index c.each.made c.each.known.items c.as_slice-items.ensures.value c.each-test.false c.each.invariant.within c.each.invariant.truth (c.each.invariant.all base old lasts)

pub some_hold-each-init : goal.some_hold-each-init
some_hold-each-init g t c =
    let S = scope_of c.args.names.now in
    let C = context_of (g.R.SymReads.named c.args.reads.now) S in
    let same : view_expr_list c.args.es.now ≡ view_exprs c.as_slice-items.result.now = list_is c.args.es.now ∙ ap view_exprs (sym c.as_slice-items.ensures.value) in
    record {
      keeps = c.number.ensures.keeps;
      within = c.in_ok-made.ensures.within;
      truth = c.in_ok-made.ensures.width;
      sorted = subst (AreTruths C) same c.requires.sorted;
      any = λ base old lasts. record { any = λ v env suits. c.in_ok-made.ensures.value v };
    }

pub some_hold-either-requires-clause-first : goal.some_hold-either-requires-clause-first
some_hold-either-requires-clause-first g t c = omega (arith, c.each.invariant.within, c.term.ensures.keeps.longer)

pub some_hold-either-requires-clause-truth : goal.some_hold-either-requires-clause-truth
some_hold-either-requires-clause-truth g t c = c.term.ensures.keeps.widths c.each.made c.each.invariant.within ∙ c.each.invariant.truth

pub some_hold-either-requires-clause-other : goal.some_hold-either-requires-clause-other
some_hold-either-requires-clause-other g t c =
    let S = scope_of c.args.names.now in
    let C = context_of (g.R.SymReads.named c.args.reads.now) S in
    c.in_ok-next.ensures.width_is ∙ (truths_at C c.as_slice-items.result.now c.each.e-index c.e-item.result c.e-item.is c.each-test.true c.each.invariant.sorted).1

pub some_hold-each-preserved : goal.some_hold-each-preserved
some_hold-each-preserved g t c =
    let S = scope_of c.args.names.now in
    let C = context_of (g.R.SymReads.named c.args.reads.now) S in
    let items = c.as_slice-items.result.now in
    record {
      keeps = followed c.args.t.now c.term.new.t c.either.new.t (followed c.args.t.now c.each.t c.term.new.t c.each.invariant.keeps c.term.ensures.keeps) c.either.ensures.keeps;
      within = c.in_ok-made-2.ensures.within;
      truth = c.in_ok-made-2.ensures.width;
      sorted = (truths_at C items c.each.e-index c.e-item.result c.e-item.is c.each-test.true c.each.invariant.sorted).2;
      any = λ base old lasts.
          any_turn base C old c.each.t c.term.new.t c.either.new.t S items c.each.e-index c.e-item.result c.each.made c.in_ok-next.next c.in_ok-made-2.made c.e-item.is c.each-test.true c.term.ensures.keeps c.each.invariant.within
          (c.each.invariant.any base old lasts) (c.in_ok-next.ensures.term base old (c.lasting.ensures.lasts c.each.t c.each.invariant.keeps base old lasts)) c.in_ok-made-2.ensures.value;
    }

pub some_hold-returns-clause-term : goal.some_hold-returns-clause-term
some_hold-returns-clause-term g t c = λ base old lasts.
    let S = scope_of c.args.names.now in
    any_end base (context_of (g.R.SymReads.named c.args.reads.now) S) old c.each.t S c.args.es.now c.as_slice-items.result.now c.each.e-index c.each.made c.as_slice-items.ensures.value c.each-test.false c.each.invariant.within c.each.invariant.truth (c.each.invariant.any base old lasts)

pub body-returns-clause-term : goal.body-returns-clause-term
body-returns-clause-term g t c = λ base old lasts.
    term_entered base (g.R.SymReads.source c.args.reads.now c.args.t.now) (g.R.SymReads.named c.args.reads.now) old c.args.t.now c.term.new.t (scope_of c.args.names.now) c.as_slice-whole.result.now c.args.sizes.now c.in_ok-made.made (view_expr c.args.e.now)
    (c.as_slice-whole.ensures.value ∙ c.in_ok-all.ensures) c.in_ok-made.ensures.term lasts

pub body-returns-clause-width_is : goal.body-returns-clause-width_is
body-returns-clause-width_is g t c =
    width_entered (g.R.SymReads.named c.args.reads.now) (scope_of c.args.names.now) c.as_slice-whole.result.now c.args.sizes.now (view_expr c.args.e.now) _ (c.as_slice-whole.ensures.value ∙ c.in_ok-all.ensures) c.in_ok-made.ensures.width_is

pub entry-entry-requires-clause-field : goal.entry-entry-requires-clause-field
entry-entry-requires-clause-field g t c = got_within (g.R.SymReads.named c.args.reads.now).fields c.args.field c.requires.sorted.1 c.requires.sorted.2

pub entry-entry-requires-clause-index : goal.entry-entry-requires-clause-index
entry-entry-requires-clause-index g t c =
    let S = scope_of c.args.names.now in
    let C = context_of (g.R.SymReads.named c.args.reads.now) S in
    let src = g.R.SymReads.source c.args.reads.now c.args.t.now in
    let es = view_expr_list c.args.at.now in
    subst (λ (f : FieldSort). AreIndexTerms c.indices.new.t f.keys c.as_slice-terms.result.now) (sym (got_is (g.R.SymReads.named c.args.reads.now).fields c.args.field c.requires.sorted.1 no_field c.requires.sorted.2))
    (indices_are src C c.args.t.now S c.indices.new.t c.requires.sorted.1.keys c.as_slice-terms.result.now es
    (subst (λ ls. AreLimitsOf src C c.args.t.now S c.indices.new.t ls es) (sym c.as_slice-terms.ensures.value) (c.in_ok-index.ensures.limits src c.args.t.now (lasts_here src c.args.t.now S c.requires.ready.names)))
    c.requires.sorted.3)

pub entry-returns-clause-term : goal.entry-returns-clause-term
entry-returns-clause-term g t c = λ base old lasts.
    let S = scope_of c.args.names.now in
    let C = context_of (g.R.SymReads.named c.args.reads.now) S in
    let es = view_expr_list c.args.at.now in
    c.in_ok-made.ensures.term base old es (c.indices.ensures.lasts base old lasts)
    (subst (λ ls. AreLimitsOf base C old S c.indices.new.t ls es) (sym c.as_slice-terms.ensures.value) (c.in_ok-index.ensures.limits base old lasts))

pub load-path-requires-clause-sorted : goal.load-path-requires-clause-sorted
load-path-requires-clause-sorted g t c =
    let S = scope_of c.args.names.now in
    subst (IsSorted (context_of (g.R.SymReads.named c.args.reads.now) S)) (path_is_tree c.args.path.now c.as_slice-steps.result.now c.as_slice-steps.ensures.value) c.requires.sorted

pub load-path-requires-clause-index : goal.load-path-requires-clause-index
load-path-requires-clause-index g t c =
    let S = scope_of c.args.names.now in
    let C = context_of (g.R.SymReads.named c.args.reads.now) S in
    let src = g.R.SymReads.source c.args.reads.now c.args.t.now in
    let same = step_list_is _ ∙ ap view_steps (sym c.as_slice-steps.ensures.value) in
    indexed_of src C c.args.t.now S c.step_indices.new.t c.as_slice-terms.result.now (view_steps c.as_slice-steps.result.now)
    (subst (λ ls. AreLimitsOf src C c.args.t.now S c.step_indices.new.t ls (step_trees (view_steps c.as_slice-steps.result.now))) (sym c.as_slice-terms.ensures.value)
    (subst (λ q. AreLimitsOf src C c.args.t.now S c.step_indices.new.t c.in_ok-index.index.items (step_trees q)) same (c.in_ok-index.ensures.limits src c.args.t.now (lasts_here src c.args.t.now S c.requires.ready.names))))

pub load-returns-clause-term : goal.load-returns-clause-term
load-returns-clause-term g t c = λ base old lasts.
    let S = scope_of c.args.names.now in
    let C = context_of (g.R.SymReads.named c.args.reads.now) S in
    let same = step_list_is _ ∙ ap view_steps (sym c.as_slice-steps.ensures.value) in
    subst (IsTermOf base C old S c.path.new.t c.in_ok-made.made) (sym (path_is_tree c.args.path.now c.as_slice-steps.result.now c.as_slice-steps.ensures.value))
    (c.in_ok-made.ensures.term base old (c.step_indices.ensures.lasts base old lasts)
    (subst (λ ls. AreLimitsOf base C old S c.step_indices.new.t ls (step_trees (view_steps c.as_slice-steps.result.now))) (sym c.as_slice-terms.ensures.value)
    (subst (λ q. AreLimitsOf base C old S c.step_indices.new.t c.in_ok-index.index.items (step_trees q)) same (c.in_ok-index.ensures.limits base old lasts))))

pub build-returns-in_ok-made-in-Un-clause-term : goal.build-returns-in_ok-made-in-Un-clause-term
build-returns-in_ok-made-in-Un-clause-term g t c = λ base old lasts.
    let S = scope_of c.args.names.now in
    let N = g.R.SymReads.named c.args.reads.now in
    let C = context_of N S in
    let view : view_expr (Un c.in-Un.kind c.in-Un.a) ≡ unary c.in-Un.kind (view_expr c.in-Un.a.value) = rw (← rolls-Un c.in-Un.kind c.in-Un.a) (search (rules, fold-roll-Expr)) in
    let here-0 : c.in-Un.a.value ≡ c.deref.result.now = search rules in
    let tree : view_expr c.args.e.now ≡ unary c.in-Un.kind (view_expr c.deref.result.now) = ap view_expr c.in-Un.is ∙ view ∙ (λ i. unary c.in-Un.kind (view_expr (here-0 i))) in
    subst (IsTermOf base C old S c.unary.new.t c.in_ok-made-in-Un.made) (sym tree)
    (c.in_ok-made-in-Un.ensures.term base N old _ (c.in_ok-a-in-Un.ensures.term base old lasts))

pub build-returns-in_ok-made-in-Resize-clause-term : goal.build-returns-in_ok-made-in-Resize-clause-term
build-returns-in_ok-made-in-Resize-clause-term g t c = λ base old lasts.
    let S = scope_of c.args.names.now in
    let N = g.R.SymReads.named c.args.reads.now in
    let C = context_of N S in
    let view : view_expr (Resize c.in-Resize.kind c.in-Resize.a) ≡ resize c.in-Resize.kind (view_expr c.in-Resize.a.value) = rw (← rolls-Resize c.in-Resize.kind c.in-Resize.a) (search (rules, fold-roll-Expr)) in
    let here-0 : c.in-Resize.a.value ≡ c.deref-in-Resize.result.now = search rules in
    let tree : view_expr c.args.e.now ≡ resize c.in-Resize.kind (view_expr c.deref-in-Resize.result.now) = ap view_expr c.in-Resize.is ∙ view ∙ (λ i. resize c.in-Resize.kind (view_expr (here-0 i))) in
    subst (IsTermOf base C old S c.resized.new.t c.in_ok-made-in-Resize.made) (sym tree)
    (c.in_ok-made-in-Resize.ensures.term base N old _ (c.in_ok-a-in-Resize.ensures.term base old lasts))

pub build-returns-in_ok-made-in-ForAll-clause-term : goal.build-returns-in_ok-made-in-ForAll-clause-term
build-returns-in_ok-made-in-ForAll-clause-term g t c = λ base old lasts.
    let S = scope_of c.args.names.now in
    let N = g.R.SymReads.named c.args.reads.now in
    let C = context_of N S in
    let view : view_expr (ForAll c.in-ForAll.sizes c.in-ForAll.a) ≡ for_all c.in-ForAll.sizes (view_expr c.in-ForAll.a.value) = rw (← rolls-ForAll c.in-ForAll.sizes c.in-ForAll.a) (search (rules, fold-roll-Expr)) in
    let here-0 : c.in-ForAll.a.value ≡ c.deref-in-ForAll.result.now = search rules in
    let there : c.in-ForAll.sizes ≡ c.as_slice-counts.result.now = search rules in
    let tree : view_expr c.args.e.now ≡ for_all c.as_slice-counts.result.now (view_expr c.deref-in-ForAll.result.now) = ap view_expr c.in-ForAll.is ∙ view ∙ (λ i. for_all (there i) (view_expr (here-0 i))) in
    subst (IsTermOf base C old S c.for_all.new.t c.in_ok-made-in-ForAll.made) (sym tree)
    (c.in_ok-made-in-ForAll.ensures.term base N old _ (c.in_ok-body-in-ForAll.ensures.term base old lasts))

pub build-returns-in_ok-made-in-Exists-clause-term : goal.build-returns-in_ok-made-in-Exists-clause-term
build-returns-in_ok-made-in-Exists-clause-term g t c = λ base old lasts.
    let S = scope_of c.args.names.now in
    let N = g.R.SymReads.named c.args.reads.now in
    let C = context_of N S in
    let view : view_expr (Exists c.in-Exists.sizes c.in-Exists.a) ≡ exists c.in-Exists.sizes (view_expr c.in-Exists.a.value) = rw (← rolls-Exists c.in-Exists.sizes c.in-Exists.a) (search (rules, fold-roll-Expr)) in
    let here-0 : c.in-Exists.a.value ≡ c.deref-in-Exists.result.now = search rules in
    let there : c.in-Exists.sizes ≡ c.as_slice-bounds.result.now = search rules in
    let tree : view_expr c.args.e.now ≡ exists c.as_slice-bounds.result.now (view_expr c.deref-in-Exists.result.now) = ap view_expr c.in-Exists.is ∙ view ∙ (λ i. exists (there i) (view_expr (here-0 i))) in
    subst (IsTermOf base C old S c.exists.new.t c.in_ok-made-in-Exists.made) (sym tree)
    (c.in_ok-made-in-Exists.ensures.term base N old _ (c.in_ok-body-in-Exists.ensures.term base old lasts))

pub build-returns-in_ok-made-in-Bin-clause-term : goal.build-returns-in_ok-made-in-Bin-clause-term
build-returns-in_ok-made-in-Bin-clause-term g t c = λ base old lasts.
    let S = scope_of c.args.names.now in
    let N = g.R.SymReads.named c.args.reads.now in
    let C = context_of N S in
    let view : view_expr (Bin c.in-Bin.kind c.in-Bin.a c.in-Bin.b) ≡ binary c.in-Bin.kind (view_expr c.in-Bin.a.value) (view_expr c.in-Bin.b.value) = rw (← rolls-Bin c.in-Bin.kind c.in-Bin.a c.in-Bin.b) (search (rules, fold-roll-Expr)) in
    let kind : c.in-Bin.kind ≡ Implies = search rules in
    let here-0 : c.in-Bin.a.value ≡ c.deref-in-Bin.result.now = search rules in
    let here-1 : c.in-Bin.b.value ≡ c.deref-then-is_implication.result.now = search rules in
    let tree : view_expr c.args.e.now ≡ binary Implies (view_expr c.deref-in-Bin.result.now) (view_expr c.deref-then-is_implication.result.now) = ap view_expr c.in-Bin.is ∙ view ∙ (λ i. binary (kind i) (view_expr (here-0 i)) (view_expr (here-1 i))) in
    subst (IsTermOf base C old S c.implied.new.t c.in_ok-made-in-Bin.made) (sym tree)
    (c.in_ok-made-in-Bin.ensures.term base N old _ _
    (term_kept base C old S c.term-in-Bin.new.t c.term_where.new.t c.in_ok-a-in-Bin.a _ c.term_where.ensures.keeps (c.in_ok-a-in-Bin.ensures.term base old lasts))
    (where_kept base C old S c.term-in-Bin.new.t c.term_where.new.t c.term_where.new.t c.term_where.new.t c.in_ok-a-in-Bin.a c.in_ok-b-in-Bin.b _ c.term_where.ensures.keeps c.in_ok-a-in-Bin.ensures.within (unchanged c.term_where.new.t)
    (c.in_ok-b-in-Bin.ensures.term base old (c.term-in-Bin.ensures.lasts base old lasts))))

pub build-returns-in_ok-made-in-Bin-2-clause-term : goal.build-returns-in_ok-made-in-Bin-2-clause-term
build-returns-in_ok-made-in-Bin-2-clause-term g t c = λ base old lasts.
    let S = scope_of c.args.names.now in
    let N = g.R.SymReads.named c.args.reads.now in
    let C = context_of N S in
    let view : view_expr (Bin c.in-Bin.kind c.in-Bin.a c.in-Bin.b) ≡ binary c.in-Bin.kind (view_expr c.in-Bin.a.value) (view_expr c.in-Bin.b.value) = rw (← rolls-Bin c.in-Bin.kind c.in-Bin.a c.in-Bin.b) (search (rules, fold-roll-Expr)) in
    let here-0 : c.in-Bin.a.value ≡ c.deref-in-Bin.result.now = search rules in
    let here-1 : c.in-Bin.b.value ≡ c.deref-else-is_implication.result.now = search rules in
    let tree : view_expr c.args.e.now ≡ binary c.in-Bin.kind (view_expr c.deref-in-Bin.result.now) (view_expr c.deref-else-is_implication.result.now) = ap view_expr c.in-Bin.is ∙ view ∙ (λ i. binary c.in-Bin.kind (view_expr (here-0 i)) (view_expr (here-1 i))) in
    subst (IsTermOf base C old S c.binary.new.t c.in_ok-made-in-Bin-2.made) (sym tree)
    (c.in_ok-made-in-Bin-2.ensures.term base N old _ _
    (term_kept base C old S c.term-in-Bin.new.t c.term-else-is_implication.new.t c.in_ok-a-in-Bin.a _ c.term-else-is_implication.ensures.keeps (c.in_ok-a-in-Bin.ensures.term base old lasts))
    (c.in_ok-b-in-Bin-2.ensures.term base old (c.term-in-Bin.ensures.lasts base old lasts)))

pub build-returns-in_ok-made-in-Choose-clause-term : goal.build-returns-in_ok-made-in-Choose-clause-term
build-returns-in_ok-made-in-Choose-clause-term g t c = λ base old lasts.
    let S = scope_of c.args.names.now in
    let N = g.R.SymReads.named c.args.reads.now in
    let C = context_of N S in
    let view : view_expr (Choose c.in-Choose.test c.in-Choose.a c.in-Choose.b) ≡ choose (view_expr c.in-Choose.test.value) (view_expr c.in-Choose.a.value) (view_expr c.in-Choose.b.value) = rw (← rolls-Choose c.in-Choose.test c.in-Choose.a c.in-Choose.b) (search (rules, fold-roll-Expr)) in
    let here-0 : c.in-Choose.test.value ≡ c.deref-in-Choose.result.now = search rules in
    let here-1 : c.in-Choose.a.value ≡ c.deref-in-Choose-2.result.now = search rules in
    let here-2 : c.in-Choose.b.value ≡ c.deref-in-Choose-3.result.now = search rules in
    let tree : view_expr c.args.e.now ≡ choose (view_expr c.deref-in-Choose.result.now) (view_expr c.deref-in-Choose-2.result.now) (view_expr c.deref-in-Choose-3.result.now) = ap view_expr c.in-Choose.is ∙ view ∙ (λ i. choose (view_expr (here-0 i)) (view_expr (here-1 i)) (view_expr (here-2 i))) in
    subst (IsTermOf base C old S c.choice.new.t c.in_ok-made-in-Choose.made) (sym tree)
    (c.in_ok-made-in-Choose.ensures.term base N old _ _ _
    (term_kept base C old S c.term-in-Choose.new.t c.term-in-Choose-2.new.t c.in_ok-test-in-Choose.test _ (followed c.term-in-Choose.new.t c.term_where-in-Choose.new.t c.term-in-Choose-2.new.t c.term_where-in-Choose.ensures.keeps c.term-in-Choose-2.ensures.keeps) (c.in_ok-test-in-Choose.ensures.term base old lasts))
    (where_kept base C old S c.term-in-Choose.new.t c.term-in-Choose-2.new.t c.term_where-in-Choose.new.t c.term-in-Choose-2.new.t c.in_ok-test-in-Choose.test c.in_ok-a-in-Choose.a _ (followed c.term-in-Choose.new.t c.term_where-in-Choose.new.t c.term-in-Choose-2.new.t c.term_where-in-Choose.ensures.keeps c.term-in-Choose-2.ensures.keeps) c.in_ok-test-in-Choose.ensures.within c.term-in-Choose-2.ensures.keeps
    (c.in_ok-a-in-Choose.ensures.term base old (c.term-in-Choose.ensures.lasts base old lasts)))
    (c.in_ok-b-in-Choose.ensures.term base old (c.term_where-in-Choose.ensures.lasts base old (c.term-in-Choose.ensures.lasts base old lasts))))

pub build-binary-requires-clause-first : goal.build-binary-requires-clause-first
build-binary-requires-clause-first g t c = omega (arith, c.in_ok-a-in-Bin.ensures.within, c.term-else-is_implication.ensures.keeps.longer)

pub build-binary-requires-clause-widths : goal.build-binary-requires-clause-widths
build-binary-requires-clause-widths g t c =
    let S = scope_of c.args.names.now in
    let C = context_of (g.R.SymReads.named c.args.reads.now) S in
    let view : view_expr (Bin c.in-Bin.kind c.in-Bin.a c.in-Bin.b) ≡ binary c.in-Bin.kind (view_expr c.in-Bin.a.value) (view_expr c.in-Bin.b.value) = rw (← rolls-Bin c.in-Bin.kind c.in-Bin.a c.in-Bin.b) (search (rules, fold-roll-Expr)) in
    let here-0 : c.in-Bin.a.value ≡ c.deref-in-Bin.result.now = search rules in
    let here-1 : c.in-Bin.b.value ≡ c.deref-else-is_implication.result.now = search rules in
    let tree : view_expr c.args.e.now ≡ binary c.in-Bin.kind (view_expr c.deref-in-Bin.result.now) (view_expr c.deref-else-is_implication.result.now) = ap view_expr c.in-Bin.is ∙ view ∙ (λ i. binary c.in-Bin.kind (view_expr (here-0 i)) (view_expr (here-1 i))) in
    let sorted = subst (IsSorted C) tree c.requires.sorted in
    c.term-else-is_implication.ensures.keeps.widths c.in_ok-a-in-Bin.a c.in_ok-a-in-Bin.ensures.within ∙ c.in_ok-a-in-Bin.ensures.width_is ∙ sorted.2 ∙ sym c.in_ok-b-in-Bin-2.ensures.width_is

pub build-binary-requires-clause-kind : goal.build-binary-requires-clause-kind
build-binary-requires-clause-kind g t c =
    let S = scope_of c.args.names.now in
    let C = context_of (g.R.SymReads.named c.args.reads.now) S in
    let view : view_expr (Bin c.in-Bin.kind c.in-Bin.a c.in-Bin.b) ≡ binary c.in-Bin.kind (view_expr c.in-Bin.a.value) (view_expr c.in-Bin.b.value) = rw (← rolls-Bin c.in-Bin.kind c.in-Bin.a c.in-Bin.b) (search (rules, fold-roll-Expr)) in
    let here-0 : c.in-Bin.a.value ≡ c.deref-in-Bin.result.now = search rules in
    let here-1 : c.in-Bin.b.value ≡ c.deref-else-is_implication.result.now = search rules in
    let tree : view_expr c.args.e.now ≡ binary c.in-Bin.kind (view_expr c.deref-in-Bin.result.now) (view_expr c.deref-else-is_implication.result.now) = ap view_expr c.in-Bin.is ∙ view ∙ (λ i. binary c.in-Bin.kind (view_expr (here-0 i)) (view_expr (here-1 i))) in
    let sorted = subst (IsSorted C) tree c.requires.sorted in
    subst (FitsClass (class_of c.in-Bin.kind)) (sym (c.term-else-is_implication.ensures.keeps.widths c.in_ok-a-in-Bin.a c.in_ok-a-in-Bin.ensures.within ∙ c.in_ok-a-in-Bin.ensures.width_is)) sorted.3

pub build-choice-requires-clause-test : goal.build-choice-requires-clause-test
build-choice-requires-clause-test g t c = omega (arith, c.in_ok-test-in-Choose.ensures.within, c.term_where-in-Choose.ensures.keeps.longer, c.term-in-Choose-2.ensures.keeps.longer)

pub build-choice-requires-clause-first : goal.build-choice-requires-clause-first
build-choice-requires-clause-first g t c = omega (arith, c.in_ok-a-in-Choose.ensures.within, c.term-in-Choose-2.ensures.keeps.longer)

pub build-choice-requires-clause-truth : goal.build-choice-requires-clause-truth
build-choice-requires-clause-truth g t c =
    let S = scope_of c.args.names.now in
    let C = context_of (g.R.SymReads.named c.args.reads.now) S in
    let view : view_expr (Choose c.in-Choose.test c.in-Choose.a c.in-Choose.b) ≡ choose (view_expr c.in-Choose.test.value) (view_expr c.in-Choose.a.value) (view_expr c.in-Choose.b.value) = rw (← rolls-Choose c.in-Choose.test c.in-Choose.a c.in-Choose.b) (search (rules, fold-roll-Expr)) in
    let here-0 : c.in-Choose.test.value ≡ c.deref-in-Choose.result.now = search rules in
    let here-1 : c.in-Choose.a.value ≡ c.deref-in-Choose-2.result.now = search rules in
    let here-2 : c.in-Choose.b.value ≡ c.deref-in-Choose-3.result.now = search rules in
    let tree : view_expr c.args.e.now ≡ choose (view_expr c.deref-in-Choose.result.now) (view_expr c.deref-in-Choose-2.result.now) (view_expr c.deref-in-Choose-3.result.now) = ap view_expr c.in-Choose.is ∙ view ∙ (λ i. choose (view_expr (here-0 i)) (view_expr (here-1 i)) (view_expr (here-2 i))) in
    let sorted = subst (IsSorted C) tree c.requires.sorted in
    c.term-in-Choose-2.ensures.keeps.widths c.in_ok-test-in-Choose.test (omega (arith, c.in_ok-test-in-Choose.ensures.within, c.term_where-in-Choose.ensures.keeps.longer))
    ∙ c.term_where-in-Choose.ensures.keeps.widths c.in_ok-test-in-Choose.test c.in_ok-test-in-Choose.ensures.within ∙ c.in_ok-test-in-Choose.ensures.width_is ∙ sorted.1

pub build-choice-requires-clause-widths : goal.build-choice-requires-clause-widths
build-choice-requires-clause-widths g t c =
    let S = scope_of c.args.names.now in
    let C = context_of (g.R.SymReads.named c.args.reads.now) S in
    let view : view_expr (Choose c.in-Choose.test c.in-Choose.a c.in-Choose.b) ≡ choose (view_expr c.in-Choose.test.value) (view_expr c.in-Choose.a.value) (view_expr c.in-Choose.b.value) = rw (← rolls-Choose c.in-Choose.test c.in-Choose.a c.in-Choose.b) (search (rules, fold-roll-Expr)) in
    let here-0 : c.in-Choose.test.value ≡ c.deref-in-Choose.result.now = search rules in
    let here-1 : c.in-Choose.a.value ≡ c.deref-in-Choose-2.result.now = search rules in
    let here-2 : c.in-Choose.b.value ≡ c.deref-in-Choose-3.result.now = search rules in
    let tree : view_expr c.args.e.now ≡ choose (view_expr c.deref-in-Choose.result.now) (view_expr c.deref-in-Choose-2.result.now) (view_expr c.deref-in-Choose-3.result.now) = ap view_expr c.in-Choose.is ∙ view ∙ (λ i. choose (view_expr (here-0 i)) (view_expr (here-1 i)) (view_expr (here-2 i))) in
    let sorted = subst (IsSorted C) tree c.requires.sorted in
    c.term-in-Choose-2.ensures.keeps.widths c.in_ok-a-in-Choose.a c.in_ok-a-in-Choose.ensures.within ∙ c.in_ok-a-in-Choose.ensures.width_is ∙ sorted.4 ∙ sym c.in_ok-b-in-Choose.ensures.width_is

pub all_hold-returns-in_err-learn-clause-keeps : goal.all_hold-returns-in_err-learn-clause-keeps
all_hold-returns-in_err-learn-clause-keeps g t c = followed c.args.t.now c.term_knowing.new.t c.both.new.t (followed c.args.t.now c.each.t c.term_knowing.new.t c.each.invariant.keeps c.term_knowing.ensures.keeps) c.both.ensures.keeps

pub all_hold-returns-in_err-made-2-clause-keeps : goal.all_hold-returns-in_err-made-2-clause-keeps
all_hold-returns-in_err-made-2-clause-keeps g t c = followed c.args.t.now c.term_knowing.new.t c.both.new.t (followed c.args.t.now c.each.t c.term_knowing.new.t c.each.invariant.keeps c.term_knowing.ensures.keeps) c.both.ensures.keeps

pub all_hold-returns-in_err-next-clause-keeps : goal.all_hold-returns-in_err-next-clause-keeps
all_hold-returns-in_err-next-clause-keeps g t c = followed c.args.t.now c.each.t c.term_knowing.new.t c.each.invariant.keeps c.term_knowing.ensures.keeps

pub body-returns-in_err-all-clause-keeps : goal.body-returns-in_err-all-clause-keeps
body-returns-in_err-all-clause-keeps g t c = unchanged c.args.t.now

pub body-returns-then-not-is_room-clause-keeps : goal.body-returns-then-not-is_room-clause-keeps
body-returns-then-not-is_room-clause-keeps g t c = unchanged c.args.t.now

pub build-returns-in-Arg-clause-keeps : goal.build-returns-in-Arg-clause-keeps
build-returns-in-Arg-clause-keeps g t c = unchanged c.args.t.now

pub build-returns-in-Local-clause-keeps : goal.build-returns-in-Local-clause-keeps
build-returns-in-Local-clause-keeps g t c = unchanged c.args.t.now

pub build-returns-in_err-a-in-Choose-clause-keeps : goal.build-returns-in_err-a-in-Choose-clause-keeps
build-returns-in_err-a-in-Choose-clause-keeps g t c = followed c.args.t.now c.term-in-Choose.new.t c.term_where-in-Choose.new.t c.term-in-Choose.ensures.keeps c.term_where-in-Choose.ensures.keeps

pub build-returns-in_err-b-in-Choose-clause-keeps : goal.build-returns-in_err-b-in-Choose-clause-keeps
build-returns-in_err-b-in-Choose-clause-keeps g t c = followed c.args.t.now c.term_where-in-Choose.new.t c.term-in-Choose-2.new.t (followed c.args.t.now c.term-in-Choose.new.t c.term_where-in-Choose.new.t c.term-in-Choose.ensures.keeps c.term_where-in-Choose.ensures.keeps) c.term-in-Choose-2.ensures.keeps

pub build-returns-in_err-made-in-Choose-clause-keeps : goal.build-returns-in_err-made-in-Choose-clause-keeps
build-returns-in_err-made-in-Choose-clause-keeps g t c = followed c.args.t.now c.term-in-Choose-2.new.t c.choice.new.t (followed c.args.t.now c.term_where-in-Choose.new.t c.term-in-Choose-2.new.t (followed c.args.t.now c.term-in-Choose.new.t c.term_where-in-Choose.new.t c.term-in-Choose.ensures.keeps c.term_where-in-Choose.ensures.keeps) c.term-in-Choose-2.ensures.keeps) c.choice.ensures.keeps

pub build-returns-in_err-made-in-Exists-clause-keeps : goal.build-returns-in_err-made-in-Exists-clause-keeps
build-returns-in_err-made-in-Exists-clause-keeps g t c = followed c.args.t.now c.body-in-Exists.new.t c.exists.new.t c.body-in-Exists.ensures.keeps c.exists.ensures.keeps

pub build-returns-in_err-made-in-ForAll-clause-keeps : goal.build-returns-in_err-made-in-ForAll-clause-keeps
build-returns-in_err-made-in-ForAll-clause-keeps g t c = followed c.args.t.now c.body.new.t c.for_all.new.t c.body.ensures.keeps c.for_all.ensures.keeps

pub build-returns-in_err-made-in-Resize-clause-keeps : goal.build-returns-in_err-made-in-Resize-clause-keeps
build-returns-in_err-made-in-Resize-clause-keeps g t c = followed c.args.t.now c.term-in-Resize.new.t c.resized.new.t c.term-in-Resize.ensures.keeps c.resized.ensures.keeps

pub build-returns-in_err-made-in-Un-clause-keeps : goal.build-returns-in_err-made-in-Un-clause-keeps
build-returns-in_err-made-in-Un-clause-keeps g t c = followed c.args.t.now c.term.new.t c.unary.new.t c.term.ensures.keeps c.unary.ensures.keeps

pub build-returns-in_ok-made-in-Choose-clause-keeps : goal.build-returns-in_ok-made-in-Choose-clause-keeps
build-returns-in_ok-made-in-Choose-clause-keeps g t c = followed c.args.t.now c.term-in-Choose-2.new.t c.choice.new.t (followed c.args.t.now c.term_where-in-Choose.new.t c.term-in-Choose-2.new.t (followed c.args.t.now c.term-in-Choose.new.t c.term_where-in-Choose.new.t c.term-in-Choose.ensures.keeps c.term_where-in-Choose.ensures.keeps) c.term-in-Choose-2.ensures.keeps) c.choice.ensures.keeps

pub build-returns-in_ok-made-in-Exists-clause-keeps : goal.build-returns-in_ok-made-in-Exists-clause-keeps
build-returns-in_ok-made-in-Exists-clause-keeps g t c = followed c.args.t.now c.body-in-Exists.new.t c.exists.new.t c.body-in-Exists.ensures.keeps c.exists.ensures.keeps

pub build-returns-in_ok-made-in-ForAll-clause-keeps : goal.build-returns-in_ok-made-in-ForAll-clause-keeps
build-returns-in_ok-made-in-ForAll-clause-keeps g t c = followed c.args.t.now c.body.new.t c.for_all.new.t c.body.ensures.keeps c.for_all.ensures.keeps

pub build-returns-in_ok-made-in-Resize-clause-keeps : goal.build-returns-in_ok-made-in-Resize-clause-keeps
build-returns-in_ok-made-in-Resize-clause-keeps g t c = followed c.args.t.now c.term-in-Resize.new.t c.resized.new.t c.term-in-Resize.ensures.keeps c.resized.ensures.keeps

pub build-returns-in_ok-made-in-Un-clause-keeps : goal.build-returns-in_ok-made-in-Un-clause-keeps
build-returns-in_ok-made-in-Un-clause-keeps g t c = followed c.args.t.now c.term.new.t c.unary.new.t c.term.ensures.keeps c.unary.ensures.keeps

pub entry-returns-clause-keeps : goal.entry-returns-clause-keeps
entry-returns-clause-keeps g t c = followed c.args.t.now c.indices.new.t c.entry.new.t c.indices.ensures.keeps c.entry.ensures.keeps

pub entry-returns-in_err-made-clause-keeps : goal.entry-returns-in_err-made-clause-keeps
entry-returns-in_err-made-clause-keeps g t c = followed c.args.t.now c.indices.new.t c.entry.new.t c.indices.ensures.keeps c.entry.ensures.keeps

pub indices-returns-clause-lasts : goal.indices-returns-clause-lasts
indices-returns-clause-lasts g t c = c.lasting.ensures.lasts c.each.t c.each.invariant.keeps

pub indices-returns-clause-over : goal.indices-returns-clause-over
indices-returns-clause-over g t c = c.lasting.ensures.over c.each.t c.each.invariant.keeps

pub indices-returns-clause-ready : goal.indices-returns-clause-ready
indices-returns-clause-ready g t c = c.lasting.ensures.ready c.each.t c.each.invariant.keeps

pub indices-returns-in_err-limit-clause-keeps : goal.indices-returns-in_err-limit-clause-keeps
indices-returns-in_err-limit-clause-keeps g t c = followed c.args.t.now c.each.t c.limited.new.t c.each.invariant.keeps c.limited.ensures.keeps

pub indices-returns-in_err-limit-clause-lasts : goal.indices-returns-in_err-limit-clause-lasts
indices-returns-in_err-limit-clause-lasts g t c = λ base old h. c.limited.ensures.lasts base old (c.lasting.ensures.lasts c.each.t c.each.invariant.keeps base old h)

pub indices-returns-in_err-push-clause-keeps : goal.indices-returns-in_err-push-clause-keeps
indices-returns-in_err-push-clause-keeps g t c = followed c.args.t.now c.each.t c.limited.new.t c.each.invariant.keeps c.limited.ensures.keeps

pub indices-returns-in_err-push-clause-lasts : goal.indices-returns-in_err-push-clause-lasts
indices-returns-in_err-push-clause-lasts g t c = λ base old h. c.limited.ensures.lasts base old (c.lasting.ensures.lasts c.each.t c.each.invariant.keeps base old h)

pub load-returns-clause-keeps : goal.load-returns-clause-keeps
load-returns-clause-keeps g t c = followed c.args.t.now c.step_indices.new.t c.path.new.t c.step_indices.ensures.keeps c.path.ensures.keeps

pub load-returns-in_err-made-clause-keeps : goal.load-returns-in_err-made-clause-keeps
load-returns-in_err-made-clause-keeps g t c = followed c.args.t.now c.step_indices.new.t c.path.new.t c.step_indices.ensures.keeps c.path.ensures.keeps

pub some_hold-returns-in_err-made-2-clause-keeps : goal.some_hold-returns-in_err-made-2-clause-keeps
some_hold-returns-in_err-made-2-clause-keeps g t c = followed c.args.t.now c.term.new.t c.either.new.t (followed c.args.t.now c.each.t c.term.new.t c.each.invariant.keeps c.term.ensures.keeps) c.either.ensures.keeps

pub some_hold-returns-in_err-next-clause-keeps : goal.some_hold-returns-in_err-next-clause-keeps
some_hold-returns-in_err-next-clause-keeps g t c = followed c.args.t.now c.each.t c.term.new.t c.each.invariant.keeps c.term.ensures.keeps

pub step_indices-returns-clause-lasts : goal.step_indices-returns-clause-lasts
step_indices-returns-clause-lasts g t c = c.lasting.ensures.lasts c.each.t c.each.invariant.keeps

pub step_indices-returns-clause-over : goal.step_indices-returns-clause-over
step_indices-returns-clause-over g t c = c.lasting.ensures.over c.each.t c.each.invariant.keeps

pub step_indices-returns-clause-ready : goal.step_indices-returns-clause-ready
step_indices-returns-clause-ready g t c = c.lasting.ensures.ready c.each.t c.each.invariant.keeps

pub step_indices-returns-in_err-limit-clause-keeps : goal.step_indices-returns-in_err-limit-clause-keeps
step_indices-returns-in_err-limit-clause-keeps g t c = followed c.args.t.now c.each.t c.limited.new.t c.each.invariant.keeps c.limited.ensures.keeps

pub step_indices-returns-in_err-limit-clause-lasts : goal.step_indices-returns-in_err-limit-clause-lasts
step_indices-returns-in_err-limit-clause-lasts g t c = λ base old h. c.limited.ensures.lasts base old (c.lasting.ensures.lasts c.each.t c.each.invariant.keeps base old h)

pub step_indices-returns-in_err-push-clause-keeps : goal.step_indices-returns-in_err-push-clause-keeps
step_indices-returns-in_err-push-clause-keeps g t c = followed c.args.t.now c.each.t c.limited.new.t c.each.invariant.keeps c.limited.ensures.keeps

pub step_indices-returns-in_err-push-clause-lasts : goal.step_indices-returns-in_err-push-clause-lasts
step_indices-returns-in_err-push-clause-lasts g t c = λ base old h. c.limited.ensures.lasts base old (c.lasting.ensures.lasts c.each.t c.each.invariant.keeps base old h)

pub term-returns-clause-lasts : goal.term-returns-clause-lasts
term-returns-clause-lasts g t c = c.lasting.ensures.lasts c.build.new.t c.build.ensures.keeps

pub term-returns-clause-over : goal.term-returns-clause-over
term-returns-clause-over g t c = c.lasting.ensures.over c.build.new.t c.build.ensures.keeps

pub term-returns-clause-ready : goal.term-returns-clause-ready
term-returns-clause-ready g t c = c.lasting.ensures.ready c.build.new.t c.build.ensures.keeps

pub term-returns-in_err-made-clause-lasts : goal.term-returns-in_err-made-clause-lasts
term-returns-in_err-made-clause-lasts g t c = c.lasting.ensures.lasts c.build.new.t c.build.ensures.keeps

pub term-returns-in_err-made-clause-over : goal.term-returns-in_err-made-clause-over
term-returns-in_err-made-clause-over g t c = c.lasting.ensures.over c.build.new.t c.build.ensures.keeps

pub term-returns-in_err-made-clause-ready : goal.term-returns-in_err-made-clause-ready
term-returns-in_err-made-clause-ready g t c = c.lasting.ensures.ready c.build.new.t c.build.ensures.keeps

pub term_knowing-returns-clause-lasts : goal.term_knowing-returns-clause-lasts
term_knowing-returns-clause-lasts g t c = c.lasting.ensures.lasts c.term.new.t c.term.ensures.keeps

pub term_knowing-returns-clause-over : goal.term_knowing-returns-clause-over
term_knowing-returns-clause-over g t c = c.lasting.ensures.over c.term.new.t c.term.ensures.keeps

pub term_knowing-returns-clause-ready : goal.term_knowing-returns-clause-ready
term_knowing-returns-clause-ready g t c = c.lasting.ensures.ready c.term.new.t c.term.ensures.keeps

pub term_knowing-returns-in_err-made-clause-lasts : goal.term_knowing-returns-in_err-made-clause-lasts
term_knowing-returns-in_err-made-clause-lasts g t c = c.lasting.ensures.lasts c.term.new.t c.term.ensures.keeps

pub term_knowing-returns-in_err-made-clause-over : goal.term_knowing-returns-in_err-made-clause-over
term_knowing-returns-in_err-made-clause-over g t c = c.lasting.ensures.over c.term.new.t c.term.ensures.keeps

pub term_knowing-returns-in_err-made-clause-ready : goal.term_knowing-returns-in_err-made-clause-ready
term_knowing-returns-in_err-made-clause-ready g t c = c.lasting.ensures.ready c.term.new.t c.term.ensures.keeps

pub term_where-returns-in_err-found-clause-keeps : goal.term_where-returns-in_err-found-clause-keeps
term_where-returns-in_err-found-clause-keeps g t c = unchanged c.args.t.now

pub term_where-returns-in_err-found-clause-lasts : goal.term_where-returns-in_err-found-clause-lasts
term_where-returns-in_err-found-clause-lasts g t c = λ base old h. h

pub build-returns-in_ok-made-in-Const-clause-term : goal.build-returns-in_ok-made-in-Const-clause-term
build-returns-in_ok-made-in-Const-clause-term g t c = λ base old lasts.
    let S = scope_of c.args.names.now in
    let N = g.R.SymReads.named c.args.reads.now in
    let C = context_of N S in
    let view : view_expr (Const c.in-Const.width c.in-Const.n) ≡ constant c.in-Const.width c.in-Const.n = rw (← rolls-Const c.in-Const.width c.in-Const.n) (search (rules, fold-roll-Expr)) in
    subst (IsTermOf base C old S c.constant.new.t c.in_ok-made-in-Const.made) (sym (ap view_expr c.in-Const.is ∙ view))
    (c.in_ok-made-in-Const.ensures.term base N old)

pub build-returns-in-Arg-clause-term : goal.build-returns-in-Arg-clause-term
build-returns-in-Arg-clause-term g t c = λ base old lasts.
    let S = scope_of c.args.names.now in
    let N = g.R.SymReads.named c.args.reads.now in
    let C = context_of N S in
    let src = g.R.SymReads.source c.args.reads.now c.args.t.now in
    let view : view_expr (Arg c.in-Arg.k) ≡ argument c.in-Arg.k = rw (← rolls-Arg c.in-Arg.k) (search (rules, fold-roll-Expr)) in
    subst (IsTermOf base C old S c.args.t.now c.argument.result) (sym (ap view_expr c.in-Arg.is ∙ view))
    (term_from base old src c.args.t.now S C c.args.t.now c.argument.result (argument c.in-Arg.k) lasts (c.argument.ensures src N))

pub build-returns-in-Local-clause-term : goal.build-returns-in-Local-clause-term
build-returns-in-Local-clause-term g t c = λ base old lasts.
    let S = scope_of c.args.names.now in
    let N = g.R.SymReads.named c.args.reads.now in
    let C = context_of N S in
    let src = g.R.SymReads.source c.args.reads.now c.args.t.now in
    let view : view_expr (Local c.in-Local.k) ≡ local c.in-Local.k = rw (← rolls-Local c.in-Local.k) (search (rules, fold-roll-Expr)) in
    subst (IsTermOf base C old S c.args.t.now c.local.result) (sym (ap view_expr c.in-Local.is ∙ view))
    (term_from base old src c.args.t.now S C c.args.t.now c.local.result (local c.in-Local.k) lasts (c.local.ensures src N))

pub build-returns-in_ok-made-in-Bound-clause-term : goal.build-returns-in_ok-made-in-Bound-clause-term
build-returns-in_ok-made-in-Bound-clause-term g t c = λ base old lasts.
    let S = scope_of c.args.names.now in
    let N = g.R.SymReads.named c.args.reads.now in
    let C = context_of N S in
    let src = g.R.SymReads.source c.args.reads.now c.args.t.now in
    let view : view_expr (Bound c.in-Bound.k c.in-Bound.width) ≡ bound c.in-Bound.k c.in-Bound.width = rw (← rolls-Bound c.in-Bound.k c.in-Bound.width) (search (rules, fold-roll-Expr)) in
    subst (IsTermOf base C old S c.variable.new.t c.in_ok-made-in-Bound.made) (sym (ap view_expr c.in-Bound.is ∙ view))
    (term_from base old src c.args.t.now S C c.variable.new.t c.in_ok-made-in-Bound.made (bound c.in-Bound.k c.in-Bound.width) lasts (c.in_ok-made-in-Bound.ensures.term src N))

pub build-returns-in_ok-made-in-Entry-clause-term : goal.build-returns-in_ok-made-in-Entry-clause-term
build-returns-in_ok-made-in-Entry-clause-term g t c = λ base old lasts.
    let S = scope_of c.args.names.now in
    let N = g.R.SymReads.named c.args.reads.now in
    let C = context_of N S in
    let view : view_expr (Entry c.in-Entry.name c.in-Entry.field c.in-Entry.at) ≡ entry c.in-Entry.name c.in-Entry.field (view_expr_list c.in-Entry.at) = rw (← rolls-Entry c.in-Entry.name c.in-Entry.field c.in-Entry.at) (search (rules, fold-roll-Expr)) in
    subst (IsTermOf base C old S c.entry.new.t c.in_ok-made-in-Entry.made) (sym (ap view_expr c.in-Entry.is ∙ view))
    (c.in_ok-made-in-Entry.ensures.term base old lasts)

pub build-returns-in_ok-made-in-Kernel-clause-term : goal.build-returns-in_ok-made-in-Kernel-clause-term
build-returns-in_ok-made-in-Kernel-clause-term g t c = λ base old lasts.
    let S = scope_of c.args.names.now in
    let N = g.R.SymReads.named c.args.reads.now in
    let C = context_of N S in
    let view : view_expr (Kernel c.in-Kernel.path) ≡ path_tree (view_path c.in-Kernel.path) = rw (← rolls-Kernel c.in-Kernel.path) (search (rules, fold-roll-Expr)) in
    subst (IsTermOf base C old S c.load.new.t c.in_ok-made-in-Kernel.made) (sym (ap view_expr c.in-Kernel.is ∙ view))
    (c.in_ok-made-in-Kernel.ensures.term base old lasts)

pub build-returns-in_ok-made-in-All-clause-term : goal.build-returns-in_ok-made-in-All-clause-term
build-returns-in_ok-made-in-All-clause-term g t c = λ base old lasts.
    let S = scope_of c.args.names.now in
    let N = g.R.SymReads.named c.args.reads.now in
    let C = context_of N S in
    let view : view_expr (variant.All c.in-All.es) ≡ all_of (view_expr_list c.in-All.es) = rw (← rolls-All c.in-All.es) (search (rules, fold-roll-Expr)) in
    subst (IsTermOf base C old S c.all_hold.new.t c.in_ok-made-in-All.made) (sym (ap view_expr c.in-All.is ∙ view))
    (c.in_ok-made-in-All.ensures.term base old lasts)

pub build-returns-in_ok-made-in-Any-clause-term : goal.build-returns-in_ok-made-in-Any-clause-term
build-returns-in_ok-made-in-Any-clause-term g t c = λ base old lasts.
    let S = scope_of c.args.names.now in
    let N = g.R.SymReads.named c.args.reads.now in
    let C = context_of N S in
    let view : view_expr (Any c.in-Any.es) ≡ any_of (view_expr_list c.in-Any.es) = rw (← rolls-Any c.in-Any.es) (search (rules, fold-roll-Expr)) in
    subst (IsTermOf base C old S c.some_hold.new.t c.in_ok-made-in-Any.made) (sym (ap view_expr c.in-Any.is ∙ view))
    (c.in_ok-made-in-Any.ensures.term base old lasts)
