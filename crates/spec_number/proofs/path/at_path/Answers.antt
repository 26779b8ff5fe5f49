use Rattle.std.proofs.Common.{arith, ◌≡◌, ◌<◌, ◌≤◌, ◌+◌, [], length, slice_index_or, ap, sym, ◌∙◌, subst}
use Rattle.std.specs.Prelude.{IfSome}
use Rattle.ir_layout.specs.Bytes as layout
use Rattle.spec_tree.specs.View.{view_path}
use Rattle.spec_tree.specs.declared.expr.Path.{out-Path}
use Rattle.spec_tree.specs.Value.{bytes_added, loaded}
use Rattle.spec_number.specs.Evaluation.{context_of, env_of}
use Rattle.spec_number.proofs.Paths.{object_there, whole_width, exact, within, object_is, base_is, bytes_are}
use Rattle.spec_number.proofs.path.at_path.Goals as goal

pub bytes-requires : goal.bytes-requires
bytes-requires c =
    subst (λ o. o < length c.args.reading.now.memory.now) (object_is c.args.path.now)
    (object_there c.args.reading.now.spec.now.objects c.args.reading.now.memory.now (view_path c.args.path.now).object c.requires.sorted.1 (c.requires.stands.fits.memory c.requires.sorted.0) c.requires.sorted.2).0

pub load_from-requires-clause-width : goal.load_from-requires-clause-width
load_from-requires-clause-width c = subst layout.IsWidth (bytes_are c.args.path.now) (whole_width (view_path c.args.path.now).bytes c.requires.sorted.3.whole.0 c.requires.sorted.3.whole.1 c.requires.sorted.3.whole.2)

pub load_from-requires-clause-object : goal.load_from-requires-clause-object
load_from-requires-clause-object c =
    subst (λ o. o < length c.args.reading.now.memory.now) (object_is c.args.path.now)
    (object_there c.args.reading.now.spec.now.objects c.args.reading.now.memory.now (view_path c.args.path.now).object c.requires.sorted.1 (c.requires.stands.fits.memory c.requires.sorted.0) c.requires.sorted.2).0

pub load_from-requires-clause-within : goal.load_from-requires-clause-within
load_from-requires-clause-within c =
    let p = c.args.path.now in
    let s = context_of c.args.reading.now c.args.frame.now in
    let v = env_of c.args.reading.now c.args.frame.now in
    let memory = c.args.reading.now.memory.now in
    let there = object_there c.args.reading.now.spec.now.objects memory (view_path p).object c.requires.sorted.1 (c.requires.stands.fits.memory c.requires.sorted.0) c.requires.sorted.2 in
    let long : length c.bytes.result.now ≡ c.requires.sorted.1 = ap length c.bytes.ensures ∙ ap (λ o. length (slice_index_or memory o [])) (sym (object_is p)) ∙ there.1 in
    let is : c.args.added ≡ bytes_added s v (view_path p).steps = c.requires.added ∙ exact s v c.requires.sorted.1 (view_path p).base (view_path p).bytes (view_path p).steps c.requires.sorted.3 (omega (arith, c.bytes.type_inv.0, long)) in
    subst (λ b. IfSome c.args.added (λ n. b + n + (out-Path p).bytes ≤ length c.bytes.result.now)) (base_is p)
    (subst (λ b. IfSome c.args.added (λ n. (view_path p).base + n + b ≤ length c.bytes.result.now)) (bytes_are p)
    (within s v c.requires.sorted.1 (view_path p).base (view_path p).bytes (length c.bytes.result.now) (view_path p).steps c.args.added c.requires.sorted.3 long is))

pub returns-clause-bits : goal.returns-clause-bits
returns-clause-bits c =
    let p = c.args.path.now in
    let s = context_of c.args.reading.now c.args.frame.now in
    let v = env_of c.args.reading.now c.args.frame.now in
    let memory = c.args.reading.now.memory.now in
    let there = object_there c.args.reading.now.spec.now.objects memory (view_path p).object c.requires.sorted.1 (c.requires.stands.fits.memory c.requires.sorted.0) c.requires.sorted.2 in
    let long : length c.bytes.result.now ≡ c.requires.sorted.1 = ap length c.bytes.ensures ∙ ap (λ o. length (slice_index_or memory o [])) (sym (object_is p)) ∙ there.1 in
    let is : c.args.added ≡ bytes_added s v (view_path p).steps = c.requires.added ∙ exact s v c.requires.sorted.1 (view_path p).base (view_path p).bytes (view_path p).steps c.requires.sorted.3 (omega (arith, c.bytes.type_inv.0, long)) in
    c.number.ensures.bits ∙ c.load_from.ensures
    ∙ ap (λ o. loaded (slice_index_or memory o []) (out-Path p).base (out-Path p).bytes c.args.added) (sym (object_is p))
    ∙ ap (λ b. loaded (slice_index_or memory (view_path p).object []) b (out-Path p).bytes c.args.added) (sym (base_is p))
    ∙ ap (λ b. loaded (slice_index_or memory (view_path p).object []) (view_path p).base b c.args.added) (sym (bytes_are p))
    ∙ ap (loaded (slice_index_or memory (view_path p).object []) (view_path p).base (view_path p).bytes) is
