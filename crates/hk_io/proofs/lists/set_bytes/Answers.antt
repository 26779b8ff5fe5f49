use Rattle.std.proofs.Common.{sym, ◌∙◌, ap, refl, string_bytes, bytes_eq, map}
use Rattle.std.specs.List.{position_from}
use Rattle.hk_io.specs.Held.{file_of}
use Rattle.hk_io.proofs.HeldLemmas.{replaced, appended}
use Rattle.hk_io.proofs.lists.set_bytes.Goals as goal

pub returns-in-Some-clause-ok : goal.returns-in-Some-clause-ok
returns-in-Some-clause-ok c =
    replaced file_of c.args.files.now.items c.args.name.now c.args.bytes.now c.in-Some.place (c.index_mut.result.now.0, c.in_ok-bytes.bytes) c.index_mut.result.now (ap (position_from (λ file. bytes_eq (string_bytes file.0) c.args.name.now) 0) (sym c.deref.ensures.value) ∙ sym c.in-Some.ensures.place)
    (rw c.in_ok-bytes.ensures.items (ap (λ file. (string_bytes file.0, c.args.bytes.now)) c.index_mut.ensures.value))

pub returns-in_ok-push-in-None-clause-ok : goal.returns-in_ok-push-in-None-clause-ok
returns-in_ok-push-in-None-clause-ok c =
    ap (map file_of) c.in_ok-push-in-None.ensures.items
    ∙ appended file_of c.args.files.now.items c.args.name.now c.args.bytes.now (c.in_ok-from_str-in-None.field-0, c.in_ok-bytes.bytes) (ap (position_from (λ file. bytes_eq (string_bytes file.0) c.args.name.now) 0) (sym c.deref.ensures.value) ∙ sym c.in-None.ensures.place)
    (rw (c.in_ok-bytes.ensures.items, c.in_ok-from_str-in-None.ensures.ok) refl)
