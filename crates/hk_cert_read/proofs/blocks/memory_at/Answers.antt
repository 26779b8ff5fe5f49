use Rattle.std.proofs.Common.{rules, ◌≡◌, Ok, ◌≤◌, ◌<◌, ◌+◌, ℕ, List, [], ◌∷◌, ◌++◌, min, length, drop, ap, sym, ◌∙◌, arith}
use Rattle.std.proofs.lemmas.List.{length-map}
use Rattle.std.proofs.lemmas.Result.{err_from_is_err_and}
use Rattle.ir_ast.specs.Program.{GlobalView}
use Rattle.ir_ast.specs.ProgramView.{view_entries, view_global}
use Rattle.hk_cnf.specs.Text.{lines_of}
use Rattle.hk_cert.specs.Steps.{place_of}
use Rattle.hk_cert.specs.States.{object_at, memory_from}
use Rattle.hk_cert.proofs.Taking.{place}
use Rattle.hk_cert_read.proofs.Exits.{next_ok, next_err}
use Rattle.hk_cert_read.proofs.Following.{memory_turn, memory_done}
use Rattle.hk_cert_read.proofs.blocks.memory_at.Goals as goal

pub returns-in_err-bytes : goal.returns-in_err-bytes
returns-in_err-bytes c =
    let p = err_from_is_err_and c.from_residual.result c.from_residual.ensures.1 in
    let globals = c.args.globals.now in
    let start = c.args.start.now in
    let k = c.each.k in
    let at = place c.each.line (lines_of c.each.text.now) in
    let low : k < length start = search rules in
    rw (p.1, p.2)
    (next_err (λ (x : List ℕ). x) (λ (x : List (List ℕ)). x) c.in_err-bytes.field-0.0 (object_at (view_global c.at.result.now) c.bytes.result.now at)
    (λ object q. memory_from (c.each.memory.items ++ object ∷ []) (drop (k + 1) (view_entries view_global globals)) (drop (k + 1) start) q)
    (memory_from c.each.memory.items (drop k (view_entries view_global globals)) (drop k start) at) (memory_from [] (view_entries view_global globals) start (place_of c.args.at))
    (memory_turn view_global c.each.memory.items start globals k c.at.result.now c.bytes.result.now at low c.at.ensures c.bytes.ensures)
    c.each.invariant c.in_err-bytes.ensures)

pub each-preserved : goal.each-preserved
each-preserved c =
    let globals = c.args.globals.now in
    let start = c.args.start.now in
    let k = c.each.k in
    let at = place c.each.line (lines_of c.each.text.now) in
    let low : k < length start = search rules in
    ap (λ memory. memory_from memory (drop (k + 1) (view_entries view_global globals)) (drop (k + 1) start) (place_of c.in_ok-bytes.after)) c.in_ok-push.ensures.items
    ∙ (sym (next_ok (memory_from c.each.memory.items (drop k (view_entries view_global globals)) (drop k start) at) (object_at (view_global c.at.result.now) c.bytes.result.now at)
    (λ object q. memory_from (c.each.memory.items ++ object ∷ []) (drop (k + 1) (view_entries view_global globals)) (drop (k + 1) start) q)
    c.in_ok-bytes.bytes (place_of c.in_ok-bytes.after)
    (memory_turn view_global c.each.memory.items start globals k c.at.result.now c.bytes.result.now at low c.at.ensures c.bytes.ensures)
    c.in_ok-bytes.ensures)
    ∙ c.each.invariant)

pub returns : goal.returns
returns c =
    let globals = view_entries view_global c.args.globals.now in
    let same : length globals ≡ length c.args.globals.now = length-map {B = List ℕ × GlobalView} c.args.globals.now (λ entry. (entry.0, view_global entry.1)) in
    let past : min (length globals) (length c.args.start.now) ≤ c.each.k = omega (arith, c.each-test.false, c.objects_in-k-end.ensures, same) in
    let at = place c.each.line (lines_of c.each.text.now) in
    sym c.each.invariant ∙ (memory_done c.each.memory.items c.args.start.now globals c.each.k at past ∙ ap (λ memory. Ok (memory, at)) (sym c.new.ensures))
