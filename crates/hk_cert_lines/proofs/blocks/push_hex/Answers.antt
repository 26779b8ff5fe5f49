use Rattle.std.proofs.Common.{[], ◌∷◌, ◌++◌, ap, sym, ◌∙◌, zero-add, append_assoc, map}
use Rattle.std.proofs.lemmas.List.FromFn.{map-range_with_len_more}
use Rattle.std.specs.List.{range_with_len}
use Rattle.hk_cert_lines.specs.Blocks.{hex_byte_at}
use Rattle.hk_cert_lines.proofs.blocks.push_hex.Goals as goal

pub loop-k-preserved : goal.loop-k-preserved
loop-k-preserved c =
    let first = c.args.bytes.now.items in
    let k = c.loop-k.k in
    let f = hex_byte_at c.args.hex.now in
    c.in_ok-push.ensures.items ∙ ap (λ l. l ++ c.byte_at.result ∷ []) c.loop-k.invariant
    ∙ append_assoc first (map f (range_with_len 0 k)) (c.byte_at.result ∷ [])
    ∙ ap (λ b. first ++ (map f (range_with_len 0 k) ++ b ∷ [])) c.byte_at.ensures
    ∙ ap (λ l. first ++ l) (sym (map-range_with_len_more f 0 k k (zero-add k)))
