use Rattle.hk_symaccess.proofs.Kept.{memory_kept}
use Rattle.hk_symaccess.proofs.stores.store.Goals as goal

pub returns-in_ok-stuck-clause-away : goal.returns-in_ok-stuck-clause-away
returns-in_ok-stuck-clause-away g c = λ v e. memory_kept _ _ _ c.in_ok-stuck.ensures.frame c.requires.over v

pub returns-in_ok-stuck-2-clause-away : goal.returns-in_ok-stuck-2-clause-away
returns-in_ok-stuck-2-clause-away g c = λ v e. memory_kept _ _ _ c.in_ok-stuck-2.ensures.frame c.requires.over v
