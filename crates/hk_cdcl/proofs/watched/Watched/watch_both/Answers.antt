use Rattle.std.proofs.Common.{sym, ◌∙◌}
use Rattle.hk_cdcl.proofs.watched.Watched.watch_both.Goals as goal

pub returns-clause-watches : goal.returns-clause-watches
returns-clause-watches c = λ t.
    record {
      binary = c.has_only-binary.result;
      only = λ e. c.has_only-binary.ensures e;
      lists = c.push.ensures.lists t;
      pairs = c.push.ensures.pairs t;
      texts = c.push.ensures.texts t;
      count = sym c.clauses-count.ensures.texts ∙ c.clauses-count.ensures.pairs;
    }
