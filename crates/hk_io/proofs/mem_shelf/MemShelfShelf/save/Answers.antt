use Rattle.hk_io.proofs.HeldLemmas.{with_file_same, with_file_other}
use Rattle.hk_io.proofs.mem_shelf.MemShelfShelf.save.Goals as goal

pub returns-clause-saved : goal.returns-clause-saved
returns-clause-saved c = rw c.in_ok-set.ensures.ok (with_file_same c.begin.new.self.files c.args.name.now c.args.bytes.now)

pub returns-clause-others : goal.returns-clause-others
returns-clause-others c = rw (c.in_ok-set.ensures.ok, c.begin.ensures.files) (λ other apart. with_file_other c.args.self.now.files c.args.name.now c.args.bytes.now other apart)
