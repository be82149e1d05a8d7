use Rattle.nk_outside.proofs.mem_files.MemFilesFiles.write.Goals as goal

pub returns-clause-entries : goal.returns-clause-entries
returns-clause-entries c = (c.in_ok-bytes.bytes, c.in_ok-bytes.ensures.items, rw c.in_ok-clone.ensures.cases at c.in_ok-insert.ensures.entries)
