use Rattle.std.proofs.Common.{rules}
use Rattle.keeper.specs.Playing.{row_read, read_count}
use Rattle.keeper.proofs.RowRead.{reads_row, reads_it}
use Rattle.keeper.proofs.playing.read_row.Goals as goal

pub returns-in_default-clause-reads : goal.returns-in_default-clause-reads
unfolding row_read read_count
returns-in_default-clause-reads c = reads_it c.args.memory.now c.args.row.now _ _ (search rules) (search rules)

pub returns-in_default-clause-right : goal.returns-in_default-clause-right
returns-in_default-clause-right c = reads_row

pub returns-clause-reads : goal.returns-clause-reads
unfolding row_read read_count
returns-clause-reads c = reads_it c.args.memory.now c.args.row.now _ _ (search rules) (search rules)

pub returns-clause-right : goal.returns-clause-right
returns-clause-right c = reads_row
