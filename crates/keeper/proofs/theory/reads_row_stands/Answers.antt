use Rattle.keeper.proofs.RowRead.{reads_row}
use Rattle.keeper.proofs.theory.reads_row_stands.Goals as goal

pub returns : goal.returns
returns c = reads_row
