-- The week, and what is excluded, by computation.
use Rattle.std.proofs.Common.{rules}
use Rattle.order.specs.Lists.{every, any, filter, place, distinct, same, with_all, flat}
use Rattle.order.specs.Board.{nexts, rounds}
use Rattle.command.specs.Commands.{refusal, told_rows, row_before, links_after, may_be, must_be}
use Rattle.order.specs.Reordering.{link_refusal, link_may_be, link_must_be, follows, last_of, goes_round}
use Rattle.command.specs.Week.{Week}
use Rattle.command.specs.Excluded.{Excluded}

pub week : Week
unfolding every any filter place distinct same with_all flat nexts rounds refusal link_refusal told_rows row_before links_after may_be must_be link_may_be link_must_be follows last_of goes_round
week = search rules

pub excluded : Excluded
unfolding every any filter place distinct same with_all flat nexts rounds refusal link_refusal told_rows row_before links_after may_be must_be link_may_be link_must_be follows last_of goes_round
excluded = search rules
