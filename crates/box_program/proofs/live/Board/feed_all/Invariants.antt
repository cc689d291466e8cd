-- `Board::feed_all` ends: each turn uses a byte of those that are left. Assumes nothing.
use lib.ListN.{length}
use Rattle.box_program.proofs.live.Board.feed_all.Given as goal

abbrev pub decreases-loop-rest : goal.decreases-loop-rest
decreases-loop-rest l = length l.rest
