-- `reporting::Text::push_number` meets its contract: the number falls with each call.
-- Assumes nothing.
use Rattle.reporting.proofs.Text.+push_number.Given as goal

abbrev pub decreases-push_number : goal.decreases-push_number
decreases-push_number l = l.n
