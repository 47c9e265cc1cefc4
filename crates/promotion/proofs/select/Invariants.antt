-- `promotion::select` meets its contract: the best of the places passed is kept. Assumes nothing.
use Rattle.std.proofs.Common.{◌<◌, length, unwrap_or, IfSome}
use Rattle.writing.specs.Heads.{heads_of}
use Rattle.promotion.proofs.Best.{Best}
use Rattle.promotion.proofs.select.Given as goal

abbrev pub invariant-loop-place : goal.invariant-loop-place
invariant-loop-place l = Best (heads_of l.held) l.place (unwrap_or l.best (length l.held)) l.largest × IfSome l.best (λ p. p < length l.held)
