-- Soundness. `Sound` is the definition. `Clauses` is the same as a Boolean, for the definitions of answers; `LinkCheck` is what following
-- links comes to; `Test` and `Totals` are what the code asks. That all agree is in `Facts` and `Clauses`.
pub mod Held
pub mod Sound
pub mod LinkCheck
pub mod Test
pub mod Totals
pub mod Clauses
pub mod Facts
