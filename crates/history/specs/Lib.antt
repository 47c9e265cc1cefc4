-- Lists of calls on one work area. Read in this order: a call and what it is lent; the log, worked from the calls' arguments; the indices made
-- old, in the order of their promotions; the report of doubles by the log; the storage after the calls; what the third demand says is found;
-- when promote is spent; the published algorithm as a list of calls; both demands over lent records; what deliveries with 32-bit indicators add;
-- both demands over the exported calls, whose contracts are the exported functions' own; what the statements shut out; that an altered area can
-- be sound with another mean; and reports of doubles in cases worked out by hand.
-- The cross total goes by these names: `cross_total` of indices and readings (`grid`), `cross_of` of entries (`machine`), `cross_total` the
-- call (`calls`), `total` its answer.
pub mod LentCalls
pub mod Logged
pub mod Promotions
pub mod Doubles
pub mod Storage
pub mod Found
pub mod Spent
pub mod Source
pub mod OnRecords
pub mod TypedCalls
pub mod OnExports
pub mod Functions
pub mod Excluded
pub mod Altered
pub mod DoublesCases
