-- The calls over a lent run of index record structs: the area that such a run makes, that 512 records are enough, what no call writes, and
-- that the pending error which doubles reports loses nothing.
pub mod Lent
pub mod Facts
pub mod Unwritten
pub mod PendingError
