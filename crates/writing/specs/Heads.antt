-- The entries of records without their readings: what searches and counts look at.
use Rattle.std.specs.Prelude.{List, [], map}
use Rattle.area.specs.declared.IndexRecord.{IndexRecord}
use Rattle.area.specs.Entry.{Entry}

unfoldable pub head_of : IndexRecord → Entry
head_of r = record { levels = r.levels; state = r.state; indicator = r.indicator; readings = [] }

unfoldable pub heads_of : List IndexRecord → List Entry
heads_of rs = map head_of rs
