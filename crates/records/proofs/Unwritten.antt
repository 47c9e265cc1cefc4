-- What no call writes, over lent cells and over lent records.
-- The idea: what holds of every area, at the area that is lent; cells read as records are well-formed, and so are records of the struct's type.
-- Assumes nothing.
use Rattle.area.specs.Encoding.{area_of}
use Rattle.quadrature.specs.Readings.{record_at}
use Rattle.encoding.proofs.Facts.{encoding_facts}
use Rattle.calls.proofs.Facts.{call_facts}
use Rattle.records.specs.Lent.{area_on}
use Rattle.records.specs.Unwritten.{Unwritten}
use Rattle.records.proofs.WellFormed.{well_formed_take}
use Rattle.records.proofs.Typed.{well_formed, indicator_small, typed_value}

pub unwritten : Unwritten
unwritten =
    record {
      cells_past = λ j cells s c. call_facts.past (area_of j cells s) c;
      cells_store = λ j cells s c n f. call_facts.store (area_of j cells s) c n (encoding_facts.well_formed j cells s) f;
      records_past = λ j rs s c. call_facts.past (area_on j rs s) c;
      records_store = λ j rs s c n w f. call_facts.store (area_on j rs s) c n (well_formed_take j.held rs w) f;
      typed_records = well_formed;
      typed_run = λ rs these p h. well_formed (record_at rs p) (these p h).0 (these p h).1;
      typed_indicators = λ rs these p h. indicator_small (record_at rs p) (these p h).0 (these p h).1;
      typed_value = typed_value;
    }
