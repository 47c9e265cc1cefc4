-- What a sound area encodes and its ranges, proved. Assumes nothing.
use mathlib.Core.Path.{sym}
use Rattle.encoding.specs.Encodes.{encoded_area}
use Rattle.encoding.specs.Facts.{EncodingFacts, RangeFacts}
use Rattle.encoding.proofs.Cells.{held_well_formed}
use Rattle.encoding.proofs.Store.{blocks_of}
use Rattle.encoding.proofs.Ranges.{block_within, reserved_within, pending_within, errors_within, mean_within}
use Rattle.encoding.proofs.Forth.{sound_entries, sound_encodes}
use Rattle.encoding.proofs.Back.{machine_is, encodes_sound, area_encodes, area_long}

pub encoding_facts : EncodingFacts
encoding_facts =
    record {
      well_formed = held_well_formed;
      encodes = sound_encodes;
      clauses = sound_entries;
      only = λ a m v e. sym (machine_is a m e (blocks_of v));
      given = λ a m v e. encodes_sound a m e v;
      encoded = area_encodes;
      sound = λ m v u s. encodes_sound (encoded_area m u s) m (area_encodes m u s) v;
      read_back = λ m v u s. machine_is (encoded_area m u s) m (area_encodes m u s) (blocks_of v);
      long = area_long;
    }

pub range_facts : RangeFacts
range_facts = record { block = block_within; reserved = reserved_within; pending = pending_within; errors = errors_within; mean = mean_within }
