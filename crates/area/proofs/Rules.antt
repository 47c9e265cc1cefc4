-- What the check tries at a goal that has no answer: what the searches pass, and what packing writes.
-- Assumes nothing.
use Rattle.std.proofs.lemmas.List.{take_rest, get_or-drop}
use Rattle.area.proofs.Lookups.{equal-same, found_head, found_end}
use Rattle.area.proofs.Packs.{put_is, put_none}

pub ruleset closing = (take_rest, get_or-drop, equal-same, found_head, found_end, put_is, put_none)
