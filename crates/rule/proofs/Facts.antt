-- What specs/Facts.antt states of one axis holds.
-- Assumes nothing.
use Rattle.rule.specs.Facts.{WeightFacts, PointFacts, RuleFacts}
use Rattle.rule.proofs.Cases as Cases
use Rattle.rule.proofs.Weights as Weights
use Rattle.rule.proofs.Tables as Tables
use Rattle.rule.proofs.Points as Points
use Rattle.rule.proofs.Rules as Rules

pub weight_facts : WeightFacts
weight_facts =
    record {
      difference_is = Weights.difference_is;
      whole_beyond = Cases.whole_beyond;
      difference_beyond = Cases.difference_beyond;
      whole_sum = Weights.whole_sum;
      difference_sum_lem = Weights.difference_sum_lem;
      whole_size = Weights.whole_size;
      difference_size = Weights.difference_size;
    }

pub point_facts : PointFacts
point_facts =
    record {
      is_point_lem = Tables.is_point_lem;
      new_count_lem = Points.new_count_lem;
      new_point_lem = Points.new_point_lem;
      in_range_lem = Tables.in_range_lem;
      rising = Tables.rising;
      level_is = Tables.level_is;
      rank_is = Tables.rank_is;
      level_low = Tables.level_low;
      level_high = Tables.level_high;
      rank_below = Tables.rank_below;
      point_is = Tables.point_is;
      new_at_lem = Tables.new_at_lem;
      each_once = Tables.each_once;
      by_levels = Points.by_levels;
    }

pub rule_facts : RuleFacts
rule_facts =
    record {
      whole_at_lem = Tables.whole_at_lem;
      difference_at_lem = Tables.difference_at_lem;
      whole_rule_lem = Rules.whole_rule_lem;
      difference_rule_lem = Rules.difference_rule_lem;
      centre = Rules.centre;
      source = Rules.source;
    }
