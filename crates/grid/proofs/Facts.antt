-- What specs/Facts.antt states of the grid holds.
-- Assumes nothing.
use Rattle.grid.specs.Facts.{IndexFacts, BlockFacts, DifferenceFacts, LevelOneFacts, Combination}
use Rattle.grid.specs.Trapezoidal.{TrapezoidalFacts}
use Rattle.grid.specs.Smolyak.{SmolyakFacts}
use Rattle.grid.proofs.Levels as Levels
use Rattle.grid.proofs.Neighbours as Neighbours
use Rattle.grid.proofs.Lower as Lower
use Rattle.grid.proofs.Members as Members
use Rattle.grid.proofs.Blocks as Blocks
use Rattle.grid.proofs.Reflected as Reflected
use Rattle.grid.proofs.Earlier as Earlier
use Rattle.grid.proofs.Rules as Rules
use Rattle.grid.proofs.Differences as Differences
use Rattle.grid.proofs.Sampled as Sampled
use Rattle.grid.proofs.LevelOne as LevelOne
use Rattle.grid.proofs.Axes as Axes
use Rattle.grid.proofs.Trapezoidal as Trapezoidal
use Rattle.grid.proofs.Smolyak as Smolyak
use Rattle.grid.proofs.Combine as Combine
use Rattle.grid.proofs.Masks as Masks

pub index_facts : IndexFacts
index_facts =
    record {
      within_sure = Levels.within_sure;
      within_back = Levels.within_back;
      root_excess = Neighbours.root_excess;
      root_first = Neighbours.root_first;
      root_index = Neighbours.root_index;
      forward_level = Neighbours.forward_level;
      forward_other = Neighbours.forward_other;
      forward_length = Neighbours.forward_length;
      forward_excess = Neighbours.forward_excess;
      backward_forward = Neighbours.backward_forward;
      forward_backward = Neighbours.forward_backward;
      lower_sure = Lower.lower_sure;
      lower_back = Lower.lower_back;
      lower_once = Lower.lower_once;
      in_sure = Members.in_sure;
      in_back = Members.in_back;
      units_small = Levels.units_small;
    }

pub block-facts : BlockFacts
block-facts =
    record {
      size = Blocks.size;
      nth = Blocks.nth;
      new = λ k n v h. Blocks.new k v n h;
      every = λ k p v e. Blocks.every k v p e;
      different = λ k n m v a b e. Blocks.different k v n m a b e;
      rank_of_point = λ k n v h. Blocks.rank_of_point k v n h;
      rank_below = λ k p v e. Blocks.rank_is_below k v p e;
      point_of_rank = λ k p v e. Blocks.point_of_rank k v p e;
      positions = Blocks.positions;
      levels = λ k p v e. Blocks.levels k v p e;
      behind_point = Earlier.behind_point;
      earlier = λ k i n v h. Earlier.earlier k v i n h;
      turning_rank = λ k i n v h. Earlier.turning_rank k v i n h;
      first_rises = λ k n m v l h. Earlier.first_rises k v n m l h;
      rises = λ k i n m v l h e z. Earlier.rises k v i n m l h e z;
      falls = λ k i n m v l h e z. Earlier.falls k v i n m l h e z;
      one_step = λ k n v h. Reflected.one_step k v n h;
    }

pub difference_facts : DifferenceFacts
difference_facts =
    record {
      difference_walk_lem = Rules.difference_walk_lem;
      difference_only = Differences.difference_only;
      tensor_only = Differences.tensor_only;
      difference_whole = Differences.difference_whole;
      tensor_whole = Differences.tensor_whole;
      difference_size = Differences.difference_size;
      tensor_size = Differences.tensor_size;
      difference_linear = Differences.difference_linear;
      tensor_linear = Differences.tensor_linear;
      difference_blocks = Rules.difference_blocks;
      tensor_blocks = Rules.tensor_blocks;
      alternating = Differences.alternating;
      tensor_sampled = Sampled.tensor_sampled;
      difference_sampled = Sampled.difference_sampled;
    }

pub level-one-facts : LevelOneFacts
level-one-facts =
    record {
      within_same = LevelOne.within_same;
      excess_same = LevelOne.excess_same;
      units_same = LevelOne.units_same;
      size_same = LevelOne.size_same;
      point_same = LevelOne.point_same;
      difference_same = LevelOne.difference_same;
      tensor_same = LevelOne.tensor_same;
      coefficient_same = LevelOne.coefficient_same;
      mean_same = LevelOne.mean_same;
      cross_same = LevelOne.cross_same;
      job_levels = Axes.job_levels;
      job_index = Axes.job_index;
      pad_once = Axes.pad_once;
      root_same = Axes.root_same;
      in_same = LevelOne.in_same;
      level_same = Axes.level_same;
      forward_same = Axes.forward_same;
      backward_same = Axes.backward_same;
      capped_same = Axes.capped_same;
      ceiling_same = Axes.ceiling_same;
      higher_same = Axes.higher_same;
      higher_back = Axes.higher_back;
      lower_same = Axes.lower_same;
      product_same = Axes.product_same;
    }

pub combination : Combination
combination =
    record {
      identity = λ J R d. Combine.identity J d R;
      coefficients_one = Combine.coefficients_one;
      masks = Masks.masks;
    }

pub trapezoidal-facts : TrapezoidalFacts
trapezoidal-facts =
    record {
      axis = Trapezoidal.axis;
      difference = Trapezoidal.difference;
      eight_axes = Trapezoidal.eight_axes;
      job_axes = Trapezoidal.job_axes;
      tensor = Trapezoidal.tensor;
      tensor_job_axes = Trapezoidal.tensor_job_axes;
    }

pub smolyak_facts : SmolyakFacts
smolyak_facts =
    record {
      simplex = Smolyak.simplex;
      coefficient_is = λ d q J k low more s m. Smolyak.coefficient_is d q J low s k m;
      coefficient_zero = λ d q J k low more s m few. Smolyak.coefficient_zero d q J low s k m more few;
      within_ceilings = λ d q J k few s m. Smolyak.within_ceilings d q J s k m few;
      sum = λ d q J R low more s. Smolyak.sum d q J R low s;
      sum_from = λ d q J R low more s. Smolyak.sum_from d q J R low s more;
      sum_of_differences = λ d q J R low few s. Smolyak.sum_of_differences d q J R low few s;
    }
