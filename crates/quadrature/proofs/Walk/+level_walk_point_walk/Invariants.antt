-- The measure of the cycle of calls {level_walk, point_walk}: the axes, the levels and the points left. A point walk lies below the
-- level walk that calls it, and the next axis's level walk below each point.
use Rattle.std.proofs.Common.{◌+◌, ◌*◌, ◌-◌}
use Rattle.rule.specs.Points.{new_count}
use Rattle.quadrature.proofs.Walk.+level_walk_point_walk.Given as goal

abbrev pub decreases-level_walk : goal.decreases-level_walk
decreases-level_walk l = (l.self.now.axes - l.axis) * 100000 + (9 - l.level) * 1000 + 999

abbrev pub decreases-point_walk : goal.decreases-point_walk
decreases-point_walk l = (l.self.now.axes - l.axis) * 100000 + (9 - l.level) * 1000 + (new_count l.level - l.point)
