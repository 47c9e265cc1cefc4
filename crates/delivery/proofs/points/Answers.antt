-- `delivery::points` meets its contract: the lesser of what is left of the block and of what has room is written.
-- Assumes nothing.
use borrow.Author.Rules.{rules, Fits-under}
use mir.Syntax.{w32}
use mathlib.Core.Path.{◌≡◌, sym, ap, ◌∙◌}
use mathlib.Core.Logic.{◌⊎◌, inl, inr}
use mathlib.Core.List.{List}
use Prim.Native.Nat.{ℕ, ◌+◌, ◌*◌, ◌-◌, ◌/◌, ◌<◌, ◌≤◌, min}
use native.Mathlib.Omega.{arith}
use native.Mathlib.Nat.{le_trans, mul-le-mul_right, div-mul-le_self}
use lib.ListN.{length, take, drop}
use lib.Seq.{sets}
use Rattle.std.proofs.lemmas.Bool.{cases_lt}
use Rattle.grid.specs.Block.{block, block_size}
use Rattle.grid.proofs.LoopSteps.{size_small}
use Rattle.machine.specs.Points.{points_fitting, positions_of, written_over}
use Rattle.machine.proofs.Points.{bytes, bytes_length, taken_length, fitting}
use Rattle.delivery.proofs.Fronts.{front_all}
use Rattle.delivery.proofs.points.Goals as goal

module _ (d : ℕ) (k : List ℕ) (n size count : ℕ) (buffer : List ℕ) (few : d ≤ length k) (sized : size ≡ block_size k) (least : count ≡ min (length buffer / d) (size - n)) (inside : n < block_size k) where
  left_there : count ≤ block_size k - n
  left_there = omega (arith, sized, least)

  there : n + count ≤ block_size k
  there = omega (arith, inside, left_there)

  room : count * d ≤ length buffer
  room = le_trans (mul-le-mul_right d (omega (arith, least))) (div-mul-le_self (length buffer) d)

  one_of_them : (count ≡ length buffer / d) ⊎ (count ≡ block_size k - n)
  one_of_them = elim (cases_lt (length buffer / d) (block_size k - n)) [ inl h ↦ inl (omega (arith, sized, least)) | inr h ↦ inr (omega (arith, sized, least)) ]

  fits : points_fitting d k n (length buffer) ≡ take count (drop n (block k))
  fits = fitting d k n (length buffer) count (omega (arith, least)) one_of_them

  counted : count ≡ length (points_fitting d k n (length buffer))
  counted = sym (ap length fits ∙ taken_length d k n count left_there)

  laid : sets buffer 0 (bytes d k n count) ≡ written_over (positions_of d (points_fitting d k n (length buffer))) buffer
  unfolding written_over
  laid =
      front_all buffer (bytes d k n count) (omega (arith, bytes_length d k n few count there, room))
      ∙ ap (λ ps. written_over (positions_of d ps) buffer) (sym fits)

pub put_points-requires : goal.put_points-requires
put_points-requires c =
    let e = c.levels-index.ensures in
    let k = c.levels-index.result in
    let l = c.min-count in
    let inside : c.args.n < block_size k = rw e c.requires.within.1 in
    let few : length k ≡ 8 = search rules in (
      c.requires.place_in_bounds.2,
      room c.args.axes k c.args.n c.block_size-size.result l.result c.args.buffer.now (omega (arith, few, c.requires.place_in_bounds.2)) c.block_size-size.ensures l.ensures inside,
      rw e c.requires.within.0,
      there c.args.axes k c.args.n c.block_size-size.result l.result c.args.buffer.now (omega (arith, few, c.requires.place_in_bounds.2)) c.block_size-size.ensures l.ensures inside,
    )

pub overflow_cast-result : goal.overflow_cast-result
overflow_cast-result c =
    let e = c.levels-index.ensures in
    let k = c.levels-index.result in
    let small = size_small k (rw e c.requires.within.0) in
    let is = c.block_size-size.ensures in
    let least = c.min-count.ensures in
    Fits-under w32 _ 4097 (omega (arith, small, is, least)) tt

pub overflow_cast-result-2 : goal.overflow_cast-result-2
overflow_cast-result-2 c =
    let e = c.levels-index.ensures in
    let k = c.levels-index.result in
    let small = size_small k (rw e c.requires.within.0) in
    let is = c.block_size-size.ensures in
    let least = c.min-count.ensures in
    Fits-under w32 _ 4097 (omega (arith, small, is, least)) tt

pub returns : goal.returns
returns c =
    let e = c.levels-index.ensures in
    let k = c.levels-index.result in
    let z = c.block_size-size in
    let l = c.min-count in
    let b = c.args.buffer.now in
    let inside : c.args.n < block_size k = rw e c.requires.within.1 in
    let few : length k ≡ 8 = search rules in
    let one = counted c.args.axes k c.args.n z.result l.result b (omega (arith, few, c.requires.place_in_bounds.2)) z.ensures l.ensures inside in
    let all = laid c.args.axes k c.args.n z.result l.result b (omega (arith, few, c.requires.place_in_bounds.2)) z.ensures l.ensures inside in record {
      counts = (one ∙ ap (λ x. length (points_fitting c.args.axes x c.args.n (length b))) e, z.ensures ∙ ap block_size e);
      bytes = c.put_points.ensures ∙ all ∙ ap (λ x. written_over (positions_of c.args.axes (points_fitting c.args.axes x c.args.n (length b))) b) e;
    }
