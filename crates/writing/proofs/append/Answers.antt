-- `writing::append` meets its contract: its links are gathered, its backward neighbours name it, and its record and its word are stored at the next place. Assumes nothing.
use mathlib.Core.Path.{◌≡◌, sym, ap, ◌∙◌, subst}
use mathlib.Core.Logic.{◌⊎◌, inl, inr, ⊎_elim}
use mathlib.Core.List.{List}
use Prim.Native.Nat.{ℕ, ◌+◌, ◌*◌, ◌<◌, ◌≤◌}
use native.Mathlib.Omega.{arith}
use lib.ListN.{length, get_or, set}
use Rattle.area.specs.Records.{Run, records_of, run_of, stored, held_in, levels_of}
use Rattle.area.specs.Encoding.{none}
use Rattle.area.specs.Packed.{PackedWords}
use Rattle.area.proofs.Records.{length-records_of}
use Rattle.area.proofs.PackedRuns.{held_count}
use Rattle.writing.specs.Changes.{new_links, named_from, appended, admitted_record}
use Rattle.writing.proofs.Kept.{new_held}
use Rattle.writing.proofs.Words.{appended_words}
use Rattle.writing.proofs.append.Goals as goal

-- every backward link names a record
named_there : (cells : List ℕ) (held : ℕ) (x links : List ℕ) → held * 27 ≤ length cells → links ≡ new_links (levels_of (held_in cells held)) x
    → (a : ℕ) → a < 8 → (get_or links (8 + a) 0 ≡ none) ⊎ (get_or links (8 + a) 0 < length (records_of cells))
unfolding held_in
named_there cells held x links room e a h =
    rw e (⊎_elim inl (λ l. inr (omega (arith, l, inside))) (new_held (records_of cells) held x inside a h))
  where
    inside : held ≤ length (records_of cells)
    inside = omega (arith, room, length-records_of cells)

pub new_links-links-requires-clause-few_held : goal.new_links-links-requires-clause-few_held
new_links-links-requires-clause-few_held c =
    omega (arith, ap length c.first.ensures, held_count c.args.cells.now c.args.held (omega (arith, c.requires.held_in_bounds.0)), c.requires.held_in_bounds.1)

pub name_back-requires : goal.name_back-requires
name_back-requires c =
    let links_are = c.new_links-links.ensures ∙ ap (λ rs. new_links (levels_of rs) c.args.levels) c.first.ensures in
    (omega (arith, c.requires.held_in_bounds.1), named_there c.args.cells.now c.args.held c.args.levels c.new_links-links.result (omega (arith, c.requires.held_in_bounds.0)) links_are)

pub returns : goal.returns
unfolding appended admitted_record held_in
returns c =
    let cells = c.args.cells.now in
    let links = c.new_links-links.result in
    let after = c.store.new.cells in
    let links_are = c.new_links-links.ensures ∙ ap (λ rs. new_links (levels_of rs) c.args.levels) c.first.ensures in
    let is : run_of after ≡ record { records = appended (records_of cells) c.args.held c.args.first c.args.levels; rest = (run_of cells).rest } =
    c.store.ensures
    ∙ ap (λ (u : Run). stored u c.args.held (record { levels = c.args.levels; state = 0; indicator = 0; first = c.args.first; links = links })) c.name_back.ensures
    ∙ ap (λ ks. record { records = set (named_from 8 0 ks c.args.held (records_of cells)) c.args.held (record { levels = c.args.levels; state = 0; indicator = 0; first = c.args.first; links = ks }); rest = (run_of cells).rest }) links_are in record {
      cells_after = is;
      words = λ f. subst (λ w. PackedWords w (held_in after (c.args.held + 1))) (sym c.put.ensures)
          (appended_words cells after c.args.words.now c.args.held c.args.first c.args.levels c.requires.held_in_bounds.0 c.requires.held_in_bounds.1 (ap (λ (u : Run). u.records) is) c.requires.packed f);
    }
