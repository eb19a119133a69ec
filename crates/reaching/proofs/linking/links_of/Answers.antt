-- `reaching::linking::links_of` meets its contract, by what the marks and the table promise.
use native.Mathlib.Omega.{arith}
use Rattle.std.proofs.Common.{rules, ◌≡◌, length}
use Rattle.rules.specs.Sizes.{most_processes, most_files}
use Rattle.reaching.proofs.Linked.{front_below, front_table, processes_le, files_le, desk_lt, class_lt, links_told}
use Rattle.reaching.proofs.linking.links_of.Goals as goal

pub marks_of-requires : goal.marks_of-requires
marks_of-requires c = (omega arith, front_below _ _ _ (desk_lt c.args.setup.now c.requires))

pub marks_of-requires-2 : goal.marks_of-requires-2
marks_of-requires-2 c = (omega arith, front_below _ _ _ (class_lt c.args.setup.now c.requires))

pub returns : goal.returns
returns c =
    let s = c.args.setup.now in
    let desks : length s.desk ≡ most_processes = search rules in
    let classes : length s.class ≡ most_files = search rules in
    rw (
      c.pairs.ensures,
      c.marks_of.ensures,
      c.marks_of-2.ensures,
      front_table s.desk s.processes (omega (arith, processes_le s c.requires)),
      front_table s.class s.files (omega (arith, files_le s c.requires)),
    )
    (links_told s c.requires)
