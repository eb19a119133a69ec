-- `reaching::linking::Tables::pairs` meets its contract.
use Prim.Native.Nat.{ℕ, ◌/◌, ◌%◌}
use Rattle.std.proofs.Common.{rules, tests}
use Rattle.rules.specs.Sizes.{most_desks}
use Rattle.reaching.specs.Tables.{mark, linked_by}
use Rattle.reaching.proofs.Made.{made_is}
use Rattle.reaching.proofs.linking.Tables.pairs.Goals as goal

pub returns : goal.returns
returns c =
    let tables = c.args.self.now in
    made_is _ _ _ _
    (λ (i : ℕ). mark (linked_by tables.rights.now tables.seats tables.filed (i / most_desks) (i % most_desks))) 0
    c.from_fn.ensures.items (λ i y q l t. (search (rules, t.met.1), search (rules, tests)))
