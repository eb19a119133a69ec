-- `routes::writing::write_route` meets its contract. The loop's invariant: the calls as far as desk d are written.
use Rattle.reaching.specs.Tables.{links_in}
use Rattle.routes.proofs.Written.{Written}
use Rattle.routes.proofs.writing.write_route.Given as goal

abbrev pub invariant-loop-left : goal.invariant-loop-left
invariant-loop-left l = Written l.setup (links_in l.links) l.to l.initial.list l.initial.d l.initial.f l.initial.left l.list l.d l.f l.left
