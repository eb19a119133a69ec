-- `gates::gate::gate` meets its contract: the refusal, "guarded" and the list are the gate report's, and so they tell what it promises.
use Prim.Native.Nat.{ℕ, ◌<◌}
use mathlib.Core.Path.{◌≡◌, ap, sym, ◌∙◌}
use mathlib.Core.List.{List}
use native.Mathlib.Omega.{arith}
use lib.ListN.{length}
use Rattle.rules.specs.Sizes.{most_desks}
use Rattle.rules.specs.Links.{linked}
use Rattle.rules.specs.declared.Setup.{Setup}
use Rattle.rules.proofs.Setups.{accepted_sizes}
use Rattle.chains.specs.Chains.{Links, others, links_among}
use Rattle.chains.proofs.Chains.{links_among_own}
use Rattle.reaching.specs.Tables.{most_pairs, links_in}
use Rattle.gates.specs.Gates.{links_around}
use Rattle.gates.proofs.Whole.{Sound, gate_sound, refused_kept, way_gated}
use Rattle.gates.proofs.Told.{promised}
use borrow.Author.Rules.{rules}
use Rattle.gates.proofs.gate.gate.Goals as goal

-- the two desks of a gate that is not refused are below the most desks
desks : {s : Setup} {a b c n : ℕ} → Sound s a b c n → (a < most_desks) × (b < most_desks)
desks {s} h = let sizes = accepted_sizes s h.route.setup in omega (arith, h.route.from, h.route.onto, sizes.of_desks.high)

-- the links of a table with the gate desk taken out are those among the other desks
own : (s : Setup) (c : ℕ) (links out : List ℕ) → links_in links ≡ linked s → links_in out ≡ links_among (others c) (links_in links) → links_in out ≡ links_around s c
own s c links out made taken = taken ∙ ap (λ (l : Links). links_among (others c) l) made

pub returns-in_err-gate_refusal-clause-room : goal.returns-in_err-gate_refusal-clause-room
returns-in_err-gate_refusal-clause-room c = refused_kept _ _ _ _ _ _ c.in_err-gate_refusal.ensures

pub links_of-links-requires : goal.links_of-links-requires
links_of-links-requires c = (gate_sound _ _ _ _ _ (sym c.in_ok-gate_refusal.ensures)).route.setup

pub take_out-requires : goal.take_out-requires
take_out-requires c =
    let long : length c.links_of-links.result ≡ most_pairs = search rules in
    let h = gate_sound _ _ _ _ _ (sym c.in_ok-gate_refusal.ensures) in
    (long, omega (arith, h.gate, (accepted_sizes _ h.route.setup).of_desks.high))

pub show_route-calls-requires : goal.show_route-calls-requires
show_route-calls-requires c =
    let at = c.args in
    let t = gate_sound _ _ _ _ _ (sym c.in_ok-gate_refusal.ensures) in
    let h = t.route in
    let long : length c.take_out.new.links ≡ most_pairs = search rules in
    record {
      setup = h.setup;
      long = long;
      own = λ d e k. links_among_own (others _) (linked at.setup) d e (rw (own _ _ _ _ c.links_of-links.ensures c.take_out.ensures) at k);
      from = (desks t).0;
      onto = (desks t).1;
      apart = h.apart;
      spacious = h.spacious;
    }

pub returns : goal.returns
returns c =
    let at = c.args in
    let shown = c.show_route-calls.ensures in
    let around = own _ _ _ _ c.links_of-links.ensures c.take_out.ensures in
    let h = way_gated at.setup at.a at.b at.c at.room.now around c.in_ok-gate_refusal.ensures (shown.value, shown.room) in
    promised at.setup at.a at.b at.c at.room.now h.0 h.1
