-- The list that a report writes shows the route: with A's calls B's last answer is the figure 1, and without them "nothing".
-- Assumes nothing.
use Prim.Native.Nat.{ℕ, suc, ◌≤◌}
use mathlib.Core.Path.{◌≡◌, refl, sym}
use mathlib.Core.Bool.{true, false}
use mathlib.Core.Logic.{◌≢◌}
use mathlib.Core.List.{List, [], ◌∷◌}
use native.Mathlib.Omega.{arith}
use borrow.Author.Tests.{lt-ltb, eq-eqb, ne_eqb}
use lib.ListN.{length}
use Rattle.secrecy.specs.Machine.{is_of, answers_where, answers_to}
use Rattle.secrecy.specs.Strike.{strike}
use Rattle.rules.specs.Setups.{accepted}
use Rattle.rules.specs.Stores.{content_of, fresh_store}
use Rattle.rules.specs.Calls.{numbers, read_of, written_to, copied_to}
use Rattle.rules.specs.Links.{desk_of_call, linked}
use Rattle.rules.specs.declared.Setup.{Setup}
use Rattle.rules.specs.declared.Store.{Store}
use Rattle.rules.specs.declared.Answer.TheVariants.{Nothing}
use Rattle.rules.proofs.Setups.{accepted_sizes}
use Rattle.rules.proofs.Stores.{fresh_content}
use Rattle.views.specs.Machine.{machine}
use Rattle.chains.specs.Chains.{Acting, process_at, file_for, is_chain, desk_at, Fewest}
use Rattle.chains.proofs.Chains.{chain_none, chain_first, links_among_own, chain_mono}
use Rattle.chains.proofs.Shortest.{fewest_rest, fewest_apart, desks_apart}
use Rattle.chains.proofs.Acts.{linked_among, ActsBy, LinkActs, link_acts, files_used_apart}
use Rattle.demand.specs.Routes.{onward, route_calls}
use Rattle.demand.specs.Heard.{without, Shows}
use Rattle.demand.proofs.Goes.{open_answers}
use Rattle.demand.proofs.Stages.{Stage, fresh_stage, content_stage, open_stage, put_content_lem, wrote, handed, read_out}

module _ (s : Setup) where
  -- a call of the process by which desk d acts is d's, and no other desk's
  own_call : (d : ℕ) {u p : ℕ} → ActsBy s d p → d ≡ u → (code f x : ℕ) → is_of (machine s) u (numbers code p f x) ≡ true
  unfolding desk_of_call
  own_call d {u} {p} at h code f x = rw (lt-ltb p s.processes at.exists, at.sits) (eq-eqb d u h)

  others_call : (d : ℕ) {u p : ℕ} → ActsBy s d p → d ≢ u → (code f x : ℕ) → is_of (machine s) u (numbers code p f x) ≡ false
  unfolding desk_of_call
  others_call d {u} {p} at h code f x = rw (lt-ltb p s.processes at.exists, at.sits) (ne_eqb d u h)

module _ (s : Setup) (acting : Acting) where
  -- what the first link of a chain among the desks that act has
  first_acts : {b c d : ℕ} {rest : List ℕ} → Fewest (linked_among s acting) c b (d ∷ rest) → LinkActs s c d
  first_acts {b} {c} {d} {rest} h =
      link_acts s c d (links_among_own acting (linked s) c d ((chain_first (linked_among s acting) c b d rest).0 h.chain).0)

module _ (s : Setup) (e : accepted s ≡ true) (acting : Acting) (b : ℕ) where
  -- from a stage on, the desk at the end hears what the file holds that serves the stage's link
  onward-heard : (rest : List ℕ) (c d : ℕ) {m : Store} → Fewest (linked_among s acting) c b (d ∷ rest) → Stage m
      → answers_to (machine s) b m (onward s d (file_for s c d) rest) ≡ Nothing ∷ read_of (content_of m (file_for s c d)) ∷ []
  unfolding onward answers_where
  onward-heard [] c d {m} h at =
      let k = first_acts s acting h in
      simp (
        own_call s d k.to ((chain_none (linked_among s acting) d b).0 (fewest_rest h).chain),
        open_answers s m (process_at s d) (file_for s c d) k.to.exists k.by.exists,
        read_out s e at c d k,
      )
  onward-heard (u ∷ rest) c d {m} h at =
      let onto = fewest_rest h in
      let j = first_acts s acting h in
      let k = first_acts s acting onto in
      let f = file_for s c d in
      let g = file_for s d u in
      let copy = copied_to (content_of m g) (content_of m f) in
      simp (
        others_call s d k.from (fewest_apart onto),
        handed s e at c d u j k (λ q. files_used_apart s acting h 0 1 (omega arith) (omega arith) (sym q)),
        onward-heard rest d u onto (content_stage (open_stage at f (process_at s d)) g copy),
        put_content_lem s e at g copy k.by.exists,
      )

module _ (s : Setup) (acting : Acting) (a b : ℕ) where
  -- from a desk on that desk a does not come after, no call is struck out
  onward_kept : (rest : List ℕ) (d f : ℕ) → is_chain (linked s) d b rest ≡ true → ActsBy s d (process_at s d)
      → ((i : ℕ) → i ≤ length rest → desk_at d rest i ≢ a) → without s a (onward s d f rest) ≡ onward s d f rest
  unfolding onward strike
  onward_kept [] d f h own away = simp (others_call s d own (away 0 (omega arith)))
  onward_kept (u ∷ rest) d f h own away =
      let (l, r) = (chain_first (linked s) d b u rest).0 h in
      simp (
        others_call s d own (away 0 (omega arith)),
        onward_kept rest u (file_for s d u) r (link_acts s d u l).to (λ i k. away (suc i) (omega arith)),
      )

  -- without desk a's calls the first three are gone, and no other: a chain with the fewest links does not come back to a
  route_without : (d : ℕ) (rest : List ℕ) → Fewest (linked_among s acting) a b (d ∷ rest)
      → without s a (route_calls s a (d ∷ rest)) ≡ onward s d (file_for s a d) rest
  unfolding route_calls strike
  route_without d rest h =
      let k = first_acts s acting h in
      let chain = chain_mono (links_among_own acting (linked s)) d b rest (fewest_rest h).chain in
      simp (
        own_call s a k.from refl,
        onward_kept rest d (file_for s a d) chain k.to (λ i n q. desks_apart h 0 (suc i) (omega arith) (omega arith) (sym q)),
      )

-- the list along a chain with the fewest links among the desks that act shows the route
pub route_shows : (s : Setup) → accepted s ≡ true → (acting : Acting) {a b : ℕ} {xs : List ℕ} → a ≢ b → Fewest (linked_among s acting) a b xs
    → Shows s a b (route_calls s a xs)
unfolding route_calls answers_where
route_shows s e acting {a} {b} {xs = []} other h = absurd (other ((chain_none (linked_among s acting) a b).0 h.chain))
route_shows s e acting {a} {b} {xs = d ∷ rest} other h =
    let k = first_acts s acting h in
    let f = file_for s a d in
    let one = written_to (content_of fresh_store f) 1 in
    record {
      with_them =
          simp (
            others_call s a k.from other,
            wrote s e fresh_stage a d 1 k,
            onward-heard s e acting b rest a d h (content_stage fresh_stage f one),
            put_content_lem s e fresh_stage f one k.by.exists,
          );
      without_them =
          simp (
            route_without s acting a b d rest h,
            onward-heard s e acting b rest a d h fresh_stage,
            fresh_content f (omega (arith, (accepted_sizes s e).of_files.high, k.by.exists)),
          );
    }
