-- What the writer of a route's list keeps: the calls that are written, and the chain that is left.
-- Assumes nothing.
use Prim.Native.Nat.{ℕ, suc, ◌+◌, ◌-◌, ◌*◌, ◌<◌, ◌≤◌}
use mathlib.Core.Path.{◌≡◌, refl, ap, sym, ◌∙◌}
use mathlib.Core.Bool.{true}
use mathlib.Core.List.{List, [], ◌++◌, append_assoc}
use native.Mathlib.Omega.{arith}
use lib.Dec.{eqb}
use lib.ListN.{length, get_or, drop, length-append}
use Rattle.rules.specs.Sizes.{most_desks, most_files, most_processes}
use Rattle.rules.specs.Setups.{accepted, desk_of}
use Rattle.rules.specs.Calls.{call_width, in_quads}
use Rattle.rules.specs.declared.Numbers.{Numbers}
use Rattle.rules.specs.declared.Setup.{Setup}
use Rattle.rules.proofs.Setups.{accepted_sizes}
use Rattle.lists.proofs.Quads.{calls_in_front}
use Rattle.chains.specs.Chains.{Links, process_at, file_for, is_chain, next_desk, walk}
use Rattle.chains.proofs.Chains.{chain_first}
use Rattle.chains.proofs.Lowest.{lowest-le}
use Rattle.chains.proofs.Acts.{linked_among_most, link_acts}
use Rattle.chains.proofs.Walk.{walk-length}
use Rattle.reaching.specs.Tables.{links_in}
use Rattle.demand.specs.Routes.{start_calls, middle_calls, end_calls, onward, route_calls, calls_for}
use Rattle.demand.proofs.Routes.{route_calls-length}
use Rattle.routes.specs.Writers.{Own, walked, Ready, Put}
use Rattle.routes.specs.declared.writing.CallList.{CallList}
use Rattle.routes.proofs.Puts.{put_none, put_length, put_next}

-- a desk's lowest process is one that any setup may have, or none
pub process_le : (s : Setup) → accepted s ≡ true → (d : ℕ) → process_at s d ≤ most_processes
process_le s e d = omega (arith, lowest-le s.processes (λ p. eqb (desk_of s p) d), (accepted_sizes s e).of_processes.high)

-- k links lead on from desk d, file f lies before d, and the list has place for their calls
pub record Left (links : Links) (to : List ℕ) (list : CallList) (d f k : ℕ) : Type 0 where
  pub end : ℕ
  pub chain : is_chain links d end (walk links to d k) ≡ true
  pub is_desk : d < most_desks
  pub is_file : f < most_files
  pub spacious : (list.calls + (calls_for k + 1)) * call_width ≤ length list.room.now

-- of the calls of k₀ links from desk d₀ on those before desk d are put into the list, and those of k links from there on are left
pub record Written (s : Setup) (links : Links) (to : List ℕ) (list₀ : CallList) (d₀ f₀ k₀ : ℕ) (list : CallList) (d f k : ℕ) : Type 0 where
  pub calls : List Numbers
  pub put : Put list₀ calls list
  pub fits : (list₀.calls + length calls) * call_width ≤ length list₀.room.now
  pub all : calls ++ onward s d f (walk links to d k) ≡ onward s d₀ f₀ (walk links to d₀ k₀)
  pub left : Left links to list d f k

-- a chain's next desk and its link's file are among those that any setup may have
module _ (s : Setup) (e : accepted s ≡ true) {links : Links} (own : Own s links) (to : List ℕ) (d j b : ℕ)
    (h : is_chain links d b (walk links to d (suc j)) ≡ true) where
  next_chain : (links d (next_desk links to d j) ≡ true) × (is_chain links (next_desk links to d j) b (walk links to (next_desk links to d j) j) ≡ true)
  unfolding walk
  next_chain = (chain_first links d b _ _).0 h

  next_desk-lt : next_desk links to d j < most_desks
  next_desk-lt = ((linked_among_most s e).ends d _ (own d _ next_chain.0)).1

  next_file_lt : file_for s d (next_desk links to d j) < most_files
  next_file_lt = omega (arith, (link_acts s d _ (own d _ next_chain.0)).by.exists, (accepted_sizes s e).of_files.high)

module _ {s : Setup} {links : Links} {to : List ℕ} {list₀ : CallList} {d₀ f₀ k₀ : ℕ} where
  pub written_none : Left links to list₀ d₀ f₀ k₀ → Written s links to list₀ d₀ f₀ k₀ list₀ d₀ f₀ k₀
  written_none l = record { calls = []; put = put_none list₀; fits = omega (arith, l.spacious); all = refl; left = l }

  module _ {list : CallList} {d f k : ℕ} (w : Written s links to list₀ d₀ f₀ k₀ list d f k) where
    module _ (h : accepted s ≡ true) (own : Own s links) (j : ℕ) (e : k ≡ suc j) where
      more : is_chain links d w.left.end (walk links to d (suc j)) ≡ true
      more = rw e at w.left.chain

      pub desk_next : next_desk links to d j < most_desks
      desk_next = next_desk-lt s h own to d j w.left.end more

      pub file_next : file_for s d (next_desk links to d j) < most_files
      file_next = next_file_lt s h own to d j w.left.end more

      -- a desk in the middle
      pub written_more : {next : CallList} → let u = next_desk links to d j in let g = file_for s d u in let calls = middle_calls (process_at s d) f g in
          Put list calls next → Written s links to list₀ d₀ f₀ k₀ next u g j
      unfolding onward walk
      written_more {next} put =
          let u = next_desk links to d j in
          let g = file_for s d u in
          let calls = middle_calls (process_at s d) f g in
          let long = put_length put (omega (arith, w.left.spacious)) in
          record {
            calls = w.calls ++ calls;
            put = put_next w.put w.fits put;
            fits = omega (arith, length-append w.calls calls, w.put.many, put_length w.put w.fits, w.left.spacious);
            all = append_assoc w.calls calls (onward s u g (walk links to u j)) ∙ (rw e at w.all);
            left = record {
              end = w.left.end;
              chain = (next_chain s h own to d j w.left.end more).1;
              is_desk = desk_next;
              is_file = file_next;
              spacious = omega (arith, w.left.spacious, long, put.many);
            };
          }

    -- the desk at the end
    pub written_all : k ≡ 0 → {whole : CallList} → Put list (end_calls (process_at s d) f) whole → Put list₀ (onward s d₀ f₀ (walk links to d₀ k₀)) whole
    unfolding onward walk
    written_all e {whole} put =
        let all : w.calls ++ end_calls (process_at s d) f ≡ onward s d₀ f₀ (walk links to d₀ k₀) = rw e at w.all in
        rw all at (put_next w.put w.fits put)

module _ {s : Setup} {links to : List ℕ} {a : ℕ} {room : List ℕ} (h : Ready s links to a room) where
  -- the number of links after the first, and the next desk
  abbrev after : ℕ
  after = get_or to a 0 - 1

  abbrev next : ℕ
  next = next_desk (links_in links) to a after

  pub first_link : get_or to a 0 ≡ suc after
  first_link = omega (arith, h.some)

  started : is_chain (links_in links) a h.end (walk (links_in links) to a (suc after)) ≡ true
  started = rw first_link at h.chain

  pub desk_second : next < most_desks
  desk_second = next_desk-lt s h.setup h.own to a after h.end started

  pub file_first : file_for s a next < most_files
  file_first = next_file_lt s h.setup h.own to a after h.end started

  module _ {list list₁ : CallList} (empty : list.calls ≡ 0) (lent : list.room.now ≡ room) where
    -- desk a's calls are put, and the others are left
    pub start_left : Put list (start_calls (process_at s a) (file_for s a next)) list₁ → Left (links_in links) to list₁ next (file_for s a next) after
    start_left put =
        let long : length list.room.now ≡ length room = ap length lent in
        record {
          end = h.end;
          chain = (next_chain s h.setup h.own to a after h.end started).1;
          is_desk = desk_second;
          is_file = file_first;
          spacious = omega (arith, put_length put (omega (arith, empty, long, h.spacious)), put.many, empty, long, h.spacious, h.few, h.some);
        }

    -- both together are the list
    pub route_written : {whole : CallList} → Put list (start_calls (process_at s a) (file_for s a next)) list₁
        → Put list₁ (onward s next (file_for s a next) (walk (links_in links) to next after)) whole
        → (whole.calls ≡ calls_for (get_or to a 0)) × (whole.room.now ≡ in_quads (route_calls s a (walked links to a)) ++ drop (calls_for (get_or to a 0) * call_width) room)
    unfolding route_calls walk
    route_written {whole} start rest =
        let f = file_for s a next in
        let long : length list.room.now ≡ length room = ap length lent in
        let calls = start_calls (process_at s a) f ++ onward s next f (walk (links_in links) to next after) in
        let many : length (walked links to a) ≡ get_or to a 0 = walk-length (links_in links) to a (get_or to a 0) in
        let full : length (route_calls s a (walked links to a)) ≡ calls_for (get_or to a 0) = route_calls-length s a (walked links to a) (omega (arith, h.some)) ∙ ap calls_for many in
        let all : calls ≡ route_calls s a (walked links to a) = sym (ap (λ (k : ℕ). route_calls s a (walk (links_in links) to a k)) first_link) in
        let put : Put list (route_calls s a (walked links to a)) whole = rw all at (put_next start (omega (arith, empty, long, h.spacious)) rest) in
        (omega (arith, put.many, empty, full), put.put ∙ rw (empty, lent, calls_in_front, full))
