-- What each desk sees: when two stores look alike to it. For the proof of demand 3: no entry's promise cites it.
use Rattle.std.specs.Prelude.{ℕ, ◌<◌, ◌≡◌, true, length}
use Rattle.rules.specs.Setups.{has_r, desk_of, class_of, right_of}
use Rattle.rules.specs.Stores.{holder_of, content_of, mark_of}
use Rattle.rules.specs.declared.Setup.{Setup}
use Rattle.rules.specs.declared.Store.{Store}

-- q is a process of desk u
pub record OfDesk (s : Setup) (u q : ℕ) : Type 0 where
  pub exists : q < s.processes
  pub sits : desk_of s q ≡ u

-- f is a file that desk u may read
pub record ReadBy (s : Setup) (u f : ℕ) : Type 0 where
  pub exists : f < s.files
  pub right : has_r (right_of s u (class_of s f)) ≡ true

-- q is a process of desk u, and f is a file that the desk may read
pub record Sees (s : Setup) (u q f : ℕ) : Type 0 where
  pub process : OfDesk s u q
  pub file : ReadBy s u f

-- process q meets the same of file f in both stores: who holds it, what it holds, and the process's own open mark
pub record SameOf (q f : ℕ) (m k : Store) : Type 0 where
  pub holder : holder_of m f ≡ holder_of k f
  pub content : content_of m f ≡ content_of k f
  pub mark : mark_of m f q ≡ mark_of k f q

-- how long the lists are that stand for a store's arrays
abbrev pub lengths_of : Store → ℕ × ℕ × ℕ
lengths_of m = (length m.holders, length m.cells, length m.marks)

-- the stores look alike to desk u: each of its processes meets the same of each file that the desk may read; a desk with no
-- process sees nothing
pub record Alike (s : Setup) (u : ℕ) (m k : Store) : Type 0 where
  -- so of all stores, whose arrays are of one length; the list that stands for an array could be of any
  pub lengths : lengths_of m ≡ lengths_of k
  pub meets : (q f : ℕ) → Sees s u q f → SameOf q f m k
