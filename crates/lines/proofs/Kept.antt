-- Laws of what every sound line keeps: what each change of a state keeps is had by what a text is read to.
-- Assumes nothing.
use Prim.Native.Nat.{ℕ, zero, suc}
use mathlib.Core.Path.{◌≡◌, refl, subst}
use mathlib.Core.Bool.{true}
use mathlib.Core.List.{List, [], ◌∷◌}
use mathlib.Core.Option.{Option, some, none}
use native.Mathlib.Omega.{arith}
use lib.ListN.{length}
use Rattle.rules.specs.declared.Numbers.{Numbers}
use Rattle.rules.specs.Refusals.{Ground, first_of}
use Rattle.rules.specs.Entries.{unless}
use Rattle.rules.proofs.Lists.{by_test, cond_holds}
use Rattle.lines.specs.Lines.{Line, lines_of, fields_of}
use Rattle.lines.specs.Shapes.{Header, Access, Process, File, header_line, access_line, process_line, file_line, calls_line, call_line}
use Rattle.lines.specs.Readings.{Due, header_due, access_due, process_due, file_due, calls_due, call_due, SoFar, at_start, Reached, sound, refused, judged, header_order, after_header, access_order, after_access, process_order, after_process, file_order, after_file, after_calls, call_line_order, after_call, judge_process, Text, alone, calls_follow, starts_access, judge_further, judge_due, judge, judge_all, complete, at_end, read_text}

-- what is read so far has a property, by what is due, where no line was refused
abbrev pub Kept {κ} : (Due → SoFar → Type κ) → Reached → Type κ
Kept P (sound s) = P s.due s
Kept P (refused r at) = Unit {κ}

-- what is refused is not read
pub refused_sound : {r at : ℕ} {s : SoFar} → refused r at ≡ sound s → ⊥
refused_sound {r} {at} {s} e = let z : ◌≡◌ {A = ℕ} 0 1 = cc in omega arith

pub unless_holds {ℓ κ} : {A : Type ℓ} (P : A → Type κ) (n : ℕ) (x y : A) → (n ≡ 0 → P x) → P y → P (unless n x y)
unless_holds P zero x y f p = f refl
unless_holds P (suc n) x y f p = p

-- a line that is judged keeps it if what is read after a line of its shape, with nothing against it, has it
judged_keeps {ℓ κ} : {A : Type ℓ} (P : Due → SoFar → Type κ) (at : ℕ) (shape : Option A) (order : A → List Ground) (next : A → SoFar)
    → ((x : A) → shape ≡ some x → first_of (order x) ≡ 0 → P (next x).due (next x)) → Kept P (judged at shape order next)
judged_keeps P at none order next h = tt
judged_keeps P at (some x) order next h =
    unless_holds (Kept P) (first_of (order x)) (sound (next x)) (refused (first_of (order x)) at) (h x refl) tt

-- a property, by what is due, that holds before any line and that each change keeps
pub record Keeps {κ} (P : Due → SoFar → Type κ) : Type κ where
  pub start : P header_due at_start
  pub header : (h : Header) → first_of (header_order h) ≡ 0 → P access_due (after_header h)
  pub access : (s : SoFar) (fields : List (List ℕ)) (a : Access) → access_line fields ≡ some a → first_of (access_order s a) ≡ 0
      → P access_due s → P access_due (after_access s a)
  -- where an access line may stand, the first process line may
  pub no_access : (s : SoFar) → P access_due s → P process_due s
  pub process : (s : SoFar) (p : Process) → first_of (process_order s p) ≡ 0 → P process_due s → P (after_process s p).due (after_process s p)
  pub file : (s : SoFar) (f : File) → first_of (file_order s f) ≡ 0 → P file_due s → P (after_file s f).due (after_file s f)
  pub calls : (s : SoFar) → P calls_due s → P call_due (after_calls s)
  pub call : (s : SoFar) (fields : List (List ℕ)) (n : Numbers) → call_line fields ≡ some n → first_of (call_line_order s) ≡ 0
      → P call_due s → P call_due (after_call s n)

module _ {κ} {P : Due → SoFar → Type κ} (k : Keeps P) where
  process_kept : (s : SoFar) (at : ℕ) (fields : List (List ℕ)) → P process_due s → Kept P (judge_process s at fields)
  process_kept s at fields h = judged_keeps P at (process_line fields) (process_order s) (after_process s) (λ p e z. k.process s p z h)

  further_kept : (t : Text) (s : SoFar) (at : ℕ) (fields : List (List ℕ)) → P calls_due s → Kept P (judge_further t s at fields)
  further_kept alone s at fields h = tt
  further_kept calls_follow s at fields h = judged_keeps P at (calls_line fields) (λ ns. []) (λ ns. after_calls s) (λ ns e z. k.calls s h)

  due_kept : (t : Text) (d : Due) (s : SoFar) (at : ℕ) (fields : List (List ℕ)) → P d s → Kept P (judge_due t d s at fields)
  due_kept t header_due s at fields h = judged_keeps P at (header_line fields) header_order after_header (λ x e z. k.header x z)
  due_kept t access_due s at fields h =
      cond_holds (Kept P) (starts_access fields)
      (λ y. judged_keeps P at (access_line fields) (access_order s) (after_access s) (λ a e z. k.access s fields a e z h))
      (λ n. process_kept s at fields (k.no_access s h))
  due_kept t process_due s at fields h = process_kept s at fields h
  due_kept t file_due s at fields h = judged_keeps P at (file_line fields) (file_order s) (after_file s) (λ f e z. k.file s f z h)
  due_kept t calls_due s at fields h = further_kept t s at fields h
  due_kept t call_due s at fields h =
      judged_keeps P at (call_line fields) (λ n. call_line_order s) (after_call s) (λ n e z. k.call s fields n e z h)

  all_kept : (t : Text) (reached : Reached) (lines : List Line) → Kept P reached → Kept P (judge_all t reached lines)
  unfolding judge_all judge
  all_kept t reached [] h = h
  all_kept t (sound s) (l ∷ lines) h =
      all_kept t (judge t s l) lines
      (cond_holds (Kept P) l.whole (λ w. due_kept t s.due s l.at (fields_of l.bytes) h) (λ n. tt))
  all_kept t (refused r at) (l ∷ lines) h = all_kept t (refused r at) lines tt

-- what a text is read to is what its lines were read to, and lacks none
pub read_all : (t : Text) (text : List ℕ) (s : SoFar) → read_text t text ≡ sound s
    → (judge_all t (sound at_start) (lines_of text) ≡ sound s) × (complete t s.due ≡ true)
unfolding read_text
read_all t text s e = ended (judge_all t (sound at_start) (lines_of text)) e
  where
    ended : (r : Reached) → at_end t (length text) r ≡ sound s → (r ≡ sound s) × (complete t s.due ≡ true)
    ended (sound m) q =
        by_test (complete t m.due)
        (λ c.
        let z : m ≡ s = cc (rw c at q) in
        (cc, subst (λ (n : SoFar). complete t n.due ≡ true) z c))
        (λ f. absurd (refused_sound (rw f at q)))
    ended (refused r at) q = absurd (refused_sound q)

-- so it has the property
pub read_keeps {κ} : {P : Due → SoFar → Type κ} → Keeps P → (t : Text) (text : List ℕ) (s : SoFar) → read_text t text ≡ sound s → P s.due s
read_keeps {P} k t text s e =
    subst (Kept P) (read_all t text s e).0 (all_kept k t (sound at_start) (lines_of text) (unfold at_start in k.start))
