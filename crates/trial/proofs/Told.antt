-- Laws of what the checks tell of a case, from what the entries promise.
-- Assumes nothing.
use Rattle.std.proofs.Common.{ℕ, ◌+◌, ◌≡◌, ◌==◌, Bool, true, false, ◌&&◌, List, [], ◌∷◌, ◌++◌, length, get_or, take, drop, refl, sym, ◌∙◌, ap, Bor, Option, Some, None, arith, Result, Ok, Err}
use Rattle.std.specs.Bool.{Decides}
use Rattle.std.specs.List.{list_all}
use Rattle.std.specs.Option.{MatchOption}
use Rattle.std.specs.Cmp.Lexicographic.{pointwise}
use Rattle.std.proofs.lemmas.Bool.Decides.{Decides-eqb, Decides-and, Decides-at, Decides-like}
use Rattle.std.proofs.lemmas.Slice.Eq.{slice_eq-Decides, strip_prefix_is}
use Rattle.std.proofs.lemmas.List.{append_cancel_left, drop-replicate, length-append, length-replicate}
use Rattle.rules.specs.Stores.{Content}
use Rattle.rules.specs.Calls.{calls_in}
use Rattle.rules.specs.Refusals.{number_of, numbered}
use Rattle.rules.specs.Answers.{told_numbers_of, pair_of}
use Rattle.rules.specs.declared.crossing.Numbered.{Numbered}
use Rattle.rules.specs.declared.Setup.{Setup}
use Rattle.rules.specs.declared.Store.{Store}
use Rattle.rules.specs.declared.refusal.Refusal.{Refusal}
use Rattle.rules.specs.declared.refusal.Refusal.TheVariants.{CountOutside, RightAbove, NoSuchDesk, NoSuchClass, NoSuchOperation, NoSuchProcess, NoSuchFile, ExtraGiven, CopyOntoItself, WrongLength, TooLittleRoom, NoSuchRouteDesk, SameDesk, BreaksRules, NotAccepted, DoesNotFit}
use Rattle.lists.specs.Lists.{listed, answers_after}
use Rattle.routes.specs.Reports.{most_route_numbers, routed, room_after}
use Rattle.trial.specs.Trials.{untouched, room_of, answers_room, written_into, Answers, Leaves, Reports}
use Rattle.trial.specs.declared.starting.Start.{Start}

-- contents are told apart by their figures and their written marks
abbrev same_content : Content → Content → Bool
same_content x y = (x.figure == y.figure) && (x.written == y.written)

contents_told : (x y : Content) → Decides (same_content x y) (x ≡ y)
contents_told x y =
    Decides-like (same_content x y) (λ e i. record { figure = e.0 i; written = e.1 i })
    (λ e. (ap (λ (z : Content). z.figure) e, ap (λ (z : Content). z.written) e))
    (Decides-and _ _ (Decides-eqb x.figure y.figure) (Decides-eqb x.written y.written))

-- stores are the same exactly where a derived `==` says so
pub store_told : (a b : Store) (r : Bool)
    → r ≡ (pointwise (λ x y. x == y) a.holders b.holders && (pointwise same_content a.cells b.cells && pointwise (λ x y. x == y) a.marks b.marks))
    → Decides r (a ≡ b)
store_told a b r e =
    Decides-at r _ e
    (Decides-like _ (λ t i. record { holders = t.0 i; cells = t.1.0 i; marks = t.1.1 i })
    (λ t. (ap (λ (m : Store). m.holders) t, (ap (λ (m : Store). m.cells) t, ap (λ (m : Store). m.marks) t)))
    (Decides-and _ _ (slice_eq-Decides Decides-eqb a.holders b.holders _ refl)
    (Decides-and _ _ (slice_eq-Decides contents_told a.cells b.cells _ refl) (slice_eq-Decides Decides-eqb a.marks b.marks _ refl))))

-- a run in which every number is what an untouched room holds is an untouched room
all_told : (room : List ℕ) → Decides (list_all (λ n. n == untouched) room) (room ≡ room_of (length room))
all_told [] = (λ e. refl, λ e. refl)
all_told (n ∷ room) = let h = all_told room in grind arith

-- so past a front it is the rest that is looked at
past_told : (front rest : List ℕ) → Decides (list_all (λ n. n == untouched) rest) (front ++ rest ≡ written_into front (room_of (length (front ++ rest))))
past_told front rest =
    let e : written_into front (room_of (length (front ++ rest))) ≡ front ++ room_of (length rest) =
    ap (λ (l : List ℕ). front ++ l) (drop-replicate (length front) (length (front ++ rest)) untouched ∙ ap room_of (simp length-append (omega arith))) in
    Decides-like _ (λ h. ap (λ (l : List ℕ). front ++ l) h ∙ sym e) (λ h. append_cancel_left front _ _ (h ∙ e)) (all_told rest)

-- a room without its front tells whether the front is written into it; a room with another front tells that it is not
pub holds_told : (room front : List ℕ) (r : Option (Bor (List ℕ))) (b : Bool)
    → MatchOption r
    (pointwise (λ x y. x == y) (take (length front) room) front ≡ false)
    (λ x.
    (pointwise (λ x y. x == y) (take (length front) room) front ≡ true)
    × (x.now ≡ drop (length front) room) × (length x.now + length front ≡ length room))
    → MatchOption r (b ≡ false) (λ x. b ≡ list_all (λ n. n == untouched) x.now)
    → Decides b (room ≡ written_into front (room_of (length room)))
holds_told room front None b h k =
    Decides-at b false k (λ e. cc, λ e. absurd (strip_prefix_is Decides-eqb room front None h _ e))
holds_told room front (Some x) b h k =
    Decides-at b _ k
    (rw (strip_prefix_is Decides-eqb room front (Some x) h) (past_told front x.now))

-- a list that is run tells what it is to tell
pub answers_told : (s : Setup) (m : Store) (list expected : List ℕ) (n : Result ℕ ℕ) (left : Store) (room : List ℕ) (x y : Bool)
    → (n, left) ≡ listed s m list answers_room → room ≡ answers_after s m list answers_room → length room ≡ most_route_numbers
    → Decides x (n ≡ Ok (calls_in list)) → Decides y (room ≡ written_into expected (room_of (length room))) → Decides (x && y) (Answers s m list expected)
unfolding Answers
answers_told s m list expected n left room x y e f l p q =
    let g : (listed s m list answers_room).0 ≡ n = ap (λ (r : Result ℕ ℕ × Store). r.0) (sym e) in
    rw (g, sym f) (Decides-and x y p (rw l at q))

-- the refusals by their numbers, from 1 on
refusals : List Refusal
refusals =
    CountOutside ∷ CountOutside ∷ RightAbove ∷ NoSuchDesk ∷ NoSuchClass ∷ NoSuchOperation ∷ NoSuchProcess ∷ NoSuchFile ∷ ExtraGiven
    ∷ CopyOntoItself ∷ WrongLength ∷ TooLittleRoom ∷ NoSuchRouteDesk ∷ SameDesk ∷ BreaksRules ∷ NotAccepted ∷ DoesNotFit ∷ []

by_number : (r : Refusal) → get_or refusals (number_of r) CountOutside ≡ r
unfolding refusals
by_number CountOutside = refl
by_number RightAbove = refl
by_number NoSuchDesk = refl
by_number NoSuchClass = refl
by_number NoSuchOperation = refl
by_number NoSuchProcess = refl
by_number NoSuchFile = refl
by_number ExtraGiven = refl
by_number CopyOntoItself = refl
by_number WrongLength = refl
by_number TooLittleRoom = refl
by_number NoSuchRouteDesk = refl
by_number SameDesk = refl
by_number BreaksRules = refl
by_number NotAccepted = refl
by_number DoesNotFit = refl

-- a refusal is told by its number, and so is a result
numbered_told : {A : Type 0} (x y : Result A Refusal) → numbered x ≡ numbered y → x ≡ y
numbered_told (Ok a) (Ok b) e = cc
numbered_told (Ok a) (Err r) e = cc
numbered_told (Err r) (Ok b) e = cc
numbered_told (Err r) (Err t) e =
    let k : number_of r ≡ number_of t = cc in
    ap Err (sym (by_number r) ∙ ap (λ (n : ℕ). get_or refusals n CountOutside) k ∙ by_number t)

-- a pair is told by its two numbers
pair_told : (p : Numbered) (q : ℕ × ℕ) (kind value : ℕ) → pair_of p ≡ q → Decides ((p.kind == kind) && (p.value == value)) (q ≡ (kind, value))
pair_told p q kind value e =
    rw (sym e)
    (Decides-like _ (λ t i. (t.0 i, t.1 i)) (λ t. (ap (λ (r : ℕ × ℕ). r.0) t, ap (λ (r : ℕ × ℕ). r.1) t))
    (Decides-and _ _ (Decides-eqb p.kind kind) (Decides-eqb p.value value)))

-- a report that is lent the front of an untouched room tells what it is to tell
pub reports_told : (s : Setup) (a b n : ℕ) (answer expected : Result (Option ℕ) Refusal) (pair : Numbered) (kind value : ℕ) (lent room list : List ℕ)
    (x y : Bool) → lent ≡ room_of n → numbered answer ≡ routed s a b (length lent) → pair_of pair ≡ told_numbers_of (numbered answer)
    → room ≡ room_after s a b lent → length room ≡ length lent → Decides x (answer ≡ expected) → Decides y (room ≡ written_into list (room_of (length room)))
    → Decides ((pair.kind == kind) && (pair.value == value) && x && y) (Reports s a b n (numbered expected) (kind, value) list)
unfolding Reports
reports_told s a b n answer expected pair kind value lent room list x y whole e g f l p q =
    let many : length lent ≡ n = ap length whole ∙ length-replicate n untouched in
    let told : numbered answer ≡ routed s a b n = e ∙ ap (routed s a b) many in
    let filled : room ≡ room_after s a b (room_of n) = f ∙ ap (room_after s a b) whole in
    let numbers = pair_told pair _ kind value (g ∙ ap told_numbers_of told) in
    let answers = Decides-like x (λ k. ap numbered k) (numbered_told answer expected) p in
    let three = Decides-and _ y (Decides-and _ x numbers (rw told at answers)) (rw filled at (rw (l ∙ many) at q)) in
    Decides-like _ (λ t. (t.0.1, t.0.0, t.1)) (λ t. ((t.1, t.0), t.2)) three

-- what holds of the table's start holds of the one that is handed on
pub handed_on : {s t : Start} (list expected : List ℕ) → t ≡ s → Answers s.setup s.store list expected → Answers t.setup t.store list expected
handed_on list expected e h = rw e h

pub handed_left : {s t : Start} (list : List ℕ) → t ≡ s → Leaves s.setup s.store list s.store → Leaves t.setup t.store list t.store
handed_left list e h = rw e h

pub handed_route : {s t : Start} (a b n : ℕ) (answer : Result (Option ℕ) ℕ) (pair : ℕ × ℕ) (list : List ℕ) → t ≡ s
    → Reports s.setup a b n answer pair list → Reports t.setup a b n answer pair list
handed_route a b n answer pair list e h = rw e h
