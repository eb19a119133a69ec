-- What a desk hears: the answers to its calls from a fresh store, with another desk's calls and without them.
use Rattle.std.specs.Prelude.{ℕ, ◌≡◌, ◌≢◌, List, [], ◌∷◌}
use Rattle.std.proofs.Math.Option.{some}
use Rattle.secrecy.specs.Machine.{answers_to}
use Rattle.secrecy.specs.Strike.{strike_desk}
use Rattle.secrecy.specs.Sets.{Every}
use Rattle.rules.specs.Stores.{fresh_store}
use Rattle.rules.specs.Calls.{Is32}
use Rattle.rules.specs.Links.{desk_of_call}
use Rattle.rules.specs.declared.Numbers.{Numbers}
use Rattle.rules.specs.declared.Setup.{Setup}
use Rattle.rules.specs.declared.Answer.{Answer}
use Rattle.rules.specs.declared.Answer.TheVariants.{Nothing, Figure}
use Rattle.views.specs.Machine.{machine}

-- all answers to desk b's calls from a fresh store, refusals among them
abbrev pub heard : Setup → ℕ → List Numbers → List Answer
heard s b acts = answers_to (machine s) b fresh_store acts

-- the list with desk a's calls struck out
abbrev pub without : Setup → ℕ → List Numbers → List Numbers
without s a acts = strike_desk (machine s) a acts

-- no list of calls lets desk b hear whether desk a's are in it
abbrev pub Unheard : Setup → ℕ → ℕ → Type 0
Unheard s a b = (acts : List Numbers) → Every Is32 acts → heard s b acts ≡ heard s b (without s a acts)

-- 02, Req 04, "in which C makes no call": no call of the list belongs to desk c
abbrev pub NoneOf : Setup → ℕ → List Numbers → Type 0
NoneOf s c acts = Every (λ n. desk_of_call s n ≢ some c) acts

-- no list of calls in which desk c makes none lets desk b hear whether desk a's are in it
abbrev pub GuardedBy : Setup → ℕ → ℕ → ℕ → Type 0
GuardedBy s a b c = (acts : List Numbers) → Every Is32 acts → NoneOf s c acts → heard s b acts ≡ heard s b (without s a acts)

-- the list lets desk b hear desk a: b is answered "nothing" and then the figure 1, and twice "nothing" without a's calls
pub record Shows (s : Setup) (a b : ℕ) (acts : List Numbers) : Type 0 where
  pub with_them : heard s b acts ≡ Nothing ∷ Figure 1 ∷ []
  pub without_them : heard s b (without s a acts) ≡ Nothing ∷ Nothing ∷ []
