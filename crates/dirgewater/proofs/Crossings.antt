-- Laws that the pages name and that no proof of code cites any more: what crosses to C of an answer, and of a text that was read.
-- Assumes nothing.
use Prim.Native.Nat.{ℕ}
use mathlib.Core.Path.{◌≡◌, ap, subst, ◌∙◌}
use Rattle.std.specs.Prelude.{Result}
use Rattle.rules.specs.declared.Setup.{Setup}
use Rattle.lines.specs.Entries.{text_numbers_of, setup_beside}
use Rattle.lines.specs.declared.GivenText.{GivenText}

-- two numbers that are those of an answer are those of any answer equal to it
pub numbers-same : {A : Type 0} (numbers : A → ℕ × ℕ) {answer same : A} {kind value : ℕ} → answer ≡ same
    → (kind ≡ (numbers answer).0) × (value ≡ (numbers answer).1) → (kind ≡ (numbers same).0) × (value ≡ (numbers same).1)
numbers-same {A} numbers e told = (told.0 ∙ ap (λ (x : A). (numbers x).0) e, told.1 ∙ ap (λ (x : A). (numbers x).1) e)

-- these numbers and this setup are those of a reading
abbrev pub Crosses : ℕ → ℕ → ℕ → Setup → Result GivenText (ℕ × ℕ) → Type 0
Crosses kind value offset setup g =
    let n = text_numbers_of g in
    (kind ≡ n.0) × (value ≡ n.1) × (offset ≡ n.2) × (setup ≡ setup_beside g)

-- what crosses of a reading crosses of one that is the same
pub crosses_same : {kind value offset : ℕ} {setup : Setup} (g h : Result GivenText (ℕ × ℕ)) → g ≡ h → Crosses kind value offset setup g → Crosses kind value offset setup h
crosses_same {kind} {value} {offset} {setup} g h e c = subst (Crosses kind value offset setup) e c
