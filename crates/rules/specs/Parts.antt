-- What a call names. For laws and for the step: no entry's promise cites it.
use Rattle.std.specs.Prelude.{ℕ}
use Rattle.rules.specs.declared.Call.{Call}
use Rattle.rules.specs.declared.Call.TheVariants.{Read, Write, Lock, Unlock, Open, Close, Testlock, Copy}

-- the process of a call, its file f, and the one file that it could change
abbrev pub process_of : Call → ℕ
process_of (Read p f) = p
process_of (Write p f x) = p
process_of (Lock p f) = p
process_of (Unlock p f) = p
process_of (Open p f) = p
process_of (Close p f) = p
process_of (Testlock p f) = p
process_of (Copy p f x) = p

abbrev pub file_of : Call → ℕ
file_of (Read p f) = f
file_of (Write p f x) = f
file_of (Lock p f) = f
file_of (Unlock p f) = f
file_of (Open p f) = f
file_of (Close p f) = f
file_of (Testlock p f) = f
file_of (Copy p f x) = f

abbrev pub changeable : Call → ℕ
changeable (Read p f) = f
changeable (Write p f x) = f
changeable (Lock p f) = f
changeable (Unlock p f) = f
changeable (Open p f) = f
changeable (Close p f) = f
changeable (Testlock p f) = f
changeable (Copy p f x) = x
