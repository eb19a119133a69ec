-- 01, "Line rules": the bytes and the words that they name.
use Rattle.std.specs.Prelude.{ℕ, ◌+◌, Bool, true, false, ◌&&◌, List, [], ◌∷◌, eqb}

-- "Lines end with LF; fields are parted by one tab"
abbrev pub line_feed : ℕ
line_feed = 10

abbrev pub tab : ℕ
tab = 9

-- the byte of the digit 0, and of each digit: they follow one another
abbrev pub digit0 : ℕ
digit0 = 48

abbrev pub digit : ℕ → ℕ
digit d = digit0 + d

-- `1`
abbrev pub one : List ℕ
one = digit 1 ∷ []

-- `store`
abbrev pub word_store : List ℕ
word_store = 115 ∷ 116 ∷ 111 ∷ 114 ∷ 101 ∷ []

-- `access`
abbrev pub word_access : List ℕ
word_access = 97 ∷ 99 ∷ 99 ∷ 101 ∷ 115 ∷ 115 ∷ []

-- `process`
abbrev pub word_process : List ℕ
word_process = 112 ∷ 114 ∷ 111 ∷ 99 ∷ 101 ∷ 115 ∷ 115 ∷ []

-- `file`
abbrev pub word_file : List ℕ
word_file = 102 ∷ 105 ∷ 108 ∷ 101 ∷ []

-- `calls`
abbrev pub word_calls : List ℕ
word_calls = 99 ∷ 97 ∷ 108 ∷ 108 ∷ 115 ∷ []

-- `R`
abbrev pub word_r : List ℕ
word_r = 82 ∷ []

-- `W`
abbrev pub word_w : List ℕ
word_w = 87 ∷ []

-- `RW`
abbrev pub word_rw : List ℕ
word_rw = 82 ∷ 87 ∷ []

-- `read`
abbrev pub word_read : List ℕ
word_read = 114 ∷ 101 ∷ 97 ∷ 100 ∷ []

-- `write`
abbrev pub word_write : List ℕ
word_write = 119 ∷ 114 ∷ 105 ∷ 116 ∷ 101 ∷ []

-- `lock`
abbrev pub word_lock : List ℕ
word_lock = 108 ∷ 111 ∷ 99 ∷ 107 ∷ []

-- `unlock`
abbrev pub word_unlock : List ℕ
word_unlock = 117 ∷ 110 ∷ 108 ∷ 111 ∷ 99 ∷ 107 ∷ []

-- `open`
abbrev pub word_open : List ℕ
word_open = 111 ∷ 112 ∷ 101 ∷ 110 ∷ []

-- `close`
abbrev pub word_close : List ℕ
word_close = 99 ∷ 108 ∷ 111 ∷ 115 ∷ 101 ∷ []

-- `testlock`
abbrev pub word_testlock : List ℕ
word_testlock = 116 ∷ 101 ∷ 115 ∷ 116 ∷ 108 ∷ 111 ∷ 99 ∷ 107 ∷ []

-- `copy`
abbrev pub word_copy : List ℕ
word_copy = 99 ∷ 111 ∷ 112 ∷ 121 ∷ []

-- a field is a word exactly byte by byte
unfoldable pub same : List ℕ → List ℕ → Bool
same [] [] = true
same [] (y ∷ ys) = false
same (x ∷ xs) [] = false
same (x ∷ xs) (y ∷ ys) = eqb x y && same xs ys
