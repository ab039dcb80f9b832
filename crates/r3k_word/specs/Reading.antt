-- Fields at the front of bytes that may end early (own): each gives what is read and the bytes after it, or a fault.
use Rattle.std.specs.Prelude.{◌≡◌, ℕ, List, length, take, drop, Result, Ok, Err, nat_lt, if◌then◌else◌}
use Rattle.r3k_word.specs.Word.{word_of}

-- one step after another: the first fault ends them
infixl 10 ◌>>=◌
abbrev pub ◌>>=◌ : {E A B : Type 0} → Result A E → (A → Result B E) → Result B E
(Ok x) >>= f = f x
(Err fault) >>= f = Err fault

-- what a function without growth of memory returned, seen by view, is what reading gives
abbrev pub ReadsAs : {E X Y : Type 0} → (X → Y) → Result X E → Result Y E → Type 0
ReadsAs view (Ok x) read = read ≡ Ok (view x)
ReadsAs view (Err fault) read = read ≡ Err fault

-- count bytes, unless fewer are left
abbrev pub bytes_at : {E : Type 0} → E → ℕ → List ℕ → Result (List ℕ × List ℕ) E
bytes_at short count bytes = if nat_lt (length bytes) count then Err short else Ok (take count bytes, drop count bytes)

-- a number of four bytes
abbrev pub number_at : {E : Type 0} → E → List ℕ → Result (ℕ × List ℕ) E
number_at short bytes = if nat_lt (length bytes) 4 then Err short else Ok (word_of bytes, drop 4 bytes)
