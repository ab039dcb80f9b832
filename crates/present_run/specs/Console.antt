-- The part of a console, or of the log, that is shown (own).
use Rattle.std.specs.Prelude.{◌≡◌, ℕ, [], ◌∷◌, ◌++◌, List, length, take, drop, Option, Some, None}
use Rattle.present_run.specs.declared.sent.Shown.{Shown}

-- the items from a place on, at most `count` of them
abbrev pub part_of : {A : Type 0} → (from count : ℕ) → List A → List A
part_of from count all = take count (drop from all)

-- how many bytes a console has, and that part of them
abbrev pub shown_of : (from count : ℕ) → List ℕ → ℕ × List ℕ
shown_of from count console = (length console, part_of from count console)

-- a console with a byte more, if one was sent
abbrev pub with_byte : List ℕ → Option ℕ → List ℕ
with_byte console None = console
with_byte console (Some byte) = console ++ byte ∷ []

-- what is shown is that of a console: how many bytes it has, and a part of them
abbrev pub Shows : (from count : ℕ) → List ℕ → Shown → Type 0
Shows from count console shown = (shown.total ≡ length console) × (shown.bytes.items ≡ part_of from count console)
