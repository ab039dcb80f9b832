-- A plan as clauses see it (own).
use Rattle.std.specs.Prelude.{◌≡◌, ℕ, ◌-◌, ◌==◌, Bool, List, Option, Some, None, length, drop, min, ◌&&◌, if◌then◌else◌}
use Rattle.wb_io.specs.Calls.{Call}
use Rattle.wb_io.specs.declared.plan.Upset.{Upset}

-- A source that gives its input once or for ever, and a sink with room for `room` bytes. A call gives or takes at most `piece`
-- bytes. One read and one write may be upset, each after a number of good ones: the read fails, and the write fails or takes none.
pub record Planned : Type 0 where
  pub input : List ℕ
  pub for_ever : Bool
  pub left : List ℕ
  pub good_reads : Option ℕ
  pub written : List ℕ
  pub room : ℕ
  pub good_writes : Option ℕ
  pub upset : Upset
  pub piece : ℕ
  pub reads : List Call
  pub writes : List Call

-- how many bytes a read into `space` bytes gives
abbrev pub given_count : Planned → ℕ → ℕ
given_count p space = min (min space p.piece) (length p.left)

-- what is left after a read that gives `count` bytes: where that is nothing, a plan that gives for ever begins again
abbrev pub left_after : Planned → ℕ → List ℕ
left_after p count =
    let rest = drop count p.left in
    if p.for_ever && (length rest == 0) then p.input else rest

-- how many of `count` bytes a write takes
abbrev pub taken_count : Planned → ℕ → ℕ
taken_count p count = min (min count p.piece) (p.room - length p.written)

-- the next call is upset
abbrev pub IsUpset : Option ℕ → Type 0
IsUpset good = good ≡ Some 0

-- how many good calls are still to come after one more
abbrev pub good_after : Option ℕ → Option ℕ
good_after None = None
good_after (Some good) = if good == 0 then None else Some (good - 1)

-- the bytes that a plan reports as left: none where it gives for ever
abbrev pub reported_left : Planned → Option (List ℕ)
reported_left p = if p.for_ever then None else Some p.left
