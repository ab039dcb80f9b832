-- What a reader or a writer has done (own).
use Rattle.std.specs.Prelude.{◌≡◌, ◌⊎◌, ℕ, ◌<◌, List, [], ◌∷◌, ◌++◌, Option, Some, None, Result, Ok, Err, refl, length, take, unwrap_or}
use Rattle.std.specs.Io.KnownBytes.{Appends, Consumes, IsAtEnd}
use Rattle.std.specs.Coded.{Coded, code_by, coded×, coded_ℕ, coded_list, coded_option}

-- a call: the most bytes that it was asked to move, and the bytes that it moved, or none where it failed
pub record Call : Type 0 where
  pub asked : ℕ
  pub moved : Option (List ℕ)

-- how proofs distinguish two calls: by both parts
abbrev pub call_code : Coded Call
call_code =
    code_by (ℕ × Option (List ℕ)) (coded× coded_ℕ (coded_option (coded_list coded_ℕ))) (λ c. (c.asked, c.moved))
    (λ p. record { asked = p.0; moved = p.1 }) (λ _. refl)

-- a call by its answer: it moved this many of the bytes, the first ones, or it failed
abbrev pub moved_by : {E : Type 0} → Result ℕ E → List ℕ → Option (List ℕ)
moved_by (Ok count) bytes = Some (take count bytes)
moved_by (Err error) bytes = None

abbrev pub call : {E : Type 0} → ℕ → Result ℕ E → List ℕ → Call
call asked answer bytes = record { asked = asked; moved = moved_by answer bytes }

-- the bytes that a call moved, and that calls moved, in order
abbrev pub bytes_of : Call → List ℕ
bytes_of call = unwrap_or call.moved []

abbrev pub bytes_moved : List Call → List ℕ
bytes_moved [] = []
bytes_moved (call ∷ calls) = bytes_of call ++ bytes_moved calls

-- a call moved some bytes
abbrev pub MovesSome : Call → Type 0
MovesSome call = 0 < length (bytes_of call)

-- a call was asked for some bytes and moved none
abbrev pub MovesNone : Call → Type 0
MovesNone call = (0 < call.asked) × (call.moved ≡ Some [])

-- a call failed
abbrev pub Fails : Call → Type 0
Fails call = call.moved ≡ None

-- a fact of each call
abbrev pub Each : (Call → Type 0) → List Call → Type 0
Each P [] = Unit {0}
Each P (call ∷ calls) = P call × Each P calls

-- What a reader has left after calls. Without a call it is as it was. Where the last call moved none of the bytes that it was asked
-- for, the reader is at its end.
abbrev pub EndsWell : (left left' : Option (List ℕ)) → List Call → Type 0
EndsWell left left' [] = left' ≡ left
EndsWell left left' (call ∷ []) = MovesNone call → IsAtEnd left'
EndsWell left left' (call ∷ (next ∷ calls)) = EndsWell left left' (next ∷ calls)

-- A reader made these further calls. What it has left lost the bytes that they moved, if it reports what is left.
abbrev pub Reads : (reads reads' : List Call) (left left' : Option (List ℕ)) → List Call → Type 0
Reads reads reads' left left' made = (reads' ≡ reads ++ made) × Consumes left left' (bytes_moved made) × EndsWell left left' made

-- A writer made these further calls. What it holds grew by the bytes that they moved, if it reports what it holds.
abbrev pub Writes : (writes writes' : List Call) (written written' : Option (List ℕ)) → List Call → Type 0
Writes writes writes' written written' made = (writes' ≡ writes ++ made) × Appends written written' (bytes_moved made)

-- a time between calls: those that a reader had got by then, and those that a writer had
pub record Moment : Type 0 where
  pub reads : List Call
  pub writes : List Call

-- calls took all of these bytes, and each took some
pub record TakesAll (bytes : List ℕ) (calls : List Call) : Type 0 where
  pub each : Each MovesSome calls
  pub all : bytes_moved calls ≡ bytes

-- calls took a front of these bytes, not all, and each took some; then one failed or took none
pub record TakesFront (bytes : List ℕ) (calls : List Call) : Type 0 where
  pub good : List Call
  pub bad : Call
  pub rest : List ℕ
  pub calls_are : calls ≡ good ++ bad ∷ []
  pub each : Each MovesSome good
  pub stopped : Fails bad ⊎ MovesNone bad
  pub front : bytes ≡ bytes_moved calls ++ rest
  pub left : 0 < length rest
