-- What neither sees quiet ticks nor ends them: a byte that arrives, and a read of the serial part.
use Rattle.std.proofs.Common.{◌≡◌, ℕ, Bool, true, false, Option, Some, None, sym, subst, [], ◌∷◌, ◌++◌, length, refl}
use Rattle.std.specs.Prelude.{◌==◌, ◌&&◌, nat_lt, slice_set, if◌then◌else◌}
use Rattle.std.proofs.lemmas.Bool.{eqb-true}
use Rattle.dz_serial.specs.Character.{Character}
use Rattle.dz_serial.specs.Serial.{Serial, entry_of}
use Rattle.dz_serial.specs.Silo.{arrived, arrived_framing, stored, taken, without_oldest}
use Rattle.dz_serial.specs.Reads.{csr_of, word_read, after_read}
use Rattle.dz_serial.specs.Quiet.{passed, quiet_of}
use Rattle.kn02_bus.specs.declared.region.Device.{Device}
use Rattle.kn02_bus.specs.declared.region.Device.TheVariants as device
use Rattle.kn02_bus.specs.State.{BusState}
use Rattle.kn02_bus.specs.Access.{after_load, loaded}
use Rattle.kn02_bus.specs.Quiet.{steady_word}

-- a choice, by its cases
chosen : {X Y : Type 0} (f : X → Y) (b : Bool) (x y : X) (x' y' : Y) → f x ≡ x' → f y ≡ y'
    → f (if b then x else y) ≡ (if b then x' else y')
chosen f true x y x' y' h k = h
chosen f false x y x' y' h k = k

either : {X Y : Type 0} (f : X → Y) (b : Bool) (x y : X) (z : Y) → f x ≡ z → f y ≡ z → f (if b then x else y) ≡ z
either f true x y z h k = h
either f false x y z h k = k

-- a byte that is stored, or lost
stored_is_quiet : (s : Serial) (line byte : ℕ) (framing : Bool) → quiet_of (stored s line byte framing) ≡ quiet_of s
unfolding quiet_of
stored_is_quiet s line byte framing = either quiet_of _ _ _ _ refl refl

taken_is_quiet : (s : Serial) (line byte : ℕ) (framing : Bool) → quiet_of (taken s line byte framing) ≡ quiet_of s
taken_is_quiet s line byte framing = either quiet_of _ _ _ _ (stored_is_quiet s line byte framing) refl

pub arrived_is_quiet : (s : Serial) (line byte : ℕ) → quiet_of (arrived s line byte) ≡ quiet_of s
unfolding arrived
arrived_is_quiet s line byte = taken_is_quiet s line byte false

pub framing_is_quiet : (s : Serial) (line byte : ℕ) → quiet_of (arrived_framing s line byte) ≡ quiet_of s
unfolding arrived_framing
framing_is_quiet s line byte = taken_is_quiet s line byte true

passed_stored : (n : ℕ) (s : Serial) (line byte : ℕ) (framing : Bool)
    → passed n (stored s line byte framing) ≡ stored (passed n s) line byte framing
passed_stored n s line byte framing =
    let character : Character = record { line = line; byte = byte; overrun = entry_of s.lost line; framing = framing } in
    let kept : Serial = record s { silo = s.silo ++ character ∷ []; lost = slice_set s.lost line false } in
    let lost : Serial = record s { lost = slice_set s.lost line true } in
    chosen (passed n) (nat_lt (length s.silo) 64) kept lost _ _ refl refl

passed_taken : (n : ℕ) (s : Serial) (line byte : ℕ) (framing : Bool)
    → passed n (taken s line byte framing) ≡ taken (passed n s) line byte framing
passed_taken n s line byte framing =
    let stores = passed_stored n s line byte framing in
    chosen (passed n) (s.mse && entry_of s.receivers line) (stored s line byte framing) s _ _ stores refl

pub passed_arrived : (n : ℕ) (s : Serial) (line byte : ℕ) → passed n (arrived s line byte) ≡ arrived (passed n s) line byte
unfolding arrived
passed_arrived n s line byte = passed_taken n s line byte false

pub passed_framing : (n : ℕ) (s : Serial) (line byte : ℕ)
    → passed n (arrived_framing s line byte) ≡ arrived_framing (passed n s) line byte
unfolding arrived_framing
passed_framing n s line byte = passed_taken n s line byte true

-- a read of a register
pub read_is_quiet : (s : Serial) (offset : ℕ) → quiet_of (after_read s offset) ≡ quiet_of s
unfolding after_read quiet_of
read_is_quiet s offset = either quiet_of _ _ _ _ refl refl

pub passed_read : (n : ℕ) (s : Serial) (offset : ℕ) → passed n (after_read s offset) ≡ after_read (passed n s) offset
unfolding after_read
passed_read n s offset = chosen (passed n) (offset == 8) (without_oldest s) s _ _ refl refl

pub word_of_passed : (n : ℕ) (s : Serial) (offset : ℕ) → word_read (passed n s) offset ≡ word_read s offset
unfolding word_read
word_of_passed n s offset = refl

-- a load of a register that is steady
if_some : (b : Bool) (x y : ℕ) → (let o : Option ℕ = if b then Some x else None in o) ≡ Some y → (b ≡ true) × (x ≡ y)
if_some true x y is = (refl, cc is)
if_some false x y is = let no : ⊥ = cc is in absurd no

pub steady_now : (bus : BusState) (device : Device) (word : ℕ) → steady_word bus device ≡ Some word → loaded bus device ≡ word
unfolding word_read
steady_now bus (device.Serial offset) word is = let at = if_some (offset == 0) (csr_of bus.serial) word is in rw at.0 at.1
steady_now bus (device.Clock register) word is = cc is
steady_now bus device.Csr word is = cc is

pub steady_left : (bus later : BusState) (device : Device) (word : ℕ) → steady_word bus device ≡ Some word → after_load later device ≡ later
unfolding after_read
steady_left bus later (device.Serial offset) word is =
    let at = if_some (offset == 0) (csr_of bus.serial) word is in
    subst (λ (n : ℕ). after_load later (device.Serial n) ≡ later) (sym (eqb-true offset 0 at.0)) refl
steady_left bus later (device.Clock register) word is = cc is
steady_left bus later device.Csr word is = refl
