-- The meaning of an address, after Kane and Heinrich, chapter 4. That the lowest entry counts where several match, and that such an
-- access is reported, is own.
use Rattle.std.specs.Prelude.{ℕ, ◌%◌, ◌^◌, ◌&&◌, ◌||◌, Bool, true, false, not, Option, Some, None, Result, Ok, Err, nat_lt, nat_le, if◌then◌else◌}
use Rattle.r3k_word.specs.Word.{has, merged}
use Rattle.cop0.specs.Registers.{Registers}
use Rattle.cop0.specs.Changes.{with_ts}
use Rattle.cop0.specs.Status.{in_user_mode}
use Rattle.tlb64.specs.Entries.{process_of}
use Rattle.std.specs.Option.{option_map}
use Rattle.tlb64.specs.Lookup.{lookup_of}
use Rattle.tlb64.specs.declared.entry.Found.{Found}
use Rattle.r3k_machine.specs.declared.address.Physical.{Physical}
use Rattle.r3k_machine.specs.declared.address.Segment.{Segment}
use Rattle.r3k_machine.specs.declared.address.Segment.TheVariants.{Forbidden, Unmapped, Mapped}
use Rattle.r3k_machine.specs.declared.address.TheConstants.{KSEG0, KSEG1, KSEG2, UNCACHED, DIRTY, VALID, OFFSET}
use Rattle.r3k_machine.specs.declared.address.Use.{Use}
use Rattle.r3k_machine.specs.declared.address.Use.TheVariants.{Fetch, Load, Store}
use Rattle.r3k_machine.specs.declared.address.Where.{Where}
use Rattle.r3k_machine.specs.declared.address.Where.TheVariants.{Cached, Uncached, Adel, Refill, Tlbl}
use Rattle.r3k_machine.specs.declared.exception.Exception.{Exception}
use Rattle.r3k_machine.specs.declared.exception.Exception.TheVariants.{AddressErrorLoad, AddressErrorStore, TlbLoad, TlbStore, Modification}
use Rattle.r3k_machine.specs.Core.{Core}

-- Where an address lies. One that is misaligned is forbidden, and in user mode all from kseg0 on. kseg0 and kseg1 are unmapped: the
-- physical address has the top three bits cleared, and kseg0 is cacheable. kuseg, below them, and kseg2, above, are mapped.
abbrev pub segment_of : Registers → Bool → ℕ → Segment
segment_of cop0 aligned address =
    if not aligned || (in_user_mode cop0 && nat_le KSEG0 address) then Forbidden
    else (if nat_le KSEG0 address && nat_lt address KSEG2
    then Unmapped (record { address = address % 2 ^ 29; cacheable = nat_lt address KSEG1 })
    else Mapped)

-- the exception of an address that is forbidden, and of one without a valid entry: only where an address of kuseg has no entry at
-- all is it one to refill
abbrev pub address_error : Use → ℕ → Exception
address_error Fetch address = AddressErrorLoad address
address_error Load address = AddressErrorLoad address
address_error Store address = AddressErrorStore address

abbrev pub miss : Use → ℕ → Bool → Exception
miss Fetch address refill = TlbLoad address refill
miss Load address refill = TlbLoad address refill
miss Store address refill = TlbStore address refill

-- whether an entry, by its EntryLo, lets an access of its page through: a store wants it dirty
abbrev pub lets_through : Use → ℕ → Bool
lets_through Fetch lo = true
lets_through Load lo = true
lets_through Store lo = has lo DIRTY

-- what EntryLo of its page makes of an address: it must be valid, and the physical address is its frame with the offset in the page
abbrev pub answer_of_entry : Use → (address lo : ℕ) → Result Physical Exception
answer_of_entry access address lo =
    if not (has lo VALID) then Err (miss access address false)
    else (if lets_through access lo
    then Ok (record { address = merged OFFSET lo address; cacheable = not (has lo UNCACHED) })
    else Err (Modification address))

-- What an address means: a physical address and whether it is cacheable, or an exception; and whether several entries match.
pub record Meaning : Type 0 where
  pub several : Bool
  pub answer : Result Physical Exception

-- what the lookup of a mapped address makes of it
abbrev pub several_of : Option Found → Bool
several_of None = false
several_of (Some found) = found.several

abbrev pub low_of : Option Found → Option ℕ
low_of found = option_map (λ found. found.entry.lo) found

abbrev pub answer_of_low : Use → ℕ → Option ℕ → Result Physical Exception
answer_of_low access address None = Err (miss access address (nat_lt address KSEG0))
answer_of_low access address (Some lo) = answer_of_entry access address lo

abbrev pub meaning_of_found : Use → ℕ → Option Found → Meaning
meaning_of_found access address found = record { several = several_of found; answer = answer_of_low access address (low_of found) }

-- the lookup of an address for the process that EntryHi names
abbrev pub found_for : Core → ℕ → Option Found
found_for core address = lookup_of core.entries address (process_of core.cop0.entry_hi)

abbrev pub meaning_in : Core → Use → ℕ → Segment → Meaning
meaning_in core access address Forbidden = record { several = false; answer = Err (address_error access address) }
meaning_in core access address (Unmapped physical) = record { several = false; answer = Ok physical }
meaning_in core access address Mapped = meaning_of_found access address (found_for core address)

unfoldable pub meaning : Core → Use → Bool → ℕ → Meaning
meaning core access aligned address = meaning_in core access address (segment_of core.cop0 aligned address)

-- an access of an address that several entries match sets TS, whatever else it does
abbrev pub with_several : Core → Bool → Core
with_several core several = if several then record core { cop0 = with_ts core.cop0 } else core

abbrev pub met : Core → Meaning → Core
met core m = with_several core m.several

-- where the answer of a load leads, and where an address leads a load of one byte
abbrev pub where_of : Result Physical Exception → Where
where_of (Ok physical) = if physical.cacheable then Cached physical.address else Uncached physical.address
where_of (Err (TlbLoad address refill)) = if refill then Refill else Tlbl
where_of (Err exception) = Adel

abbrev pub where_at : Core → ℕ → Where
where_at core address = where_of (meaning core Load true address).answer
