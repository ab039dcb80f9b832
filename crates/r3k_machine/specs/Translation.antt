-- The instructions on translation entries, after Kane and Heinrich, chapter 4 and appendix A. EntryHi and EntryLo stand for an
-- entry, and bits 13 to 8 of Index or Random for its place.
use Rattle.std.specs.Prelude.{ℕ, Option, Some, None, slice_index_or, slice_set}
use Rattle.r3k_word.specs.Word.{field_of}
use Rattle.cop0.specs.Registers.{register_of}
use Rattle.cop0.specs.Changes as control
use Rattle.cop0.specs.declared.number.TheConstants.{INDEX}
use Rattle.tlb64.specs.Entries.{empty_entry}
use Rattle.tlb64.specs.Lookup.{probe_of}
use Rattle.tlb64.specs.declared.entry.Entry.{Entry}
use Rattle.tlb64.specs.declared.entry.Found.{Found}
use Rattle.r3k_machine.specs.Address.{with_several}
use Rattle.r3k_machine.specs.Core.{Core}

-- the place that Index or Random names
abbrev pub place_in : Core → ℕ → ℕ
place_in core number = field_of 13 8 (register_of core.cop0 number)

-- tlbr
abbrev pub with_read : Core → Entry → Core
with_read core entry = record core { cop0 = control.loaded core.cop0 entry.hi entry.lo }

abbrev pub with_entry_read : Core → Core
with_entry_read core = with_read core (slice_index_or core.entries (place_in core INDEX) empty_entry)

-- tlbwi and tlbwr
abbrev pub with_entry_written : Core → ℕ → Core
with_entry_written core number = record core {
  entries = slice_set core.entries (place_in core number) (record { hi = core.cop0.entry_hi; lo = core.cop0.entry_lo });
}

-- tlbp: it sets TS too where several entries match
abbrev pub with_found : Core → Option Found → Core
with_found core None = record core { cop0 = control.probed core.cop0 None }
with_found core (Some found) =
    let report = with_several core found.several in record report { cop0 = control.probed report.cop0 (Some found.index) }

abbrev pub with_probe : Core → Core
with_probe core = with_found core (probe_of core.entries core.cop0.entry_hi)
