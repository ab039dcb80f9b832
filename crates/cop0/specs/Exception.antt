-- An exception taken (Kane and Heinrich, chapter 6).
use Rattle.std.specs.Prelude.{ℕ, Bool, Option, Some, None, if◌then◌else◌}
use Rattle.r3k_word.specs.Word.{has}
use Rattle.cop0.specs.declared.exception.Exc.{Exc}
use Rattle.cop0.specs.declared.status.TheConstants.{BEV, USER_MISS_VECTOR, GENERAL_VECTOR, ROM_USER_MISS_VECTOR, ROM_GENERAL_VECTOR}
use Rattle.cop0.specs.Registers.{Registers}
use Rattle.cop0.specs.Status.{pushed, caused, epc_of, page_loaded}

-- where the handler stands: that of user misses or the general one, in ROM as long as BEV is 1
abbrev pub vector_of : ℕ → Bool → ℕ
vector_of status refill =
    if has status BEV
    then (if refill then ROM_USER_MISS_VECTOR else ROM_GENERAL_VECTOR)
    else (if refill then USER_MISS_VECTOR else GENERAL_VECTOR)

-- a bad address is loaded into BadVAddr, and where it was to be translated its page into Context and EntryHi
abbrev pub with_bad : Registers → Option ℕ → Bool → Registers
with_bad c None mapped = c
with_bad c (Some address) mapped =
    if mapped then page_loaded (record c { bad_vaddr = address }) address else record c { bad_vaddr = address }

-- the registers when an exception is taken: Status, Cause and EPC, and what a bad address loads
abbrev pub entered : Registers → Exc → Registers
entered c e = with_bad (record c { status = pushed c.status; cause = caused c.cause e.delay e.code; epc = epc_of e }) e.bad e.mapped
