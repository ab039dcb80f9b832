-- Status, and what an exception does to it, to Cause, EPC, Context and EntryHi (Kane and Heinrich, chapter 6).
use Rattle.std.specs.Prelude.{ℕ, ◌+◌, ◌*◌, ◌^◌, Bool, not, ◌||◌, if◌then◌else◌, bit_and}
use Rattle.r3k_word.specs.Word.{field_of, with_field_of, difference_of, has}
use Rattle.cop0.specs.declared.exception.Exc.{Exc}
use Rattle.cop0.specs.declared.exception.ExcCode.{ExcCode}
use Rattle.cop0.specs.declared.status.TheConstants.{CU0, KUC, ISC, SWC, TS, INTERRUPTS, BD}
use Rattle.cop0.specs.Codes.{code_of, ce_of}
use Rattle.cop0.specs.Registers.{Registers}

-- the processor is in user mode
abbrev pub in_user_mode : Registers → Bool
in_user_mode c = has c.status KUC

-- IsC: loads and stores go to the isolated cache, and SwC: to its second array (Kane and Heinrich, chapters 5 and 6)
abbrev pub is_isolated : Registers → Bool
is_isolated c = has c.status ISC

abbrev pub is_swapped : Registers → Bool
is_swapped c = has c.status SWC

-- TS: several entries matched an address since reset (Kane and Heinrich, chapter 4)
abbrev pub is_shut_down : Registers → Bool
is_shut_down c = has c.status TS

-- coprocessor 0 is usable: in kernel mode, or with CU0
abbrev pub is_usable : Registers → Bool
is_usable c = not (in_user_mode c) || has c.status CU0

-- Status: KUp and IEp go to KUo and IEo, KUc and IEc to KUp and IEp, and KUc and IEc become 0
abbrev pub pushed : ℕ → ℕ
pushed status = with_field_of 5 0 status (field_of 3 0 status * 2 ^ 2)

-- Status after rfe: bits 5 to 2 go to 3 to 0, and 5 and 4 stay
abbrev pub popped : ℕ → ℕ
popped status = with_field_of 3 0 status (field_of 5 2 status)

-- Cause: BD, CE, the pending interrupts as they were, and ExcCode
abbrev pub caused : ℕ → Bool → ExcCode → ℕ
caused cause delay code =
    (if delay then BD else 0) + ce_of code * 2 ^ 28 + bit_and cause INTERRUPTS + code_of code * 2 ^ 2

-- EPC: the instruction, or the branch before it
abbrev pub epc_of : Exc → ℕ
epc_of e = if e.delay then difference_of e.pc 4 else e.pc

-- BadVPN of Context and VPN of EntryHi are those of an address (Kane and Heinrich, chapter 4)
abbrev pub page_loaded : Registers → ℕ → Registers
page_loaded c address = record c {
  context = with_field_of 20 2 c.context (field_of 30 12 address);
  entry_hi = with_field_of 31 12 c.entry_hi (field_of 31 12 address);
}
