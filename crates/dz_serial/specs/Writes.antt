-- What writes of the registers do (KN02 functional specification; the rules on covered bytes, on
-- marks of lost bytes and on TRDY after a write of TCR are own).
use Rattle.std.specs.Prelude.{ℕ, Bool, false, ◌==◌, ◌&&◌, List, [], ◌∷◌, slice_set, Option, Some, None, if◌then◌else◌}
use Rattle.r3k_word.specs.Word.{field_of, has}
use Rattle.dz_serial.specs.declared.registers.TheConstants.{CSR, LPR, TCR, TDR, TIE, RIE, MSE, CLR, MAINT, RX_ENABLE, LINE_0, LINE_1, LINE_2, LINE_3, BYTE_0, BYTE_1}
use Rattle.dz_serial.specs.declared.write.Sent.{Sent}
use Rattle.dz_serial.specs.Serial.{Serial, entry_of, reset_serial}
use Rattle.dz_serial.specs.Silo.{scanner_off}

-- CSR: TIE is in byte 1; RIE, MSE and MAINT are in byte 0. Each is set where its byte is covered.
abbrev pub with_csr : Serial → ℕ → ℕ → Serial
with_csr s word lanes = record s {
  tie = if has lanes BYTE_1 then has word TIE else s.tie;
  rie = if has lanes BYTE_0 then has word RIE else s.rie;
  mse = if has lanes BYTE_0 then has word MSE else s.mse;
  maint = if has lanes BYTE_0 then has word MAINT else s.maint;
}

-- a write that leaves MSE 0 turns the scanner off
abbrev pub by_mse : Serial → Serial
by_mse s = if s.mse then s else scanner_off s

-- CLR, in byte 0, returns the whole part to reset, and the other bits are then ignored
abbrev pub csr_written : Serial → ℕ → ℕ → Serial
csr_written s word lanes =
    if has lanes BYTE_0 && has word CLR
    then reset_serial s.byte_time
    else by_mse (with_csr s word lanes)

-- LPR: RX_ENABLE turns the receiver of line 1..0 on, or off. It counts as 0 where byte 1 is not
-- covered.
abbrev pub turns_on : ℕ → ℕ → Bool
turns_on word lanes = has lanes BYTE_1 && has word RX_ENABLE

abbrev pub lpr_written : Serial → ℕ → ℕ → Serial
lpr_written s word lanes =
    if has lanes BYTE_0
    then record s { receivers = slice_set s.receivers (field_of 1 0 word) (turns_on word lanes) }
    else s

-- TCR enables the lines. TRDY is cleared where line TLINE is disabled.
abbrev pub enables_of : ℕ → List Bool
enables_of word = has word LINE_0 ∷ has word LINE_1 ∷ has word LINE_2 ∷ has word LINE_3 ∷ []

abbrev pub tcr_written : Serial → ℕ → ℕ → Serial
tcr_written s word lanes =
    if has lanes BYTE_0
    then record s { enabled = enables_of word; trdy = s.trdy && entry_of (enables_of word) s.tline }
    else s

-- TDR sends a byte only if TRDY is 1
abbrev pub sends : Serial → ℕ → Bool
sends s lanes = has lanes BYTE_0 && s.trdy

-- Byte 0 goes out on line TLINE, which is then busy for the byte time and is the last served, and
-- TRDY is cleared.
abbrev pub tdr_written : Serial → ℕ → Serial
tdr_written s lanes =
    if sends s lanes
    then record s {
      busy = slice_set s.busy s.tline s.byte_time;
      last_served = s.tline;
      trdy = false;
    }
    else s

-- the byte that a write of TDR sends, on line TLINE
abbrev pub sent_by_tdr : Serial → ℕ → ℕ → Option Sent
sent_by_tdr s word lanes =
    if sends s lanes then Some (record { line = s.tline; byte = field_of 7 0 word }) else None

-- what a write does. The other words ignore writes.
unfoldable pub after_write : Serial → ℕ → ℕ → ℕ → Serial
after_write s offset word lanes =
    if offset == CSR then csr_written s word lanes
    else (if offset == LPR then lpr_written s word lanes
    else (if offset == TCR then tcr_written s word lanes
    else (if offset == TDR then tdr_written s lanes
    else s)))

-- the byte that a write sends, on its line
unfoldable pub sent_by : Serial → ℕ → ℕ → ℕ → Option Sent
sent_by s offset word lanes = if offset == TDR then sent_by_tdr s word lanes else None
