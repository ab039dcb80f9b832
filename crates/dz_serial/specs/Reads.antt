-- The words of the registers as they are read, at their offsets (KN02 functional specification).
use Rattle.std.specs.Prelude.{ℕ, ◌+◌, ◌*◌, Bool, ◌==◌, ◌&&◌, ◌||◌, List, [], ◌∷◌, if◌then◌else◌}
use Rattle.dz_serial.specs.declared.registers.TheConstants.{CSR, RBUF, TCR, TRDY, TIE, TLINE, RDONE, RIE, MSE, MAINT, DVAL, OERR, FERR, RX_LINE, LINE_0, LINE_1, LINE_2, LINE_3}
use Rattle.dz_serial.specs.Character.{Character}
use Rattle.dz_serial.specs.Serial.{Serial, entry_of}
use Rattle.dz_serial.specs.Bits.{flag_of}
use Rattle.dz_serial.specs.Silo.{rdone, without_oldest}

-- CSR: TRDY, TIE, TLINE, RDONE, RIE, MSE, MAINT. CLR reads 0.
abbrev pub csr_of : Serial → ℕ
csr_of s = flag_of TRDY s.trdy + flag_of TIE s.tie + s.tline * TLINE + flag_of RDONE (rdone s)
    + flag_of RIE s.rie + flag_of MSE s.mse + flag_of MAINT s.maint

-- the word of a character in RBUF
abbrev pub character_word : Character → ℕ
character_word c = DVAL + flag_of OERR c.overrun + flag_of FERR c.framing + c.line * RX_LINE + c.byte

-- RBUF: the oldest character, with DVAL, OERR, FERR, its line and its byte 7..0, or 0 where there is
-- none. PERR, 12, is 0.
abbrev pub rbuf_of : List Character → ℕ
rbuf_of [] = 0
rbuf_of (oldest ∷ later) = character_word oldest

-- TCR: the line enables
abbrev pub tcr_of : Serial → ℕ
tcr_of s = flag_of LINE_3 (entry_of s.enabled 3) + flag_of LINE_2 (entry_of s.enabled 2)
    + flag_of LINE_1 (entry_of s.enabled 1) + flag_of LINE_0 (entry_of s.enabled 0)

-- what a read gives. MSR, at 24, and the other words read 0.
unfoldable pub word_read : Serial → ℕ → ℕ
word_read s offset =
    if offset == CSR then csr_of s
    else (if offset == RBUF then rbuf_of s.silo
    else (if offset == TCR then tcr_of s
    else 0))

-- a read of RBUF removes the oldest character, and no other read changes the part
unfoldable pub after_read : Serial → ℕ → Serial
after_read s offset = if offset == RBUF then without_oldest s else s

-- the interrupt line: TIE and TRDY, or RIE and RDONE
abbrev pub interrupt_line_of : Serial → Bool
interrupt_line_of s = s.tie && s.trdy || s.rie && rdone s
