-- The time, its formats and its alarm (MC146818 data sheet: time, calendar and alarm locations;
-- update cycle; alarm interrupt).
use Rattle.std.specs.Prelude.{ℕ, ◌+◌, ◌*◌, ◌/◌, ◌%◌, Bool, true, false, not, if◌then◌else◌, ◌==◌, nat_lt, nat_le, ◌&&◌, ◌||◌}
use Rattle.mc146818.specs.declared.registers.TheConstants.{DM, DONT_CARE, HOURS_24, PM}
use Rattle.mc146818.specs.declared.time.Time.{Time}
use Rattle.mc146818.specs.declared.time.Alarm.{Alarm}
use Rattle.mc146818.specs.declared.time.Format.{Format}
use Rattle.mc146818.specs.declared.time.Counted.{Counted}
use Rattle.r3k_word.specs.Word.{has}

-- the format that register B sets: DM 1 is binary, bit 1 is 24 hours
abbrev pub format_of : ℕ → Format
format_of b = record { binary = has b DM; hours_24 = has b HOURS_24 }

-- the number that a byte counts as. A BCD byte is ten times its high digit and its low one, also where
-- a digit is above 9 (own)
abbrev pub number_of : Format → ℕ → ℕ
number_of format byte = if format.binary then byte else byte / 16 * 10 + byte % 16

-- the byte of a number below 100
abbrev pub byte_of : Format → ℕ → ℕ
byte_of format number = if format.binary then number else number / 10 * 16 + number % 10

-- a field that stays
abbrev pub kept : ℕ → Counted
kept byte = record { byte = byte; carry = false }

-- a field that counts: at its last value, or past it (own), it goes to its first one and carries
abbrev pub counted : Format → (first last byte : ℕ) → Counted
counted format first last byte =
    if nat_lt (number_of format byte) last then record { byte = byte_of format (number_of format byte + 1); carry = false }
    else record { byte = first; carry = true }

-- a field that counts where the one below it carries
abbrev pub counted_where : Format → Bool → (first last byte : ℕ) → Counted
counted_where format carry first last byte = if carry then counted format first last byte else kept byte

-- an hour from 1 to 12, with PM
abbrev pub hour_of : Format → Bool → ℕ → ℕ
hour_of format pm number = if pm then byte_of format number + PM else byte_of format number

-- an hour of 12 that counts. PM is no part of its number: 11 goes to 12 and flips PM, and where it was
-- PM that carries a day; 12 and all above it (own) go to 1, keep PM and carry nothing
abbrev pub counted_twelve : Format → Bool → ℕ → Counted
counted_twelve format pm number =
    if nat_lt number 11 then record { byte = hour_of format pm (number + 1); carry = false }
    else (if number == 11 then record { byte = hour_of format (not pm) 12; carry = pm }
    else record { byte = hour_of format pm 1; carry = false })

-- the hours, counted: 0 to 23, or 12 hours before noon and 12 after it
abbrev pub counted_hours : Format → ℕ → Counted
counted_hours format byte =
    if format.hours_24 then counted format 0 23 byte else counted_twelve format (has byte PM) (number_of format (byte % PM))

-- the hours, counted where the minutes carry
abbrev pub counted_hours_where : Format → Bool → ℕ → Counted
counted_hours_where format carry byte = if carry then counted_hours format byte else kept byte

-- a year divisible by 4 is a leap year
abbrev pub is_leap : ℕ → Bool
is_leap year = year % 4 == 0

-- the last day of a month; 31 where there is no such month (own)
abbrev pub last_day_of : (month year : ℕ) → ℕ
last_day_of month year =
    if month == 2 then (if is_leap year then 29 else 28)
    else (if (month == 4) || (month == 6) || (month == 9) || (month == 11) then 30 else 31)

-- the time a second later: each field counts where the one below it carries, weekday and day both
-- where the hours do
abbrev pub advanced : Format → Time → Time
advanced format time =
    let seconds = counted format 0 59 time.seconds in
    let minutes = counted_where format seconds.carry 0 59 time.minutes in
    let hours = counted_hours_where format minutes.carry time.hours in
    let weekday = counted_where format hours.carry 1 7 time.weekday in
    let day = counted_where format hours.carry 1 (last_day_of (number_of format time.month) (number_of format time.year)) time.day in
    let month = counted_where format day.carry 1 12 time.month in
    let year = counted_where format month.carry 0 99 time.year in
    record { seconds = seconds.byte; minutes = minutes.byte; hours = hours.byte; weekday = weekday.byte; day = day.byte; month = month.byte; year = year.byte }

-- a byte of the alarm is for a field: it is equal to it, or at least 0xC0, "don't care"
abbrev pub byte_matches : (alarm field : ℕ) → Bool
byte_matches alarm field = nat_le DONT_CARE alarm || (alarm == field)

-- the alarm is for this time
abbrev pub alarm_matches : Alarm → Time → Bool
alarm_matches alarm time =
    byte_matches alarm.seconds time.seconds && byte_matches alarm.minutes time.minutes && byte_matches alarm.hours time.hours
