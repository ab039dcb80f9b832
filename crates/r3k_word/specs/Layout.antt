-- The layout of memory, after the KN02 system module (own): RAM from physical address 0, 4096 bytes a page, and 64 pages
-- of ROM from 0x1FC00000. All words stand in one list, page by page: those of RAM, and then those of ROM.
use Rattle.std.specs.Prelude.{ℕ, ◌+◌, ◌-◌, ◌*◌, ◌/◌, ◌%◌, Option, Some, None, if◌then◌else◌, ◌==◌, nat_lt, nat_le, ◌&&◌}
use Rattle.r3k_word.specs.declared.layout.TheConstants.{PAGE_WORDS, PAGE_BYTES, ROM_PAGES, ROM_START, ROM_BYTES}

-- how many words there are with this many pages of RAM
abbrev pub word_count_of : ℕ → ℕ
word_count_of pages = (pages + ROM_PAGES) * PAGE_WORDS

-- where an address lies in the list of all words, if it is that of a word of RAM or ROM
abbrev pub place_of_word : ℕ → ℕ → Option ℕ
place_of_word pages address =
    if address % 4 == 0
    then (if nat_lt address (pages * PAGE_BYTES) then Some (address / 4)
    else (if nat_le ROM_START address && nat_lt address (ROM_START + ROM_BYTES) then Some (pages * PAGE_WORDS + (address - ROM_START) / 4)
    else None))
    else None

-- the address of the word at a place
abbrev pub address_of_place : ℕ → ℕ → ℕ
address_of_place pages place =
    if nat_lt place (pages * PAGE_WORDS) then 4 * place else ROM_START + 4 * (place - pages * PAGE_WORDS)

-- the page of a place: RAM pages first, then those of ROM
abbrev pub page_of_place : ℕ → ℕ
page_of_place place = place / PAGE_WORDS
