-- Load and store, after Kane and Heinrich, chapter 2 and appendix A; RAM and ROM are those of the layout of memory, and devices
-- stand beside them on the bus. A fetch from anything but RAM or ROM, and a load from what is not assigned, is a bus error; a store
-- there, or to ROM, has no effect (own).
use Rattle.std.specs.Prelude.{ℕ, ◌+◌, ◌*◌, ◌/◌, ◌%◌, List, Option, Some, None, Result, Ok, Err, slice_index, slice_set, nat_lt, ◌==◌, if◌then◌else◌}
use Rattle.r3k_word.specs.Word.{merged}
use Rattle.r3k_word.specs.Layout.{place_of_word, page_of_place}
use Rattle.r3k_word.specs.declared.layout.TheConstants.{PAGE_BYTES}
use Rattle.r3k_exec.specs.Access.{is_aligned_load, is_aligned_store, stored}
use Rattle.r3k_exec.specs.declared.access.Covered.{Covered}
use Rattle.r3k_exec.specs.declared.access.LoadKind.{LoadKind}
use Rattle.r3k_exec.specs.declared.access.StoreKind.{StoreKind}
use Rattle.r3k_machine.specs.declared.exception.Exception.{Exception}
use Rattle.r3k_machine.specs.declared.exception.Exception.TheVariants.{BusErrorFetch, BusErrorLoad}
use Rattle.r3k_machine.specs.declared.load_store.Loaded.{Loaded}
use Rattle.r3k_machine.specs.declared.load_store.Stored.{Stored}
use Rattle.r3k_machine.specs.declared.load_store.Word.{Word}
use Rattle.kn02_bus.specs.Region.{region_of}
use Rattle.kn02_bus.specs.declared.region.Region.{Region}
use Rattle.r3k_machine.specs.Devices.{word_of_device, with_device_load, with_device_store, sent_by_device}
use Rattle.r3k_machine.specs.Core.{Core}
use Rattle.r3k_machine.specs.declared.address.Physical.{Physical}
use Rattle.r3k_machine.specs.declared.address.Use.TheVariants.{Fetch, Load, Store}
use Rattle.r3k_machine.specs.Address.{Meaning, meaning, met}
use Rattle.r3k_machine.specs.Isolated.{is_isolated, slot_at, with_isolated_load, with_isolated_store}

-- the word of RAM or ROM that a physical address lies in, and its page
abbrev pub word_of_place : List ℕ → Option ℕ → Option Word
word_of_place words None = None
word_of_place words (Some place) = Some (record { word = slice_index words place; page = page_of_place place })

abbrev pub word_at : ℕ → List ℕ → ℕ → Option Word
word_at pages words address = word_of_place words (place_of_word pages (address / 4 * 4))

-- a word that is read, or the exception of its address, or that where there is no word
abbrev pub word_or : Exception → Option Word → Result Word Exception
word_or bus_error None = Err bus_error
word_or bus_error (Some w) = Ok w

abbrev pub word_read : ℕ → List ℕ → Exception → Result Physical Exception → Result Word Exception
word_read pages words bus_error (Err exception) = Err exception
word_read pages words bus_error (Ok physical) = word_or bus_error (word_at pages words physical.address)

-- the meaning of the address of a fetch, a load and a store
abbrev pub meaning_of_fetch : Core → Meaning
meaning_of_fetch core = meaning core Fetch (core.pc % 4 == 0) core.pc

abbrev pub meaning_of_load : Core → LoadKind → ℕ → Meaning
meaning_of_load core kind address = meaning core Load (is_aligned_load kind address) address

abbrev pub meaning_of_store : Core → StoreKind → ℕ → Meaning
meaning_of_store core kind address = meaning core Store (is_aligned_store kind address) address

-- the fetch of the instruction at PC
abbrev pub fetched : ℕ → List ℕ → Core → Result Word Exception
fetched pages words core = word_read pages words BusErrorFetch (meaning_of_fetch core).answer

-- A load over the bus: of the word of RAM or ROM at a place, or else of a device, which touches no page.
abbrev pub loaded_elsewhere : Option ℕ → Result Loaded Exception
loaded_elsewhere None = Err BusErrorLoad
loaded_elsewhere (Some word) = Ok (record { word = word; page = None })

abbrev pub loaded_over_bus : List ℕ → Core → Region → Option ℕ → Result Loaded Exception
loaded_over_bus words core region None = loaded_elsewhere (word_of_device core region)
loaded_over_bus words core region (Some place) = Ok (record { word = slice_index words place; page = Some (page_of_place place) })

abbrev pub after_load_over_bus : Core → Region → Option ℕ → Core
after_load_over_bus core region None = with_device_load core region
after_load_over_bus core region (Some place) = core

-- A load, by the core after the meaning of its address. One that is isolated gives the word of its slot, and touches no page.
abbrev pub loaded_at : ℕ → List ℕ → Core → Result Physical Exception → Result Loaded Exception
loaded_at pages words core (Err exception) = Err exception
loaded_at pages words core (Ok physical) =
    if is_isolated core physical
    then Ok (record { word = (slot_at core physical.address).word; page = None })
    else loaded_over_bus words core (region_of pages physical.address) (place_of_word pages (physical.address / 4 * 4))

abbrev pub loaded_from : ℕ → List ℕ → Core → LoadKind → ℕ → Result Loaded Exception
loaded_from pages words core kind address =
    let m = meaning_of_load core kind address in loaded_at pages words (met core m) m.answer

-- and the core after it
abbrev pub after_load : ℕ → Core → Result Physical Exception → Core
after_load pages core (Err exception) = core
after_load pages core (Ok physical) =
    if is_isolated core physical then with_isolated_load core physical.address
    else after_load_over_bus core (region_of pages physical.address) (place_of_word pages (physical.address / 4 * 4))

abbrev pub core_after_load : ℕ → Core → LoadKind → ℕ → Core
core_after_load pages core kind address =
    let m = meaning_of_load core kind address in after_load pages (met core m) m.answer

-- the word of RAM that a physical address lies in, by its own address
abbrev pub ram_word : ℕ → ℕ → Option ℕ
ram_word pages address = if nat_lt address (pages * PAGE_BYTES) then Some (address / 4 * 4) else None

-- A store over the bus: into a word of RAM, or else to a device, which may send a byte.
abbrev pub stored_over_bus : Core → Region → Covered → Option ℕ → Stored
stored_over_bus core region covered None = record { address = None; sent = sent_by_device core region covered }
stored_over_bus core region covered (Some address) = record { address = Some address; sent = None }

abbrev pub after_store_over_bus : Core → Region → Covered → Option ℕ → Core
after_store_over_bus core region covered None = with_device_store core region covered
after_store_over_bus core region covered (Some address) = core

-- A store, by the core after the meaning of its address. One that is isolated goes into its slot alone.
abbrev pub stored_at : ℕ → Core → Covered → Result Physical Exception → Result Stored Exception
stored_at pages core covered (Err exception) = Err exception
stored_at pages core covered (Ok physical) = Ok (
    if is_isolated core physical then record { address = None; sent = None }
    else stored_over_bus core (region_of pages physical.address) covered (ram_word pages physical.address))

abbrev pub stored_to : ℕ → Core → StoreKind → (address value : ℕ) → Result Stored Exception
stored_to pages core kind address value =
    let m = meaning_of_store core kind address in stored_at pages (met core m) (stored kind (address % 4) value) m.answer

-- and the core after it
abbrev pub after_store : ℕ → Core → StoreKind → (address value : ℕ) → Result Physical Exception → Core
after_store pages core kind address value (Err exception) = core
after_store pages core kind address value (Ok physical) =
    if is_isolated core physical then with_isolated_store core kind physical.address value
    else after_store_over_bus core (region_of pages physical.address) (stored kind (address % 4) value) (ram_word pages physical.address)

abbrev pub core_after_store : ℕ → Core → StoreKind → (address value : ℕ) → Core
core_after_store pages core kind address value =
    let m = meaning_of_store core kind address in after_store pages (met core m) kind address value m.answer

-- the bits of the bytes that lanes cover
abbrev pub lane_mask : ℕ → ℕ
lane_mask lanes =
    lanes % 2 * 0xFF + lanes / 2 % 2 * 0xFF00 + lanes / 4 % 2 * 0xFF_0000 + lanes / 8 % 2 * 0xFF00_0000

-- all words after a store: the covered bytes are new, and all others stay
abbrev pub words_with : List ℕ → Option ℕ → Covered → List ℕ
words_with words None covered = words
words_with words (Some address) covered = slice_set words (address / 4) (merged (lane_mask covered.lanes) (slice_index words (address / 4)) covered.word)

abbrev pub words_after : List ℕ → Result Stored Exception → Covered → List ℕ
words_after words (Err exception) covered = words
words_after words (Ok stored) covered = words_with words stored.address covered
