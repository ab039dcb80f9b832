-- The physical map of the board, after the KN02 system module (own).
use Rattle.std.specs.Prelude.{ℕ, ◌+◌, ◌-◌, ◌*◌, ◌/◌, Bool, nat_lt, nat_le, ◌&&◌, if◌then◌else◌}
use Rattle.r3k_word.specs.declared.layout.TheConstants.{PAGE_BYTES, ROM_START, ROM_BYTES}
use Rattle.kn02_bus.specs.declared.region.TheConstants.{SERIAL_START, SERIAL_BYTES, CLOCK_START, CLOCK_BYTES, CSR_START, CSR_BYTES}
use Rattle.kn02_bus.specs.declared.region.Device.TheVariants as device
use Rattle.kn02_bus.specs.declared.region.Region.{Region}
use Rattle.kn02_bus.specs.declared.region.Region.TheVariants.{Ram, Rom, Device, Unassigned}

-- an address is one of the `bytes` bytes from another one on
abbrev pub lies_in : (start bytes address : ℕ) → Bool
lies_in start bytes address = nat_le start address && nat_lt address (start + bytes)

-- What stands at an address after RAM: ROM, the serial part at the offset of the address's word, the clock at the register
-- of its word, the board's CSR, or nothing.
abbrev pub beyond_ram : ℕ → Region
beyond_ram address =
    if lies_in ROM_START ROM_BYTES address then Rom
    else (if lies_in SERIAL_START SERIAL_BYTES address then Device (device.Serial ((address - SERIAL_START) / 4 * 4))
    else (if lies_in CLOCK_START CLOCK_BYTES address then Device (device.Clock ((address - CLOCK_START) / 4))
    else (if lies_in CSR_START CSR_BYTES address then Device device.Csr
    else Unassigned)))

-- RAM comes first, `pages` pages of it
unfoldable pub region_of : (pages address : ℕ) → Region
region_of pages address = if nat_lt address (pages * PAGE_BYTES) then Ram else beyond_ram address
