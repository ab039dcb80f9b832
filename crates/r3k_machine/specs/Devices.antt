-- Loads and stores of the devices' words over the bus, after the KN02 system module.
use Rattle.std.specs.Prelude.{ℕ, Option, Some, None}
use Rattle.dz_serial.specs.declared.write.Sent.{Sent}
use Rattle.kn02_bus.specs.Access as bus
use Rattle.kn02_bus.specs.declared.region.Region.{Region}
use Rattle.kn02_bus.specs.declared.region.Region.TheVariants.{Device}
use Rattle.r3k_exec.specs.declared.access.Covered.{Covered}
use Rattle.r3k_machine.specs.Core.{Core}

-- The word that a load gives, where there is a device: its aligned word is read once, with that read's effect, whatever the width.
abbrev pub word_of_device : Core → Region → Option ℕ
word_of_device core (Device device) = Some (bus.loaded core.bus device)
word_of_device core region = None

abbrev pub with_device_load : Core → Region → Core
with_device_load core (Device device) = record core { bus = bus.after_load core.bus device }
with_device_load core region = core

-- A store carries its word and the bytes that it covers. Where there is no device it has no effect.
abbrev pub with_device_store : Core → Region → Covered → Core
with_device_store core (Device device) covered = record core { bus = bus.after_store core.bus device covered.word covered.lanes }
with_device_store core region covered = core

-- the byte that it sends
abbrev pub sent_by_device : Core → Region → Covered → Option Sent
sent_by_device core (Device device) covered = bus.sent_by_store core.bus device covered.word covered.lanes
sent_by_device core region covered = None
