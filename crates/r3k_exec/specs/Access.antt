-- Loads and stores by their width, after Kane and Heinrich, appendix A, in little-endian order. `byte` is the place of the
-- address in its aligned word, 0 to 3.
use Rattle.std.specs.Prelude.{ℕ, ◌+◌, ◌-◌, ◌*◌, ◌/◌, ◌%◌, ◌^◌, Bool, true, ◌==◌}
use Rattle.r3k_word.specs.Word.{sign_extended}
use Rattle.r3k_exec.specs.declared.access.LoadKind.{LoadKind}
use Rattle.r3k_exec.specs.declared.access.LoadKind.TheVariants as load
use Rattle.r3k_exec.specs.declared.access.StoreKind.{StoreKind}
use Rattle.r3k_exec.specs.declared.access.StoreKind.TheVariants as store
use Rattle.r3k_exec.specs.declared.access.Covered.{Covered}

-- halfwords stand at even addresses and words at multiples of 4; bytes, and the parts that merge, anywhere
abbrev pub is_aligned_load : LoadKind → ℕ → Bool
is_aligned_load load.Half address = address % 2 == 0
is_aligned_load load.HalfUnsigned address = address % 2 == 0
is_aligned_load load.Word address = address % 4 == 0
is_aligned_load kind address = true

abbrev pub is_aligned_store : StoreKind → ℕ → Bool
is_aligned_store store.Half address = address % 2 == 0
is_aligned_store store.Word address = address % 4 == 0
is_aligned_store kind address = true

-- lwl: the word's bytes up to this one on top, and the low bytes of the register kept
abbrev pub merged_left : ℕ → ℕ → ℕ → ℕ
merged_left byte word kept = word * 2 ^ (24 - 8 * byte) % 2 ^ 32 + kept % 2 ^ (24 - 8 * byte)

-- lwr: the word's bytes from this one on below, and the high bytes of the register kept
abbrev pub merged_right : ℕ → ℕ → ℕ → ℕ
merged_right byte word kept = word / 2 ^ (8 * byte) + kept / 2 ^ (32 - 8 * byte) * 2 ^ (32 - 8 * byte)

-- what a load gives of the aligned word, and of the register's value that it may keep
abbrev pub loaded : LoadKind → (byte word kept : ℕ) → ℕ
loaded load.Byte byte word kept = sign_extended 8 (word / 2 ^ (8 * byte) % 2 ^ 8)
loaded load.ByteUnsigned byte word kept = word / 2 ^ (8 * byte) % 2 ^ 8
loaded load.Half byte word kept = sign_extended 16 (word / 2 ^ (8 * byte) % 2 ^ 16)
loaded load.HalfUnsigned byte word kept = word / 2 ^ (8 * byte) % 2 ^ 16
loaded load.Word byte word kept = word
loaded load.Left byte word kept = merged_left byte word kept
loaded load.Right byte word kept = merged_right byte word kept

-- what a store puts into the aligned word, and which bytes of it are covered. swl stores the register's high bytes up to
-- this byte, swr its low bytes from this byte on.
abbrev pub covering : ℕ → ℕ → Covered
covering word lanes = record { word = word; lanes = lanes }

abbrev pub stored : StoreKind → ℕ → ℕ → Covered
stored store.Byte byte value = covering (value % 2 ^ 8 * 2 ^ (8 * byte) % 2 ^ 32) (2 ^ byte)
stored store.Half byte value = covering (value % 2 ^ 16 * 2 ^ (8 * byte) % 2 ^ 32) (3 * 2 ^ byte % 2 ^ 4)
stored store.Word byte value = covering value 15
stored store.Left byte value = covering (value / 2 ^ (24 - 8 * byte)) (2 ^ (byte + 1) - 1)
stored store.Right byte value = covering (value * 2 ^ (8 * byte) % 2 ^ 32) (16 - 2 ^ byte)
