-- The instruction table, after Kane and Heinrich, appendix A. The masks fix every bit that no operand uses (own).
use Rattle.std.specs.Prelude.{ℕ, Bool, Option, List, [], ◌∷◌, ◌≡◌, ◌==◌, bit_and, codes, IsSomeAnd, slice_get, not, true, ◌&&◌}
use Rattle.std.specs.List.{list_all, position_from}
use Rattle.r3k_table.specs.declared.row.Shape.{Shape}
use Rattle.r3k_table.specs.declared.row.Shape.TheVariants.{A, B, C, D, E, F, G, H, I, K, L, M, N, O, P, Q, Z}

-- a row of the table: its mask, its value, its name as text, and its shape
pub record Instruction : Type 0 where
  pub mask : ℕ
  pub value : ℕ
  pub name : List ℕ
  pub shape : Shape

-- a row, written in one line
abbrev pub row : List ℕ → ℕ → ℕ → Shape → Instruction
row name mask value shape = record { mask = mask; value = value; name = name; shape = shape }

-- the table: the 65 instructions
abbrev pub instructions : List Instruction
instructions =
    row (codes "sll") 0xFFE0_003F 0x0000_0000 A
    ∷ row (codes "srl") 0xFFE0_003F 0x0000_0002 A
    ∷ row (codes "sra") 0xFFE0_003F 0x0000_0003 A
    ∷ row (codes "sllv") 0xFC00_07FF 0x0000_0004 B
    ∷ row (codes "srlv") 0xFC00_07FF 0x0000_0006 B
    ∷ row (codes "srav") 0xFC00_07FF 0x0000_0007 B
    ∷ row (codes "jr") 0xFC1F_FFFF 0x0000_0008 C
    ∷ row (codes "jalr") 0xFC1F_07FF 0x0000_0009 D
    ∷ row (codes "syscall") 0xFC00_003F 0x0000_000C E
    ∷ row (codes "break") 0xFC00_003F 0x0000_000D E
    ∷ row (codes "mfhi") 0xFFFF_07FF 0x0000_0010 F
    ∷ row (codes "mflo") 0xFFFF_07FF 0x0000_0012 F
    ∷ row (codes "mthi") 0xFC1F_FFFF 0x0000_0011 C
    ∷ row (codes "mtlo") 0xFC1F_FFFF 0x0000_0013 C
    ∷ row (codes "mult") 0xFC00_FFFF 0x0000_0018 G
    ∷ row (codes "multu") 0xFC00_FFFF 0x0000_0019 G
    ∷ row (codes "div") 0xFC00_FFFF 0x0000_001A G
    ∷ row (codes "divu") 0xFC00_FFFF 0x0000_001B G
    ∷ row (codes "add") 0xFC00_07FF 0x0000_0020 H
    ∷ row (codes "addu") 0xFC00_07FF 0x0000_0021 H
    ∷ row (codes "sub") 0xFC00_07FF 0x0000_0022 H
    ∷ row (codes "subu") 0xFC00_07FF 0x0000_0023 H
    ∷ row (codes "and") 0xFC00_07FF 0x0000_0024 H
    ∷ row (codes "or") 0xFC00_07FF 0x0000_0025 H
    ∷ row (codes "xor") 0xFC00_07FF 0x0000_0026 H
    ∷ row (codes "nor") 0xFC00_07FF 0x0000_0027 H
    ∷ row (codes "slt") 0xFC00_07FF 0x0000_002A H
    ∷ row (codes "sltu") 0xFC00_07FF 0x0000_002B H
    ∷ row (codes "bltz") 0xFC1F_0000 0x0400_0000 I
    ∷ row (codes "bgez") 0xFC1F_0000 0x0401_0000 I
    ∷ row (codes "bltzal") 0xFC1F_0000 0x0410_0000 I
    ∷ row (codes "bgezal") 0xFC1F_0000 0x0411_0000 I
    ∷ row (codes "j") 0xFC00_0000 0x0800_0000 K
    ∷ row (codes "jal") 0xFC00_0000 0x0C00_0000 K
    ∷ row (codes "beq") 0xFC00_0000 0x1000_0000 L
    ∷ row (codes "bne") 0xFC00_0000 0x1400_0000 L
    ∷ row (codes "blez") 0xFC1F_0000 0x1800_0000 I
    ∷ row (codes "bgtz") 0xFC1F_0000 0x1C00_0000 I
    ∷ row (codes "addi") 0xFC00_0000 0x2000_0000 M
    ∷ row (codes "addiu") 0xFC00_0000 0x2400_0000 M
    ∷ row (codes "slti") 0xFC00_0000 0x2800_0000 M
    ∷ row (codes "sltiu") 0xFC00_0000 0x2C00_0000 M
    ∷ row (codes "andi") 0xFC00_0000 0x3000_0000 N
    ∷ row (codes "ori") 0xFC00_0000 0x3400_0000 N
    ∷ row (codes "xori") 0xFC00_0000 0x3800_0000 N
    ∷ row (codes "lui") 0xFFE0_0000 0x3C00_0000 O
    ∷ row (codes "mfc0") 0xFFE0_07FF 0x4000_0000 Q
    ∷ row (codes "mtc0") 0xFFE0_07FF 0x4080_0000 Q
    ∷ row (codes "tlbr") 0xFFFF_FFFF 0x4200_0001 Z
    ∷ row (codes "tlbwi") 0xFFFF_FFFF 0x4200_0002 Z
    ∷ row (codes "tlbwr") 0xFFFF_FFFF 0x4200_0006 Z
    ∷ row (codes "tlbp") 0xFFFF_FFFF 0x4200_0008 Z
    ∷ row (codes "rfe") 0xFFFF_FFFF 0x4200_0010 Z
    ∷ row (codes "lb") 0xFC00_0000 0x8000_0000 P
    ∷ row (codes "lh") 0xFC00_0000 0x8400_0000 P
    ∷ row (codes "lwl") 0xFC00_0000 0x8800_0000 P
    ∷ row (codes "lw") 0xFC00_0000 0x8C00_0000 P
    ∷ row (codes "lbu") 0xFC00_0000 0x9000_0000 P
    ∷ row (codes "lhu") 0xFC00_0000 0x9400_0000 P
    ∷ row (codes "lwr") 0xFC00_0000 0x9800_0000 P
    ∷ row (codes "sb") 0xFC00_0000 0xA000_0000 P
    ∷ row (codes "sh") 0xFC00_0000 0xA400_0000 P
    ∷ row (codes "swl") 0xFC00_0000 0xA800_0000 P
    ∷ row (codes "sw") 0xFC00_0000 0xAC00_0000 P
    ∷ row (codes "swr") 0xFC00_0000 0xB800_0000 P
    ∷ []

-- the word has the row's value under its mask
abbrev pub matches : ℕ → Instruction → Bool
matches word r = bit_and word r.mask == r.value

-- the number of the row of a word, if it has one
abbrev pub row_of : ℕ → Option ℕ
row_of word = position_from (matches word) 0 instructions

-- a list of rows has one with this number, and the word has its value under its mask
abbrev pub MatchesIn : List Instruction → ℕ → ℕ → Type 0
MatchesIn rows word number = IsSomeAnd (slice_get rows number) (λ r. bit_and word r.mask ≡ r.value)

abbrev pub Matches : ℕ → ℕ → Type 0
Matches word number = MatchesIn instructions word number

-- two rows disagree in a bit that both masks hold
abbrev pub are_apart : Instruction → Instruction → Bool
are_apart a b = not (bit_and a.value b.mask == bit_and b.value a.mask)

-- any two rows of a list are apart
abbrev pub all_apart : List Instruction → Bool
all_apart [] = true
all_apart (r ∷ rs) = list_all (are_apart r) rs && all_apart rs
