-- The instructions by name, and their numbers in the table (own).
use Rattle.std.specs.Prelude.{ℕ, ◌≡◌, refl, List, [], ◌∷◌, slice_index_or}
use Rattle.r3k_table.specs.declared.mnemonic.Mnemonic.{Mnemonic}
use Rattle.r3k_table.specs.declared.mnemonic.Mnemonic.TheVariants.{Sll, Srl, Sra, Sllv, Srlv, Srav, Jr, Jalr, Syscall, Break, Mfhi, Mflo, Mthi, Mtlo, Mult, Multu, Div, Divu, Add, Addu, Sub, Subu, And, Or, Xor, Nor, Slt, Sltu, Bltz, Bgez, Bltzal, Bgezal, J, Jal, Beq, Bne, Blez, Bgtz, Addi, Addiu, Slti, Sltiu, Andi, Ori, Xori, Lui, Mfc0, Mtc0, Tlbr, Tlbwi, Tlbwr, Tlbp, Rfe, Lb, Lh, Lwl, Lw, Lbu, Lhu, Lwr, Sb, Sh, Swl, Sw, Swr}

-- the number of the row of an instruction
abbrev pub number_of : Mnemonic → ℕ
number_of Sll = 0
number_of Srl = 1
number_of Sra = 2
number_of Sllv = 3
number_of Srlv = 4
number_of Srav = 5
number_of Jr = 6
number_of Jalr = 7
number_of Syscall = 8
number_of Break = 9
number_of Mfhi = 10
number_of Mflo = 11
number_of Mthi = 12
number_of Mtlo = 13
number_of Mult = 14
number_of Multu = 15
number_of Div = 16
number_of Divu = 17
number_of Add = 18
number_of Addu = 19
number_of Sub = 20
number_of Subu = 21
number_of And = 22
number_of Or = 23
number_of Xor = 24
number_of Nor = 25
number_of Slt = 26
number_of Sltu = 27
number_of Bltz = 28
number_of Bgez = 29
number_of Bltzal = 30
number_of Bgezal = 31
number_of J = 32
number_of Jal = 33
number_of Beq = 34
number_of Bne = 35
number_of Blez = 36
number_of Bgtz = 37
number_of Addi = 38
number_of Addiu = 39
number_of Slti = 40
number_of Sltiu = 41
number_of Andi = 42
number_of Ori = 43
number_of Xori = 44
number_of Lui = 45
number_of Mfc0 = 46
number_of Mtc0 = 47
number_of Tlbr = 48
number_of Tlbwi = 49
number_of Tlbwr = 50
number_of Tlbp = 51
number_of Rfe = 52
number_of Lb = 53
number_of Lh = 54
number_of Lwl = 55
number_of Lw = 56
number_of Lbu = 57
number_of Lhu = 58
number_of Lwr = 59
number_of Sb = 60
number_of Sh = 61
number_of Swl = 62
number_of Sw = 63
number_of Swr = 64

-- the instructions, in the order of the table
abbrev pub mnemonics : List Mnemonic
mnemonics =
    Sll
    ∷ Srl
    ∷ Sra
    ∷ Sllv
    ∷ Srlv
    ∷ Srav
    ∷ Jr
    ∷ Jalr
    ∷ Syscall
    ∷ Break
    ∷ Mfhi
    ∷ Mflo
    ∷ Mthi
    ∷ Mtlo
    ∷ Mult
    ∷ Multu
    ∷ Div
    ∷ Divu
    ∷ Add
    ∷ Addu
    ∷ Sub
    ∷ Subu
    ∷ And
    ∷ Or
    ∷ Xor
    ∷ Nor
    ∷ Slt
    ∷ Sltu
    ∷ Bltz
    ∷ Bgez
    ∷ Bltzal
    ∷ Bgezal
    ∷ J
    ∷ Jal
    ∷ Beq
    ∷ Bne
    ∷ Blez
    ∷ Bgtz
    ∷ Addi
    ∷ Addiu
    ∷ Slti
    ∷ Sltiu
    ∷ Andi
    ∷ Ori
    ∷ Xori
    ∷ Lui
    ∷ Mfc0
    ∷ Mtc0
    ∷ Tlbr
    ∷ Tlbwi
    ∷ Tlbwr
    ∷ Tlbp
    ∷ Rfe
    ∷ Lb
    ∷ Lh
    ∷ Lwl
    ∷ Lw
    ∷ Lbu
    ∷ Lhu
    ∷ Lwr
    ∷ Sb
    ∷ Sh
    ∷ Swl
    ∷ Sw
    ∷ Swr
    ∷ []

-- the instruction of the row with a number
abbrev pub mnemonic_of : ℕ → Mnemonic
mnemonic_of number = slice_index_or mnemonics number Sll

-- the number of an instruction gives it back
pub mnemonic_again : (m : Mnemonic) → mnemonic_of (number_of m) ≡ m
mnemonic_again Sll = refl
mnemonic_again Srl = refl
mnemonic_again Sra = refl
mnemonic_again Sllv = refl
mnemonic_again Srlv = refl
mnemonic_again Srav = refl
mnemonic_again Jr = refl
mnemonic_again Jalr = refl
mnemonic_again Syscall = refl
mnemonic_again Break = refl
mnemonic_again Mfhi = refl
mnemonic_again Mflo = refl
mnemonic_again Mthi = refl
mnemonic_again Mtlo = refl
mnemonic_again Mult = refl
mnemonic_again Multu = refl
mnemonic_again Div = refl
mnemonic_again Divu = refl
mnemonic_again Add = refl
mnemonic_again Addu = refl
mnemonic_again Sub = refl
mnemonic_again Subu = refl
mnemonic_again And = refl
mnemonic_again Or = refl
mnemonic_again Xor = refl
mnemonic_again Nor = refl
mnemonic_again Slt = refl
mnemonic_again Sltu = refl
mnemonic_again Bltz = refl
mnemonic_again Bgez = refl
mnemonic_again Bltzal = refl
mnemonic_again Bgezal = refl
mnemonic_again J = refl
mnemonic_again Jal = refl
mnemonic_again Beq = refl
mnemonic_again Bne = refl
mnemonic_again Blez = refl
mnemonic_again Bgtz = refl
mnemonic_again Addi = refl
mnemonic_again Addiu = refl
mnemonic_again Slti = refl
mnemonic_again Sltiu = refl
mnemonic_again Andi = refl
mnemonic_again Ori = refl
mnemonic_again Xori = refl
mnemonic_again Lui = refl
mnemonic_again Mfc0 = refl
mnemonic_again Mtc0 = refl
mnemonic_again Tlbr = refl
mnemonic_again Tlbwi = refl
mnemonic_again Tlbwr = refl
mnemonic_again Tlbp = refl
mnemonic_again Rfe = refl
mnemonic_again Lb = refl
mnemonic_again Lh = refl
mnemonic_again Lwl = refl
mnemonic_again Lw = refl
mnemonic_again Lbu = refl
mnemonic_again Lhu = refl
mnemonic_again Lwr = refl
mnemonic_again Sb = refl
mnemonic_again Sh = refl
mnemonic_again Swl = refl
mnemonic_again Sw = refl
mnemonic_again Swr = refl
