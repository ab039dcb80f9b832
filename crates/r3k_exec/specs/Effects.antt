-- What each instruction does with the values that it reads, after Kane and Heinrich, appendix A, in the order of the table.
use Rattle.std.specs.Prelude.{ℕ, ℤ, ◌-◌, ◌*◌, ◌/◌, ◌%◌, ◌^◌, ◌+ℤ◌, ◌-ℤ◌, Bool, not, ◌||◌, ◌&&◌, nat_eq, nat_lt, nat_le, int_lt, int_le, bit_and, bit_or, bit_xor, if◌then◌else◌, List, [], ◌∷◌, slice_index_or, Option, Some, None}
use Rattle.std.specs.Int.{w32, cast_unsigned, int_shr}
use Rattle.r3k_word.specs.Word.{flag, signed, sum_of, difference_of, product_of, signed_product_of, division_of, signed_division_of, sign_extended}
use Rattle.r3k_word.specs.declared.arithmetic.HiLo.{HiLo}
use Rattle.r3k_decode.specs.Operation.{Operation}
use Rattle.r3k_decode.specs.Target.{branch_target_of, jump_target_of}
use Rattle.r3k_exec.specs.declared.access.LoadKind.TheVariants as load
use Rattle.r3k_exec.specs.declared.access.StoreKind.TheVariants as store
use Rattle.r3k_exec.specs.declared.operands.Effect.{Effect}
use Rattle.r3k_exec.specs.declared.operands.Effect.TheVariants.{Write, WriteHi, WriteLo, WriteHiLo, Jump, JumpAndLink, Trap, Load, Store, MoveFromControl, MoveToControl, ReadEntry, WriteIndexedEntry, WriteRandomEntry, ProbeEntry, ReturnFromException}
use Rattle.r3k_exec.specs.declared.operands.Operands.{Operands}
use Rattle.r3k_exec.specs.declared.operands.Trap.TheVariants.{SystemCall, Breakpoint, Overflow}

-- a result fits the signed readings; one that does not is an overflow
abbrev pub fits_signed : ℤ → Bool
fits_signed n = int_le (signed (2 ^ 31)) n && int_le n (signed (2 ^ 31 - 1))

-- a sum or a difference is written, or traps
abbrev pub write_or_overflow : ℕ → ℤ → ℕ → Effect
write_or_overflow register exact value = if fits_signed exact then Write register value else Trap Overflow

-- a value is written; without one it is an overflow
abbrev pub write_if_some : ℕ → Option ℕ → Effect
write_if_some register None = Trap Overflow
write_if_some register (Some value) = Write register value

-- both halves of a product, or remainder and quotient, go to HI and LO
abbrev pub write_hi_lo : HiLo → Effect
write_hi_lo r = WriteHiLo r.hi r.lo

-- the sign bit of a word is set: its signed reading is below 0
abbrev pub has_sign_bit : ℕ → Bool
has_sign_bit word = nat_le (2 ^ 31) word

-- the return address: that of the instruction after the delay slot
abbrev pub return_address_of : ℕ → ℕ
return_address_of pc = sum_of pc 8

-- the target of a branch. One that is not taken has none.
abbrev pub taken_target : Bool → Operation → Operands → Option ℕ
taken_target taken i o = if taken then Some (branch_target_of o.pc i.imm) else None

-- the address of a load or a store
abbrev pub address_of : Operation → Operands → ℕ
address_of i o = sum_of o.rs (sign_extended 16 i.imm)

-- shift left logical
abbrev pub sll_effect : Operation → Operands → Effect
sll_effect i o = Write i.rd (o.rt * 2 ^ i.sa % 2 ^ 32)

-- shift right logical
abbrev pub srl_effect : Operation → Operands → Effect
srl_effect i o = Write i.rd (o.rt / 2 ^ i.sa)

-- shift right arithmetic: the sign is copied
abbrev pub sra_effect : Operation → Operands → Effect
sra_effect i o = Write i.rd (cast_unsigned w32 (int_shr (signed o.rt) i.sa))

-- shift left logical variable
abbrev pub sllv_effect : Operation → Operands → Effect
sllv_effect i o = Write i.rd (o.rt * 2 ^ (o.rs % 32) % 2 ^ 32)

-- shift right logical variable
abbrev pub srlv_effect : Operation → Operands → Effect
srlv_effect i o = Write i.rd (o.rt / 2 ^ (o.rs % 32))

-- shift right arithmetic variable
abbrev pub srav_effect : Operation → Operands → Effect
srav_effect i o = Write i.rd (cast_unsigned w32 (int_shr (signed o.rt) (o.rs % 32)))

-- jump register
abbrev pub jr_effect : Operation → Operands → Effect
jr_effect i o = Jump (Some o.rs)

-- jump and link register: to rs as it was read
abbrev pub jalr_effect : Operation → Operands → Effect
jalr_effect i o = JumpAndLink (Some o.rs) i.rd (return_address_of o.pc)

-- system call
abbrev pub syscall_effect : Operation → Operands → Effect
syscall_effect i o = Trap SystemCall

-- breakpoint
abbrev pub break_effect : Operation → Operands → Effect
break_effect i o = Trap Breakpoint

-- move from HI
abbrev pub mfhi_effect : Operation → Operands → Effect
mfhi_effect i o = Write i.rd o.hi

-- move from LO
abbrev pub mflo_effect : Operation → Operands → Effect
mflo_effect i o = Write i.rd o.lo

-- move to HI
abbrev pub mthi_effect : Operation → Operands → Effect
mthi_effect i o = WriteHi o.rs

-- move to LO
abbrev pub mtlo_effect : Operation → Operands → Effect
mtlo_effect i o = WriteLo o.rs

-- multiply: the 64-bit product of the signed readings
abbrev pub mult_effect : Operation → Operands → Effect
mult_effect i o = write_hi_lo (signed_product_of o.rs o.rt)

-- multiply unsigned
abbrev pub multu_effect : Operation → Operands → Effect
multu_effect i o = write_hi_lo (product_of o.rs o.rt)

-- divide: quotient and remainder of the signed readings
abbrev pub div_effect : Operation → Operands → Effect
div_effect i o = write_hi_lo (signed_division_of o.rs o.rt)

-- divide unsigned
abbrev pub divu_effect : Operation → Operands → Effect
divu_effect i o = write_hi_lo (division_of o.rs o.rt)

-- add: Ov on signed overflow
abbrev pub add_effect : Operation → Operands → Effect
add_effect i o = write_or_overflow i.rd (signed o.rs +ℤ signed o.rt) (sum_of o.rs o.rt)

-- add unsigned: no trap
abbrev pub addu_effect : Operation → Operands → Effect
addu_effect i o = Write i.rd (sum_of o.rs o.rt)

-- subtract: Ov on signed overflow
abbrev pub sub_effect : Operation → Operands → Effect
sub_effect i o = write_or_overflow i.rd (signed o.rs -ℤ signed o.rt) (difference_of o.rs o.rt)

-- subtract unsigned: no trap
abbrev pub subu_effect : Operation → Operands → Effect
subu_effect i o = Write i.rd (difference_of o.rs o.rt)

-- and
abbrev pub and_effect : Operation → Operands → Effect
and_effect i o = Write i.rd (bit_and o.rs o.rt)

-- or
abbrev pub or_effect : Operation → Operands → Effect
or_effect i o = Write i.rd (bit_or o.rs o.rt)

-- exclusive or
abbrev pub xor_effect : Operation → Operands → Effect
xor_effect i o = Write i.rd (bit_xor o.rs o.rt)

-- nor
abbrev pub nor_effect : Operation → Operands → Effect
nor_effect i o = Write i.rd (2 ^ 32 - 1 - bit_or o.rs o.rt)

-- set on less than
abbrev pub slt_effect : Operation → Operands → Effect
slt_effect i o = Write i.rd (flag (int_lt (signed o.rs) (signed o.rt)))

-- set on less than unsigned
abbrev pub sltu_effect : Operation → Operands → Effect
sltu_effect i o = Write i.rd (flag (nat_lt o.rs o.rt))

-- branch on less than zero
abbrev pub bltz_effect : Operation → Operands → Effect
bltz_effect i o = Jump (taken_target (has_sign_bit o.rs) i o)

-- branch on greater than or equal to zero
abbrev pub bgez_effect : Operation → Operands → Effect
bgez_effect i o = Jump (taken_target (not (has_sign_bit o.rs)) i o)

-- branch on less than zero and link, taken or not
abbrev pub bltzal_effect : Operation → Operands → Effect
bltzal_effect i o = JumpAndLink (taken_target (has_sign_bit o.rs) i o) 31 (return_address_of o.pc)

-- branch on greater than or equal to zero and link, taken or not
abbrev pub bgezal_effect : Operation → Operands → Effect
bgezal_effect i o = JumpAndLink (taken_target (not (has_sign_bit o.rs)) i o) 31 (return_address_of o.pc)

-- jump
abbrev pub j_effect : Operation → Operands → Effect
j_effect i o = Jump (Some (jump_target_of o.pc i.index))

-- jump and link
abbrev pub jal_effect : Operation → Operands → Effect
jal_effect i o = JumpAndLink (Some (jump_target_of o.pc i.index)) 31 (return_address_of o.pc)

-- branch on equal
abbrev pub beq_effect : Operation → Operands → Effect
beq_effect i o = Jump (taken_target (nat_eq o.rs o.rt) i o)

-- branch on not equal
abbrev pub bne_effect : Operation → Operands → Effect
bne_effect i o = Jump (taken_target (not (nat_eq o.rs o.rt)) i o)

-- branch on less than or equal to zero
abbrev pub blez_effect : Operation → Operands → Effect
blez_effect i o = Jump (taken_target (nat_eq o.rs 0 || has_sign_bit o.rs) i o)

-- branch on greater than zero
abbrev pub bgtz_effect : Operation → Operands → Effect
bgtz_effect i o = Jump (taken_target (not (nat_eq o.rs 0 || has_sign_bit o.rs)) i o)

-- add immediate: Ov on signed overflow
abbrev pub addi_effect : Operation → Operands → Effect
addi_effect i o = write_or_overflow i.rt (signed o.rs +ℤ signed (sign_extended 16 i.imm)) (sum_of o.rs (sign_extended 16 i.imm))

-- add immediate unsigned: no trap
abbrev pub addiu_effect : Operation → Operands → Effect
addiu_effect i o = Write i.rt (sum_of o.rs (sign_extended 16 i.imm))

-- set on less than immediate
abbrev pub slti_effect : Operation → Operands → Effect
slti_effect i o = Write i.rt (flag (int_lt (signed o.rs) (signed (sign_extended 16 i.imm))))

-- set on less than immediate unsigned: the immediate is sign-extended all the same
abbrev pub sltiu_effect : Operation → Operands → Effect
sltiu_effect i o = Write i.rt (flag (nat_lt o.rs (sign_extended 16 i.imm)))

-- and immediate, zero-extended
abbrev pub andi_effect : Operation → Operands → Effect
andi_effect i o = Write i.rt (bit_and o.rs i.imm)

-- or immediate, zero-extended
abbrev pub ori_effect : Operation → Operands → Effect
ori_effect i o = Write i.rt (bit_or o.rs i.imm)

-- exclusive or immediate, zero-extended
abbrev pub xori_effect : Operation → Operands → Effect
xori_effect i o = Write i.rt (bit_xor o.rs i.imm)

-- load upper immediate
abbrev pub lui_effect : Operation → Operands → Effect
lui_effect i o = Write i.rt (i.imm * 2 ^ 16)

-- move from coprocessor 0
abbrev pub mfc0_effect : Operation → Operands → Effect
mfc0_effect i o = MoveFromControl i.rt i.rd

-- move to coprocessor 0
abbrev pub mtc0_effect : Operation → Operands → Effect
mtc0_effect i o = MoveToControl i.rd o.rt

-- read the entry that Index names
abbrev pub tlbr_effect : Operation → Operands → Effect
tlbr_effect i o = ReadEntry

-- write the entry that Index names
abbrev pub tlbwi_effect : Operation → Operands → Effect
tlbwi_effect i o = WriteIndexedEntry

-- write the entry that Random names
abbrev pub tlbwr_effect : Operation → Operands → Effect
tlbwr_effect i o = WriteRandomEntry

-- probe for the entry of EntryHi
abbrev pub tlbp_effect : Operation → Operands → Effect
tlbp_effect i o = ProbeEntry

-- restore from exception
abbrev pub rfe_effect : Operation → Operands → Effect
rfe_effect i o = ReturnFromException

-- load byte
abbrev pub lb_effect : Operation → Operands → Effect
lb_effect i o = Load load.Byte i.rt (address_of i o)

-- load halfword
abbrev pub lh_effect : Operation → Operands → Effect
lh_effect i o = Load load.Half i.rt (address_of i o)

-- load word left
abbrev pub lwl_effect : Operation → Operands → Effect
lwl_effect i o = Load load.Left i.rt (address_of i o)

-- load word
abbrev pub lw_effect : Operation → Operands → Effect
lw_effect i o = Load load.Word i.rt (address_of i o)

-- load byte unsigned
abbrev pub lbu_effect : Operation → Operands → Effect
lbu_effect i o = Load load.ByteUnsigned i.rt (address_of i o)

-- load halfword unsigned
abbrev pub lhu_effect : Operation → Operands → Effect
lhu_effect i o = Load load.HalfUnsigned i.rt (address_of i o)

-- load word right
abbrev pub lwr_effect : Operation → Operands → Effect
lwr_effect i o = Load load.Right i.rt (address_of i o)

-- store byte
abbrev pub sb_effect : Operation → Operands → Effect
sb_effect i o = Store store.Byte (address_of i o) o.rt

-- store halfword
abbrev pub sh_effect : Operation → Operands → Effect
sh_effect i o = Store store.Half (address_of i o) o.rt

-- store word left
abbrev pub swl_effect : Operation → Operands → Effect
swl_effect i o = Store store.Left (address_of i o) o.rt

-- store word
abbrev pub sw_effect : Operation → Operands → Effect
sw_effect i o = Store store.Word (address_of i o) o.rt

-- store word right
abbrev pub swr_effect : Operation → Operands → Effect
swr_effect i o = Store store.Right (address_of i o) o.rt

-- the effect of each row, in the order of the table
abbrev pub effects : List (Operation → Operands → Effect)
effects =
    sll_effect
    ∷ srl_effect
    ∷ sra_effect
    ∷ sllv_effect
    ∷ srlv_effect
    ∷ srav_effect
    ∷ jr_effect
    ∷ jalr_effect
    ∷ syscall_effect
    ∷ break_effect
    ∷ mfhi_effect
    ∷ mflo_effect
    ∷ mthi_effect
    ∷ mtlo_effect
    ∷ mult_effect
    ∷ multu_effect
    ∷ div_effect
    ∷ divu_effect
    ∷ add_effect
    ∷ addu_effect
    ∷ sub_effect
    ∷ subu_effect
    ∷ and_effect
    ∷ or_effect
    ∷ xor_effect
    ∷ nor_effect
    ∷ slt_effect
    ∷ sltu_effect
    ∷ bltz_effect
    ∷ bgez_effect
    ∷ bltzal_effect
    ∷ bgezal_effect
    ∷ j_effect
    ∷ jal_effect
    ∷ beq_effect
    ∷ bne_effect
    ∷ blez_effect
    ∷ bgtz_effect
    ∷ addi_effect
    ∷ addiu_effect
    ∷ slti_effect
    ∷ sltiu_effect
    ∷ andi_effect
    ∷ ori_effect
    ∷ xori_effect
    ∷ lui_effect
    ∷ mfc0_effect
    ∷ mtc0_effect
    ∷ tlbr_effect
    ∷ tlbwi_effect
    ∷ tlbwr_effect
    ∷ tlbp_effect
    ∷ rfe_effect
    ∷ lb_effect
    ∷ lh_effect
    ∷ lwl_effect
    ∷ lw_effect
    ∷ lbu_effect
    ∷ lhu_effect
    ∷ lwr_effect
    ∷ sb_effect
    ∷ sh_effect
    ∷ swl_effect
    ∷ sw_effect
    ∷ swr_effect
    ∷ []

-- what an instruction does: the effect of its row
abbrev pub effect_of : Operation → Operands → Effect
effect_of i = slice_index_or effects i.row sll_effect i
