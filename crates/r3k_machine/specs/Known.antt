-- What is known of words before they are run (own).
use Rattle.std.specs.Prelude.{◌≡◌, ◌⊎◌, ℕ, ◌^◌, ◌<◌, IsFalse, IsSome, Some}
use Rattle.r3k_decode.specs.Operation.{Operation}
use Rattle.r3k_decode.specs.Decoding.{operation_of}
use Rattle.r3k_exec.specs.Effects.{effect_of}
use Rattle.r3k_exec.specs.declared.operands.Effect.TheVariants.{MoveFromControl, MoveToControl, ReturnFromException}
use Rattle.r3k_exec.specs.declared.operands.Operands.{Operands}
use Rattle.r3k_machine.specs.Core.{Core, HoldsZero}
use Rattle.r3k_machine.specs.Exceptions.{is_unusable}
use Rattle.r3k_machine.specs.Step.{operands_of}

-- an instruction for the registers of coprocessor 0: a move from or to one, or rfe
unfoldable pub IsControl : Operation → Type 0
IsControl operation = (operands : Operands) → (effect_of operation operands ≡ MoveFromControl operation.rt operation.rd)
    ⊎ ((effect_of operation operands ≡ MoveToControl operation.rd operands.rt) ⊎ (effect_of operation operands ≡ ReturnFromException))

-- an instruction has the effect of another one, where r0 holds 0 and the register that it reads holds a word
abbrev pub HasEffectOf : (own operation : Operation) → Type 0
HasEffectOf own operation = (core : Core) → HoldsZero core.registers → (operands_of core operation).rs < 2 ^ 32
    → effect_of operation (operands_of core operation) ≡ effect_of own (operands_of core own)

-- a word is an instruction, which another one has the effect of, and usable in any mode unless it is one of these
pub record IsDecoded (word : ℕ) (operation : Operation) : Type 0 where
  pub some : IsSome (operation_of word)
  pub same : (own : Operation) → operation_of word ≡ Some own → HasEffectOf own operation
  pub usable : (own : Operation) → operation_of word ≡ Some own → ¬ IsControl own → (core : Core) → IsFalse (is_unusable core word)

-- the instruction `break`, which traps
abbrev pub IsStop : Operation → Type 0
IsStop operation = operation_of 0xD ≡ Some operation

-- what is known of a word: an instruction that does what it says, or nothing, for which `break` stands
abbrev pub IsKnown : ℕ → Operation → Type 0
IsKnown word operation = ¬ IsStop operation → IsDecoded word operation
