-- The line of `trace` for a step (project rule): its number, PC and the word that was fetched, and then the parts that the step has.
use Rattle.std.specs.Prelude.{ℕ, Bool, true, false, List, [], ◌++◌, Option, Some, None, codes}
use Rattle.std.specs.Fmt.{decimal}
use Rattle.cop0.specs.Codes.{code_of}
use Rattle.cop0.specs.declared.exception.ExcCode.{ExcCode}
use Rattle.dz_serial.specs.declared.write.Sent.{Sent}
use Rattle.r3k_machine.specs.declared.traced.Access.{Access}
use Rattle.r3k_machine.specs.declared.traced.AccessKind.{AccessKind}
use Rattle.r3k_machine.specs.declared.traced.AccessKind.TheVariants.{Load, Store}
use Rattle.r3k_machine.specs.declared.traced.Reach.{Reach}
use Rattle.r3k_machine.specs.declared.traced.Reach.TheVariants.{Bus, Isolated, Ignored}
use Rattle.r3k_machine.specs.declared.traced.RegisterWrite.{RegisterWrite}
use Rattle.r3k_machine.specs.declared.traced.Traced.{Traced}
use Rattle.r3k_word.specs.declared.arithmetic.HiLo.{HiLo}
use Rattle.wb_text.specs.Text.{byte_text, value_text, word_text}

-- the word that was fetched, or `none`
abbrev pub fetched_text : Option ℕ → List ℕ
fetched_text None = codes " word none"
fetched_text (Some word) = codes " word " ++ word_text word

-- the register that was written
abbrev pub write_text : Option RegisterWrite → List ℕ
write_text None = []
write_text (Some write) = codes " " ++ value_text write.register write.value

abbrev pub hi_lo_text : Option HiLo → List ℕ
hi_lo_text None = []
hi_lo_text (Some pair) = codes " hi " ++ word_text pair.hi ++ codes " lo " ++ word_text pair.lo

-- The word that was loaded from or stored into, by its physical address. An access of the isolated cache and a store that is ignored are
-- marked.
abbrev pub kind_text : AccessKind → List ℕ
kind_text Load = codes " load "
kind_text Store = codes " store "

abbrev pub reach_text : Reach → List ℕ
reach_text Bus = []
reach_text Isolated = codes " isolated"
reach_text Ignored = codes " ignored"

abbrev pub access_text : Option Access → List ℕ
access_text None = []
access_text (Some access) = kind_text access.kind ++ word_text access.address ++ codes " " ++ word_text access.word ++ reach_text access.reach

-- the byte that was sent, on its line
abbrev pub sent_text : Option Sent → List ℕ
sent_text None = []
sent_text (Some sent) = codes " sent " ++ decimal sent.line ++ codes " 0x" ++ byte_text sent.byte

-- that TS became 1
abbrev pub shut_down_text : Bool → List ℕ
shut_down_text false = []
shut_down_text true = codes " ts"

-- the exception that was taken, by its code in Cause: 0 for an interrupt
abbrev pub exception_text : Option ExcCode → List ℕ
exception_text None = []
exception_text (Some code) = codes " exception " ++ decimal (code_of code)

-- the line of a step
unfoldable pub step_text : ℕ → Traced → List ℕ
step_text number t =
    decimal number ++ codes " pc " ++ word_text t.pc ++ fetched_text t.word ++ write_text t.write ++ hi_lo_text t.hi_lo
    ++ access_text t.access ++ sent_text t.done.sent ++ shut_down_text t.shuts_down ++ exception_text t.exception
