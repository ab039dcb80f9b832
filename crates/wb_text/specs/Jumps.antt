-- The text of `jumps` (project rule): how many steps are listed and the position from which to ask on, and a line for each step.
use Rattle.std.specs.Prelude.{ℕ, List, ◌++◌, codes, flat_map, length}
use Rattle.std.specs.Fmt.{decimal}
use Rattle.r3k_machine.specs.declared.jumps.Jump.{Jump}
use Rattle.wb_text.specs.Text.{line, word_text}
use Rattle.wb_text.specs.Trace.{exception_text, fetched_text}

-- a step that transferred control: its number, PC and word, the target, and the exception if it took one
unfoldable pub jump_text : Jump → List ℕ
jump_text jump =
    decimal jump.step ++ codes " pc " ++ word_text jump.pc ++ fetched_text jump.word ++ codes " to " ++ word_text jump.to ++ exception_text jump.exception

abbrev pub jumps_text : (next : ℕ) → List Jump → List ℕ
jumps_text next jumps =
    line (codes "jumps " ++ decimal (length jumps) ++ codes " " ++ decimal next) ++ flat_map (λ jump. line (jump_text jump)) jumps
