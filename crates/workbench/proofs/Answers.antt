-- A line that is answered leads from one session to another.
use Rattle.std.proofs.Common.{◌≡◌, ℕ, List, [], Bool, false, Option, Some, None, Result, Ok, Err, refl, sym, ap, subst, ◌∙◌}
use Rattle.std.proofs.lemmas.List.{append-nil}
use Rattle.wb_text.specs.Command.{command_of}
use Rattle.wb_text.specs.Reply.{text_of}
use Rattle.wb_text.specs.declared.command.Command.{Command}
use Rattle.refusal.specs.declared.fault.Fault.{Fault}
use Rattle.wb_text.specs.declared.reply.Reply.{Reply}
use Rattle.wb_text.specs.declared.reply.Reply.TheVariants.{Fault as Refused}
use Rattle.wb_session.specs.Session.{Triple, Answers}
use Rattle.workbench.specs.Script.{FromCommand, FromLine, is_quit, says_quit}
use Rattle.workbench.specs.Taking.{LeadsTo}

-- a line that is refused
pub leads_by_fault : (pages : ℕ) (s : Triple) (line : List ℕ) (fault : Fault) → command_of line ≡ Err fault → LeadsTo pages s line s (text_of (Refused fault))
leads_by_fault pages s line fault e = record {
  answered = subst (λ (said : Result (Option Command) Fault). FromLine pages s said (λ t more. (t ≡ s) × (more ≡ [])) (text_of (Refused fault))) (sym e) ([], sym (append-nil (text_of (Refused fault))), (refl, refl));
  no_quit = ap says_quit e;
}

-- a line without a command
pub leads_nowhere : (pages : ℕ) (s : Triple) (line : List ℕ) → command_of line ≡ Ok None → LeadsTo pages s line s []
leads_nowhere pages s line e = record {
  answered = subst (λ (said : Result (Option Command) Fault). FromLine pages s said (λ t more. (t ≡ s) × (more ≡ [])) []) (sym e) (refl, refl);
  no_quit = ap says_quit e;
}

-- a line with a command that isn't `quit`
pub leads_by_command : (pages : ℕ) (s new : Triple) (line : List ℕ) (command : Command) (reply : Reply) → command_of line ≡ Ok (Some command) → is_quit command ≡ false → Answers pages s command new reply → LeadsTo pages s line new (text_of reply)
leads_by_command pages s new line command reply e q a = record {
  answered = subst (λ (said : Result (Option Command) Fault). FromLine pages s said (λ t more. (t ≡ new) × (more ≡ [])) (text_of reply)) (sym e)
      (subst (λ (quits : Bool). FromCommand pages s command quits (λ t more. (t ≡ new) × (more ≡ [])) (text_of reply)) (sym q) (new, reply, [], a, sym (append-nil (text_of reply)), (refl, refl)));
  no_quit = ap says_quit e ∙ q;
}
