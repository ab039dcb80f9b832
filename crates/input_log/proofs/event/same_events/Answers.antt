use Rattle.std.proofs.Common.{◌≡◌, rules, sym, refl, ◌∙◌}
use Rattle.std.specs.Prelude.{Decides}
use Rattle.std.specs.Cmp.Lexicographic.{pointwise_decides}
use Rattle.input_log.specs.declared.event.Kind.{Kind}
use Rattle.input_log.specs.declared.event.Kind.TheVariants.{Byte, Framing, Wire}
use Rattle.input_log.specs.contracts.event.KindPartialEq.TheImpl as kinds
use Rattle.input_log.specs.contracts.event.EventPartialEq.TheImpl as events
use Rattle.input_log.specs.Event.{LogEvent}
use Rattle.input_log.proofs.event.same_events.Goals as goal

same_kind : (a b : Kind) → Decides (kinds.eq-value.it a b) (a ≡ b)
same_kind Byte Byte = (λ _. refl, λ _. refl)
same_kind Byte Framing = (λ h. absurd cc, λ h. absurd cc)
same_kind Byte Wire = (λ h. absurd cc, λ h. absurd cc)
same_kind Framing Byte = (λ h. absurd cc, λ h. absurd cc)
same_kind Framing Framing = (λ _. refl, λ _. refl)
same_kind Framing Wire = (λ h. absurd cc, λ h. absurd cc)
same_kind Wire Byte = (λ h. absurd cc, λ h. absurd cc)
same_kind Wire Framing = (λ h. absurd cc, λ h. absurd cc)
same_kind Wire Wire = (λ _. refl, λ _. refl)

same_event : (a b : LogEvent) → Decides (events.eq-value.it a b) (a ≡ b)
same_event a b = search (rules, same_kind)

pub returns : goal.returns
returns c =
    let decided = pointwise_decides same_event c.args.a.now c.args.b.now in
    (λ equal. decided.0 (sym c.eq.ensures ∙ equal), λ same. c.eq.ensures ∙ decided.1 same)
