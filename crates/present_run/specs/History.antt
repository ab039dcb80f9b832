-- A history (own): the boot image and the log that determine a run. Both can be edited.
use Rattle.std.specs.Prelude.{◌≡◌, ℕ, zero, suc, List, refl}
use Rattle.std.specs.Coded.{Coded, code_by, coded×, coded_ℕ, coded_list}
use Rattle.input_log.specs.declared.event.Kind.{Kind}
use Rattle.input_log.specs.declared.event.Kind.TheVariants.{Byte, Framing, Wire}
use Rattle.input_log.specs.Event.{LogEvent}
use Rattle.input_log.specs.Spelling.{kind_number}
use Rattle.r3k_image.specs.Boot.{Boot, boot_code}

pub record History : Type 0 where
  pub image : Boot
  pub log : List LogEvent

-- how proofs distinguish two events, or two histories: by all their parts, and a kind by its number
abbrev pub kind_numbered : ℕ → Kind
kind_numbered zero = Byte
kind_numbered (suc zero) = Framing
kind_numbered (suc (suc _)) = Wire

pub kind_again : (kind : Kind) → kind_numbered (kind_number kind) ≡ kind
kind_again Byte = refl
kind_again Framing = refl
kind_again Wire = refl

abbrev pub event_code : Coded LogEvent
event_code =
    code_by (ℕ × (Kind × (ℕ × ℕ))) (coded× coded_ℕ (coded× (code_by ℕ coded_ℕ kind_number kind_numbered kind_again) (coded× coded_ℕ coded_ℕ)))
    (λ e. (e.time, (e.kind, (e.line, e.byte))))
    (λ p. record { time = p.0; kind = p.1.0; line = p.1.1.0; byte = p.1.1.1 }) (λ _. refl)

abbrev pub history_code : Coded History
history_code =
    code_by (Boot × List LogEvent) (coded× boot_code (coded_list event_code)) (λ h. (h.image, h.log))
    (λ p. record { image = p.0; log = p.1 }) (λ _. refl)
