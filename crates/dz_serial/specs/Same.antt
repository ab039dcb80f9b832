-- Two parts are equal where all that they hold is (own).
use Rattle.std.specs.Prelude.{◌≡◌, Bool, ◌&&◌, nat_eq, Decides}
use Rattle.std.specs.Bool.{beq}
use Rattle.std.specs.Cmp.{unsigned_Decides, booleans_Decides}
use Rattle.std.specs.Cmp.Lexicographic.{pointwise, pointwise_decides}
use Rattle.std.proofs.Common.{rules}
use Rattle.std.proofs.lemmas.Bool.Decides.{Decides-and}
use Rattle.dz_serial.specs.Character.{Character}
use Rattle.dz_serial.specs.Serial.{Serial}

abbrev pub is_same_character : Character → Character → Bool
is_same_character a b =
    nat_eq a.line b.line && (nat_eq a.byte b.byte && (beq a.overrun b.overrun && beq a.framing b.framing))

-- field by field, in the order of the part's own
unfoldable pub is_same : Serial → Serial → Bool
is_same a b =
    pointwise is_same_character a.silo b.silo && (pointwise nat_eq a.busy b.busy && (pointwise beq a.lost b.lost
    && (pointwise beq a.receivers b.receivers && (pointwise beq a.enabled b.enabled && (nat_eq a.tline b.tline
    && (beq a.trdy b.trdy && (beq a.tie b.tie && (beq a.rie b.rie && (beq a.mse b.mse && (beq a.maint b.maint
    && (nat_eq a.last_served b.last_served && nat_eq a.byte_time b.byte_time)))))))))))

is_same_character_decides : (a b : Character) → Decides (is_same_character a b) (a ≡ b)
is_same_character_decides a b = search rules

-- two tests together decide what each of them decides
infixr 10 ◌and◌
◌and◌ : {p q : Bool} {P Q : Type 0} → Decides p P → Decides q Q → Decides (p && q) (P × Q)
one and other = Decides-and _ _ one other

pub is_same_decides : (a b : Serial) → Decides (is_same a b) (a ≡ b)
unfolding is_same
is_same_decides a b =
    let each =
    pointwise_decides is_same_character_decides a.silo b.silo and pointwise_decides unsigned_Decides a.busy b.busy
    and pointwise_decides booleans_Decides a.lost b.lost and pointwise_decides booleans_Decides a.receivers b.receivers
    and pointwise_decides booleans_Decides a.enabled b.enabled and unsigned_Decides a.tline b.tline
    and booleans_Decides a.trdy b.trdy and booleans_Decides a.tie b.tie and booleans_Decides a.rie b.rie
    and booleans_Decides a.mse b.mse and booleans_Decides a.maint b.maint
    and unsigned_Decides a.last_served b.last_served and unsigned_Decides a.byte_time b.byte_time in
    (λ e. let same = each.0 e in search (rules, same), λ e. each.1 (search (rules, e)))
