use Rattle.std.proofs.Common.{List, ◌≡◌, ◌<◌, ◌++◌, ◌∷◌, [], length, sym, subst, ap, ◌∙◌, arith}
use Rattle.std.proofs.lemmas.Bool.{eqb-false}
use Rattle.r3k_word.specs.declared.layout.TheConstants.{ROM_START}
use Rattle.r3k_image.specs.declared.segment.Segment.{Segment}
use Rattle.r3k_image.specs.Segments.{views}
use Rattle.r3k_image.specs.Reading.{rom_words}
use Rattle.r3k_image.proofs.Kept.{is_boot}
use Rattle.r3k_image.proofs.RomWords.{MakeRom, one_segment, no_segment}
use Rattle.r3k_image.proofs.rom.raw_rom.Goals as goal
use Rattle.r3k_image.proofs.rom.raw_rom.Goals.{then-not-is_empty+in_ok-words+in_ok-push, else-not-is_empty}

pub invariant_of-result : goal.invariant_of-result
invariant_of-result c =
    let bytes = c.args.bytes.now in
    elim c.if-not-is_empty.branch [
      | then-not-is_empty+in_ok-words+in_ok-push w ↦
          let filled = eqb-false (length bytes) 0 (sym w.if-not-is_empty.ensures) in
          let some : 0 < length bytes = omega (arith, filled) in
          let s : Segment = record { address = ROM_START; words = w.in_ok-words.words } in
          let one : views c.if-not-is_empty.segments.items ≡ record { address = ROM_START; words = rom_words bytes } ∷ [] =
          ap (λ v. views v.items) w.segments-is ∙ ap views (w.in_ok-push.ensures.items ∙ ap (λ (ss : List Segment). ss ++ s ∷ []) c.new-segments.ensures.items)
          ∙ (λ i. record { address = ROM_START; words = w.in_ok-words.ensures i } ∷ []) in
          subst MakeRom (sym one) (one_segment bytes (λ i. omega (arith, c.type_inv.bytes i)) some c.if-bytes.false)
      | else-not-is_empty w ↦
          let none : views c.if-not-is_empty.segments.items ≡ [] = ap (λ v. views v.items) w.segments-is ∙ ap views c.new-segments.ensures.items in
          subst MakeRom (sym none) no_segment
    ]

pub returns-clause-boot : goal.returns-clause-boot
returns-clause-boot c = is_boot (views c.if-not-is_empty.segments.items) _ (invariant_of-result c)
