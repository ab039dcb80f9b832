use Rattle.std.proofs.Common.{◌≡◌, ◌⊎◌, ◌∙◌, Some, ap, inl, inr, true, false, refl, subst, sym}
use Rattle.std.specs.Prelude.{is_some}
use Rattle.std.proofs.lemmas.Option.{same_Some}
use Rattle.std.proofs.lemmas.Bool.{ne_eqb}
use Rattle.r3k_table.specs.Mnemonics.{number_of}
use Rattle.r3k_table.specs.declared.mnemonic.Mnemonic.{Mnemonic}
use Rattle.r3k_table.specs.declared.mnemonic.Mnemonic.TheVariants.{Mfc0, Mtc0, Rfe}
use Rattle.r3k_decode.specs.Operation.{Operation}
use Rattle.r3k_machine.proofs.known.decoded.Goals.{else-field-eq16-via-then-field-eq16+else-not-matches, in-Mfc0, in_default, else-field-eq16-via-else-field-eq16}
use Rattle.r3k_decode.specs.Decoding.{operation_of}
use Rattle.r3k_machine.specs.Known.{HasEffectOf, IsControl}
use Rattle.r3k_machine.proofs.known.decoded.Goals as goal

is_control : (i : Operation) (name : Mnemonic) → number_of name ≡ i.row → (name ≡ Mfc0) ⊎ ((name ≡ Mtc0) ⊎ (name ≡ Rfe)) → IsControl i
unfolding IsControl
is_control i name row (inl is) = λ operands. inl (rw (sym row ∙ ap number_of is) refl)
is_control i name row (inr (inl is)) = λ operands. inr (inl (rw (sym row ∙ ap number_of is) refl))
is_control i name row (inr (inr is)) = λ operands. inr (inr (rw (sym row ∙ ap number_of is) refl))

pub returns : goal.returns
returns c =
    let insn = c.in_ok-insn.insn in
    let one : (own : Operation) → operation_of c.args.word ≡ Some own → insn ≡ own = λ own is. same_Some insn own (c.in_ok-insn.ensures ∙ is) in record {
      some = ap is_some (sym c.in_ok-insn.ensures);
      same = λ own is. subst (λ (i : Operation). HasEffectOf i c.plain.result) (one own is) c.plain.ensures;
      usable = λ own is. elim c.else-field-eq16.branch [
        | else-field-eq16-via-then-field-eq16+else-not-matches w ↦ elim w.match-matches.branch [
          | in-Mfc0 v ↦ λ other. absurd (other (subst IsControl (one own is) (is_control insn w.mnemonic.result w.mnemonic.ensures v.in-Mfc0.is)))
          | in_default v ↦ (let bad : true ≡ false = sym w.if-not-matches.false ∙ v.matches-is in cc)
        ]
        | else-field-eq16-via-else-field-eq16 w ↦ λ other core. rw (← c.field.ensures.value, ne_eqb c.field.result 16 w.if-field-eq16.false) refl
      ];
    }
