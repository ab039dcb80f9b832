use Rattle.std.proofs.Common.{◌≡◌, ℕ, ◌*◌, ◌/◌, ◌<◌, length, slice_index_or, List, sym, ap, ◌∙◌, arith, inl, inr}
use Rattle.std.proofs.lemmas.Bool.{cases_lt}
use Rattle.std.proofs.lemmas.List.{get_or_default}
use Rattle.r3k_machine.specs.declared.target.Target.TheVariants.{Memory}
use Rattle.r3k_machine.specs.Run.{last_writer}
use Rattle.r3k_live.specs.declared.recorder.Written.{Written}
use Rattle.span_fact.proofs.Found.{not_found, rising}
use Rattle.span_fact.proofs.fact.writer_in.Goals as goal

pub first_from-at-requires : goal.first_from-at-requires
first_from-at-requires g c = rising c.args.writers.now c.requires

pub returns-then-address-ne0 : goal.returns-then-address-ne0
returns-then-address-ne0 g c = λ steps written. sym (written.ram c.args.address (λ ram. c.if-address-ne0.true ram.0))

pub returns-then-address : goal.returns-then-address
returns-then-address g c = λ steps written. sym (written.ram c.args.address (λ ram. absurd (let e : ⊥ = omega (arith, ram.1, c.if-address.true) in e)))

pub returns-then-at-writers : goal.returns-then-at-writers
returns-then-at-writers g c =
    λ steps written.
    let place = c.args.address / 4 in
    not_found g.row.PAGES steps c.args.writers.now place c.first_from-at.result written (omega (arith, c.if-address.false)) c.first_from-at.ensures.below
    (λ k d low inside same. absurd (let e : ⊥ = omega (arith, low, inside, c.if-at-writers.true) in e))
    ∙ ap (λ (a : ℕ). last_writer (Memory a) steps) (let e : 4 * place ≡ c.args.address = omega (arith, c.if-address-ne0.false) in e)

-- the place of a word, whatever follows the last one
at_any : (writers : List Written) (k : ℕ) (d e : Written) {place : ℕ} → k < length writers → (slice_index_or writers k e).place ≡ place → (slice_index_or writers k d).place ≡ place
at_any writers k d e within same = ap (λ (w : Written). w.place) (get_or_default writers k d e within) ∙ same

pub returns-then-writer-place : goal.returns-then-writer-place
returns-then-writer-place g c =
    λ steps written.
    let writers = c.args.writers.now in
    let place = c.args.address / 4 in
    let none : Written = record { place = 0; step = 0 } in
    not_found g.row.PAGES steps writers place c.first_from-at.result written (omega (arith, c.if-address.false)) c.first_from-at.ensures.below
    (λ k d low inside same.
    let low_is = c.first_from-at.ensures.above c.first_from-at.result d (omega arith) (omega (arith, low, inside)) in
    let high_is = rising writers written.ascending c.first_from-at.result k d low inside in
    let here : (slice_index_or writers c.first_from-at.result d).place ≡ place = omega (arith, low_is, high_is, same) in
    c.if-writer-place.true (at_any writers c.first_from-at.result none d (omega (arith, low, inside)) here))
    ∙ ap (λ (a : ℕ). last_writer (Memory a) steps) (let e : 4 * place ≡ c.args.address = omega (arith, c.if-address-ne0.false) in e)

pub returns : goal.returns
returns g c =
    λ steps written.
    let writers = c.args.writers.now in
    let none : Written = record { place = 0; step = 0 } in
    let place = c.args.address / 4 in
    let bound : c.first_from-at.result < length writers = elim (cases_lt c.first_from-at.result (length writers)) [ inl below ↦ below | inr above ↦ absurd (c.if-at-writers.false (omega (arith, above, c.first_from-at.ensures.bound))) ] in
    sym (ap (λ (a : ℕ). last_writer (Memory a) steps) (let e : c.args.address ≡ 4 * place = omega (arith, c.if-address-ne0.false) in e)
    ∙ (ap (λ (p : ℕ). last_writer (Memory (4 * p)) steps) (sym c.if-writer-place.false)
    ∙ written.each c.first_from-at.result none bound))
