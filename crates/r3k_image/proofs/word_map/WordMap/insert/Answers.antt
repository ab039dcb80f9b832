-- The word is put among the others.
use Rattle.std.proofs.Common.{arith, sym, ap, subst, ◌∙◌, not}
use Rattle.std.specs.FinMap as map
use Rattle.r3k_image.specs.Entries.{AreEntries}
use Rattle.r3k_image.proofs.SetWords.{placed}
use Rattle.r3k_image.proofs.Inserting.{insert_keeps, inserted, was_none}
use Rattle.r3k_image.proofs.word_map.WordMap.insert.Goals as goal

pub invariant_of-self-2 : goal.invariant_of-self-2
invariant_of-self-2 c =
    let p = placed 0 c.get.result c.args.word (omega arith) (c.get.ensures.place, omega arith) in
    subst (AreEntries 0) (sym c.in_ok-old.ensures.entries) (insert_keeps c.self.inside.words.entries c.get.result c.args.word p c.self.invariant)

pub returns-clause-new : goal.returns-clause-new
returns-clause-new c =
    was_none c.get.result c.self.inside.words.entries c.in_ok-old.old c.is_none.result c.is_none.ensures c.in_ok-old.ensures.old
    ∙ ap (λ m. not (map.contains_key m c.get.result)) c.self.view_is
    ∙ ap (λ a. not (map.contains_key c.args.self.now a)) c.get.ensures.value

pub returns-clause-words : goal.returns-clause-words
returns-clause-words c =
    let p = placed 0 c.get.result c.args.word (omega arith) (c.get.ensures.place, omega arith) in
    ap map.from_entries c.in_ok-old.ensures.entries ∙ inserted c.self.inside.words.entries c.get.result c.args.word p c.self.invariant
    ∙ ap (λ m. map.insert m c.get.result c.args.word) c.self.view_is
    ∙ ap (λ a. map.insert c.args.self.now a c.args.word) c.get.ensures.value
