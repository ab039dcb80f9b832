-- The words so far, and those that are left.
use Rattle.std.proofs.Common.{◌≡◌, ◌++◌, sym, ap, subst, ◌∙◌}
use Rattle.std.specs.FinMap as map
use Rattle.std.specs.Map.Iter.{deref_pair}
use Rattle.std.proofs.lemmas.List.{append-nil}
use Rattle.std.proofs.lemmas.Map.Iter.{rest_all}
use Rattle.r3k_image.specs.Segments.{views, AreSegments}
use Rattle.r3k_image.specs.Writing.{words_in, runs_of, AreLongest}
use Rattle.r3k_image.specs.Entries.{AreEntries}
use Rattle.r3k_image.proofs.LongestRuns.{runs_of-words_in}
use Rattle.r3k_image.proofs.SetWords.{entries_of_words, runs_stand}
use Rattle.r3k_image.proofs.word_map.WordMap.runs.Goals as goal

pub loop-address-init : goal.loop-address-init
loop-address-init c =
    let es = c.self.inside.words.entries in
    let whole : es ≡ map.entries c.args.self.now =
    sym (entries_of_words 0 es c.self.invariant) ∙ ap map.entries c.self.view_is in
    record {
      words = ap (λ v. words_in (views v) ++ c.into_iter-address-iterator.result) c.new-runs.ensures.items ∙ c.into_iter-address-iterator.ensures.into_iter_gives.0 ∙ whole;
      longest = subst (λ v. AreLongest (views v)) (sym c.new-runs.ensures.items) tt;
    }

pub returns-clause-runs : goal.returns-clause-runs
returns-clause-runs c =
    let none = rest_all deref_pair c.loop-address.address-iterator c.next.new.self c.next.result c.in-None.is c.next.ensures.steps in
    let all : words_in (views c.loop-address.runs.items) ≡ map.entries c.args.self.now =
    sym (append-nil _) ∙ ap (λ rest. words_in (views c.loop-address.runs.items) ++ rest) (sym none) ∙ c.loop-address.invariant.words in
    sym (runs_of-words_in (views c.loop-address.runs.items) c.loop-address.invariant.longest) ∙ ap runs_of all

pub returns-clause-stand : goal.returns-clause-stand
returns-clause-stand c =
    let es = c.self.inside.words.entries in
    let whole : es ≡ map.entries c.args.self.now =
    sym (entries_of_words 0 es c.self.invariant) ∙ ap map.entries c.self.view_is in
    let is : views c.loop-address.runs.items ≡ runs_of (map.entries c.args.self.now) = returns-clause-runs c in
    subst (AreSegments 0) (sym is) (runs_stand 0 (map.entries c.args.self.now) (subst (AreEntries 0) whole c.self.invariant))
