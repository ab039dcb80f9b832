-- Words of a page that are set (own): each by its place, one after another, so that the last one of a place counts.
use Rattle.std.specs.Prelude.{ℕ, List, if◌then◌else◌, nat_eq, slice_set}
use Rattle.std.specs.List.{fold}
use Rattle.r3k_pages.specs.declared.changes.Change.{Change}

-- the words of a page after changes
abbrev pub with_changes : List ℕ → List Change → List ℕ
with_changes words changes = fold (λ words change. slice_set words change.place change.word) words changes

-- a word of it after changes, by what it is before
abbrev pub word_after : (place word : ℕ) → List Change → ℕ
word_after place word changes = fold (λ word change. if nat_eq change.place place then change.word else word) word changes
