-- An index that agrees with records.
use Rattle.std.proofs.Common.{◌≡◌, ℕ, zero, suc, ◌++◌, ◌<◌, ◌≤◌, List, [], ◌∷◌, length, filter, Option, None, IsFalse, refl, sym, ap, ◌∙◌, inl, inr}
use Rattle.std.proofs.Math.Path.{ap₂}
use Rattle.std.proofs.lemmas.Bool.{cases_lt}
use Rattle.std.specs.List.{range_with_len}
use Rattle.r3k_pages.specs.Pages.{page_count_of}
use Rattle.r3k_live.specs.Marks.{mark_of, marks_of, registers_below}
use Rattle.r3k_live.specs.Record.{is_dirty, sent_from}
use Rattle.span_fact.specs.Span.{Span}
use Rattle.r3k_machine.specs.declared.target.Target.{Target}
use Rattle.r3k_machine.specs.Run.{last_writer}
use Rattle.r3k_pages.specs.Pages.{holds}
use Rattle.write_index.specs.Pages.{pages_at}
use Rattle.console_index.specs.Counts.{count_at}
use Rattle.present_run.specs.Index.{Agrees, Has, Index, steps_at, steps_in}
use Rattle.present_run.specs.Sent.{bytes_on}
use Rattle.checkpoints.specs.Kept.{first_at}
use Rattle.present_run.proofs.Written.{none_marked}

-- no steps, so no store into a page
none_dirty : (range : List ℕ) → filter (is_dirty []) range ≡ []
none_dirty [] = refl
none_dirty (page ∷ range) = none_dirty range

no_registers : (n : ℕ) → registers_below [] n ≡ []
unfolding registers_below
no_registers zero = refl
no_registers (suc n) = ap (λ (xs : List ℕ). xs ++ []) (no_registers n)

pub no_marks : (pages : ℕ) → marks_of pages [] ≡ []
no_marks pages = ap₂ (λ (xs ys : List ℕ). xs ++ ys) (none_dirty (range_with_len 0 (page_count_of pages))) (no_registers 34)

pub has_none : (pages span i : ℕ) → Has pages span (record { writes = []; consoles = [] }) i None
has_none pages span i = record { wrote = sym (no_marks pages); sent = λ line known. refl }

pub has_still : (pages span : ℕ) (old new : Index) (i : ℕ) (s t : Option Span) → new.writes ≡ old.writes → new.consoles ≡ old.consoles → t ≡ s
    → Has pages span old i s → Has pages span new i t
has_still pages span old new i s t writes consoles same has = record {
  wrote = ap (λ (sets : List (List ℕ)). pages_at sets i) writes ∙ (has.wrote ∙ ap (λ (o : Option Span). marks_of pages (steps_in pages span o)) (sym same));
  sent = λ line known.
      ap (λ (counts : List (List ℕ)). count_at counts line i) consoles
      ∙ (has.sent line known ∙ ap (λ (o : Option Span). length (bytes_on line (sent_from 0 (steps_in pages span o)))) (sym same));
}

-- no record from one on wrote a word or a register, where none of those before the searched ones has its mark
pub none_from : (pages span : ℕ) (index : Index) (spans : List (List Span)) (count : ℕ) (target : Target) (before from : ℕ) → Agrees pages span index spans
    → ((i : ℕ) → from ≤ i → i < before → IsFalse (holds (pages_at index.writes i) (mark_of target)))
    → ((i : ℕ) → before ≤ i → i < count → last_writer target (steps_at pages span spans i) ≡ None)
    → (i : ℕ) → from ≤ i → i < count → last_writer target (steps_at pages span spans i) ≡ None
none_from pages span index spans count target before from agrees free beyond i low within =
    elim (cases_lt i before) [
      | inl below ↦
          none_marked pages span (first_at spans i) target
          (ap (λ (set : List ℕ). holds set (mark_of target)) (sym (agrees i).wrote) ∙ free i low below)
      | inr past ↦ beyond i past within
    ]
