use Rattle.std.proofs.Common.{◌≡◌, arith, ◌<◌, ℕ, ◌+◌, ◌++◌, ◌∷◌, [], Bool, None, ◌||◌, List, sym, ap, ◌∙◌, length, slice_index, slice_index_or, slice_set, length-append, zero-add, rules}
use Rattle.std.proofs.Math.Path.{ap₂}
use Rattle.r3k_pages.specs.Pages.{holds}
use Rattle.r3k_machine.specs.Locality.{is_page, is_touched, touches}
use Rattle.r3k_live.specs.Record.{stores_in, with_sent}
use Rattle.r3k_live.specs.Recording.{Recording, with_writer}
use Rattle.r3k_live.specs.declared.recorder.SentAt.{SentAt}
use Rattle.r3k_live.proofs.Recorded.{any_more, destination_more, last_more, or-assoc, page_stored, ram_more, sent_more}
use Rattle.r3k_live.proofs.Ready.{still_ready}
use Rattle.r3k_live.proofs.recorder.Recorder.note.Goals as goal

pub returns-clause-records : goal.returns-clause-records
returns-clause-records g c =
    λ steps so_far.
    let done = c.args.done in
    let first = slice_index_or done.touched 0 None in
    let second = slice_index_or done.touched 1 None in
    let inside = c.self.inside in
    let steps_are : inside.steps ≡ length steps = ap (λ (r : Recording). r.steps) c.self.view_is ∙ so_far.count in
    let last_is = ap (λ (r : Recording). r.last) c.self.view_is in
    let dirty_is = ap (λ (r : Recording). r.dirty) c.self.view_is in
    let touched_is = ap (λ (r : Recording). r.touched) c.self.view_is in record {
      count = ap (λ (n : ℕ). n + 1) steps_are ∙ sym (length-append steps (done ∷ []));
      last = λ place within.
          ap (λ (xs : List ℕ). slice_index xs place) (c.note.ensures.last ∙ ap (λ (n : ℕ). with_writer inside.stores.last n done.stored) steps_are)
          ∙ last_more g.row.PAGES place inside.stores.last steps done c.self.invariant.last within c.requires.stored
          (ap (λ (xs : List ℕ). slice_index xs place) last_is ∙ so_far.last place within);
      ram = λ address other. ram_more g.row.PAGES address steps done c.requires.stored other (so_far.ram address other);
      dirty = λ page.
          c.note.ensures.dirty page
          ∙ (ap₂ (λ (a b : Bool). a || b) (ap (λ (set : List ℕ). holds set page) dirty_is ∙ so_far.dirty page)
          (page_stored page done.stored)
          ∙ sym (any_more (λ done. stores_in page done.stored) steps done));
      destinations = λ number within.
          ap (λ (xs : List ℕ). slice_index xs number) (c.note-2.ensures.last ∙ ap (λ (n : ℕ). slice_set inside.destinations done.wrote (n + 1)) steps_are)
          ∙ destination_more number inside.destinations steps done (let e : number < length inside.destinations = omega (arith, within, c.note-2.ensures.long) in e)
          (ap (λ (r : Recording). slice_index r.destinations number) c.self.view_is ∙ so_far.destinations number within);
      touched = λ page.
          c.mark-2.ensures page
          ∙ (ap (λ (b : Bool). b || is_page page second)
          (c.mark.ensures page ∙ ap (λ (b : Bool). b || is_page page first) (ap (λ (set : List ℕ). holds set page) touched_is ∙ so_far.touched page))
          ∙ (sym (or-assoc (is_touched steps page) (is_page page first) (is_page page second))
          ∙ sym (any_more (touches page) steps done)));
      sent =
          c.note_sent.ensures.items
          ∙ (ap₂ (λ (xs : List SentAt) (n : ℕ). xs ++ with_sent n done.sent []) (ap (λ (r : Recording). r.sent) c.self.view_is ∙ so_far.sent)
          (steps_are ∙ sym (zero-add (length steps)))
          ∙ sym (sent_more 0 steps done));
    }

pub invariant_of-self : goal.invariant_of-self
invariant_of-self g c = record {
  few = search rules;
  steps = search rules;
  last = search rules;
  sent = search rules;
  sent_fits = search rules;
  stored_touched = search rules;
  ready =
      still_ready g.row.PAGES c.self.inside.ready _ _ c.self.invariant.ready
      (λ page held.
      c.mark-2.ensures page
      ∙ ap (λ (b : Bool). b || is_page page (slice_index_or c.args.done.touched 1 None))
      (c.mark.ensures page ∙ ap (λ (b : Bool). b || is_page page (slice_index_or c.args.done.touched 0 None)) held))
      (λ number held. held);
}
