use Rattle.std.proofs.Common.{◌≡◌, arith, ◌<◌, ℕ, ◌+◌, ◌++◌, ◌∷◌, [], Bool, None, ◌||◌, List, sym, ap, ◌∙◌, length, slice_index, slice_index_or, slice_set, not, length-append, zero-add, rules}
use Rattle.std.proofs.Math.Path.{ap₂}
use Rattle.r3k_pages.specs.Pages.{holds}
use Rattle.r3k_machine.specs.Locality.{is_page, is_touched, touches}
use Rattle.r3k_live.specs.Record.{stores_in, with_sent}
use Rattle.r3k_live.specs.Recording.{Recording, with_writer}
use Rattle.r3k_live.specs.declared.recorder.SentAt.{SentAt}
use Rattle.r3k_live.proofs.Recorded.{any_more, destination_more, last_more, marked_again, or-assoc, page_stored, ram_more, sent_more, stored_again}
use Rattle.r3k_live.proofs.Ready.{still_ready}
use Rattle.r3k_live.proofs.recorder.Recorder.note_again.Goals as goal
use Rattle.r3k_live.proofs.recorder.Recorder.note_again.Goals.{then-is_new, else-is_new+else-is_none}

pub returns : goal.returns
returns g c =
    let done = c.args.done in
    let first = slice_index_or done.touched 0 None in
    let second = slice_index_or done.touched 1 None in
    let inside = c.self.inside in
    let marked : (touched : List ℕ) × (c.if-is_new.self-inside ≡ record {
      steps = inside.steps;
      stores = c.note-is_new.new.self;
      destinations = inside.destinations;
      touched = touched;
      sent = c.note_sent.new.sent;
      code_pages = inside.code_pages;
      ready = inside.ready;
    }) × ((page : ℕ) → holds touched page ≡ (holds inside.touched page || is_page page second)) =
    elim c.if-is_new.branch [
      | then-is_new w ↦ (_, w.self-inside-is, w.mark.ensures)
      | else-is_new+else-is_none w ↦ (
        _,
        w.self-inside-is,
        λ page.
            stored_again page inside.touched inside.stores.dirty done.stored second (w.is_none.ensures ∙ ap not w.if-is_none.false) (c.note-is_new.ensures.again w.if-is_new.false)
            c.self.invariant.stored_touched c.requires.pages,
      )
    ] in
    let wrote = rw marked.1 at c.note.ensures in
    let touched_is = ap (λ (r : Recording). r.touched) c.self.view_is in
    rw marked.1 (record {
      steps = ap (λ (r : Recording). r.steps + 1) c.self.view_is;
      records = λ steps so_far.
          let steps_are : inside.steps ≡ length steps = ap (λ (r : Recording). r.steps) c.self.view_is ∙ so_far.count in
          let last_is = ap (λ (r : Recording). r.last) c.self.view_is in
          let dirty_is = ap (λ (r : Recording). r.dirty) c.self.view_is in record {
            count = ap (λ (n : ℕ). n + 1) steps_are ∙ sym (length-append steps (done ∷ []));
            last = λ place within.
                ap (λ (xs : List ℕ). slice_index xs place) (c.note-is_new.ensures.last ∙ ap (λ (n : ℕ). with_writer inside.stores.last n done.stored) steps_are)
                ∙ last_more g.row.PAGES place inside.stores.last steps done c.self.invariant.last within c.requires.stored
                (ap (λ (xs : List ℕ). slice_index xs place) last_is ∙ so_far.last place within);
            ram = λ address other. ram_more g.row.PAGES address steps done c.requires.stored other (so_far.ram address other);
            dirty = λ page.
                c.note-is_new.ensures.dirty page
                ∙ (ap₂ (λ (a b : Bool). a || b) (ap (λ (set : List ℕ). holds set page) dirty_is ∙ so_far.dirty page)
                (page_stored page done.stored)
                ∙ sym (any_more (λ done. stores_in page done.stored) steps done));
            destinations = λ number within.
                ap (λ (xs : List ℕ). slice_index xs number) (wrote.last ∙ ap (λ (n : ℕ). slice_set inside.destinations done.wrote (n + 1)) steps_are)
                ∙ destination_more number inside.destinations steps done (let e : number < length inside.destinations = omega (arith, within, wrote.long) in e)
                (ap (λ (r : Recording). slice_index r.destinations number) c.self.view_is ∙ so_far.destinations number within);
            touched = λ page.
                marked.2 page
                ∙ (ap (λ (b : Bool). b || is_page page second)
                (ap (λ (set : List ℕ). holds set page) touched_is
                ∙ (marked_again page c.args.self.now.touched first c.requires.again ∙ ap (λ (b : Bool). b || is_page page first) (so_far.touched page)))
                ∙ (sym (or-assoc (is_touched steps page) (is_page page first) (is_page page second))
                ∙ sym (any_more (touches page) steps done)));
            sent =
                c.note_sent.ensures.items
                ∙ (ap₂ (λ (xs : List SentAt) (n : ℕ). xs ++ with_sent n done.sent []) (ap (λ (r : Recording). r.sent) c.self.view_is ∙ so_far.sent)
                (steps_are ∙ sym (zero-add (length steps)))
                ∙ sym (sent_more 0 steps done));
          };
      touched = λ page held.
          ◌∙◌ {A = Bool} (marked.2 page) (ap (λ (b : Bool). b || is_page page second) (ap (λ (set : List ℕ). holds set page) touched_is ∙ held));
      code_pages = ap (λ (r : Recording). r.code_pages) c.self.view_is;
    })

pub invariant_of-self : goal.invariant_of-self
invariant_of-self g c = record {
  few = search rules;
  steps = search rules;
  last = search rules;
  sent = search rules;
  sent_fits = search rules;
  stored_touched = search rules;
  ready =
      elim c.if-is_new.branch [
        | then-is_new w ↦
            rw w.self-inside-is
            (still_ready g.row.PAGES c.self.inside.ready _ _ c.self.invariant.ready
            (λ page held. w.mark.ensures page ∙ ap (λ (b : Bool). b || is_page page (slice_index_or c.args.done.touched 1 None)) held) (λ number held. held))
        | else-is_new+else-is_none w ↦
            rw w.self-inside-is (still_ready g.row.PAGES c.self.inside.ready _ _ c.self.invariant.ready (λ page held. held) (λ number held. held))
      ];
}
