-- Quick instructions, one after another.
use Rattle.std.proofs.Common.{◌≡◌, ℕ, zero, suc, ◌+◌, ◌-◌, ◌*◌, ◌/◌, if◌then◌else◌, List, [], ◌∷◌, ◌++◌, length, length-append, append_assoc, Option, Some, None, IfSome, nat_eq, slice_index, refl, sym, subst, ap, ◌∙◌, arith, inl, inr}
use Rattle.std.proofs.Math.Path.{ap₂}
use Rattle.std.proofs.lemmas.Bool.{cases_lt, cases_Bool, eq-eqb, true≢false}
use Rattle.std.proofs.lemmas.List.{append-nil, get_or-set_other}
use Rattle.std.proofs.lemmas.Option.{none-some}
use Rattle.r3k_machine.specs.declared.step.Done.{Done}
use Rattle.r3k_machine.specs.declared.target.Target.{Target}
use Rattle.r3k_machine.specs.declared.target.Target.TheVariants.{Memory}
use Rattle.r3k_machine.specs.Quiet.{IsQuick}
use Rattle.r3k_machine.specs.Reports.{DifferAt, IsRamWord}
use Rattle.r3k_machine.specs.Run.{is_stored, last_writer, later}
use Rattle.r3k_machine.specs.State.{State}
use Rattle.r3k_machine.specs.Step.{Outcome, outcome_of_instruction}
use Rattle.r3k_machine.proofs.Splits.{writer_split}
use Rattle.r3k_live.specs.Going.{LeadsTo, quick_run, quick_trace}
use Rattle.r3k_live.specs.Recording.{Recording, Records}

-- they split at any point
pub quick_run_split : (pages : ℕ) (s : State) (m n : ℕ) → quick_run pages s (m + n) ≡ quick_run pages (quick_run pages s m) n
unfolding quick_run
quick_run_split pages s m zero = ap (quick_run pages s) (let e : m + 0 ≡ m = omega arith in e)
quick_run_split pages s m (suc n) =
    ap (quick_run pages s) (let e : m + suc n ≡ suc (m + n) = omega arith in e)
    ∙ ap (λ (t : State). (outcome_of_instruction pages t).state) (quick_run_split pages s m n)

pub quick_trace_split : (pages : ℕ) (s : State) (m n : ℕ) → quick_trace pages s (m + n) ≡ quick_trace pages s m ++ quick_trace pages (quick_run pages s m) n
unfolding quick_trace
quick_trace_split pages s m zero = ap (quick_trace pages s) (let e : m + 0 ≡ m = omega arith in e) ∙ sym (append-nil (quick_trace pages s m))
quick_trace_split pages s m (suc n) =
    ap (quick_trace pages s) (let e : m + suc n ≡ suc (m + n) = omega arith in e)
    ∙ (ap₂ (λ (steps : List Done) (t : State). steps ++ (outcome_of_instruction pages t).done ∷ []) (quick_trace_split pages s m n) (quick_run_split pages s m n)
    ∙ append_assoc (quick_trace pages s m) (quick_trace pages (quick_run pages s m) n) ((outcome_of_instruction pages (quick_run pages (quick_run pages s m) n)).done ∷ []))

pub quick_trace_count : (pages : ℕ) (s : State) (n : ℕ) → length (quick_trace pages s n) ≡ n
unfolding quick_trace
quick_trace_count pages s zero = refl
quick_trace_count pages s (suc n) =
    length-append (quick_trace pages s n) ((outcome_of_instruction pages (quick_run pages s n)).done ∷ [])
    ∙ (ap (λ (k : ℕ). k + 1) (quick_trace_count pages s n) ∙ (let e : n + 1 ≡ suc n = omega arith in e))

-- there is a place in none of two lists
pub neither_place : (count : ℕ) (place earlier : Option ℕ) → later count place earlier ≡ None → (earlier ≡ None) × (place ≡ None)
neither_place count None earlier none = (none, refl)
neither_place count (Some place) earlier none = absurd (none-some _ (sym none))

-- none of two lists of steps wrote it
pub neither_wrote : (target : Target) (first rest : List Done) → last_writer target (first ++ rest) ≡ None
    → (last_writer target first ≡ None) × (last_writer target rest ≡ None)
neither_wrote target first rest none = neither_place (length first) (last_writer target rest) (last_writer target first) (sym (writer_split target first rest) ∙ none)

-- none
pub leads_none : (pages : ℕ) (s : State) (r : Recording) → LeadsTo pages 0 s s r r
unfolding quick_run quick_trace
leads_none pages s r = record {
  quick = λ k less. absurd (let e : ⊥ = omega (arith, less) in e);
  end = refl;
  records = λ steps so_far. subst (λ (steps : List Done). Records pages steps r) (sym (append-nil steps)) so_far;
  stayed = λ place none. refl;
}

-- after none of them all is as it was
pub leads_nowhere : (pages n : ℕ) (s t : State) (r later : Recording) → n ≡ 0 → LeadsTo pages n s t r later → t ≡ s
unfolding quick_run
leads_nowhere pages n s t r later none leads = leads.end ∙ ap (quick_run pages s) none

-- a word that a step did not store into
kept_word : (pages place : ℕ) (stored : Option ℕ) (old new : List ℕ) → DifferAt stored old new → IfSome stored (IsRamWord pages)
    → later 1 None (if is_stored (4 * place) stored then Some 0 else None) ≡ None → slice_index old place ≡ slice_index new place
kept_word pages place None old new differ ram none = ap (λ (words : List ℕ). slice_index words place) (sym differ)
kept_word pages place (Some address) old new (value, is) ram none =
    elim (cases_Bool (nat_eq address (4 * place))) [
      | inl here ↦ absurd (none-some _ (sym (rw here at none)))
      | inr apart ↦
          sym (ap (λ (words : List ℕ). slice_index words place) is
          ∙ get_or-set_other old (address / 4) place value 0 (λ same. true≢false (sym (eq-eqb address (4 * place) (omega (arith, same, ram.0))) ∙ apart)))
    ]

-- one
pub leads_one : (pages : ℕ) (s t : State) (done : Done) (r later : Recording) → IsQuick pages s → outcome_of_instruction pages s ≡ record { state = t; done = done }
    → ((steps : List Done) → Records pages steps r → Records pages (steps ++ done ∷ []) later) → DifferAt done.stored s.words t.words → IfSome done.stored (IsRamWord pages)
    → LeadsTo pages 1 s t r later
unfolding quick_run quick_trace
leads_one pages s t done r later quick ran records differ ram = record {
  quick = λ k less. subst (λ (k : ℕ). IsQuick pages (quick_run pages s k)) (let e : 0 ≡ k = omega (arith, less) in e) quick;
  end = ap (λ (o : Outcome). o.state) (sym ran);
  records = λ steps so_far.
      subst (λ (done : Done). Records pages (steps ++ done ∷ []) later) (ap (λ (o : Outcome). o.done) (sym ran)) (records steps so_far);
  stayed = λ place none.
      kept_word pages place done.stored s.words t.words differ ram
      (subst (λ (o : Outcome). last_writer (Memory (4 * place)) (o.done ∷ []) ≡ None) ran none);
}

-- some, and then more
pub leads_more : (pages m n : ℕ) (s t u : State) (r mid later : Recording) → LeadsTo pages m s t r mid → LeadsTo pages n t u mid later → LeadsTo pages (m + n) s u r later
leads_more pages m n s t u r mid later first more =
    let middle : quick_run pages s m ≡ t = sym first.end in
    let steps_of : quick_trace pages s (m + n) ≡ quick_trace pages s m ++ quick_trace pages t n
    = quick_trace_split pages s m n ∙ ap (λ (v : State). quick_trace pages s m ++ quick_trace pages v n) middle in record {
      quick = λ k less.
          elim (cases_lt k m) [
            | inl early ↦ first.quick k early
            | inr late ↦
                subst (IsQuick pages)
                (ap (λ (v : State). quick_run pages v (k - m)) (sym middle) ∙ (sym (quick_run_split pages s m (k - m))
                ∙ ap (quick_run pages s) (let e : m + (k - m) ≡ k = omega (arith, late) in e)))
                (more.quick (k - m) (omega (arith, late, less)))
          ];
      end = more.end ∙ (ap (λ (v : State). quick_run pages v n) (sym middle) ∙ sym (quick_run_split pages s m n));
      records = λ steps so_far.
          subst (λ (steps : List Done). Records pages steps later)
          (append_assoc steps (quick_trace pages s m) (quick_trace pages t n) ∙ ap (λ (all : List Done). steps ++ all) (sym steps_of))
          (more.records (steps ++ quick_trace pages s m) (first.records steps so_far));
      stayed = λ place none.
          let apart = neither_wrote (Memory (4 * place)) (quick_trace pages s m) (quick_trace pages t n)
          (subst (λ (steps : List Done). last_writer (Memory (4 * place)) steps ≡ None) steps_of none) in
          first.stayed place apart.0 ∙ more.stayed place apart.1;
    }

-- another recorder that holds the same steps
pub leads_too : (pages n : ℕ) (s t : State) (r mid later : Recording) → LeadsTo pages n s t r mid
    → ((steps : List Done) → Records pages steps mid → Records pages steps later) → LeadsTo pages n s t r later
leads_too pages n s t r mid later leads records = record {
  quick = leads.quick;
  end = leads.end;
  records = λ steps so_far. records (steps ++ quick_trace pages s n) (leads.records steps so_far);
  stayed = leads.stayed;
}
