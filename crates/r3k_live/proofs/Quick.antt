-- Quick steps of a page, one after another.
use Rattle.std.proofs.Common.{◌≡◌, ℕ, ◌+◌, ◌-◌, ◌*◌, ◌/◌, ◌^◌, ◌<◌, ◌≤◌, ◌||◌, nat_eq, Bool, true, false, if◌then◌else◌, List, [], ◌∷◌, ◌++◌, Option, None, Some, IfSome, IsFalse, refl, sym, subst, ap, ◌∙◌, arith, inl, inr}
use Rattle.std.proofs.lemmas.Bool.{cases_lt, eq-eqb, ne_eqb}
use Rattle.r3k_word.specs.Word.{sum_of}
use Rattle.r3k_decode.specs.Operation.{Operation}
use Rattle.r3k_word.specs.declared.layout.TheConstants.{PAGE_BYTES, PAGE_WORDS}
use Rattle.r3k_machine.specs.declared.quick.CodePage.{CodePage}
use Rattle.r3k_machine.specs.declared.step.Done.{Done}
use Rattle.r3k_machine.specs.Run.{run}
use Rattle.r3k_machine.specs.State.{State}
use Rattle.r3k_machine.specs.Step.{Outcome, outcome_of_instruction, outcome_of_step}
use Rattle.r3k_machine.specs.Reports.{DifferAt, IsRamWord}
use Rattle.r3k_machine.specs.Core.{Core}
use Rattle.r3k_machine.specs.Flow.{with_flow}
use Rattle.r3k_machine.specs.Quiet.{IsIndexIn, IsQuick, IsQuietFor, LeadsOn, outcome_elapsed, state_elapsed}
use Rattle.r3k_machine.specs.declared.flow.Flow.{Flow}
use Rattle.r3k_live.specs.Going.{Ends, GoesOn, GoesOnBy, GoesOnce, GoesOver, HasGone, HasGoneFor, IsWordAt, LeadsTo, MayGoOn}
use Rattle.r3k_live.specs.Recording.{IsNoted, Recording, Records}
use Rattle.std.proofs.Math.Path.{ap₂}
use Rattle.r3k_pages.specs.Pages.{holds}
use Rattle.r3k_live.proofs.Gone.{gone_on, no_more, quick_more, recorded_too}
use Rattle.r3k_live.proofs.Leads.{leads_more, leads_none, leads_one, leads_too}
use Rattle.r3k_live.proofs.CodePages.{begins_once, more_code_pages}

-- by none
pub goes_nowhere : (pages most address : ℕ) (page : CodePage) (made : ℕ) (s : State) (r : Recording) → made ≤ most → MayGoOn pages most page s.core r
    → GoesOn pages most address page made made s s r r
goes_nowhere pages most address page made s r within may = record {
  least = omega arith;
  leads = subst (λ (n : ℕ). LeadsTo pages n s s r r) (let e : 0 ≡ made - made = omega arith in e) (leads_none pages s r);
  bound = within;
  count = omega arith;
  code_pages = refl;
  may = may;
  runs = λ log from start before free gone. record {
    gone = gone;
    passed = λ k after below there. omega (arith, after, below);
    begins = λ k low high. absurd (let e : ⊥ = omega (arith, low, high) in e);
  };
}

-- by one
pub goes_once : (pages most address : ℕ) (page : CodePage) (made : ℕ) (s t : State) (done : Done) (r later : Recording) → made < most
    → s.core.pc / PAGE_BYTES ≡ page.number → ¬ (s.core.pc ≡ address) → MayGoOn pages most page t.core later → later.steps ≡ r.steps + 1 → later.code_pages ≡ r.code_pages
    → outcome_of_step pages [] (state_elapsed made s) ≡ outcome_elapsed (made + 1) (outcome_of_instruction pages s)
    → outcome_of_instruction pages s ≡ record { state = t; done = done }
    → ((steps : List Done) → Records pages steps r → Records pages (steps ++ done ∷ []) later) → DifferAt done.stored s.words t.words
    → IsQuick pages s → IfSome done.stored (IsRamWord pages)
    → GoesOn pages most address page made (made + 1) s t r later
goes_once pages most address page made s t done r later within here elsewhere may count code_pages at_once ran records differ quick ram = record {
  least = omega arith;
  leads = subst (λ (n : ℕ). LeadsTo pages n s t r later) (let e : 1 ≡ made + 1 - made = omega arith in e) (leads_one pages s t done r later quick ran records differ ram);
  bound = omega (arith, within);
  count = omega (arith, count);
  code_pages = code_pages;
  may = may;
  runs = λ log from start before free gone. record {
    gone = quick_more pages log from start before made s t done r later (free made within) gone at_once ran records differ;
    passed = λ k low high at.
        elsewhere (ap (λ (u : State). u.core.pc) gone.state ∙ (ap (λ (n : ℕ). (run pages log from start n).core.pc) (let e : before + made ≡ k = omega (arith, low, high) in e) ∙ at));
    begins = λ k low high.
        ap (λ (n : ℕ). (run pages log from start n).core.pc / PAGE_BYTES) (let e : k ≡ before + made = omega (arith, low, high) in e)
        ∙ (ap (λ (u : State). u.core.pc / PAGE_BYTES) (sym gone.state) ∙ here);
  };
}

-- by some, and then by more
pub goes_further : (pages most address : ℕ) (page : CodePage) (a b c : ℕ) (s t u : State) (r mid later : Recording)
    → GoesOn pages most address page a b s t r mid → GoesOn pages most address page b c t u mid later → GoesOn pages most address page a c s u r later
goes_further pages most address page a b c s t u r mid later first more = record {
  least = omega (arith, first.least, more.least);
  leads =
      subst (λ (n : ℕ). LeadsTo pages n s u r later) (let e : b - a + (c - b) ≡ c - a = omega (arith, first.least, more.least) in e)
      (leads_more pages (b - a) (c - b) s t u r mid later first.leads more.leads);
  bound = more.bound;
  count = omega (arith, first.count, more.count);
  code_pages = more.code_pages ∙ first.code_pages;
  may = more.may;
  runs = λ log from start before free gone.
      let there = first.runs log from start before free gone in
      let on = more.runs log from start before free there.gone in record {
        gone = on.gone;
        passed = λ k low high.
            elim (cases_lt k (before + b)) [
              | inl early ↦ there.passed k low early
              | inr late ↦ on.passed k late high
            ];
        begins = λ k low high.
            elim (cases_lt k (before + b)) [
              | inl early ↦ there.begins k low early
              | inr late ↦ on.begins k late high
            ];
      };
}

-- the word at the address of one
pub word_of : (page : CodePage) (address index : ℕ) → page.number < 2 ^ 20 → index < PAGE_WORDS → address ≡ sum_of (page.number * PAGE_BYTES) (4 * index)
    → IsIndexIn page address index
word_of page address index low within is = record {
  here = omega (arith, low, within, is);
  aligned = omega (arith, low, within, is);
  is = omega (arith, low, within, is);
}

-- and the address of a word
pub address_of : (page : CodePage) (address index : ℕ) → page.number < 2 ^ 20 → IsIndexIn page address index → address ≡ sum_of (page.number * PAGE_BYTES) (4 * index)
address_of page address index low at = omega (arith, low, at.here, at.aligned, at.is)

pub next_address : (start index : ℕ) → sum_of (sum_of start (4 * index)) 4 ≡ sum_of start (4 * (index + 1))
next_address start index = omega arith

-- a word of the page from the first one on and before the end is not the one at the address
pub not_at : (page : CodePage) (address first index end halt pc : ℕ) → first ≤ index → index < end → index < PAGE_WORDS
    → ((index : ℕ) → first ≤ index → index < end → index < PAGE_WORDS → ¬ (index ≡ halt)) → IsWordAt page address halt → IsIndexIn page pc index → ¬ (pc ≡ address)
not_at page address first index end halt pc low high inside stops word here at =
    stops index low high inside (word index (subst (λ (a : ℕ). IsIndexIn page a index) at here))

-- one more of the steps from word to word
pub goes_straight : (pages most address : ℕ) (page : CodePage) (begun : ℕ) (s t u : State) (r mid later : Recording)
    → begun ≤ mid.steps → mid.steps < begun + most → later.steps ≡ mid.steps + 1 → ¬ (t.core.pc ≡ address)
    → GoesOn pages most address page (r.steps - begun) (mid.steps - begun) s t r mid
    → ((n : ℕ) → n < most → ¬ (t.core.pc ≡ address) → MayGoOn pages most page t.core mid → GoesOn pages most address page n (n + 1) t u mid later)
    → GoesOn pages most address page (r.steps - begun) (later.steps - begun) s u r later
goes_straight pages most address page begun s t u r mid later low high count elsewhere so_far step =
    subst (λ (n : ℕ). GoesOn pages most address page (r.steps - begun) n s u r later)
    (let e : mid.steps - begun + 1 ≡ later.steps - begun = omega (arith, low, count) in e)
    (goes_further pages most address page (r.steps - begun) (mid.steps - begun) (mid.steps - begun + 1) s t u r mid later so_far
    (step (mid.steps - begun) (omega (arith, low, high)) elsewhere so_far.may))

-- steps from word to word have come to one, and stand at it
pub record AreAt (pages most begun first halt end index : ℕ) (page : CodePage) (s : State) (r : Recording) (core : Core) (flow : Flow) (words : List ℕ) (later : Recording) : Type 0 where
  pub goes : (address : ℕ) → IsWordAt page address halt
      → GoesOn pages most address page (r.steps - begun) (later.steps - begun) s (record { core = with_flow core flow; words = words }) r later
  pub may : MayGoOn pages most page (with_flow core flow) later
  pub here : flow.pc ≡ sum_of (page.number * PAGE_BYTES) (4 * index)
  pub next : IsFalse flow.delay → flow.next_pc ≡ sum_of flow.pc 4
  pub count : later.steps ≡ r.steps + (index - first)
  pub low : first ≤ index
  pub high : index ≤ end
  pub within : index ≤ PAGE_WORDS

-- so one more may be made
pub fewer_than : (pages most begun first halt end index : ℕ) (page : CodePage) (s : State) (r : Recording) (core : Core) (flow : Flow) (words : List ℕ) (later : Recording)
    → Ends most begun first halt end r.steps → AreAt pages most begun first halt end index page s r core flow words later → index < end → later.steps < begun + most
fewer_than pages most begun first halt end index page s r core flow words later ends at more =
    omega (arith, ends.bound, ends.since, ends.made, at.count, at.low, more)

pub word_here : (pages most begun first halt end index : ℕ) (page : CodePage) (s : State) (r : Recording) (core : Core) (flow : Flow) (words : List ℕ) (later : Recording)
    → AreAt pages most begun first halt end index page s r core flow words later → index < PAGE_WORDS → IsIndexIn page flow.pc index
word_here pages most begun first halt end index page s r core flow words later at inside = word_of page flow.pc index at.may.code.within inside at.here

pub goes_one : {pages most begun first halt end index : ℕ} {page : CodePage} {s : State} {r : Recording} {core : Core} {flow : Flow} {words : List ℕ} {later last : Recording} {done : Done}
    → (t : State) → Ends most begun first halt end r.steps → AreAt pages most begun first halt end index page s r core flow words later → index < end
    → index < PAGE_WORDS → GoesOnBy pages page done (record { core = with_flow core flow; words = words }) t → IsNoted pages done later last
    → (address : ℕ) → IsWordAt page address halt → GoesOn pages most address page (r.steps - begun) (last.steps - begun) s t r last
goes_one {pages} {most} {begun} {first} {halt} {end} {index} {page} {s} {r} {core} {flow} {words} {later} {last} t ends at more inside goes noted address word =
    goes_straight pages most address page begun s (record { core = with_flow core flow; words = words }) t r later last
    (omega (arith, at.count, ends.since))
    (fewer_than pages most begun first halt end index page s r core flow words later ends at more)
    noted.steps
    (not_at page address first index end halt flow.pc at.low more inside ends.stops word (word_here pages most begun first halt end index page s r core flow words later at inside))
    (at.goes address word) (λ n less elsewhere may. goes most address n later last less elsewhere may noted)

-- after it they are at the next word, unless it stood in a delay slot
pub at_next : {pages most begun first halt end index : ℕ} {page : CodePage} {s : State} {r : Recording} {core : Core} {flow : Flow} {words : List ℕ} {later last : Recording} {done : Done}
    → (new : Core) (after : Flow) (left : List ℕ)
    → Ends most begun first halt end r.steps → AreAt pages most begun first halt end index page s r core flow words later → index < end → index < PAGE_WORDS → IsFalse flow.delay
    → LeadsOn (with_flow core flow) (with_flow new after)
    → GoesOnBy pages page done (record { core = with_flow core flow; words = words }) (record { core = with_flow new after; words = left }) → IsNoted pages done later last
    → AreAt pages most begun first halt end (index + 1) page s r new after left last
at_next {pages} {most} {begun} {first} {halt} {end} {index} {page} {s} {r} {core} {flow} {words} {later} {last} new after left ends at more inside free leads goes noted = record {
  goes = goes_one (record { core = with_flow new after; words = left }) ends at more inside goes noted;
  may = (goes most (flow.pc + 1) 0 later last (omega (arith, ends.since, ends.made)) (λ same. omega (arith, same)) at.may noted).may;
  here = leads.here ∙ (at.next free ∙ (ap (λ (a : ℕ). sum_of a 4) at.here ∙ next_address (page.number * PAGE_BYTES) index));
  next = leads.next;
  count = omega (arith, noted.steps, at.count, at.low);
  low = omega (arith, at.low);
  high = omega (arith, more);
  within = omega (arith, inside);
}

-- a word comes before the end, as long as fewer steps are recorded than at the end
pub more_to : (index first last steps now result : ℕ) → result ≡ now → now ≡ steps + (index - first) → first ≤ index → result < last → index < first + (last - steps)
more_to index first last steps now result is count low fewer = omega (arith, is, count, low, fewer)

-- a name is that of what is known of a word
abbrev pub IsNamed : (ℕ → ℕ → Operation) → (page index name : ℕ) → Type 0
IsNamed known page index name = name ≡ (known page index).row

-- and stays that where what is known stays
pub still_named : (known after : ℕ → ℕ → Operation) (page index name : ℕ) → after ≡ known → IsNamed known page index name → IsNamed after page index name
still_named known after page index name same named = subst (λ (k : ℕ → ℕ → Operation). IsNamed k page index name) (sym same) named

-- what is so of an answer, as something else is
pub if_so : {A : Type 0} {P Q : A → Type 0} (o : Option A) → IfSome o P → ((a : A) → P a → Q a) → IfSome o Q
if_so None p f = tt
if_so (Some a) p f = f a p

-- no page yet
pub over_none : (pages most address : ℕ) (page : CodePage) (s : State) (r : Recording) → ((s : State) → state_elapsed 0 s ≡ s) → MayGoOn pages most page s.core r
    → GoesOver pages most address 0 s s r r
over_none pages most address page s r none may = record {
  leads = leads_none pages s r;
  bound = omega arith;
  count = omega arith;
  quiet = may.quiet;
  runs = λ log from start before free gone. subst (λ (u : State). HasGoneFor pages log from start address before 0 r u r) (sym (none s)) (no_more pages log from start address before s r gone);
}

-- How much is left to do before a bound: steps come first, and then a change to the page of the PC.
abbrev pub left : (bound steps pc number : ℕ) → ℕ
left bound steps pc number = 2 * (bound - steps) + (if nat_eq (pc / PAGE_BYTES) number then 0 else 1)

pub less_after_steps : (bound before steps pc number later_pc later_number : ℕ) → before < steps → steps ≤ bound
    → left bound steps later_pc later_number < left bound before pc number
less_after_steps bound before steps pc number later_pc later_number more within =
    let a = small (nat_eq (pc / PAGE_BYTES) number) in
    let b = small (nat_eq (later_pc / PAGE_BYTES) later_number) in
    omega (arith, more, within, a, b)
  where
    small : (b : Bool) → (if b then 0 else 1) ≤ 1
    small true = omega arith
    small false = omega arith

pub less_after_change : (bound before steps pc number later_pc later_number : ℕ) → before ≤ steps → steps ≤ bound
    → (steps ≡ before → later_pc ≡ pc) → ¬ (later_pc / PAGE_BYTES ≡ number) → later_number ≡ later_pc / PAGE_BYTES
    → left bound steps later_pc later_number < left bound before pc number
less_after_change bound before steps pc number later_pc later_number least within same other here =
    elim (cases_lt before steps) [
      | inl more ↦ less_after_steps bound before steps pc number later_pc later_number more within
      | inr none ↦
          let now : steps ≡ before = omega (arith, least, none) in
          let apart : nat_eq (pc / PAGE_BYTES) number ≡ false = ne_eqb (pc / PAGE_BYTES) number (λ there. other (ap (λ (n : ℕ). n / PAGE_BYTES) (same now) ∙ there)) in
          let there : nat_eq (later_pc / PAGE_BYTES) later_number ≡ true = eq-eqb (later_pc / PAGE_BYTES) later_number (sym here) in
          rw (apart, there) (omega (arith, now))
    ]

-- the steps of one page more, after which the page of the PC is noted
pub over_more : (pages most address : ℕ) (page : CodePage) (made n : ℕ) (s t u : State) (r mid quick later : Recording) → made ≤ n
    → GoesOver pages most address made s t r mid → GoesOn pages most address page made n t u mid quick
    → ((steps : List Done) → Records pages steps quick → Records pages steps later)
    → ((other : ℕ) → holds later.code_pages other ≡ (holds quick.code_pages other || nat_eq (u.core.pc / PAGE_BYTES) other)) → later.steps ≡ quick.steps
    → GoesOver pages most address n s u r later
over_more pages most address page made n s t u r mid quick later more over on records code_pages steps = record {
  leads =
      subst (λ (k : ℕ). LeadsTo pages k s u r later) (let e : made + (n - made) ≡ n = omega (arith, more) in e)
      (leads_too pages (made + (n - made)) s u r quick later (leads_more pages made (n - made) s t u r mid quick over.leads on.leads) records);
  bound = on.bound;
  count = omega (arith, over.count, on.count, steps, more);
  quiet = on.may.quiet;
  runs = λ log from start before free gone.
      let first = over.runs log from start before free gone in
      let second = on.runs log from start before free first.gone in
      let sum : before + made + (n - made) ≡ before + n = omega (arith, more) in
      let gone = recorded_too pages log from start (before + n) (state_elapsed n u) quick later records second.gone in
      subst (λ (k : ℕ). HasGoneFor pages log from start address before k r (state_elapsed n u) later) (let e : made + (n - made) ≡ n = omega (arith, more) in e)
      (gone_on pages log from start address before made (n - made) (state_elapsed made t) (state_elapsed n u) r mid later first
      (record {
        gone = subst (λ (k : ℕ). HasGone pages log from start k (state_elapsed n u) later) (sym sum) gone;
        passed = λ small k after below. second.passed k (omega (arith, after)) (omega (arith, below, sum));
        code_pages = λ set so_far.
            more_code_pages pages log from start (before + made) (n - made) page.number set mid.code_pages later.code_pages so_far
            (λ k above below. second.begins k above (omega (arith, below, sum)))
            (λ other.
            code_pages other
            ∙ ap₂ (λ (set : List ℕ) (pc : ℕ). holds set other || nat_eq (pc / PAGE_BYTES) other) on.code_pages
            (ap (λ (s : State). s.core.pc) second.gone.state ∙ ap (λ (k : ℕ). (run pages log from start k).core.pc) (sym sum)));
      })
      (λ some others. second.passed (before + made) (omega arith) (omega (arith, others, sum))));
}

-- One step more, before which the PC is not at the address, unless it is the first. The laws say that a quick step keeps times quiet, and
-- that its tick may come after it.
pub over_step : (pages most address n : ℕ) (s t u : State) (r mid later : Recording) → n < most → (0 < n → ¬ (t.core.pc ≡ address))
    → GoesOver pages most address n s t r mid → GoesOnce pages t u mid later
    → ((k : ℕ) (s : State) → IsQuick pages s → IsQuietFor k s.core → IsQuietFor k (outcome_of_instruction pages s).state.core)
    → ((k : ℕ) (s : State) → IsQuietFor (k + 1) s.core → IsQuick pages s → outcome_of_step pages [] (state_elapsed k s) ≡ outcome_elapsed (k + 1) (outcome_of_instruction pages s))
    → GoesOver pages most address (n + 1) s u r later
over_step pages most address n s t u r mid later less elsewhere over once stays_quiet at_once =
    let quiet : IsQuietFor (n + 1) t.core = record {
      counts = omega (arith, over.quiet.counts, less);
      sampled = over.quiet.sampled;
      unwanted = over.quiet.unwanted;
    } in record {
      bound = omega (arith, less);
      count = omega (arith, over.count, once.steps);
      quiet = subst (λ (v : State). IsQuietFor most v.core) (ap (λ (o : Outcome). o.state) once.ran) (stays_quiet most t once.quick over.quiet);
      leads =
          leads_more pages n 1 s t u r mid later over.leads
          (leads_one pages t u once.done mid later once.quick once.ran once.records once.reports.words once.reports.stored);
      runs = λ log from start before free gone.
          let so_far = over.runs log from start before free gone in
          let on =
          quick_more pages log from start before n t u once.done mid later (free n less) so_far.gone (at_once n t quiet once.quick) once.ran once.records
          once.reports.words in
          let there = subst (λ (k : ℕ). HasGone pages log from start k (state_elapsed (n + 1) u) later) (let e : before + (n + 1) ≡ before + n + 1 = omega arith in e) on in
          gone_on pages log from start address before n 1 (state_elapsed n t) (state_elapsed (n + 1) u) r mid later so_far
          (record {
            gone = there;
            passed = λ small k after below at. omega (arith, after, below);
            code_pages = λ set code_pages.
                more_code_pages pages log from start (before + n) 1 _ set mid.code_pages later.code_pages code_pages (begins_once pages log from start (before + n))
                (λ other.
                once.code_pages other
                ∙ ap (λ (pc : ℕ). holds mid.code_pages other || nat_eq (pc / PAGE_BYTES) other) (ap (λ (v : State). v.core.pc) there.state));
          })
          (λ some more at. elsewhere some (ap (λ (v : State). v.core.pc) so_far.gone.state ∙ at));
    }

-- what four facts of an answer say together
pub if_four : {A : Type 0} {P Q R S T : A → Type 0} (o : Option A) → IfSome o P → IfSome o Q → IfSome o R → IfSome o S → ((a : A) → P a → Q a → R a → S a → T a) → IfSome o T
if_four None p q r s f = tt
if_four (Some a) p q r s f = f a p q r s
