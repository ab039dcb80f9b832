use Rattle.std.proofs.Common.{◌≡◌, ◌⊎◌, ◌∙◌, ℕ, ◌+◌, ◌-◌, ◌<◌, ◌≤◌, ◌++◌, [], ◌∷◌, List, Some, None, length, inl, inr, sym, ap, arith, append-nil}
use Rattle.std.proofs.Math.Path.{ap₂}
use Rattle.std.proofs.lemmas.List.{length-append}
use Rattle.r3k_machine.specs.declared.jumps.Jump.{Jump}
use Rattle.r3k_machine.specs.Jumps.{Jumping, jump_of, jumps_from}
use Rattle.r3k_machine.specs.Traced.{traced_at}
use Rattle.present_run.proofs.Jumping.{ended, joined, lists, passes}
use Rattle.present_run.proofs.machine.Machine.jumps.Goals.{in-Some, in_default, then-loop-next-test+else-len-count, else-loop-next-test}
use Rattle.present_run.proofs.machine.Machine.jumps.Goals as goal

pub loop-next-preserved : goal.loop-next-preserved
loop-next-preserved g c =
    let pages = g.row.PAGES in
    let image = c.args.inputs.now.image in
    let log = c.args.inputs.now.log in
    let local = c.args.local in
    let next = c.loop-next.next in
    let first = c.loop-next.jumps.items in
    let left = c.args.count - length first in
    let window = c.args.last - next in
    let inv = c.loop-next.invariant in
    let some : 0 < left = omega (arith, c.len.ensures.value, c.if-len-count.true) in
    let wide : 0 < window = omega (arith, c.loop-next-test.true) in
    let one_less : window - 1 ≡ c.args.last - (next + 1) = omega arith in
    let jump_is : c.of.result ≡ jump_of local next (traced_at pages image log next) =
    c.of.ensures ∙ ap (jump_of local next) c.follow_one-traced.ensures.traced in
    let after : c.args.position ≤ next + 1 = omega (arith, inv.after) in
    let within : next + 1 ≤ c.args.last = omega (arith, c.loop-next-test.true) in
    let count : c.follow_one-traced.new.self.live.steps ≤ c.args.self.now.live.steps + (next + 1 - c.args.position) =
    omega (arith, c.follow_one-traced.ensures.count, inv.count, inv.after) in
    let least : c.args.self.now.live.steps ≤ c.follow_one-traced.new.self.live.steps =
    omega (arith, c.follow_one-traced.ensures.least, inv.least) in
    elim c.match-of.branch [
      | in-Some w ↦
          let jump = w.in-Some.jump in
          let long = length-append first (jump ∷ []) in
          let fewer : left - 1 ≡ c.args.count - length (first ++ jump ∷ []) = omega (arith, long) in
          rw (w.jumps-is, w.push.ensures.items) (record {
            of = c.follow_one-traced.ensures.of;
            stands = c.follow_one-traced.ensures.stands;
            found =
                inv.found
                ∙ (lists pages image log local first next left window jump some wide (sym jump_is ∙ w.in-Some.is)
                ∙ ap₂ (λ (m n : ℕ). joined (first ++ jump ∷ []) (jumps_from pages image log local (next + 1) m n)) fewer one_less);
            few = omega (arith, long, some);
            after = after;
            within = within;
            count = count;
            least = least;
          })
      | in_default w ↦
          rw w.jumps-is (record {
            of = c.follow_one-traced.ensures.of;
            stands = c.follow_one-traced.ensures.stands;
            found =
                inv.found
                ∙ (passes pages image log local first next left window some wide (sym jump_is ∙ w.in_default.is)
                ∙ ap (λ (n : ℕ). joined first (jumps_from pages image log local (next + 1) left n)) one_less);
            few = inv.few;
            after = after;
            within = within;
            count = count;
            least = least;
          })
    ]

pub returns-clause-jumps : goal.returns-clause-jumps
returns-clause-jumps g c =
    let first = c.loop-next.jumps.items in
    let next = c.loop-next.next in
    let left = c.args.count - length first in
    let window = c.args.last - next in
    let at_end : (left ≡ 0) ⊎ (window ≡ 0) = elim c.loop-next-test.branch [
      | then-loop-next-test+else-len-count w ↦ inl (omega (arith, w.len.ensures.value, w.if-len-count.false))
      | else-loop-next-test w ↦ inr (omega (arith, w.loop-next-test.false))
    ] in
    sym (c.loop-next.invariant.found
    ∙ (ap (joined first) (ended g.row.PAGES c.args.inputs.now.image c.args.inputs.now.log c.args.local next left window at_end)
    ∙ ap (λ (jumps : List Jump). record { jumps = jumps; next = next }) (append-nil first)))
