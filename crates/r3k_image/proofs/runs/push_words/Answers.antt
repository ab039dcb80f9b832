-- The last run has more words, or there is one more run.
use Rattle.std.proofs.Common.{◌≡◌, length, refl, sym, ap, ◌∙◌}
use Rattle.r3k_image.proofs.Pushing.{joins_words, joins_longest, adds_longest, begins_longest}
use Rattle.r3k_image.proofs.runs.push_words.Goals as goal
use Rattle.r3k_image.proofs.runs.push_words.Goals.{in-Some+else-ends_at+in_ok-push-2, in_default}

pub returns-then-ends_at-clause-words : goal.returns-then-ends_at-clause-words
returns-then-ends_at-clause-words c =
    joins_words c.args.runs.now.items c.push.new.self.items c.pop.new.self.items c.in-Some.last _ c.args.address c.args.words.now
    (record { was = c.in-Some.ensures.items; is = c.in_ok-push.ensures.items; address = refl; words = c.in_ok-extend_from_slice.ensures.items; end = c.ends_at.ensures.0 c.if-ends_at.true })

pub returns-then-ends_at-clause-longest : goal.returns-then-ends_at-clause-longest
returns-then-ends_at-clause-longest c =
    joins_longest c.args.runs.now.items c.push.new.self.items c.pop.new.self.items c.in-Some.last _ c.args.address c.args.words.now
    (record { was = c.in-Some.ensures.items; is = c.in_ok-push.ensures.items; address = refl; words = c.in_ok-extend_from_slice.ensures.items; end = c.ends_at.ensures.0 c.if-ends_at.true })
    c.requires.longest

pub returns-clause-longest : goal.returns-clause-longest
returns-clause-longest c =
    elim c.match-pop.branch [
      | in-Some+else-ends_at+in_ok-push-2 w ↦
          let kept : c.match-pop.runs.items ≡ c.args.runs.now.items = ap (λ v. v.items) w.runs-is ∙ w.in_ok-push-2.ensures.items ∙ sym w.in-Some.ensures.items in
          adds_longest c.args.runs.now.items c.match-pop.runs.items c.push-2.new.self.items c.pop.new.self.items w.in-Some.last
          (record { address = c.args.address; words = c.in_ok-words.words }) c.args.address c.args.words.now
          w.in-Some.ensures.items kept c.in_ok-push-3.ensures.items refl c.in_ok-words.ensures.items c.requires.some
          (λ e. let f = w.ends_at.ensures.1 e in let g = w.if-ends_at.false in cc) c.requires.longest
      | in_default w ↦
          begins_longest c.match-pop.runs.items c.push-2.new.self.items (record { address = c.args.address; words = c.in_ok-words.words }) c.args.address c.args.words.now
          (ap (λ v. length v.items) w.runs-is ∙ sym c.pop.new.self.ok.0 ∙ w.in_default.ensures.cases.1) c.in_ok-push-3.ensures.items refl c.in_ok-words.ensures.items c.requires.some
    ]
