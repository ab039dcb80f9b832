use Rattle.r3k_live.proofs.stretch.ready_page.Goals as goal

pub returns-clause-code : goal.returns-clause-code
returns-clause-code g c = λ core code.
    let goes = code.over_bus.over (c.goes_over_bus.ensures.some c.if-not-goes_over_bus.false) in
    c.unmapped.ensures.code g.row.PAGES core c.requires.number (c.in_ok-ready.ensures.fetched core goes) goes
