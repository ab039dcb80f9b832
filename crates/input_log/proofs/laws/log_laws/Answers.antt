use Rattle.input_log.proofs.Logs.{log_takes, log_at_again, log_at_in}
use Rattle.input_log.proofs.Window.{narrowed, later, whole, are_within, is_log, split}
use Rattle.input_log.proofs.Edited.{is_log_still, same_outside}
use Rattle.input_log.proofs.laws.log_laws.Goals as goal

pub returns-clause-read : goal.returns-clause-read
returns-clause-read c = log_at_again

pub returns-clause-read_in : goal.returns-clause-read_in
returns-clause-read_in c = log_at_in

pub returns-clause-spelled : goal.returns-clause-spelled
returns-clause-spelled c = λ bytes log are e. (log_takes bytes log are e).0

pub returns-clause-kept : goal.returns-clause-kept
returns-clause-kept c = λ bytes log are e. (log_takes bytes log are e).1

pub returns-clause-window : goal.returns-clause-window
returns-clause-window c = is_log

pub returns-clause-within : goal.returns-clause-within
returns-clause-within c = are_within

pub returns-clause-whole : goal.returns-clause-whole
returns-clause-whole c = whole

pub returns-clause-narrowed : goal.returns-clause-narrowed
returns-clause-narrowed c = narrowed

pub returns-clause-split : goal.returns-clause-split
returns-clause-split c = split

pub returns-clause-later : goal.returns-clause-later
returns-clause-later c = later

pub returns-clause-edited : goal.returns-clause-edited
returns-clause-edited c = is_log_still

pub returns-clause-outside : goal.returns-clause-outside
returns-clause-outside c = same_outside
