-- What `stores`, `finds` and `pcs` show (own): how many there are, and a line for each.
use Rattle.std.specs.Prelude.{ℕ, List, ◌++◌, codes, flat_map, length}
use Rattle.std.specs.Fmt.{decimal}
use Rattle.wb_text.specs.Text.{line, numbered, word_text}
use Rattle.wb_text.specs.declared.lists.Timed.{Timed}

-- a word, after the step or the position that it belongs to
abbrev pub timed_text : Timed → List ℕ
timed_text t = decimal t.time ++ codes " " ++ word_text t.word

abbrev pub timed_list_text : (name : List ℕ) → List Timed → List ℕ
timed_list_text name words = line (name ++ decimal (length words)) ++ flat_map (λ t. line (timed_text t)) words

-- a step that sent a byte, after the byte's place
abbrev pub sender_text : (place step : ℕ) → List ℕ
sender_text place step = decimal place ++ codes " " ++ decimal step

abbrev pub finds_text : ℕ → List ℕ → List ℕ
finds_text first steps = line (codes "finds " ++ decimal (length steps)) ++ numbered sender_text first steps
