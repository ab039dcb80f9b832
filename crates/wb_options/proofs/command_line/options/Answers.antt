use Rattle.std.proofs.Common.{◌≡◌, ◌∙◌, codes, drop, map, []}
use Rattle.std.specs.Option.{option_copied}
use Rattle.clap.specs.Words.{kind_of}
use Rattle.wb_options.specs.Options.{faults_of, value_in}
use Rattle.wb_options.proofs.ClapRules.{OfKind, OfSize, OfLog}
use Rattle.wb_options.proofs.OptionLines.{fault_is, has_fault, has_no_fault, value_is, wrong_is}
use Rattle.wb_options.proofs.command_line.options.Goals as goal

pub returns-in-Err-clause-fault : goal.returns-in-Err-clause-fault
returns-in-Err-clause-fault c =
    let words = map (λ word. word.now) c.args.words.now in
    fault_is words (kind_of c.in-Err.error) c.fault_from.result c.fault_from.ensures
    (has_fault _ words c.in-Err.error c.in_ok-command.ensures c.in-Err.ensures.kinds)

pub returns-in_default-clause-fault : goal.returns-in_default-clause-fault
returns-in_default-clause-fault c =
    let words = map (λ word. word.now) c.args.words.now in
    let good : faults_of words ≡ [] = has_no_fault _ words c.in_ok-command.ensures c.in-Ok.ensures.kinds in
    let given : option_copied c.get_str.result ≡ value_in (codes "kind") (drop 1 words) =
    c.get_str.ensures ∙ value_is _ words c.in-Ok.matches OfKind c.in_ok-command.ensures c.in-Ok.ensures.ok.2 good in
    wrong_is words c.wrong_value.result c.wrong_value.ensures good
    (λ kind size log_size line. c.in_default.ensures kind (rw given line.kind_is))

pub returns-in_default-size_named-clause-fault : goal.returns-in_default-size_named-clause-fault
returns-in_default-size_named-clause-fault c =
    let words = map (λ word. word.now) c.args.words.now in
    let good : faults_of words ≡ [] = has_no_fault _ words c.in_ok-command.ensures c.in-Ok.ensures.kinds in
    let given : option_copied c.get_str-2.result ≡ value_in (codes "size") (drop 1 words) =
    c.get_str-2.ensures ∙ value_is _ words c.in-Ok.matches OfSize c.in_ok-command.ensures c.in-Ok.ensures.ok.2 good in
    wrong_is words c.wrong_value-in_default-size_named.result c.wrong_value-in_default-size_named.ensures good
    (λ kind size log_size line. c.in_default-size_named.ensures size line.in_range (rw given line.size_is))

pub returns-in_default-size_named-2-clause-fault : goal.returns-in_default-size_named-2-clause-fault
returns-in_default-size_named-2-clause-fault c =
    let words = map (λ word. word.now) c.args.words.now in
    let good : faults_of words ≡ [] = has_no_fault _ words c.in_ok-command.ensures c.in-Ok.ensures.kinds in
    let given : option_copied c.get_str-3.result ≡ value_in (codes "log") (drop 1 words) =
    c.get_str-3.ensures ∙ value_is _ words c.in-Ok.matches OfLog c.in_ok-command.ensures c.in-Ok.ensures.ok.2 good in
    wrong_is words c.wrong_value-in_default-size_named-2.result c.wrong_value-in_default-size_named-2.ensures good
    (λ kind size log_size line. c.in_default-size_named-2.ensures log_size line.log_in_range (rw given line.log_size_is))

pub returns-clause-line : goal.returns-clause-line
returns-clause-line c =
    let words = map (λ word. word.now) c.args.words.now in
    let good : faults_of words ≡ [] = has_no_fault _ words c.in_ok-command.ensures c.in-Ok.ensures.kinds in
    let kind : option_copied c.get_str.result ≡ value_in (codes "kind") (drop 1 words) =
    c.get_str.ensures ∙ value_is _ words c.in-Ok.matches OfKind c.in_ok-command.ensures c.in-Ok.ensures.ok.2 good in
    let size : option_copied c.get_str-2.result ≡ value_in (codes "size") (drop 1 words) =
    c.get_str-2.ensures ∙ value_is _ words c.in-Ok.matches OfSize c.in_ok-command.ensures c.in-Ok.ensures.ok.2 good in
    let log : option_copied c.get_str-3.result ≡ value_in (codes "log") (drop 1 words) =
    c.get_str-3.ensures ∙ value_is _ words c.in-Ok.matches OfLog c.in_ok-command.ensures c.in-Ok.ensures.ok.2 good in
    record {
      good = good;
      kind_is = rw (← kind) c.in-Some.ensures;
      size_is = rw (← size) c.in-Some-size_named.ensures.0;
      in_range = c.in-Some-size_named.ensures.1;
      log_size_is = rw (← log) c.in-Some-size_named-2.ensures.0;
      log_in_range = c.in-Some-size_named-2.ensures.1;
    }
