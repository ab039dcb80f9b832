-- From what clap reports of a parse to what the line says.
use Rattle.std.proofs.Common.{◌≡◌, ◌⊎◌, ◌∙◌, ap, refl, subst, sym, inl, inr, ℕ, true, List, [], drop}
use Rattle.clap.specs.Words.{App, HasKind, HasMatchesOf, IsAmong, Text, fault_of, first_of, first_value, found_of, is_simple, is_simple_and_free}
use Rattle.clap.specs.declared.error.Error.{Error}
use Rattle.clap.specs.declared.error.kind.ErrorKind.{ErrorKind}
use Rattle.clap.specs.declared.error.kind.ErrorKind.TheVariants.{DisplayHelp, InvalidValue, OutOfMemory}
use Rattle.clap.specs.declared.parser.matches.ArgMatches.{ArgMatches}
use Rattle.wb_options.proofs.ClapRules.{Choice, name_of}
use Rattle.wb_options.proofs.ClapWords.{value-in_words}
use Rattle.clap.proofs.OnLiterals.{clap_on_literals}
use Rattle.clap.proofs.WalkLemmas.{first_value-rows}
use Rattle.wb_options.specs.Options.{IsFaultOf, IsLine, IsLineFault, command_line, faults_of, value_in}
use Rattle.wb_options.specs.declared.arguments.Kind.{Kind}
use Rattle.wb_options.specs.declared.fault.RunFault.{RunFault}
use Rattle.wb_options.specs.declared.fault.RunFault.TheVariants.{Memory, BadImage, BadLog, BadSource, ReadFault, WriteFault, Usage, Help}

line_is_simple : is_simple command_line ≡ true
unfolding clap_on_literals
line_is_simple = refl

line_is_free : is_simple_and_free command_line ≡ true
unfolding clap_on_literals
line_is_free = refl

-- where clap takes the words, they have no fault
pub has_no_fault : (a : App) (words : List Text) → a ≡ command_line
    → (is_simple_and_free a ≡ true → fault_of a words ≡ []) → faults_of words ≡ []
has_no_fault a words is h =
    subst (λ b. fault_of b words ≡ []) is (h (ap is_simple_and_free is ∙ line_is_free))

-- where it refuses them, the error is one of their faults
pub has_fault : (a : App) (words : List Text) (e : Error) → a ≡ command_line
    → (is_simple_and_free a ≡ true → HasKind (fault_of a words) e) → HasKind (faults_of words) e
has_fault a words e is h =
    subst (λ b. HasKind (fault_of b words) e) is (h (ap is_simple_and_free is ∙ line_is_free))

-- the first value of an option is the one that the words give
pub value_is : (a : App) (words : List Text) (m : ArgMatches) (which : Choice) → a ≡ command_line
    → HasMatchesOf a words m → faults_of words ≡ []
    → first_value (found_of m) (name_of which) ≡ value_in (name_of which) (drop 1 words)
value_is a words m which is h good =
    first_value-rows (found_of m) (name_of which)
    ∙ (ap (first_of (name_of which)) ((subst (λ b. HasMatchesOf b words m) is h line_is_simple).0)
    ∙ value-in_words which words good)

-- a fault that clap found
pub fault_is : (words : List Text) (kind : ErrorKind) (fault : RunFault) → IsFaultOf kind fault
    → (kind ≡ OutOfMemory) ⊎ IsAmong kind (faults_of words) → IsLineFault words fault
fault_is words kind Memory is among = tt
fault_is words kind (BadImage k) is among = absurd is
fault_is words kind (BadLog k) is among = absurd is
fault_is words kind (BadSource line k) is among = absurd is
fault_is words kind ReadFault is among = absurd is
fault_is words kind WriteFault is among = absurd is
fault_is words kind (Usage text) is (inl none) = absurd (is.1 none)
fault_is words kind (Usage text) is (inr among) = inl (kind, among, is.0)
fault_is words kind (Help text) is (inl none) =
    let bad : DisplayHelp ≡ OutOfMemory = sym is ∙ none in
    cc
fault_is words kind (Help text) is (inr among) = subst (λ k. IsAmong k (faults_of words)) is among

-- a value that clap takes and the option doesn't
pub wrong_is : (words : List Text) (fault : RunFault) → IsFaultOf InvalidValue fault → faults_of words ≡ []
    → ((kind : Kind) (size log_size : ℕ) → ¬ IsLine words kind size log_size) → IsLineFault words fault
wrong_is words Memory is good none = tt
wrong_is words (BadImage k) is good none = absurd is
wrong_is words (BadLog k) is good none = absurd is
wrong_is words (BadSource line k) is good none = absurd is
wrong_is words ReadFault is good none = absurd is
wrong_is words WriteFault is good none = absurd is
wrong_is words (Usage text) is good none = inr (good, none)
wrong_is words (Help text) is good none =
    let bad : InvalidValue ≡ DisplayHelp = is in
    cc
