mod OptionLines
mod ClapRules
mod ClapSteps
mod ClapWords
