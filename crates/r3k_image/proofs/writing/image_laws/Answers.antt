-- What is written spells the image.
use Rattle.std.proofs.Common.{refl, sym, ap, ◌∙◌}
use Rattle.std.specs.FinMap as map
use Rattle.std.specs.FinMap.{from_entries}
use Rattle.r3k_image.specs.Writing.{runs_in, bytes_of_image}
use Rattle.r3k_image.proofs.Format.{image_at_again}
use Rattle.r3k_image.proofs.LongestRuns.{longest-runs_of, words_in-runs_of}
use Rattle.r3k_image.proofs.SetWords.{runs_stand, boot_entries, map_of_entries}
use Rattle.r3k_image.proofs.Patched.{boot_patched, fits_patched}
use Rattle.r3k_image.proofs.writing.image_laws.Goals as goal

pub returns-clause-read : goal.returns-clause-read
returns-clause-read c =
    λ boot good. image_at_again (bytes_of_image boot) boot (record {
      segments = runs_in boot;
      made = record {
        stand = runs_stand 0 (map.entries boot.words) (boot_entries boot good);
        words = sym (ap from_entries (words_in-runs_of (map.entries boot.words)) ∙ map_of_entries boot.words);
        byte_time = good.byte_time;
        unit = good.unit;
        clock_start = good.clock_start;
      };
      spelled = refl;
    })

pub returns-clause-longest : goal.returns-clause-longest
returns-clause-longest c = λ boot. longest-runs_of (map.entries boot.words)

pub returns-clause-words : goal.returns-clause-words
returns-clause-words c = λ boot. words_in-runs_of (map.entries boot.words)

pub returns-clause-patched : goal.returns-clause-patched
returns-clause-patched c = boot_patched

pub returns-clause-fits : goal.returns-clause-fits
returns-clause-fits c = fits_patched
