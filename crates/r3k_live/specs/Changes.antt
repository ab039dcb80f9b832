-- What of memory may have changed (own): pages, and blocks of words in them.
use Rattle.std.specs.Prelude.{ℕ, Bool, List}
use Rattle.r3k_pages.specs.Pages.{SameOutside, SameOutsideBlocks}

pub record Changes : Type 0 where
  pub pages : List ℕ
  pub blocks : List Bool

-- what differs between two memories lies in the pages, and in marked blocks
pub record AreChanges (changes : Changes) (a b : List ℕ) : Type 0 where
  pub pages : SameOutside changes.pages a b
  pub blocks : SameOutsideBlocks changes.blocks a b
