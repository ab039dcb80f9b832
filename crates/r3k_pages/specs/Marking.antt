-- How a set of pages is kept (own): a mark for each page, and the list of the pages that have one, with room for all.
use Rattle.std.specs.Prelude.{◌≡◌, ℕ, ◌<◌, ◌≤◌, Bool, false, List, length, All, nat_eq, slice_index_or}
use Rattle.std.specs.List.{IsDistinct}
use Rattle.r3k_word.specs.declared.layout.TheConstants.{MAX_RAM_PAGES}
use Rattle.r3k_pages.specs.Pages.{holds, page_count_of}

pub record AreMarked (pages room : ℕ) (marks : List Bool) (set : List ℕ) : Type 0 where
  pub few : pages ≤ MAX_RAM_PAGES
  pub long : length marks ≡ page_count_of pages
  pub fits : page_count_of pages ≤ room
  pub within : All (λ page. page < page_count_of pages) set
  pub once : IsDistinct nat_eq set
  pub marked : (page : ℕ) → slice_index_or marks page false ≡ holds set page
