-- The sizes of a machine and of its spans (own): 16 to 8192 pages of RAM, and spans of 64 to 1,048,576 steps, in multiples
-- of 64.
use Rattle.std.specs.Prelude.{◌≡◌, ℕ, ◌%◌, ◌≤◌}

pub record AreSizes (pages span : ℕ) : Type 0 where
  pub least_pages : 16 ≤ pages
  pub most_pages : pages ≤ 8192
  pub least_span : 64 ≤ span
  pub most_span : span ≤ 1048576
  pub multiple : span % 64 ≡ 0
