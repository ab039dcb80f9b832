-- The fields of the row with a number, after Kane and Heinrich, appendix A.
use Rattle.std.specs.Prelude.{ℕ, slice_get}
use Rattle.std.specs.Option.{option_map_or}
use Rattle.r3k_table.specs.declared.row.Fields.{Fields}
use Rattle.r3k_table.specs.Fields.{fields_of, no_field}
use Rattle.r3k_table.specs.Table.{instructions}

-- the fields of a row of the table, and none where there is no such row
abbrev pub fields_at : ℕ → Fields
fields_at row = option_map_or (λ r. fields_of r.shape) (slice_get instructions row) no_field
