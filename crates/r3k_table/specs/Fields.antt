-- The fields that hold the operands of a shape (Kane and Heinrich, appendix A).
use Rattle.std.specs.Prelude.{true, false}
use Rattle.r3k_table.specs.declared.row.Fields.{Fields}
use Rattle.r3k_table.specs.declared.row.Shape.{Shape}
use Rattle.r3k_table.specs.declared.row.Shape.TheVariants.{A, B, C, D, E, F, G, H, I, K, L, M, N, O, P, Q, Z}

-- no field at all
abbrev pub no_field : Fields
no_field = record { rs = false; rt = false; rd = false; sa = false; imm = false; index = false; code = false }

-- the fields of a shape
abbrev pub fields_of : Shape → Fields
fields_of A = record no_field { rt = true; rd = true; sa = true }
fields_of B = record no_field { rs = true; rt = true; rd = true }
fields_of C = record no_field { rs = true }
fields_of D = record no_field { rs = true; rd = true }
fields_of E = record no_field { code = true }
fields_of F = record no_field { rd = true }
fields_of G = record no_field { rs = true; rt = true }
fields_of H = record no_field { rs = true; rt = true; rd = true }
fields_of I = record no_field { rs = true; imm = true }
fields_of K = record no_field { index = true }
fields_of L = record no_field { rs = true; rt = true; imm = true }
fields_of M = record no_field { rs = true; rt = true; imm = true }
fields_of N = record no_field { rs = true; rt = true; imm = true }
fields_of O = record no_field { rt = true; imm = true }
fields_of P = record no_field { rs = true; rt = true; imm = true }
fields_of Q = record no_field { rt = true; rd = true }
fields_of Z = no_field
