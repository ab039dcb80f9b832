-- The operands of each shape, in the order in which they are written, after Kane and Heinrich, appendix A.
use Rattle.std.specs.Prelude.{List, [], ◌∷◌}
use Rattle.r3k_table.specs.declared.row.Shape.{Shape}
use Rattle.r3k_table.specs.declared.row.Shape.TheVariants.{A, B, C, D, E, F, G, H, I, K, L, M, N, O, P, Q, Z}
use Rattle.r3k_table.specs.declared.operand.Operand.{Operand}
use Rattle.r3k_table.specs.declared.operand.Operand.TheVariants.{Rs, Rt, Rd, Control, Sa, Code, Signed, Unsigned, Branch, Jump, Based}

abbrev pub operands_of : Shape → List Operand
operands_of A = Rd ∷ Rt ∷ Sa ∷ []
operands_of B = Rd ∷ Rt ∷ Rs ∷ []
operands_of C = Rs ∷ []
operands_of D = Rd ∷ Rs ∷ []
operands_of E = Code ∷ []
operands_of F = Rd ∷ []
operands_of G = Rs ∷ Rt ∷ []
operands_of H = Rd ∷ Rs ∷ Rt ∷ []
operands_of I = Rs ∷ Branch ∷ []
operands_of K = Jump ∷ []
operands_of L = Rs ∷ Rt ∷ Branch ∷ []
operands_of M = Rt ∷ Rs ∷ Signed ∷ []
operands_of N = Rt ∷ Rs ∷ Unsigned ∷ []
operands_of O = Rt ∷ Unsigned ∷ []
operands_of P = Rt ∷ Based ∷ []
operands_of Q = Rt ∷ Control ∷ []
operands_of Z = []
