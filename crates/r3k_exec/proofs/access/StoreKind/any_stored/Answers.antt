use Rattle.std.proofs.Common.{◌≡◌, ◌≤◌, ◌+◌, ◌-◌, ◌*◌, ◌%◌, ◌^◌, arith}
use Rattle.std.proofs.Math.Pow.{pow_mono}
use Rattle.std.proofs.lemmas.Nat.{pow-add, pow_pos}
use Rattle.r3k_exec.proofs.access.StoreKind.any_stored.Goals as goal

pub overflow_sub-byte-in-Left : goal.overflow_sub-byte-in-Left
overflow_sub-byte-in-Left c =
    let byte = c.args.address % 4 in
    let most : byte ≤ 3 = omega arith in
    omega (arith, pow_pos byte, pow_mono most)

pub overflow_sub-byte-in-Right : goal.overflow_sub-byte-in-Right
overflow_sub-byte-in-Right c =
    let most : c.args.address % 4 ≤ 3 = omega arith in
    omega (arith, pow_mono most)

pub returns-in-Left : goal.returns-in-Left
returns-in-Left c =
    let byte = c.args.address % 4 in
    let most : byte ≤ 3 = omega arith in
    let lanes : 2 * 2 ^ byte % 256 - 1 ≡ 2 * 2 ^ byte - 1 = omega (arith, pow_mono most) in
    let next : 2 ^ (byte + 1) ≡ 2 * 2 ^ byte = omega (arith, pow-add 2 byte 1) in
    rw (c.in-Left.is, c.covering-in-Left.ensures, lanes, next) cc
