use Rattle.std.proofs.Common.{◌^◌, ◌≤◌, arith}
use Rattle.std.proofs.Math.Nat.{pow-le-pow_right}
use Rattle.word_apply.proofs.words.power_of_two.Goals as goal

pub pow-requires : goal.pow-requires
pow-requires c =
    let most : 2 ^ c.args.exponent ≤ 2 ^ 126 = pow-le-pow_right (omega arith) c.requires in
    omega arith
