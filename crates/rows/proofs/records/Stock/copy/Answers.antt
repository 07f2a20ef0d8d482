use Rattle.std.proofs.Common.{rules, ◌≡◌, length, arith}
use Rattle.std.proofs.lemmas.Grind.{common_steps}
use Rattle.rows.proofs.Arrays.{ten_elements}
use Rattle.rows.proofs.records.Stock.copy.Goals as goal

-- src/copies.rt:52:5
pub returns : goal.returns
returns c =
    let ten : length c.args.self.now.dist ≡ 10 = search rules in
    let all = ten_elements c.args.self.now.dist ten c.index-self-0.result c.index-self-1.result c.index-self-2.result c.index-self-3.result c.index-self-4.result c.index-self-5.result c.index-self-6.result c.index-self-7.result c.index-self-8.result c.index-self-9.result in
    grind (arith, common_steps, all)
