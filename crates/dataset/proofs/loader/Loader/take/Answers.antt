use Rattle.std.proofs.Common.{◌≡◌, codes, arith}
use Rattle.std.proofs.lemmas.Slice.Eq.{text_from_reads}
use Rattle.files.specs.Taken.{fault_of, fields_left}
use Rattle.files.proofs.ColumnsRead.{ended}
use Rattle.dataset.specs.Columns.{Items, Warehouses, Districts, Stocks, Customers, Histories, Orders, NewOrders, Lines}
use Rattle.dataset.proofs.LetterFault.{TookBytes, end_is, row_is}
use Rattle.dataset.proofs.loader.Loader.take.Goals as goal
use Rattle.dataset.proofs.loader.Loader.take.Goals.{After-bytes}

took : (c : After-bytes) → TookBytes c.bytes.result.now c.args.fields.now c.bytes.new.self
took c = record { left = c.bytes.ensures.left; none = c.bytes.ensures.none; some = c.bytes.ensures.some }

pub returns-in_ok-take-in-I : goal.returns-in_ok-take-in-I
returns-in_ok-take-in-I c =
    let word : c.bytes.result.now ≡ codes "I" = text_from_reads c.bytes.result.now (codes "I") (omega arith) (omega arith, tt) in
    row_is Items c.args.self.now c.take.new.loader c.args.fields.now c.bytes.new.self c.take.new.fields c.bytes.result.now tt word (took (goal.at.returns-in_ok-take-in-I c).After-bytes)
    c.in_ok-take-in-I.ensures

pub returns-in_ok-take-in-W : goal.returns-in_ok-take-in-W
returns-in_ok-take-in-W c =
    let word : c.bytes.result.now ≡ codes "W" = text_from_reads c.bytes.result.now (codes "W") (omega arith) (omega arith, tt) in
    row_is Warehouses c.args.self.now c.take-in-W.new.loader c.args.fields.now c.bytes.new.self c.take-in-W.new.fields c.bytes.result.now tt word (took (goal.at.returns-in_ok-take-in-W c).After-bytes)
    c.in_ok-take-in-W.ensures

pub returns-in_ok-take-in-D : goal.returns-in_ok-take-in-D
returns-in_ok-take-in-D c =
    let word : c.bytes.result.now ≡ codes "D" = text_from_reads c.bytes.result.now (codes "D") (omega arith) (omega arith, tt) in
    row_is Districts c.args.self.now c.take-in-D.new.loader c.args.fields.now c.bytes.new.self c.take-in-D.new.fields c.bytes.result.now tt word (took (goal.at.returns-in_ok-take-in-D c).After-bytes)
    c.in_ok-take-in-D.ensures

pub returns-in_ok-take-in-S : goal.returns-in_ok-take-in-S
returns-in_ok-take-in-S c =
    let word : c.bytes.result.now ≡ codes "S" = text_from_reads c.bytes.result.now (codes "S") (omega arith) (omega arith, tt) in
    row_is Stocks c.args.self.now c.take-in-S.new.loader c.args.fields.now c.bytes.new.self c.take-in-S.new.fields c.bytes.result.now tt word (took (goal.at.returns-in_ok-take-in-S c).After-bytes)
    c.in_ok-take-in-S.ensures

pub returns-in_ok-take-in-C : goal.returns-in_ok-take-in-C
returns-in_ok-take-in-C c =
    let word : c.bytes.result.now ≡ codes "C" = text_from_reads c.bytes.result.now (codes "C") (omega arith) (omega arith, tt) in
    row_is Customers c.args.self.now c.take-in-C.new.loader c.args.fields.now c.bytes.new.self c.take-in-C.new.fields c.bytes.result.now tt word (took (goal.at.returns-in_ok-take-in-C c).After-bytes)
    c.in_ok-take-in-C.ensures

pub returns-in_ok-take-in-H : goal.returns-in_ok-take-in-H
returns-in_ok-take-in-H c =
    let word : c.bytes.result.now ≡ codes "H" = text_from_reads c.bytes.result.now (codes "H") (omega arith) (omega arith, tt) in
    row_is Histories c.args.self.now c.take-in-H.new.loader c.args.fields.now c.bytes.new.self c.take-in-H.new.fields c.bytes.result.now tt word (took (goal.at.returns-in_ok-take-in-H c).After-bytes)
    c.in_ok-take-in-H.ensures

pub returns-in_ok-take-in-O : goal.returns-in_ok-take-in-O
returns-in_ok-take-in-O c =
    let word : c.bytes.result.now ≡ codes "O" = text_from_reads c.bytes.result.now (codes "O") (omega arith) (omega arith, tt) in
    row_is Orders c.args.self.now c.take-in-O.new.loader c.args.fields.now c.bytes.new.self c.take-in-O.new.fields c.bytes.result.now tt word (took (goal.at.returns-in_ok-take-in-O c).After-bytes)
    c.in_ok-take-in-O.ensures

pub returns-in_ok-take-in-N : goal.returns-in_ok-take-in-N
returns-in_ok-take-in-N c =
    let word : c.bytes.result.now ≡ codes "N" = text_from_reads c.bytes.result.now (codes "N") (omega arith) (omega arith, tt) in
    row_is NewOrders c.args.self.now c.take-in-N.new.loader c.args.fields.now c.bytes.new.self c.take-in-N.new.fields c.bytes.result.now tt word (took (goal.at.returns-in_ok-take-in-N c).After-bytes)
    c.in_ok-take-in-N.ensures

pub returns-in_ok-take-in-One : goal.returns-in_ok-take-in-One
returns-in_ok-take-in-One c =
    let word : c.bytes.result.now ≡ codes "L" = text_from_reads c.bytes.result.now (codes "L") (omega arith) (omega arith, tt) in
    row_is Lines c.args.self.now c.take-in-One.new.loader c.args.fields.now c.bytes.new.self c.take-in-One.new.fields c.bytes.result.now c.in-One.is word (took (goal.at.returns-in_ok-take-in-One c).After-bytes)
    c.in_ok-take-in-One.ensures

pub returns-in-END : goal.returns-in-END
returns-in-END c =
    let word : c.bytes.result.now ≡ codes "END" = text_from_reads c.bytes.result.now (codes "END") (omega arith) (omega arith, (omega arith, (omega arith, tt))) in
    end_is c.args.self.now c.args.fields.now c.bytes.new.self c.check.new.fields c.finish.new.self c.bytes.result.now word (took (goal.at.returns-in-END c).After-bytes)
    c.check.ensures.columns c.check.ensures.taken
    (ended (fields_left c.check.new.fields) (fault_of c.check.new.fields) (fault_of c.finish.new.self) c.finish.ensures.none_left c.finish.ensures.some_left)
