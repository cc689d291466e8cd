-- `Line::put` meets its contract: what it measures is the text's length, and the pieces that it puts, in order, are the
-- text.
use Rattle.std.proofs.Common.{◌≡◌, ◌+◌, ℕ, List, ◌++◌, length, length-append, arith}
use Rattle.base.proofs.Stores.{put_fitting, put_join, put_placed}
use Rattle.listing.specs.Lines.{columns_of, text_of}
use Rattle.listing.proofs.text.Line.put.Goals as goal

pub returns-clause-writes : goal.returns-clause-writes
returns-clause-writes c =
    let line = c.args.self.now in
    let out = c.args.out.now in
    let columns : List ℕ = columns_of line.numbers.now in
    let text : List ℕ = text_of line.prefix.now line.word.now line.numbers.now line.rest.now in
    let long : length text ≡ length line.prefix.now + (length line.word.now + (length columns + length line.rest.now)) =
    simp length-append (omega arith) in
    let prefix = c.put_bytes-at_word in
    let word = c.put_bytes-after_word in
    let numbers = c.put_columns-after_numbers in
    let rest = c.put_bytes in
    let a = put_fitting out 0 line.prefix.now (omega arith) prefix.ensures in
    let b = put_fitting prefix.new.out prefix.result line.word.now (omega arith) word.ensures in
    let d = put_fitting numbers.new.out numbers.result line.rest.now (omega arith) rest.ensures in
    let e = put_join word.new.out columns line.rest.now word.result numbers.ensures d in
    let f = put_join prefix.new.out line.word.now (columns ++ line.rest.now) prefix.result b e in
    let whole = put_join out line.prefix.now (line.word.now ++ (columns ++ line.rest.now)) 0 a f in
    put_placed text out (omega arith) whole
