-- `words::token::next_token` meets its contract.
use Rattle.std.proofs.Common.{arith}
use Rattle.words.proofs.Tokens.{from_within, reads_none, some_bytes, to-within, reads_word}
use Rattle.words.proofs.token.next_token.Goals as goal

pub returns-then-from-b : goal.returns-then-from-b
returns-then-from-b c = rw c.unnumbered.ensures (reads_none c.args.b.now c.args.at c.requires c.skip_white-from.ensures c.if-from-b.true)

pub end_of-to-requires : goal.end_of-to-requires
end_of-to-requires c = from_within c.args.b.now c.args.at c.requires c.skip_white-from.ensures

pub slice_bounds-classify-end : goal.slice_bounds-classify-end
slice_bounds-classify-end c =
    let w = to-within c.args.b.now c.args.at c.requires c.skip_white-from.ensures c.if-from-b.false c.end_of-to.ensures in
    omega (arith, w.0, w.1)

pub classify-requires : goal.classify-requires
classify-requires c = some_bytes c.args.b.now c.args.at c.requires c.skip_white-from.ensures c.if-from-b.false c.end_of-to.ensures

pub returns : goal.returns
returns c =
    reads_word c.args.b.now c.args.at c.requires c.skip_white-from.ensures c.if-from-b.false c.end_of-to.ensures
    c.classify.ensures.0 c.classify.ensures.1
