-- The goals of `reader::header_of`. Assumes nothing.
use Rattle.reader.proofs.Heading.{end_inside, headed}
use Rattle.reader.proofs.header_of.Goals as goal

pub slice_bounds-read_header-end : goal.slice_bounds-read_header-end
slice_bounds-read_header-end c = end_inside c.args.text.now c.header_line-from.ensures c.end_of-end.ensures

pub returns : goal.returns
returns c = headed c.args.text.now c.header_line-from.ensures c.end_of-end.ensures c.read_header-header.ensures c.next_line-to.ensures
