-- `dependence::mark::mark_row` meets its contract: by the row's variable.
use Rattle.dependence.proofs.Marks.{row-marked, row_unmarked}
use Rattle.dependence.proofs.mark.mark_row.Goals as goal

pub returns-then-v-lt-NUMBERS : goal.returns-then-v-lt-NUMBERS
returns-then-v-lt-NUMBERS c =
    row-marked c.args.s c.args.b.now c.args.i c.literal_at-v.ensures.0 c.add.ensures.set_len_unchanged c.add.ensures.by_index

pub returns-else-v-lt-NUMBERS : goal.returns-else-v-lt-NUMBERS
returns-else-v-lt-NUMBERS c = row_unmarked c.args.s c.args.b.now c.args.i c.literal_at-v.ensures.0 c.if-v-lt-NUMBERS.false
