-- `split::split_into` meets its contract.
use mathlib.Core.Path.{refl, ◌∙◌}
use borrow.Author.Rules.{rules}
use Rattle.checking.proofs.CheckedSheets.{sheet_readable}
use Rattle.force.proofs.Judging.{has_entries}
use Rattle.split.proofs.Splitting.{split-sheet, split-length}
use Rattle.split.proofs.split_into.Goals as goal

pub fill_values-requires : goal.fill_values-requires
fill_values-requires c =
    let j = c.requires in
    (sheet_readable j.checked, has_entries j.checked, j.few, search rules)

pub write_behind-t-requires : goal.write_behind-t-requires
write_behind-t-requires c =
    let j = c.requires in
    (sheet_readable j.checked, j.few, record { holds = j.has_room })

pub returns : goal.returns
returns c =
    let raw = c.write_behind-t in
    record {
      out_after = c.seal.ensures.b_after ∙
          split-sheet c.requires c.fill_values.ensures raw.auto.out refl raw.ensures.raw raw.ensures.value;
      value = c.seal.ensures.value ∙
          split-length c.requires c.fill_values.ensures raw.auto.out refl raw.ensures.raw raw.ensures.value;
    }
