-- `outer::draft::draft_chosen` meets its contract.
use Rattle.std.proofs.Common.{◌≡◌, refl, ◌∙◌}
use Rattle.rows.specs.Formulas.{matrix_in}
use Rattle.substitution.specs.Changes.{chosen}
use Rattle.relevance.specs.Raw.{presence}
use Rattle.relevance.proofs.Growth.{raw_rows_by}
use Rattle.outer.proofs.Drafting.{part_absent, chain-here, part-present, drafted}
use Rattle.outer.proofs.draft.draft_chosen.Goals as goal
use Rattle.outer.proofs.draft.draft_chosen.Goals.{then-r-s, else-r-s}

pub relevant_subtree-requires : goal.relevant_subtree-requires
relevant_subtree-requires c =
    let L = chosen c.args.table.now in
    record { indexed = c.requires.0; chosen = L; chain = chain-here L c.args.b.now c.requires.0.readable c.link_chosen-r.ensures c.if-r-s.true }

pub raw_rows_of-requires : goal.raw_rows_of-requires
raw_rows_of-requires c =
    let L = chosen c.args.table.now in
    let b = c.args.b.now in
    let ok = c.requires.0.readable in
    let l = c.link_chosen-r.ensures in
    let part : c.if-r-s.relevant ≡ presence L (matrix_in c.args.t.layout b) =
    elim c.if-r-s.branch [
      | then-r-s w ↦ w.relevant-is ∙ part-present L b ok l w.if-r-s.true (w.relevant_subtree.ensures L (chain-here L b ok l w.if-r-s.true))
      | else-r-s w ↦ w.relevant-is ∙ part_absent L b ok l w.if-r-s.false
    ] in
    (ok.few_nodes, (raw_rows_by L b ok part).1)

pub returns : goal.returns
returns c =
    let L = chosen c.args.table.now in
    let b = c.args.b.now in
    let ok = c.requires.0.readable in
    let l = c.link_chosen-r.ensures in
    let part : c.if-r-s.relevant ≡ presence L (matrix_in c.args.t.layout b) =
    elim c.if-r-s.branch [
      | then-r-s w ↦ w.relevant-is ∙ part-present L b ok l w.if-r-s.true (w.relevant_subtree.ensures L (chain-here L b ok l w.if-r-s.true))
      | else-r-s w ↦ w.relevant-is ∙ part_absent L b ok l w.if-r-s.false
    ] in
    record {
      drafts = drafted L b ok l c.requires.0 part c.raw_rows_of.ensures c.args.t.row c.args.variables 5;
      row_is = refl;
      variables_are = refl;
      joint_is = refl;
    }
