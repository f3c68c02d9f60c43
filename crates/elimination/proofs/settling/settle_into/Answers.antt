-- `elimination::settling::settle_into` meets its contract.
use Rattle.std.proofs.Common.{◌≡◌, ℕ, ◌≤◌, length, sym, ap, ◌∙◌, arith}
use lib.ListN.{take, replicate, length-replicate}
use lib.Seq.{length-take-le}
use Rattle.formula.specs.Tree.{Formula}
use Rattle.formula.specs.Tidy.{tidied}
use Rattle.formula.specs.Settle.{settled}
use Rattle.sheet.specs.Sheet.{sheet}
use Rattle.sheet.specs.Operations.{padded}
use Rattle.rows.specs.Layouts.{format_in}
use Rattle.rows.specs.Formulas.{formula_in, layout_for}
use Rattle.raw.specs.Formulas.{settled_raw}
use Rattle.elimination.proofs.RawSheets.{raw-room, prefix_without, put-formula, written-raw, written-sheet, written-layout}
use Rattle.elimination.proofs.settling.settle_into.Goals as goal

-- the lent part has so many entries
entries : {n : ℕ} → n ≤ 1025 → length (take n (replicate {A = ℕ} 1025 0)) ≡ n
entries {n} h =
    let none : ℕ = 0 in
    length-take-le n (replicate 1025 none) (omega (arith, length-replicate 1025 none))

pub slice_bounds-changes-end : goal.slice_bounds-changes-end
slice_bounds-changes-end c = sym (entries c.entries_for-entries.ensures.1)

pub fill-requires : goal.fill-requires
fill-requires c =
    let found = c.entries_for-entries.ensures in
    (omega (arith, entries found.1, found.0), omega (arith, entries found.1, found.1))

-- the table is filled, and the raw sheet is written
pub write_settled-requires : goal.write_settled-requires
write_settled-requires c =
    let st = c.requires.from in
    (st.readable, c.requires.named.inside, raw-room st c.args.s.nodes c.requires.room)

pub tidy_in_place-requires : goal.tidy_in_place-requires
unfolding settled_raw formula_in
tidy_in_place-requires c =
    let a = c.args in
    let st = c.requires.from in
    let nm = c.requires.named in
    written-raw st nm (settled_raw a.p.row _ (formula_in a.s a.b.now)) (prefix_without st nm) st.few_nodes c.write_settled.auto.out
    c.requires.room c.write_settled.ensures

pub returns : goal.returns
unfolding settled_raw formula_in tidied settled
returns c =
    let a = c.args in
    let st = c.requires.from in
    let nm = c.requires.named in
    let same = c.write_settled.auto.out in
    let e = c.tidy_in_place.ensures in
    let g = settled_raw a.p.row c.fill.new.table (formula_in a.s a.b.now) in
    let found = c.entries_for-entries.ensures in
    let is = put-formula st nm a.p.value (omega (arith, entries found.1, found.0)) c.fill.ensures in
    record {
      out_after =
          written-sheet st nm g (prefix_without st nm) st.few_nodes same c.requires.room c.write_settled.ensures e.b_after ∙
          ap (λ (h : Formula). padded (length a.out.now) (sheet (format_in a.s) (tidied h))) is;
      value =
          written-layout st nm g (prefix_without st nm) st.few_nodes same c.requires.room c.write_settled.ensures e.value ∙
          ap (λ (h : Formula). layout_for a.s.format (tidied h)) is;
      variables_value = e.variables_value;
    }
