-- `expand::expand_planned` meets its contract: 13, and what is written.
use Rattle.std.proofs.Common.{◌≤◌, ap, arith}
use Rattle.formula.specs.Tree.{of}
use Rattle.rows.specs.declared.Layout.{Layout}
use Rattle.elimination.proofs.Surveying.{few_raw}
use Rattle.expand.proofs.Deciding.{no_room, expands, expanded-call}
use Rattle.expand.proofs.expand_planned.Goals as goal
use Rattle.expand.proofs.expand_planned.Goals.{Start}

-- the raw sheet's sizes are small
few_sizes : (c : Start) → (c.args.s.variables ≤ 1024) × (c.args.w.to.layout.nodes ≤ 16386)
few_sizes c =
    let ok = c.requires.from.readable in
    let raw = ap (λ (l : Layout). l.nodes) c.requires.prepared.layout_is in
    (ok.few_variables, omega (arith, few_raw (of c.args.x) ok, raw))

pub fits-requires : goal.fits-requires
fits-requires c =
    let few = few_sizes (goal.at.fits-requires c).Start in
    (omega (arith, few.0), omega (arith, few.1))

pub returns-then-not-fits : goal.returns-then-not-fits
returns-then-not-fits c = no_room c.requires c.args.out.now c.fits.ensures c.if-not-fits.true

pub expand_into-t-requires : goal.expand_into-t-requires
expand_into-t-requires c = expands c.requires c.args.out.now c.fits.ensures c.if-not-fits.false

pub sheet_length-requires : goal.sheet_length-requires
sheet_length-requires c =
    let sizes = c.expand_into-t.ensures.variables_value in
    let few = few_sizes (goal.at.sheet_length-requires c).Start in
    (omega (arith, sizes.0, few.0), omega (arith, sizes.1, few.1))

pub returns : goal.returns
returns c =
    let e = c.expand_into-t.ensures in
    expanded-call c.requires c.args.out.now c.fits.ensures c.if-not-fits.false e.value c.sheet_length.ensures e.out_after
