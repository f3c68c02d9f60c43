-- `rows::fit::fits` meets its contract: the first test says whether the nodes are few enough.
use Rattle.std.proofs.Common.{sym, ap, ap₂, ◌∙◌, ◌&&◌, Bool, ℕ}
use borrow.Author.Tests.{le-leb, lt-leb}
use lib.Dec.{leb}
use Rattle.sheet.specs.Format.{sheet_length, fits}
use Rattle.rows.specs.Formats.{format_of}
use Rattle.rows.proofs.fit.fits.Goals as goal

pub returns-then-n-most_nodes : goal.returns-then-n-most_nodes
unfolding fits
returns-then-n-most_nodes c =
    let a = c.args in
    ap₂ (λ (t : Bool) (m : ℕ). t && leb m a.room) (sym (le-leb a.n _ (rw c.most_nodes.ensures at c.if-n-most_nodes.true))) c.sheet_length.ensures

pub returns-else-n-most_nodes : goal.returns-else-n-most_nodes
unfolding fits
returns-else-n-most_nodes c =
    let a = c.args in
    let many = lt-leb a.n c.most_nodes.result c.if-n-most_nodes.false in
    many ∙ sym (ap (λ (t : Bool). t && leb (sheet_length (format_of a.f) a.v a.n) a.room) (rw c.most_nodes.ensures at many))
