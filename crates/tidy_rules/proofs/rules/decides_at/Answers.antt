-- `tidy_rules::rules::decides_at` meets its contract.
use Rattle.std.proofs.Common.{sym, ap, ◌∙◌, eqb, not, arith}
use borrow.Author.Tests.{eq-eqb}
use Rattle.sheet.specs.Format.{Row}
use Rattle.tidy_rules.proofs.Segments.{stands_row}
use Rattle.tidy_rules.proofs.Judge.{decisive_own, decisive_other}
use Rattle.tidy_rules.proofs.rules.decides_at.Goals as goal

pub returns-then-kind_at-c : goal.returns-then-kind_at-c
returns-then-kind_at-c c =
    λ us front x back h w o e.
    let same = ap (λ (r : Row). r.kind) (stands_row h) in
    ap (λ m. eqb m 0) c.children_of.ensures ∙
    decisive_other o us x _ (omega (arith, same, c.requires.2)) (λ f. c.if-kind_at-c.true (c.kind_at.ensures ∙ same ∙ f ∙ sym e)) w

pub returns-else-kind_at-c : goal.returns-else-kind_at-c
returns-else-kind_at-c c =
    λ us front x back h w o e.
    let own = c.if-kind_at-c.false in
    ap not (eq-eqb _ _ own) ∙ sym (decisive_own o us x (sym (c.kind_at.ensures ∙ ap (λ (r : Row). r.kind) (stands_row h)) ∙ own ∙ e))
