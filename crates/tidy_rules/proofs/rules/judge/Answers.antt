-- `tidy_rules::rules::judge` meets its contract.
use Rattle.std.proofs.Common.{sym, ap, ◌∙◌, arith}
use Rattle.sheet.specs.Format.{Row}
use Rattle.tidy_rules.specs.Segments.{live}
use Rattle.tidy_rules.specs.Rules.{decisive, repeated}
use Rattle.tidy_rules.proofs.Segments.{stands_row}
use Rattle.tidy_rules.proofs.Notes.{note_dead}
use Rattle.tidy_rules.proofs.Judge.{none_dead, live-above, judged_passed, judged_inside}
use Rattle.tidy_rules.proofs.rules.judge.Goals as goal

pub kind_at-k-requires : goal.kind_at-k-requires
kind_at-k-requires c = (c.requires.room, judged_inside c.requires)

pub returns-then-k-eq-GONE-clause-judges : goal.returns-then-k-eq-GONE-clause-judges
returns-then-k-eq-GONE-clause-judges c =
    λ o _ from before done after laid noted two front x back h _.
    let dead = sym (c.kind_at-k.ensures ∙ ap (λ (r : Row). r.kind) (stands_row h)) ∙ c.if-k-eq-GONE.true in
    judged_passed h (none_dead (decisive o (live done)) x dead) (none_dead (repeated (live done)) x dead) (note_dead _ x dead) noted

pub judge_literal-requires : goal.judge_literal-requires
judge_literal-requires c =
    let a = c.requires in
    let g = a.behind.standing in
    let same = c.kind_at-k.ensures ∙ ap (λ (r : Row). r.kind) (stands_row g.stands) in (
      record { room = a.room; counted = a.counted; tables = a.tables; behind = a.behind },
      record {
        is = c.kind_at-k.ensures;
        above = omega (arith, same, live-above g.segment (λ z. c.if-k-eq-GONE.false (same ∙ z)));
        below = c.if-k-le-NEGATIVE.true;
      },
    )

pub returns-then-k-le-NEGATIVE-clause-judges : goal.returns-then-k-le-NEGATIVE-clause-judges
returns-then-k-le-NEGATIVE-clause-judges c = λ o _. c.judge_literal.ensures.judges_as o
