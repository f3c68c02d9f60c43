-- `qdimacs::write::write_clauses` meets its contract.
use Rattle.std.proofs.Common.{◌≤◌, ◌+◌, length, refl, ◌∙◌, arith}
use Rattle.rows.specs.Layouts.{rows_in}
use Rattle.rows.proofs.Layouts.{length-rows_in}
use Rattle.qdimacs.specs.Inner.Cursor.{tokens_at}
use Rattle.qdimacs.proofs.Putting.{number_fits}
use Rattle.qdimacs.proofs.WritingClauses.{first_length_few, clauses_written_none, clause_row_there, literal_row_there}
use Rattle.qdimacs.proofs.WritingClauses.{row_inside, clauses_written_more, clauses_written_all, word_place_at}
use Rattle.qdimacs.proofs.write.write_clauses.Goals as goal

pub loop-p-init : goal.loop-p-init
loop-p-init c =
    (clauses_written_none _ c.requires (omega (arith, length-rows_in c.args.out.now c.requires.room, c.requires.has_rows)), refl)

pub open_clause-opened-requires : goal.open_clause-opened-requires
open_clause-opened-requires c =
    let h = c.loop-p.invariant in
    let rows = length-rows_in c.args.out.now c.requires.room in
    record {
      room = record { holds = omega (arith, c.requires.room.holds, h.1) };
      inside = h.0.inside;
      has_row = λ e. omega (arith, rows, clause_row_there c.requires.whole (omega (arith, rows, c.requires.has_rows)) h.0 c.next_token-t.ensures e);
      few = omega (arith, rows, h.0.put.inside, c.requires.few_rows);
      fits = omega (arith, first_length_few (tokens_at c.args.b.now c.loop-p.p.at), h.0.fewer, c.requires.lengths_fit);
    }

pub write_word-p-requires : goal.write_word-p-requires
write_word-p-requires c =
    let o = c.open_clause-opened in
    let h = c.loop-p.invariant in
    let rows = length-rows_in c.args.out.now c.requires.room in
    let enough : c.args.r + length (tokens_at c.args.b.now c.args.from) ≤ length (rows_in c.args.s c.args.out.now) = omega (arith, rows, c.requires.has_rows) in
    let literal = literal_row_there c.requires.whole enough h.0 c.next_token-t.ensures o.ensures.value o.ensures.out_after in (
      record { holds = omega (arith, c.requires.room.holds, h.1, o.auto.out) },
      λ l. omega (arith, rows, (literal l).0),
      omega (arith, rows, row_inside c.requires.whole enough h.0 c.next_token-t.ensures o.ensures.value o.ensures.out_after, c.requires.few_rows),
      λ l. number_fits c.args.s _ (literal l).1,
    )

pub loop-p-smaller : goal.loop-p-smaller
loop-p-smaller c =
    let token = c.next_token-t in
    omega (
      arith,
      word_place_at token.result c.open_clause-opened.result c.write_word-p.ensures.value,
      token.ensures.inside,
      token.ensures.onward (omega arith),
    )

pub loop-p-preserved : goal.loop-p-preserved
loop-p-preserved c =
    let w = c.write_word-p in
    let o = c.open_clause-opened in
    let h = c.loop-p.invariant in (
      clauses_written_more c.requires.whole (omega (arith, length-rows_in c.args.out.now c.requires.room, c.requires.has_rows)) h.0 c.next_token-t.ensures
          o.ensures.value o.ensures.out_after w.ensures.value w.ensures.out_after,
      w.auto.out ∙ o.auto.out ∙ h.1,
    )

pub returns : goal.returns
returns c = clauses_written_all c.loop-p.invariant.0 (omega arith)
