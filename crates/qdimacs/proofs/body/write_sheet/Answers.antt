-- `qdimacs::body::write_sheet` meets its contract: AND stands behind the variables, and each part behind the one before it.
use Rattle.std.proofs.Common.{◌≡◌, true, false, ◌+◌, map, length, sym, ap, ap₂, ◌∙◌, arith}
use lib.ListN.{length-map}
use Rattle.formula.proofs.Booleans.{and_parts}
use Rattle.sheet.specs.Format.{Bytes, row}
use Rattle.sheet.specs.Sheet.{binding_row}
use Rattle.sheet.proofs.Preorder.{length-forest_rows}
use Rattle.sheet.specs.Qdimacs.{all, clause_trees}
use Rattle.sheet.specs.Texts.{up_to, lists}
use Rattle.rows.specs.Layouts.{total, rows_in, Room, sealed}
use Rattle.rows.proofs.Layouts.{length-rows_in}
use Rattle.qdimacs.specs.Inner.Lists.{between, ordered, clause_tokens, whole_lists}
use Rattle.qdimacs.specs.Inner.Cursor.{tokens_at}
use Rattle.qdimacs.specs.Inner.Marks.{bindings_in, frees}
use Rattle.qdimacs.specs.Inner.Rows.{clause_rows}
use Rattle.qdimacs.specs.Inner.Body.{Scanned, laid}
use Rattle.qdimacs.specs.declared.body.Body.{Body}
use Rattle.qdimacs.proofs.Reading.{rows-lists}
use Rattle.qdimacs.proofs.Composing.{composed, clauses-all, ends_few}
use Rattle.qdimacs.proofs.body.write_sheet.Goals as goal

whole : {b : Bytes} {k : Body} → Scanned b k → whole_lists false (tokens_at b k.from) ≡ true
whole {b} q =
    let ts = tokens_at b 0 in
    ap (whole_lists false) q.clauses_from ∙ (and_parts (ordered between ts) (whole_lists false (clause_tokens between ts)) q.listed.well).1

pub set_row-requires : goal.set_row-requires
set_row-requires c =
    let q = c.requires in
    let root : c.write_bound-v.result ≡ c.args.s.variables =
    omega (arith, q.variables_are, c.write_free-free.ensures.value, c.write_bound-v.ensures.value) in (
      record { holds = omega (arith, q.room.holds, c.write_bound-v.auto.out, c.write_free-free.auto.out) },
      omega (arith, root, q.nodes_are),
      omega (arith, q.scanned.clauses_are, q.scanned.words_are, q.nodes_are, q.nodes_fit, ends_few (tokens_at c.args.b.now c.args.k.from)),
    )

pub write_clauses-requires : goal.write_clauses-requires
write_clauses-requires c =
    let q = c.requires in
    let root : c.write_bound-v.result ≡ c.args.s.variables =
    omega (arith, q.variables_are, c.write_free-free.ensures.value, c.write_bound-v.ensures.value) in
    record {
      inside = q.scanned.inside;
      whole = whole q.scanned;
      below = ap (all (up_to 1024)) q.scanned.clauses_from ∙ clauses-all (up_to 1024) between (tokens_at c.args.b.now 0) q.scanned.listed.below;
      room = record { holds = omega (arith, q.room.holds, c.set_row.auto.b, c.write_bound-v.auto.out, c.write_free-free.auto.out) };
      has_rows = omega (arith, root, q.nodes_are, q.scanned.words_are);
      few_rows = q.few_rows;
      lengths_fit = omega (arith, q.nodes_are, q.scanned.words_are, q.nodes_fit);
    }

pub returns-clause-out_after : goal.returns-clause-out_after
unfolding sealed
returns-clause-out_after c =
    let q = c.requires in
    let s = c.args.s in
    let ts = tokens_at c.args.b.now c.args.k.from in
    let free = frees c.args.marks.now c.args.k.most in
    let bindings = bindings_in c.args.b.now in
    let root : c.write_bound-v.result ≡ s.variables =
    omega (arith, q.variables_are, c.write_free-free.ensures.value, c.write_bound-v.ensures.value) in
    let room : Room s (length c.write_bound-v.new.out) =
    record { holds = omega (arith, q.room.holds, c.write_bound-v.auto.out, c.write_free-free.auto.out) } in
    let long = length-forest_rows (clause_trees (lists ts)) ∙ rows-lists false ts (whole q.scanned) in
    c.seal.ensures.b_after ∙
    ap₂ (laid s)
    (composed (rows_in s c.args.out.now) _ _ _ _ (map binding_row free) (map binding_row bindings) (clause_rows ts) (row 5 c.args.k.clauses)
    c.write_free-free.result c.write_bound-v.result (total s)
    c.write_free-free.ensures.out_after (c.write_free-free.ensures.value ∙ sym (length-map free binding_row))
    c.write_bound-v.ensures.out_after (c.write_bound-v.ensures.value ∙ ap (λ n. c.write_free-free.result + n) (sym (length-map bindings binding_row)))
    (omega (arith, length-rows_in c.write_bound-v.new.out room, root, q.nodes_are))
    c.set_row.ensures.b_after c.write_clauses.ensures (omega (arith, root, q.nodes_are, q.scanned.words_are, long)))
    (c.write_clauses.auto.out ∙ c.set_row.auto.b ∙ c.write_bound-v.auto.out ∙ c.write_free-free.auto.out)
