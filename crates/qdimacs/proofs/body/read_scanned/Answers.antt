-- The goals of `qdimacs::body::read_scanned`: each test passed keeps the sheet within the format and the output. Assumes nothing.
use mathlib.Core.Bool.{not, ◌&&◌}
use mathlib.Core.List.{List}
use native.Mathlib.Numerals.{add-one}
use Rattle.std.proofs.Common.{◌≡◌, refl, ap, ap₂, ◌∙◌, ℕ, suc, ◌+◌, ◌≤◌, ◌<◌, eqb, length, slice_index_or, arith}
use Rattle.formula.specs.Tree.{binds}
use Rattle.sheet.specs.Format.{Bytes, sheet_length}
use Rattle.sheet.specs.Qdimacs.{Token, named}
use Rattle.rows.specs.Formats.{format_of}
use Rattle.rows.proofs.Limits.{limits}
use Rattle.qdimacs.specs.Inner.Lists.{between, clause_tokens, ends}
use Rattle.qdimacs.specs.Inner.Cursor.{tokens_at}
use Rattle.qdimacs.specs.Inner.Marks.{bindings_in, Marked, Names}
use Rattle.qdimacs.specs.Inner.Body.{Scanned}
use Rattle.qdimacs.specs.declared.body.Body.{Body}
use Rattle.qdimacs.proofs.Whole.{twice, too_many, short, whole-sheet, few_bound, free-marks, free-of-clauses}
use Rattle.qdimacs.proofs.body.read_scanned.Goals as goal

abbrev clauses : Bytes → List Token
clauses b = clause_tokens between (tokens_at b 0)

module _ {b : Bytes} {k : Body} (q : Scanned b k) where
  nodes_are : k.words + 1 ≡ suc (length (clauses b))
  nodes_are = add-one k.words ∙ ap suc (q.words_are ∙ ap length q.clauses_from)

  free_is : {m new : List ℕ} → Marked (bindings_in b) m → Names b k.from m new → (x : ℕ) → 1 ≤ x → x ≤ k.most
      → eqb (slice_index_or new x 0) 2 ≡ (named x (clauses b) && not (binds (bindings_in b) x))
  free_is {new = new} marked names = free-of-clauses b k.from (bindings_in b) new q.clauses_from q.most_is (free-marks marked names)

pub returns-then-bound : goal.returns-then-bound
returns-then-bound c =
    record { answers = λ t w counts. twice w c.args.out.now c.requires.listed.well counts (c.bind-bound.ensures.once_is ∙ ap not c.if-bound.true) }

pub returns-then-most_nodes-k : goal.returns-then-most_nodes-k
returns-then-most_nodes-k c =
    let q = c.requires in
    let once = c.bind-bound.ensures.once_is ∙ ap not c.if-bound.false in
    let many : (format_of c.args.f).most_nodes ≤ length (clauses c.args.b.now) = omega (arith, c.if-most_nodes-k.true, c.most_nodes.ensures, q.words_are, ap length q.clauses_from) in
    record { answers = λ t w counts. too_many w c.args.out.now q.listed.well counts once many }

pub overflow_add-s : goal.overflow_add-s
overflow_add-s c =
    let q = c.requires in
    let few = few_bound c.args.b.now q.listed (c.bind-bound.ensures.once_is ∙ ap not c.if-bound.false) in
    omega (arith, c.count_free-free.ensures.1, q.most_is, c.bind-bound.ensures.count_is, few)

pub sheet_length-requires : goal.sheet_length-requires
sheet_length-requires c =
    let q = c.requires in
    let few = few_bound c.args.b.now q.listed (c.bind-bound.ensures.once_is ∙ ap not c.if-bound.false) in (
      omega (arith, c.count_free-free.ensures.1, q.most_is, c.bind-bound.ensures.count_is, few),
      omega (arith, c.if-most_nodes-k.false, c.most_nodes.ensures, (limits c.args.f).few_nodes),
    )

pub returns-then-out-sheet_length : goal.returns-then-out-sheet_length
returns-then-out-sheet_length c =
    let a = c.args in
    let q = c.requires in
    let once = c.bind-bound.ensures.once_is ∙ ap not c.if-bound.false in
    let variables = ap₂ ◌+◌ c.count_free-free.ensures.0 c.bind-bound.ensures.count_is in
    let long = c.sheet_length.ensures ∙ ap₂ (sheet_length (format_of a.f)) variables (nodes_are q) in
    let few : length (clauses a.b.now) < (format_of a.f).most_nodes = omega (arith, c.if-most_nodes-k.false, c.most_nodes.ensures, q.words_are, ap length q.clauses_from) in
    record {
      answers = λ t w counts. short w a.out.now q.listed.well counts once few c.name.new.marks
          (free_is q c.bind-bound.ensures.marked c.name.ensures) (omega (arith, c.if-out-sheet_length.true, long));
    }

pub write_sheet-requires : goal.write_sheet-requires
unfolding sheet_length
write_sheet-requires c =
    let q = c.requires in
    let limit = limits c.args.f in
    let bound = few_bound c.args.b.now q.listed (c.bind-bound.ensures.once_is ∙ ap not c.if-bound.false) in
    record {
      scanned = q;
      variables_are = ap₂ ◌+◌ c.count_free-free.ensures.0 c.bind-bound.ensures.count_is;
      nodes_are = add-one c.args.k.words;
      room = record { holds = omega (arith, c.if-out-sheet_length.false, c.sheet_length.ensures) };
      nodes_fit = omega (arith, limit.few_rows, c.if-most_nodes-k.false, c.most_nodes.ensures);
      few_rows =
          omega (
            arith,
            limit.few_nodes,
            c.if-most_nodes-k.false,
            c.most_nodes.ensures,
            c.count_free-free.ensures.1,
            q.most_is,
            c.bind-bound.ensures.count_is,
            bound,
          );
    }

pub returns : goal.returns
returns c =
    let a = c.args in
    let q = c.requires in
    let once = c.bind-bound.ensures.once_is ∙ ap not c.if-bound.false in
    let variables = ap₂ ◌+◌ c.count_free-free.ensures.0 c.bind-bound.ensures.count_is in
    let long = c.sheet_length.ensures ∙ ap₂ (sheet_length (format_of a.f)) variables (nodes_are q) in
    let few : length (clauses a.b.now) < (format_of a.f).most_nodes = omega (arith, c.if-most_nodes-k.false, c.most_nodes.ensures, q.words_are, ap length q.clauses_from) in
    record {
      answers = λ t w counts. whole-sheet w a.out.now q.listed.well counts once few c.name.new.marks
          (free_is q c.bind-bound.ensures.marked c.name.ensures)
          (record { format = a.f; variables = c.count_free-free.result + c.bind-bound.result.count; nodes = a.k.words + 1 })
          (omega (arith, c.if-out-sheet_length.false, long)) refl variables (nodes_are q) (q.clauses_are ∙ ap ends q.clauses_from) q.clauses_from
          c.write_sheet.ensures.out_after c.write_sheet.ensures.value;
    }
