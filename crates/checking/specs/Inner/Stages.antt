-- The stages of Check's code: sizes, prefix rows, node rows, tree; each over what the stages before it have shown.
-- Assumes nothing.
use Rattle.std.specs.Prelude.{◌≡◌, Bool, false, not, ◌&&◌, ◌||◌, List, [], ◌∷◌, ℕ, zero, suc, ◌+◌, ◌^◌, ◌<◌, eqb, ltb, leb, length, get_or, take, Result, Ok, Err}
use Rattle.sheet.specs.Format as sheet
use Rattle.sheet.specs.Format.{Bytes, Row, children}
use Rattle.sheet.specs.Check.{Answer, accepted, Sizes, answer, size_tests, member, quantifier_tests, node_tests, tree_test, arguments}
use Rattle.rows.specs.Formats.{format_of}
use Rattle.rows.specs.Layouts.{format_in, total, rows_in, Room}
use Rattle.rows.specs.Formulas.{node_rows_in, layout_of}
use Rattle.rows.specs.Refusals.{refused_by}
use Rattle.rows.specs.declared.Format.{Format}
use Rattle.rows.specs.declared.refusals.Refusal.{Refusal}
use Rattle.rows.specs.declared.Layout.{Layout}
use Rattle.checking.specs.declared.Reached.{Reached}

-- the rows have their place in len bytes, and the debt of the walk over them fits 64 bits
pub record Sized (s : Layout) (len : ℕ) : Type 0 where
  pub room : Room s len
  pub few_rows : total s < 2 ^ 16

-- what Check returns of a layout
abbrev pub sizes : Layout → Sizes
sizes s = record { variables = s.variables; nodes = s.nodes }

-- the answer of a stage that passes a sheet of a layout on, or refuses it
abbrev pub stage_answer : Layout → Result (Unit {0}) Refusal → Answer Sizes
stage_answer s (Ok passed) = accepted (sizes s)
stage_answer s (Err e) = refused_by e

-- the quantifier rows, and the numbers that they bind
abbrev pub prefix_rows_in : Layout → Bytes → List Row
prefix_rows_in s b = take s.variables (rows_in s b)

abbrev pub bound_in : Layout → Bytes → List ℕ
bound_in s b = arguments (prefix_rows_in s b)

-- the answers of the stages
abbrev pub size_answer : Format → Bytes → Answer Sizes
size_answer f b = answer (size_tests (format_of f) b) (sizes (layout_of f b))

abbrev pub prefix_answer : Layout → Bytes → Answer Sizes
prefix_answer s b = answer (quantifier_tests (format_in s) 0 [] (prefix_rows_in s b)) (sizes s)

abbrev pub node_answer : Layout → Bytes → Answer Sizes
node_answer s b = answer (node_tests s.variables (bound_in s b) (node_rows_in s b)) (sizes s)

abbrev pub tree_answer : Layout → Bytes → Answer Sizes
tree_answer s b = answer (tree_test 1 s.variables (node_rows_in s b) ∷ []) (sizes s)

-- the tests in Check's own words: a size outside its limits; kinds 1 and 2; a quantifier number outside 1 to the most; kinds 3 to 6
abbrev pub outside : sheet.Format → ℕ → ℕ → Bool
outside F v n = ltb F.most_variables v || eqb n 0 || ltb F.most_nodes n

abbrev pub quantifier : ℕ → Bool
quantifier kind = eqb kind 1 || eqb kind 2

abbrev pub misnumbered : ℕ → ℕ → Bool
misnumbered most x = eqb x 0 || ltb most x

abbrev pub node : ℕ → Bool
node kind = leb 3 kind && leb kind 6

-- the table's entry at a number is whether that number is bound; no number past the table is bound
pub record Marks (table : List Bool) (bound : List ℕ) : Type 0 where
  pub entries : length table ≡ 1025
  pub entry : (x : ℕ) → get_or table x false ≡ member x bound

-- a literal whose number the table doesn't mark
abbrev pub unbound : List Bool → Row → Bool
unbound table r = leb r.kind 4 && not (get_or table r.argument false)

-- The debt walk: each row pays one node and adds its children, until nothing is owed or the rows run out. It ends with the row
-- reached and the debt left.
unfoldable pub pay : ℕ → ℕ → List Row → Reached
pay zero i [] = record { row = i; owed = zero }
pay zero i (r ∷ rs) = record { row = i; owed = zero }
pay (suc owed) i [] = record { row = i; owed = suc owed }
pay (suc owed) i (r ∷ rs) = pay (owed + children r) (suc i) rs
