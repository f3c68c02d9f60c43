-- The children sifted, as code goes through them.
-- Assumes nothing.
use Rattle.std.specs.Prelude.{◌≡◌, true, false, List, ℕ, ◌+◌, ◌-◌, ◌≤◌, length, take}
use Rattle.formula.specs.Solve.{End, ended, stopped, Run, solve}
use Rattle.formula.specs.Guards.{is_and, conjoined, Kept, clashing, clash, guarded, Guarded as Finding}
use Rattle.sheet.specs.Format.{Bytes, fits}
use Rattle.sheet.specs.Guards.{Guards, guards_answer, guards_output}
use Rattle.rows.specs.Tables.{ROWS}
use Rattle.rows.specs.Layouts.{format_in, size}
use Rattle.rows.specs.Formulas.{prefix_in, matrix_in, formula_in}
use Rattle.rows.specs.declared.Layout.{Layout}
use Rattle.checking.specs.Sheets.{Sheet}
use Rattle.solve.specs.Answers.{solved_answer}
use Rattle.solve.specs.Inner.Running.{answered}
use Rattle.solve.specs.declared.Verdict as verdict
use Rattle.solve.specs.declared.Solved.{Solved}
use Rattle.solve.specs.declared.Solved as solved
use Rattle.guards.specs.declared.selection.Selection.{Selection}
use Rattle.guards.specs.declared.sift.Sieve.{Sieve}
use Rattle.guards.specs.declared.sift.Word.{Word}
use Rattle.guards.specs.declared.sift.Word.TheVariants.{False, True, Stopped}
use Rattle.guards.specs.Inner.Selections.{guards_in, Chosen}

-- the word of an answer
abbrev pub word_for : Solved → Word
word_for (solved.TheVariants.Stopped x n m) = Stopped
word_for (solved.TheVariants.Ended verdict.TheVariants.True n m) = True
word_for (solved.TheVariants.Ended verdict.TheVariants.False n m) = False

-- the word for how a run ended
abbrev pub Says : Word → End → Type 0
Says False e = e ≡ ended false
Says True e = e ≡ ended true
Says Stopped e = (x : ℕ) × (e ≡ stopped x)

-- on to the next child, from one that ends at row end: left out on False, else kept, on Stopped counted
abbrev pub judged_by : Sieve → Word → ℕ → Sieve
judged_by g False end = record { at = end; left = g.left - 1; guards = g.guards; rows = g.rows; stops = g.stops }
judged_by g True end =
    record { at = end; left = g.left - 1; guards = g.guards + 1; rows = g.rows + (end - g.at); stops = g.stops }
judged_by g Stopped end =
    record { at = end; left = g.left - 1; guards = g.guards + 1; rows = g.rows + (end - g.at); stops = g.stops + 1 }

-- a sheet with AND at its root, and room for it in both buffers
pub record Siftable (s : Layout) (b : Bytes) (most : ℕ) : Type 0 where
  pub sheet : Sheet s.format b s
  pub root_is_and : is_and (matrix_in s b) ≡ true
  pub has_room : size s ≤ most

-- the guards that the sifting keeps
abbrev pub clashing_in : Layout → Bytes → ℕ → Kept
clashing_in s b most = clashing (fits (format_in s) most) (formula_in s b)

abbrev pub clashed : Layout → Bytes → ℕ → Finding
clashed s b most = clash (conjoined (prefix_in s b) (clashing_in s b most).those) (clashing_in s b most).stops

-- the first entries of the table: where the children kept begin
abbrev pub starts : List ℕ → Sieve → List ℕ
starts table g = take g.guards table

abbrev pub kept_part : Layout → Sieve → Selection
kept_part s g = record { guards = g.guards; rows = g.rows; rest = s.nodes }

pub record Sifted (s : Layout) (b : Bytes) (most : ℕ) (ends table : List ℕ) (g : Sieve) : Type 0 where
  pub chosen : Chosen s b ends (starts table g) (kept_part s g)
  pub those_are : guards_in s b ends (starts table g) s.nodes ≡ (clashing_in s b most).those
  pub stops_are : g.stops ≡ (clashing_in s b most).stops
  pub fewer_kept : g.guards ≤ ROWS

-- the initial run, what it answers, and what is found after it
abbrev pub initial : Layout → Bytes → ℕ → Run
initial s b most = solve (fits (format_in s) most) (formula_in s b)

abbrev pub Said : Layout → Bytes → ℕ → Solved → Type 0
Said s b most a = solved_answer a ≡ answered (initial s b most)

abbrev pub found : Layout → Bytes → ℕ → Finding
found s b most = guarded (fits (format_in s) most) (formula_in s b)

-- a finding as an answer, and the output that goes with it
pub record Telling : Type 0 where
  pub answer : Guards
  pub output : Bytes

unfoldable pub telling : Layout → Bytes → Finding → Telling
telling s out x = record { answer = guards_answer (format_in s) x; output = guards_output (format_in s) (length out) x }

abbrev pub kept_call : Layout → Bytes → Bytes → ℕ → Telling
kept_call s b out most = telling s out (clashed s b most)

abbrev pub found_call : Layout → Bytes → Bytes → ℕ → Telling
found_call s b out most = telling s out (found s b most)
