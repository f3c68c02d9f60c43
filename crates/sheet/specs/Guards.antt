-- Guards (N10): its answer and the final bytes of the output and of both work buffers, and what is relied on of them.
-- Assumes nothing.
use Rattle.std.specs.Prelude.{◌≡◌, true, false, not, List, [], ◌∷◌, ◌++◌, ℕ, ◌<◌, min, ltb, length, replicate}
use Rattle.formula.specs.Tree.{count}
use Rattle.formula.specs.Truth.{truth}
use Rattle.formula.specs.Guards.{is_and, guards, Guarded, holds, stuck, clash, guarded, weakened}
use Rattle.sheet.specs.Format.{Bytes, Format, fits}
use Rattle.sheet.specs.Sheet.{formula, sheet}
use Rattle.sheet.specs.Refusals.{no_room, root_not_and}
use Rattle.sheet.specs.Check.{Answer, refused, accepted, Test, test, answer, passes, check_tests}
use Rattle.sheet.specs.Operations.{padded, Solved, is_stopped, is_ended}
use Rattle.sheet.specs.Trace.{room}

-- refused with number and place; the initial run's own answer, stopped at a variable or true, with the number settled and the number
-- expanded; or the length of the sheet of the kept children and how many runs stopped
pub data Guards : Type 0 where
  guards_refused : ℕ → ℕ → Guards
  guards_stopped : ℕ → ℕ → ℕ → Guards
  guards_true : ℕ → ℕ → Guards
  guards_kept : ℕ → ℕ → Guards

pub record Guarding : Type 0 where
  pub answer : Guards
  pub output : Bytes
  pub first : Bytes
  pub second : Bytes

-- 1 to 8; 23 the root isn't AND; 13 output or a work buffer shorter than the sheet
unfoldable pub guards_tests : Format → Bytes → ℕ → List Test
guards_tests F b len =
    check_tests F b ++ (test (not (is_and (formula F b).matrix)) root_not_and 0 ∷ test (ltb len (length b)) no_room 0 ∷ [])

unfoldable pub guards_answer : Format → Guarded → Guards
guards_answer F (holds s) = guards_true s.settles s.expands
guards_answer F (stuck x s) = guards_stopped x s.settles s.expands
guards_answer F (clash g n) = guards_kept (length (sheet F g)) n

-- the kept children's sheet with zeros behind it; all zeros where the initial run is the answer
unfoldable pub guards_output : Format → ℕ → Guarded → Bytes
guards_output F len (holds s) = replicate len 0
guards_output F len (stuck x s) = replicate len 0
guards_output F len (clash g n) = padded len (sheet F g)

-- the work buffers end as zeros; refused, no byte changes
unfoldable pub guarding : Format → Bytes → Bytes → Bytes → Answer Guarded → Guarding
guarding F out first second (refused n i) =
    record { answer = guards_refused n i; output = out; first = first; second = second }
guarding F out first second (accepted g) =
    record {
      answer = guards_answer F g;
      output = guards_output F (length out) g;
      first = replicate (length first) 0;
      second = replicate (length second) 0;
    }

-- the shortest of the three buffers
abbrev pub least_room : Bytes → Bytes → Bytes → ℕ
least_room out first second = min (length out) (room first second)

unfoldable pub guards_call : Format → Bytes → Bytes → Bytes → Bytes → Guarding
guards_call F b out first second =
    guarding F out first second
    (answer (guards_tests F b (least_room out first second)) (guarded (fits F (room first second)) (formula F b)))

-- An answer of Guards beside that of Solve on the same sheet with the same work buffers: if it is stopped or true, Solve's is the same; if
-- children are kept, Solve's is false.
abbrev pub Starts : Guards → Solved → Type 0
Starts (guards_refused n i) s = Unit {0}
Starts (guards_stopped x n m) s = s ≡ is_stopped x n m
Starts (guards_true n m) s = s ≡ is_ended true n m
Starts (guards_kept len stops) s = (n m : ℕ) × (s ≡ is_ended false n m)

-- What the sheet b' of kept children shows of a sheet b: it is accepted, has the old prefix, its root is AND, and it is false; where no
-- run stopped, removing any one child makes it true.
pub record Clashing (F : Format) (b b' : Bytes) (stops : ℕ) : Type 0 where
  pub is_accepted : passes (check_tests F b') ≡ true
  pub same_prefix : (formula F b').prefix ≡ (formula F b).prefix
  pub root_is_and : is_and (formula F b').matrix ≡ true
  pub is_false : truth (formula F b') ≡ false
  pub each_needed : stops ≡ 0 → (i : ℕ) → i < count (guards (formula F b').matrix) → truth (weakened i (formula F b')) ≡ true
