-- Lists of Settle, Expand, Execute and Outer calls, the sheet held, and what demand 3 says of them ("Settling and expanding").
-- Assumes nothing.
use Rattle.std.specs.Prelude.{◌≡◌, Bool, true, false, List, [], ◌∷◌, ℕ, suc, ◌+◌, take}
use Rattle.std.proofs.Math.Option.{Option, some}
use Rattle.formula.specs.Truth.{truth}
use Rattle.formula.specs.Tidy.{is_tidy, verdict}
use Rattle.sheet.specs.Format.{Bytes, Format, variables}
use Rattle.sheet.specs.Sheet.{formula}
use Rattle.sheet.specs.Check.{Answer, refused, accepted, Sizes, check}
use Rattle.sheet.specs.Operations.{Written, settle_call, expand_call, execute_call}
use Rattle.sheet.specs.Outer.{copies, outer_call}

-- A call: the operation, any number as x, for Execute any number as ceiling, and an output of any length and contents. A quote writes
-- nothing and is no call here.
pub data Call : Type 0 where
  settle : ℕ → Bytes → Call
  expand : ℕ → Bytes → Call
  execute : ℕ → ℕ → Bytes → Call
  outer : ℕ → Bytes → Call

unfoldable pub perform : Format → Call → Bytes → Written
perform F (settle x out) b = settle_call F b x out
perform F (expand x out) b = expand_call F b x out
perform F (execute x ceiling out) b = execute_call F b x ceiling out
perform F (outer x out) b = outer_call F b x out

-- the copies that an accepted call makes
unfoldable pub copies_by : Format → Call → Bytes → ℕ
copies_by F (settle x out) b = 0
copies_by F (expand x out) b = 0
copies_by F (execute x ceiling out) b = 0
copies_by F (outer x out) b = copies F b x

-- the sheet held and the calls accepted so far
pub record Held : Type 0 where
  pub sheet : Bytes
  pub accepted_calls : ℕ

-- accepted, the sheet held is the front of the output, as long as the length returned; refused, it stays
unfoldable pub held_after : Held → Answer ℕ → Bytes → Held
held_after h (refused n i) out = h
held_after h (accepted n) out = record { sheet = take n out; accepted_calls = suc h.accepted_calls }

unfoldable pub perform_all : Format → List Call → Held → Held
perform_all F [] h = h
perform_all F (c ∷ cs) h =
    let w = perform F c h.sheet in
    perform_all F cs (held_after h w.answer w.output)

-- the sheet held at the end of a list of calls that starts from b
unfoldable pub held : Format → Bytes → List Call → Held
held F b cs = perform_all F cs (record { sheet = b; accepted_calls = 0 })

-- the copies made by a list of calls: the sum over its accepted calls
unfoldable pub copies_after : Answer ℕ → ℕ → ℕ
copies_after (refused n i) k = 0
copies_after (accepted n) k = k

unfoldable pub copies_all : Format → List Call → Held → ℕ
copies_all F [] h = 0
copies_all F (c ∷ cs) h =
    let w = perform F c h.sheet in
    copies_after w.answer (copies_by F c h.sheet) + copies_all F cs (held_after h w.answer w.output)

unfoldable pub copies_made : Format → Bytes → List Call → ℕ
copies_made F b cs = copies_all F cs (record { sheet = b; accepted_calls = 0 })

-- no call of the list is one block out: Settle, Expand and Execute alone, which make no copies (`no_copies`)
unfoldable pub none_outer : List Call → Bool
none_outer [] = true
none_outer (settle x out ∷ cs) = none_outer cs
none_outer (expand x out ∷ cs) = none_outer cs
none_outer (execute x ceiling out ∷ cs) = none_outer cs
none_outer (outer x out ∷ cs) = false

-- the verdict of a sheet, if it has one
abbrev pub sheet_verdict : Format → Bytes → Option Bool
sheet_verdict F b = verdict (formula F b).matrix

-- What demand 3 says of a first sheet and a list of calls.
pub record Demand3 (F : Format) (b : Bytes) (cs : List Call) : Type 0 where
  -- the sheet held is accepted and tidy, and true exactly when the first was
  pub is_accepted : (s : Sizes) × (check F (held F b cs).sheet ≡ accepted s)
  pub stays_tidy : is_tidy (formula F (held F b cs).sheet).matrix ≡ true
  pub same_truth : truth (formula F (held F b cs).sheet) ≡ truth (formula F b)
  -- accepted calls + variables left = variables at the start + copies made
  pub counts : (held F b cs).accepted_calls + variables F (held F b cs).sheet ≡ variables F b + copies_made F b cs
  -- no variable left means a verdict
  pub decided : variables F (held F b cs).sheet ≡ 0 → (v : Bool) × (sheet_verdict F (held F b cs).sheet ≡ some v)
  -- a verdict is the first sheet's truth value
  pub is_truth : (v : Bool) → sheet_verdict F (held F b cs).sheet ≡ some v → v ≡ truth (formula F b)
  -- so any two lists that reach a verdict agree
  pub agree : (others : List Call) (v w : Bool) → sheet_verdict F (held F b cs).sheet ≡ some v
      → sheet_verdict F (held F b others).sheet ≡ some w → v ≡ w

-- demand 3, of the sheets of a format
abbrev pub Demand3Of : Format → Type 0
Demand3Of F = (b : Bytes) (s : Sizes) → check F b ≡ accepted s → is_tidy (formula F b).matrix ≡ true → (cs : List Call) → Demand3 F b cs
