-- What the answers of the operations say about truth, a definition for each kind of answer. The contract of every entry point that
-- answers with a verdict, a sheet or a claim has one of them, so that it needs no other page to be relied on.
-- Assumes nothing.
use Rattle.std.specs.Prelude.{◌≡◌, Bool, true, false, ℕ, ◌-◌, length, take, drop, replicate}
use Rattle.std.proofs.Math.Option.{some}
use Rattle.formula.specs.Tree.{Quantifier}
use Rattle.formula.specs.Truth.{truth}
use Rattle.formula.specs.Force.{Told, turn_after, ForceRight}
use Rattle.formula.specs.Trial.{Tried}
use Rattle.formula.specs.Strategy.{winner}
use Rattle.formula.specs.Certificates.{Certified, certain}
use Rattle.formula.specs.Join.{Answer as Known}
use Rattle.sheet.specs.Format.{Bytes, Format}
use Rattle.sheet.specs.Sheet.{formula}
use Rattle.sheet.specs.Check.{Answer, accepted, passes, check_tests}
use Rattle.sheet.specs.Operations.{Written, is_stopped, is_ended, Solving}
use Rattle.sheet.specs.Steps.{Listed}
use Rattle.sheet.specs.Guards.{guards_true, guards_kept, Guarding, Clashing}
use Rattle.sheet.specs.Force.{values_of, Panel, Forcing}
use Rattle.sheet.specs.Qdimacs.{qdimacs}
use Rattle.sheet.specs.Decide.{decide_ended, Deciding}
use Rattle.sheet.specs.Split.{under}
use Rattle.sheet.specs.Join.{RightAnswers}
use Rattle.sheet.specs.Strategy.{Responds, strategy_stopped, strategy_written, strategy_too_long, Winning, StrategySheet, claim_written, Claiming, Claims}

-- the truth of a sheet's formula
abbrev pub truth_of : Format → Bytes → Bool
truth_of F b = truth (formula F b)

-- bytes that Check accepts, of this truth
pub record SheetOf (F : Format) (t : Bool) (b : Bytes) : Type 0 where
  pub is_accepted : passes (check_tests F b) ≡ true
  pub is_truth : truth_of F b ≡ t

-- Tidy, Settle, Expand, Execute, Outer, Reduce, Sort and Clauses: an accepted call's new sheet has the truth of the sheet given
pub record TruthfulSheet (F : Format) (t : Bool) (w : Written) : Type 0 where
  pub on_accepted : (n : ℕ) → w.answer ≡ accepted n → SheetOf F t (take n w.output)

-- the reader of QDIMACS: it has the truth of the text's formula
abbrev pub TruthfulText : Format → Bytes → Written → Type 0
TruthfulText F text w = TruthfulSheet F (truth (qdimacs text)) w

-- a list of steps: the sheet that it ends with has the truth of the sheet given
pub record TruthfulSteps (F : Format) (t : Bool) (l : Listed) : Type 0 where
  pub on_accepted : (n : ℕ) → l.answer ≡ accepted n → SheetOf F t (take n l.first)

-- Trial: its verdict is the truth of the sheet given
pub record TruthfulTrial (t : Bool) (a : Answer Tried) : Type 0 where
  pub on_accepted : (r : Tried) → a ≡ accepted r → r.verdict ≡ t

-- a buffer with a sheet of this truth at its front, and zeros behind it
pub record Holds (F : Format) (t : Bool) (b : Bytes) : Type 0 where
  pub size : ℕ
  pub at_front : SheetOf F t (take size b)
  pub zeros_behind : drop size b ≡ replicate (length b - size) 0

-- Solve and Resume: a verdict is the truth of the sheet given; where a run stops, the first buffer holds a sheet of the same truth
pub record TruthfulSolve (F : Format) (t : Bool) (s : Solving) : Type 0 where
  pub on_ended : (v : Bool) (settles expands : ℕ) → s.answer ≡ is_ended v settles expands → v ≡ t
  pub on_stopped : (x settles expands : ℕ) → s.answer ≡ is_stopped x settles expands → Holds F t s.first

-- Guards: the answer is "true" only for a true sheet. Children are kept only of a false one; their sheet is false, and true without any one
-- of them if no run stopped.
pub record TruthfulGuards (F : Format) (b : Bytes) (g : Guarding) : Type 0 where
  pub on_true : (n m : ℕ) → g.answer ≡ guards_true n m → truth_of F b ≡ true
  pub on_kept : (n stops : ℕ) → g.answer ≡ guards_kept n stops → (truth_of F b ≡ false) × Clashing F b (take n g.output) stops

-- Force: the turn is that of the first row without a value, and where no run stops, a value is named exactly if it wins
pub record TruthfulForce (F : Format) (b vs : Bytes) (w : Forcing) : Type 0 where
  pub whose_turn : (a : Panel) → w.answer ≡ accepted a → a.turn ≡ turn_after (values_of vs) (formula F b)
  pub which_wins : (a : Panel) → w.answer ≡ accepted a → Told a.outcome → ForceRight (values_of vs) (formula F b) a.outcome

-- Response: what is written is a function of x that is as good as any
pub record TruthfulResponse (F : Format) (b : Bytes) (x : ℕ) (w : Written) : Type 0 where
  pub on_accepted : (n : ℕ) → w.answer ≡ accepted n → Responds F b x (take n w.output)

-- Strategy: a verdict is the truth of the sheet given, and what is written beside it is a strategy with which that side wins; where the run
-- stops, the first buffer holds a sheet of the same truth
pub record TruthfulStrategy (F : Format) (b : Bytes) (w : Winning) : Type 0 where
  pub on_written : (v : Bool) (settles expands n : ℕ) → w.answer ≡ strategy_written v settles expands n
      → (v ≡ truth_of F b) × StrategySheet F (winner v) b (take n w.output)
  pub on_too_long : (v : Bool) (settles expands n : ℕ) → w.answer ≡ strategy_too_long v settles expands n → v ≡ truth_of F b
  pub on_stopped : (x settles expands : ℕ) → w.answer ≡ strategy_stopped x settles expands → Holds F (truth_of F b) w.first

-- Claim: what is written has the truth that the side wants exactly if the strategy's sheet wins
pub record TruthfulClaim (F : Format) (b : Bytes) (q : Quantifier) (s : Bytes) (w : Claiming) : Type 0 where
  pub on_written : (n : ℕ) → w.answer ≡ claim_written n → Claims F b q s (take n w.output)

-- Certify: a verdict is the truth of the sheet given, whatever the words are
pub record TruthfulCertify (t : Bool) (a : Answer Certified) : Type 0 where
  pub on_certain : (v : Bool) → a ≡ accepted (certain v) → v ≡ t

-- Decide: a verdict is the truth of the sheet given, however many places and runs there were
pub record TruthfulDecide (t : Bool) (d : Deciding) : Type 0 where
  pub on_ended : (v : Bool) (runs : ℕ) → d.answer ≡ decide_ended v runs → v ≡ t

-- Split: what is written is a sheet of the formula under the values given
abbrev pub TruthfulSplit : Format → Bytes → Bytes → Written → Type 0
TruthfulSplit F b vs w = TruthfulSheet F (truth (under vs (formula F b))) w

-- Join: of right answers, a verdict is the truth of the sheet given
pub record TruthfulJoin (F : Format) (b : Bytes) (k : ℕ) (xs : Bytes) (a : Answer Known) : Type 0 where
  pub on_known : (v : Bool) → a ≡ accepted (some v) → RightAnswers (formula F b) k xs → v ≡ truth_of F b
